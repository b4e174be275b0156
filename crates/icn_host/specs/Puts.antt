-- How a line is put on a sink: whole, or in part, and then one count of the sink rose once.
use Rattle.std.specs.Prelude.{◌≡◌, ◌⊎◌, ℕ, List}
use Rattle.icn_host.specs.Counts.{one_more}
use Rattle.icn_host.specs.Sinks.{Gains, GainsPart, SinkState}
use Rattle.icn_host.specs.declared.fault.Fault.{Fault}
use Rattle.icn_host.specs.declared.fault.Fault.TheVariants.{Failed, NoMemory}

-- all of a line was put, and no count rose
pub record PutsAll (before after : SinkState) (line : List ℕ) : Type 0 where
  pub gains : Gains before.held after.held line
  pub faults : after.faults ≡ before.faults
  pub wants : after.wants ≡ before.wants

-- a part of a line was put, since the sink failed
pub record FailsPutting (before after : SinkState) (line : List ℕ) : Type 0 where
  pub part : GainsPart before.held after.held line
  pub faults : after.faults ≡ one_more before.faults
  pub wants : after.wants ≡ before.wants

-- a part of a line was put, since the sink wanted memory
pub record RunsShort (before after : SinkState) (line : List ℕ) : Type 0 where
  pub part : GainsPart before.held after.held line
  pub faults : after.faults ≡ before.faults
  pub wants : after.wants ≡ one_more before.wants

-- a part of a line was put, and this is the cause
abbrev pub StopsBy : Fault → SinkState → SinkState → List ℕ → Type 0
StopsBy Failed before after line = FailsPutting before after line
StopsBy NoMemory before after line = RunsShort before after line

-- a part of a line was put, whatever the cause
pub data PutsFirstPart (before after : SinkState) (line : List ℕ) : Type 0 where
  broken : FailsPutting before after line → PutsFirstPart before after line
  wanted : RunsShort before after line → PutsFirstPart before after line

-- how a line was put: all of it, or a part
pub data Puts (before after : SinkState) (line : List ℕ) : Type 0 where
  all : PutsAll before after line → Puts before after line
  part : PutsFirstPart before after line → Puts before after line

-- a line was not begun, or a part of it was put
abbrev pub Leads : SinkState → SinkState → List ℕ → Type 0
Leads before after line = (after ≡ before) ⊎ PutsFirstPart before after line

-- a line was not put whole, and this is the cause; where memory was wanting, it may be that the line was not begun
abbrev pub LeadsBy : Fault → SinkState → SinkState → List ℕ → Type 0
LeadsBy Failed before after line = FailsPutting before after line
LeadsBy NoMemory before after line = (after ≡ before) ⊎ RunsShort before after line
