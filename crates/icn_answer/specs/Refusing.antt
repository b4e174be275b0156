-- How the line of an answer that no program ran for is put, and which answer is given then.
use Rattle.std.specs.Prelude.{◌≡◌, ℕ, List}
use Rattle.icn_host.specs.declared.fault.Fault.TheVariants as Faults
use Rattle.icn_host.specs.Sinks.{SinkState}
use Rattle.icn_host.specs.Puts.{FailsPutting, LeadsBy, Puts, PutsAll}
use Rattle.icn_answer.specs.declared.answer.Answer.{Answer}
use Rattle.icn_answer.specs.declared.answer.Answer.TheVariants.{Wrote, Ran, Refused, Command, Missing, BadUcode, BadImage, FileFault, ReadFault, WriteFault, NoMemory}
use Rattle.icn_answer.specs.Answers.{IsFault}
use Rattle.icn_answer.specs.Lines.{fault_line, line_of}

-- a fault's own line was put, as far as the error output took it; an answer that has none put nothing
abbrev pub PutsOwn : Answer → SinkState → SinkState → Type 0
PutsOwn FileFault before after = Puts before after (fault_line FileFault)
PutsOwn ReadFault before after = Puts before after (fault_line ReadFault)
PutsOwn NoMemory before after = Puts before after (fault_line NoMemory)
PutsOwn WriteFault before after = after ≡ before
PutsOwn Wrote before after = after ≡ before
PutsOwn (Ran ending) before after = after ≡ before
PutsOwn (Refused file line rule) before after = after ≡ before
PutsOwn (Command kind) before after = after ≡ before
PutsOwn (Missing other) before after = after ≡ before
PutsOwn (BadUcode other rule) before after = after ≡ before
PutsOwn (BadImage rule) before after = after ≡ before

-- the line was put, and the answer stands; or a fault was answered before; or the line made it one
pub data PutsItsLine (usage name : List ℕ) (answer : Answer) (before after : SinkState) : Answer
    → Type 0 where
  put : (IsFault answer → ⊥) → PutsAll before after (line_of usage name answer)
      → PutsItsLine usage name answer before after answer
  own : IsFault answer → PutsOwn answer before after → PutsItsLine usage name answer before after answer
  write_fault : (IsFault answer → ⊥) → FailsPutting before after (line_of usage name answer)
      → PutsItsLine usage name answer before after WriteFault
  want : (IsFault answer → ⊥) → (between : SinkState)
      → LeadsBy Faults.NoMemory before between (line_of usage name answer) → PutsOwn NoMemory between after
      → PutsItsLine usage name answer before after NoMemory
