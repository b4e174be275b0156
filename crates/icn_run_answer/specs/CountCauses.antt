-- Which counts of the outside rose in a call, by its answer.
use Rattle.std.specs.Prelude.{◌≡◌, ◌⊎◌, ℕ}
use Rattle.std.specs.Io.KnownBytes.{Keeps}
use Rattle.icn_host.specs.Counts.{HasCause}
use Rattle.icn_host.specs.Sinks.{SinkState}
use Rattle.icn_streams.specs.Handed.{CallStreams, FailsOnce, KeepsAllCounts, KeepsFaultCounts, WantsMemory, WantsOnce}
use Rattle.icn_machine.specs.Stepping.{InputFails, OutputFails, StoreFails}
use Rattle.icn_answer.specs.declared.answer.Answer.{Answer}
use Rattle.icn_answer.specs.declared.answer.Answer.TheVariants.{Wrote, Ran, Refused, Command, Missing, BadUcode, BadImage, FileFault, ReadFault, WriteFault, NoMemory}
use Rattle.icn_answer.specs.Refusing.{PutsOwn}

-- Where it is answered that the store of files, the input or an output failed, or that memory was wanting, that count rose once, and no other; where it
-- is not, none rose. Want of memory may have no count.
abbrev pub IsFirstFaultOf : Answer → CallStreams → CallStreams → Type 0
IsFirstFaultOf Wrote before after = KeepsAllCounts before after
IsFirstFaultOf (Ran ending) before after = KeepsAllCounts before after
IsFirstFaultOf (Refused file line rule) before after = KeepsAllCounts before after
IsFirstFaultOf (Command kind) before after = KeepsAllCounts before after
IsFirstFaultOf (Missing name) before after = KeepsAllCounts before after
IsFirstFaultOf (BadUcode name rule) before after = KeepsAllCounts before after
IsFirstFaultOf (BadImage rule) before after = KeepsAllCounts before after
IsFirstFaultOf FileFault before after = StoreFails before after
IsFirstFaultOf ReadFault before after = InputFails before after
IsFirstFaultOf WriteFault before after = OutputFails before after
IsFirstFaultOf NoMemory before after = WantsMemory before after

-- An output was settled as far as it could be: it holds what it held, and failed or wanted memory once at most.
pub record TriesToSettle (before after : SinkState) : Type 0 where
  pub held : Keeps before.held after.held
  pub counts : KeepsFaultCounts before after ⊎ FailsOnce before after ⊎ WantsOnce before after

-- nothing of an output is pending, or one of its counts rose, once
abbrev pub IsSettledOrFailed : ℕ → SinkState → SinkState → Type 0
IsSettledOrFailed pending before after = (pending ≡ 0) ⊎ FailsOnce before after ⊎ WantsOnce before after

-- What becomes of the output behind the first fault: where memory was wanting, it is settled as far as it can be, so that what the program has put
-- stands before the fault's own line. Behind any other answer it stays as it is.
abbrev pub SettlesBehind : Answer → SinkState → SinkState → Type 0
SettlesBehind Wrote before after = after ≡ before
SettlesBehind (Ran ending) before after = after ≡ before
SettlesBehind (Refused file line rule) before after = after ≡ before
SettlesBehind (Command kind) before after = after ≡ before
SettlesBehind (Missing name) before after = after ≡ before
SettlesBehind (BadUcode name rule) before after = after ≡ before
SettlesBehind (BadImage rule) before after = after ≡ before
SettlesBehind FileFault before after = after ≡ before
SettlesBehind ReadFault before after = after ≡ before
SettlesBehind WriteFault before after = after ≡ before
SettlesBehind NoMemory before after = TriesToSettle before after

-- What comes behind the first fault: the output may be settled, and the fault's own line is put. Nothing is read or written.
pub record EndsBehind (answer : Answer) (between after : CallStreams) : Type 0 where
  pub files : after.files ≡ between.files
  pub left : after.left ≡ between.left
  pub counts : after.counts ≡ between.counts
  pub output : SettlesBehind answer between.output after.output
  pub own_line : PutsOwn answer between.errors after.errors

-- The first fault ends a call.
pub record RunEndsAtFirst (answer : Answer) (before after : CallStreams) : Type 0 where
  pub between : CallStreams
  pub first : IsFirstFaultOf answer before between
  pub behind : EndsBehind answer between after

-- the first fault ends a call; where it is answered that a file was not there, the count of absences rose
pub record EndsAtFirst (answer : Answer) (absent : Type 0) (before after : CallStreams) : Type 0 where
  pub absence : HasCause before.files.counts.absences after.files.counts.absences absent
  pub first : RunEndsAtFirst answer before after
