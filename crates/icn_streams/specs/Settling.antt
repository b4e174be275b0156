-- How both outputs are settled.
use Rattle.std.specs.Prelude.{◌≡◌, ℕ, List, Some, Result, Ok, Err, ⊤}
use Rattle.std.specs.Io.KnownBytes.{Keeps}
use Rattle.icn_host.specs.Sinks.{SinkState}
use Rattle.icn_value.specs.Values.{Value, Std, Input}
use Rattle.icn_defs.specs.Arguments.{arg_or, file_of}
use Rattle.icn_vars.specs.declared.outcome.Halt.{Halt}
use Rattle.icn_vars.specs.declared.outcome.Halt.TheVariants.{Error, Ends, ReadFault, WriteFault, FileFault, NoMemory}
use Rattle.icn_streams.specs.Handed.{CallStreams, FailsOnce, LeavesSink, LeavesStreams, WantsMemory, WantsOnce, WritingFails}

-- one sink was settled; or it failed or wanted memory, once, and holds what it held
abbrev pub SettlesSink : {A : Type 0} → SinkState → SinkState → Result A Halt → Type 0
SettlesSink before after (Ok done) = LeavesSink before after
SettlesSink before after (Err (Error number offending)) = ⊥
SettlesSink before after (Err (Ends status)) = ⊥
SettlesSink before after (Err ReadFault) = ⊥
SettlesSink before after (Err WriteFault) = Keeps before.held after.held × FailsOnce before after
SettlesSink before after (Err FileFault) = ⊥
SettlesSink before after (Err NoMemory) = Keeps before.held after.held × WantsOnce before after

-- the files and the input were left alone, and both outputs hold what they held
pub record HoldsBoth (before after : CallStreams) : Type 0 where
  pub files : after.files ≡ before.files
  pub left : after.left ≡ before.left
  pub calls : after.counts.calls ≡ before.counts.calls
  pub output : Keeps before.output.held after.output.held
  pub errors : Keeps before.errors.held after.errors.held

-- both outputs were settled; or one of them failed or wanted memory, once, and both hold what they held
abbrev pub Settles : {A : Type 0} → CallStreams → CallStreams → Result A Halt → Type 0
Settles before after (Ok done) = LeavesStreams before after
Settles before after (Err (Error number offending)) = ⊥
Settles before after (Err (Ends status)) = ⊥
Settles before after (Err ReadFault) = ⊥
Settles before after (Err WriteFault) = HoldsBoth before after × WritingFails before after
Settles before after (Err FileFault) = ⊥
Settles before after (Err NoMemory) = HoldsBoth before after × WantsMemory before after

-- Nothing is pending behind a row that read: only where an output failed or memory was wanting may some be.
abbrev pub IsSettled : {A : Type 0} → Result A Halt → ℕ → ℕ → Type 0
IsSettled (Ok outcome) output errors = (output ≡ 0) × (errors ≡ 0)
IsSettled (Err (Error number offending)) output errors = (output ≡ 0) × (errors ≡ 0)
IsSettled (Err (Ends status)) output errors = (output ≡ 0) × (errors ≡ 0)
IsSettled (Err ReadFault) output errors = (output ≡ 0) × (errors ≡ 0)
IsSettled (Err WriteFault) output errors = ⊤
IsSettled (Err FileFault) output errors = (output ≡ 0) × (errors ≡ 0)
IsSettled (Err NoMemory) output errors = ⊤

-- what a row is to read is the input, which is read where no file is named
abbrev pub ReadsInput : List Value → Type 0
ReadsInput args = file_of (arg_or (Std Input) args 0) ≡ Some Input

-- The same of a row that reads at its end alone: an error may come before it reads.
abbrev pub IsSettledWhereRead : {A : Type 0} → Result A Halt → ℕ → ℕ → Type 0
IsSettledWhereRead (Ok outcome) output errors = (output ≡ 0) × (errors ≡ 0)
IsSettledWhereRead (Err (Error number offending)) output errors = ⊤
IsSettledWhereRead (Err (Ends status)) output errors = ⊤
IsSettledWhereRead (Err ReadFault) output errors = (output ≡ 0) × (errors ≡ 0)
IsSettledWhereRead (Err WriteFault) output errors = ⊤
IsSettledWhereRead (Err FileFault) output errors = (output ≡ 0) × (errors ≡ 0)
IsSettledWhereRead (Err NoMemory) output errors = ⊤
