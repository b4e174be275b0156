-- What the writing of a file that is closed leaves of what is handed.
use Rattle.std.specs.Prelude.{◌≡◌, ◌⊎◌, Result, Ok, Err}
use Rattle.std.specs.Io.KnownBytes.{Keeps}
use Rattle.icn_value.specs.Store.{OpenedFile, Outside}
use Rattle.icn_defs.specs.Interruptions.{HoldsMap, TellsMap}
use Rattle.icn_defs.specs.OpenFiles.{written_out}
use Rattle.icn_vars.specs.declared.outcome.Halt.{Halt}
use Rattle.icn_vars.specs.declared.outcome.Halt.TheVariants.{Error, Ends, ReadFault, WriteFault, FileFault, NoMemory}
use Rattle.icn_streams.specs.Handed.{CallStreams, FilesFail, KeepsStoreCounts, LeavesSink, WantsMemory, WritingFails, faults_of}
use Rattle.icn_streams.specs.Settling.{HoldsBoth}
use Rattle.icn_filefn.specs.WrittenFiles.{BreaksWriting}

-- the file was written, if it was open to be written, and nothing else was done; at most, both outputs were settled
pub record WritesClosed (file : OpenedFile) (before after : CallStreams) : Type 0 where
  pub written : (was : Outside) → TellsMap before.files.held was.files
      → HoldsMap before.files.held after.files.held (written_out file was).files
  pub counts : KeepsStoreCounts before.files after.files
  pub left : after.left ≡ before.left
  pub faults : faults_of after.counts ≡ faults_of before.counts
  pub calls : after.counts.calls ≡ before.counts.calls
  pub output : LeavesSink before.output after.output
  pub errors : LeavesSink before.errors after.errors

-- it was broken off as the file was written, and nothing else was done
pub record BreaksClosing (file : OpenedFile) (before after : CallStreams) : Type 0 where
  pub broken : (was : Outside) → TellsMap before.files.held was.files
      → BreaksWriting was (written_out file was) before.files.held after.files.held
  pub left : after.left ≡ before.left
  pub calls : after.counts.calls ≡ before.counts.calls
  pub output : Keeps before.output.held after.output.held
  pub errors : Keeps before.errors.held after.errors.held

-- What the writing of a file that is closed leaves, by what was answered: outputs are settled before it.
abbrev pub ClosesBy : {A : Type 0} → OpenedFile → CallStreams → CallStreams → Result A Halt → Type 0
ClosesBy file before after (Ok done) = WritesClosed file before after
ClosesBy file before after (Err (Error number offending)) = ⊥
ClosesBy file before after (Err (Ends status)) = ⊥
ClosesBy file before after (Err ReadFault) = ⊥
ClosesBy file before after (Err WriteFault) = HoldsBoth before after × WritingFails before after
ClosesBy file before after (Err FileFault) = BreaksClosing file before after × FilesFail before after
ClosesBy file before after (Err NoMemory) =
    (HoldsBoth before after ⊎ BreaksClosing file before after) × WantsMemory before after
