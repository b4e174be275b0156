-- What the input and the outputs tell that a call is handed, and how they follow the outside.
use Rattle.std.specs.Prelude.{◌≡◌, ◌≤◌, ℕ, List, Option, Some}
use Rattle.std.specs.Io.KnownBytes.{Keeps}
use Rattle.icn_host.specs.Counts.{one_more}
use Rattle.icn_host.specs.FileMaps.{StoreState}
use Rattle.icn_host.specs.Sinks.{SinkState}
use Rattle.icn_host.specs.Sources.{SourceCounts}
use Rattle.icn_value.specs.Store.{Event, Outside}
use Rattle.icn_defs.specs.Interruptions.{ExtendsBy, StandsBehind, Streams, TellsMap}

-- the files; what is left of the input, where it tells that, and how often it has failed, wanted memory, and was called; the
-- output, and the error output
pub record CallStreams : Type 0 where
  pub files : StoreState
  pub left : Option (List ℕ)
  pub counts : SourceCounts
  pub output : SinkState
  pub errors : SinkState

-- these files, an input that has this left, and these counts, and both outputs
abbrev pub call_streams : StoreState → Option (List ℕ) → SourceCounts → SinkState → SinkState → CallStreams
call_streams files left counts output errors =
    record { files = files; left = left; counts = counts; output = output; errors = errors }

-- what they tell of what they hold
abbrev pub streams_of : CallStreams → Streams
streams_of handed = record {
  files = handed.files.held;
  left = handed.left;
  calls = handed.counts.calls;
  output = handed.output.held;
  errors = handed.errors.held;
}

-- how often an input has failed, and has wanted memory
pub record FaultCounts : Type 0 where
  pub faults : ℕ
  pub wants : ℕ

-- these counts of an input, apart from how often it was called
abbrev pub faults_of : SourceCounts → FaultCounts
faults_of counts = record { faults = counts.faults; wants = counts.wants }

-- once more it has failed, or has wanted memory
abbrev pub failed_once : FaultCounts → FaultCounts
failed_once counts = record counts { faults = one_more counts.faults }

abbrev pub wanted_once : FaultCounts → FaultCounts
wanted_once counts = record counts { wants = one_more counts.wants }

-- what is handed tells what the outside is: what is left of the input, and what the files hold
pub record TellsOutside (handed : CallStreams) (outside : Outside) : Type 0 where
  pub left : handed.left ≡ Some outside.left
  pub files : TellsMap handed.files.held outside.files

-- The outside that was has become the one that is now by some events, and the input and the outputs stand as
-- these leave them.
pub record Follows (before after : CallStreams) (was now : Outside) : Type 0 where
  pub done : List Event
  pub extends : ExtendsBy was done now
  pub stands : StandsBehind was done (streams_of before) (streams_of after)

-- Counts

-- a sink has neither failed nor wanted memory
pub record KeepsFaultCounts (before after : SinkState) : Type 0 where
  pub faults : after.faults ≡ before.faults
  pub wants : after.wants ≡ before.wants

-- a sink has failed, once
pub record FailsOnce (before after : SinkState) : Type 0 where
  pub faults : after.faults ≡ one_more before.faults
  pub wants : after.wants ≡ before.wants

-- a sink has wanted memory, once
pub record WantsOnce (before after : SinkState) : Type 0 where
  pub faults : after.faults ≡ before.faults
  pub wants : after.wants ≡ one_more before.wants

-- a store has neither failed nor wanted memory; a file may not have been there
pub record KeepsStoreCounts (before after : StoreState) : Type 0 where
  pub faults : after.counts.faults ≡ before.counts.faults
  pub wants : after.counts.wants ≡ before.counts.wants
  pub absences : before.counts.absences ≤ after.counts.absences

-- a store has failed, once
pub record StoreFailsOnce (before after : StoreState) : Type 0 where
  pub faults : after.counts.faults ≡ one_more before.counts.faults
  pub wants : after.counts.wants ≡ before.counts.wants
  pub absences : before.counts.absences ≤ after.counts.absences

-- a store has wanted memory, once
pub record StoreWantsOnce (before after : StoreState) : Type 0 where
  pub faults : after.counts.faults ≡ before.counts.faults
  pub wants : after.counts.wants ≡ one_more before.counts.wants
  pub absences : before.counts.absences ≤ after.counts.absences

-- nothing has failed or wanted memory
pub record KeepsAllCounts (before after : CallStreams) : Type 0 where
  pub files : KeepsStoreCounts before.files after.files
  pub faults : faults_of after.counts ≡ faults_of before.counts
  pub output : KeepsFaultCounts before.output after.output
  pub errors : KeepsFaultCounts before.errors after.errors

-- a sink holds what it held, and has neither failed nor wanted memory: at most, what was pending was settled
pub record LeavesSink (before after : SinkState) : Type 0 where
  pub held : Keeps before.held after.held
  pub counts : KeepsFaultCounts before after

-- nothing was read, written, put or failed
pub record LeavesStreams (before after : CallStreams) : Type 0 where
  pub files : after.files ≡ before.files
  pub left : after.left ≡ before.left
  pub faults : faults_of after.counts ≡ faults_of before.counts
  pub calls : after.counts.calls ≡ before.counts.calls
  pub output : LeavesSink before.output after.output
  pub errors : LeavesSink before.errors after.errors

-- the input has failed, once, and nothing was put or written
pub record ReadingFails (before after : CallStreams) : Type 0 where
  pub files : after.files ≡ before.files
  pub faults : faults_of after.counts ≡ failed_once (faults_of before.counts)
  pub output : LeavesSink before.output after.output
  pub errors : LeavesSink before.errors after.errors

-- the store of files has failed, once; the input was left alone, and nothing was put
pub record FilesFail (before after : CallStreams) : Type 0 where
  pub files : StoreFailsOnce before.files after.files
  pub left : after.left ≡ before.left
  pub faults : faults_of after.counts ≡ faults_of before.counts
  pub calls : after.counts.calls ≡ before.counts.calls
  pub output : LeavesSink before.output after.output
  pub errors : LeavesSink before.errors after.errors

-- the files and the input were left alone, and one of the outputs has failed, once
pub data WritingFails (before after : CallStreams) : Type 0 where
  output_fails : after.files ≡ before.files → after.left ≡ before.left
      → faults_of after.counts ≡ faults_of before.counts → FailsOnce before.output after.output
      → KeepsFaultCounts before.errors after.errors → WritingFails before after
  errors_fail : after.files ≡ before.files → after.left ≡ before.left
      → faults_of after.counts ≡ faults_of before.counts
      → KeepsFaultCounts before.output after.output → FailsOnce before.errors after.errors
      → WritingFails before after

-- nothing has failed, and at most the files, the input or one of the outputs has wanted memory, once
pub data WantsMemory (before after : CallStreams) : Type 0 where
  uncounted : KeepsAllCounts before after → WantsMemory before after
  files_want : StoreWantsOnce before.files after.files → faults_of after.counts ≡ faults_of before.counts
      → KeepsFaultCounts before.output after.output → KeepsFaultCounts before.errors after.errors
      → WantsMemory before after
  input_wants : KeepsStoreCounts before.files after.files
      → faults_of after.counts ≡ wanted_once (faults_of before.counts)
      → KeepsFaultCounts before.output after.output → KeepsFaultCounts before.errors after.errors
      → WantsMemory before after
  output_wants : KeepsStoreCounts before.files after.files → faults_of after.counts ≡ faults_of before.counts
      → WantsOnce before.output after.output → KeepsFaultCounts before.errors after.errors
      → WantsMemory before after
  errors_want : KeepsStoreCounts before.files after.files → faults_of after.counts ≡ faults_of before.counts
      → KeepsFaultCounts before.output after.output → WantsOnce before.errors after.errors
      → WantsMemory before after
