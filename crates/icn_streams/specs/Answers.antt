-- What a row that reads or puts leaves, where it is answered and where it is broken off.
use Rattle.std.specs.Prelude.{◌≡◌, ℕ, List, Some, Result, Ok, Err, IfSome}
use Rattle.icn_value.specs.declared.val.Val.{Val}
use Rattle.icn_value.specs.Store.{Outside, Setting}
use Rattle.icn_host.specs.FileMaps.{FileMap}
use Rattle.icn_defs.specs.Interruptions.{BreaksBetween, BreaksFiles, BreaksReading, TellsMap}
use Rattle.icn_defs.specs.Rows.{Row, Outcome, Fails, Gives, Suspends, Error, Ends}
use Rattle.icn_heap.specs.Heaps.{extent_of}
use Rattle.icn_vars.specs.Outcomes.{ComesToAnswer}
use Rattle.icn_vars.specs.Worlds.{setting_of}
use Rattle.icn_vars.specs.declared.outcome.Outcome.{Outcome as HeldOutcome}
use Rattle.icn_vars.specs.declared.outcome.Halt.{Halt}
use Rattle.icn_vars.specs.declared.outcome.Halt.TheVariants.{Error as ErrorHalt, Ends as EndsHalt, ReadFault, WriteFault, FileFault, NoMemory}
use Rattle.icn_vars.specs.declared.world.World.{World}
use Rattle.icn_streams.specs.Handed.{CallStreams, FilesFail, Follows, LeavesStreams, KeepsAllCounts, ReadingFails, WritingFails, WantsMemory, streams_of}

-- what a call is given beside its arguments: the world, the locals, the input and the outputs
pub record CallState : Type 0 where
  pub world : World
  pub locals : List Val
  pub handed : CallStreams

-- the world, the locals and the streams that a call leaves
abbrev pub call_state : World → List Val → CallStreams → CallState
call_state world locals handed = record { world = world; locals = locals; handed = handed }

-- the setting of what is given, with this outside
abbrev pub setting_with : Outside → CallState → Setting
setting_with outside all = setting_of outside all.world all.locals

-- what an input may have left, and what files may hold
pub record Told : Type 0 where
  pub left : List ℕ
  pub files : FileMap

-- the same, had the input told that it has these bytes left, and the store of files that it holds these
abbrev pub streams_telling : Told → CallStreams → CallStreams
streams_telling told handed = record handed {
  left = Some told.left;
  files = record handed.files { held = Some told.files };
}

abbrev pub state_telling : Told → CallState → CallState
state_telling told all = record all { handed = streams_telling told all.handed }

-- what is handed tells nothing else
pub record Allows (handed : CallStreams) (told : Told) : Type 0 where
  pub left : IfSome handed.left (λ left. left ≡ told.left)
  pub files : IfSome handed.files.held (λ held. (name : List ℕ) → held name ≡ told.files name)

-- where what is handed told something, it tells this behind the call
pub record AllowsBehind (before after : CallStreams) (told : Told) : Type 0 where
  pub left : IfSome before.left (λ was. after.left ≡ Some told.left)
  pub files : IfSome before.files.held (λ was. TellsMap after.files.held told.files)

-- the outside is so
pub record IsTold (told : Told) (outside : Outside) : Type 0 where
  pub left : outside.left ≡ told.left
  pub files : (name : List ℕ) → outside.files name ≡ told.files name

-- the outside that a row leaves, whatever it comes to
abbrev pub outside_after : Outcome → Outside
outside_after (Fails setting) = setting.outside
outside_after (Gives item setting) = setting.outside
outside_after (Suspends item rest setting) = setting.outside
outside_after (Error number offending setting) = setting.outside
outside_after (Ends status setting) = setting.outside

-- What the row comes to is what was answered, with an outside that the input and the outputs tell.
pub record Comes (row : Row) (was : Outside) (before after : CallState)
    (result : Result HeldOutcome Halt) : Type 0 where
  pub now : Outside
  pub follows : Follows before.handed after.handed was now
  pub comes : ComesToAnswer (extent_of after.world.heap) row (setting_with was before)
      (setting_with now after) result

-- The row was broken off in a reading.
abbrev pub StopsReading : Row → Setting → CallStreams → CallStreams → Type 0
StopsReading row at before after =
    BreaksReading at.outside (outside_after (row at)) (streams_of before) (streams_of after)

-- The row was broken off between two of the events that it does: as it put, or as what was put before was settled.
abbrev pub StopsPutting : Row → Setting → CallStreams → CallStreams → Type 0
StopsPutting row at before after =
    BreaksBetween at.outside (outside_after (row at)) (streams_of before) (streams_of after)

-- The row was broken off in a call of the store of files.
abbrev pub StopsFiles : Row → Setting → CallStreams → CallStreams → Type 0
StopsFiles row at before after =
    BreaksFiles at.outside (outside_after (row at)) (streams_of before) (streams_of after)

-- The row was broken off before it did anything, or in a reading, or in a call of the store of files, or between
-- two events.
pub data Stops (row : Row) (at : Setting) (before after : CallStreams) : Type 0 where
  idle : LeavesStreams before after → Stops row at before after
  reading : StopsReading row at before after → Stops row at before after
  files : StopsFiles row at before after → Stops row at before after
  putting : StopsPutting row at before after → Stops row at before after

-- What was answered, where the outside before is one that is told: what the row comes to; or a fault or
-- want of memory, which broke it off.
abbrev pub Answers : Row → Outside → CallState → CallState → Result HeldOutcome Halt → Type 0
Answers row was before after (Ok outcome) = Comes row was before after (Ok outcome)
Answers row was before after (Err (ErrorHalt number offending)) =
    Comes row was before after (Err (ErrorHalt number offending))
Answers row was before after (Err (EndsHalt status)) = Comes row was before after (Err (EndsHalt status))
Answers row was before after (Err ReadFault) =
    StopsReading row (setting_with was before) before.handed after.handed
Answers row was before after (Err WriteFault) =
    StopsPutting row (setting_with was before) before.handed after.handed
Answers row was before after (Err FileFault) =
    StopsFiles row (setting_with was before) before.handed after.handed
Answers row was before after (Err NoMemory) = Stops row (setting_with was before) before.handed after.handed

-- What was answered is what the row comes to, or what broke it off, over some input and some files that have this and
-- are left with that, and of which what is told is true: so it is whatever is told.
pub record OverSomeOutside (row : Row) (before after : CallState)
    (result : Result HeldOutcome Halt) : Type 0 where
  pub had : Told
  pub has : Told
  pub allowed : Allows before.handed had
  pub allows : AllowsBehind before.handed after.handed has
  pub answers : (was : Outside) → IsTold had was
      → Answers row was (state_telling had before) (state_telling has after) result

-- Why it was answered, whatever the input and the outputs tell: a fault comes where that object has failed in
-- this call, and no object fails in a call that is answered otherwise.
abbrev pub CausedBy : Result HeldOutcome Halt → CallStreams → CallStreams → Type 0
CausedBy (Ok outcome) before after = KeepsAllCounts before after
CausedBy (Err (ErrorHalt number offending)) before after = KeepsAllCounts before after
CausedBy (Err (EndsHalt status)) before after = KeepsAllCounts before after
CausedBy (Err ReadFault) before after = ReadingFails before after
CausedBy (Err WriteFault) before after = WritingFails before after
CausedBy (Err FileFault) before after = FilesFail before after
CausedBy (Err NoMemory) before after = WantsMemory before after
