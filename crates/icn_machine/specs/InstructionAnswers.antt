-- What an instruction that may read or put comes to, and what it leaves where a fault or want of memory breaks it off.
use Rattle.std.specs.Prelude.{Result, Ok, Err}
use Rattle.icn_value.specs.Store.{Outside}
use Rattle.icn_defs.specs.Interruptions.{BreaksBetween, BreaksFiles as FilesBreak, BreaksReading as ReadingBreaks}
use Rattle.icn_vars.specs.declared.outcome.Halt.{Halt}
use Rattle.icn_vars.specs.declared.outcome.Halt.TheVariants as Halts
use Rattle.icn_streams.specs.Answers.{Allows, AllowsBehind, IsTold, Told, streams_telling}
use Rattle.icn_streams.specs.Handed.{CallStreams, FilesFail, Follows, LeavesStreams, KeepsAllCounts, ReadingFails, TellsOutside, WritingFails, WantsMemory, streams_of}
use Rattle.icn_run.specs.Stacks.{Frames}
use Rattle.icn_run.specs.Step.{State, running, failing, hopping, over, stuck}

-- the outside of a state, with the report of an error in it; of one that lacks something, the one before
abbrev pub outside_in : Outside → State Frames Frames → Outside
outside_in was (running m st) = st.outside
outside_in was (failing m st) = st.outside
outside_in was (hopping m st) = st.outside
outside_in was (over ending outside) = outside
outside_in was stuck = was

-- What was answered is so with an outside that the input and the outputs tell.
pub record Tells {A : Type 0} (Comes : Outside → Result A Halt → Type 0) (was : Outside)
    (before after : CallStreams) (result : Result A Halt) : Type 0 where
  pub now : Outside
  pub follows : Follows before after was now
  pub is : Comes now result

-- A step that leads to this state was broken off in a reading.
abbrev pub BreaksReading : State Frames Frames → Outside → CallStreams → CallStreams → Type 0
BreaksReading state was before after =
    ReadingBreaks was (outside_in was state) (streams_of before) (streams_of after)

-- It was broken off in a call of the store of files.
abbrev pub BreaksFiles : State Frames Frames → Outside → CallStreams → CallStreams → Type 0
BreaksFiles state was before after =
    FilesBreak was (outside_in was state) (streams_of before) (streams_of after)

-- It was broken off between two of the events that it does.
abbrev pub BreaksPutting : State Frames Frames → Outside → CallStreams → CallStreams → Type 0
BreaksPutting state was before after =
    BreaksBetween was (outside_in was state) (streams_of before) (streams_of after)

-- It was broken off before it did anything, or in a reading, or in a call of the store of files, or between two
-- events, or behind all that it does.
pub data BreaksOff (state : State Frames Frames) (was : Outside) (before after : CallStreams) : Type 0 where
  idle : LeavesStreams before after → BreaksOff state was before after
  reading : BreaksReading state was before after → BreaksOff state was before after
  files : BreaksFiles state was before after → BreaksOff state was before after
  putting : BreaksPutting state was before after → BreaksOff state was before after
  behind : Follows before after was (outside_in was state) → BreaksOff state was before after

-- What was answered of a step that leads to this state, where the outside before it is one that the input tells.
abbrev pub AnswersStep : {A : Type 0} → (Outside → Result A Halt → Type 0) → State Frames Frames → Outside
    → CallStreams → CallStreams → Result A Halt → Type 0
AnswersStep Comes state was before after (Ok a) = Tells Comes was before after (Ok a)
AnswersStep Comes state was before after (Err (Halts.Error number offending)) =
    Tells Comes was before after (Err (Halts.Error number offending))
AnswersStep Comes state was before after (Err (Halts.Ends status)) =
    Tells Comes was before after (Err (Halts.Ends status))
AnswersStep Comes state was before after (Err Halts.ReadFault) = BreaksReading state was before after
AnswersStep Comes state was before after (Err Halts.WriteFault) = BreaksPutting state was before after
AnswersStep Comes state was before after (Err Halts.FileFault) = BreaksFiles state was before after
AnswersStep Comes state was before after (Err Halts.NoMemory) = BreaksOff state was before after

-- Why it was answered: a fault comes where that object has failed in this call, and no object fails in a call that is answered otherwise.
abbrev pub IsCause : {A : Type 0} → Result A Halt → CallStreams → CallStreams → Type 0
IsCause (Ok a) before after = KeepsAllCounts before after
IsCause (Err (Halts.Error number offending)) before after = KeepsAllCounts before after
IsCause (Err (Halts.Ends status)) before after = KeepsAllCounts before after
IsCause (Err Halts.ReadFault) before after = ReadingFails before after
IsCause (Err Halts.WriteFault) before after = WritingFails before after
IsCause (Err Halts.FileFault) before after = FilesFail before after
IsCause (Err Halts.NoMemory) before after = WantsMemory before after

-- What a call says of a step, by the state to which the step leads from each outside: over the outside that is told, if it is; and in any case over
-- some outside, of which what is told is true, that has this and leaves that.
pub record Performs {A : Type 0} (leads : Outside → State Frames Frames) (Comes : Outside → Outside
    → Result A Halt → Type 0) (before after : CallStreams) (result : Result A Halt) : Type 0 where
  pub answers : (was : Outside) → TellsOutside before was
      → AnswersStep (Comes was) (leads was) was before after result
  pub had : Told
  pub has : Told
  pub allowed : Allows before had
  pub allows : AllowsBehind before after has
  pub meant : (was : Outside) → IsTold had was
      → AnswersStep (Comes was) (leads was) was (streams_telling had before) (streams_telling has after)
      result
  pub caused : IsCause result before after
