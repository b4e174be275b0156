-- A row that goes on as another one, and a row that stops where a thing is looked for.
use Rattle.std.proofs.Common.{◌≡◌, ◌∙◌, sym, subst, Result, Ok, Err}
use Rattle.std.specs.Prelude.{IsErrAnd}
use Rattle.std.specs.List.{All}
use Rattle.icn_value.specs.Store.{Outside, Setting}
use Rattle.icn_defs.specs.Rows.{Finds, Outcome, Row}
use Rattle.icn_heap.specs.Extents.{IsLive}
use Rattle.icn_heap.specs.Heaps.{extent_of}
use Rattle.icn_vars.specs.Stops.{IsLiveStop, StopsFinding, halt_of}
use Rattle.icn_vars.specs.declared.outcome.Outcome.{Outcome as HeldOutcome}
use Rattle.icn_vars.specs.declared.outcome.Halt.{Halt}
use Rattle.icn_vars.specs.declared.outcome.Halt.TheVariants.{Error as ErrorHalt, Ends as EndsHalt, ReadFault, WriteFault, FileFault, NoMemory}
use Rattle.icn_vars.specs.declared.stop.Stop.{Stop}
use Rattle.icn_vars.specs.declared.stop.Stop.TheVariants.{Error as ErrorStop, NoMemory as NoMemoryStop}
use Rattle.icn_defs.specs.Interruptions.{BreaksBetween, BreaksFiles, BreaksReading}
use Rattle.icn_streams.specs.Handed.{CallStreams, streams_of, uncounted}
use Rattle.icn_streams.specs.Answers.{Answers, CallState, Stops, StopsFiles, StopsPutting, StopsReading, files, idle, outside_after, putting, reading, setting_with, state_telling}
use Rattle.icn_streams.specs.Applies.{Applies, reach_given}
use Rattle.icn_streams.proofs.CallSequences.{follows_all, tells_told}
use Rattle.icn_streams.proofs.IdleCalls.{allows_own, allows_still, keeps_all_counts_refl, keeps_items_refl, leaves_streams_refl, told_of}

-- A row that is another one here

module _ (row rest : Row) (at : Setting) (same : row at ≡ rest at) (before after : CallStreams) where
  reading_same : StopsReading rest at before after → StopsReading row at before after
  reading_same stops =
      subst (λ (o : Outcome). BreaksReading at.outside (outside_after o) (streams_of before) (streams_of after)) (sym same) stops

  putting_same : StopsPutting rest at before after → StopsPutting row at before after
  putting_same stops =
      subst (λ (o : Outcome). BreaksBetween at.outside (outside_after o) (streams_of before) (streams_of after)) (sym same) stops

  files_same : StopsFiles rest at before after → StopsFiles row at before after
  files_same stops =
      subst (λ (o : Outcome). BreaksFiles at.outside (outside_after o) (streams_of before) (streams_of after)) (sym same) stops

  stops_same : Stops rest at before after → Stops row at before after
  stops_same (idle is) = idle is
  stops_same (reading is) = reading (reading_same is)
  stops_same (files is) = files (files_same is)
  stops_same (putting is) = putting (putting_same is)

answers_same : (row rest : Row) (was : Outside) (before after : CallState) (result : Result HeldOutcome Halt)
    → row (setting_with was before) ≡ rest (setting_with was before)
    → Answers rest was before after result → Answers row was before after result
answers_same row rest was before after (Ok outcome) same is = record { now = is.now; follows = is.follows; comes = same ∙ is.comes }
answers_same row rest was before after (Err (ErrorHalt number offending)) same is = record { now = is.now; follows = is.follows; comes = same ∙ is.comes }
answers_same row rest was before after (Err (EndsHalt status)) same is = record { now = is.now; follows = is.follows; comes = same ∙ is.comes }
answers_same row rest was before after (Err ReadFault) same is = reading_same row rest (setting_with was before) same before.handed after.handed is
answers_same row rest was before after (Err WriteFault) same is = putting_same row rest (setting_with was before) same before.handed after.handed is
answers_same row rest was before after (Err FileFault) same is = files_same row rest (setting_with was before) same before.handed after.handed is
answers_same row rest was before after (Err NoMemory) same is = stops_same row rest (setting_with was before) same before.handed after.handed is

-- the row goes on as another one, of which this is said
pub applies_same : (row rest : Row) (before after : CallState) (result : Result HeldOutcome Halt)
    → ((was : Outside) → row (setting_with was before) ≡ rest (setting_with was before))
    → Applies rest before after result → Applies row before after result
applies_same row rest before after result same is = record {
  answers = λ was told. answers_same row rest was before after result (same was) (is.answers was told);
  meant = record {
    had = is.meant.had;
    has = is.meant.has;
    allowed = is.meant.allowed;
    allows = is.meant.allows;
    answers = λ was first. answers_same row rest was (state_telling is.meant.had before) (state_telling is.meant.has after) result (same was)
        (is.meant.answers was first);
  };
  caused = is.caused;
  live = is.live;
  locals = is.locals;
  kept = is.kept;
}

-- A row that stops where a thing is looked for

stopped : {A : Type 0} (find : Finds A) (next : A → Row) (all : CallState) (stop : Stop)
    → ((was : Outside) → StopsFinding (extent_of all.world.heap) find (setting_with was all) (setting_with was all) stop)
    → IsLiveStop (extent_of all.world.heap) stop → All (IsLive (extent_of all.world.heap)) all.locals → Applies (find next) all all (Err (halt_of stop))
stopped find next all (ErrorStop number offending) stops live lives = record {
  answers = λ was told. record { now = was; follows = follows_all all.handed was told; comes = stops was next };
  meant = record {
    had = told_of all.handed;
    has = told_of all.handed;
    allowed = allows_own all.handed;
    allows = allows_still all.handed;
    answers = λ was is. record {
      now = was;
      follows = follows_all (state_telling (told_of all.handed) all).handed was (tells_told (told_of all.handed) all.handed was is);
      comes = stops was next;
    };
  };
  caused = keeps_all_counts_refl all.handed;
  live = live;
  locals = lives;
  kept = keeps_items_refl (reach_given all);
}
stopped find next all NoMemoryStop stops live lives = record {
  answers = λ was told. idle (leaves_streams_refl _);
  meant = record {
    had = told_of all.handed;
    has = told_of all.handed;
    allowed = allows_own all.handed;
    allows = allows_still all.handed;
    answers = λ was is. idle (leaves_streams_refl _);
  };
  caused = uncounted (keeps_all_counts_refl all.handed);
  live = tt;
  locals = lives;
  kept = keeps_items_refl (reach_given all);
}

-- the row stops where a thing is not found, and nothing is read or put
pub stops_there : {A : Type 0} (find : Finds A) (next : A → Row) (all : CallState) (stop : Stop) (result : Result HeldOutcome Halt)
    → IsErrAnd result (λ halt. halt ≡ halt_of stop)
    → ((was : Outside) → StopsFinding (extent_of all.world.heap) find (setting_with was all) (setting_with was all) stop)
    → IsLiveStop (extent_of all.world.heap) stop → All (IsLive (extent_of all.world.heap)) all.locals → Applies (find next) all all result
stops_there find next all stop (Ok outcome) same stops live lives = absurd same
stops_there find next all stop (Err halt) same stops live lives =
    subst (λ h. Applies (find next) all all (Err h)) (sym same) (stopped find next all stop stops live lives)
