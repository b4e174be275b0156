-- A row that neither reads nor puts, as one over the input and the outputs.
use Rattle.std.proofs.Common.{Result, Ok, Err, List}
use Rattle.std.specs.List.{All}
use Rattle.icn_value.specs.Store.{Outside, bare_outside}
use Rattle.icn_defs.specs.Rows.{Row}
use Rattle.icn_heap.specs.Extents.{IsLive}
use Rattle.icn_heap.specs.Heaps.{extent_of}
use Rattle.icn_value.specs.declared.val.Val.{Val}
use Rattle.icn_vars.specs.Outcomes.{ComesToAnswer, IsLiveAnswer}
use Rattle.icn_vars.specs.Worlds.{KeepsItems, reach_of, setting_of}
use Rattle.icn_vars.specs.declared.outcome.Outcome.{Outcome}
use Rattle.icn_vars.specs.declared.outcome.Halt.{Halt}
use Rattle.icn_vars.specs.declared.outcome.Halt.TheVariants.{Error as ErrorHalt, Ends as EndsHalt, ReadFault, WriteFault, FileFault, NoMemory}
use Rattle.icn_vars.specs.declared.world.World.{World}
use Rattle.icn_streams.specs.Handed.{CallStreams, TellsOutside, uncounted}
use Rattle.icn_streams.specs.Answers.{Answers, CausedBy, call_state, idle, streams_telling}
use Rattle.icn_streams.specs.Applies.{Applies}
use Rattle.icn_streams.proofs.CallSequences.{follows_all, tells_told}
use Rattle.icn_streams.proofs.IdleCalls.{allows_own, allows_still, keeps_all_counts_refl, leaves_streams_refl, told_of}

module _ (row : Row) (old new : World) (locals locals' : List Val) (handed : CallStreams) where
  answers_by : (result : Result Outcome Halt)
      → ((outside : Outside) → ComesToAnswer (extent_of new.heap) row (setting_of outside old locals) (setting_of outside new locals') result)
      → (streams : CallStreams) (was : Outside) → TellsOutside streams was
      → Answers row was (call_state old locals streams) (call_state new locals' streams) result
  answers_by (Ok outcome) row streams was told = record { now = was; follows = follows_all streams was told; comes = row was }
  answers_by (Err (ErrorHalt number offending)) row streams was told = record { now = was; follows = follows_all streams was told; comes = row was }
  answers_by (Err (EndsHalt status)) row streams was told = record { now = was; follows = follows_all streams was told; comes = row was }
  answers_by (Err ReadFault) row streams was told = absurd (row was)
  answers_by (Err WriteFault) row streams was told = absurd (row was)
  answers_by (Err FileFault) row streams was told = absurd (row was)
  answers_by (Err NoMemory) row streams was told = idle (leaves_streams_refl _)

  caused_by : (result : Result Outcome Halt)
      → ((outside : Outside) → ComesToAnswer (extent_of new.heap) row (setting_of outside old locals) (setting_of outside new locals') result)
      → CausedBy result handed handed
  caused_by (Ok outcome) row = keeps_all_counts_refl handed
  caused_by (Err (ErrorHalt number offending)) row = keeps_all_counts_refl handed
  caused_by (Err (EndsHalt status)) row = keeps_all_counts_refl handed
  caused_by (Err ReadFault) row = absurd (row bare_outside)
  caused_by (Err WriteFault) row = absurd (row bare_outside)
  caused_by (Err FileFault) row = absurd (row bare_outside)
  caused_by (Err NoMemory) row = uncounted (keeps_all_counts_refl handed)

  -- what it says of every outside is all that is to be said
  pub faultless_applies : (result : Result Outcome Halt)
      → ((outside : Outside) → ComesToAnswer (extent_of new.heap) row (setting_of outside old locals) (setting_of outside new locals') result)
      → IsLiveAnswer (reach_of new locals') result → All (IsLive (extent_of new.heap)) locals' → KeepsItems (reach_of old locals) (reach_of new locals')
      → Applies row (call_state old locals handed) (call_state new locals' handed) result
  faultless_applies result row live lives kept = record {
    answers = answers_by result row handed;
    meant = record {
      had = told_of handed;
      has = told_of handed;
      allowed = allows_own handed;
      allows = allows_still handed;
      answers = λ was first. answers_by result row (streams_telling (told_of handed) handed) was (tells_told (told_of handed) handed was first);
    };
    caused = caused_by result row;
    live = live;
    locals = lives;
    kept = kept;
  }
