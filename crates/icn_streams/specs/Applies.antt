-- All that a call says of the row that it applies.
use Rattle.std.specs.Prelude.{Result}
use Rattle.std.specs.List.{All}
use Rattle.icn_value.specs.Store.{Outside}
use Rattle.icn_defs.specs.Rows.{Row}
use Rattle.icn_heap.specs.Extents.{IsLive}
use Rattle.icn_heap.specs.Heaps.{extent_of}
use Rattle.icn_vars.specs.Outcomes.{IsLiveAnswer}
use Rattle.icn_vars.specs.Worlds.{KeepsItems, Reach, reach_of}
use Rattle.icn_vars.specs.declared.outcome.Outcome.{Outcome}
use Rattle.icn_vars.specs.declared.outcome.Halt.{Halt}
use Rattle.icn_streams.specs.Answers.{CallState, Answers, CausedBy, OverSomeOutside}
use Rattle.icn_streams.specs.Handed.{TellsOutside}

-- what items may name that are of what is given
abbrev pub reach_given : CallState → Reach
reach_given all = reach_of all.world all.locals

-- The call was answered what the row comes to, or a fault or want of memory broke it off: over the outside that was
-- handed where the input and the store of files tell it, and over some outside in any case. What was answered is of the world, and
-- so are the locals still; every item that was of the world stays so, and stands for the same.
pub record Applies (row : Row) (before after : CallState) (result : Result Outcome Halt) : Type 0 where
  pub answers : (was : Outside) → TellsOutside before.handed was → Answers row was before after result
  pub meant : OverSomeOutside row before after result
  pub caused : CausedBy result before.handed after.handed
  pub live : IsLiveAnswer (reach_given after) result
  pub locals : All (IsLive (extent_of after.world.heap)) after.locals
  pub kept : KeepsItems (reach_given before) (reach_given after)
