use Rattle.std.proofs.Common.{◌≡◌, ◌+◌, ◌≤◌, replicate}
use Rattle.icn_value.specs.declared.val.Val.TheVariants.{Null}
use Rattle.icn_frames.specs.Stacks.{put_above}
use Rattle.icn_frames.proofs.steps.put_nulls.Given as goal

abbrev pub invariant-loop : goal.invariant-loop
invariant-loop g l = record {
  cells : l.cells.cells ≡ put_above (replicate l.counter Null) l.initial.cells.cells;
  spare : l.count ≤ l.counter + l.cells.spare;
}
