use Rattle.std.proofs.Common.{◌≡◌, [], length}
use Rattle.std.specs.List.{All}
use Rattle.icn_heap.specs.Extents.{IsLive}
use Rattle.icn_heap.specs.Heaps.{extent_of}
use Rattle.icn_vars.specs.Worlds.{IsLiveItem, reach_of}
use Rattle.icn_frames.specs.Stacks as held
use Rattle.icn_control.specs.LiveStacks.{with_locals}
use Rattle.icn_control.proofs.TakenOperandSteps.{ValuesSo}
use Rattle.icn_control.proofs.values.values_of.Given as goal

abbrev pub invariant-loop-first : goal.invariant-loop-first
invariant-loop-first g l = record {
  same : l.frames.flat ≡ l.initial.frames.flat;
  spare : l.frames.spare ≡ l.initial.frames.spare;
  live : All (IsLive (extent_of l.world.heap)) l.vals.items;
  left : All (IsLiveItem (with_locals (held.local_count l.initial.frames.flat) (reach_of l.world []))) l.rest;
  is : ValuesSo l.world l.initial.frames.flat l.items l.vals.items l.rest;
}

abbrev pub decreases-loop-first : goal.decreases-loop-first
decreases-loop-first g l = length l.rest
