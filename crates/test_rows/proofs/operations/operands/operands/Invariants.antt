use Rattle.std.specs.List.{All}
use Rattle.icn_heap.specs.Extents.{IsLive}
use Rattle.icn_heap.specs.Heaps.{extent_of}
use Rattle.test_rows.proofs.operations.operands.operands.Given as goal

abbrev pub invariant-loop-field : goal.invariant-loop-field
invariant-loop-field l = All (IsLive (extent_of l.w.heap)) l.vals.items
