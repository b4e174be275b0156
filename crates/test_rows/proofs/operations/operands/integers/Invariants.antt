use Rattle.std.specs.List.{All}
use Rattle.icn_heap.specs.Extents.{Extent, IsLive}
use Rattle.test_rows.proofs.operations.operands.integers.Given as goal

abbrev pub invariant-loop-part : goal.invariant-loop-part
invariant-loop-part l = (all : Extent) → All (IsLive all) l.vals.items
