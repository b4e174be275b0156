use Rattle.std.specs.List.{All}
use Rattle.icn_heap.specs.Extents.{IsLive}
use Rattle.icn_heap.specs.Heaps.{extent_of}
use Rattle.test_store.proofs.heap.arguments.arguments.Given as goal

abbrev pub invariant-loop-word : goal.invariant-loop-word
invariant-loop-word l = All (IsLive (extent_of l.w.heap)) l.vals.items
