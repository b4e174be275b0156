use Rattle.std.specs.List.{All}
use Rattle.icn_heap.specs.Extents.{IsLive}
use Rattle.icn_heap.specs.Heaps.{extent_of}
use Rattle.test_store.proofs.variables.case.push_calls.Given as goal

abbrev pub invariant-loop-call : goal.invariant-loop-call
invariant-loop-call l = All (IsLive (extent_of l.w.heap)) l.l.vals.items
