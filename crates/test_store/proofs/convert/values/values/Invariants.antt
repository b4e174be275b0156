use Rattle.std.specs.List.{All}
use Rattle.icn_convert.specs.ProgramNames.{AreRecordsNamed}
use Rattle.icn_heap.specs.Extents.{IsLive}
use Rattle.icn_heap.specs.Heaps.{extent_of, heap_of}
use Rattle.test_store.specs.SomeNames.{some_names}
use Rattle.test_store.proofs.convert.values.values.Given as goal

abbrev pub invariant-loop-word : goal.invariant-loop-word
invariant-loop-word l = record {
  live : All (IsLive (extent_of l.heap)) l.vals.items;
  records : AreRecordsNamed some_names (heap_of l.heap);
}
