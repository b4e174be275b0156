use Rattle.icn_heap.specs.Heaps.{heap_of}
use Rattle.test_store.proofs.Known.{none_named}
use Rattle.test_store.proofs.convert.structures.heap.Goals as goal

pub returns : goal.returns
returns c = none_named _ (heap_of c.in_ok-new.field-0) c.in_ok-new.ensures
