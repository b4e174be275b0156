use Rattle.icn_heap.specs.Heaps.{heap_of}
use Rattle.test_store.proofs.Known.{same_named}
use Rattle.test_store.proofs.convert.structures.text.Goals as goal

pub returns-in_err-hold-clause-named : goal.returns-in_err-hold-clause-named
returns-in_err-hold-clause-named c = same_named (heap_of c.args.heap.now) (heap_of c.hold.new.self) c.hold.ensures.unchanged c.requires

pub returns-clause-named : goal.returns-clause-named
returns-clause-named c = same_named (heap_of c.args.heap.now) (heap_of c.hold.new.self) c.hold.ensures.unchanged c.requires
