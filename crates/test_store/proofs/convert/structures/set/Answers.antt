use Rattle.icn_heap.specs.Heaps.{heap_of}
use Rattle.test_store.proofs.Known.{set_named, same_named}
use Rattle.test_store.proofs.convert.structures.set.Goals as goal

pub returns-in_err-make_set-clause-named : goal.returns-in_err-make_set-clause-named
returns-in_err-make_set-clause-named c = same_named (heap_of c.args.heap.now) (heap_of c.make_set.new.self) c.in_err-make_set.ensures.unchanged c.requires

pub returns-clause-named : goal.returns-clause-named
returns-clause-named c = set_named (heap_of c.args.heap.now) (heap_of c.make_set.new.self) c.in_ok-make_set.ensures.step c.requires
