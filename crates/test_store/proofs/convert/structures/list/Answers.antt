use Rattle.icn_heap.specs.Heaps.{heap_of}
use Rattle.test_store.proofs.Known.{list_named, same_named}
use Rattle.test_store.proofs.convert.structures.list.Goals as goal

pub returns-in_err-make_list-clause-named : goal.returns-in_err-make_list-clause-named
returns-in_err-make_list-clause-named c = same_named (heap_of c.args.heap.now) (heap_of c.make_list.new.self) c.in_err-make_list.ensures.unchanged c.requires

pub returns-clause-named : goal.returns-clause-named
returns-clause-named c = list_named (heap_of c.args.heap.now) (heap_of c.make_list.new.self) _ c.in_ok-make_list.ensures.step c.requires
