use Rattle.icn_heap.specs.Heaps.{heap_of}
use Rattle.test_store.proofs.Known.{table_named, same_named}
use Rattle.test_store.proofs.convert.structures.table.Goals as goal

pub returns-in_err-make_table-clause-named : goal.returns-in_err-make_table-clause-named
returns-in_err-make_table-clause-named c = same_named (heap_of c.args.heap.now) (heap_of c.make_table.new.self) c.in_err-make_table.ensures.unchanged c.requires

pub returns-clause-named : goal.returns-clause-named
returns-clause-named c = table_named (heap_of c.args.heap.now) (heap_of c.make_table.new.self) _ c.in_ok-make_table.ensures.step c.requires
