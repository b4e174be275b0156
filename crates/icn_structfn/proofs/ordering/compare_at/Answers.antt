use Rattle.icn_heap.specs.Heaps.{extent_of, heap_of}
use Rattle.icn_structfn.proofs.NamedValues.{named_at, named_records}
use Rattle.icn_structfn.proofs.ordering.compare_at.Goals as goal

pub compare-requires-clause-first_named : goal.compare-requires-clause-first_named
compare-requires-clause-first_named g c =
    named_at (g.N.Names.known c.args.names.now) (extent_of c.args.heap.now) c.args.vals.now c.args.i c.arg.result
    (c.arg.ensures.value (extent_of c.args.heap.now)) c.requires.named

pub compare-requires-clause-second_named : goal.compare-requires-clause-second_named
compare-requires-clause-second_named g c =
    named_at (g.N.Names.known c.args.names.now) (extent_of c.args.heap.now) c.args.vals.now c.args.j c.arg-2.result
    (c.arg-2.ensures.value (extent_of c.args.heap.now)) c.requires.named

pub compare-requires-clause-records : goal.compare-requires-clause-records
compare-requires-clause-records g c = named_records (g.N.Names.known c.args.names.now) (heap_of c.args.heap.now) c.requires.heap
