use Rattle.std.proofs.Common.{◌∙◌, ap, map}
use Rattle.std.specs.Ordering.{ordering_then}
use Rattle.icn_defs.specs.Images.{value_cmp}
use Rattle.icn_value.specs.Values.{Value}
use Rattle.icn_heap.specs.Extents.{values_in}
use Rattle.icn_heap.specs.Heaps.{extent_of, heap_of}
use Rattle.icn_structfn.specs.Sorting.{pair_at}
use Rattle.icn_structfn.proofs.NamedValues.{named_records, pair_named}
use Rattle.icn_structfn.proofs.ordering.compare_entries_at.Goals as goal

pub compare-requires-clause-first : goal.compare-requires-clause-first
compare-requires-clause-first g c = (c.pair_at-first.ensures.live (extent_of c.args.heap.now) c.requires.live).second

pub compare-requires-clause-second : goal.compare-requires-clause-second
compare-requires-clause-second g c = (c.pair_at-second.ensures.live (extent_of c.args.heap.now) c.requires.live).second

pub compare-requires-clause-first_named : goal.compare-requires-clause-first_named
compare-requires-clause-first_named g c =
    (pair_named (g.N.Names.known c.args.names.now) (extent_of c.args.heap.now) c.args.pairs.now c.args.i c.pair_at-first.result
    (c.pair_at-first.ensures.values (extent_of c.args.heap.now)) c.requires.named).1

pub compare-requires-clause-second_named : goal.compare-requires-clause-second_named
compare-requires-clause-second_named g c =
    (pair_named (g.N.Names.known c.args.names.now) (extent_of c.args.heap.now) c.args.pairs.now c.args.j c.pair_at-second.result
    (c.pair_at-second.ensures.values (extent_of c.args.heap.now)) c.requires.named).1

pub compare-requires-clause-records : goal.compare-requires-clause-records
compare-requires-clause-records g c = named_records (g.N.Names.known c.args.names.now) (heap_of c.args.heap.now) c.requires.heap

pub returns : goal.returns
returns g c =
    c.then.ensures
    ∙ (ap (λ order. ordering_then order c.compare_keys_at.result)
    (c.compare.ensures
    ∙ (ap (λ (pair : Value × Value). value_cmp (g.N.Names.known c.args.names.now) (heap_of c.args.heap.now) pair.1
    (values_in (extent_of c.args.heap.now) c.pair_at-second.result).1) (c.pair_at-first.ensures.values (extent_of c.args.heap.now))
    ∙ ap (λ (pair : Value × Value). value_cmp (g.N.Names.known c.args.names.now) (heap_of c.args.heap.now)
    (pair_at (map (values_in (extent_of c.args.heap.now)) c.args.pairs.now) c.args.i).1 pair.1) (c.pair_at-second.ensures.values (extent_of c.args.heap.now))))
    ∙ ap (ordering_then (value_cmp (g.N.Names.known c.args.names.now) (heap_of c.args.heap.now) (pair_at (map (values_in (extent_of c.args.heap.now))
    c.args.pairs.now) c.args.i).1 (pair_at (map (values_in (extent_of c.args.heap.now)) c.args.pairs.now) c.args.j).1)) c.compare_keys_at.ensures)
