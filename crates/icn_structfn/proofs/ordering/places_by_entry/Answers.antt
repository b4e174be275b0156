use Rattle.std.proofs.Common.{rules, map}
use Rattle.std.proofs.lemmas.Cmp.{on_total}
use Rattle.law_rows.proofs.SortOrder.{total_entries}
use Rattle.icn_defs.specs.Structures.{entry_cmp}
use Rattle.icn_heap.specs.Extents.{values_in}
use Rattle.icn_structfn.specs.Sorting.{pair_at}
use Rattle.icn_heap.specs.Heaps.{extent_of, heap_of}
use Rattle.icn_structfn.proofs.SortedPlaces.{sorted_by_closure}
use Rattle.icn_structfn.proofs.ordering.places_by_entry.Goals as goal

pub returns-clause-sorted : goal.returns-clause-sorted
returns-clause-sorted g c =
    sorted_by_closure (λ i j. entry_cmp (g.N.Names.known c.args.names.now) (heap_of c.args.heap.now)
    (pair_at (map (values_in (extent_of c.args.heap.now)) c.args.pairs.now) i) (pair_at (map (values_in (extent_of c.args.heap.now)) c.args.pairs.now) j))
    (on_total (pair_at (map (values_in (extent_of c.args.heap.now)) c.args.pairs.now))
    (total_entries (g.N.Names.known c.args.names.now) (heap_of c.args.heap.now))) c.sort_by.new.self.items
    c.in_ok-sort_by.ensures.sorted (λ a r q k. search rules)
