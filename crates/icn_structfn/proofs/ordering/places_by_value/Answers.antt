use Rattle.std.proofs.Common.{rules, map}
use Rattle.std.proofs.lemmas.Cmp.{on_total}
use Rattle.law_rows.proofs.SortOrder.{order_is_total}
use Rattle.icn_defs.specs.Arguments.{arg}
use Rattle.icn_defs.specs.Images.{value_cmp}
use Rattle.icn_heap.specs.Extents.{value_in}
use Rattle.icn_heap.specs.Heaps.{extent_of, heap_of}
use Rattle.icn_structfn.proofs.SortedPlaces.{sorted_by_closure}
use Rattle.icn_structfn.proofs.ordering.places_by_value.Goals as goal

pub returns-clause-sorted : goal.returns-clause-sorted
returns-clause-sorted g c =
    sorted_by_closure (λ i j. value_cmp (g.N.Names.known c.args.names.now) (heap_of c.args.heap.now)
    (arg (map (value_in (extent_of c.args.heap.now)) c.args.vals.now) i) (arg (map (value_in (extent_of c.args.heap.now)) c.args.vals.now) j))
    (on_total (arg (map (value_in (extent_of c.args.heap.now)) c.args.vals.now)) (order_is_total (g.N.Names.known c.args.names.now) (heap_of c.args.heap.now)))
    c.sort_by.new.self.items
    c.in_ok-sort_by.ensures.sorted (λ a r q k. search rules)
