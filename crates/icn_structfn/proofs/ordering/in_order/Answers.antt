use Rattle.std.proofs.Common.{◌∙◌, sym, map}
use Rattle.std.proofs.lemmas.List.{length-map}
use Rattle.std.proofs.lemmas.Result.{IfOk-weaker}
use Rattle.icn_value.specs.Values.{Null}
use Rattle.icn_defs.specs.Images.{value_cmp}
use Rattle.icn_heap.specs.Extents.{value_in}
use Rattle.law_rows.proofs.SortOrder.{ties_are_one, order_is_total}
use Rattle.law_rows.proofs.SortedOnce.{sorted_is_unique}
use Rattle.icn_heap.specs.Heaps.{extent_of, heap_of}
use Rattle.icn_structfn.proofs.SortedPlaces.{ordered}
use Rattle.icn_structfn.proofs.ordering.in_order.Goals as goal

pub returns-clause-order : goal.returns-clause-order
returns-clause-order g c =
    IfOk-weaker c.values_at.result _ _ (λ found values.
    values (extent_of c.args.heap.now)
    ∙ ordered (map (value_in (extent_of c.args.heap.now)) c.args.vals.now) Null
    (value_cmp (g.N.Names.known c.args.names.now) (heap_of c.args.heap.now)) _ c.in_ok-places.places.items c.deref.result.now c.deref.ensures.value
    (sym (length-map c.args.vals.now (value_in (extent_of c.args.heap.now)))) c.in_ok-places.ensures.permutation c.in_ok-places.ensures.sorted
    (λ ys. sorted_is_unique (value_cmp (g.N.Names.known c.args.names.now) (heap_of c.args.heap.now))
    (order_is_total (g.N.Names.known c.args.names.now) (heap_of c.args.heap.now))
    (ties_are_one (g.N.Names.known c.args.names.now) (heap_of c.args.heap.now)) (map (value_in (extent_of c.args.heap.now)) c.args.vals.now) ys))
    c.values_at.ensures.values

pub returns-clause-live : goal.returns-clause-live
returns-clause-live g c = IfOk-weaker c.values_at.result _ _ (λ found live. live (extent_of c.args.heap.now) c.requires.live) c.values_at.ensures.live
