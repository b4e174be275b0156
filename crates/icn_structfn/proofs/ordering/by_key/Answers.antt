use Rattle.std.proofs.Common.{◌∙◌, sym, map}
use Rattle.std.proofs.lemmas.List.{length-map}
use Rattle.std.proofs.lemmas.Result.{IfOk-weaker}
use Rattle.icn_value.specs.Values.{Null}
use Rattle.icn_defs.specs.Structures.{key_cmp}
use Rattle.icn_heap.specs.Extents.{values_in}
use Rattle.law_rows.proofs.SortOrder.{ties_are_one, total_keys}
use Rattle.law_rows.proofs.SortedOnce.{keys_alone}
use Rattle.icn_heap.specs.Heaps.{extent_of, heap_of}
use Rattle.icn_structfn.proofs.SortedPlaces.{ordered}
use Rattle.icn_structfn.proofs.ordering.by_key.Goals as goal

pub returns-clause-order : goal.returns-clause-order
returns-clause-order g c =
    IfOk-weaker c.pairs_at.result _ _ (λ found values.
    values (extent_of c.args.heap.now)
    ∙ ordered (map (values_in (extent_of c.args.heap.now)) c.args.pairs.now) (Null, Null)
    (key_cmp (g.N.Names.known c.args.names.now) (heap_of c.args.heap.now)) _ c.in_ok-places.places.items c.deref.result.now c.deref.ensures.value
    (sym (length-map c.args.pairs.now (values_in (extent_of c.args.heap.now)))) c.in_ok-places.ensures.permutation c.in_ok-places.ensures.sorted
    (λ ys. keys_alone (key_cmp (g.N.Names.known c.args.names.now) (heap_of c.args.heap.now))
    (total_keys (g.N.Names.known c.args.names.now) (heap_of c.args.heap.now)) (λ a b is. ties_are_one (g.N.Names.known c.args.names.now)
    (heap_of c.args.heap.now) a.0 b.0 is) (map (values_in (extent_of c.args.heap.now)) c.args.pairs.now) ys c.requires.differ)) c.pairs_at.ensures.values

pub returns-clause-live : goal.returns-clause-live
returns-clause-live g c = IfOk-weaker c.pairs_at.result _ _ (λ found live. live (extent_of c.args.heap.now) c.requires.live) c.pairs_at.ensures.live
