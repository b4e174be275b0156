use Rattle.std.proofs.Common.{◌∙◌, sym, map}
use Rattle.std.proofs.lemmas.List.{length-map}
use Rattle.std.proofs.lemmas.Result.{IfOk-weaker}
use Rattle.icn_value.specs.Values.{Null}
use Rattle.icn_defs.specs.Structures.{entry_cmp}
use Rattle.icn_heap.specs.Extents.{values_in}
use Rattle.law_rows.proofs.SortOrder.{entries_are_one, total_entries}
use Rattle.law_rows.proofs.SortedOnce.{sorted_is_unique}
use Rattle.icn_heap.specs.Heaps.{extent_of, heap_of}
use Rattle.icn_structfn.proofs.SortedPlaces.{ordered}
use Rattle.icn_structfn.proofs.ordering.by_entry.Goals as goal

pub returns-clause-order : goal.returns-clause-order
returns-clause-order g c =
    IfOk-weaker c.pairs_at.result _ _ (λ found values.
    values (extent_of c.args.heap.now)
    ∙ ordered (map (values_in (extent_of c.args.heap.now)) c.args.pairs.now) (Null, Null)
    (entry_cmp (g.N.Names.known c.args.names.now) (heap_of c.args.heap.now)) _ c.in_ok-places.places.items c.deref.result.now c.deref.ensures.value
    (sym (length-map c.args.pairs.now (values_in (extent_of c.args.heap.now)))) c.in_ok-places.ensures.permutation c.in_ok-places.ensures.sorted
    (λ ys. sorted_is_unique (entry_cmp (g.N.Names.known c.args.names.now) (heap_of c.args.heap.now))
    (total_entries (g.N.Names.known c.args.names.now) (heap_of c.args.heap.now)) (entries_are_one (g.N.Names.known c.args.names.now) (heap_of c.args.heap.now))
    (map (values_in (extent_of c.args.heap.now)) c.args.pairs.now) ys)) c.pairs_at.ensures.values

pub returns-clause-live : goal.returns-clause-live
returns-clause-live g c = IfOk-weaker c.pairs_at.result _ _ (λ found live. live (extent_of c.args.heap.now) c.requires.live) c.pairs_at.ensures.live
