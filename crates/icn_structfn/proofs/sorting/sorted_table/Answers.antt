use Rattle.std.proofs.Common.{◌∙◌, sym, ap, List, map}
use Rattle.icn_value.specs.Values.{Value}
use Rattle.icn_defs.specs.Rows.{new_list_of}
use Rattle.icn_heap.specs.Extents.{value_in, values_in}
use Rattle.icn_heap.specs.Heaps.{extent_of, heap_of}
use Rattle.icn_vars.specs.Worlds.{setting_of}
use Rattle.icn_structfn.specs.declared.sorting.TableOrder.{TableOrder}
use Rattle.icn_structfn.specs.Sorting.{in_turn, list_of_pairs, sorted_pairs}
use Rattle.icn_structfn.proofs.RowAnswers.{found_as}
use Rattle.icn_structfn.proofs.sorting.sorted_table.Goals as goal

pub returns-in_ok-sorted-in-ListsByKey-clause-found : goal.returns-in_ok-sorted-in-ListsByKey-clause-found
returns-in_ok-sorted-in-ListsByKey-clause-found g c outside =
    found_as (extent_of c.list_of_lists.new.w.heap) (sorted_pairs (g.N.Names.known c.args.names.now) (heap_of c.args.w.now.heap)
    (map (values_in (extent_of c.args.w.now.heap)) c.args.pairs.now) c.args.order (value_in (extent_of c.args.w.now.heap) c.args.chosen))
    (list_of_pairs (map (values_in (extent_of c.args.w.now.heap)) c.deref.result.now)) (setting_of outside c.args.w.now (g.L.Locals.items c.args.l.now))
    (setting_of outside c.list_of_lists.new.w (g.L.Locals.items c.args.l.now)) (value_in (extent_of c.list_of_lists.new.w.heap)) c.list_of_lists.result
    (λ next. ap (λ (order : TableOrder). sorted_pairs (g.N.Names.known c.args.names.now) (heap_of c.args.w.now.heap)
    (map (values_in (extent_of c.args.w.now.heap)) c.args.pairs.now) order (value_in (extent_of c.args.w.now.heap) c.args.chosen) next
    (setting_of outside c.args.w.now (g.L.Locals.items c.args.l.now))) c.in-ListsByKey.is
    ∙ ap (λ (pairs : List (Value × Value)). list_of_pairs pairs next (setting_of outside c.args.w.now (g.L.Locals.items c.args.l.now)))
    (sym (ap (map (values_in (extent_of c.args.w.now.heap))) c.deref.ensures.value ∙ c.in_ok-sorted-in-ListsByKey.ensures.order)))
    (c.list_of_lists.ensures.found outside)

pub returns-in_ok-sorted-in-ListsByValue-clause-found : goal.returns-in_ok-sorted-in-ListsByValue-clause-found
returns-in_ok-sorted-in-ListsByValue-clause-found g c outside =
    found_as (extent_of c.list_of_lists-in-ListsByValue.new.w.heap) (sorted_pairs (g.N.Names.known c.args.names.now) (heap_of c.args.w.now.heap)
    (map (values_in (extent_of c.args.w.now.heap)) c.args.pairs.now) c.args.order (value_in (extent_of c.args.w.now.heap) c.args.chosen))
    (list_of_pairs (map (values_in (extent_of c.args.w.now.heap)) c.deref-in-ListsByValue.result.now))
    (setting_of outside c.args.w.now (g.L.Locals.items c.args.l.now)) (setting_of outside c.list_of_lists-in-ListsByValue.new.w (g.L.Locals.items c.args.l.now))
    (value_in (extent_of c.list_of_lists-in-ListsByValue.new.w.heap)) c.list_of_lists-in-ListsByValue.result
    (λ next. ap (λ (order : TableOrder). sorted_pairs (g.N.Names.known c.args.names.now) (heap_of c.args.w.now.heap)
    (map (values_in (extent_of c.args.w.now.heap)) c.args.pairs.now) order (value_in (extent_of c.args.w.now.heap) c.args.chosen) next
    (setting_of outside c.args.w.now (g.L.Locals.items c.args.l.now))) c.in-ListsByValue.is
    ∙ ap (λ (pairs : List (Value × Value)). list_of_pairs pairs next (setting_of outside c.args.w.now (g.L.Locals.items c.args.l.now)))
    (sym (ap (map (values_in (extent_of c.args.w.now.heap))) c.deref-in-ListsByValue.ensures.value ∙ c.in_ok-sorted-in-ListsByValue.ensures.order)))
    (c.list_of_lists-in-ListsByValue.ensures.found outside)

pub returns-in_ok-sorted-in-TurnByKey-clause-found : goal.returns-in_ok-sorted-in-TurnByKey-clause-found
returns-in_ok-sorted-in-TurnByKey-clause-found g c outside =
    found_as (extent_of c.list_in_turn.new.w.heap) (sorted_pairs (g.N.Names.known c.args.names.now) (heap_of c.args.w.now.heap)
    (map (values_in (extent_of c.args.w.now.heap)) c.args.pairs.now) c.args.order (value_in (extent_of c.args.w.now.heap) c.args.chosen))
    (new_list_of (in_turn (map (values_in (extent_of c.args.w.now.heap)) c.deref-in-TurnByKey.result.now)))
    (setting_of outside c.args.w.now (g.L.Locals.items c.args.l.now)) (setting_of outside c.list_in_turn.new.w (g.L.Locals.items c.args.l.now))
    (value_in (extent_of c.list_in_turn.new.w.heap)) c.list_in_turn.result
    (λ next. ap (λ (order : TableOrder). sorted_pairs (g.N.Names.known c.args.names.now) (heap_of c.args.w.now.heap)
    (map (values_in (extent_of c.args.w.now.heap)) c.args.pairs.now) order (value_in (extent_of c.args.w.now.heap) c.args.chosen) next
    (setting_of outside c.args.w.now (g.L.Locals.items c.args.l.now))) c.in-TurnByKey.is
    ∙ ap (λ (pairs : List (Value × Value)). new_list_of (in_turn pairs) next (setting_of outside c.args.w.now (g.L.Locals.items c.args.l.now)))
    (sym (ap (map (values_in (extent_of c.args.w.now.heap))) c.deref-in-TurnByKey.ensures.value ∙ c.in_ok-sorted-in-TurnByKey.ensures.order)))
    (c.list_in_turn.ensures.found outside)

pub returns-in_ok-sorted-in-TurnByValue-clause-found : goal.returns-in_ok-sorted-in-TurnByValue-clause-found
returns-in_ok-sorted-in-TurnByValue-clause-found g c outside =
    found_as (extent_of c.list_in_turn-in-TurnByValue.new.w.heap) (sorted_pairs (g.N.Names.known c.args.names.now) (heap_of c.args.w.now.heap)
    (map (values_in (extent_of c.args.w.now.heap)) c.args.pairs.now) c.args.order (value_in (extent_of c.args.w.now.heap) c.args.chosen))
    (new_list_of (in_turn (map (values_in (extent_of c.args.w.now.heap)) c.deref-in-TurnByValue.result.now)))
    (setting_of outside c.args.w.now (g.L.Locals.items c.args.l.now)) (setting_of outside c.list_in_turn-in-TurnByValue.new.w (g.L.Locals.items c.args.l.now))
    (value_in (extent_of c.list_in_turn-in-TurnByValue.new.w.heap)) c.list_in_turn-in-TurnByValue.result
    (λ next. ap (λ (order : TableOrder). sorted_pairs (g.N.Names.known c.args.names.now) (heap_of c.args.w.now.heap)
    (map (values_in (extent_of c.args.w.now.heap)) c.args.pairs.now) order (value_in (extent_of c.args.w.now.heap) c.args.chosen) next
    (setting_of outside c.args.w.now (g.L.Locals.items c.args.l.now))) c.in-TurnByValue.is
    ∙ ap (λ (pairs : List (Value × Value)). new_list_of (in_turn pairs) next (setting_of outside c.args.w.now (g.L.Locals.items c.args.l.now)))
    (sym (ap (map (values_in (extent_of c.args.w.now.heap))) c.deref-in-TurnByValue.ensures.value ∙ c.in_ok-sorted-in-TurnByValue.ensures.order)))
    (c.list_in_turn-in-TurnByValue.ensures.found outside)

pub returns-in-Unknown-clause-found : goal.returns-in-Unknown-clause-found
returns-in-Unknown-clause-found g c outside next = ap (λ (order : TableOrder). sorted_pairs (g.N.Names.known c.args.names.now) (heap_of c.args.w.now.heap)
    (map (values_in (extent_of c.args.w.now.heap)) c.args.pairs.now) order (value_in (extent_of c.args.w.now.heap) c.args.chosen) next
    (setting_of outside c.args.w.now (g.L.Locals.items c.args.l.now))) c.in-Unknown.is
