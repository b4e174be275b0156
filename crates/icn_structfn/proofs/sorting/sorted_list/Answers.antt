use Rattle.std.proofs.Common.{rules, ◌∙◌, sym, ap, subst, List, map, FitsSigned, w64}
use Rattle.std.proofs.lemmas.Int.{to_z-of_z}
use Rattle.std.proofs.lemmas.List.Elements.{All-same}
use Rattle.icn_structs.specs.PairLists.{KeysDiffer}
use Rattle.icn_value.specs.Sameness.{same}
use Rattle.icn_value.specs.Values.{Value}
use Rattle.icn_defs.specs.Conversions.{sort_list}
use Rattle.icn_defs.specs.Images.{value_cmp}
use Rattle.icn_defs.specs.Rows.{new_list_of}
use Rattle.icn_heap.specs.Extents.{value_in, values_in}
use Rattle.icn_heap.specs.Heaps.{extent_of, heap_of}
use Rattle.law_names.specs.NamedSettings.{PairNamed, ValueNamed}
use Rattle.icn_vars.specs.Worlds.{setting_of}
use Rattle.icn_structfn.specs.declared.sorting.TableOrder.{TableOrder}
use Rattle.icn_structfn.specs.Sorting.{order_of, sorted_pairs, sorted_value}
use Rattle.icn_structfn.proofs.NamedValues.{fields_named, list_named, pairs_named, set_named}
use Rattle.icn_structfn.proofs.RowAnswers.{found_as}
use Rattle.icn_structfn.proofs.SortRows.{no_structure}
use Rattle.icn_structfn.proofs.sorting.sorted_list.Goals as goal

pub list_in_order-requires-clause-vals_named : goal.list_in_order-requires-clause-vals_named
list_in_order-requires-clause-vals_named g c =
    All-same (ValueNamed (g.N.Names.known c.args.names.now)) _ _ (ap (map (value_in (extent_of c.args.w.now.heap))) c.deref.ensures.value
    ∙ c.in_ok-items-in-List.ensures.items) (list_named (g.N.Names.known c.args.names.now) (heap_of c.args.w.now.heap) c.in-List.id c.requires.named)

pub returns-in_ok-items-in-List-clause-found : goal.returns-in_ok-items-in-List-clause-found
returns-in_ok-items-in-List-clause-found g c outside =
    found_as (extent_of c.list_in_order.new.w.heap) (sorted_value (g.N.Names.known c.args.names.now) c.args.n
    (value_in (extent_of c.args.w.now.heap) c.args.chosen) (value_in (extent_of c.args.w.now.heap) c.args.val))
    (new_list_of (sort_list (value_cmp (g.N.Names.known c.args.names.now) (heap_of c.args.w.now.heap))
    (map (value_in (extent_of c.args.w.now.heap)) c.deref.result.now))) (setting_of outside c.args.w.now (g.L.Locals.items c.args.l.now))
    (setting_of outside c.list_in_order.new.w (g.L.Locals.items c.args.l.now)) (value_in (extent_of c.list_in_order.new.w.heap)) c.list_in_order.result
    (λ next. ap (λ v. sorted_value (g.N.Names.known c.args.names.now) c.args.n (value_in (extent_of c.args.w.now.heap) c.args.chosen)
    (value_in (extent_of c.args.w.now.heap) v) next (setting_of outside c.args.w.now (g.L.Locals.items c.args.l.now))) c.in-List.is
    ∙ ap (λ items. new_list_of (sort_list (value_cmp (g.N.Names.known c.args.names.now) (heap_of c.args.w.now.heap)) items) next
    (setting_of outside c.args.w.now
    (g.L.Locals.items c.args.l.now))) (sym (ap (map (value_in (extent_of c.args.w.now.heap))) c.deref.ensures.value ∙ c.in_ok-items-in-List.ensures.items)))
    (c.list_in_order.ensures.found outside)

pub list_in_order-requires-in-Set-clause-vals_named : goal.list_in_order-requires-in-Set-clause-vals_named
list_in_order-requires-in-Set-clause-vals_named g c =
    All-same (ValueNamed (g.N.Names.known c.args.names.now)) _ _ (ap (map (value_in (extent_of c.args.w.now.heap))) c.deref-in-Set.ensures.value
    ∙ c.in_ok-members-in-Set.ensures.members) (set_named (g.N.Names.known c.args.names.now) (heap_of c.args.w.now.heap) c.in-Set.id c.requires.named)

pub returns-in_ok-members-in-Set-clause-found : goal.returns-in_ok-members-in-Set-clause-found
returns-in_ok-members-in-Set-clause-found g c outside =
    found_as (extent_of c.list_in_order-in-Set.new.w.heap) (sorted_value (g.N.Names.known c.args.names.now) c.args.n
    (value_in (extent_of c.args.w.now.heap) c.args.chosen) (value_in (extent_of c.args.w.now.heap) c.args.val))
    (new_list_of (sort_list (value_cmp (g.N.Names.known c.args.names.now) (heap_of c.args.w.now.heap))
    (map (value_in (extent_of c.args.w.now.heap)) c.deref-in-Set.result.now)))
    (setting_of outside c.args.w.now (g.L.Locals.items c.args.l.now)) (setting_of outside c.list_in_order-in-Set.new.w (g.L.Locals.items c.args.l.now))
    (value_in (extent_of c.list_in_order-in-Set.new.w.heap)) c.list_in_order-in-Set.result
    (λ next. ap (λ v. sorted_value (g.N.Names.known c.args.names.now) c.args.n (value_in (extent_of c.args.w.now.heap) c.args.chosen)
    (value_in (extent_of c.args.w.now.heap) v) next (setting_of outside c.args.w.now (g.L.Locals.items c.args.l.now))) c.in-Set.is
    ∙ ap (λ items. new_list_of (sort_list (value_cmp (g.N.Names.known c.args.names.now) (heap_of c.args.w.now.heap)) items) next
    (setting_of outside c.args.w.now (g.L.Locals.items c.args.l.now)))
    (sym (ap (map (value_in (extent_of c.args.w.now.heap))) c.deref-in-Set.ensures.value ∙ c.in_ok-members-in-Set.ensures.members)))
    (c.list_in_order-in-Set.ensures.found outside)

pub list_in_order-requires-in-Rec-clause-vals_named : goal.list_in_order-requires-in-Rec-clause-vals_named
list_in_order-requires-in-Rec-clause-vals_named g c =
    All-same (ValueNamed (g.N.Names.known c.args.names.now))
    _ _ (ap (map (value_in (extent_of c.args.w.now.heap))) (c.deref-in-Rec.ensures.value ∙ c.in_ok-fields-in-Rec.ensures.items) ∙ c.fields.ensures.fields)
    (fields_named (g.N.Names.known c.args.names.now) (heap_of c.args.w.now.heap) c.in-Rec.id c.requires.named)

pub returns-in_ok-fields-in-Rec-clause-found : goal.returns-in_ok-fields-in-Rec-clause-found
returns-in_ok-fields-in-Rec-clause-found g c outside =
    found_as (extent_of c.list_in_order-in-Rec.new.w.heap) (sorted_value (g.N.Names.known c.args.names.now) c.args.n
    (value_in (extent_of c.args.w.now.heap) c.args.chosen) (value_in (extent_of c.args.w.now.heap) c.args.val))
    (new_list_of (sort_list (value_cmp (g.N.Names.known c.args.names.now) (heap_of c.args.w.now.heap))
    (map (value_in (extent_of c.args.w.now.heap)) c.deref-in-Rec.result.now)))
    (setting_of outside c.args.w.now (g.L.Locals.items c.args.l.now)) (setting_of outside c.list_in_order-in-Rec.new.w (g.L.Locals.items c.args.l.now))
    (value_in (extent_of c.list_in_order-in-Rec.new.w.heap)) c.list_in_order-in-Rec.result
    (λ next. ap (λ v. sorted_value (g.N.Names.known c.args.names.now) c.args.n (value_in (extent_of c.args.w.now.heap) c.args.chosen)
    (value_in (extent_of c.args.w.now.heap) v) next (setting_of outside c.args.w.now (g.L.Locals.items c.args.l.now))) c.in-Rec.is
    ∙ ap (λ items. new_list_of (sort_list (value_cmp (g.N.Names.known c.args.names.now) (heap_of c.args.w.now.heap)) items) next
    (setting_of outside c.args.w.now (g.L.Locals.items c.args.l.now)))
    (sym (ap (map (value_in (extent_of c.args.w.now.heap))) (c.deref-in-Rec.ensures.value ∙ c.in_ok-fields-in-Rec.ensures.items) ∙ c.fields.ensures.fields)))
    (c.list_in_order-in-Rec.ensures.found outside)

pub sorted_table-requires-clause-differ : goal.sorted_table-requires-clause-differ
sorted_table-requires-clause-differ g c = subst (λ (pairs : List (Value × Value)). KeysDiffer same pairs)
    (sym (ap (map (values_in (extent_of c.args.w.now.heap))) c.deref-in-Table.ensures.value ∙ c.in_ok-pairs-in-Table.ensures.pairs)) c.keys_differ.ensures

pub sorted_table-requires-clause-pairs_named : goal.sorted_table-requires-clause-pairs_named
sorted_table-requires-clause-pairs_named g c =
    All-same (PairNamed (g.N.Names.known c.args.names.now)) _ _ (ap (map (values_in (extent_of c.args.w.now.heap))) c.deref-in-Table.ensures.value
    ∙ c.in_ok-pairs-in-Table.ensures.pairs) (pairs_named (g.N.Names.known c.args.names.now) (heap_of c.args.w.now.heap) c.in-Table.id c.requires.named)

pub returns-in_ok-pairs-in-Table-clause-found : goal.returns-in_ok-pairs-in-Table-clause-found
returns-in_ok-pairs-in-Table-clause-found g c outside =
    let fits : FitsSigned w64 c.args.n = search rules in
    found_as (extent_of c.sorted_table.new.w.heap) (sorted_value (g.N.Names.known c.args.names.now) c.args.n
    (value_in (extent_of c.args.w.now.heap) c.args.chosen) (value_in (extent_of c.args.w.now.heap) c.args.val))
    (sorted_pairs (g.N.Names.known c.args.names.now) (heap_of c.args.w.now.heap) (map (values_in (extent_of c.args.w.now.heap)) c.deref-in-Table.result.now)
    c.table_order.result (value_in (extent_of c.args.w.now.heap) c.args.chosen)) (setting_of outside c.args.w.now (g.L.Locals.items c.args.l.now))
    (setting_of outside c.sorted_table.new.w (g.L.Locals.items c.args.l.now)) (value_in (extent_of c.sorted_table.new.w.heap)) c.sorted_table.result
    (λ next. ap (λ v. sorted_value (g.N.Names.known c.args.names.now) c.args.n (value_in (extent_of c.args.w.now.heap) c.args.chosen)
    (value_in (extent_of c.args.w.now.heap) v) next (setting_of outside c.args.w.now (g.L.Locals.items c.args.l.now))) c.in-Table.is
    ∙ (ap (λ (pairs : List (Value × Value)). sorted_pairs (g.N.Names.known c.args.names.now) (heap_of c.args.w.now.heap) pairs
    (order_of c.args.n) (value_in (extent_of c.args.w.now.heap) c.args.chosen) next (setting_of outside c.args.w.now (g.L.Locals.items c.args.l.now)))
    (sym (ap (map (values_in (extent_of c.args.w.now.heap))) c.deref-in-Table.ensures.value ∙ c.in_ok-pairs-in-Table.ensures.pairs))
    ∙ ap (λ (order : TableOrder). sorted_pairs (g.N.Names.known c.args.names.now) (heap_of c.args.w.now.heap)
    (map (values_in (extent_of c.args.w.now.heap)) c.deref-in-Table.result.now) order (value_in (extent_of c.args.w.now.heap) c.args.chosen) next
    (setting_of outside c.args.w.now (g.L.Locals.items c.args.l.now))) (sym (c.table_order.ensures ∙ ap order_of (to_z-of_z w64 c.args.n fits)))))
    (c.sorted_table.ensures.found outside)

pub returns-in_default-clause-found : goal.returns-in_default-clause-found
returns-in_default-clause-found g c outside next =
    no_structure (g.N.Names.known c.args.names.now) c.args.n (value_in (extent_of c.args.w.now.heap) c.args.chosen)
    (extent_of c.args.w.now.heap) c.args.val c.in_default.not-List c.in_default.not-Set c.in_default.not-Table c.in_default.not-Rec next
    (setting_of outside c.args.w.now (g.L.Locals.items c.args.l.now))
