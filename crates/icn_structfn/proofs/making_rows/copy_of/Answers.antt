use Rattle.std.proofs.Common.{◌∙◌, sym, ap, map}
use Rattle.icn_value.specs.Store.{set_at, table_at, record_at}
use Rattle.icn_heap.specs.Extents.{value_in}
use Rattle.icn_heap.specs.Heaps.{extent_of, heap_of}
use Rattle.icn_defs.specs.Operations.{new_set_of}
use Rattle.icn_defs.specs.Rows.{new_list_of}
use Rattle.icn_defs.specs.Structures.{new_record_of, new_table_of}
use Rattle.icn_vars.specs.Worlds.{setting_of}
use Rattle.icn_structfn.specs.Copies.{copy_of_value}
use Rattle.icn_structfn.proofs.RowAnswers.{found_as}
use Rattle.icn_structfn.proofs.making_rows.copy_of.Goals as goal

pub returns-in_ok-items-in-List-clause-found : goal.returns-in_ok-items-in-List-clause-found
returns-in_ok-items-in-List-clause-found g c outside =
    found_as (extent_of c.new_list.new.w.heap) (copy_of_value (value_in (extent_of c.args.w.now.heap) c.args.val))
    (new_list_of (map (value_in (extent_of c.args.w.now.heap)) c.deref.result.now)) (setting_of outside c.args.w.now (g.L.Locals.items c.args.l.now))
    (setting_of outside c.new_list.new.w (g.L.Locals.items c.args.l.now)) (value_in (extent_of c.new_list.new.w.heap)) c.new_list.result
    (λ next. ap (λ v. copy_of_value (value_in (extent_of c.args.w.now.heap) v) next (setting_of outside c.args.w.now (g.L.Locals.items c.args.l.now)))
    c.in-List.is ∙ ap (λ items. new_list_of items next (setting_of outside c.args.w.now (g.L.Locals.items c.args.l.now)))
    (sym (ap (map (value_in (extent_of c.args.w.now.heap))) c.deref.ensures.value ∙ c.in_ok-items-in-List.ensures.items))) (c.new_list.ensures.found outside)

pub returns-in-Set-clause-found : goal.returns-in-Set-clause-found
returns-in-Set-clause-found g c outside =
    found_as (extent_of c.set_like.new.w.heap) (copy_of_value (value_in (extent_of c.args.w.now.heap) c.args.val))
    (new_set_of (set_at (heap_of c.args.w.now.heap) c.in-Set.id)) (setting_of outside c.args.w.now (g.L.Locals.items c.args.l.now))
    (setting_of outside c.set_like.new.w (g.L.Locals.items c.args.l.now)) (value_in (extent_of c.set_like.new.w.heap)) c.set_like.result
    (λ next. ap (λ v. copy_of_value (value_in (extent_of c.args.w.now.heap) v) next (setting_of outside c.args.w.now (g.L.Locals.items c.args.l.now)))
    c.in-Set.is) (c.set_like.ensures.found outside)

pub returns-in-Table-clause-found : goal.returns-in-Table-clause-found
returns-in-Table-clause-found g c outside =
    found_as (extent_of c.table_like.new.w.heap) (copy_of_value (value_in (extent_of c.args.w.now.heap) c.args.val))
    (new_table_of (table_at (heap_of c.args.w.now.heap) c.in-Table.id)) (setting_of outside c.args.w.now (g.L.Locals.items c.args.l.now))
    (setting_of outside c.table_like.new.w (g.L.Locals.items c.args.l.now)) (value_in (extent_of c.table_like.new.w.heap)) c.table_like.result
    (λ next. ap (λ v. copy_of_value (value_in (extent_of c.args.w.now.heap) v) next (setting_of outside c.args.w.now (g.L.Locals.items c.args.l.now)))
    c.in-Table.is) (c.table_like.ensures.found outside)

pub returns-in_ok-fields-in-Rec-clause-found : goal.returns-in_ok-fields-in-Rec-clause-found
returns-in_ok-fields-in-Rec-clause-found g c outside =
    found_as (extent_of c.new_record.new.w.heap) (copy_of_value (value_in (extent_of c.args.w.now.heap) c.args.val))
    (new_record_of (record { kind = c.kind-kind.result; fields = map (value_in (extent_of c.args.w.now.heap)) c.deref-in-Rec.result.now }))
    (setting_of outside c.args.w.now (g.L.Locals.items c.args.l.now)) (setting_of outside c.new_record.new.w (g.L.Locals.items c.args.l.now))
    (value_in (extent_of c.new_record.new.w.heap)) c.new_record.result
    (λ next. ap (λ v. copy_of_value (value_in (extent_of c.args.w.now.heap) v) next (setting_of outside c.args.w.now (g.L.Locals.items c.args.l.now)))
    c.in-Rec.is ∙ (ap (λ fields. new_record_of (record { kind = (record_at (heap_of c.args.w.now.heap) c.in-Rec.id).kind; fields = fields }) next
    (setting_of outside c.args.w.now (g.L.Locals.items c.args.l.now)))
    (sym (ap (map (value_in (extent_of c.args.w.now.heap))) (c.deref-in-Rec.ensures.value ∙ c.in_ok-fields-in-Rec.ensures.items) ∙ c.fields.ensures.fields))
    ∙ ap (λ kind. new_record_of (record { kind = kind; fields = map (value_in (extent_of c.args.w.now.heap)) c.deref-in-Rec.result.now }) next
    (setting_of outside c.args.w.now (g.L.Locals.items c.args.l.now))) (sym c.kind-kind.ensures))) (c.new_record.ensures.found outside)
