use Rattle.std.proofs.Common.{FitsSigned, length, rules, ℕ, ℤ, ◌-◌, ◌∙◌}
use Rattle.std.specs.Prelude.{slice_range}
use Rattle.std.specs.Int.{w64}
use mir.Val.{of_z, to_z}
use Rattle.std.proofs.lemmas.Int.{to_z-of_z}
use Rattle.icn_value.specs.Store.{list_at}
use Rattle.icn_defs.specs.Conversions.{Listed}
use Rattle.icn_defs.specs.Variables.{places, positions, section_of}
use Rattle.icn_defs.specs.Rows.{gives_list}
use Rattle.icn_heap.specs.Extents.{value_in}
use Rattle.icn_heap.specs.Heaps.{extent_of, heap_of}
use Rattle.icn_vars.specs.Worlds.{item_in, reach_of, setting_of}
use Rattle.icn_args.proofs.RowAnswers.{answer_then, row_stops, stop_lives}
use Rattle.icn_ops.specs.Sections.{second_of}
use Rattle.icn_ops.proofs.PlaceRows.{places_held}
use Rattle.icn_value.specs.declared.val.Val.TheVariants.{List as ListVal}
use Rattle.icn_ops.proofs.sections.list_section.Goals as goal

pub returns-in_err-m-clause-row : goal.returns-in_err-m-clause-row
returns-in_err-m-clause-row g c = λ outside.
    row_stops (extent_of c.args.w.now.heap)
    (positions (second_of c.args.kind) (value_in (extent_of c.args.w.now.heap) c.args.from) (value_in (extent_of c.args.w.now.heap) c.args.to))
    (λ (range : ℤ × ℤ) setting. places range.0 range.1 (length (list_at setting.world.heap c.args.list).items)
    (λ (ends : ℕ × ℕ). gives_list (slice_range (list_at setting.world.heap c.args.list).items (ends.0 - 1) (ends.1 - 1))) setting)
    (setting_of outside c.args.w.now (g.L.Locals.items c.args.l.now)) (setting_of outside c.args.w.now (g.L.Locals.items c.args.l.now)) c.in_err-m.field-0.0
    c.from_residual.result c.from_residual.ensures.1 (c.in_err-m.ensures.found (setting_of outside c.args.w.now (g.L.Locals.items c.args.l.now)))

pub returns-in_err-m-clause-live : goal.returns-in_err-m-clause-live
returns-in_err-m-clause-live g c =
    stop_lives
    (reach_of c.args.w.now (g.L.Locals.items c.args.l.now)) c.in_err-m.field-0.0 c.from_residual.result c.from_residual.ensures.1 c.in_err-m.ensures.stops

pub returns-in-Some-clause-row : goal.returns-in-Some-clause-row
returns-in-Some-clause-row g c = λ outside.
    answer_then (extent_of c.new_section.new.w.heap)
    (section_of (second_of c.args.kind) (item_in (extent_of c.args.w.now.heap) c.args.x) (value_in (extent_of c.args.w.now.heap) (ListVal c.args.list))
    (value_in (extent_of c.args.w.now.heap) c.args.from) (value_in (extent_of c.args.w.now.heap) c.args.to) (Listed c.args.list))
    (gives_list (slice_range (list_at (heap_of c.args.w.now.heap) c.args.list).items (c.in-Some.ends.0 - 1) (c.in-Some.ends.1 - 1)))
    (setting_of outside c.args.w.now (g.L.Locals.items c.args.l.now)) (setting_of outside c.args.w.now (g.L.Locals.items c.args.l.now))
    (setting_of outside c.new_section.new.w (g.L.Locals.items c.args.l.now)) c.new_section.result (c.in_ok-m.ensures.found (setting_of outside c.args.w.now
    (g.L.Locals.items c.args.l.now)) (λ (range : ℤ × ℤ) setting. places range.0 range.1 (length (list_at setting.world.heap c.args.list).items)
    (λ (ends : ℕ × ℕ). gives_list (slice_range (list_at setting.world.heap c.args.list).items (ends.0 - 1) (ends.1 - 1))) setting) ∙ places_held c.in_ok-m.m
    (to_z w64 (of_z w64 c.in_ok-m.m)) c.in_ok-m.n (to_z w64 (of_z w64 c.in_ok-m.n)) (length (list_at (heap_of c.args.w.now.heap) c.args.list).items)
    c.list_count.result (λ (ends : ℕ × ℕ). gives_list (slice_range (list_at (heap_of c.args.w.now.heap) c.args.list).items (ends.0 - 1) (ends.1 - 1)))
    (setting_of outside c.args.w.now (g.L.Locals.items c.args.l.now)) _ (to_z-of_z w64 c.in_ok-m.m (let fits : FitsSigned w64 c.in_ok-m.m = search rules in
    fits)) (to_z-of_z w64 c.in_ok-m.n (let fits : FitsSigned w64 c.in_ok-m.n = search rules in fits)) c.list_count.ensures.count
    (c.in-Some.ensures.places (λ (ends : ℕ × ℕ). gives_list (slice_range (list_at (heap_of c.args.w.now.heap) c.args.list).items (ends.0 - 1) (ends.1 - 1)))
    (setting_of outside c.args.w.now (g.L.Locals.items c.args.l.now)))) (c.new_section.ensures.row outside)

pub returns-in-None-clause-row : goal.returns-in-None-clause-row
returns-in-None-clause-row g c = λ outside.
    c.in_ok-m.ensures.found (setting_of outside c.args.w.now (g.L.Locals.items c.args.l.now))
    (λ (range : ℤ × ℤ) setting. places range.0 range.1 (length (list_at setting.world.heap c.args.list).items)
    (λ (ends : ℕ × ℕ). gives_list (slice_range (list_at setting.world.heap c.args.list).items (ends.0 - 1) (ends.1 - 1))) setting)
    ∙ places_held c.in_ok-m.m (to_z w64 (of_z w64 c.in_ok-m.m)) c.in_ok-m.n (to_z w64 (of_z w64 c.in_ok-m.n))
    (length (list_at (heap_of c.args.w.now.heap) c.args.list).items) c.list_count.result
    (λ (ends : ℕ × ℕ). gives_list (slice_range (list_at (heap_of c.args.w.now.heap) c.args.list).items (ends.0 - 1) (ends.1 - 1)))
    (setting_of outside c.args.w.now (g.L.Locals.items c.args.l.now)) _ (to_z-of_z w64 c.in_ok-m.m (let fits : FitsSigned w64 c.in_ok-m.m = search rules in
    fits)) (to_z-of_z w64 c.in_ok-m.n (let fits : FitsSigned w64 c.in_ok-m.n = search rules in fits)) c.list_count.ensures.count
    (c.in-None.ensures.places (λ (ends : ℕ × ℕ). gives_list (slice_range (list_at (heap_of c.args.w.now.heap) c.args.list).items (ends.0 - 1) (ends.1 - 1)))
    (setting_of outside c.args.w.now (g.L.Locals.items c.args.l.now)))
