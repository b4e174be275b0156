use Rattle.std.proofs.Common.{FitsSigned, ap, length, rules, ℕ, ℤ, ◌-◌, ◌∙◌}
use Rattle.std.specs.Option.{option_map}
use Rattle.std.specs.Int.{w64}
use mir.Val.{of_z, to_z}
use Rattle.std.proofs.lemmas.Int.{to_z-of_z}
use Rattle.icn_defs.specs.Conversions.{Textual}
use Rattle.icn_defs.specs.Elements.{part_item, text_variable}
use Rattle.icn_defs.specs.Variables.{places, positions, section_of}
use Rattle.icn_defs.specs.Rows.{costs_text, gives}
use Rattle.icn_heap.specs.Extents.{text_in, value_in}
use Rattle.icn_heap.specs.Heaps.{extent_of}
use Rattle.icn_vars.specs.Worlds.{item_in, reach_of, setting_of, variable_in}
use Rattle.icn_vars.proofs.KeptItems.{item_kept, item_stays}
use Rattle.icn_args.specs.RowWords.{the_text}
use Rattle.icn_args.proofs.RowAnswers.{answer_then, row_stops, row_stops_at, stop_lives}
use Rattle.icn_ops.specs.Sections.{second_of}
use Rattle.icn_ops.proofs.PlaceRows.{part_given, places_held}
use Rattle.icn_ops.proofs.sections.text_section.Goals as goal

pub returns-in_err-m-clause-row : goal.returns-in_err-m-clause-row
returns-in_err-m-clause-row g c = λ outside.
    row_stops (extent_of c.args.w.now.heap) (positions (second_of c.args.kind) (value_in (extent_of c.args.w.now.heap) c.args.from)
    (value_in (extent_of c.args.w.now.heap) c.args.to)) (λ (range : ℤ × ℤ). costs_text (value_in (extent_of c.args.w.now.heap) c.args.val)
    (places range.0 range.1 (length (the_text (value_in (extent_of c.args.w.now.heap) c.args.val)))
    (λ (ends : ℕ × ℕ). gives (part_item (text_variable (item_in (extent_of c.args.w.now.heap) c.args.x) (value_in (extent_of c.args.w.now.heap) c.args.val))
    (the_text (value_in (extent_of c.args.w.now.heap) c.args.val)) ends.0 (ends.1 - ends.0)))))
    (setting_of outside c.args.w.now (g.L.Locals.items c.args.l.now)) (setting_of outside c.args.w.now (g.L.Locals.items c.args.l.now)) c.in_err-m.field-0.0
    c.from_residual.result c.from_residual.ensures.1 (c.in_err-m.ensures.found (setting_of outside c.args.w.now (g.L.Locals.items c.args.l.now)))

pub returns-in_err-m-clause-live : goal.returns-in_err-m-clause-live
returns-in_err-m-clause-live g c =
    stop_lives
    (reach_of c.args.w.now (g.L.Locals.items c.args.l.now)) c.in_err-m.field-0.0 c.from_residual.result c.from_residual.ensures.1 c.in_err-m.ensures.stops

pub returns-in_err-text-clause-row : goal.returns-in_err-text-clause-row
returns-in_err-text-clause-row g c = λ outside.
    answer_then (extent_of c.text_of.new.w.heap) (section_of (second_of c.args.kind) (item_in (extent_of c.args.w.now.heap) c.args.x)
    (value_in (extent_of c.args.w.now.heap) c.args.val) (value_in (extent_of c.args.w.now.heap) c.args.from) (value_in (extent_of c.args.w.now.heap) c.args.to)
    (Textual (the_text (value_in (extent_of c.args.w.now.heap) c.args.val)))) (costs_text (value_in (extent_of c.args.w.now.heap) c.args.val)
    (places c.in_ok-m.m c.in_ok-m.n (length (the_text (value_in (extent_of c.args.w.now.heap) c.args.val)))
    (λ (ends : ℕ × ℕ). gives (part_item (text_variable (item_in (extent_of c.args.w.now.heap) c.args.x) (value_in (extent_of c.args.w.now.heap) c.args.val))
    (the_text (value_in (extent_of c.args.w.now.heap) c.args.val)) ends.0 (ends.1 - ends.0)))))
    (setting_of outside c.args.w.now (g.L.Locals.items c.args.l.now)) (setting_of outside c.args.w.now (g.L.Locals.items c.args.l.now))
    (setting_of outside c.text_of.new.w (g.L.Locals.items c.args.l.now)) c.from_residual-in_err-text.result
    (c.in_ok-m.ensures.found (setting_of outside c.args.w.now (g.L.Locals.items c.args.l.now)) (λ (range : ℤ × ℤ). costs_text
    (value_in (extent_of c.args.w.now.heap) c.args.val) (places range.0 range.1 (length (the_text (value_in (extent_of c.args.w.now.heap) c.args.val)))
    (λ (ends : ℕ × ℕ). gives (part_item (text_variable (item_in (extent_of c.args.w.now.heap) c.args.x) (value_in (extent_of c.args.w.now.heap) c.args.val))
    (the_text (value_in (extent_of c.args.w.now.heap) c.args.val)) ends.0 (ends.1 - ends.0))))))
    (row_stops_at (extent_of c.text_of.new.w.heap) (costs_text (value_in (extent_of c.args.w.now.heap) c.args.val))
    (places c.in_ok-m.m c.in_ok-m.n (length (the_text (value_in (extent_of c.args.w.now.heap) c.args.val)))
    (λ (ends : ℕ × ℕ). gives (part_item (text_variable (item_in (extent_of c.args.w.now.heap) c.args.x) (value_in (extent_of c.args.w.now.heap) c.args.val))
    (the_text (value_in (extent_of c.args.w.now.heap) c.args.val)) ends.0 (ends.1 - ends.0))))
    (setting_of outside c.args.w.now (g.L.Locals.items c.args.l.now)) (setting_of outside c.text_of.new.w (g.L.Locals.items c.args.l.now))
    c.in_err-text.field-0.0 c.from_residual-in_err-text.result c.from_residual-in_err-text.ensures.1 (c.in_err-text.ensures.step outside))

pub returns-in_err-text-clause-live : goal.returns-in_err-text-clause-live
returns-in_err-text-clause-live g c =
    stop_lives (reach_of c.text_of.new.w (g.L.Locals.items c.args.l.now)) c.in_err-text.field-0.0 c.from_residual-in_err-text.result
    c.from_residual-in_err-text.ensures.1 c.in_err-text.ensures.stops

pub returns-in-Some-clause-row : goal.returns-in-Some-clause-row
returns-in-Some-clause-row g c = λ outside.
    c.in_ok-m.ensures.found (setting_of outside c.args.w.now (g.L.Locals.items c.args.l.now)) (λ (range : ℤ × ℤ). costs_text
    (value_in (extent_of c.args.w.now.heap) c.args.val) (places range.0 range.1 (length (the_text (value_in (extent_of c.args.w.now.heap) c.args.val)))
    (λ (ends : ℕ × ℕ). gives (part_item (text_variable (item_in (extent_of c.args.w.now.heap) c.args.x) (value_in (extent_of c.args.w.now.heap) c.args.val))
    (the_text (value_in (extent_of c.args.w.now.heap) c.args.val)) ends.0 (ends.1 - ends.0)))))
    ∙ (c.in_ok-text.ensures.step outside (places c.in_ok-m.m c.in_ok-m.n (length (the_text (value_in (extent_of c.args.w.now.heap) c.args.val)))
    (λ (ends : ℕ × ℕ). gives (part_item (text_variable (item_in (extent_of c.args.w.now.heap) c.args.x) (value_in (extent_of c.args.w.now.heap) c.args.val))
    (the_text (value_in (extent_of c.args.w.now.heap) c.args.val)) ends.0 (ends.1 - ends.0))))
    ∙ (places_held c.in_ok-m.m (to_z w64 (of_z w64 c.in_ok-m.m)) c.in_ok-m.n
    (to_z w64 (of_z w64 c.in_ok-m.n)) (length (the_text (value_in (extent_of c.args.w.now.heap) c.args.val))) c.text_length.result
    (λ (ends : ℕ × ℕ). gives (part_item (text_variable (item_in (extent_of c.args.w.now.heap) c.args.x) (value_in (extent_of c.args.w.now.heap) c.args.val))
    (the_text (value_in (extent_of c.args.w.now.heap) c.args.val)) ends.0 (ends.1 - ends.0)))
    (setting_of outside c.text_of.new.w (g.L.Locals.items c.args.l.now)) _ (to_z-of_z w64 c.in_ok-m.m (let fits : FitsSigned w64 c.in_ok-m.m = search rules in
    fits)) (to_z-of_z w64 c.in_ok-m.n (let fits : FitsSigned w64 c.in_ok-m.n = search rules in fits)) (c.text_length.ensures.count
    ∙ ap length c.in_ok-text.ensures.text) (c.in-Some.ensures.places (λ (ends : ℕ × ℕ). gives (part_item (text_variable (item_in (extent_of c.args.w.now.heap)
    c.args.x) (value_in (extent_of c.args.w.now.heap) c.args.val)) (the_text (value_in (extent_of c.args.w.now.heap) c.args.val)) ends.0 (ends.1 - ends.0)))
    (setting_of outside c.text_of.new.w (g.L.Locals.items c.args.l.now)))
    ∙ part_given (item_in (extent_of c.args.w.now.heap) c.args.x) (item_in (extent_of c.text_of.new.w.heap) c.args.x)
    (value_in (extent_of c.args.w.now.heap) c.args.val) (value_in (extent_of c.text_of.new.w.heap) c.args.val)
    (the_text (value_in (extent_of c.args.w.now.heap) c.args.val)) (text_in (extent_of c.text_of.new.w.heap) c.in_ok-text.text)
    (option_map (variable_in (extent_of c.text_of.new.w.heap)) c.text_holder-holder.result) (item_in (extent_of c.text_of.new.w.heap) c.part_item.result)
    c.in-Some.ends.0 (c.in-Some.ends.1 - c.in-Some.ends.0) (setting_of outside c.text_of.new.w (g.L.Locals.items c.args.l.now)) c.part_item.ensures.item
    (c.text_holder-holder.ensures.holder (extent_of c.text_of.new.w.heap)) (item_kept c.text_of.ensures.kept.items c.args.x c.requires.item)
    (c.text_of.ensures.kept.items.extent.value c.args.val c.requires.val) c.in_ok-text.ensures.text))

pub returns-in-None-clause-row : goal.returns-in-None-clause-row
returns-in-None-clause-row g c = λ outside.
    c.in_ok-m.ensures.found (setting_of outside c.args.w.now (g.L.Locals.items c.args.l.now)) (λ (range : ℤ × ℤ). costs_text
    (value_in (extent_of c.args.w.now.heap) c.args.val) (places range.0 range.1 (length (the_text (value_in (extent_of c.args.w.now.heap) c.args.val)))
    (λ (ends : ℕ × ℕ). gives (part_item (text_variable (item_in (extent_of c.args.w.now.heap) c.args.x) (value_in (extent_of c.args.w.now.heap) c.args.val))
    (the_text (value_in (extent_of c.args.w.now.heap) c.args.val)) ends.0 (ends.1 - ends.0)))))
    ∙ (c.in_ok-text.ensures.step outside (places c.in_ok-m.m c.in_ok-m.n (length (the_text (value_in (extent_of c.args.w.now.heap) c.args.val)))
    (λ (ends : ℕ × ℕ). gives (part_item (text_variable (item_in (extent_of c.args.w.now.heap) c.args.x) (value_in (extent_of c.args.w.now.heap) c.args.val))
    (the_text (value_in (extent_of c.args.w.now.heap) c.args.val)) ends.0 (ends.1 - ends.0))))
    ∙ places_held c.in_ok-m.m (to_z w64 (of_z w64 c.in_ok-m.m)) c.in_ok-m.n (to_z w64 (of_z w64 c.in_ok-m.n))
    (length (the_text (value_in (extent_of c.args.w.now.heap) c.args.val))) c.text_length.result
    (λ (ends : ℕ × ℕ). gives (part_item (text_variable (item_in (extent_of c.args.w.now.heap) c.args.x) (value_in (extent_of c.args.w.now.heap) c.args.val))
    (the_text (value_in (extent_of c.args.w.now.heap) c.args.val)) ends.0 (ends.1 - ends.0)))
    (setting_of outside c.text_of.new.w (g.L.Locals.items c.args.l.now)) _ (to_z-of_z w64 c.in_ok-m.m (let fits : FitsSigned w64 c.in_ok-m.m = search rules in
    fits)) (to_z-of_z w64 c.in_ok-m.n (let fits : FitsSigned w64 c.in_ok-m.n = search rules in fits)) (c.text_length.ensures.count
    ∙ ap length c.in_ok-text.ensures.text) (c.in-None.ensures.places (λ (ends : ℕ × ℕ). gives (part_item (text_variable (item_in (extent_of c.args.w.now.heap)
    c.args.x) (value_in (extent_of c.args.w.now.heap) c.args.val)) (the_text (value_in (extent_of c.args.w.now.heap) c.args.val)) ends.0 (ends.1 - ends.0)))
    (setting_of outside c.text_of.new.w (g.L.Locals.items c.args.l.now))))

pub part_item-requires-clause-live : goal.part_item-requires-clause-live
part_item-requires-clause-live g c =
    c.text_holder-holder.ensures.live (reach_of c.text_of.new.w (g.L.Locals.items c.args.l.now))
    (item_stays c.text_of.ensures.kept.items c.args.x c.requires.item)

pub part_item-requires-clause-short : goal.part_item-requires-clause-short
part_item-requires-clause-short g c = c.text_holder-holder.ensures.short c.requires.short
