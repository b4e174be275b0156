use Rattle.std.proofs.Common.{FitsSigned, ap, length, rules, ◌∙◌}
use Rattle.std.specs.Option.{option_map}
use Rattle.std.specs.Int.{w64}
use mir.Val.{of_z, to_z}
use Rattle.std.proofs.lemmas.Int.{to_z-of_z}
use Rattle.icn_defs.specs.Arguments.{integer}
use Rattle.icn_defs.specs.Conversions.{Textual}
use Rattle.icn_defs.specs.Elements.{part_item, text_variable}
use Rattle.icn_defs.specs.Variables.{element_position, subscript_of}
use Rattle.icn_defs.specs.Rows.{costs_text, gives}
use Rattle.icn_heap.specs.Extents.{text_in, value_in}
use Rattle.icn_heap.specs.Heaps.{extent_of}
use Rattle.icn_vars.specs.Worlds.{item_in, reach_of, setting_of, variable_in}
use Rattle.icn_vars.proofs.KeptItems.{item_kept, item_stays}
use Rattle.icn_args.specs.RowWords.{the_text}
use Rattle.icn_args.proofs.RowAnswers.{answer_then, row_stops, row_stops_at, stop_lives}
use Rattle.icn_ops.proofs.PlaceRows.{element_held, part_given}
use Rattle.icn_ops.proofs.subscripts.text_subscript.Goals as goal

pub returns-in_err-n-clause-row : goal.returns-in_err-n-clause-row
returns-in_err-n-clause-row g c = λ outside.
    row_stops (extent_of c.args.w.now.heap) (integer (value_in (extent_of c.args.w.now.heap) c.args.at)) (λ n.
    costs_text (value_in (extent_of c.args.w.now.heap) c.args.val) (element_position n (length (the_text (value_in (extent_of c.args.w.now.heap) c.args.val)))
    (λ place. gives (part_item (text_variable (item_in (extent_of c.args.w.now.heap) c.args.x) (value_in (extent_of c.args.w.now.heap) c.args.val))
    (the_text (value_in (extent_of c.args.w.now.heap) c.args.val)) place 1))))
    (setting_of outside c.args.w.now (g.L.Locals.items c.args.l.now)) (setting_of outside c.args.w.now (g.L.Locals.items c.args.l.now)) c.in_err-n.field-0.0
    c.from_residual.result c.from_residual.ensures.1 (c.in_err-n.ensures.found (setting_of outside c.args.w.now (g.L.Locals.items c.args.l.now)))

pub returns-in_err-n-clause-live : goal.returns-in_err-n-clause-live
returns-in_err-n-clause-live g c =
    stop_lives
    (reach_of c.args.w.now (g.L.Locals.items c.args.l.now)) c.in_err-n.field-0.0 c.from_residual.result c.from_residual.ensures.1 c.in_err-n.ensures.stops

pub returns-in_err-text-clause-row : goal.returns-in_err-text-clause-row
returns-in_err-text-clause-row g c = λ outside.
    answer_then (extent_of c.text_of.new.w.heap) (subscript_of (item_in (extent_of c.args.w.now.heap) c.args.x) (value_in (extent_of c.args.w.now.heap)
    c.args.val) (value_in (extent_of c.args.w.now.heap) c.args.at) (Textual (the_text (value_in (extent_of c.args.w.now.heap) c.args.val)))) (costs_text
    (value_in (extent_of c.args.w.now.heap) c.args.val) (element_position c.in_ok-n.n (length (the_text (value_in (extent_of c.args.w.now.heap) c.args.val)))
    (λ place. gives (part_item (text_variable (item_in (extent_of c.args.w.now.heap) c.args.x) (value_in (extent_of c.args.w.now.heap) c.args.val))
    (the_text (value_in (extent_of c.args.w.now.heap) c.args.val)) place 1)))) (setting_of outside c.args.w.now (g.L.Locals.items c.args.l.now))
    (setting_of outside c.args.w.now (g.L.Locals.items c.args.l.now)) (setting_of outside c.text_of.new.w (g.L.Locals.items c.args.l.now))
    c.from_residual-in_err-text.result (c.in_ok-n.ensures.found (setting_of outside c.args.w.now (g.L.Locals.items c.args.l.now)) (λ n.
    costs_text (value_in (extent_of c.args.w.now.heap) c.args.val) (element_position n (length (the_text (value_in (extent_of c.args.w.now.heap) c.args.val)))
    (λ place. gives (part_item (text_variable (item_in (extent_of c.args.w.now.heap) c.args.x) (value_in (extent_of c.args.w.now.heap) c.args.val))
    (the_text (value_in (extent_of c.args.w.now.heap) c.args.val)) place 1)))))
    (row_stops_at (extent_of c.text_of.new.w.heap) (costs_text (value_in (extent_of c.args.w.now.heap) c.args.val)) (element_position c.in_ok-n.n
    (length (the_text (value_in (extent_of c.args.w.now.heap) c.args.val))) (λ place. gives (part_item (text_variable (item_in (extent_of c.args.w.now.heap)
    c.args.x) (value_in (extent_of c.args.w.now.heap) c.args.val)) (the_text (value_in (extent_of c.args.w.now.heap) c.args.val)) place 1)))
    (setting_of outside c.args.w.now (g.L.Locals.items c.args.l.now)) (setting_of outside c.text_of.new.w (g.L.Locals.items c.args.l.now))
    c.in_err-text.field-0.0 c.from_residual-in_err-text.result c.from_residual-in_err-text.ensures.1 (c.in_err-text.ensures.step outside))

pub returns-in_err-text-clause-live : goal.returns-in_err-text-clause-live
returns-in_err-text-clause-live g c =
    stop_lives (reach_of c.text_of.new.w (g.L.Locals.items c.args.l.now)) c.in_err-text.field-0.0 c.from_residual-in_err-text.result
    c.from_residual-in_err-text.ensures.1 c.in_err-text.ensures.stops

pub returns-in-Some-clause-row : goal.returns-in-Some-clause-row
returns-in-Some-clause-row g c = λ outside.
    c.in_ok-n.ensures.found (setting_of outside c.args.w.now (g.L.Locals.items c.args.l.now)) (λ n.
    costs_text (value_in (extent_of c.args.w.now.heap) c.args.val) (element_position n (length (the_text (value_in (extent_of c.args.w.now.heap) c.args.val)))
    (λ place. gives (part_item (text_variable (item_in (extent_of c.args.w.now.heap) c.args.x) (value_in (extent_of c.args.w.now.heap) c.args.val))
    (the_text (value_in (extent_of c.args.w.now.heap) c.args.val)) place 1))))
    ∙ (c.in_ok-text.ensures.step outside (element_position c.in_ok-n.n (length (the_text (value_in (extent_of c.args.w.now.heap) c.args.val)))
    (λ place. gives (part_item (text_variable (item_in (extent_of c.args.w.now.heap) c.args.x) (value_in (extent_of c.args.w.now.heap) c.args.val))
    (the_text (value_in (extent_of c.args.w.now.heap) c.args.val)) place 1)))
    ∙ (element_held c.in_ok-n.n (to_z w64 (of_z w64 c.in_ok-n.n)) (length (the_text (value_in (extent_of c.args.w.now.heap) c.args.val))) c.text_length.result
    (λ place. gives (part_item (text_variable (item_in (extent_of c.args.w.now.heap) c.args.x) (value_in (extent_of c.args.w.now.heap) c.args.val))
    (the_text (value_in (extent_of c.args.w.now.heap) c.args.val)) place 1)) (setting_of outside c.text_of.new.w (g.L.Locals.items c.args.l.now))
    _ (to_z-of_z w64 c.in_ok-n.n (let fits : FitsSigned w64 c.in_ok-n.n = search rules in fits))
    (c.text_length.ensures.count ∙ ap length c.in_ok-text.ensures.text)
    (c.in-Some.ensures.place (λ place. gives (part_item (text_variable (item_in (extent_of c.args.w.now.heap) c.args.x) (value_in (extent_of c.args.w.now.heap)
    c.args.val)) (the_text (value_in (extent_of c.args.w.now.heap) c.args.val)) place 1)) (setting_of outside c.text_of.new.w (g.L.Locals.items c.args.l.now)))
    ∙ part_given (item_in (extent_of c.args.w.now.heap) c.args.x) (item_in (extent_of c.text_of.new.w.heap) c.args.x) (value_in (extent_of c.args.w.now.heap)
    c.args.val) (value_in (extent_of c.text_of.new.w.heap) c.args.val) (the_text (value_in (extent_of c.args.w.now.heap) c.args.val))
    (text_in (extent_of c.text_of.new.w.heap) c.in_ok-text.text) (option_map (variable_in (extent_of c.text_of.new.w.heap)) c.text_holder-holder.result)
    (item_in (extent_of c.text_of.new.w.heap) c.part_item.result) c.in-Some.place 1 (setting_of outside c.text_of.new.w (g.L.Locals.items c.args.l.now))
    c.part_item.ensures.item (c.text_holder-holder.ensures.holder (extent_of c.text_of.new.w.heap))
    (item_kept c.text_of.ensures.kept.items c.args.x c.requires.item)
    (c.text_of.ensures.kept.items.extent.value c.args.val c.requires.val) c.in_ok-text.ensures.text))

pub returns-in-None-clause-row : goal.returns-in-None-clause-row
returns-in-None-clause-row g c = λ outside.
    c.in_ok-n.ensures.found (setting_of outside c.args.w.now (g.L.Locals.items c.args.l.now)) (λ n.
    costs_text (value_in (extent_of c.args.w.now.heap) c.args.val) (element_position n (length (the_text (value_in (extent_of c.args.w.now.heap) c.args.val)))
    (λ place. gives (part_item (text_variable (item_in (extent_of c.args.w.now.heap) c.args.x) (value_in (extent_of c.args.w.now.heap) c.args.val))
    (the_text (value_in (extent_of c.args.w.now.heap) c.args.val)) place 1))))
    ∙ (c.in_ok-text.ensures.step outside (element_position c.in_ok-n.n (length (the_text (value_in (extent_of c.args.w.now.heap) c.args.val)))
    (λ place. gives (part_item (text_variable (item_in (extent_of c.args.w.now.heap) c.args.x) (value_in (extent_of c.args.w.now.heap) c.args.val))
    (the_text (value_in (extent_of c.args.w.now.heap) c.args.val)) place 1)))
    ∙ element_held c.in_ok-n.n (to_z w64 (of_z w64 c.in_ok-n.n)) (length (the_text (value_in (extent_of c.args.w.now.heap) c.args.val))) c.text_length.result
    (λ place. gives (part_item (text_variable (item_in (extent_of c.args.w.now.heap) c.args.x) (value_in (extent_of c.args.w.now.heap) c.args.val))
    (the_text (value_in (extent_of c.args.w.now.heap) c.args.val)) place 1)) (setting_of outside c.text_of.new.w (g.L.Locals.items c.args.l.now))
    _ (to_z-of_z w64 c.in_ok-n.n (let fits : FitsSigned w64 c.in_ok-n.n = search rules in fits))
    (c.text_length.ensures.count ∙ ap length c.in_ok-text.ensures.text)
    (c.in-None.ensures.place (λ place. gives (part_item (text_variable (item_in (extent_of c.args.w.now.heap) c.args.x) (value_in (extent_of c.args.w.now.heap)
    c.args.val)) (the_text (value_in (extent_of c.args.w.now.heap) c.args.val)) place 1)) (setting_of outside c.text_of.new.w (g.L.Locals.items c.args.l.now))))

pub part_item-requires-clause-live : goal.part_item-requires-clause-live
part_item-requires-clause-live g c =
    c.text_holder-holder.ensures.live (reach_of c.text_of.new.w (g.L.Locals.items c.args.l.now))
    (item_stays c.text_of.ensures.kept.items c.args.x c.requires.item)

pub part_item-requires-clause-short : goal.part_item-requires-clause-short
part_item-requires-clause-short g c = c.text_holder-holder.ensures.short c.requires.short
