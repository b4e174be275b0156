use Rattle.std.proofs.Common.{List, ap, sym, ℕ, ◌∙◌}
use Rattle.icn_defs.specs.Elements.{text_bytes_from, text_elements, text_variable, variable_bytes_from}
use Rattle.icn_defs.specs.Rows.{costs_text}
use Rattle.icn_heap.specs.Extents.{text_in, value_in}
use Rattle.icn_heap.specs.Heaps.{extent_of}
use Rattle.icn_vars.specs.Worlds.{item_in, reach_of, setting_of, variable_in}
use Rattle.icn_args.specs.RowWords.{the_text}
use Rattle.icn_args.proofs.RowAnswers.{answer_then, row_stops_at, stop_lives}
use Rattle.icn_ops.proofs.walks.text_elements.Goals as goal

pub returns-in-Some-clause-row : goal.returns-in-Some-clause-row
returns-in-Some-clause-row g c = λ outside.
    answer_then (extent_of c.args.w.now.heap)
    (text_elements (text_variable (item_in (extent_of c.args.w.now.heap) c.args.x) (value_in (extent_of c.args.w.now.heap) c.args.val))
    (value_in (extent_of c.args.w.now.heap) c.args.val) (the_text (value_in (extent_of c.args.w.now.heap) c.args.val)))
    (variable_bytes_from (variable_in (extent_of c.args.w.now.heap) c.in-Some.variable) 0) (setting_of outside c.args.w.now (g.L.Locals.items c.args.l.now))
    (setting_of outside c.args.w.now (g.L.Locals.items c.args.l.now)) (setting_of outside c.args.w.now (g.L.Locals.items c.args.l.now))
    c.variable_bytes_from.result (sym (ap (λ holder. text_elements holder (value_in (extent_of c.args.w.now.heap) c.args.val)
    (the_text (value_in (extent_of c.args.w.now.heap) c.args.val)) (setting_of outside c.args.w.now (g.L.Locals.items c.args.l.now)))
    (c.in-Some.ensures.holder (extent_of c.args.w.now.heap)))) (c.variable_bytes_from.ensures.row outside)

pub variable_bytes_from-requires-clause-variable : goal.variable_bytes_from-requires-clause-variable
variable_bytes_from-requires-clause-variable g c = c.in-Some.ensures.live (reach_of c.args.w.now (g.L.Locals.items c.args.l.now)) c.requires.item

pub returns-in_err-text-in-None-clause-row : goal.returns-in_err-text-in-None-clause-row
returns-in_err-text-in-None-clause-row g c = λ outside.
    answer_then (extent_of c.text_of.new.w.heap)
    (text_elements (text_variable (item_in (extent_of c.args.w.now.heap) c.args.x) (value_in (extent_of c.args.w.now.heap) c.args.val))
    (value_in (extent_of c.args.w.now.heap) c.args.val) (the_text (value_in (extent_of c.args.w.now.heap) c.args.val)))
    (costs_text (value_in (extent_of c.args.w.now.heap) c.args.val) (text_bytes_from (the_text (value_in (extent_of c.args.w.now.heap) c.args.val)) 0))
    (setting_of outside c.args.w.now (g.L.Locals.items c.args.l.now)) (setting_of outside c.args.w.now (g.L.Locals.items c.args.l.now))
    (setting_of outside c.text_of.new.w (g.L.Locals.items c.args.l.now)) c.from_residual.result
    (sym (ap (λ holder. text_elements holder (value_in (extent_of c.args.w.now.heap) c.args.val) (the_text (value_in (extent_of c.args.w.now.heap) c.args.val))
    (setting_of outside c.args.w.now (g.L.Locals.items c.args.l.now))) (c.in-None.ensures.holder (extent_of c.args.w.now.heap))))
    (row_stops_at (extent_of c.text_of.new.w.heap) (costs_text (value_in (extent_of c.args.w.now.heap) c.args.val))
    (text_bytes_from (the_text (value_in (extent_of c.args.w.now.heap) c.args.val)) 0) (setting_of outside c.args.w.now (g.L.Locals.items c.args.l.now))
    (setting_of outside c.text_of.new.w (g.L.Locals.items c.args.l.now)) c.in_err-text-in-None.field-0.0 c.from_residual.result c.from_residual.ensures.1
    (c.in_err-text-in-None.ensures.step outside))

pub returns-in_err-text-in-None-clause-live : goal.returns-in_err-text-in-None-clause-live
returns-in_err-text-in-None-clause-live g c =
    stop_lives (reach_of c.text_of.new.w (g.L.Locals.items c.args.l.now)) c.in_err-text-in-None.field-0.0 c.from_residual.result c.from_residual.ensures.1
    c.in_err-text-in-None.ensures.stops

pub returns-in_ok-text-in-None-clause-row : goal.returns-in_ok-text-in-None-clause-row
returns-in_ok-text-in-None-clause-row g c = λ outside.
    answer_then (extent_of c.text_of.new.w.heap)
    (text_elements (text_variable (item_in (extent_of c.args.w.now.heap) c.args.x) (value_in (extent_of c.args.w.now.heap) c.args.val))
    (value_in (extent_of c.args.w.now.heap) c.args.val) (the_text (value_in (extent_of c.args.w.now.heap) c.args.val)))
    (text_bytes_from (text_in (extent_of c.text_of.new.w.heap) c.in_ok-text-in-None.text) 0) (setting_of outside c.args.w.now (g.L.Locals.items c.args.l.now))
    (setting_of outside c.text_of.new.w (g.L.Locals.items c.args.l.now))
    (setting_of outside c.text_of.new.w (g.L.Locals.items c.args.l.now)) c.text_bytes_from.result
    ((sym (ap (λ holder. text_elements holder (value_in (extent_of c.args.w.now.heap) c.args.val) (the_text (value_in (extent_of c.args.w.now.heap) c.args.val))
    (setting_of outside c.args.w.now (g.L.Locals.items c.args.l.now))) (c.in-None.ensures.holder (extent_of c.args.w.now.heap))))
    ∙ (c.in_ok-text-in-None.ensures.step outside (text_bytes_from (the_text (value_in (extent_of c.args.w.now.heap) c.args.val)) 0)
    ∙ ap (λ (text : List ℕ). text_bytes_from text 0 (setting_of outside c.text_of.new.w (g.L.Locals.items c.args.l.now)))
    (sym c.in_ok-text-in-None.ensures.text))) (c.text_bytes_from.ensures.row outside)
