use Rattle.std.proofs.Common.{◌∙◌, ◌++◌, sym, ap, ℕ, length, List}
use Rattle.icn_value.specs.Values.{Text, Val}
use Rattle.icn_defs.specs.Operations.{concatenate_row}
use Rattle.icn_defs.specs.Rows.{Gives, builds, costs_bytes, gives_value}
use Rattle.icn_heap.specs.Extents.{text_in}
use Rattle.icn_heap.specs.Heaps.{extent_of}
use Rattle.icn_vars.specs.Outcomes.{answer_of}
use Rattle.icn_vars.specs.Worlds.{item_in, reach_of, setting_of}
use Rattle.icn_vars.proofs.KeptItems.{keeps_live_then}
use Rattle.icn_args.proofs.RowAnswers.{answer_then, value_row_stops, value_row_stops_at, value_stop_lives}
use Rattle.icn_ops.specs.Operands.{two_texts}
use Rattle.icn_ops.proofs.texts.concatenate_row.Goals as goal

pub returns-in_err-s-clause-row : goal.returns-in_err-s-clause-row
returns-in_err-s-clause-row g c = λ outside.
    value_row_stops (extent_of c.two_texts.new.w.heap)
    (two_texts (item_in (extent_of c.args.w.now.heap) c.args.x) (item_in (extent_of c.args.w.now.heap) c.args.y))
    (λ (two : List ℕ × List ℕ). builds (two.0 ++ two.1)) (setting_of outside c.args.w.now (g.L.Locals.items c.args.l.now)) (setting_of outside c.two_texts.new.w
    (g.L.Locals.items c.args.l.now)) c.in_err-s.field-0.0 c.from_residual.result c.from_residual.ensures.1 (c.in_err-s.ensures.found outside)

pub returns-in_err-s-clause-live : goal.returns-in_err-s-clause-live
returns-in_err-s-clause-live g c =
    value_stop_lives
    (reach_of c.two_texts.new.w (g.L.Locals.items c.args.l.now)) c.in_err-s.field-0.0 c.from_residual.result c.from_residual.ensures.1 c.in_err-s.ensures.stops

pub returns-in_err-text-clause-row : goal.returns-in_err-text-clause-row
returns-in_err-text-clause-row g c = λ outside.
    answer_then
    (extent_of c.join.new.w.heap) (concatenate_row (item_in (extent_of c.args.w.now.heap) c.args.x) (item_in (extent_of c.args.w.now.heap) c.args.y))
    (builds (text_in (extent_of c.two_texts.new.w.heap) c.in_ok-s.s ++ text_in (extent_of c.two_texts.new.w.heap) c.in_ok-s.t))
    (setting_of outside c.args.w.now (g.L.Locals.items c.args.l.now)) (setting_of outside c.two_texts.new.w (g.L.Locals.items c.args.l.now))
    (setting_of outside c.join.new.w (g.L.Locals.items c.args.l.now)) (answer_of c.from_residual-in_err-text.result)
    (c.in_ok-s.ensures.found outside (λ (two : List ℕ × List ℕ). builds (two.0 ++ two.1)))
    (value_row_stops_at (extent_of c.join.new.w.heap)
    (costs_bytes (length (text_in (extent_of c.two_texts.new.w.heap) c.in_ok-s.s ++ text_in (extent_of c.two_texts.new.w.heap) c.in_ok-s.t)))
    (gives_value (Text (text_in (extent_of c.two_texts.new.w.heap) c.in_ok-s.s ++ text_in (extent_of c.two_texts.new.w.heap) c.in_ok-s.t)))
    (setting_of outside c.two_texts.new.w (g.L.Locals.items c.args.l.now)) (setting_of outside c.join.new.w (g.L.Locals.items c.args.l.now))
    c.in_err-text.field-0.0 c.from_residual-in_err-text.result c.from_residual-in_err-text.ensures.1 (c.in_err-text.ensures.step outside))

pub returns-in_err-text-clause-live : goal.returns-in_err-text-clause-live
returns-in_err-text-clause-live g c =
    value_stop_lives (reach_of c.join.new.w (g.L.Locals.items c.args.l.now)) c.in_err-text.field-0.0 c.from_residual-in_err-text.result
    c.from_residual-in_err-text.ensures.1 c.in_err-text.ensures.stops

pub returns-in_err-text-clause-kept : goal.returns-in_err-text-clause-kept
returns-in_err-text-clause-kept g c = keeps_live_then c.two_texts.ensures.kept c.join.ensures.kept

pub returns-clause-row : goal.returns-clause-row
returns-clause-row g c = λ outside.
    c.in_ok-s.ensures.found outside (λ (two : List ℕ × List ℕ). builds (two.0 ++ two.1)) ∙ (c.in_ok-text.ensures.step outside
    (gives_value (Text (text_in (extent_of c.two_texts.new.w.heap) c.in_ok-s.s ++ text_in (extent_of c.two_texts.new.w.heap) c.in_ok-s.t)))
    ∙ ap (λ bytes. Gives (Val (Text bytes)) (setting_of outside c.join.new.w (g.L.Locals.items c.args.l.now))) (sym c.in_ok-text.ensures.text))

pub returns-clause-kept : goal.returns-clause-kept
returns-clause-kept g c = keeps_live_then c.two_texts.ensures.kept c.join.ensures.kept
