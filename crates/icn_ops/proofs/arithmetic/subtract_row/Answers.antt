use Rattle.std.proofs.Common.{rules, FitsSigned, ◌∙◌, sym, ap, ℤ}
use Rattle.std.specs.Int.{w64}
use Rattle.icn_text.specs.IntegerArithmetic.{difference}
use Rattle.icn_defs.specs.Arithmetic.{subtract_row}
use Rattle.icn_heap.specs.Heaps.{extent_of}
use Rattle.icn_vars.specs.Worlds.{item_in, reach_of, setting_of}
use Rattle.icn_args.proofs.RowAnswers.{answer_then, row_stops, stop_lives}
use Rattle.icn_ops.specs.Operands.{two_numbers, gives_computed}
use Rattle.icn_ops.proofs.TwoOperandSteps.{held_two}
use Rattle.icn_ops.proofs.arithmetic.subtract_row.Goals as goal

pub returns-in_err-m-clause-row : goal.returns-in_err-m-clause-row
returns-in_err-m-clause-row g c = λ outside.
    row_stops (extent_of c.args.w.now.heap) (two_numbers (item_in (extent_of c.args.w.now.heap) c.args.x) (item_in (extent_of c.args.w.now.heap) c.args.y))
    (λ (two : ℤ × ℤ). gives_computed (difference two.0 two.1)) (setting_of outside c.args.w.now (g.L.Locals.items c.args.l.now))
    (setting_of outside c.args.w.now (g.L.Locals.items c.args.l.now)) c.in_err-m.field-0.0 c.from_residual.result c.from_residual.ensures.1
    (c.in_err-m.ensures.found outside)

pub returns-in_err-m-clause-live : goal.returns-in_err-m-clause-live
returns-in_err-m-clause-live g c =
    stop_lives
    (reach_of c.args.w.now (g.L.Locals.items c.args.l.now)) c.in_err-m.field-0.0 c.from_residual.result c.from_residual.ensures.1 c.in_err-m.ensures.stops

pub returns-clause-row : goal.returns-clause-row
returns-clause-row g c = λ outside.
    answer_then (extent_of c.args.w.now.heap) (subtract_row (item_in (extent_of c.args.w.now.heap) c.args.x) (item_in (extent_of c.args.w.now.heap) c.args.y))
    (gives_computed c.sub.result) (setting_of outside c.args.w.now (g.L.Locals.items c.args.l.now))
    (setting_of outside c.args.w.now (g.L.Locals.items c.args.l.now)) (setting_of outside c.args.w.now (g.L.Locals.items c.args.l.now)) c.integer_outcome.result
    (c.in_ok-m.ensures.found outside (λ (two : ℤ × ℤ). gives_computed (difference two.0 two.1))
    ∙ ap (λ found. gives_computed found (setting_of outside c.args.w.now (g.L.Locals.items c.args.l.now))) (sym (c.sub.ensures ∙ held_two difference
    c.in_ok-m.m c.in_ok-m.n (let fits : FitsSigned w64 c.in_ok-m.m = search rules in fits) (let fits : FitsSigned w64 c.in_ok-m.n = search rules in fits))))
    (c.integer_outcome.ensures.row (extent_of c.args.w.now.heap) (setting_of outside c.args.w.now (g.L.Locals.items c.args.l.now)))

pub returns-clause-live : goal.returns-clause-live
returns-clause-live g c =
    c.integer_outcome.ensures.live (reach_of c.args.w.now (g.L.Locals.items c.args.l.now))
