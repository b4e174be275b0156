use Rattle.std.proofs.Common.{rules, FitsSigned, ◌∙◌, sym}
use Rattle.std.specs.Int.{w64}
use Rattle.icn_value.specs.Values.{Integer, Val}
use Rattle.icn_defs.specs.Arguments.{number}
use Rattle.icn_defs.specs.Arithmetic.{number_row}
use Rattle.icn_defs.specs.ReadAndAssign.{the_value}
use Rattle.icn_defs.specs.Rows.{Gives, gives_value}
use Rattle.icn_heap.specs.Extents.{value_in}
use Rattle.icn_heap.specs.Heaps.{extent_of}
use Rattle.icn_vars.specs.Worlds.{item_in, reach_of, setting_of}
use Rattle.icn_args.proofs.RowAnswers.{answer_then, row_stops, stop_lives}
use Rattle.icn_ops.proofs.TwoOperandSteps.{held_one}
use Rattle.icn_ops.proofs.arithmetic.number_row.Goals as goal

pub returns-in_err-val-clause-row : goal.returns-in_err-val-clause-row
returns-in_err-val-clause-row g c = λ outside.
    row_stops (extent_of c.args.w.now.heap) (the_value (item_in (extent_of c.args.w.now.heap) c.args.x)) (λ v. number v (λ n. gives_value (Integer n)))
    (setting_of outside c.args.w.now (g.L.Locals.items c.args.l.now)) (setting_of outside c.args.w.now (g.L.Locals.items c.args.l.now)) c.in_err-val.field-0.0
    c.from_residual.result c.from_residual.ensures.1 (c.in_err-val.ensures.value outside)

pub returns-in_err-val-clause-live : goal.returns-in_err-val-clause-live
returns-in_err-val-clause-live g c =
    stop_lives
    (reach_of c.args.w.now (g.L.Locals.items c.args.l.now)) c.in_err-val.field-0.0 c.from_residual.result c.from_residual.ensures.1 c.in_err-val.ensures.stops

pub returns-in_err-n-clause-row : goal.returns-in_err-n-clause-row
returns-in_err-n-clause-row g c = λ outside.
    answer_then (extent_of c.args.w.now.heap) (number_row (item_in (extent_of c.args.w.now.heap) c.args.x))
    (number (value_in (extent_of c.args.w.now.heap) c.in_ok-val.val) (λ n. gives_value (Integer n)))
    (setting_of outside c.args.w.now (g.L.Locals.items c.args.l.now)) (setting_of outside c.args.w.now (g.L.Locals.items c.args.l.now))
    (setting_of outside c.args.w.now (g.L.Locals.items c.args.l.now)) c.from_residual-in_err-n.result
    (c.in_ok-val.ensures.value outside (λ v. number v (λ n. gives_value (Integer n))))
    (row_stops (extent_of c.args.w.now.heap) (number (value_in (extent_of c.args.w.now.heap) c.in_ok-val.val))
    (λ n. gives_value (Integer n)) (setting_of outside c.args.w.now (g.L.Locals.items c.args.l.now))
    (setting_of outside c.args.w.now (g.L.Locals.items c.args.l.now)) c.in_err-n.field-0.0 c.from_residual-in_err-n.result c.from_residual-in_err-n.ensures.1
    (c.in_err-n.ensures.found (setting_of outside c.args.w.now (g.L.Locals.items c.args.l.now))))

pub returns-in_err-n-clause-live : goal.returns-in_err-n-clause-live
returns-in_err-n-clause-live g c =
    stop_lives (reach_of c.args.w.now (g.L.Locals.items c.args.l.now)) c.in_err-n.field-0.0 c.from_residual-in_err-n.result c.from_residual-in_err-n.ensures.1
    c.in_err-n.ensures.stops

pub returns-clause-row : goal.returns-clause-row
returns-clause-row g c = λ outside.
    c.in_ok-val.ensures.value outside (λ v. number v (λ n. gives_value (Integer n)))
    ∙ (c.in_ok-n.ensures.found (setting_of outside c.args.w.now (g.L.Locals.items c.args.l.now)) (λ n. gives_value (Integer n))
    ∙ sym (held_one (λ n. Gives (Val (Integer n)) (setting_of outside c.args.w.now (g.L.Locals.items c.args.l.now))) c.in_ok-n.n
    (let fits : FitsSigned w64 c.in_ok-n.n = search rules in fits)))
