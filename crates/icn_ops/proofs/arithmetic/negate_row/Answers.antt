use Rattle.std.proofs.Common.{rules, FitsSigned, ◌∙◌, sym, ap, pos}
use Rattle.std.specs.Int.{w64}
use Rattle.icn_text.specs.IntegerArithmetic.{difference, within_64_bits}
use Rattle.icn_defs.specs.Arguments.{number}
use Rattle.icn_defs.specs.Arithmetic.{negate_row}
use Rattle.icn_defs.specs.ReadAndAssign.{the_value}
use Rattle.icn_heap.specs.Extents.{value_in}
use Rattle.icn_heap.specs.Heaps.{extent_of}
use Rattle.icn_vars.specs.Worlds.{item_in, reach_of, setting_of}
use Rattle.icn_args.proofs.RowAnswers.{answer_then, row_stops, stop_lives}
use Rattle.icn_ops.specs.Operands.{gives_computed}
use Rattle.icn_ops.proofs.TwoOperandSteps.{negated, held_one}
use Rattle.std.specs.Prelude.{neg_ℤ}
use Rattle.icn_ops.proofs.arithmetic.negate_row.Goals as goal

pub returns-in_err-val-clause-row : goal.returns-in_err-val-clause-row
returns-in_err-val-clause-row g c = λ outside.
    row_stops (extent_of c.args.w.now.heap) (the_value (item_in (extent_of c.args.w.now.heap) c.args.x))
    (λ v. number v (λ n. gives_computed (within_64_bits (neg_ℤ n)))) (setting_of outside c.args.w.now (g.L.Locals.items c.args.l.now))
    (setting_of outside c.args.w.now (g.L.Locals.items c.args.l.now)) c.in_err-val.field-0.0 c.from_residual.result c.from_residual.ensures.1
    (c.in_err-val.ensures.value outside)

pub returns-in_err-val-clause-live : goal.returns-in_err-val-clause-live
returns-in_err-val-clause-live g c =
    stop_lives
    (reach_of c.args.w.now (g.L.Locals.items c.args.l.now)) c.in_err-val.field-0.0 c.from_residual.result c.from_residual.ensures.1 c.in_err-val.ensures.stops

pub returns-in_err-n-clause-row : goal.returns-in_err-n-clause-row
returns-in_err-n-clause-row g c = λ outside.
    answer_then (extent_of c.args.w.now.heap) (negate_row (item_in (extent_of c.args.w.now.heap) c.args.x))
    (number (value_in (extent_of c.args.w.now.heap) c.in_ok-val.val) (λ n. gives_computed (within_64_bits (neg_ℤ n))))
    (setting_of outside c.args.w.now (g.L.Locals.items c.args.l.now)) (setting_of outside c.args.w.now (g.L.Locals.items c.args.l.now))
    (setting_of outside c.args.w.now (g.L.Locals.items c.args.l.now)) c.from_residual-in_err-n.result
    (c.in_ok-val.ensures.value outside (λ v. number v (λ n. gives_computed (within_64_bits (neg_ℤ n)))))
    (row_stops (extent_of c.args.w.now.heap) (number (value_in (extent_of c.args.w.now.heap) c.in_ok-val.val))
    (λ n. gives_computed (within_64_bits (neg_ℤ n))) (setting_of outside c.args.w.now (g.L.Locals.items c.args.l.now))
    (setting_of outside c.args.w.now (g.L.Locals.items c.args.l.now)) c.in_err-n.field-0.0 c.from_residual-in_err-n.result c.from_residual-in_err-n.ensures.1
    (c.in_err-n.ensures.found (setting_of outside c.args.w.now (g.L.Locals.items c.args.l.now))))

pub returns-in_err-n-clause-live : goal.returns-in_err-n-clause-live
returns-in_err-n-clause-live g c =
    stop_lives (reach_of c.args.w.now (g.L.Locals.items c.args.l.now)) c.in_err-n.field-0.0 c.from_residual-in_err-n.result c.from_residual-in_err-n.ensures.1
    c.in_err-n.ensures.stops

pub returns-clause-row : goal.returns-clause-row
returns-clause-row g c = λ outside.
    answer_then (extent_of c.args.w.now.heap) (negate_row (item_in (extent_of c.args.w.now.heap) c.args.x)) (gives_computed c.sub.result)
    (setting_of outside c.args.w.now (g.L.Locals.items c.args.l.now)) (setting_of outside c.args.w.now (g.L.Locals.items c.args.l.now))
    (setting_of outside c.args.w.now (g.L.Locals.items c.args.l.now)) c.integer_outcome.result
    (c.in_ok-val.ensures.value outside (λ v. number v (λ n. gives_computed (within_64_bits (neg_ℤ n))))
    ∙ (c.in_ok-n.ensures.found (setting_of outside c.args.w.now (g.L.Locals.items c.args.l.now)) (λ n. gives_computed (within_64_bits (neg_ℤ n)))
    ∙ ap (λ found. gives_computed found (setting_of outside c.args.w.now (g.L.Locals.items c.args.l.now)))
    (sym (c.sub.ensures ∙ (held_one (difference (pos 0)) c.in_ok-n.n (let fits : FitsSigned w64 c.in_ok-n.n = search rules in fits) ∙ negated c.in_ok-n.n)))))
    (c.integer_outcome.ensures.row (extent_of c.args.w.now.heap) (setting_of outside c.args.w.now (g.L.Locals.items c.args.l.now)))

pub returns-clause-live : goal.returns-clause-live
returns-clause-live g c =
    c.integer_outcome.ensures.live (reach_of c.args.w.now (g.L.Locals.items c.args.l.now))
