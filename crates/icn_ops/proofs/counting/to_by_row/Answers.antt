use Rattle.std.proofs.Common.{rules, FitsSigned, ◌∙◌, sym, ap, ℤ, pos, not}
use Rattle.std.specs.Prelude.{None, Some}
use Rattle.std.specs.Int.{w64}
use Rattle.icn_defs.specs.Arithmetic.{count_from}
use Rattle.icn_defs.specs.Rows.{check}
use Rattle.icn_heap.specs.Heaps.{extent_of}
use Rattle.icn_vars.specs.Worlds.{item_in, reach_of, setting_of}
use Rattle.icn_args.proofs.RowAnswers.{row_stops, stop_lives}
use Rattle.icn_ops.specs.Operands.{three_integers}
use Rattle.icn_ops.proofs.TwoOperandSteps.{held_one, held_three}
use Rattle.std.specs.Ordering.{int_eq}
use Rattle.icn_ops.proofs.counting.to_by_row.Goals as goal

pub returns-in_err-given-clause-row : goal.returns-in_err-given-clause-row
returns-in_err-given-clause-row g c = λ outside.
    row_stops (extent_of c.args.w.now.heap) (three_integers (item_in (extent_of c.args.w.now.heap) c.args.x)
    (item_in (extent_of c.args.w.now.heap) c.args.y) (item_in (extent_of c.args.w.now.heap) c.args.z))
    (λ (three : ℤ × ℤ × ℤ). check (not (int_eq three.2 (pos 0))) 211 None (count_from three.1 three.2 (Some three.0)))
    (setting_of outside c.args.w.now (g.L.Locals.items c.args.l.now)) (setting_of outside c.args.w.now (g.L.Locals.items c.args.l.now)) c.in_err-given.field-0.0
    c.from_residual.result c.from_residual.ensures.1 (c.in_err-given.ensures.found outside)

pub returns-in_err-given-clause-live : goal.returns-in_err-given-clause-live
returns-in_err-given-clause-live g c =
    stop_lives (reach_of c.args.w.now (g.L.Locals.items c.args.l.now)) c.in_err-given.field-0.0 c.from_residual.result c.from_residual.ensures.1
    c.in_err-given.ensures.stops

pub returns-then-is_zero-clause-row : goal.returns-then-is_zero-clause-row
returns-then-is_zero-clause-row g c = λ outside.
    c.in_ok-given.ensures.found outside (λ (three : ℤ × ℤ × ℤ). check (not (int_eq three.2 (pos 0))) 211 None (count_from three.1 three.2 (Some three.0)))
    ∙ ap (λ t. check (not t) 211 None
    (count_from c.in_ok-given.last c.in_ok-given.step (Some c.in_ok-given.given)) (setting_of outside c.args.w.now (g.L.Locals.items c.args.l.now)))
    (sym (c.is_zero.ensures ∙ held_one (λ k. int_eq k (pos 0)) c.in_ok-given.step (let fits : FitsSigned w64 c.in_ok-given.step = search rules in fits))
    ∙ c.if-is_zero.true)

pub returns-clause-row : goal.returns-clause-row
returns-clause-row g c = λ outside.
    c.in_ok-given.ensures.found outside (λ (three : ℤ × ℤ × ℤ). check (not (int_eq three.2 (pos 0))) 211 None (count_from three.1 three.2 (Some three.0)))
    ∙ (ap (λ t. check (not t) 211 None
    (count_from c.in_ok-given.last c.in_ok-given.step (Some c.in_ok-given.given)) (setting_of outside c.args.w.now (g.L.Locals.items c.args.l.now)))
    (sym (c.is_zero.ensures ∙ held_one (λ k. int_eq k (pos 0)) c.in_ok-given.step (let fits : FitsSigned w64 c.in_ok-given.step = search rules in fits))
    ∙ c.if-is_zero.false)
    ∙ (sym (held_three (λ m n k. count_from n k (Some m) (setting_of outside c.args.w.now (g.L.Locals.items c.args.l.now)))
    c.in_ok-given.given c.in_ok-given.last c.in_ok-given.step (let fits : FitsSigned w64 c.in_ok-given.given = search rules in fits)
    (let fits : FitsSigned w64 c.in_ok-given.last = search rules in fits) (let fits : FitsSigned w64 c.in_ok-given.step = search rules in fits))
    ∙ c.count_from.ensures.row (extent_of c.args.w.now.heap) (setting_of outside c.args.w.now (g.L.Locals.items c.args.l.now))))

pub returns-clause-live : goal.returns-clause-live
returns-clause-live g c =
    c.count_from.ensures.live (reach_of c.args.w.now (g.L.Locals.items c.args.l.now))
