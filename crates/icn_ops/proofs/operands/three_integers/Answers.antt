use Rattle.std.proofs.Common.{rules, FitsSigned, ◌∙◌, sym, ℤ}
use Rattle.std.specs.Int.{w64}
use Rattle.icn_value.specs.Values.{Value}
use Rattle.icn_defs.specs.Arguments.{integer}
use Rattle.icn_heap.specs.Extents.{value_in}
use Rattle.icn_heap.specs.Heaps.{extent_of}
use Rattle.icn_vars.specs.Worlds.{item_in, setting_of}
use Rattle.icn_args.proofs.RowAnswers.{first_stops, stops_behind, stops_within, then_stops}
use Rattle.icn_ops.specs.Operands.{three_values}
use Rattle.icn_ops.proofs.TwoOperandSteps.{held_three}
use Rattle.icn_ops.proofs.operands.three_integers.Goals as goal

pub returns-in_err-from-clause-found : goal.returns-in_err-from-clause-found
returns-in_err-from-clause-found g c = λ outside.
    first_stops (extent_of c.args.w.now.heap) (three_values (item_in (extent_of c.args.w.now.heap) c.args.x)
    (item_in (extent_of c.args.w.now.heap) c.args.y) (item_in (extent_of c.args.w.now.heap) c.args.z))
    (λ (three : Value × Value × Value) next. integer three.0 (λ m. integer three.1 (λ n. integer three.2 (λ k. next (m, n, k)))))
    (setting_of outside c.args.w.now (g.L.Locals.items c.args.l.now)) (setting_of outside c.args.w.now (g.L.Locals.items c.args.l.now))
    (λ (three : ℤ × ℤ × ℤ). three) c.in_err-from.field-0.0 c.from_residual.result c.from_residual.ensures.1 (c.in_err-from.ensures.found outside)

pub returns-in_err-given-clause-found : goal.returns-in_err-given-clause-found
returns-in_err-given-clause-found g c = λ outside.
    then_stops (extent_of c.args.w.now.heap) (three_values (item_in (extent_of c.args.w.now.heap) c.args.x) (item_in (extent_of c.args.w.now.heap) c.args.y)
    (item_in (extent_of c.args.w.now.heap) c.args.z)) (
      (value_in (extent_of c.args.w.now.heap) c.in_ok-from.from),
      (value_in (extent_of c.args.w.now.heap) c.in_ok-from.to),
      (value_in (extent_of c.args.w.now.heap) c.in_ok-from.by),
    ) (λ (three : Value × Value × Value) next. integer three.0 (λ m. integer three.1 (λ n. integer three.2 (λ k. next (m, n, k)))))
    (setting_of outside c.args.w.now (g.L.Locals.items c.args.l.now)) (setting_of outside c.args.w.now (g.L.Locals.items c.args.l.now))
    (setting_of outside c.args.w.now (g.L.Locals.items c.args.l.now)) (λ (three : ℤ × ℤ × ℤ). three) c.in_err-given.field-0.0
    c.from_residual-in_err-given.result c.from_residual-in_err-given.ensures.1 (c.in_ok-from.ensures.found outside)
    (stops_within (extent_of c.args.w.now.heap) (integer (value_in (extent_of c.args.w.now.heap) c.in_ok-from.from)) (λ m next. integer
    (value_in (extent_of c.args.w.now.heap) c.in_ok-from.to) (λ n. integer (value_in (extent_of c.args.w.now.heap) c.in_ok-from.by) (λ k. next (m, n, k))))
    (setting_of outside c.args.w.now (g.L.Locals.items c.args.l.now)) (setting_of outside c.args.w.now (g.L.Locals.items c.args.l.now)) c.in_err-given.field-0.0
    (c.in_err-given.ensures.found (setting_of outside c.args.w.now (g.L.Locals.items c.args.l.now))))

pub returns-in_err-last-clause-found : goal.returns-in_err-last-clause-found
returns-in_err-last-clause-found g c = λ outside.
    then_stops (extent_of c.args.w.now.heap) (three_values (item_in (extent_of c.args.w.now.heap) c.args.x) (item_in (extent_of c.args.w.now.heap) c.args.y)
    (item_in (extent_of c.args.w.now.heap) c.args.z)) (
      (value_in (extent_of c.args.w.now.heap) c.in_ok-from.from),
      (value_in (extent_of c.args.w.now.heap) c.in_ok-from.to),
      (value_in (extent_of c.args.w.now.heap) c.in_ok-from.by),
    ) (λ (three : Value × Value × Value) next. integer three.0 (λ m. integer three.1 (λ n. integer three.2 (λ k. next (m, n, k)))))
    (setting_of outside c.args.w.now (g.L.Locals.items c.args.l.now)) (setting_of outside c.args.w.now (g.L.Locals.items c.args.l.now))
    (setting_of outside c.args.w.now (g.L.Locals.items c.args.l.now)) (λ (three : ℤ × ℤ × ℤ). three) c.in_err-last.field-0.0
    c.from_residual-in_err-last.result c.from_residual-in_err-last.ensures.1 (c.in_ok-from.ensures.found outside)
    (stops_behind (extent_of c.args.w.now.heap) (integer (value_in (extent_of c.args.w.now.heap) c.in_ok-from.from)) c.in_ok-given.given (λ m next. integer
    (value_in (extent_of c.args.w.now.heap) c.in_ok-from.to) (λ n. integer (value_in (extent_of c.args.w.now.heap) c.in_ok-from.by) (λ k. next (m, n, k))))
    (setting_of outside c.args.w.now (g.L.Locals.items c.args.l.now))
    (setting_of outside c.args.w.now (g.L.Locals.items c.args.l.now)) (setting_of outside c.args.w.now (g.L.Locals.items c.args.l.now)) c.in_err-last.field-0.0
    (c.in_ok-given.ensures.found (setting_of outside c.args.w.now (g.L.Locals.items c.args.l.now)))
    (stops_within (extent_of c.args.w.now.heap) (integer (value_in (extent_of c.args.w.now.heap) c.in_ok-from.to))
    (λ n next. integer (value_in (extent_of c.args.w.now.heap) c.in_ok-from.by) (λ k. next (c.in_ok-given.given, n, k)))
    (setting_of outside c.args.w.now (g.L.Locals.items c.args.l.now)) (setting_of outside c.args.w.now (g.L.Locals.items c.args.l.now)) c.in_err-last.field-0.0
    (c.in_err-last.ensures.found (setting_of outside c.args.w.now (g.L.Locals.items c.args.l.now)))))

pub returns-in_err-step-clause-found : goal.returns-in_err-step-clause-found
returns-in_err-step-clause-found g c = λ outside.
    then_stops (extent_of c.args.w.now.heap) (three_values (item_in (extent_of c.args.w.now.heap) c.args.x) (item_in (extent_of c.args.w.now.heap) c.args.y)
    (item_in (extent_of c.args.w.now.heap) c.args.z)) (
      (value_in (extent_of c.args.w.now.heap) c.in_ok-from.from),
      (value_in (extent_of c.args.w.now.heap) c.in_ok-from.to),
      (value_in (extent_of c.args.w.now.heap) c.in_ok-from.by),
    ) (λ (three : Value × Value × Value) next. integer three.0 (λ m. integer three.1 (λ n. integer three.2 (λ k. next (m, n, k)))))
    (setting_of outside c.args.w.now (g.L.Locals.items c.args.l.now)) (setting_of outside c.args.w.now (g.L.Locals.items c.args.l.now))
    (setting_of outside c.args.w.now (g.L.Locals.items c.args.l.now)) (λ (three : ℤ × ℤ × ℤ). three) c.in_err-step.field-0.0
    c.from_residual-in_err-step.result c.from_residual-in_err-step.ensures.1 (c.in_ok-from.ensures.found outside)
    (stops_behind (extent_of c.args.w.now.heap) (integer (value_in (extent_of c.args.w.now.heap) c.in_ok-from.from)) c.in_ok-given.given (λ m next. integer
    (value_in (extent_of c.args.w.now.heap) c.in_ok-from.to) (λ n. integer (value_in (extent_of c.args.w.now.heap) c.in_ok-from.by) (λ k. next (m, n, k))))
    (setting_of outside c.args.w.now (g.L.Locals.items c.args.l.now))
    (setting_of outside c.args.w.now (g.L.Locals.items c.args.l.now)) (setting_of outside c.args.w.now (g.L.Locals.items c.args.l.now)) c.in_err-step.field-0.0
    (c.in_ok-given.ensures.found (setting_of outside c.args.w.now (g.L.Locals.items c.args.l.now)))
    (stops_behind (extent_of c.args.w.now.heap) (integer (value_in (extent_of c.args.w.now.heap) c.in_ok-from.to)) c.in_ok-last.last
    (λ n next. integer (value_in (extent_of c.args.w.now.heap) c.in_ok-from.by) (λ k. next (c.in_ok-given.given, n, k)))
    (setting_of outside c.args.w.now (g.L.Locals.items c.args.l.now))
    (setting_of outside c.args.w.now (g.L.Locals.items c.args.l.now)) (setting_of outside c.args.w.now (g.L.Locals.items c.args.l.now)) c.in_err-step.field-0.0
    (c.in_ok-last.ensures.found (setting_of outside c.args.w.now (g.L.Locals.items c.args.l.now)))
    (stops_within (extent_of c.args.w.now.heap)
    (integer (value_in (extent_of c.args.w.now.heap) c.in_ok-from.by)) (λ k next. next (c.in_ok-given.given, c.in_ok-last.last, k))
    (setting_of outside c.args.w.now (g.L.Locals.items c.args.l.now)) (setting_of outside c.args.w.now (g.L.Locals.items c.args.l.now)) c.in_err-step.field-0.0
    (c.in_err-step.ensures.found (setting_of outside c.args.w.now (g.L.Locals.items c.args.l.now))))))

pub returns-clause-found : goal.returns-clause-found
returns-clause-found g c = λ outside.
    λ next. c.in_ok-from.ensures.found outside (λ three. integer three.0 (λ m. integer three.1 (λ n. integer three.2 (λ k. next (m, n, k)))))
    ∙ (c.in_ok-given.ensures.found (setting_of outside c.args.w.now (g.L.Locals.items c.args.l.now)) (λ m. integer
    (value_in (extent_of c.args.w.now.heap) c.in_ok-from.to) (λ n. integer (value_in (extent_of c.args.w.now.heap) c.in_ok-from.by) (λ k. next (m, n, k))))
    ∙ (c.in_ok-last.ensures.found (setting_of outside c.args.w.now (g.L.Locals.items c.args.l.now))
    (λ n. integer (value_in (extent_of c.args.w.now.heap) c.in_ok-from.by) (λ k. next (c.in_ok-given.given, n, k)))
    ∙ (c.in_ok-step.ensures.found (setting_of outside c.args.w.now (g.L.Locals.items c.args.l.now)) (λ k. next (c.in_ok-given.given, c.in_ok-last.last, k))
    ∙ sym (held_three (λ m n k. next (m, n, k) (setting_of outside c.args.w.now (g.L.Locals.items c.args.l.now)))
    c.in_ok-given.given c.in_ok-last.last c.in_ok-step.step (let fits : FitsSigned w64 c.in_ok-given.given = search rules in fits)
    (let fits : FitsSigned w64 c.in_ok-last.last = search rules in fits) (let fits : FitsSigned w64 c.in_ok-step.step = search rules in fits)))))
