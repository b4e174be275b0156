use Rattle.std.proofs.Common.{rules, FitsSigned, ◌∙◌, sym, ℤ}
use Rattle.std.specs.Int.{w64}
use Rattle.icn_value.specs.Values.{Value}
use Rattle.icn_defs.specs.Arguments.{number}
use Rattle.icn_heap.specs.Extents.{value_in}
use Rattle.icn_heap.specs.Heaps.{extent_of}
use Rattle.icn_vars.specs.Worlds.{item_in, setting_of}
use Rattle.icn_args.proofs.RowAnswers.{first_stops, stops_behind, stops_within, then_stops}
use Rattle.icn_ops.specs.Operands.{two_values}
use Rattle.icn_ops.proofs.TwoOperandSteps.{held_two}
use Rattle.icn_ops.proofs.operands.two_numbers.Goals as goal

pub returns-in_err-a-clause-found : goal.returns-in_err-a-clause-found
returns-in_err-a-clause-found g c = λ outside.
    first_stops (extent_of c.args.w.now.heap) (two_values (item_in (extent_of c.args.w.now.heap) c.args.x) (item_in (extent_of c.args.w.now.heap) c.args.y))
    (λ (two : Value × Value) next. number two.0 (λ m. number two.1 (λ n. next (m, n))))
    (setting_of outside c.args.w.now (g.L.Locals.items c.args.l.now)) (setting_of outside c.args.w.now (g.L.Locals.items c.args.l.now))
    (λ (two : ℤ × ℤ). two) c.in_err-a.field-0.0 c.from_residual.result c.from_residual.ensures.1 (c.in_err-a.ensures.found outside)

pub returns-in_err-m-clause-found : goal.returns-in_err-m-clause-found
returns-in_err-m-clause-found g c = λ outside.
    then_stops (extent_of c.args.w.now.heap) (two_values (item_in (extent_of c.args.w.now.heap) c.args.x) (item_in (extent_of c.args.w.now.heap) c.args.y))
    ((value_in (extent_of c.args.w.now.heap) c.in_ok-a.a), (value_in (extent_of c.args.w.now.heap) c.in_ok-a.b))
    (λ (two : Value × Value) next. number two.0 (λ m. number two.1 (λ n. next (m, n)))) (setting_of outside c.args.w.now (g.L.Locals.items c.args.l.now))
    (setting_of outside c.args.w.now (g.L.Locals.items c.args.l.now)) (setting_of outside c.args.w.now (g.L.Locals.items c.args.l.now))
    (λ (two : ℤ × ℤ). two) c.in_err-m.field-0.0 c.from_residual-in_err-m.result c.from_residual-in_err-m.ensures.1 (c.in_ok-a.ensures.found outside)
    (stops_within (extent_of c.args.w.now.heap)
    (number (value_in (extent_of c.args.w.now.heap) c.in_ok-a.a)) (λ m next. number (value_in (extent_of c.args.w.now.heap) c.in_ok-a.b) (λ n. next (m, n)))
    (setting_of outside c.args.w.now (g.L.Locals.items c.args.l.now)) (setting_of outside c.args.w.now (g.L.Locals.items c.args.l.now)) c.in_err-m.field-0.0
    (c.in_err-m.ensures.found (setting_of outside c.args.w.now (g.L.Locals.items c.args.l.now))))

pub returns-in_err-n-clause-found : goal.returns-in_err-n-clause-found
returns-in_err-n-clause-found g c = λ outside.
    then_stops (extent_of c.args.w.now.heap) (two_values (item_in (extent_of c.args.w.now.heap) c.args.x) (item_in (extent_of c.args.w.now.heap) c.args.y))
    ((value_in (extent_of c.args.w.now.heap) c.in_ok-a.a), (value_in (extent_of c.args.w.now.heap) c.in_ok-a.b))
    (λ (two : Value × Value) next. number two.0 (λ m. number two.1 (λ n. next (m, n)))) (setting_of outside c.args.w.now (g.L.Locals.items c.args.l.now))
    (setting_of outside c.args.w.now (g.L.Locals.items c.args.l.now)) (setting_of outside c.args.w.now (g.L.Locals.items c.args.l.now))
    (λ (two : ℤ × ℤ). two) c.in_err-n.field-0.0 c.from_residual-in_err-n.result c.from_residual-in_err-n.ensures.1 (c.in_ok-a.ensures.found outside)
    (stops_behind (extent_of c.args.w.now.heap) (number (value_in (extent_of c.args.w.now.heap) c.in_ok-a.a)) c.in_ok-m.m
    (λ m next. number (value_in (extent_of c.args.w.now.heap) c.in_ok-a.b) (λ n. next (m, n))) (setting_of outside c.args.w.now (g.L.Locals.items c.args.l.now))
    (setting_of outside c.args.w.now (g.L.Locals.items c.args.l.now)) (setting_of outside c.args.w.now (g.L.Locals.items c.args.l.now)) c.in_err-n.field-0.0
    (c.in_ok-m.ensures.found (setting_of outside c.args.w.now (g.L.Locals.items c.args.l.now)))
    (stops_within (extent_of c.args.w.now.heap) (number (value_in (extent_of c.args.w.now.heap) c.in_ok-a.b)) (λ n next. next (c.in_ok-m.m, n))
    (setting_of outside c.args.w.now (g.L.Locals.items c.args.l.now)) (setting_of outside c.args.w.now (g.L.Locals.items c.args.l.now)) c.in_err-n.field-0.0
    (c.in_err-n.ensures.found (setting_of outside c.args.w.now (g.L.Locals.items c.args.l.now)))))

pub returns-clause-found : goal.returns-clause-found
returns-clause-found g c = λ outside.
    λ next. c.in_ok-a.ensures.found outside (λ two. number two.0 (λ m. number two.1 (λ n. next (m, n))))
    ∙ (c.in_ok-m.ensures.found (setting_of outside c.args.w.now (g.L.Locals.items c.args.l.now))
    (λ m. number (value_in (extent_of c.args.w.now.heap) c.in_ok-a.b) (λ n. next (m, n)))
    ∙ (c.in_ok-n.ensures.found (setting_of outside c.args.w.now (g.L.Locals.items c.args.l.now)) (λ n. next (c.in_ok-m.m, n))
    ∙ sym (held_two (λ m n. next (m, n) (setting_of outside c.args.w.now (g.L.Locals.items c.args.l.now))) c.in_ok-m.m c.in_ok-n.n
    (let fits : FitsSigned w64 c.in_ok-m.m = search rules in fits) (let fits : FitsSigned w64 c.in_ok-n.n = search rules in fits))))
