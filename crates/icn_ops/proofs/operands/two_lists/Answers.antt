use Rattle.std.proofs.Common.{◌∙◌, ℕ}
use Rattle.icn_value.specs.Values.{Value}
use Rattle.icn_defs.specs.Arguments.{list}
use Rattle.icn_heap.specs.Extents.{value_in}
use Rattle.icn_heap.specs.Heaps.{extent_of}
use Rattle.icn_vars.specs.Worlds.{item_in, setting_of}
use Rattle.icn_args.proofs.RowAnswers.{first_stops, stop_lives_on, stops_behind, stops_within, then_stops}
use Rattle.icn_ops.specs.Operands.{two_values}
use Rattle.icn_ops.proofs.operands.two_lists.Goals as goal

pub returns-in_err-a-clause-found : goal.returns-in_err-a-clause-found
returns-in_err-a-clause-found g c = λ outside.
    first_stops (extent_of c.args.w.now.heap) (two_values (item_in (extent_of c.args.w.now.heap) c.args.x) (item_in (extent_of c.args.w.now.heap) c.args.y))
    (λ (two : Value × Value) next. list two.0 (λ m. list two.1 (λ n. next (m, n))))
    (setting_of outside c.args.w.now (g.L.Locals.items c.args.l.now)) (setting_of outside c.args.w.now (g.L.Locals.items c.args.l.now))
    (λ (two : ℕ × ℕ). two) c.in_err-a.field-0.0 c.from_residual.result c.from_residual.ensures.1 (c.in_err-a.ensures.found outside)

pub returns-in_err-first-clause-found : goal.returns-in_err-first-clause-found
returns-in_err-first-clause-found g c = λ outside.
    then_stops (extent_of c.args.w.now.heap) (two_values (item_in (extent_of c.args.w.now.heap) c.args.x) (item_in (extent_of c.args.w.now.heap) c.args.y))
    ((value_in (extent_of c.args.w.now.heap) c.in_ok-a.a), (value_in (extent_of c.args.w.now.heap) c.in_ok-a.b))
    (λ (two : Value × Value) next. list two.0 (λ m. list two.1 (λ n. next (m, n)))) (setting_of outside c.args.w.now (g.L.Locals.items c.args.l.now))
    (setting_of outside c.args.w.now (g.L.Locals.items c.args.l.now)) (setting_of outside c.args.w.now (g.L.Locals.items c.args.l.now))
    (λ (two : ℕ × ℕ). two) c.in_err-first.field-0.0 c.from_residual-in_err-first.result c.from_residual-in_err-first.ensures.1 (c.in_ok-a.ensures.found outside)
    (stops_within (extent_of c.args.w.now.heap)
    (list (value_in (extent_of c.args.w.now.heap) c.in_ok-a.a)) (λ m next. list (value_in (extent_of c.args.w.now.heap) c.in_ok-a.b) (λ n. next (m, n)))
    (setting_of outside c.args.w.now (g.L.Locals.items c.args.l.now)) (setting_of outside c.args.w.now (g.L.Locals.items c.args.l.now)) c.in_err-first.field-0.0
    (c.in_err-first.ensures.found (extent_of c.args.w.now.heap) (setting_of outside c.args.w.now (g.L.Locals.items c.args.l.now))))

pub returns-in_err-second-clause-found : goal.returns-in_err-second-clause-found
returns-in_err-second-clause-found g c = λ outside.
    then_stops (extent_of c.args.w.now.heap) (two_values (item_in (extent_of c.args.w.now.heap) c.args.x) (item_in (extent_of c.args.w.now.heap) c.args.y))
    ((value_in (extent_of c.args.w.now.heap) c.in_ok-a.a), (value_in (extent_of c.args.w.now.heap) c.in_ok-a.b))
    (λ (two : Value × Value) next. list two.0 (λ m. list two.1 (λ n. next (m, n)))) (setting_of outside c.args.w.now (g.L.Locals.items c.args.l.now))
    (setting_of outside c.args.w.now (g.L.Locals.items c.args.l.now)) (setting_of outside c.args.w.now (g.L.Locals.items c.args.l.now)) (λ (two : ℕ × ℕ). two)
    c.in_err-second.field-0.0 c.from_residual-in_err-second.result c.from_residual-in_err-second.ensures.1 (c.in_ok-a.ensures.found outside)
    (stops_behind (extent_of c.args.w.now.heap) (list (value_in (extent_of c.args.w.now.heap) c.in_ok-a.a)) c.in_ok-first.first
    (λ m next. list (value_in (extent_of c.args.w.now.heap) c.in_ok-a.b) (λ n. next (m, n))) (setting_of outside c.args.w.now (g.L.Locals.items c.args.l.now))
    (setting_of outside c.args.w.now (g.L.Locals.items c.args.l.now)) (setting_of outside c.args.w.now (g.L.Locals.items c.args.l.now))
    c.in_err-second.field-0.0 (c.in_ok-first.ensures.found (extent_of c.args.w.now.heap) (setting_of outside c.args.w.now (g.L.Locals.items c.args.l.now)))
    (stops_within (extent_of c.args.w.now.heap) (list (value_in (extent_of c.args.w.now.heap) c.in_ok-a.b)) (λ n next. next (c.in_ok-first.first, n))
    (setting_of outside c.args.w.now (g.L.Locals.items c.args.l.now)) (setting_of outside c.args.w.now (g.L.Locals.items c.args.l.now))
    c.in_err-second.field-0.0 (c.in_err-second.ensures.found (extent_of c.args.w.now.heap) (setting_of outside c.args.w.now (g.L.Locals.items c.args.l.now)))))

pub returns-clause-found : goal.returns-clause-found
returns-clause-found g c = λ outside.
    λ next. c.in_ok-a.ensures.found outside (λ two. list two.0 (λ m. list two.1 (λ n. next (m, n))))
    ∙ (c.in_ok-first.ensures.found (extent_of c.args.w.now.heap) (setting_of outside c.args.w.now (g.L.Locals.items c.args.l.now))
    (λ m. list (value_in (extent_of c.args.w.now.heap) c.in_ok-a.b) (λ n. next (m, n))) ∙ (c.in_ok-second.ensures.found (extent_of c.args.w.now.heap)
    (setting_of outside c.args.w.now (g.L.Locals.items c.args.l.now)) (λ n. next (c.in_ok-first.first, n))))

pub returns-in_err-first-clause-stops : goal.returns-in_err-first-clause-stops
returns-in_err-first-clause-stops g c =
    stop_lives_on (extent_of c.args.w.now.heap) c.in_err-first.field-0.0 c.from_residual-in_err-first.result c.from_residual-in_err-first.ensures.1
    (c.in_err-first.ensures.stops (extent_of c.args.w.now.heap) c.in_ok-a.ensures.first_live)

pub returns-in_err-second-clause-stops : goal.returns-in_err-second-clause-stops
returns-in_err-second-clause-stops g c =
    stop_lives_on (extent_of c.args.w.now.heap) c.in_err-second.field-0.0 c.from_residual-in_err-second.result c.from_residual-in_err-second.ensures.1
    (c.in_err-second.ensures.stops (extent_of c.args.w.now.heap) c.in_ok-a.ensures.second_live)

pub returns-clause-first_live : goal.returns-clause-first_live
returns-clause-first_live g c =
    c.in_ok-first.ensures.live (extent_of c.args.w.now.heap) c.in_ok-a.ensures.first_live

pub returns-clause-second_live : goal.returns-clause-second_live
returns-clause-second_live g c =
    c.in_ok-second.ensures.live (extent_of c.args.w.now.heap) c.in_ok-a.ensures.second_live
