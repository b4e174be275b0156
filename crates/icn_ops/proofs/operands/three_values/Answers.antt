use Rattle.std.proofs.Common.{◌∙◌}
use Rattle.icn_value.specs.Values.{Value}
use Rattle.icn_defs.specs.ReadAndAssign.{the_value}
use Rattle.icn_heap.specs.Extents.{value_in}
use Rattle.icn_heap.specs.Heaps.{extent_of}
use Rattle.icn_vars.specs.Worlds.{item_in, setting_of}
use Rattle.icn_args.proofs.RowAnswers.{first_stops, stops_within, then_stops}
use Rattle.icn_ops.specs.Operands.{two_values, three_in}
use Rattle.icn_ops.proofs.operands.three_values.Goals as goal

pub returns-in_err-a-clause-found : goal.returns-in_err-a-clause-found
returns-in_err-a-clause-found g c = λ outside.
    first_stops (extent_of c.args.w.now.heap) (two_values (item_in (extent_of c.args.w.now.heap) c.args.x) (item_in (extent_of c.args.w.now.heap) c.args.y))
    (λ (two : Value × Value) next. the_value (item_in (extent_of c.args.w.now.heap) c.args.z) (λ w. next (two.0, two.1, w)))
    (setting_of outside c.args.w.now (g.L.Locals.items c.args.l.now)) (setting_of outside c.args.w.now (g.L.Locals.items c.args.l.now))
    (three_in (extent_of c.args.w.now.heap)) c.in_err-a.field-0.0 c.from_residual.result c.from_residual.ensures.1 (c.in_err-a.ensures.found outside)

pub returns-in_err-c-clause-found : goal.returns-in_err-c-clause-found
returns-in_err-c-clause-found g c = λ outside.
    then_stops (extent_of c.args.w.now.heap) (two_values (item_in (extent_of c.args.w.now.heap) c.args.x) (item_in (extent_of c.args.w.now.heap) c.args.y))
    ((value_in (extent_of c.args.w.now.heap) c.in_ok-a.a), (value_in (extent_of c.args.w.now.heap) c.in_ok-a.b))
    (λ (two : Value × Value) next. the_value (item_in (extent_of c.args.w.now.heap) c.args.z) (λ w. next (two.0, two.1, w)))
    (setting_of outside c.args.w.now (g.L.Locals.items c.args.l.now)) (setting_of outside c.args.w.now (g.L.Locals.items c.args.l.now))
    (setting_of outside c.args.w.now (g.L.Locals.items c.args.l.now)) (three_in (extent_of c.args.w.now.heap)) c.in_err-c.field-0.0
    c.from_residual-in_err-c.result c.from_residual-in_err-c.ensures.1 (c.in_ok-a.ensures.found outside)
    (stops_within (extent_of c.args.w.now.heap) (the_value (item_in (extent_of c.args.w.now.heap) c.args.z))
    (λ w next. next ((value_in (extent_of c.args.w.now.heap) c.in_ok-a.a), (value_in (extent_of c.args.w.now.heap) c.in_ok-a.b), w))
    (setting_of outside c.args.w.now (g.L.Locals.items c.args.l.now)) (setting_of outside c.args.w.now (g.L.Locals.items c.args.l.now)) c.in_err-c.field-0.0
    (c.in_err-c.ensures.value outside))

pub returns-clause-found : goal.returns-clause-found
returns-clause-found g c = λ outside.
    λ next. c.in_ok-a.ensures.found outside (λ two. the_value (item_in (extent_of c.args.w.now.heap) c.args.z) (λ w. next (two.0, two.1, w)))
    ∙ c.in_ok-c.ensures.value outside
    (λ w. next ((value_in (extent_of c.args.w.now.heap) c.in_ok-a.a), (value_in (extent_of c.args.w.now.heap) c.in_ok-a.b), w))
