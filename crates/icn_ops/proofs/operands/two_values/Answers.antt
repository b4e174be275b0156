use Rattle.std.proofs.Common.{◌∙◌}
use Rattle.icn_defs.specs.ReadAndAssign.{the_value}
use Rattle.icn_heap.specs.Extents.{value_in, values_in}
use Rattle.icn_heap.specs.Heaps.{extent_of}
use Rattle.icn_vars.specs.Worlds.{item_in, setting_of}
use Rattle.icn_args.proofs.RowAnswers.{first_stops, stops_within, then_stops}
use Rattle.icn_ops.proofs.operands.two_values.Goals as goal

pub returns-in_err-a-clause-found : goal.returns-in_err-a-clause-found
returns-in_err-a-clause-found g c = λ outside.
    first_stops (extent_of c.args.w.now.heap) (the_value (item_in (extent_of c.args.w.now.heap) c.args.x))
    (λ v next. the_value (item_in (extent_of c.args.w.now.heap) c.args.y) (λ w. next (v, w))) (setting_of outside c.args.w.now (g.L.Locals.items c.args.l.now))
    (setting_of outside c.args.w.now (g.L.Locals.items c.args.l.now))
    (values_in (extent_of c.args.w.now.heap)) c.in_err-a.field-0.0 c.from_residual.result c.from_residual.ensures.1 (c.in_err-a.ensures.value outside)

pub returns-in_err-b-clause-found : goal.returns-in_err-b-clause-found
returns-in_err-b-clause-found g c = λ outside.
    then_stops (extent_of c.args.w.now.heap) (the_value (item_in (extent_of c.args.w.now.heap) c.args.x)) (value_in (extent_of c.args.w.now.heap) c.in_ok-a.a)
    (λ v next. the_value (item_in (extent_of c.args.w.now.heap) c.args.y) (λ w. next (v, w))) (setting_of outside c.args.w.now (g.L.Locals.items c.args.l.now))
    (setting_of outside c.args.w.now (g.L.Locals.items c.args.l.now)) (setting_of outside c.args.w.now (g.L.Locals.items c.args.l.now))
    (values_in (extent_of c.args.w.now.heap)) c.in_err-b.field-0.0 c.from_residual-in_err-b.result c.from_residual-in_err-b.ensures.1
    (c.in_ok-a.ensures.value outside)
    (stops_within (extent_of c.args.w.now.heap) (the_value (item_in (extent_of c.args.w.now.heap) c.args.y))
    (λ w next. next ((value_in (extent_of c.args.w.now.heap) c.in_ok-a.a), w)) (setting_of outside c.args.w.now (g.L.Locals.items c.args.l.now))
    (setting_of outside c.args.w.now (g.L.Locals.items c.args.l.now)) c.in_err-b.field-0.0 (c.in_err-b.ensures.value outside))

pub returns-clause-found : goal.returns-clause-found
returns-clause-found g c = λ outside.
    λ next. c.in_ok-a.ensures.value outside (λ v. the_value (item_in (extent_of c.args.w.now.heap) c.args.y) (λ w. next (v, w)))
    ∙ c.in_ok-b.ensures.value outside (λ w. next ((value_in (extent_of c.args.w.now.heap) c.in_ok-a.a), w))
