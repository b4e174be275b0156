use Rattle.icn_value.specs.Values.{Value}
use Rattle.icn_defs.specs.Arguments.{string}
use Rattle.icn_defs.specs.ReadAndAssign.{the_value}
use Rattle.icn_defs.specs.Rows.{costs_text}
use Rattle.icn_heap.specs.Extents.{value_in, text_in}
use Rattle.icn_heap.specs.Heaps.{extent_of}
use Rattle.icn_vars.specs.Worlds.{item_in, setting_of}
use Rattle.icn_args.proofs.RowAnswers.{first_stops, stop_lives_on, stops_within, then_stops}
use Rattle.icn_ops.proofs.TwoOperandSteps.{text_found}
use Rattle.icn_ops.proofs.operands.one_text.Goals as goal

pub returns-in_err-val-clause-found : goal.returns-in_err-val-clause-found
returns-in_err-val-clause-found g c = λ outside.
    first_stops
    (extent_of c.args.w.now.heap) (the_value (item_in (extent_of c.args.w.now.heap) c.args.x)) (λ (v : Value) next. string v (λ s. costs_text v (next s)))
    (setting_of outside c.args.w.now (g.L.Locals.items c.args.l.now)) (setting_of outside c.args.w.now (g.L.Locals.items c.args.l.now))
    (text_in (extent_of c.args.w.now.heap)) c.in_err-val.field-0.0 c.from_residual.result c.from_residual.ensures.1 (c.in_err-val.ensures.value outside)

pub returns-in_err-check_text-clause-found : goal.returns-in_err-check_text-clause-found
returns-in_err-check_text-clause-found g c = λ outside.
    then_stops (extent_of c.args.w.now.heap) (the_value (item_in (extent_of c.args.w.now.heap) c.args.x))
    (value_in (extent_of c.args.w.now.heap) c.in_ok-val.val) (λ (v : Value) next. string v (λ s. costs_text v (next s)))
    (setting_of outside c.args.w.now (g.L.Locals.items c.args.l.now)) (setting_of outside c.args.w.now (g.L.Locals.items c.args.l.now))
    (setting_of outside c.args.w.now (g.L.Locals.items c.args.l.now)) (text_in (extent_of c.args.w.now.heap)) c.in_err-check_text.field-0.0
    c.from_residual-in_err-check_text.result c.from_residual-in_err-check_text.ensures.1 (c.in_ok-val.ensures.value outside)
    (stops_within (extent_of c.args.w.now.heap) (string (value_in (extent_of c.args.w.now.heap) c.in_ok-val.val))
    (λ s next. costs_text (value_in (extent_of c.args.w.now.heap) c.in_ok-val.val) (next s)) (setting_of outside c.args.w.now (g.L.Locals.items c.args.l.now))
    (setting_of outside c.args.w.now (g.L.Locals.items c.args.l.now)) c.in_err-check_text.field-0.0
    (c.in_err-check_text.ensures.found (extent_of c.args.w.now.heap) (setting_of outside c.args.w.now (g.L.Locals.items c.args.l.now))))

pub text_of-requires-clause-has : goal.text_of-requires-clause-has
text_of-requires-clause-has g c =
    c.in_ok-check_text.ensures.has (extent_of c.args.w.now.heap)

pub returns-clause-found : goal.returns-clause-found
returns-clause-found g c = λ outside.
    text_found (extent_of c.text_of.new.w.heap) (item_in (extent_of c.args.w.now.heap) c.args.x) (value_in (extent_of c.args.w.now.heap) c.in_ok-val.val)
    (setting_of outside c.args.w.now (g.L.Locals.items c.args.l.now)) (setting_of outside c.text_of.new.w (g.L.Locals.items c.args.l.now)) c.text_of.result
    (c.in_ok-val.ensures.value outside)
    (c.in_ok-check_text.ensures.found (extent_of c.args.w.now.heap) (setting_of outside c.args.w.now (g.L.Locals.items c.args.l.now)))
    (c.text_of.ensures.step outside) c.text_of.ensures.text

pub returns-in_err-check_text-clause-stops : goal.returns-in_err-check_text-clause-stops
returns-in_err-check_text-clause-stops g c =
    stop_lives_on (extent_of c.args.w.now.heap) c.in_err-check_text.field-0.0 c.from_residual-in_err-check_text.result
    c.from_residual-in_err-check_text.ensures.1 (c.in_err-check_text.ensures.stops (extent_of c.args.w.now.heap) c.in_ok-val.ensures.live)
