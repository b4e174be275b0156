use Rattle.std.proofs.Common.{◌≡◌, ◌∙◌, subst}
use Rattle.icn_value.specs.Values.{Value}
use Rattle.icn_defs.specs.Rows.{costs_text}
use Rattle.icn_heap.specs.Extents.{value_in}
use Rattle.icn_heap.specs.Heaps.{extent_of}
use Rattle.icn_vars.specs.Stops.{StopsPassing}
use Rattle.icn_vars.specs.Worlds.{setting_of}
use Rattle.icn_args.proofs.RowAnswers.{first_part_stops, then_part_stops}
use Rattle.icn_args.proofs.charges.texts_of.Goals as goal

pub returns-in_err-first-clause-step : goal.returns-in_err-first-clause-step
returns-in_err-first-clause-step g c = λ outside.
    first_part_stops (extent_of c.text_of.new.w.heap) (costs_text (value_in (extent_of c.args.w.now.heap) c.args.a))
    (costs_text (value_in (extent_of c.args.w.now.heap) c.args.b)) (setting_of outside c.args.w.now (g.L.Locals.items c.args.l.now))
    (setting_of outside c.text_of.new.w (g.L.Locals.items c.args.l.now))
    c.in_err-first.field-0.0 c.from_residual.result c.from_residual.ensures.1 (c.in_err-first.ensures.step outside)

pub returns-in_err-second-clause-step : goal.returns-in_err-second-clause-step
returns-in_err-second-clause-step g c = λ outside.
    then_part_stops (extent_of c.text_of-2.new.w.heap) (costs_text (value_in (extent_of c.args.w.now.heap) c.args.a))
    (costs_text (value_in (extent_of c.args.w.now.heap) c.args.b)) (setting_of outside c.args.w.now (g.L.Locals.items c.args.l.now))
    (setting_of outside c.text_of.new.w (g.L.Locals.items c.args.l.now)) (setting_of outside c.text_of-2.new.w (g.L.Locals.items c.args.l.now))
    c.in_err-second.field-0.0 c.from_residual-in_err-second.result c.from_residual-in_err-second.ensures.1 (c.in_ok-first.ensures.step outside)
    (subst (λ (value : Value). StopsPassing (extent_of c.text_of-2.new.w.heap) (costs_text value) (setting_of outside c.text_of.new.w
    (g.L.Locals.items c.args.l.now)) (setting_of outside c.text_of-2.new.w (g.L.Locals.items c.args.l.now)) c.in_err-second.field-0.0)
    (c.text_of.ensures.kept.items.extent.value c.args.b c.requires.second) (c.in_err-second.ensures.step outside))

pub returns-clause-step : goal.returns-clause-step
returns-clause-step g c = λ outside next.
    c.in_ok-first.ensures.step outside (costs_text (value_in (extent_of c.args.w.now.heap) c.args.b) next)
    ∙ subst (λ (value : Value). costs_text value next (setting_of outside c.text_of.new.w (g.L.Locals.items c.args.l.now))
    ≡ next (setting_of outside c.text_of-2.new.w (g.L.Locals.items c.args.l.now)))
    (c.text_of.ensures.kept.items.extent.value c.args.b c.requires.second) (c.in_ok-second.ensures.step outside next)
