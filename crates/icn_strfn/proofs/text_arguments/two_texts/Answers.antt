use Rattle.std.proofs.Common.{◌≡◌, ◌∙◌, sym, ap, subst}
use Rattle.icn_value.specs.Values.{Value}
use Rattle.icn_convert.specs.TextCharges.{MakesNoText}
use Rattle.icn_defs.specs.Rows.{costs_text}
use Rattle.icn_heap.specs.Extents.{value_in}
use Rattle.icn_heap.specs.Heaps.{extent_of}
use Rattle.icn_vars.specs.Stops.{StopsPassing}
use Rattle.icn_vars.specs.Worlds.{setting_of}
use Rattle.icn_args.specs.RowWords.{HasText, the_text}
use Rattle.icn_args.proofs.RowAnswers.{first_part_stops, then_part_stops}
use Rattle.icn_strfn.specs.TextArguments.{or_default}
use Rattle.icn_strfn.proofs.text_arguments.two_texts.Goals as goal

pub text_argument-requires-clause-has : goal.text_argument-requires-clause-has
text_argument-requires-clause-has g c =
    subst (λ (value : Value). HasText (or_default c.args.default value))
    (sym (c.text_of.ensures.kept.items.extent.value c.args.other c.requires.second)) c.requires.second_has

pub returns-in_err-text-clause-step : goal.returns-in_err-text-clause-step
returns-in_err-text-clause-step g c = λ outside.
    first_part_stops (extent_of c.text_of.new.w.heap) (costs_text (value_in (extent_of c.args.w.now.heap) c.args.val))
    (costs_text (value_in (extent_of c.args.w.now.heap) c.args.other)) (setting_of outside c.args.w.now (g.L.Locals.items c.args.l.now))
    (setting_of outside c.text_of.new.w (g.L.Locals.items c.args.l.now))
    c.in_err-text.field-0.0 c.from_residual.result c.from_residual.ensures.1 (c.in_err-text.ensures.step outside)

pub returns-in_err-argument-clause-step : goal.returns-in_err-argument-clause-step
returns-in_err-argument-clause-step g c = λ outside.
    then_part_stops (extent_of c.text_argument.new.w.heap) (costs_text (value_in (extent_of c.args.w.now.heap) c.args.val))
    (costs_text (value_in (extent_of c.args.w.now.heap) c.args.other)) (setting_of outside c.args.w.now (g.L.Locals.items c.args.l.now))
    (setting_of outside c.text_of.new.w (g.L.Locals.items c.args.l.now)) (setting_of outside c.text_argument.new.w (g.L.Locals.items c.args.l.now))
    c.in_err-argument.field-0.0 c.from_residual-in_err-argument.result c.from_residual-in_err-argument.ensures.1 (c.in_ok-text.ensures.step outside)
    (subst (λ (value : Value). StopsPassing (extent_of c.text_argument.new.w.heap) (costs_text value) (setting_of outside c.text_of.new.w
    (g.L.Locals.items c.args.l.now)) (setting_of outside c.text_argument.new.w (g.L.Locals.items c.args.l.now)) c.in_err-argument.field-0.0)
    (c.text_of.ensures.kept.items.extent.value c.args.other c.requires.second) (c.in_err-argument.ensures.step outside))

pub returns-clause-second_text : goal.returns-clause-second_text
returns-clause-second_text g c =
    c.in_ok-argument.ensures.text
    ∙ ap (λ (value : Value). the_text (or_default c.args.default value)) (c.text_of.ensures.kept.items.extent.value c.args.other c.requires.second)

pub returns-clause-step : goal.returns-clause-step
returns-clause-step g c = λ outside next.
    c.in_ok-text.ensures.step outside (costs_text (value_in (extent_of c.args.w.now.heap) c.args.other) next)
    ∙ subst (λ (value : Value). costs_text value next (setting_of outside c.text_of.new.w (g.L.Locals.items c.args.l.now))
    ≡ next (setting_of outside c.text_argument.new.w (g.L.Locals.items c.args.l.now)))
    (c.text_of.ensures.kept.items.extent.value c.args.other c.requires.second) (c.in_ok-argument.ensures.step outside next)

pub returns-in_err-text-clause-held : goal.returns-in_err-text-clause-held
returns-in_err-text-clause-held g c = λ first second. absurd (c.in_err-text.ensures.held first)

pub returns-in_err-argument-clause-held : goal.returns-in_err-argument-clause-held
returns-in_err-argument-clause-held g c = λ first second.
    absurd (c.in_err-argument.ensures.held (subst MakesNoText (sym (c.text_of.ensures.kept.items.extent.value c.args.other c.requires.second)) second))
