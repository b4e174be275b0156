use Rattle.std.proofs.Common.{[], ◌∷◌}
use Rattle.icn_value.specs.Values.{Value}
use Rattle.icn_defs.specs.Arguments.{string}
use Rattle.icn_defs.specs.Rows.{costs_texts}
use Rattle.icn_heap.specs.Extents.{value_in}
use Rattle.icn_heap.specs.Heaps.{extent_of}
use Rattle.icn_vars.specs.Worlds.{item_in, setting_of}
use Rattle.icn_args.proofs.RowAnswers.{first_stops, stop_lives_on, stops_behind, stops_within, then_stops}
use Rattle.icn_ops.specs.Operands.{two_values, texts_in}
use Rattle.icn_ops.proofs.TwoOperandSteps.{texts_found}
use Rattle.icn_args.specs.RowWords.{the_text}
use Rattle.icn_ops.proofs.operands.two_texts.Goals as goal

pub returns-in_err-a-clause-found : goal.returns-in_err-a-clause-found
returns-in_err-a-clause-found g c = λ outside.
    first_stops (extent_of c.args.w.now.heap) (two_values (item_in (extent_of c.args.w.now.heap) c.args.x) (item_in (extent_of c.args.w.now.heap) c.args.y))
    (λ (two : Value × Value) next. string two.0 (λ s. string two.1 (λ t. costs_texts (two.0 ∷ two.1 ∷ []) (next (s, t)))))
    (setting_of outside c.args.w.now (g.L.Locals.items c.args.l.now)) (setting_of outside c.args.w.now (g.L.Locals.items c.args.l.now))
    (texts_in (extent_of c.args.w.now.heap)) c.in_err-a.field-0.0 c.from_residual.result c.from_residual.ensures.1 (c.in_err-a.ensures.found outside)

pub returns-in_err-check_text-clause-found : goal.returns-in_err-check_text-clause-found
returns-in_err-check_text-clause-found g c = λ outside.
    then_stops (extent_of c.args.w.now.heap) (two_values (item_in (extent_of c.args.w.now.heap) c.args.x) (item_in (extent_of c.args.w.now.heap) c.args.y))
    ((value_in (extent_of c.args.w.now.heap) c.in_ok-a.a), (value_in (extent_of c.args.w.now.heap) c.in_ok-a.b))
    (λ (two : Value × Value) next. string two.0 (λ s. string two.1 (λ t. costs_texts (two.0 ∷ two.1 ∷ []) (next (s, t)))))
    (setting_of outside c.args.w.now (g.L.Locals.items c.args.l.now)) (setting_of outside c.args.w.now (g.L.Locals.items c.args.l.now))
    (setting_of outside c.args.w.now (g.L.Locals.items c.args.l.now)) (texts_in (extent_of c.args.w.now.heap)) c.in_err-check_text.field-0.0
    c.from_residual-in_err-check_text.result c.from_residual-in_err-check_text.ensures.1 (c.in_ok-a.ensures.found outside)
    (stops_within (extent_of c.args.w.now.heap) (string (value_in (extent_of c.args.w.now.heap) c.in_ok-a.a))
    (λ s next. string (value_in (extent_of c.args.w.now.heap) c.in_ok-a.b) (λ t. costs_texts ((value_in (extent_of c.args.w.now.heap) c.in_ok-a.a)
    ∷ (value_in (extent_of c.args.w.now.heap) c.in_ok-a.b) ∷ []) (next (s, t)))) (setting_of outside c.args.w.now (g.L.Locals.items c.args.l.now))
    (setting_of outside c.args.w.now (g.L.Locals.items c.args.l.now)) c.in_err-check_text.field-0.0
    (c.in_err-check_text.ensures.found (extent_of c.args.w.now.heap) (setting_of outside c.args.w.now (g.L.Locals.items c.args.l.now))))

pub returns-in_err-check_text-2-clause-found : goal.returns-in_err-check_text-2-clause-found
returns-in_err-check_text-2-clause-found g c = λ outside.
    then_stops (extent_of c.args.w.now.heap) (two_values (item_in (extent_of c.args.w.now.heap) c.args.x) (item_in (extent_of c.args.w.now.heap) c.args.y))
    ((value_in (extent_of c.args.w.now.heap) c.in_ok-a.a), (value_in (extent_of c.args.w.now.heap) c.in_ok-a.b))
    (λ (two : Value × Value) next. string two.0 (λ s. string two.1 (λ t. costs_texts (two.0 ∷ two.1 ∷ []) (next (s, t)))))
    (setting_of outside c.args.w.now (g.L.Locals.items c.args.l.now)) (setting_of outside c.args.w.now (g.L.Locals.items c.args.l.now))
    (setting_of outside c.args.w.now (g.L.Locals.items c.args.l.now)) (texts_in (extent_of c.args.w.now.heap)) c.in_err-check_text-2.field-0.0
    c.from_residual-in_err-check_text-2.result c.from_residual-in_err-check_text-2.ensures.1 (c.in_ok-a.ensures.found outside)
    (stops_behind (extent_of c.args.w.now.heap) (string (value_in (extent_of c.args.w.now.heap) c.in_ok-a.a))
    (the_text (value_in (extent_of c.args.w.now.heap) c.in_ok-a.a)) (λ s next. string (value_in (extent_of c.args.w.now.heap) c.in_ok-a.b)
    (λ t. costs_texts ((value_in (extent_of c.args.w.now.heap) c.in_ok-a.a) ∷ (value_in (extent_of c.args.w.now.heap) c.in_ok-a.b) ∷ []) (next (s, t))))
    (setting_of outside c.args.w.now (g.L.Locals.items c.args.l.now)) (setting_of outside c.args.w.now (g.L.Locals.items c.args.l.now))
    (setting_of outside c.args.w.now (g.L.Locals.items c.args.l.now)) c.in_err-check_text-2.field-0.0
    (c.in_ok-check_text.ensures.found (extent_of c.args.w.now.heap) (setting_of outside c.args.w.now (g.L.Locals.items c.args.l.now)))
    (stops_within (extent_of c.args.w.now.heap) (string (value_in (extent_of c.args.w.now.heap) c.in_ok-a.b))
    (λ t next. costs_texts ((value_in (extent_of c.args.w.now.heap) c.in_ok-a.a) ∷ (value_in (extent_of c.args.w.now.heap) c.in_ok-a.b) ∷ [])
    (next (the_text (value_in (extent_of c.args.w.now.heap) c.in_ok-a.a), t))) (setting_of outside c.args.w.now (g.L.Locals.items c.args.l.now))
    (setting_of outside c.args.w.now (g.L.Locals.items c.args.l.now)) c.in_err-check_text-2.field-0.0
    (c.in_err-check_text-2.ensures.found (extent_of c.args.w.now.heap) (setting_of outside c.args.w.now (g.L.Locals.items c.args.l.now)))))

pub texts_of-requires-clause-first_has : goal.texts_of-requires-clause-first_has
texts_of-requires-clause-first_has g c =
    c.in_ok-check_text.ensures.has (extent_of c.args.w.now.heap)

pub texts_of-requires-clause-second_has : goal.texts_of-requires-clause-second_has
texts_of-requires-clause-second_has g c =
    c.in_ok-check_text-2.ensures.has (extent_of c.args.w.now.heap)

pub returns-clause-found : goal.returns-clause-found
returns-clause-found g c = λ outside.
    texts_found (extent_of c.texts_of.new.w.heap) (item_in (extent_of c.args.w.now.heap) c.args.x) (item_in (extent_of c.args.w.now.heap) c.args.y)
    (value_in (extent_of c.args.w.now.heap) c.in_ok-a.a) (value_in (extent_of c.args.w.now.heap) c.in_ok-a.b) (setting_of outside c.args.w.now
    (g.L.Locals.items c.args.l.now)) (setting_of outside c.texts_of.new.w (g.L.Locals.items c.args.l.now)) c.texts_of.result (c.in_ok-a.ensures.found outside)
    (c.in_ok-check_text.ensures.found (extent_of c.args.w.now.heap) (setting_of outside c.args.w.now (g.L.Locals.items c.args.l.now)))
    (c.in_ok-check_text-2.ensures.found (extent_of c.args.w.now.heap) (setting_of outside c.args.w.now (g.L.Locals.items c.args.l.now)))
    (c.texts_of.ensures.step outside) c.texts_of.ensures.first_text c.texts_of.ensures.second_text

pub returns-in_err-check_text-clause-stops : goal.returns-in_err-check_text-clause-stops
returns-in_err-check_text-clause-stops g c =
    stop_lives_on (extent_of c.args.w.now.heap) c.in_err-check_text.field-0.0 c.from_residual-in_err-check_text.result
    c.from_residual-in_err-check_text.ensures.1 (c.in_err-check_text.ensures.stops (extent_of c.args.w.now.heap) c.in_ok-a.ensures.first_live)

pub returns-in_err-check_text-2-clause-stops : goal.returns-in_err-check_text-2-clause-stops
returns-in_err-check_text-2-clause-stops g c =
    stop_lives_on (extent_of c.args.w.now.heap) c.in_err-check_text-2.field-0.0 c.from_residual-in_err-check_text-2.result
    c.from_residual-in_err-check_text-2.ensures.1 (c.in_err-check_text-2.ensures.stops (extent_of c.args.w.now.heap) c.in_ok-a.ensures.second_live)
