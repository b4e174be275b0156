use Rattle.std.proofs.Common.{◌∙◌, sym, ap, subst, List, ℕ, [], ◌∷◌, map}
use Rattle.icn_value.specs.Values.{Value}
use Rattle.icn_convert.specs.TextCharges.{MakesNoText}
use Rattle.icn_defs.specs.Calls.{Passes}
use Rattle.icn_defs.specs.Rows.{builds, costs_text, costs_texts}
use Rattle.icn_defs.specs.Strings.{map_row, map_byte}
use Rattle.icn_heap.specs.Extents.{text_in, value_in}
use Rattle.icn_heap.specs.Heaps.{extent_of}
use Rattle.icn_vars.proofs.KeptItems.{keeps_live_then}
use Rattle.icn_vars.specs.Worlds.{setting_of}
use Rattle.icn_args.specs.RowWords.{HasText, the_text}
use Rattle.icn_strfn.specs.TextArguments.{argument_bytes, or_default}
use Rattle.icn_strfn.specs.declared.text_arguments.DefaultText.TheVariants.{Upper, Lower}
use Rattle.icn_strfn.proofs.RowAnswers.{row_goes_on, row_stops_at, stops_so}
use Rattle.icn_strfn.proofs.KeptArguments.{argument_stays, same_argument}
use Rattle.icn_strfn.proofs.CheckedRows as steps
use Rattle.icn_strfn.proofs.RowLimits.{error_no_want, limit_before}
use Rattle.icn_strfn.proofs.laid_rows.map_row.Goals as goal

pub returns-in_err-checked_mapping-clause-row : goal.returns-in_err-checked_mapping-clause-row
returns-in_err-checked_mapping-clause-row g c = λ outside.
    stops_so (extent_of c.args.w.now.heap) (map_row (map (value_in (extent_of c.args.w.now.heap)) c.args.args.now))
    (setting_of outside c.args.w.now (g.L.Locals.items c.args.l.now)) c.in_err-checked_mapping.field-0.0 c.from_residual.result c.from_residual.ensures.1
    (c.in_err-checked_mapping.ensures.stops (setting_of outside c.args.w.now (g.L.Locals.items c.args.l.now)))

pub two_texts-requires-clause-first_has : goal.two_texts-requires-clause-first_has
two_texts-requires-clause-first_has g c =
    subst HasText (sym (c.arg-val.ensures.value (extent_of c.args.w.now.heap))) c.in_ok-checked_mapping.ensures.mapping.text

pub two_texts-requires-clause-second_has : goal.two_texts-requires-clause-second_has
two_texts-requires-clause-second_has g c = subst (λ (v : Value). HasText (or_default Upper v))
    (sym (c.arg-from.ensures.value (extent_of c.args.w.now.heap))) c.in_ok-checked_mapping.ensures.mapping.from

pub returns-in_err-span-clause-row : goal.returns-in_err-span-clause-row
returns-in_err-span-clause-row g c = λ outside.
    row_stops_at (extent_of c.two_texts.new.w.heap) (map_row (map (value_in (extent_of c.args.w.now.heap)) c.args.args.now))
    (costs_texts ((value_in (extent_of c.args.w.now.heap) c.arg-val.result) ∷ (value_in (extent_of c.args.w.now.heap) c.arg-from.result) ∷ []))
    (costs_text (value_in (extent_of c.args.w.now.heap) c.arg-to.result)
    (builds (map (map_byte (the_text (or_default Upper (value_in (extent_of c.args.w.now.heap) c.arg-from.result))) (the_text (or_default Lower
    (value_in (extent_of c.args.w.now.heap) c.arg-to.result)))) (the_text (value_in (extent_of c.args.w.now.heap) c.arg-val.result)))))
    (setting_of outside c.args.w.now (g.L.Locals.items c.args.l.now)) (setting_of outside c.args.w.now (g.L.Locals.items c.args.l.now))
    (setting_of outside c.two_texts.new.w (g.L.Locals.items c.args.l.now)) c.in_err-span.field-0.0 c.from_residual-in_err-span.result
    (steps.map_left (map (value_in (extent_of c.args.w.now.heap)) c.args.args.now) (value_in (extent_of c.args.w.now.heap) c.arg-val.result)
    (value_in (extent_of c.args.w.now.heap) c.arg-from.result) (value_in (extent_of c.args.w.now.heap) c.arg-to.result)
    (setting_of outside c.args.w.now (g.L.Locals.items c.args.l.now)) (c.arg-val.ensures.value (extent_of c.args.w.now.heap))
    (c.arg-from.ensures.value (extent_of c.args.w.now.heap)) (c.arg-to.ensures.value (extent_of c.args.w.now.heap)) c.in_ok-checked_mapping.ensures.mapping)
    c.from_residual-in_err-span.ensures.1 (c.in_err-span.ensures.step outside)

pub text_argument-requires-clause-live : goal.text_argument-requires-clause-live
text_argument-requires-clause-live g c =
    c.two_texts.ensures.kept.items.extent.live c.arg-to.result (c.arg-to.ensures.live (extent_of c.args.w.now.heap) c.requires.live.args)

pub text_argument-requires-clause-has : goal.text_argument-requires-clause-has
text_argument-requires-clause-has g c = subst (λ (v : Value). HasText (or_default Lower v))
    (sym ((c.two_texts.ensures.kept.items.extent.value c.arg-to.result (c.arg-to.ensures.live (extent_of c.args.w.now.heap) c.requires.live.args))
    ∙ c.arg-to.ensures.value (extent_of c.args.w.now.heap))) c.in_ok-checked_mapping.ensures.mapping.to

pub returns-in_err-second-clause-row : goal.returns-in_err-second-clause-row
returns-in_err-second-clause-row g c = λ outside.
    row_stops_at (extent_of c.text_argument.new.w.heap)
    (map_row (map (value_in (extent_of c.args.w.now.heap)) c.args.args.now)) (costs_text (value_in (extent_of c.two_texts.new.w.heap) c.arg-to.result))
    (builds (map (map_byte (the_text (or_default Upper (value_in (extent_of c.args.w.now.heap) c.arg-from.result))) (the_text (or_default Lower
    (value_in (extent_of c.args.w.now.heap) c.arg-to.result)))) (the_text (value_in (extent_of c.args.w.now.heap) c.arg-val.result))))
    (setting_of outside c.args.w.now (g.L.Locals.items c.args.l.now)) (setting_of outside c.two_texts.new.w (g.L.Locals.items c.args.l.now))
    (setting_of outside c.text_argument.new.w (g.L.Locals.items c.args.l.now)) c.in_err-second.field-0.0 c.from_residual-in_err-second.result
    (((steps.map_left (map (value_in (extent_of c.args.w.now.heap)) c.args.args.now) (value_in (extent_of c.args.w.now.heap) c.arg-val.result)
    (value_in (extent_of c.args.w.now.heap) c.arg-from.result) (value_in (extent_of c.args.w.now.heap) c.arg-to.result)
    (setting_of outside c.args.w.now (g.L.Locals.items c.args.l.now)) (c.arg-val.ensures.value (extent_of c.args.w.now.heap))
    (c.arg-from.ensures.value (extent_of c.args.w.now.heap)) (c.arg-to.ensures.value (extent_of c.args.w.now.heap)) c.in_ok-checked_mapping.ensures.mapping)
    ∙ c.in_ok-span.ensures.step outside (costs_text (value_in (extent_of c.args.w.now.heap) c.arg-to.result)
    (builds (map (map_byte (the_text (or_default Upper (value_in (extent_of c.args.w.now.heap) c.arg-from.result))) (the_text (or_default Lower
    (value_in (extent_of c.args.w.now.heap) c.arg-to.result)))) (the_text (value_in (extent_of c.args.w.now.heap) c.arg-val.result))))))
    ∙ ap (λ (v : Value). costs_text v (builds (map (map_byte (the_text (or_default Upper (value_in (extent_of c.args.w.now.heap) c.arg-from.result)))
    (the_text (or_default Lower (value_in (extent_of c.args.w.now.heap) c.arg-to.result))))
    (the_text (value_in (extent_of c.args.w.now.heap) c.arg-val.result)))) (setting_of outside c.two_texts.new.w (g.L.Locals.items c.args.l.now)))
    (sym (c.two_texts.ensures.kept.items.extent.value c.arg-to.result (c.arg-to.ensures.live (extent_of c.args.w.now.heap) c.requires.live.args))))
    c.from_residual-in_err-second.ensures.1 (c.in_err-second.ensures.step outside)

pub build_mapped-requires-clause-text : goal.build_mapped-requires-clause-text
build_mapped-requires-clause-text g c = c.text_argument.ensures.kept.items.extent.text c.in_ok-span.span c.in_ok-span.ensures.first_live

pub build_mapped-requires-clause-from : goal.build_mapped-requires-clause-from
build_mapped-requires-clause-from g c = argument_stays _ _ c.text_argument.ensures.kept.items.extent c.in_ok-span.first c.in_ok-span.ensures.second_live

pub returns-clause-row : goal.returns-clause-row
returns-clause-row g c = λ outside.
    row_goes_on (extent_of c.build_mapped.new.w.heap) (map_row (map (value_in (extent_of c.args.w.now.heap)) c.args.args.now))
    (builds (map (map_byte (argument_bytes (extent_of c.text_argument.new.w.heap) c.in_ok-span.first) (argument_bytes (extent_of c.text_argument.new.w.heap)
    c.in_ok-second.second)) (text_in (extent_of c.text_argument.new.w.heap) c.in_ok-span.span)))
    (setting_of outside c.args.w.now (g.L.Locals.items c.args.l.now)) (setting_of outside c.text_argument.new.w (g.L.Locals.items c.args.l.now))
    (setting_of outside c.build_mapped.new.w (g.L.Locals.items c.args.l.now)) c.build_mapped.result
    ((((steps.map_left (map (value_in (extent_of c.args.w.now.heap)) c.args.args.now) (value_in (extent_of c.args.w.now.heap) c.arg-val.result)
    (value_in (extent_of c.args.w.now.heap) c.arg-from.result) (value_in (extent_of c.args.w.now.heap) c.arg-to.result)
    (setting_of outside c.args.w.now (g.L.Locals.items c.args.l.now)) (c.arg-val.ensures.value (extent_of c.args.w.now.heap))
    (c.arg-from.ensures.value (extent_of c.args.w.now.heap)) (c.arg-to.ensures.value (extent_of c.args.w.now.heap)) c.in_ok-checked_mapping.ensures.mapping)
    ∙ c.in_ok-span.ensures.step outside (costs_text (value_in (extent_of c.args.w.now.heap) c.arg-to.result)
    (builds (map (map_byte (the_text (or_default Upper (value_in (extent_of c.args.w.now.heap) c.arg-from.result))) (the_text (or_default Lower (value_in
    (extent_of c.args.w.now.heap) c.arg-to.result)))) (the_text (value_in (extent_of c.args.w.now.heap) c.arg-val.result))))))
    ∙ ap (λ (v : Value). costs_text v (builds (map (map_byte (the_text (or_default Upper (value_in (extent_of c.args.w.now.heap) c.arg-from.result)))
    (the_text (or_default Lower (value_in (extent_of c.args.w.now.heap) c.arg-to.result)))) (the_text (value_in (extent_of c.args.w.now.heap)
    c.arg-val.result)))) (setting_of outside c.two_texts.new.w (g.L.Locals.items c.args.l.now)))
    (sym (c.two_texts.ensures.kept.items.extent.value c.arg-to.result (c.arg-to.ensures.live (extent_of c.args.w.now.heap) c.requires.live.args))))
    ∙ (c.in_ok-second.ensures.step outside (builds (map (map_byte (the_text (or_default Upper (value_in (extent_of c.args.w.now.heap) c.arg-from.result)))
    (the_text (or_default Lower (value_in (extent_of c.args.w.now.heap) c.arg-to.result)))) (the_text (value_in (extent_of c.args.w.now.heap)
    c.arg-val.result))))
    ∙ ap (λ (bytes : List ℕ). builds bytes (setting_of outside c.text_argument.new.w (g.L.Locals.items c.args.l.now)))
    (ap (λ (bytes : List ℕ). map (map_byte (the_text (or_default Upper (value_in (extent_of c.args.w.now.heap) c.arg-from.result))) (the_text (or_default
    Lower (value_in (extent_of c.args.w.now.heap) c.arg-to.result)))) bytes)
    (sym (c.text_argument.ensures.kept.items.extent.bytes c.in_ok-span.span c.in_ok-span.ensures.first_live ∙ c.in_ok-span.ensures.first_text))
    ∙ (ap (λ (bytes : List ℕ). map (map_byte bytes (the_text (or_default Lower (value_in (extent_of c.args.w.now.heap) c.arg-to.result)))) (text_in
    (extent_of c.text_argument.new.w.heap) c.in_ok-span.span))
    (sym (same_argument _ _ c.text_argument.ensures.kept.items.extent c.in_ok-span.first c.in_ok-span.ensures.second_live ∙ c.in_ok-span.ensures.second_text))
    ∙ ap (λ (bytes : List ℕ). map (map_byte (argument_bytes (extent_of c.text_argument.new.w.heap) c.in_ok-span.first) bytes) (text_in (extent_of
    c.text_argument.new.w.heap) c.in_ok-span.span))
    (sym (c.in_ok-second.ensures.text ∙ ap (λ (v : Value). the_text (or_default Lower v))
    (c.two_texts.ensures.kept.items.extent.value c.arg-to.result (c.arg-to.ensures.live (extent_of c.args.w.now.heap) c.requires.live.args))))))))
    (c.build_mapped.ensures.row outside)

pub returns-clause-kept : goal.returns-clause-kept
returns-clause-kept g c = keeps_live_then c.two_texts.ensures.kept (keeps_live_then c.text_argument.ensures.kept c.build_mapped.ensures.kept)

pub returns-in_err-checked_mapping-clause-limits : goal.returns-in_err-checked_mapping-clause-limits
returns-in_err-checked_mapping-clause-limits g c = λ held held_from held_to wanting.
    absurd (error_no_want c.in_err-checked_mapping.field-0.0 c.from_residual.result c.from_residual.ensures.1 c.in_err-checked_mapping.ensures.error wanting)

pub returns-in_err-span-clause-limits : goal.returns-in_err-span-clause-limits
returns-in_err-span-clause-limits g c = λ held held_from held_to.
    absurd (c.in_err-span.ensures.held (subst MakesNoText (sym (c.arg-val.ensures.value (extent_of c.args.w.now.heap))) held)
    (subst MakesNoText (sym (c.arg-from.ensures.value (extent_of c.args.w.now.heap))) held_from))

pub returns-in_err-second-clause-limits : goal.returns-in_err-second-clause-limits
returns-in_err-second-clause-limits g c = λ held held_from held_to.
    absurd (c.in_err-second.ensures.held (subst MakesNoText (sym (c.two_texts.ensures.kept.items.extent.value c.arg-to.result
    (c.arg-to.ensures.live (extent_of c.args.w.now.heap) c.requires.live.args) ∙ c.arg-to.ensures.value (extent_of c.args.w.now.heap))) held_to))

pub returns-clause-limits : goal.returns-clause-limits
returns-clause-limits g c = λ held held_from held_to wanting outside at.
    let text : List ℕ = text_in (extent_of c.text_argument.new.w.heap) c.in_ok-span.span in
    let from : List ℕ = argument_bytes (extent_of c.text_argument.new.w.heap) c.in_ok-span.first in
    let to : List ℕ = argument_bytes (extent_of c.text_argument.new.w.heap) c.in_ok-second.second in
    limit_before (map_row (map (value_in (extent_of c.args.w.now.heap)) c.args.args.now)) (map (map_byte from to) text)
    (setting_of outside c.args.w.now (g.L.Locals.items c.args.l.now))
    (setting_of outside c.text_argument.new.w (g.L.Locals.items c.args.l.now)) at c.build_mapped.result
    (steps.map_made (map (value_in (extent_of c.args.w.now.heap)) c.args.args.now) (value_in (extent_of c.args.w.now.heap) c.arg-val.result)
    (value_in (extent_of c.args.w.now.heap) c.arg-from.result) (value_in (extent_of c.args.w.now.heap) c.arg-to.result) text from to
    (setting_of outside c.args.w.now (g.L.Locals.items c.args.l.now)) (setting_of outside c.two_texts.new.w (g.L.Locals.items c.args.l.now))
    (setting_of outside c.text_argument.new.w (g.L.Locals.items c.args.l.now)) (c.arg-val.ensures.value (extent_of c.args.w.now.heap))
    (c.arg-from.ensures.value (extent_of c.args.w.now.heap)) (c.arg-to.ensures.value (extent_of c.args.w.now.heap)) c.in_ok-checked_mapping.ensures.mapping
    (c.in_ok-span.ensures.step outside)
    (subst (λ (v : Value). Passes (costs_text v) (setting_of outside c.two_texts.new.w (g.L.Locals.items c.args.l.now))
    (setting_of outside c.text_argument.new.w (g.L.Locals.items c.args.l.now)))
    (c.two_texts.ensures.kept.items.extent.value c.arg-to.result (c.arg-to.ensures.live (extent_of c.args.w.now.heap) c.requires.live.args))
    (c.in_ok-second.ensures.step outside))
    (c.text_argument.ensures.kept.items.extent.bytes c.in_ok-span.span c.in_ok-span.ensures.first_live ∙ c.in_ok-span.ensures.first_text)
    (same_argument _ _ c.text_argument.ensures.kept.items.extent c.in_ok-span.first c.in_ok-span.ensures.second_live ∙ c.in_ok-span.ensures.second_text)
    (c.in_ok-second.ensures.text ∙ ap (λ (v : Value). the_text (or_default Lower v))
    (c.two_texts.ensures.kept.items.extent.value c.arg-to.result (c.arg-to.ensures.live (extent_of c.args.w.now.heap) c.requires.live.args))))
    c.build_mapped.ensures.limits wanting
