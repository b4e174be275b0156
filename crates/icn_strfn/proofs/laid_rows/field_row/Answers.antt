use Rattle.std.proofs.Common.{List, ℕ}
use Rattle.std.proofs.Common.{◌∙◌, sym, ap, subst, [], ◌∷◌, map}
use Rattle.icn_value.specs.Values.{Value}
use Rattle.icn_convert.specs.TextCharges.{MakesNoText}
use Rattle.icn_defs.specs.Rows.{builds, costs_texts}
use Rattle.icn_defs.specs.Strings.{field_row}
use Rattle.icn_heap.specs.Extents.{text_in, value_in}
use Rattle.icn_heap.specs.Heaps.{extent_of}
use Rattle.icn_vars.proofs.KeptItems.{keeps_live_then}
use Rattle.icn_vars.specs.Worlds.{setting_of}
use Rattle.icn_args.specs.RowWords.{HasText, the_text}
use Rattle.icn_strfn.specs.Layouts.{laid_out}
use Rattle.icn_strfn.specs.TextArguments.{argument_bytes, or_default}
use Rattle.icn_strfn.specs.declared.text_arguments.DefaultText.TheVariants.{Blank}
use Rattle.icn_strfn.proofs.RowAnswers.{row_goes_on, row_stops_at, stops_so}
use Rattle.icn_strfn.proofs.CheckedRows as steps
use Rattle.icn_strfn.proofs.RowLimits.{error_no_want, limit_before}
use Rattle.icn_strfn.proofs.laid_rows.field_row.Goals as goal

pub returns-in_err-width-clause-row : goal.returns-in_err-width-clause-row
returns-in_err-width-clause-row g c = λ outside.
    stops_so (extent_of c.args.w.now.heap) (field_row (laid_out c.args.layout) (map (value_in (extent_of c.args.w.now.heap)) c.args.args.now))
    (setting_of outside c.args.w.now (g.L.Locals.items c.args.l.now)) c.in_err-width.field-0.0 c.from_residual.result c.from_residual.ensures.1
    (c.in_err-width.ensures.stops c.args.layout (setting_of outside c.args.w.now (g.L.Locals.items c.args.l.now)))

pub two_texts-requires-clause-first_has : goal.two_texts-requires-clause-first_has
two_texts-requires-clause-first_has g c = subst HasText (sym (c.arg-val.ensures.value (extent_of c.args.w.now.heap))) c.in_ok-width.ensures.field.text

pub two_texts-requires-clause-second_has : goal.two_texts-requires-clause-second_has
two_texts-requires-clause-second_has g c =
    subst (λ (v : Value). HasText (or_default Blank v)) (sym (c.arg-other.ensures.value (extent_of c.args.w.now.heap))) c.in_ok-width.ensures.field.fill

pub returns-in_err-span-clause-row : goal.returns-in_err-span-clause-row
returns-in_err-span-clause-row g c = λ outside.
    row_stops_at (extent_of c.two_texts.new.w.heap) (field_row (laid_out c.args.layout) (map (value_in (extent_of c.args.w.now.heap)) c.args.args.now))
    (costs_texts ((value_in (extent_of c.args.w.now.heap) c.arg-val.result) ∷ (value_in (extent_of c.args.w.now.heap) c.arg-other.result) ∷ []))
    (builds (laid_out c.args.layout (the_text (value_in (extent_of c.args.w.now.heap) c.arg-val.result)) c.in_ok-width.width
    (the_text (or_default Blank (value_in (extent_of c.args.w.now.heap) c.arg-other.result)))))
    (setting_of outside c.args.w.now (g.L.Locals.items c.args.l.now)) (setting_of outside c.args.w.now (g.L.Locals.items c.args.l.now))
    (setting_of outside c.two_texts.new.w (g.L.Locals.items c.args.l.now)) c.in_err-span.field-0.0 c.from_residual-in_err-span.result
    (steps.field_left (map (value_in (extent_of c.args.w.now.heap)) c.args.args.now) (value_in (extent_of c.args.w.now.heap) c.arg-val.result)
    (value_in (extent_of c.args.w.now.heap) c.arg-other.result) (laid_out c.args.layout) c.in_ok-width.width
    (setting_of outside c.args.w.now (g.L.Locals.items c.args.l.now))
    (c.arg-val.ensures.value (extent_of c.args.w.now.heap)) (c.arg-other.ensures.value (extent_of c.args.w.now.heap)) c.in_ok-width.ensures.field)
    c.from_residual-in_err-span.ensures.1 (c.in_err-span.ensures.step outside)

pub returns-clause-row : goal.returns-clause-row
returns-clause-row g c = λ outside.
    row_goes_on (extent_of c.build_laid_out.new.w.heap) (field_row (laid_out c.args.layout) (map (value_in (extent_of c.args.w.now.heap)) c.args.args.now))
    (builds (laid_out c.args.layout (text_in (extent_of c.two_texts.new.w.heap) c.in_ok-span.span) c.in_ok-width.width
    (argument_bytes (extent_of c.two_texts.new.w.heap) c.in_ok-span.fill)))
    (setting_of outside c.args.w.now (g.L.Locals.items c.args.l.now)) (setting_of outside c.two_texts.new.w (g.L.Locals.items c.args.l.now))
    (setting_of outside c.build_laid_out.new.w (g.L.Locals.items c.args.l.now)) c.build_laid_out.result
    (steps.field_left (map (value_in (extent_of c.args.w.now.heap)) c.args.args.now) (value_in (extent_of c.args.w.now.heap) c.arg-val.result)
    (value_in (extent_of c.args.w.now.heap) c.arg-other.result) (laid_out c.args.layout) c.in_ok-width.width
    (setting_of outside c.args.w.now (g.L.Locals.items c.args.l.now))
    (c.arg-val.ensures.value (extent_of c.args.w.now.heap)) (c.arg-other.ensures.value (extent_of c.args.w.now.heap)) c.in_ok-width.ensures.field
    ∙ (c.in_ok-span.ensures.step outside (builds (laid_out c.args.layout (the_text (value_in (extent_of c.args.w.now.heap) c.arg-val.result))
    c.in_ok-width.width (the_text (or_default Blank (value_in (extent_of c.args.w.now.heap) c.arg-other.result)))))
    ∙ ap (λ (bytes : List ℕ). builds bytes (setting_of outside c.two_texts.new.w (g.L.Locals.items c.args.l.now)))
    (ap (λ (bytes : List ℕ). laid_out c.args.layout bytes c.in_ok-width.width (the_text (or_default Blank
    (value_in (extent_of c.args.w.now.heap) c.arg-other.result)))) (sym c.in_ok-span.ensures.first_text)
    ∙ ap (laid_out c.args.layout (text_in (extent_of c.two_texts.new.w.heap) c.in_ok-span.span) c.in_ok-width.width) (sym c.in_ok-span.ensures.second_text))))
    (c.build_laid_out.ensures.row outside)

pub returns-clause-kept : goal.returns-clause-kept
returns-clause-kept g c = keeps_live_then c.two_texts.ensures.kept c.build_laid_out.ensures.kept

pub returns-in_err-width-clause-limits : goal.returns-in_err-width-clause-limits
returns-in_err-width-clause-limits g c = λ held held_fill wanting.
    absurd (error_no_want c.in_err-width.field-0.0 c.from_residual.result c.from_residual.ensures.1 c.in_err-width.ensures.error wanting)

pub returns-in_err-span-clause-limits : goal.returns-in_err-span-clause-limits
returns-in_err-span-clause-limits g c = λ held held_fill.
    absurd (c.in_err-span.ensures.held (subst MakesNoText (sym (c.arg-val.ensures.value (extent_of c.args.w.now.heap))) held)
    (subst MakesNoText (sym (c.arg-other.ensures.value (extent_of c.args.w.now.heap))) held_fill))

pub returns-clause-limits : goal.returns-clause-limits
returns-clause-limits g c = λ held held_fill wanting outside at.
    let text : List ℕ = text_in (extent_of c.two_texts.new.w.heap) c.in_ok-span.span in
    let fill : List ℕ = argument_bytes (extent_of c.two_texts.new.w.heap) c.in_ok-span.fill in
    limit_before (field_row (laid_out c.args.layout) (map (value_in (extent_of c.args.w.now.heap)) c.args.args.now))
    (laid_out c.args.layout text c.in_ok-width.width fill)
    (setting_of outside c.args.w.now (g.L.Locals.items c.args.l.now))
    (setting_of outside c.two_texts.new.w (g.L.Locals.items c.args.l.now)) at c.build_laid_out.result
    (steps.field_made (map (value_in (extent_of c.args.w.now.heap)) c.args.args.now) (value_in (extent_of c.args.w.now.heap) c.arg-val.result)
    (value_in (extent_of c.args.w.now.heap) c.arg-other.result) (laid_out c.args.layout) c.in_ok-width.width text fill
    (setting_of outside c.args.w.now (g.L.Locals.items c.args.l.now)) (setting_of outside c.two_texts.new.w (g.L.Locals.items c.args.l.now))
    (c.arg-val.ensures.value (extent_of c.args.w.now.heap)) (c.arg-other.ensures.value (extent_of c.args.w.now.heap)) c.in_ok-width.ensures.field
    (c.in_ok-span.ensures.step outside) c.in_ok-span.ensures.first_text c.in_ok-span.ensures.second_text)
    c.build_laid_out.ensures.limits wanting
