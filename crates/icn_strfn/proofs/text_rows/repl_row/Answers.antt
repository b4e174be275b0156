use Rattle.std.proofs.Common.{List, ℕ}
use Rattle.std.proofs.Common.{FitsSigned, w64, rules}
use Rattle.std.proofs.lemmas.Int.{to_z-of_z}
use Rattle.std.proofs.Common.{◌∙◌, sym, ap, subst, map, replicate}
use Rattle.icn_convert.specs.TextCharges.{MakesNoText}
use Rattle.std.specs.List.{concat}
use Rattle.icn_defs.specs.Rows.{builds, costs_text}
use Rattle.icn_defs.specs.Strings.{repl_row}
use Rattle.icn_heap.specs.Extents.{text_in, value_in}
use Rattle.icn_heap.specs.Heaps.{extent_of}
use Rattle.icn_vars.proofs.KeptItems.{keeps_live_then}
use Rattle.icn_vars.specs.Worlds.{setting_of}
use Rattle.icn_args.specs.RowWords.{the_text}
use Rattle.icn_strfn.proofs.RowAnswers.{row_goes_on, row_stops_at}
use Rattle.icn_strfn.proofs.CheckedRows as steps
use Rattle.icn_strfn.proofs.RowLimits.{limit_before}
use Rattle.icn_strfn.proofs.text_rows.repl_row.Goals as goal

pub returns-in_default-clause-row : goal.returns-in_default-clause-row
returns-in_default-clause-row g c =
    λ outside. steps.repl_no_integer (map (value_in (extent_of c.args.w.now.heap)) c.args.args.now) (value_in (extent_of c.args.w.now.heap) c.arg-val.result)
    (value_in (extent_of c.args.w.now.heap) c.arg-times.result) (setting_of outside c.args.w.now (g.L.Locals.items c.args.l.now))
    (c.arg-val.ensures.value (extent_of c.args.w.now.heap)) (c.arg-times.ensures.value (extent_of c.args.w.now.heap))
    (c.if-lacks_text.ensures (extent_of c.args.w.now.heap)) (sym c.to_integer.ensures ∙ c.in_default.is)

pub returns-in_default-natural_number-clause-row : goal.returns-in_default-natural_number-clause-row
returns-in_default-natural_number-clause-row g c = λ outside. steps.repl_below (map (value_in (extent_of c.args.w.now.heap)) c.args.args.now)
    (value_in (extent_of c.args.w.now.heap) c.arg-val.result) (value_in (extent_of c.args.w.now.heap) c.arg-times.result) c.in-Some.n
    (setting_of outside c.args.w.now (g.L.Locals.items c.args.l.now)) (c.arg-val.ensures.value (extent_of c.args.w.now.heap))
    (c.arg-times.ensures.value (extent_of c.args.w.now.heap)) (c.if-lacks_text.ensures (extent_of c.args.w.now.heap)) (sym c.to_integer.ensures ∙ c.in-Some.is)
    (let fits : FitsSigned w64 c.in-Some.n = search rules in
    rw (to_z-of_z w64 c.in-Some.n fits) at (sym c.natural_number.ensures ∙ c.in_default-natural_number.is))

pub returns-in_err-span-clause-row : goal.returns-in_err-span-clause-row
returns-in_err-span-clause-row g c = λ outside.
    row_stops_at (extent_of c.text_of.new.w.heap) (repl_row (map (value_in (extent_of c.args.w.now.heap)) c.args.args.now))
    (costs_text (value_in (extent_of c.args.w.now.heap) c.arg-val.result))
    (builds (concat (replicate c.in-Some-natural_number.count (the_text (value_in (extent_of c.args.w.now.heap) c.arg-val.result)))))
    (setting_of outside c.args.w.now (g.L.Locals.items c.args.l.now)) (setting_of outside c.args.w.now (g.L.Locals.items c.args.l.now))
    (setting_of outside c.text_of.new.w (g.L.Locals.items c.args.l.now)) c.in_err-span.field-0.0 c.from_residual.result
    (steps.repl_left (map (value_in (extent_of c.args.w.now.heap)) c.args.args.now)
    (value_in (extent_of c.args.w.now.heap) c.arg-val.result)
    (value_in (extent_of c.args.w.now.heap) c.arg-times.result) c.in-Some.n c.in-Some-natural_number.count
    (setting_of outside c.args.w.now (g.L.Locals.items c.args.l.now)) (c.arg-val.ensures.value (extent_of c.args.w.now.heap))
    (c.arg-times.ensures.value (extent_of c.args.w.now.heap)) (c.if-lacks_text.ensures (extent_of c.args.w.now.heap))
    (sym c.to_integer.ensures ∙ c.in-Some.is)
    (steps.natural_some c.in-Some.n c.in-Some-natural_number.count (let fits : FitsSigned w64 c.in-Some.n = search rules in
    rw (to_z-of_z w64 c.in-Some.n fits) at (sym c.natural_number.ensures ∙ c.in-Some-natural_number.is)))) c.from_residual.ensures.1
    (c.in_err-span.ensures.step outside)

pub returns-clause-row : goal.returns-clause-row
returns-clause-row g c = λ outside.
    row_goes_on (extent_of c.build_repeated.new.w.heap) (repl_row (map (value_in (extent_of c.args.w.now.heap)) c.args.args.now))
    (builds (concat (replicate c.in-Some-natural_number.count (text_in (extent_of c.text_of.new.w.heap) c.in_ok-span.span))))
    (setting_of outside c.args.w.now (g.L.Locals.items c.args.l.now)) (setting_of outside c.text_of.new.w (g.L.Locals.items c.args.l.now))
    (setting_of outside c.build_repeated.new.w (g.L.Locals.items c.args.l.now)) c.build_repeated.result
    (steps.repl_left (map (value_in (extent_of c.args.w.now.heap)) c.args.args.now)
    (value_in (extent_of c.args.w.now.heap) c.arg-val.result)
    (value_in (extent_of c.args.w.now.heap) c.arg-times.result) c.in-Some.n c.in-Some-natural_number.count
    (setting_of outside c.args.w.now (g.L.Locals.items c.args.l.now)) (c.arg-val.ensures.value (extent_of c.args.w.now.heap))
    (c.arg-times.ensures.value (extent_of c.args.w.now.heap)) (c.if-lacks_text.ensures (extent_of c.args.w.now.heap))
    (sym c.to_integer.ensures ∙ c.in-Some.is)
    (steps.natural_some c.in-Some.n c.in-Some-natural_number.count (let fits : FitsSigned w64 c.in-Some.n = search rules in
    rw (to_z-of_z w64 c.in-Some.n fits) at (sym c.natural_number.ensures ∙ c.in-Some-natural_number.is))) ∙ (c.in_ok-span.ensures.step outside
    (builds (concat (replicate c.in-Some-natural_number.count (the_text (value_in (extent_of c.args.w.now.heap) c.arg-val.result)))))
    ∙ ap (λ (bytes : List ℕ). builds (concat (replicate c.in-Some-natural_number.count bytes))
    (setting_of outside c.text_of.new.w (g.L.Locals.items c.args.l.now))) (sym c.in_ok-span.ensures.text)))
    (c.build_repeated.ensures.row outside)

pub returns-clause-kept : goal.returns-clause-kept
returns-clause-kept g c = keeps_live_then c.text_of.ensures.kept c.build_repeated.ensures.kept

pub returns-in_err-span-clause-limits : goal.returns-in_err-span-clause-limits
returns-in_err-span-clause-limits g c = λ held.
    absurd (c.in_err-span.ensures.held (subst MakesNoText (sym (c.arg-val.ensures.value (extent_of c.args.w.now.heap))) held))

pub returns-clause-limits : goal.returns-clause-limits
returns-clause-limits g c = λ held wanting outside at.
    let text : List ℕ = text_in (extent_of c.text_of.new.w.heap) c.in_ok-span.span in
    let fits : FitsSigned w64 c.in-Some.n = search rules in
    limit_before (repl_row (map (value_in (extent_of c.args.w.now.heap)) c.args.args.now)) (concat (replicate c.in-Some-natural_number.count text))
    (setting_of outside c.args.w.now (g.L.Locals.items c.args.l.now))
    (setting_of outside c.text_of.new.w (g.L.Locals.items c.args.l.now)) at c.build_repeated.result
    (steps.repl_made (map (value_in (extent_of c.args.w.now.heap)) c.args.args.now) (value_in (extent_of c.args.w.now.heap) c.arg-val.result)
    (value_in (extent_of c.args.w.now.heap) c.arg-times.result) c.in-Some.n c.in-Some-natural_number.count text
    (setting_of outside c.args.w.now (g.L.Locals.items c.args.l.now)) (setting_of outside c.text_of.new.w (g.L.Locals.items c.args.l.now))
    (c.arg-val.ensures.value (extent_of c.args.w.now.heap)) (c.arg-times.ensures.value (extent_of c.args.w.now.heap))
    (c.if-lacks_text.ensures (extent_of c.args.w.now.heap))
    (sym c.to_integer.ensures ∙ c.in-Some.is)
    (steps.natural_some c.in-Some.n c.in-Some-natural_number.count
    (rw (to_z-of_z w64 c.in-Some.n fits) at (sym c.natural_number.ensures ∙ c.in-Some-natural_number.is)))
    (c.in_ok-span.ensures.step outside) c.in_ok-span.ensures.text)
    c.build_repeated.ensures.limits wanting
