use Rattle.std.proofs.Common.{◌∙◌, sym, ap, subst, List, ℕ, map, reverse}
use Rattle.icn_convert.specs.TextCharges.{MakesNoText}
use Rattle.icn_defs.specs.Rows.{builds, costs_text}
use Rattle.icn_defs.specs.Strings.{reverse_row}
use Rattle.icn_heap.specs.Extents.{text_in, value_in}
use Rattle.icn_heap.specs.Heaps.{extent_of}
use Rattle.icn_vars.proofs.KeptItems.{keeps_live_then}
use Rattle.icn_vars.specs.Worlds.{setting_of}
use Rattle.icn_args.specs.RowWords.{the_text}
use Rattle.icn_strfn.proofs.RowAnswers.{row_goes_on, row_stops_at}
use Rattle.icn_strfn.proofs.CheckedRows as steps
use Rattle.icn_strfn.proofs.RowLimits.{limit_before}
use Rattle.icn_strfn.proofs.text_rows.reverse_row.Goals as goal

pub returns-in_err-span-clause-row : goal.returns-in_err-span-clause-row
returns-in_err-span-clause-row g c = λ outside.
    row_stops_at (extent_of c.text_of.new.w.heap)
    (reverse_row (map (value_in (extent_of c.args.w.now.heap)) c.args.args.now)) (costs_text (value_in (extent_of c.args.w.now.heap) c.arg-val.result))
    (builds (reverse (the_text (value_in (extent_of c.args.w.now.heap) c.arg-val.result))))
    (setting_of outside c.args.w.now (g.L.Locals.items c.args.l.now)) (setting_of outside c.args.w.now (g.L.Locals.items c.args.l.now))
    (setting_of outside c.text_of.new.w (g.L.Locals.items c.args.l.now)) c.in_err-span.field-0.0 c.from_residual.result
    (steps.reverse_left (map (value_in (extent_of c.args.w.now.heap)) c.args.args.now) (value_in (extent_of c.args.w.now.heap) c.arg-val.result)
    (setting_of outside c.args.w.now (g.L.Locals.items c.args.l.now)) (c.arg-val.ensures.value (extent_of c.args.w.now.heap))
    (c.if-lacks_text.ensures (extent_of c.args.w.now.heap))) c.from_residual.ensures.1 (c.in_err-span.ensures.step outside)

pub returns-clause-row : goal.returns-clause-row
returns-clause-row g c = λ outside.
    row_goes_on (extent_of c.build_reversed.new.w.heap) (reverse_row (map (value_in (extent_of c.args.w.now.heap)) c.args.args.now))
    (builds (reverse (text_in (extent_of c.text_of.new.w.heap) c.in_ok-span.span)))
    (setting_of outside c.args.w.now (g.L.Locals.items c.args.l.now)) (setting_of outside c.text_of.new.w (g.L.Locals.items c.args.l.now))
    (setting_of outside c.build_reversed.new.w (g.L.Locals.items c.args.l.now)) c.build_reversed.result
    (steps.reverse_left (map (value_in (extent_of c.args.w.now.heap)) c.args.args.now) (value_in (extent_of c.args.w.now.heap) c.arg-val.result)
    (setting_of outside c.args.w.now (g.L.Locals.items c.args.l.now)) (c.arg-val.ensures.value (extent_of c.args.w.now.heap))
    (c.if-lacks_text.ensures (extent_of c.args.w.now.heap))
    ∙ (c.in_ok-span.ensures.step outside (builds (reverse (the_text (value_in (extent_of c.args.w.now.heap) c.arg-val.result))))
    ∙ ap (λ (bytes : List ℕ). builds (reverse bytes) (setting_of outside c.text_of.new.w (g.L.Locals.items c.args.l.now)))
    (sym c.in_ok-span.ensures.text)))
    (c.build_reversed.ensures.row outside)

pub returns-clause-kept : goal.returns-clause-kept
returns-clause-kept g c = keeps_live_then c.text_of.ensures.kept c.build_reversed.ensures.kept

pub returns-in_err-span-clause-limits : goal.returns-in_err-span-clause-limits
returns-in_err-span-clause-limits g c = λ held.
    absurd (c.in_err-span.ensures.held (subst MakesNoText (sym (c.arg-val.ensures.value (extent_of c.args.w.now.heap))) held))

pub returns-clause-limits : goal.returns-clause-limits
returns-clause-limits g c = λ held wanting outside at.
    limit_before (reverse_row (map (value_in (extent_of c.args.w.now.heap)) c.args.args.now))
    (reverse (text_in (extent_of c.text_of.new.w.heap) c.in_ok-span.span))
    (setting_of outside c.args.w.now (g.L.Locals.items c.args.l.now))
    (setting_of outside c.text_of.new.w (g.L.Locals.items c.args.l.now)) at c.build_reversed.result
    (steps.reverse_made (map (value_in (extent_of c.args.w.now.heap)) c.args.args.now) (value_in (extent_of c.args.w.now.heap) c.arg-val.result)
    (text_in (extent_of c.text_of.new.w.heap) c.in_ok-span.span)
    (setting_of outside c.args.w.now (g.L.Locals.items c.args.l.now)) (setting_of outside c.text_of.new.w (g.L.Locals.items c.args.l.now))
    (c.arg-val.ensures.value (extent_of c.args.w.now.heap)) (c.if-lacks_text.ensures (extent_of c.args.w.now.heap))
    (c.in_ok-span.ensures.step outside) c.in_ok-span.ensures.text)
    c.build_reversed.ensures.limits wanting
