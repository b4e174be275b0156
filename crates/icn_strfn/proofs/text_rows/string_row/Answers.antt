use Rattle.std.proofs.Common.{◌∙◌, map}
use Rattle.icn_value.specs.Values.{Text}
use Rattle.icn_defs.specs.Rows.{costs_text, gives_value}
use Rattle.icn_defs.specs.Strings.{string_row}
use Rattle.icn_heap.specs.Extents.{text_in, value_in}
use Rattle.icn_heap.specs.Heaps.{extent_of}
use Rattle.icn_vars.specs.Worlds.{setting_of}
use Rattle.icn_args.specs.RowWords.{the_text}
use Rattle.icn_strfn.proofs.RowAnswers.{gives_text, row_stops_at}
use Rattle.icn_strfn.proofs.CheckedRows as steps
use Rattle.icn_strfn.proofs.text_rows.string_row.Goals as goal

pub returns-then-lacks_text-clause-row : goal.returns-then-lacks_text-clause-row
returns-then-lacks_text-clause-row g c = λ outside. steps.string_fails (map (value_in (extent_of c.args.w.now.heap)) c.args.args.now)
    (value_in (extent_of c.args.w.now.heap) c.arg-val.result) (setting_of outside c.args.w.now (g.L.Locals.items c.args.l.now))
    (c.arg-val.ensures.value (extent_of c.args.w.now.heap)) (c.if-lacks_text.ensures (extent_of c.args.w.now.heap))

pub returns-in_err-span-clause-row : goal.returns-in_err-span-clause-row
returns-in_err-span-clause-row g c = λ outside.
    row_stops_at (extent_of c.text_of.new.w.heap) (string_row (map (value_in (extent_of c.args.w.now.heap)) c.args.args.now))
    (costs_text (value_in (extent_of c.args.w.now.heap) c.arg-val.result))
    (gives_value (Text (the_text (value_in (extent_of c.args.w.now.heap) c.arg-val.result))))
    (setting_of outside c.args.w.now (g.L.Locals.items c.args.l.now)) (setting_of outside c.args.w.now (g.L.Locals.items c.args.l.now))
    (setting_of outside c.text_of.new.w (g.L.Locals.items c.args.l.now)) c.in_err-span.field-0.0 c.from_residual.result
    (steps.string_left (map (value_in (extent_of c.args.w.now.heap)) c.args.args.now) (value_in (extent_of c.args.w.now.heap) c.arg-val.result)
    (setting_of outside c.args.w.now (g.L.Locals.items c.args.l.now)) (c.arg-val.ensures.value (extent_of c.args.w.now.heap))
    (c.if-lacks_text.ensures (extent_of c.args.w.now.heap))) c.from_residual.ensures.1 (c.in_err-span.ensures.step outside)

pub returns-clause-row : goal.returns-clause-row
returns-clause-row g c = λ outside.
    rw c.text.ensures (gives_text (string_row (map (value_in (extent_of c.args.w.now.heap)) c.args.args.now))
    (setting_of outside c.args.w.now (g.L.Locals.items c.args.l.now)) (setting_of outside c.text_of.new.w (g.L.Locals.items c.args.l.now))
    (the_text (value_in (extent_of c.args.w.now.heap) c.arg-val.result)) (text_in (extent_of c.text_of.new.w.heap) c.in_ok-span.span)
    (steps.string_left (map (value_in (extent_of c.args.w.now.heap)) c.args.args.now) (value_in (extent_of c.args.w.now.heap) c.arg-val.result)
    (setting_of outside c.args.w.now (g.L.Locals.items c.args.l.now)) (c.arg-val.ensures.value (extent_of c.args.w.now.heap))
    (c.if-lacks_text.ensures (extent_of c.args.w.now.heap))
    ∙ c.in_ok-span.ensures.step outside (gives_value (Text (the_text (value_in (extent_of c.args.w.now.heap) c.arg-val.result))))) c.in_ok-span.ensures.text)
