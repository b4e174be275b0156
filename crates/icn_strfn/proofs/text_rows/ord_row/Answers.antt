use Rattle.std.proofs.Common.{◌∙◌, sym, ap, pos, map}
use Rattle.std.specs.Prelude.{slice_index}
use Rattle.icn_defs.specs.Rows.{costs_text}
use Rattle.icn_defs.specs.Strings.{gives_integer, ord_row}
use Rattle.icn_heap.specs.Extents.{value_in}
use Rattle.icn_heap.specs.Heaps.{extent_of}
use Rattle.icn_vars.specs.Worlds.{setting_of}
use Rattle.icn_args.specs.RowWords.{the_text}
use Rattle.icn_strfn.proofs.RowAnswers.{row_stops_at}
use Rattle.icn_strfn.proofs.CheckedRows as steps
use Rattle.icn_strfn.proofs.text_rows.ord_row.Goals as goal

pub returns-in_err-span-clause-row : goal.returns-in_err-span-clause-row
returns-in_err-span-clause-row g c = λ outside.
    row_stops_at (extent_of c.text_of.new.w.heap) (ord_row (map (value_in (extent_of c.args.w.now.heap)) c.args.args.now))
    (costs_text (value_in (extent_of c.args.w.now.heap) c.arg-val.result))
    (gives_integer (pos (slice_index (the_text (value_in (extent_of c.args.w.now.heap) c.arg-val.result)) 0)))
    (setting_of outside c.args.w.now (g.L.Locals.items c.args.l.now)) (setting_of outside c.args.w.now (g.L.Locals.items c.args.l.now))
    (setting_of outside c.text_of.new.w (g.L.Locals.items c.args.l.now)) c.in_err-span.field-0.0 c.from_residual.result
    (steps.ord_left (map (value_in (extent_of c.args.w.now.heap)) c.args.args.now) (value_in (extent_of c.args.w.now.heap) c.arg-val.result)
    (setting_of outside c.args.w.now (g.L.Locals.items c.args.l.now)) (c.arg-val.ensures.value (extent_of c.args.w.now.heap))
    (c.if-lacks_text.ensures (extent_of c.args.w.now.heap)) (sym c.text_len.ensures ∙ c.if-text_len-ne1.false))
    c.from_residual.ensures.1 (c.in_err-span.ensures.step outside)

pub returns-clause-row : goal.returns-clause-row
returns-clause-row g c = λ outside.
    rw c.byte_given.ensures (steps.ord_left (map (value_in (extent_of c.args.w.now.heap)) c.args.args.now) (value_in (extent_of c.args.w.now.heap)
    c.arg-val.result) (setting_of outside c.args.w.now (g.L.Locals.items c.args.l.now)) (c.arg-val.ensures.value (extent_of c.args.w.now.heap))
    (c.if-lacks_text.ensures (extent_of c.args.w.now.heap)) (sym c.text_len.ensures ∙ c.if-text_len-ne1.false)
    ∙ (c.in_ok-span.ensures.step outside (gives_integer (pos (slice_index (the_text (value_in (extent_of c.args.w.now.heap) c.arg-val.result)) 0)))
    ∙ ap (λ bytes. gives_integer (pos (slice_index bytes 0)) (setting_of outside c.text_of.new.w (g.L.Locals.items c.args.l.now)))
    (sym c.in_ok-span.ensures.text ∙ sym c.bytes.ensures)))
