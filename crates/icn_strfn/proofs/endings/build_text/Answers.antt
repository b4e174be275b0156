use Rattle.std.proofs.Common.{length}
use Rattle.icn_value.specs.Values.{Text}
use Rattle.icn_defs.specs.Rows.{builds, costs_bytes, gives_value}
use Rattle.icn_heap.specs.Extents.{text_in}
use Rattle.icn_heap.specs.Heaps.{extent_of}
use Rattle.icn_vars.specs.Worlds.{setting_of}
use Rattle.icn_strfn.proofs.RowAnswers.{row_stops_at, gives_text}
use Rattle.std.proofs.Common.{refl}
use Rattle.icn_strfn.proofs.endings.build_text.Goals as goal

pub returns-in_err-span-clause-row : goal.returns-in_err-span-clause-row
returns-in_err-span-clause-row g c = λ outside.
    let before = setting_of outside c.args.w.now (g.L.Locals.items c.args.l.now) in
    row_stops_at (extent_of c.build.new.w.heap) (builds c.args.bytes.now) (costs_bytes (length c.args.bytes.now))
    (gives_value (Text c.args.bytes.now)) before before
    (setting_of outside c.build.new.w (g.L.Locals.items c.args.l.now)) c.in_err-span.field-0.0 c.from_residual.result refl c.from_residual.ensures.1
    (c.in_err-span.ensures.step outside)

pub returns-clause-row : goal.returns-clause-row
returns-clause-row g c = λ outside.
    rw c.text.ensures (gives_text (builds c.args.bytes.now) (setting_of outside c.args.w.now (g.L.Locals.items c.args.l.now))
    (setting_of outside c.build.new.w (g.L.Locals.items c.args.l.now))
    c.args.bytes.now (text_in (extent_of c.build.new.w.heap) c.in_ok-span.span)
    (c.in_ok-span.ensures.step outside (gives_value (Text c.args.bytes.now))) c.in_ok-span.ensures.text)
