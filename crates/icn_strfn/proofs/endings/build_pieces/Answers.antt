use Rattle.std.proofs.Common.{None, length, refl}
use Rattle.icn_strings.specs.Pieces.{made_of}
use Rattle.icn_value.specs.Values.{Text}
use Rattle.icn_defs.specs.Rows.{builds, costs_bytes, gives_value}
use Rattle.icn_heap.specs.Extents.{text_in}
use Rattle.icn_heap.specs.Heaps.{extent_of}
use Rattle.icn_vars.specs.declared.stop.Stop.TheVariants.{Error}
use Rattle.icn_vars.specs.Worlds.{setting_of}
use Rattle.icn_strfn.proofs.RowAnswers.{row_stops_at, gives_text}
use Rattle.icn_strfn.proofs.RowLimits.{no_given, stopped_as}
use Rattle.icn_strfn.proofs.endings.build_pieces.Goals as goal

pub returns-in_err-span-clause-row : goal.returns-in_err-span-clause-row
returns-in_err-span-clause-row g c = λ outside.
    let before = setting_of outside c.args.w.now (g.L.Locals.items c.args.l.now) in
    let bytes = made_of (extent_of c.args.w.now.heap).strings c.args.pieces.now in
    row_stops_at (extent_of c.build_of.new.w.heap) (builds bytes) (costs_bytes (length bytes)) (gives_value (Text bytes)) before before
    (setting_of outside c.build_of.new.w (g.L.Locals.items c.args.l.now)) c.in_err-span.field-0.0 c.from_residual.result refl c.from_residual.ensures.1
    (c.in_err-span.ensures.step outside)

pub returns-in_err-span-clause-limits : goal.returns-in_err-span-clause-limits
returns-in_err-span-clause-limits g c = λ over.
    stopped_as c.from_residual.result c.in_err-span.field-0.0 (Error 306 None) c.from_residual.ensures.1 (c.in_err-span.ensures.limits over)

pub returns-clause-row : goal.returns-clause-row
returns-clause-row g c = λ outside.
    let bytes = made_of (extent_of c.args.w.now.heap).strings c.args.pieces.now in
    rw c.text.ensures (gives_text (builds bytes) (setting_of outside c.args.w.now (g.L.Locals.items c.args.l.now))
    (setting_of outside c.build_of.new.w (g.L.Locals.items c.args.l.now)) bytes (text_in (extent_of c.build_of.new.w.heap) c.in_ok-span.span)
    (c.in_ok-span.ensures.step outside (gives_value (Text bytes))) c.in_ok-span.ensures.text)

pub returns-clause-limits : goal.returns-clause-limits
returns-clause-limits g c = λ over. absurd (no_given _ _ (c.in_ok-span.ensures.limits over))
