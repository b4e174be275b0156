use Rattle.std.proofs.Common.{ap, ◌∙◌, subst}
use Rattle.icn_defs.specs.Conversions.{group_of}
use Rattle.icn_defs.specs.Elements.{elements_of, elements_row}
use Rattle.icn_defs.specs.ReadAndAssign.{the_value}
use Rattle.icn_heap.specs.Extents.{IsLive, value_in}
use Rattle.icn_heap.specs.Heaps.{extent_of}
use Rattle.icn_vars.specs.Worlds.{item_in, setting_of}
use Rattle.icn_ops.proofs.OtherKinds.{no_file}
use Rattle.icn_streams.proofs.QuietRows.{faultless_applies}
use Rattle.icn_streams.proofs.RowAnswers.{applies_same, stops_there}
use Rattle.icn_streams.specs.Answers.{call_state}
use Rattle.icn_defs.specs.Lines.{lines_row}
use Rattle.icn_heap.specs.Keys.{file_of}
use Rattle.icn_ops.proofs.walks.elements_row.Goals as goal

pub returns-in_err-val : goal.returns-in_err-val
returns-in_err-val g c =
    stops_there (the_value (item_in (extent_of c.args.w.now.heap) c.args.x)) (λ v. elements_of (item_in (extent_of c.args.w.now.heap) c.args.x) v (group_of v))
    (call_state c.args.w.now
    (g.L.Locals.items c.args.l.now) (g.S.Streams.state c.args.streams.now))
    c.in_err-val.field-0.0 c.from_residual.result c.from_residual.ensures.1 (λ was. c.in_err-val.ensures.value was) c.in_err-val.ensures.stops
    c.requires.live.locals

pub returns-in-Std : goal.returns-in-Std
returns-in-Std g c =
    applies_same (elements_row (item_in (extent_of c.args.w.now.heap) c.args.x)) (lines_row (file_of c.in-Std.file)) (call_state c.args.w.now
    (g.L.Locals.items c.args.l.now) (g.S.Streams.state c.args.streams.now))
    (call_state c.lines.new.w (g.L.Locals.items c.args.l.now)
    (g.S.Streams.state c.lines.new.self)) c.lines.result
    (λ was. c.in_ok-val.ensures.value was (λ v. elements_of (item_in (extent_of c.args.w.now.heap) c.args.x) v (group_of v))
    ∙ ap (λ v. elements_of (item_in (extent_of c.args.w.now.heap) c.args.x) v (group_of v) (setting_of was c.args.w.now (g.L.Locals.items c.args.l.now)))
    (ap (value_in (extent_of c.args.w.now.heap)) c.in-Std.is)) c.lines.ensures.row

pub returns-in_default : goal.returns-in_default
returns-in_default g c =
    applies_same (elements_row (item_in (extent_of c.args.w.now.heap) c.args.x)) (elements_of (item_in (extent_of c.args.w.now.heap) c.args.x)
    (value_in (extent_of c.args.w.now.heap) c.in_ok-val.val) (group_of (value_in (extent_of c.args.w.now.heap) c.in_ok-val.val))) (call_state c.args.w.now
    (g.L.Locals.items c.args.l.now) (g.S.Streams.state c.args.streams.now))
    (call_state c.elements_of.new.w (g.L.Locals.items c.args.l.now) (g.S.Streams.state c.args.streams.now)) c.elements_of.result
    (λ was. c.in_ok-val.ensures.value was (λ v. elements_of (item_in (extent_of c.args.w.now.heap) c.args.x) v (group_of v)))
    (faultless_applies (elements_of (item_in (extent_of c.args.w.now.heap) c.args.x) (value_in (extent_of c.args.w.now.heap) c.in_ok-val.val)
    (group_of (value_in (extent_of c.args.w.now.heap) c.in_ok-val.val))) c.args.w.now c.elements_of.new.w (g.L.Locals.items c.args.l.now)
    (g.L.Locals.items c.args.l.now) (g.S.Streams.state c.args.streams.now) c.elements_of.result
    (λ was. c.elements_of.ensures.row was) c.elements_of.ensures.live c.elements_of.ensures.kept.locals c.elements_of.ensures.kept.items)

pub lines-requires-clause-live : goal.lines-requires-clause-live
lines-requires-clause-live g c = subst (IsLive (extent_of c.args.w.now.heap)) c.in-Std.is c.in_ok-val.ensures.live

pub elements_of-requires-clause-no_file : goal.elements_of-requires-clause-no_file
elements_of-requires-clause-no_file g c = no_file (extent_of c.args.w.now.heap) c.in_ok-val.val c.in_default.not-Std
