use Rattle.std.proofs.Common.{◌∙◌, ap, map, sym}
use Rattle.icn_heap.specs.Extents.{value_in}
use Rattle.icn_heap.specs.Heaps.{extent_of}
use Rattle.icn_heap.specs.Keys.{file_of}
use Rattle.icn_value.specs.Store.{ALine, bare_outside}
use Rattle.icn_value.specs.Values.{Input, Std, Text}
use Rattle.icn_defs.specs.Arguments.{arg, arg_or, file}
use Rattle.icn_defs.specs.InputOutput.{read_row}
use Rattle.icn_defs.specs.Lines.{line_from}
use Rattle.icn_defs.specs.OpenFiles.{readable}
use Rattle.icn_defs.specs.Rows.{gives_value}
use Rattle.icn_vars.specs.Outcomes.{answer_of}
use Rattle.icn_vars.specs.Stops.{halt_of}
use Rattle.icn_args.proofs.RowAnswers.{same_halt}
use Rattle.icn_vars.specs.Worlds.{setting_of}
use Rattle.icn_streams.specs.Answers.{call_state}
use Rattle.icn_streams.specs.Handed.{call_streams}
use Rattle.icn_streams.proofs.RowAnswers.{applies_same, stops_there}
use Rattle.icn_streams.proofs.SettledRows.{settled_unread, settled_where_read}
use Rattle.icn_iofn.specs.ReadParts.{read_from}
use Rattle.icn_iofn.proofs.ReadSteps.{input_named, lines_read}
use Rattle.icn_iofn.proofs.reads.read.Goals as goal

pub read_from-requires-clause-file : goal.read_from-requires-clause-file
read_from-requires-clause-file g c = c.in_ok-file.ensures.live (extent_of c.args.w.now.heap) c.requires.live

pub returns-in_err-file-clause-row : goal.returns-in_err-file-clause-row
returns-in_err-file-clause-row g c = λ files.
    stops_there (file (arg_or (Std Input) (map (value_in (extent_of c.args.w.now.heap)) c.args.vals.now) 0))
    (λ named.
    readable named (arg (map (value_in (extent_of c.args.w.now.heap)) c.args.vals.now) 0) (λ from. line_from from (λ line. gives_value (Text line))))
    (call_state c.args.w.now (g.L.Locals.items c.args.l.now)
    (call_streams files (g.I.Source.left c.args.input.now) (g.I.Source.counts c.args.input.now) (g.O.Sink.state c.args.out.now)
    (g.E.Sink.state c.args.err.now)))
    c.in_err-file.field-0.0 (answer_of c.from_residual.result) (same_halt (halt_of c.in_err-file.field-0.0) c.from_residual.result c.from_residual.ensures.1)
    (λ was. c.in_err-file.ensures.found (extent_of c.args.w.now.heap) (setting_of was c.args.w.now (g.L.Locals.items c.args.l.now)))
    (c.in_err-file.ensures.stops (extent_of c.args.w.now.heap) c.requires.live) c.requires.locals

pub returns-clause-row : goal.returns-clause-row
returns-clause-row g c = λ files.
    applies_same (read_row (map (value_in (extent_of c.args.w.now.heap)) c.args.vals.now))
    (read_from ALine (file_of c.in_ok-file.file) (value_in (extent_of c.args.w.now.heap) c.arg.result))
    (call_state c.args.w.now (g.L.Locals.items c.args.l.now)
    (call_streams files (g.I.Source.left c.args.input.now) (g.I.Source.counts c.args.input.now) (g.O.Sink.state c.args.out.now)
    (g.E.Sink.state c.args.err.now)))
    (call_state c.read_from.new.w (g.L.Locals.items c.args.l.now)
    (call_streams files (g.I.Source.left c.read_from.new.input) (g.I.Source.counts c.read_from.new.input)
    (g.O.Sink.state c.read_from.new.out) (g.E.Sink.state c.read_from.new.err))) (answer_of c.read_from.result)
    (λ was. c.in_ok-file.ensures.found (extent_of c.args.w.now.heap) (setting_of was c.args.w.now (g.L.Locals.items c.args.l.now))
    (λ named.
    readable named (arg (map (value_in (extent_of c.args.w.now.heap)) c.args.vals.now) 0) (λ from. line_from from (λ line. gives_value (Text line))))
    ∙ ap (λ value. readable (file_of c.in_ok-file.file) value (λ from. line_from from (λ line. gives_value (Text line)))
    (setting_of was c.args.w.now (g.L.Locals.items c.args.l.now)))
    (sym (c.arg.ensures.value (extent_of c.args.w.now.heap)))
    ∙ lines_read (file_of c.in_ok-file.file) (value_in (extent_of c.args.w.now.heap) c.arg.result)
    (setting_of was c.args.w.now (g.L.Locals.items c.args.l.now)))
    (c.read_from.ensures.row files)

pub returns-in_err-file-clause-settled : goal.returns-in_err-file-clause-settled
returns-in_err-file-clause-settled g c = λ input.
    settled_unread c.in_err-file.field-0.0 c.from_residual.result (g.O.Sink.pending c.args.out.now) (g.E.Sink.pending c.args.err.now)
    c.from_residual.ensures.1

pub returns-clause-settled : goal.returns-clause-settled
returns-clause-settled g c = λ input.
    settled_where_read c.read_from.result (g.O.Sink.pending c.read_from.new.out) (g.E.Sink.pending c.read_from.new.err)
    (c.read_from.ensures.settled (input_named (map (value_in (extent_of c.args.w.now.heap)) c.args.vals.now) c.in_ok-file.file
    (setting_of bare_outside c.args.w.now (g.L.Locals.items c.args.l.now)) input
    (c.in_ok-file.ensures.found (extent_of c.args.w.now.heap) (setting_of bare_outside c.args.w.now (g.L.Locals.items c.args.l.now)))))
