-- Both outputs are settled, and then a text is read.
use Rattle.std.proofs.Common.{None, refl}
use Rattle.icn_host.specs.FileMaps.{store_counts, store_state}
use Rattle.icn_defs.specs.Rows.{gives_value}
use Rattle.icn_value.specs.Values.{Text}
use Rattle.icn_vars.specs.Outcomes.{answer_of}
use Rattle.icn_args.proofs.RowAnswers.{same_halt}
use Rattle.icn_streams.specs.Answers.{call_state}
use Rattle.icn_streams.specs.Handed.{call_streams}
use Rattle.icn_streams.specs.Readings.{asked_in}
use Rattle.icn_streams.proofs.SettledRows.{behind_settling, reads_quietly, settling_stops, unsettled_stops}
use Rattle.icn_iofn.specs.ReadParts.{reads_input}
use Rattle.icn_iofn.proofs.reads.read_input.Goals as goal

pub returns-in_err-settle-clause-row : goal.returns-in_err-settle-clause-row
returns-in_err-settle-clause-row g c = λ files.
    settling_stops (reads_input (asked_in c.args.ask))
    (reads_quietly (asked_in c.args.ask) (λ text. gives_value (Text text)) (record { outside = λ text s. refl })) c.args.w.now (g.L.Locals.items c.args.l.now)
    (call_streams files (g.I.Source.left c.args.input.now) (g.I.Source.counts c.args.input.now) (g.O.Sink.state c.args.out.now) (g.E.Sink.state c.args.err.now))
    (call_streams files (g.I.Source.left c.args.input.now) (g.I.Source.counts c.args.input.now) (g.O.Sink.state c.settle.new.out)
    (g.E.Sink.state c.settle.new.err))
    c.in_err-settle.field-0.0 (answer_of c.from_residual.result) (same_halt c.in_err-settle.field-0.0 c.from_residual.result c.from_residual.ensures.1)
    (c.in_err-settle.ensures.settles _ _ _) c.requires

pub returns-clause-row : goal.returns-clause-row
returns-clause-row g c = λ files.
    behind_settling (reads_input (asked_in c.args.ask)) c.args.w.now (g.L.Locals.items c.args.l.now)
    (call_streams files (g.I.Source.left c.args.input.now) (g.I.Source.counts c.args.input.now) (g.O.Sink.state c.args.out.now) (g.E.Sink.state c.args.err.now))
    (call_streams files (g.I.Source.left c.args.input.now) (g.I.Source.counts c.args.input.now) (g.O.Sink.state c.settle.new.out)
    (g.E.Sink.state c.settle.new.err))
    (call_state c.give_text.new.w (g.L.Locals.items c.args.l.now) (call_streams files (g.I.Source.left c.give_text.new.input)
    (g.I.Source.counts c.give_text.new.input) (g.O.Sink.state c.settle.new.out) (g.E.Sink.state c.settle.new.err)))
    (answer_of c.give_text.result) (c.in_ok-settle.ensures.settles _ _ _) (c.give_text.ensures _ _ _)

pub returns-in_err-settle-clause-settled : goal.returns-in_err-settle-clause-settled
returns-in_err-settle-clause-settled g c =
    unsettled_stops _ _ c.in_err-settle.field-0.0 c.from_residual.result (g.O.Sink.pending c.settle.new.out) (g.E.Sink.pending c.settle.new.err)
    c.from_residual.ensures.1 (c.in_err-settle.ensures.settles (store_state None (store_counts 0 0 0)) (g.I.Source.left c.args.input.now)
    (g.I.Source.counts c.args.input.now))
