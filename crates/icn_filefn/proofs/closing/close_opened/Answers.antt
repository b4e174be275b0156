-- The file is written, if it is open to be written, and closed.
use Rattle.std.proofs.Common.{◌≡◌, subst, true}
use Rattle.icn_value.specs.Store.{OpenedFile}
use Rattle.icn_defs.specs.OpenFiles.{is_open_to_write}
use Rattle.icn_vars.specs.Outcomes.{answer_of}
use Rattle.icn_args.proofs.RowAnswers.{same_halt}
use Rattle.icn_streams.specs.Handed.{call_streams}
use Rattle.icn_filefn.specs.ClosedFiles.{WritesClosed}
use Rattle.icn_filefn.proofs.CloseSteps.{closes_err, closing_gives, closing_stops}
use Rattle.icn_filefn.proofs.LookedUp.{type_of}
use Rattle.icn_filefn.proofs.closing.close_opened.Goals as goal

pub returns-in_err-write_closed-clause-applies : goal.returns-in_err-write_closed-clause-applies
returns-in_err-write_closed-clause-applies g c = λ left counts.
    closing_stops c.args.number c.args.w.now (g.L.Locals.items c.args.l.now) c.requires.locals
    (call_streams (g.F.Files.state c.args.files.now) left counts (g.O.Sink.state c.args.out.now) (g.E.Sink.state c.args.err.now))
    (call_streams (g.F.Files.state c.write_closed.new.files) left counts (g.O.Sink.state c.write_closed.new.out) (g.E.Sink.state c.write_closed.new.err))
    (Unit {0}) c.in_err-write_closed.field-0.0 (answer_of c.from_residual.result)
    (same_halt c.in_err-write_closed.field-0.0 c.from_residual.result c.from_residual.ensures.1)
    (subst (λ (file : OpenedFile). is_open_to_write file ≡ true) c.file.ensures.file c.in_err-write_closed.ensures.asked)
    (closes_err (type_of c.write_closed.result) (Unit {0}) c.file.result.now _ c.file.ensures.file
    (call_streams (g.F.Files.state c.args.files.now) left counts (g.O.Sink.state c.args.out.now) (g.E.Sink.state c.args.err.now))
    (call_streams (g.F.Files.state c.write_closed.new.files) left counts (g.O.Sink.state c.write_closed.new.out) (g.E.Sink.state c.write_closed.new.err))
    c.in_err-write_closed.field-0.0 (c.in_err-write_closed.ensures.closes left counts))

pub returns-clause-applies : goal.returns-clause-applies
returns-clause-applies g c = λ left counts.
    closing_gives c.args.number c.args.w.now (g.L.Locals.items c.args.l.now) c.requires.locals
    (call_streams (g.F.Files.state c.args.files.now) left counts (g.O.Sink.state c.args.out.now) (g.E.Sink.state c.args.err.now))
    (call_streams (g.F.Files.state c.write_closed.new.files) left counts (g.O.Sink.state c.write_closed.new.out) (g.E.Sink.state c.write_closed.new.err))
    (subst (λ (file : OpenedFile). WritesClosed file
    (call_streams (g.F.Files.state c.args.files.now) left counts (g.O.Sink.state c.args.out.now) (g.E.Sink.state c.args.err.now))
    (call_streams (g.F.Files.state c.write_closed.new.files) left counts (g.O.Sink.state c.write_closed.new.out) (g.E.Sink.state c.write_closed.new.err)))
    c.file.ensures.file
    (c.in_ok-write_closed.ensures.closes left counts))
    c.shut_file.new.w c.shut_file.ensures.kept.locals c.shut_file.ensures.kept.items c.requires.file c.shut_file.ensures.step
