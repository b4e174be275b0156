-- Both outputs are settled, and then the file is written; one that is not open to be written is left.
use Rattle.std.proofs.Common.{◌∙◌, sym, subst, Err, None}
use Rattle.icn_host.specs.Sources.{source_counts}
use Rattle.icn_host.specs.declared.fault.Fault.{Fault}
use Rattle.icn_streams.specs.Handed.{call_streams}
use Rattle.icn_filefn.specs.WrittenFiles.{StoreCause}
use Rattle.icn_filefn.proofs.CloseSteps.{closes_done, closes_failing, closes_none, closes_unsettled, closes_wanting}
use Rattle.icn_filefn.proofs.LookedUp.{still_pending, type_of}
use Rattle.icn_filefn.proofs.closing.write_closed.Goals as goal

pub returns-then-not-is_open_to_write-clause-closes : goal.returns-then-not-is_open_to_write-clause-closes
returns-then-not-is_open_to_write-clause-closes g c = λ left counts.
    closes_none {A = Unit {0}} c.args.file.now
    (call_streams (g.F.Files.state c.args.files.now) left counts (g.O.Sink.state c.args.out.now) (g.E.Sink.state c.args.err.now)) tt
    (sym c.is_open_to_write.ensures ∙ c.if-not-is_open_to_write.true)

pub returns-in_err-settle-clause-closes : goal.returns-in_err-settle-clause-closes
returns-in_err-settle-clause-closes g c = λ left counts.
    closes_unsettled (type_of c.settle.result) c.args.file.now
    (call_streams (g.F.Files.state c.args.files.now) left counts (g.O.Sink.state c.args.out.now) (g.E.Sink.state c.args.err.now))
    (call_streams (g.F.Files.state c.args.files.now) left counts (g.O.Sink.state c.settle.new.out) (g.E.Sink.state c.settle.new.err))
    c.in_err-settle.field-0.0 c.from_residual.result c.from_residual.ensures.1
    (c.in_err-settle.ensures.settles (g.F.Files.state c.args.files.now) left counts)

pub returns-in-Ok-clause-closes : goal.returns-in-Ok-clause-closes
returns-in-Ok-clause-closes g c = λ left counts.
    closes_done c.args.file.now (g.F.Files.state c.args.files.now) (g.F.Files.state c.write_out.new.files) left counts (g.O.Sink.state c.args.out.now)
    (g.O.Sink.state c.settle.new.out) (g.E.Sink.state c.args.err.now) (g.E.Sink.state c.settle.new.err)
    (c.in_ok-settle.ensures.settles (g.F.Files.state c.args.files.now) left counts) {A = Unit {0}} tt c.in-Ok.ensures.written c.in-Ok.ensures.cause

pub returns-in-Err-Failed-clause-closes : goal.returns-in-Err-Failed-clause-closes
returns-in-Err-Failed-clause-closes g c = λ left counts.
    closes_failing c.args.file.now (g.F.Files.state c.args.files.now) (g.F.Files.state c.write_out.new.files) left counts (g.O.Sink.state c.args.out.now)
    (g.O.Sink.state c.settle.new.out) (g.E.Sink.state c.args.err.now) (g.E.Sink.state c.settle.new.err)
    (c.in_ok-settle.ensures.settles (g.F.Files.state c.args.files.now) left counts) (Unit {0}) c.in-Err-Failed.ensures.written
    (subst (λ (fault : Fault). StoreCause (Err fault) (g.F.Files.state c.args.files.now) (g.F.Files.state c.write_out.new.files)) c.in-Err-Failed.field-0-is
    c.in-Err-Failed.ensures.cause)

pub returns-in-Err-NoMemory-clause-closes : goal.returns-in-Err-NoMemory-clause-closes
returns-in-Err-NoMemory-clause-closes g c = λ left counts.
    closes_wanting c.args.file.now (g.F.Files.state c.args.files.now) (g.F.Files.state c.write_out.new.files) left counts (g.O.Sink.state c.args.out.now)
    (g.O.Sink.state c.settle.new.out) (g.E.Sink.state c.args.err.now) (g.E.Sink.state c.settle.new.err)
    (c.in_ok-settle.ensures.settles (g.F.Files.state c.args.files.now) left counts) (Unit {0}) c.in-Err-NoMemory.ensures.written
    (subst (λ (fault : Fault). StoreCause (Err fault) (g.F.Files.state c.args.files.now) (g.F.Files.state c.write_out.new.files)) c.in-Err-NoMemory.field-0-is
    c.in-Err-NoMemory.ensures.cause)

pub returns-in_err-settle-clause-settled : goal.returns-in_err-settle-clause-settled
returns-in_err-settle-clause-settled g c = λ opens.
    still_pending (type_of c.settle.result) _ _ c.in_err-settle.field-0.0 c.from_residual.result (g.O.Sink.pending c.settle.new.out)
    (g.E.Sink.pending c.settle.new.err)
    c.from_residual.ensures.1 (c.in_err-settle.ensures.settles (g.F.Files.state c.args.files.now) None (source_counts 0 0 0))
