-- The line is ended where lines end, and what waits is put where another file is selected.
use Rattle.std.proofs.Common.{◌≡◌, ◌∙◌, ap, refl, rules}
use Rattle.icn_heap.specs.Keys.{file_of}
use Rattle.icn_host.specs.declared.fault.Fault.TheVariants.{NoMemory}
use Rattle.icn_iofn.specs.PutPieces.{outputs, put_state}
use Rattle.icn_iofn.proofs.PutSteps.{end_of, if_err_known, puts_waiting, stops_idle, stops_waiting, waits_more}
use Rattle.icn_iofn.proofs.putting.select.Goals as goal

pub returns-in_err-end_line-clause-err : goal.returns-in_err-end_line-clause-err
returns-in_err-end_line-clause-err g c =
    if_err_known c.from_residual.result _ NoMemory c.from_residual.ensures.1
    (stops_idle (file_of c.args.file) c.args.buffer.now.items (end_of c.args.ends)
    (put_state c.args.w.now (g.L.Locals.items c.args.l.now) (outputs (g.O.Sink.state c.args.out.now) (g.E.Sink.state c.args.err.now))) NoMemory refl)

pub returns-in_ok-flush-clause-ok : goal.returns-in_ok-flush-clause-ok
returns-in_ok-flush-clause-ok g c =
    puts_waiting (file_of c.args.file) (file_of c.args.other) c.args.buffer.now.items (end_of c.args.ends) c.deref.result.now c.clear.new.self.items
    (put_state c.args.w.now (g.L.Locals.items c.args.l.now) (outputs (g.O.Sink.state c.args.out.now) (g.E.Sink.state c.args.err.now)))
    (put_state c.flush.new.w (g.L.Locals.items c.args.l.now) (outputs (g.O.Sink.state c.flush.new.out) (g.E.Sink.state c.flush.new.err)))
    c.in_ok-flush.ensures.ok c.in_ok-flush.ensures.counts (c.deref.ensures.value ∙ c.in_ok-end_line.ensures) c.clear.ensures.items

pub returns-else-ne-clause-ok : goal.returns-else-ne-clause-ok
returns-else-ne-clause-ok g c =
    let same : c.args.other ≡ c.args.file = search rules in
    waits_more (file_of c.args.file) (file_of c.args.other) c.args.buffer.now.items (end_of c.args.ends) c.end_line.new.buffer.items
    (put_state c.args.w.now (g.L.Locals.items c.args.l.now) (outputs (g.O.Sink.state c.args.out.now) (g.E.Sink.state c.args.err.now)))
    (ap file_of same) c.in_ok-end_line.ensures

pub returns-in_err-flush-clause-err : goal.returns-in_err-flush-clause-err
returns-in_err-flush-clause-err g c =
    if_err_known c.from_residual-in_err-flush.result _ c.in_err-flush.field-0.0 c.from_residual-in_err-flush.ensures.1
    (stops_waiting (file_of c.args.file) c.args.buffer.now.items (end_of c.args.ends) c.deref.result.now
    (put_state c.args.w.now (g.L.Locals.items c.args.l.now) (outputs (g.O.Sink.state c.args.out.now) (g.E.Sink.state c.args.err.now)))
    (outputs (g.O.Sink.state c.flush.new.out) (g.E.Sink.state c.flush.new.err))
    c.in_err-flush.field-0.0 c.in_err-flush.ensures.err (c.deref.ensures.value ∙ c.in_ok-end_line.ensures))
