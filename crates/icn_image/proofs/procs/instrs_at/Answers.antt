use Rattle.icn_image.specs.Versions.{width_of}
use Rattle.std.proofs.lemmas.Result.{err_from_is_err_and}
use Rattle.icn_image.specs.Readers.{times}
use Rattle.icn_image.specs.Reading.{instr_at}
use Rattle.icn_image.proofs.EntryLoop.{loop_goes_on, loop_fails, loop_done}
use Rattle.icn_image.proofs.procs.instrs_at.Goals as goal

pub returns-in_err-instr : goal.returns-in_err-instr
returns-in_err-instr c =
    let p = err_from_is_err_and c.from_residual.result c.from_residual.ensures.1 in
    rw (p.1, p.2) (loop_fails (instr_at (width_of c.args.version) c.args.scope.now) c.in_err-instr.field-0.0 c.loop.instrs.items c.args.count c.loop.counter c.loop.rest.now
    (times (instr_at (width_of c.args.version) c.args.scope.now) c.args.count c.args.bytes.now) c.loop-test.true c.in_err-instr.ensures c.loop.invariant)

pub loop-preserved : goal.loop-preserved
loop-preserved c =
    rw c.in_ok-push.ensures.items
    (loop_goes_on (instr_at (width_of c.args.version) c.args.scope.now) c.loop.instrs.items c.args.count c.loop.counter c.loop.rest.now c.in_ok-instr.instr
    c.in_ok-instr.after.now (times (instr_at (width_of c.args.version) c.args.scope.now) c.args.count c.args.bytes.now) c.loop-test.true c.in_ok-instr.ensures c.loop.invariant)

pub returns : goal.returns
returns c = loop_done (instr_at (width_of c.args.version) c.args.scope.now) c.loop.instrs.items c.args.count c.loop.counter c.loop.rest.now
    (times (instr_at (width_of c.args.version) c.args.scope.now) c.args.count c.args.bytes.now) c.loop-test.false c.loop.invariant
