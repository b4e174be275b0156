use Rattle.std.proofs.lemmas.Result.{err_from_is_err_and}
use Rattle.icn_image.specs.Readers.{times}
use Rattle.icn_image.specs.Reading.{cset_at}
use Rattle.icn_image.proofs.EntryLoop.{loop_goes_on, loop_fails, loop_done}
use Rattle.icn_image.proofs.table.so_many_csets.Goals as goal

pub returns-in_err-cset : goal.returns-in_err-cset
returns-in_err-cset c =
    let p = err_from_is_err_and c.from_residual.result c.from_residual.ensures.1 in
    rw (p.1, p.2) (loop_fails (cset_at) c.in_err-cset.field-0.0 c.loop.csets.items c.args.count c.loop.counter c.loop.rest.now
    (times (cset_at) c.args.count c.args.bytes.now) c.loop-test.true c.in_err-cset.ensures c.loop.invariant)

pub loop-preserved : goal.loop-preserved
loop-preserved c = rw c.in_ok-push.ensures.items (loop_goes_on (cset_at) c.loop.csets.items c.args.count c.loop.counter c.loop.rest.now c.in_ok-cset.cset
    c.in_ok-cset.after.now (times (cset_at) c.args.count c.args.bytes.now) c.loop-test.true c.in_ok-cset.ensures c.loop.invariant)

pub returns : goal.returns
returns c = loop_done (cset_at) c.loop.csets.items c.args.count c.loop.counter c.loop.rest.now
    (times (cset_at) c.args.count c.args.bytes.now) c.loop-test.false c.loop.invariant
