use Rattle.icn_image.specs.Versions.{width_of}
use Rattle.std.proofs.lemmas.Result.{err_from_is_err_and}
use Rattle.icn_image.specs.Readers.{times}
use Rattle.icn_image.specs.Reading.{string_at}
use Rattle.icn_image.proofs.EntryLoop.{loop_goes_on, loop_fails, loop_done}
use Rattle.icn_image.proofs.table.so_many_strings.Goals as goal

pub returns-in_err-string : goal.returns-in_err-string
returns-in_err-string c =
    let p = err_from_is_err_and c.from_residual.result c.from_residual.ensures.1 in
    rw (p.1, p.2) (loop_fails (string_at (width_of c.args.version)) c.in_err-string.field-0.0 c.loop.strings.items c.args.count c.loop.counter c.loop.rest.now
    (times (string_at (width_of c.args.version)) c.args.count c.args.bytes.now) c.loop-test.true c.in_err-string.ensures c.loop.invariant)

pub loop-preserved : goal.loop-preserved
loop-preserved c =
    rw c.in_ok-push.ensures.items (loop_goes_on (string_at (width_of c.args.version)) c.loop.strings.items c.args.count c.loop.counter c.loop.rest.now c.in_ok-string.string
    c.in_ok-string.after.now (times (string_at (width_of c.args.version)) c.args.count c.args.bytes.now) c.loop-test.true c.in_ok-string.ensures c.loop.invariant)

pub returns : goal.returns
returns c = loop_done (string_at (width_of c.args.version)) c.loop.strings.items c.args.count c.loop.counter c.loop.rest.now
    (times (string_at (width_of c.args.version)) c.args.count c.args.bytes.now) c.loop-test.false c.loop.invariant
