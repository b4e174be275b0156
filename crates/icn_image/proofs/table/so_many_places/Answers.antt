use Rattle.icn_image.specs.Versions.{width_of}
use Rattle.std.proofs.lemmas.Result.{err_from_is_err_and}
use Rattle.icn_image.specs.Readers.{times, index_at}
use Rattle.icn_image.proofs.EntryLoop.{loop_goes_on, loop_fails, loop_done}
use Rattle.icn_image.proofs.table.so_many_places.Goals as goal

pub returns-in_err-place : goal.returns-in_err-place
returns-in_err-place c =
    let p = err_from_is_err_and c.from_residual.result c.from_residual.ensures.1 in
    rw (p.1, p.2) (loop_fails (index_at (width_of c.args.version) c.args.among) c.in_err-place.field-0.0 c.loop.places.items c.args.count c.loop.counter c.loop.rest.now
    (times (index_at (width_of c.args.version) c.args.among) c.args.count c.args.bytes.now) c.loop-test.true c.in_err-place.ensures.gives c.loop.invariant)

pub loop-preserved : goal.loop-preserved
loop-preserved c =
    rw c.in_ok-push.ensures.items (loop_goes_on (index_at (width_of c.args.version) c.args.among) c.loop.places.items c.args.count c.loop.counter c.loop.rest.now c.in_ok-place.place
    c.in_ok-place.after.now (times (index_at (width_of c.args.version) c.args.among) c.args.count c.args.bytes.now) c.loop-test.true c.in_ok-place.ensures.gives c.loop.invariant)

pub returns : goal.returns
returns c = loop_done (index_at (width_of c.args.version) c.args.among) c.loop.places.items c.args.count c.loop.counter c.loop.rest.now
    (times (index_at (width_of c.args.version) c.args.among) c.args.count c.args.bytes.now) c.loop-test.false c.loop.invariant
