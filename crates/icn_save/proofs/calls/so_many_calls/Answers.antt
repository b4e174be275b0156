use Rattle.std.proofs.Common.{◌≡◌, [], ◌∷◌, ◌++◌}
use Rattle.std.proofs.lemmas.List.{map_push}
use Rattle.std.proofs.lemmas.Result.{err_from_is_err_and}
use Rattle.icn_save.specs.Readers.{times}
use Rattle.icn_save.specs.Reading.{call_at}
use Rattle.icn_save.specs.Slices.{call_in, calls_in}
use Rattle.icn_save.proofs.EntryLoop.{loop_goes_on, loop_fails, loop_done}
use Rattle.icn_save.proofs.calls.so_many_calls.Goals as goal

pub returns-in_err-call : goal.returns-in_err-call
returns-in_err-call c =
    let p = err_from_is_err_and c.from_residual.result c.from_residual.ensures.1 in
    rw (p.1, p.2) (loop_fails call_at c.in_err-call.field-0.0 (calls_in c.loop.calls.items) c.args.count c.loop.counter c.loop.rest.now
    (times call_at c.args.count c.args.bytes.now) c.loop-test.true c.in_err-call.ensures c.loop.invariant)

pub loop-preserved : goal.loop-preserved
loop-preserved c =
    let grown : calls_in c.push.new.self.items ≡ calls_in c.loop.calls.items ++ call_in c.in_ok-call.call ∷ [] =
    rw c.in_ok-push.ensures.items (map_push _ c.loop.calls.items c.in_ok-call.call) in
    rw grown (loop_goes_on call_at (calls_in c.loop.calls.items) c.args.count c.loop.counter c.loop.rest.now (call_in c.in_ok-call.call)
    c.in_ok-call.after.now (times call_at c.args.count c.args.bytes.now) c.loop-test.true c.in_ok-call.ensures c.loop.invariant)

pub returns : goal.returns
returns c = loop_done call_at (calls_in c.loop.calls.items) c.args.count c.loop.counter c.loop.rest.now
    (times call_at c.args.count c.args.bytes.now) c.loop-test.false c.loop.invariant
