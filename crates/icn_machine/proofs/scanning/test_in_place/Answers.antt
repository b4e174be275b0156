use Rattle.std.proofs.Common.{refl}
use Rattle.icn_heap.specs.Heaps.{extent_of}
use Rattle.icn_machine.proofs.PlainCallSteps.{operands_there}
use Rattle.icn_machine.proofs.RowsAtOnce.{calls_lack, calls_not}
use Rattle.icn_machine.proofs.ScanCalls.{one_taken, so_given, tests_called}
use Rattle.icn_machine.proofs.scanning.test_in_place.Goals as goal

pub tested-requires-clause-operand : goal.tested-requires-clause-operand
tested-requires-clause-operand g c = one_taken 1 c.args.frames.now.flat c.requires.operands

pub tested-requires-clause-live : goal.tested-requires-clause-live
tested-requires-clause-live g c = c.requires.live

pub returns-in_default : goal.returns-in_default
returns-in_default g c t names = calls_not t 1 c.args.world.now c.args.world.now c.args.frames.now.flat c.args.frames.now.flat refl refl

pub drop_with-requires : goal.drop_with-requires
drop_with-requires g c = operands_there 1 c.args.frames.now.flat c.requires.operands

pub place_outcome-requires : goal.place_outcome-requires
place_outcome-requires g c = c.in-Some.ensures.small

pub returns-in-Ok : goal.returns-in-Ok
returns-in-Ok g c t names =
    let w = c.args.world.now in
    let k = c.drop_with.new.self.flat in
    let n = c.give_value.new.frames.flat in
    rw c.done_at.ensures
    (tests_called t c.requires.live.0 w c.args.frames.now.flat k n c.args.func c.drop_with.ensures.drops c.local_count.ensures.same c.requires.live.1 names
    c.in-Some.found c.in-Ok.stage c.in-Some.ensures.tests
    (so_given w k n c.in-Ok.stage c.place_outcome.result _ c.place_outcome.ensures (record {
      gives = c.in-Ok.ensures.gives;
      live = λ tables reach l o. c.in-Ok.ensures.live tables reach l o;
      named = λ all seen h o. c.in-Ok.ensures.named all (extent_of w.heap) seen h o;
    })))

pub returns-in-Err : goal.returns-in-Err
returns-in-Err g c t names = calls_lack t 1 c.args.world.now c.args.world.now c.args.frames.now.flat c.give_value.new.frames.flat
