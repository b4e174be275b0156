use Rattle.std.proofs.Common.{refl}
use Rattle.icn_machine.proofs.PlainCallSteps.{operands_there}
use Rattle.icn_machine.proofs.RowsAtOnce.{calls_lack, calls_not}
use Rattle.icn_machine.proofs.ScanCalls.{moves_called, one_taken}
use Rattle.icn_machine.proofs.scanning.move_in_place.Goals as goal

pub returns-then-not-is_short : goal.returns-then-not-is_short
returns-then-not-is_short g c t names = calls_not t 1 c.args.world.now c.args.world.now c.args.frames.now.flat c.args.frames.now.flat refl refl

pub place_moved-requires : goal.place_moved-requires
place_moved-requires g c = one_taken 1 c.args.frames.now.flat c.requires.operands

pub returns-in_default : goal.returns-in_default
returns-in_default g c t names = calls_not t 1 c.args.world.now c.args.world.now c.args.frames.now.flat c.args.frames.now.flat refl refl

pub drop_with-requires : goal.drop_with-requires
drop_with-requires g c = operands_there 1 c.args.frames.now.flat c.requires.operands

pub returns-in-Ok : goal.returns-in-Ok
returns-in-Ok g c t names =
    let w = c.args.world.now in
    rw c.done_at.ensures
    (moves_called t c.requires.live.0 w c.args.frames.now.flat c.drop_with.new.self.flat c.give_moved.new.frames.flat c.args.func c.drop_with.ensures.drops
    c.local_count.ensures.same c.requires.live.1 names c.give_moved.new.world c.in-Some.found c.in-Ok.stage c.in-Some.ensures.moves c.in-Ok.ensures)

pub returns-in-Err : goal.returns-in-Err
returns-in-Err g c t names = calls_lack t 1 c.args.world.now c.give_moved.new.world c.args.frames.now.flat c.give_moved.new.frames.flat

pub give_moved-requires-clause-short : goal.give_moved-requires-clause-short
give_moved-requires-clause-short g c = c.is_short.ensures c.if-not-is_short.false

pub give_moved-requires-clause-low : goal.give_moved-requires-clause-low
give_moved-requires-clause-low g c = c.in-Some.ensures.low

pub give_moved-requires-clause-high : goal.give_moved-requires-clause-high
give_moved-requires-clause-high g c = c.in-Some.ensures.high
