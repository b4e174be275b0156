use Rattle.std.proofs.Common.{refl}
use Rattle.icn_text.specs.declared.op.Op.TheVariants as Ops
use Rattle.icn_value.specs.declared.val.Val.TheVariants as Vals
use Rattle.icn_code.specs.declared.instr.Instr.TheVariants as Instrs
use Rattle.icn_machine.proofs.MatchSteps.{match_done}
use Rattle.icn_machine.proofs.PlainCallSteps.{operands_there}
use Rattle.icn_machine.proofs.PlainFunctionSteps.{top_live}
use Rattle.icn_machine.proofs.RowsAtOnce.{does_lack, does_not}
use Rattle.icn_machine.proofs.scanning.match_in_place.Goals as goal

pub returns-then-not-is_short : goal.returns-then-not-is_short
returns-then-not-is_short g c t =
    does_not t (Instrs.Op Ops.TabMatch) c.args.world.now c.args.world.now c.args.frames.now.flat c.args.frames.now.flat refl refl

pub text_told-requires : goal.text_told-requires
text_told-requires g c = operands_there 0 c.args.frames.now.flat c.requires.operands

pub returns-in_default : goal.returns-in_default
returns-in_default g c t =
    does_not t (Instrs.Op Ops.TabMatch) c.args.world.now c.args.world.now c.args.frames.now.flat c.args.frames.now.flat refl refl

pub match_in_subject-found-requires : goal.match_in_subject-found-requires
match_in_subject-found-requires g c =
    let w = c.args.world.now in
    (top_live c.requires.live.0 w c.args.frames.now.flat (Vals.Text c.in-Some.wanted) w.sound.live_globals c.requires.operands c.requires.live.1
    c.in-Some.ensures).live

pub drop_with-requires : goal.drop_with-requires
drop_with-requires g c = operands_there 0 c.args.frames.now.flat c.requires.operands

pub returns-in-Ok : goal.returns-in-Ok
returns-in-Ok g c t =
    rw c.done_at.ensures
    (match_done t c.requires.live.0 c.args.world.now c.args.frames.now.flat c.drop_with.new.self.flat c.give_moved.new.frames.flat
    c.drop_with.ensures.drops c.local_count.ensures.same c.requires.live.1 c.in-Some.wanted c.in-Some.ensures c.give_moved.new.world
    c.match_in_subject-found.result c.in-Ok.stage c.match_in_subject-found.ensures.found c.in-Ok.ensures)

pub returns-in-Err : goal.returns-in-Err
returns-in-Err g c t =
    does_lack t (Instrs.Op Ops.TabMatch) c.args.world.now c.give_moved.new.world c.args.frames.now.flat c.give_moved.new.frames.flat

pub give_moved-requires-clause-short : goal.give_moved-requires-clause-short
give_moved-requires-clause-short g c = c.is_short.ensures c.if-not-is_short.false

pub give_moved-requires-clause-low : goal.give_moved-requires-clause-low
give_moved-requires-clause-low g c = c.match_in_subject-found.ensures.low

pub give_moved-requires-clause-high : goal.give_moved-requires-clause-high
give_moved-requires-clause-high g c = c.match_in_subject-found.ensures.high
