use Rattle.std.proofs.Common.{refl}
use Rattle.icn_text.specs.declared.op.Op.TheVariants as Ops
use Rattle.icn_code.specs.declared.instr.Instr.TheVariants as Instrs
use Rattle.icn_machine.proofs.PlainCallSteps.{operands_there}
use Rattle.icn_machine.proofs.RowsAtOnce.{does_not}
use Rattle.icn_machine.proofs.texts_in_place.join_before.Goals as goal

pub text_told-requires : goal.text_told-requires
text_told-requires g c = operands_there 1 c.args.frames.now.flat c.requires.operands

pub returns-in_default : goal.returns-in_default
returns-in_default g c t =
    does_not t (Instrs.Op Ops.Concatenate) c.args.world.now c.args.world.now c.args.frames.now.flat c.args.frames.now.flat refl refl

pub give_joined-requires-clause-first : goal.give_joined-requires-clause-first
give_joined-requires-clause-first g c = c.in-Some.ensures

pub returns-then-may_join : goal.returns-then-may_join
returns-then-may_join g c t = c.give_joined.ensures t

pub returns-else-may_join : goal.returns-else-may_join
returns-else-may_join g c t =
    does_not t (Instrs.Op Ops.Concatenate) c.args.world.now c.args.world.now c.args.frames.now.flat c.args.frames.now.flat refl refl
