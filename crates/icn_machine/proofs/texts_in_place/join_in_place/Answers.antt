use Rattle.std.proofs.Common.{◌+◌, arith, refl}
use Rattle.icn_text.specs.declared.op.Op.TheVariants as Ops
use Rattle.icn_code.specs.declared.instr.Instr.TheVariants as Instrs
use Rattle.icn_machine.proofs.PlainCallSteps.{operands_there}
use Rattle.icn_machine.proofs.PlainFunctionSteps.{fewer_operands}
use Rattle.icn_machine.proofs.RowsAtOnce.{does_not}
use Rattle.icn_machine.proofs.texts_in_place.join_in_place.Goals as goal

pub text_told-requires : goal.text_told-requires
text_told-requires g c = fewer_operands (0 + 1) (1 + 1) _ (omega arith) (operands_there 1 c.args.frames.now.flat c.requires.operands)

pub join_before-requires-clause-second : goal.join_before-requires-clause-second
join_before-requires-clause-second g c = c.in-Some.ensures

pub returns-in-Some : goal.returns-in-Some
returns-in-Some g c t = c.join_before.ensures t

pub returns-in-None : goal.returns-in-None
returns-in-None g c t =
    does_not t (Instrs.Op Ops.Concatenate) c.args.world.now c.args.world.now c.args.frames.now.flat c.args.frames.now.flat refl refl
