use Rattle.std.proofs.Common.{◌+◌, arith, refl}
use Rattle.icn_machine.proofs.PlainCallSteps.{operands_there}
use Rattle.icn_machine.proofs.PlainFunctionSteps.{fewer_operands}
use Rattle.icn_machine.proofs.RowsAtOnce.{calls_not}
use Rattle.icn_machine.proofs.laying_out.lay_out_in_place.Goals as goal

pub natural_told-requires : goal.natural_told-requires
natural_told-requires g c = fewer_operands (0 + 1) (2 + 1) _ (omega arith) (operands_there 2 c.args.frames.now.flat c.requires.operands)

pub returns-in_default : goal.returns-in_default
returns-in_default g c t names =
    calls_not t 2 c.args.world.now c.args.world.now c.args.frames.now.flat c.args.frames.now.flat refl refl

pub text_told-requires : goal.text_told-requires
text_told-requires g c = fewer_operands (1 + 1) (2 + 1) _ (omega arith) (operands_there 2 c.args.frames.now.flat c.requires.operands)

pub lay_text_out-requires-clause-first : goal.lay_text_out-requires-clause-first
lay_text_out-requires-clause-first g c = c.in-Some-text_told.ensures

pub lay_text_out-requires-clause-second : goal.lay_text_out-requires-clause-second
lay_text_out-requires-clause-second g c = c.in-Some.ensures

pub lay_integer_out-requires-clause-second : goal.lay_integer_out-requires-clause-second
lay_integer_out-requires-clause-second g c = c.in-Some.ensures
