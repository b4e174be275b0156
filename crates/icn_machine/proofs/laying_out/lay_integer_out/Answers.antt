use Rattle.std.proofs.Common.{FitsSigned, ◌+◌, arith, refl, rules, subst, sym, ℤ}
use Rattle.std.proofs.lemmas.Int.{to_z-of_z}
use Rattle.std.specs.Int.{w64}
use Rattle.icn_value.specs.declared.val.Val.TheVariants as Vals
use Rattle.icn_machine.specs.PlainFunctions.{HasValueBelow}
use Rattle.icn_machine.proofs.PlainCallSteps.{operands_there}
use Rattle.icn_machine.proofs.PlainFunctionSteps.{fewer_operands}
use Rattle.icn_machine.proofs.RowsAtOnce.{calls_not}
use Rattle.icn_machine.proofs.laying_out.lay_integer_out.Goals as goal

pub integer_told-requires : goal.integer_told-requires
integer_told-requires g c = fewer_operands (1 + 1) (2 + 1) _ (omega arith) (operands_there 2 c.args.frames.now.flat c.requires.operands)

pub returns-in_default : goal.returns-in_default
returns-in_default g c t names =
    calls_not t 2 c.args.world.now c.args.world.now c.args.frames.now.flat c.args.frames.now.flat refl refl

pub give_integer_in_field-requires-clause-first : goal.give_integer_in_field-requires-clause-first
give_integer_in_field-requires-clause-first g c =
    let fits : FitsSigned w64 c.in-Some.m = search rules in
    subst (λ (i : ℤ). HasValueBelow c.args.world.now.globals.items c.args.frames.now.flat 1 (Vals.Integer i)) (sym (to_z-of_z w64 c.in-Some.m fits))
    c.in-Some.ensures

pub returns-then-may_lay_integer_out : goal.returns-then-may_lay_integer_out
returns-then-may_lay_integer_out g c t names = c.give_integer_in_field.ensures t names

pub returns-else-may_lay_integer_out : goal.returns-else-may_lay_integer_out
returns-else-may_lay_integer_out g c t names =
    calls_not t 2 c.args.world.now c.args.world.now c.args.frames.now.flat c.args.frames.now.flat refl refl
