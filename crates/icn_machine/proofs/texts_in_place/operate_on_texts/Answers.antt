use Rattle.std.proofs.Common.{IsSome, refl, subst, sym}
use Rattle.icn_text.specs.declared.op.Op.{Op}
use Rattle.icn_defs.specs.Arities.{arity}
use Rattle.icn_control.specs.TakenOperands.{take_operands}
use Rattle.icn_code.specs.declared.instr.Instr.TheVariants as Instrs
use Rattle.icn_machine.specs.TurnsAtOnce.{DoesAsTurn}
use Rattle.icn_machine.proofs.RowsAtOnce.{does_not}
use Rattle.icn_machine.proofs.texts_in_place.operate_on_texts.Goals as goal

pub returns-in-Concatenate : goal.returns-in-Concatenate
returns-in-Concatenate g c t =
    subst (λ (op : Op). DoesAsTurn t (Instrs.Op op) c.args.world.now c.args.frames.now.flat c.join_in_place.new.world c.join_in_place.new.frames.flat
    c.join_in_place.result) (sym c.in-Concatenate.is) (c.join_in_place.ensures t)

pub returns-in-TabMatch : goal.returns-in-TabMatch
returns-in-TabMatch g c t =
    subst (λ (op : Op). DoesAsTurn t (Instrs.Op op) c.args.world.now c.args.frames.now.flat c.match_in_place.new.world c.match_in_place.new.frames.flat
    c.match_in_place.result) (sym c.in-TabMatch.is) (c.match_in_place.ensures t)

pub returns-in_default : goal.returns-in_default
returns-in_default g c t =
    does_not t (Instrs.Op c.args.op) c.args.world.now c.args.world.now c.args.frames.now.flat c.args.frames.now.flat refl refl

pub join_in_place-requires-clause-operands : goal.join_in_place-requires-clause-operands
join_in_place-requires-clause-operands g c =
    subst (λ (op : Op). IsSome (take_operands (arity op) c.args.frames.now.flat)) c.in-Concatenate.is c.requires.operands

pub match_in_place-requires-clause-operands : goal.match_in_place-requires-clause-operands
match_in_place-requires-clause-operands g c =
    subst (λ (op : Op). IsSome (take_operands (arity op) c.args.frames.now.flat)) c.in-TabMatch.is c.requires.operands
