use Rattle.std.proofs.Common.{IsSome, subst, sym}
use Rattle.icn_text.specs.declared.op.Op.{Op}
use Rattle.icn_defs.specs.Arities.{arity}
use Rattle.icn_code.specs.declared.instr.Instr.TheVariants as Instrs
use Rattle.icn_control.specs.TakenOperands.{take_operands}
use Rattle.icn_machine.specs.TurnsAtOnce.{DoesAsTurn}
use Rattle.icn_machine.proofs.turns_at_once.operate_in_turn.Goals as goal

pub give_elements-requires-clause-operands : goal.give_elements-requires-clause-operands
give_elements-requires-clause-operands g c =
    subst (λ (o : Op). IsSome (take_operands (arity o) c.args.frames.now.flat)) c.in-Elements.is c.requires.operands

pub give_elements-requires-clause-live : goal.give_elements-requires-clause-live
give_elements-requires-clause-live g c = c.requires.live

pub returns-in-Elements : goal.returns-in-Elements
returns-in-Elements g c tables =
    subst (λ (o : Op). DoesAsTurn tables (Instrs.Op o) c.args.world.now c.args.frames.now.flat c.args.world.now c.give_elements.new.frames.flat
    c.give_elements.result) (sym c.in-Elements.is) (c.give_elements.ensures tables)

pub returns-in_default : goal.returns-in_default
returns-in_default g c = c.assign_in_place.ensures
