use Rattle.std.proofs.Common.{IsSome, refl, subst, sym}
use Rattle.icn_text.specs.declared.op.Op.{Op}
use Rattle.icn_defs.specs.Arities.{arity}
use Rattle.icn_code.specs.declared.instr.Instr.TheVariants as Instrs
use Rattle.icn_control.specs.TakenOperands.{take_operands}
use Rattle.icn_machine.specs.TurnsAtOnce.{DoesAsTurn}
use Rattle.icn_machine.proofs.AssignmentSteps.{not_turned}
use Rattle.icn_machine.proofs.assignments_in_place.assign_in_place.Goals as goal

pub assign_in_world-requires-clause-operands : goal.assign_in_world-requires-clause-operands
assign_in_world-requires-clause-operands g c =
    subst (λ (o : Op). IsSome (take_operands (arity o) c.args.frames.now.flat)) c.in-Assign.is c.requires.operands

pub assign_in_world-requires-clause-live : goal.assign_in_world-requires-clause-live
assign_in_world-requires-clause-live g c = c.requires.live

pub returns-in-Assign : goal.returns-in-Assign
returns-in-Assign g c tables =
    subst (λ (o : Op). DoesAsTurn tables (Instrs.Op o) c.args.world.now c.args.frames.now.flat
    c.assign_in_world.new.world c.assign_in_world.new.frames.flat c.assign_in_world.result)
    (sym c.in-Assign.is) (c.assign_in_world.ensures tables)

pub assign_reversibly-requires-clause-operands : goal.assign_reversibly-requires-clause-operands
assign_reversibly-requires-clause-operands g c =
    subst (λ (o : Op). IsSome (take_operands (arity o) c.args.frames.now.flat)) c.in-ReversibleAssign.is c.requires.operands

pub assign_reversibly-requires-clause-live : goal.assign_reversibly-requires-clause-live
assign_reversibly-requires-clause-live g c = c.requires.live

pub returns-in-ReversibleAssign : goal.returns-in-ReversibleAssign
returns-in-ReversibleAssign g c tables =
    subst (λ (o : Op). DoesAsTurn tables (Instrs.Op o) c.args.world.now c.args.frames.now.flat
    c.assign_reversibly.new.world c.assign_reversibly.new.frames.flat c.assign_reversibly.result)
    (sym c.in-ReversibleAssign.is) (c.assign_reversibly.ensures tables)

pub returns-in_default : goal.returns-in_default
returns-in_default g c tables =
    not_turned tables (Instrs.Op c.args.op) c.args.world.now c.args.frames.now.flat c.args.frames.now.flat refl
