use Rattle.std.proofs.Common.{ap, sym, subst}
use Rattle.icn_text.specs.declared.op.Op.{Op}
use Rattle.icn_text.specs.declared.op.Op.TheVariants as Ops
use Rattle.icn_vars.specs.Worlds.{reach_of}
use Rattle.std.specs.Prelude.{[], IsSome, ℕ}
use Rattle.icn_defs.specs.Arities.{arity}
use Rattle.icn_control.specs.TakenOperands.{take_operands}
use Rattle.icn_machine.specs.PlainOperations.{OperatesInWorld}
use Rattle.icn_machine.proofs.InWorldSteps.{in_world}
use Rattle.icn_machine.proofs.plain_operations.operate_as_told.Goals as goal

pub size-requires-clause-operands : goal.size-requires-clause-operands
size-requires-clause-operands g c =
    subst (λ (n : ℕ). IsSome (take_operands n c.args.frames.now.flat)) (ap arity c.in-Size.is) c.requires.operands

pub size-requires-clause-live : goal.size-requires-clause-live
size-requires-clause-live g c = c.requires.live

pub returns-in-Size : goal.returns-in-Size
returns-in-Size g c =
    subst (λ (op : Op). OperatesInWorld c.args.world.now op c.args.frames.now.flat c.size.new.frames.flat c.size.result) (sym c.in-Size.is) c.size.ensures

pub subscript-requires-clause-operands : goal.subscript-requires-clause-operands
subscript-requires-clause-operands g c =
    subst (λ (n : ℕ). IsSome (take_operands n c.args.frames.now.flat)) (ap arity c.in-Subscript.is) c.requires.operands

pub subscript-requires-clause-live : goal.subscript-requires-clause-live
subscript-requires-clause-live g c = c.requires.live

pub returns-in-Subscript : goal.returns-in-Subscript
returns-in-Subscript g c =
    subst (λ (op : Op). OperatesInWorld c.args.world.now op c.args.frames.now.flat c.subscript.new.frames.flat c.subscript.result) (sym c.in-Subscript.is)
    c.subscript.ensures

pub operate_in_place-requires-clause-live : goal.operate_in_place-requires-clause-live
operate_in_place-requires-clause-live g c = (c.requires.live.0, (reach_of c.args.world.now [], c.requires.live.1))

pub returns-in_default : goal.returns-in_default
returns-in_default g c =
    in_world c.args.world.now c.args.op c.args.frames.now.flat c.operate_in_place.new.frames.flat c.operate_in_place.result c.operate_in_place.ensures
