use Rattle.std.proofs.Common.{FitsSigned, ap, rules, subst, sym, ℤ}
use Rattle.std.proofs.lemmas.Int.{to_z-of_z}
use Rattle.std.specs.Int.{w64}
use Rattle.icn_frames.specs.Slots.{plain_operand}
use Rattle.icn_machine.specs.PlainFunctions.{HasValueBelow}
use Rattle.icn_value.specs.declared.val.Val.TheVariants as Vals
use Rattle.icn_machine.proofs.ToldSteps.{by_global, by_local, by_slot}
use Rattle.icn_machine.proofs.told.integer_told.Goals as goal

pub returns-in-VarLocal : goal.returns-in-VarLocal
returns-in-VarLocal g c =
    by_local (λ x. Vals.Integer x) c.args.world.now.globals.items c.args.frames.now.flat c.args.count c.slot_below.result c.slot_below.ensures
    c.in-VarLocal.index c.integer_held.result c.in-VarLocal.is c.integer_held.ensures

pub returns-in-VarGlobal : goal.returns-in-VarGlobal
returns-in-VarGlobal g c =
    by_global (λ x. Vals.Integer x) c.args.world.now.globals.items c.args.frames.now.flat c.args.count c.slot_below.result c.slot_below.ensures
    c.in-VarGlobal.index c.global_integer.result c.in-VarGlobal.is c.global_integer.ensures

pub returns-in-ValInteger : goal.returns-in-ValInteger
returns-in-ValInteger g c =
    let n = c.in-ValInteger.n in
    let fits : FitsSigned w64 n = search rules in
    subst (λ (i : ℤ). HasValueBelow c.args.world.now.globals.items c.args.frames.now.flat c.args.count (Vals.Integer i)) (sym (to_z-of_z w64 n fits))
    (by_slot (λ x. Vals.Integer x) c.args.world.now.globals.items c.args.frames.now.flat c.args.count c.slot_below.result c.slot_below.ensures n
    (ap plain_operand c.in-ValInteger.is))
