use Rattle.std.proofs.Common.{FitsSigned, Some, ap, rules, ℤ}
use Rattle.std.proofs.lemmas.Int.{to_z-of_z}
use Rattle.std.specs.Int.{w64}
use Rattle.icn_value.specs.declared.val.Val.TheVariants as Vals
use Rattle.icn_frames.specs.Slots.{plain_operand}
use Rattle.icn_frames.specs.Stacks as held
use Rattle.icn_machine.proofs.PlainOperands.{integer_had, local_had}
use Rattle.icn_machine.proofs.plain_operations.local_assigned.Goals as goal

pub local_copied-requires : goal.local_copied-requires
local_copied-requires g c = c.requires c.in-VarLocal.index (ap plain_operand c.in-VarLocal.is)

pub returns-in-VarLocal : goal.returns-in-VarLocal
returns-in-VarLocal g c =
    local_had (held.locals c.args.frames.now.flat) c.args.slot c.in-VarLocal.index c.local_copied.result (ap plain_operand c.in-VarLocal.is)
    c.local_copied.ensures

pub returns-in-ValInteger : goal.returns-in-ValInteger
returns-in-ValInteger g c =
    let n = c.in-ValInteger.n in
    let fits : FitsSigned w64 n = search rules in
    integer_had (held.locals c.args.frames.now.flat) c.args.slot _ n (ap plain_operand c.in-ValInteger.is)
    (ap (λ (i : ℤ). Some (Vals.Integer i)) (to_z-of_z w64 n fits))
