use Rattle.std.proofs.Common.{FitsSigned, ap, arith, rules, subst, sym, ℤ}
use Rattle.std.proofs.lemmas.Int.{to_z-of_z}
use Rattle.std.specs.Int.{w64}
use Rattle.icn_frames.specs.Slots.{plain_operand}
use Rattle.icn_frames.specs.Stacks as held
use Rattle.icn_machine.specs.PlainOperations.{TellsInteger}
use Rattle.icn_machine.proofs.PlainOperands.{local_tells, value_tells}
use Rattle.icn_machine.proofs.counts.bound_in.Goals as goal

pub local_integer-requires : goal.local_integer-requires
local_integer-requires g c = omega (arith, c.if-index-count.false, c.local_count-count.ensures.count)

pub returns-else-index-count : goal.returns-else-index-count
returns-else-index-count g c =
    local_tells (held.locals c.args.frames.now.flat) c.args.slot c.in-VarLocal.index c.local_integer.result (ap plain_operand c.in-VarLocal.is)
    c.local_integer.ensures

pub returns-in-ValInteger : goal.returns-in-ValInteger
returns-in-ValInteger g c =
    let n = c.in-ValInteger.n in
    let fits : FitsSigned w64 n = search rules in
    let vs = held.locals c.args.frames.now.flat in
    subst (λ (i : ℤ). TellsInteger vs c.args.slot i) (sym (to_z-of_z w64 n fits)) (value_tells vs c.args.slot n (ap plain_operand c.in-ValInteger.is))
