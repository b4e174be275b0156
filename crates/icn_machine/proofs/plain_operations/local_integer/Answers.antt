use Rattle.std.proofs.Common.{◌∙◌, FitsSigned, Option, Some, ap, rules, sym, ℤ}
use Rattle.std.proofs.lemmas.Int.{to_z-of_z}
use Rattle.std.specs.Int.{w64}
use Rattle.icn_value.specs.declared.val.Val.{Val}
use Rattle.icn_value.specs.declared.val.Val.TheVariants as Vals
use Rattle.icn_frames.specs.Slots.{plain_local}
use Rattle.icn_frames.specs.Stacks as held
use Rattle.icn_machine.proofs.PlainOperands.{local_told}
use Rattle.icn_machine.proofs.plain_operations.local_integer.Goals as goal

pub returns-in-LocalInteger : goal.returns-in-LocalInteger
returns-in-LocalInteger g c =
    let m = c.args.frames.now.flat in
    let n = c.in-LocalInteger.n in
    let fits : FitsSigned w64 n = search rules in
    let F : ℤ → Option Val = λ i. Some (Vals.Integer i) in
    local_told (held.locals m) c.args.index (held.local_count m) c.local_slot.result n c.requires
    (sym c.local_count.ensures.count ∙ c.local_count.ensures.all) c.local_slot.ensures (ap plain_local c.in-LocalInteger.is)
    ∙ ap F (sym (to_z-of_z w64 n fits))
