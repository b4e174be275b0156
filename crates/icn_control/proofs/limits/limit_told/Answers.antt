use Rattle.std.proofs.Common.{FitsSigned, ap, ◌∙◌, rules, w64}
use Rattle.std.proofs.lemmas.Int.{to_z-of_z}
use Rattle.icn_frames.specs.Slots.{plain_operand}
use Rattle.icn_frames.specs.Stacks as held
use Rattle.icn_control.specs.StackAndWorld.{natural_of}
use Rattle.icn_control.proofs.PlainValueSteps.{limit_held}
use Rattle.icn_control.proofs.limits.limit_told.Goals as goal

pub returns-in-ValInteger : goal.returns-in-ValInteger
returns-in-ValInteger g c =
    let n = c.in-ValInteger.n in
    let fits : FitsSigned w64 n = search rules in
    limit_held (held.locals c.args.frames.now.flat) c.args.slot c.in-Some.value n c.count_of.result c.in-Some.ensures
    (ap plain_operand c.in-ValInteger.is) (c.count_of.ensures ∙ ap natural_of (to_z-of_z w64 n fits))
