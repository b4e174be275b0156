use Rattle.std.proofs.Common.{◌≡◌, true, is_some, ap, rules, ◌∙◌}
use Rattle.icn_frames.specs.Slots.{plain_operand}
use Rattle.icn_frames.specs.Stacks.{push}
use Rattle.icn_control.proofs.PlainValueSteps.{value_taken}
use Rattle.icn_control.proofs.StackSteps.{plain_top, pushed_back}
use Rattle.icn_control.proofs.plain_values.take_value.Goals as goal

pub returns-in-Some-clause-taken : goal.returns-in-Some-clause-taken
returns-in-Some-clause-taken g c =
    let m = c.args.frames.now.flat in
    let plain : is_some (plain_operand c.top-slot.result) ≡ true = search rules in
    let top = plain_top m c.top-slot.result c.requires plain c.top-slot.ensures in
    value_taken m c.drop_top.new.self.flat c.top-slot.result c.in-Some.value top (c.drop_top.ensures.flat top.item top.rest top.pops) c.in-Some.ensures

pub returns-in-None-clause-none : goal.returns-in-None-clause-none
returns-in-None-clause-none g c q =
    let m = c.args.frames.now.flat in
    let plain : is_some (plain_operand c.top-slot.result) ≡ true = search rules in
    let top = plain_top m c.top-slot.result c.requires plain c.top-slot.ensures in
    c.put_slot.ensures.flat top.item top.tells ∙ ap (push top.item) (c.drop_top.ensures.flat top.item top.rest top.pops)
    ∙ pushed_back m top.rest top.item top.pops
