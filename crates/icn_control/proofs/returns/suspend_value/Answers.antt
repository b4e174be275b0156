use Rattle.std.proofs.Common.{IsSome, refl, sym, ◌∙◌, subst}
use Rattle.icn_value.specs.declared.item.Item.TheVariants as Items
use Rattle.icn_control.proofs.PlainValueSteps.{told_suspends, told_suspends_live}
use Rattle.icn_control.proofs.returns.suspend_value.Goals as goal

pub suspend_proc_plain-requires-clause-goes_on : goal.suspend_proc_plain-requires-clause-goes_on
suspend_proc_plain-requires-clause-goes_on g c = sym c.is_base.ensures ∙ c.if-is_base.false

pub suspend_proc_plain-requires-clause-plain : goal.suspend_proc_plain-requires-clause-plain
suspend_proc_plain-requires-clause-plain g c = subst IsSome (sym c.in-Some.ensures.gives) refl

pub returns-in-Ok-clause-step : goal.returns-in-Ok-clause-step
returns-in-Ok-clause-step g c = λ q. (
    let tells = c.in-Some.ensures in
    told_suspends c.args.frames.now.flat c.suspend_proc_plain.new.self.flat c.top-slot.result c.in-Some.value tells c.requires c.top-slot.ensures
    (sym c.is_scanning.ensures ∙ c.if-is_scanning.false) (c.in-Ok.ensures.ok (Items.Val tells.is) tells.gives))

pub returns-in-Ok-clause-live : goal.returns-in-Ok-clause-live
returns-in-Ok-clause-live g c = λ q. (
    let tells = c.in-Some.ensures in
    told_suspends_live c.args.frames.now.flat c.suspend_proc_plain.new.self.flat c.top-slot.result c.in-Some.value tells c.requires c.top-slot.ensures
    (c.in-Ok.ensures.ok (Items.Val tells.is) tells.gives))
