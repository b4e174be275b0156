use Rattle.std.proofs.Common.{◌≡◌, false, Option, Some, IfSome, sym, ap, ◌∙◌, subst}
use Rattle.icn_value.specs.declared.item.Item.{Item}
use Rattle.icn_frames.specs.Stacks.{FlatStack, at_base, pop}
use Rattle.icn_control.proofs.LiveCalls.{live_esusp}
use Rattle.icn_control.proofs.StackSteps.{esusp_runs, plain_top}
use Rattle.icn_control.proofs.on_stack.give_suspended.Goals as goal

pub suspend_mark_plain-requires-clause-goes_on : goal.suspend_mark_plain-requires-clause-goes_on
suspend_mark_plain-requires-clause-goes_on g c =
    let m = c.args.frames.now.flat in
    let top = plain_top m c.top-slot.result c.requires.operand (sym c.is_plain_operand.ensures ∙ c.if-is_plain_operand.true) c.top-slot.ensures in
    let there : at_base top.rest ≡ false
    = subst (λ (o : Option (Item × FlatStack)). IfSome o (λ popped. at_base popped.1 ≡ false)) top.pops c.requires.mark in
    subst (λ (x : FlatStack). at_base x ≡ false) (sym (c.drop_top.ensures.flat top.item top.rest top.pops)) there

pub returns-then-is_plain_operand-clause-step : goal.returns-then-is_plain_operand-clause-step
returns-then-is_plain_operand-clause-step g c =
    let m = c.args.frames.now.flat in
    let top = plain_top m c.top-slot.result c.requires.operand (sym c.is_plain_operand.ensures ∙ c.if-is_plain_operand.true) c.top-slot.ensures in
    let F : FlatStack → Option (Item × FlatStack) = λ x. Some (top.item, x) in
    let pops : pop m ≡ Some (top.item, c.drop_top.new.self.flat) = top.pops ∙ ap F (sym (c.drop_top.ensures.flat top.item top.rest top.pops)) in
    esusp_runs m c.drop_top.new.self.flat c.suspend_mark_plain.new.self.flat top.item pops (c.in_ok-suspend_mark_plain.ensures.ok top.item top.tells)

pub returns-then-is_plain_operand-clause-live : goal.returns-then-is_plain_operand-clause-live
returns-then-is_plain_operand-clause-live g c t reach k =
    let m = c.args.frames.now.flat in
    let top = plain_top m c.top-slot.result c.requires.operand (sym c.is_plain_operand.ensures ∙ c.if-is_plain_operand.true) c.top-slot.ensures in
    let F : FlatStack → Option (Item × FlatStack) = λ x. Some (top.item, x) in
    let pops : pop m ≡ Some (top.item, c.drop_top.new.self.flat) = top.pops ∙ ap F (sym (c.drop_top.ensures.flat top.item top.rest top.pops)) in
    live_esusp t reach m c.drop_top.new.self.flat c.suspend_mark_plain.new.self.flat top.item pops
    (c.in_ok-suspend_mark_plain.ensures.ok top.item top.tells) k

pub returns-clause-step : goal.returns-clause-step
returns-clause-step g c =
    esusp_runs c.args.frames.now.flat c.pop-x.new.self.flat c.suspend.new.self.flat c.pop-x.result c.pop-x.ensures.flat c.in_ok-suspend.ensures.ok

pub returns-clause-live : goal.returns-clause-live
returns-clause-live g c t reach k =
    live_esusp t reach c.args.frames.now.flat c.pop-x.new.self.flat c.suspend.new.self.flat c.pop-x.result c.pop-x.ensures.flat c.in_ok-suspend.ensures.ok k
