use Rattle.std.proofs.Common.{sym, ◌∙◌, subst}
use Rattle.icn_frames.specs.Stacks.{FlatStack}
use Rattle.icn_control.specs.LiveStacks.{IsLiveStack}
use Rattle.icn_control.proofs.LiveCalls.{live_push}
use Rattle.icn_control.proofs.LiveSets.{live_below}
use Rattle.icn_control.proofs.StackSteps.{below_runs}
use Rattle.icn_control.proofs.PlainValueSteps.{plain_below}
use Rattle.icn_control.proofs.on_stack.push_below.Goals as goal

pub returns-then-is_plain_operand-clause-step : goal.returns-then-is_plain_operand-clause-step
returns-then-is_plain_operand-clause-step g c =
    let m = c.args.frames.now.flat in
    let there = plain_below m c.below_slot-slot.result c.requires.operand (sym c.is_plain_operand.ensures ∙ c.if-is_plain_operand.true)
    c.below_slot-slot.ensures in
    below_runs m c.push_plain.new.self.flat there.item there.is (c.in_ok-push_plain.ensures.ok there.item there.tells)

pub returns-then-is_plain_operand-clause-live : goal.returns-then-is_plain_operand-clause-live
returns-then-is_plain_operand-clause-live g c t reach k =
    let m = c.args.frames.now.flat in
    let there = plain_below m c.below_slot-slot.result c.requires.operand (sym c.is_plain_operand.ensures ∙ c.if-is_plain_operand.true)
    c.below_slot-slot.ensures in
    subst (λ (x : FlatStack). IsLiveStack t reach x) (sym (c.in_ok-push_plain.ensures.ok there.item there.tells))
    (live_push t reach m there.item k (live_below t reach m there.item there.is c.requires.mark k))

pub returns-clause-step : goal.returns-clause-step
returns-clause-step g c = below_runs c.args.frames.now.flat c.push.new.self.flat c.below-x.result c.below-x.ensures c.in_ok-push.ensures.ok

pub returns-clause-live : goal.returns-clause-live
returns-clause-live g c t reach k =
    subst (λ (m : FlatStack). IsLiveStack t reach m) (sym c.in_ok-push.ensures.ok)
    (live_push t reach c.args.frames.now.flat c.below-x.result k
    (live_below t reach c.args.frames.now.flat c.below-x.result c.below-x.ensures c.requires.mark k))
