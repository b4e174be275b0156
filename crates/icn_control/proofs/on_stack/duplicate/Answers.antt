use Rattle.std.proofs.Common.{◌≡◌, Some, IsSome, sym, ap, ◌∙◌, subst}
use Rattle.icn_frames.specs.Stacks.{FlatStack, pop, push}
use Rattle.icn_control.specs.LiveStacks.{IsLiveStack}
use Rattle.icn_control.proofs.LiveCalls.{live_once_more, live_twice}
use Rattle.icn_control.proofs.StackSteps.{plain_top, twice_runs}
use Rattle.icn_control.proofs.on_stack.duplicate.Goals as goal

pub returns-then-is_plain_operand-clause-step : goal.returns-then-is_plain_operand-clause-step
returns-then-is_plain_operand-clause-step g c =
    let m = c.args.frames.now.flat in
    let k = c.reserve.new.self.flat in
    let there : IsSome (pop k) = subst (λ (x : FlatStack). IsSome (pop x)) (sym c.reserve.ensures.flat) c.requires in
    let top = plain_top k c.top-slot.result there (sym c.is_plain_operand.ensures ∙ c.if-is_plain_operand.true) c.top-slot.ensures in
    let pops : pop m ≡ Some (top.item, top.rest)
    = subst (λ (x : FlatStack). pop x ≡ Some (top.item, top.rest)) c.reserve.ensures.flat top.pops in
    twice_runs m top.rest c.put_slot.new.frames.flat top.item pops
    (c.put_slot.ensures.flat top.item top.tells ∙ ap (push top.item) c.reserve.ensures.flat)

pub returns-then-is_plain_operand-clause-live : goal.returns-then-is_plain_operand-clause-live
returns-then-is_plain_operand-clause-live g c t reach live =
    let m = c.args.frames.now.flat in
    let k = c.reserve.new.self.flat in
    let there : IsSome (pop k) = subst (λ (x : FlatStack). IsSome (pop x)) (sym c.reserve.ensures.flat) c.requires in
    let top = plain_top k c.top-slot.result there (sym c.is_plain_operand.ensures ∙ c.if-is_plain_operand.true) c.top-slot.ensures in
    let pops : pop m ≡ Some (top.item, top.rest)
    = subst (λ (x : FlatStack). pop x ≡ Some (top.item, top.rest)) c.reserve.ensures.flat top.pops in
    live_once_more t reach m top.rest c.put_slot.new.frames.flat top.item pops
    (c.put_slot.ensures.flat top.item top.tells ∙ ap (push top.item) c.reserve.ensures.flat) live

pub returns-clause-live : goal.returns-clause-live
returns-clause-live g c t reach k =
    let before : IsLiveStack t reach c.reserve.new.self.flat = subst (λ (m : FlatStack). IsLiveStack t reach m) (sym c.reserve.ensures.flat) k in
    live_twice t reach c.reserve.new.self.flat c.pop-x.new.self.flat c.put.new.frames.flat c.put-2.new.frames.flat c.pop-x.result c.pop-x.ensures.flat
    c.put.ensures.flat c.put-2.ensures.flat before
