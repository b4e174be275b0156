use Rattle.std.proofs.Common.{◌≡◌, false, Option, Some, IfSome, IsSome, sym, ap, ◌∙◌, subst, arith}
use Rattle.icn_value.specs.declared.item.Item.{Item}
use Rattle.icn_frames.specs.Stacks.{FlatStack, at_base, count_down, pop}
use Rattle.icn_control.proofs.LiveSets.{live_more, live_last_result}
use Rattle.icn_control.proofs.StackSteps.{counted_base, lsusp_last, lsusp_more, plain_top}
use Rattle.icn_control.proofs.on_stack.give_limited_plain.Goals as goal

pub count_down-requires : goal.count_down-requires
count_down-requires g c =
    let m = c.args.frames.now.flat in
    let top = plain_top m c.args.slot c.requires.operand c.requires.plain c.requires.told in
    let there : IsSome (count_down top.rest)
    = subst (λ (o : Option (Item × FlatStack)). IfSome o (λ popped. IsSome (count_down popped.1))) top.pops c.requires.count in
    subst (λ (x : FlatStack). IsSome (count_down x)) (sym (c.drop_top.ensures.flat top.item top.rest top.pops)) there

pub suspend_mark_plain-requires-clause-goes_on : goal.suspend_mark_plain-requires-clause-goes_on
suspend_mark_plain-requires-clause-goes_on g c =
    let m = c.args.frames.now.flat in
    let top = plain_top m c.args.slot c.requires.operand c.requires.plain c.requires.told in
    let there : at_base top.rest ≡ false
    = subst (λ (o : Option (Item × FlatStack)). IfSome o (λ popped. at_base popped.1 ≡ false)) top.pops c.requires.mark in
    counted_base c.drop_top.new.self.flat c.count_down.new.self.flat c.count_down.result c.count_down.ensures.flat
    ∙ subst (λ (x : FlatStack). at_base x ≡ false) (sym (c.drop_top.ensures.flat top.item top.rest top.pops)) there

pub returns-then-count_down-gt0-clause-step : goal.returns-then-count_down-gt0-clause-step
returns-then-count_down-gt0-clause-step g c =
    let m = c.args.frames.now.flat in
    let top = plain_top m c.args.slot c.requires.operand c.requires.plain c.requires.told in
    let F : FlatStack → Option (Item × FlatStack) = λ x. Some (top.item, x) in
    let pops : pop m ≡ Some (top.item, c.drop_top.new.self.flat) = top.pops ∙ ap F (sym (c.drop_top.ensures.flat top.item top.rest top.pops)) in
    lsusp_more m c.drop_top.new.self.flat c.count_down.new.self.flat c.suspend_mark_plain.new.self.flat top.item c.count_down.result pops
    c.count_down.ensures.flat c.if-count_down-gt0.true (c.in_ok-suspend_mark_plain.ensures.ok top.item top.tells)

pub returns-then-count_down-gt0-clause-live : goal.returns-then-count_down-gt0-clause-live
returns-then-count_down-gt0-clause-live g c t reach k =
    let m = c.args.frames.now.flat in
    let top = plain_top m c.args.slot c.requires.operand c.requires.plain c.requires.told in
    let F : FlatStack → Option (Item × FlatStack) = λ x. Some (top.item, x) in
    let pops : pop m ≡ Some (top.item, c.drop_top.new.self.flat) = top.pops ∙ ap F (sym (c.drop_top.ensures.flat top.item top.rest top.pops)) in
    live_more t reach m c.drop_top.new.self.flat c.count_down.new.self.flat c.suspend_mark_plain.new.self.flat top.item c.count_down.result pops
    c.count_down.ensures.flat c.if-count_down-gt0.true (c.in_ok-suspend_mark_plain.ensures.ok top.item top.tells) k

pub unmark-pair-requires : goal.unmark-pair-requires
unmark-pair-requires g c =
    let m = c.args.frames.now.flat in
    let top = plain_top m c.args.slot c.requires.operand c.requires.plain c.requires.told in
    let there : at_base top.rest ≡ false
    = subst (λ (o : Option (Item × FlatStack)). IfSome o (λ popped. at_base popped.1 ≡ false)) top.pops c.requires.mark in
    counted_base c.drop_top.new.self.flat c.count_down.new.self.flat c.count_down.result c.count_down.ensures.flat
    ∙ subst (λ (x : FlatStack). at_base x ≡ false) (sym (c.drop_top.ensures.flat top.item top.rest top.pops)) there

pub returns-clause-step : goal.returns-clause-step
returns-clause-step g c =
    let m = c.args.frames.now.flat in
    let top = plain_top m c.args.slot c.requires.operand c.requires.plain c.requires.told in
    let F : FlatStack → Option (Item × FlatStack) = λ x. Some (top.item, x) in
    let pops : pop m ≡ Some (top.item, c.drop_top.new.self.flat) = top.pops ∙ ap F (sym (c.drop_top.ensures.flat top.item top.rest top.pops)) in
    let zero_is : c.count_down.result ≡ 0 = omega (arith, c.if-count_down-gt0.false) in
    lsusp_last m c.drop_top.new.self.flat c.count_down.new.self.flat c.unmark-pair.new.self.flat c.push_plain.new.self.flat top.item c.count_down.result
    c.unmark-pair.result pops c.count_down.ensures.flat zero_is c.unmark-pair.ensures.flat (c.in_ok-push_plain.ensures.ok top.item top.tells)

pub returns-clause-live : goal.returns-clause-live
returns-clause-live g c t reach k =
    let m = c.args.frames.now.flat in
    let top = plain_top m c.args.slot c.requires.operand c.requires.plain c.requires.told in
    let F : FlatStack → Option (Item × FlatStack) = λ x. Some (top.item, x) in
    let pops : pop m ≡ Some (top.item, c.drop_top.new.self.flat) = top.pops ∙ ap F (sym (c.drop_top.ensures.flat top.item top.rest top.pops)) in
    (live_last_result t reach m c.drop_top.new.self.flat c.count_down.new.self.flat c.unmark-pair.new.self.flat c.push_plain.new.self.flat top.item
    c.count_down.result c.unmark-pair.result pops c.count_down.ensures.flat c.unmark-pair.ensures.flat
    (c.in_ok-push_plain.ensures.ok top.item top.tells) k).rest

pub returns-clause-pair : goal.returns-clause-pair
returns-clause-pair g c t reach k =
    let m = c.args.frames.now.flat in
    let top = plain_top m c.args.slot c.requires.operand c.requires.plain c.requires.told in
    let F : FlatStack → Option (Item × FlatStack) = λ x. Some (top.item, x) in
    let pops : pop m ≡ Some (top.item, c.drop_top.new.self.flat) = top.pops ∙ ap F (sym (c.drop_top.ensures.flat top.item top.rest top.pops)) in
    (live_last_result t reach m c.drop_top.new.self.flat c.count_down.new.self.flat c.unmark-pair.new.self.flat c.push_plain.new.self.flat top.item
    c.count_down.result c.unmark-pair.result pops c.count_down.ensures.flat c.unmark-pair.ensures.flat
    (c.in_ok-push_plain.ensures.ok top.item top.tells) k).pair_live
