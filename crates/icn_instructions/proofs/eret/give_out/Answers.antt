use Rattle.std.proofs.Common.{◌≡◌, false, [], sym, ap, ◌∙◌, subst}
use Rattle.icn_heap.specs.Heaps.{extent_of}
use Rattle.icn_value.specs.declared.item.Item.TheVariants.{Val as HeldVal}
use Rattle.icn_vars.specs.Worlds.{Reach, IsLiveItem, reach_of}
use Rattle.icn_frames.specs.Stacks.{FlatStack, at_base, unmark}
use Rattle.icn_control.specs.LiveStacks.{IsLiveStack, with_locals}
use Rattle.icn_control.proofs.Halts.{unless_ended}
use Rattle.icn_control.proofs.LiveCalls.{own_locals, live_pop, live_unmark, live_push}
use Rattle.icn_control.proofs.StackAndWorldSteps.{eret_runs, eret_err}
use Rattle.icn_instructions.proofs.LackSteps.{eret_operand, eret_mark}
use Rattle.icn_instructions.proofs.eret.give_out.Goals as goal

pub pop-x-requires : goal.pop-x-requires
pop-x-requires g c =
    let asked = c.requires.goes_on in
    eret_operand (extent_of c.args.world.now.heap) asked.0 c.args.frames.now.flat asked.1.0 asked.1.1.1

pub value_of-requires-clause-stack : goal.value_of-requires-clause-stack
value_of-requires-clause-stack g c =
    let t = c.requires.live.0 in
    (t, (live_pop t (reach_of c.args.world.now []) c.args.frames.now.flat c.pop-x.new.self.flat c.pop-x.result c.pop-x.ensures.flat c.requires.live.1).rest)

pub value_of-requires-clause-item : goal.value_of-requires-clause-item
value_of-requires-clause-item g c =
    (live_pop c.requires.live.0 (reach_of c.args.world.now []) c.args.frames.now.flat c.pop-x.new.self.flat c.pop-x.result c.pop-x.ensures.flat
    c.requires.live.1).item_live

pub returns-in_err-v-clause-step : goal.returns-in_err-v-clause-step
returns-in_err-v-clause-step g c =
    eret_err c.from_residual.result c.args.world.now c.args.frames.now.flat c.pop-x.new.self.flat c.value_of.new.frames.flat c.pop-x.result
    c.in_err-v.field-0.0 c.from_residual.ensures.1 c.pop-x.ensures.flat c.value_of.ensures.same c.in_err-v.ensures.value

pub returns-in_err-v-clause-live : goal.returns-in_err-v-clause-live
returns-in_err-v-clause-live g c t k =
    unless_ended c.from_residual.result (IsLiveStack t (reach_of c.args.world.now []) c.value_of.new.frames.flat)
    (subst (λ (x : FlatStack). IsLiveStack t (reach_of c.args.world.now []) x) (sym c.value_of.ensures.same)
    (live_pop t (reach_of c.args.world.now []) c.args.frames.now.flat c.pop-x.new.self.flat c.pop-x.result c.pop-x.ensures.flat k).rest)

pub unmark-pair-requires : goal.unmark-pair-requires
unmark-pair-requires g c =
    let w = c.args.world.now in
    let asked = c.requires.goes_on in
    subst (λ (x : FlatStack). at_base x ≡ false) (sym c.value_of.ensures.same)
    (eret_mark w asked.0 c.requires.live.0
    (reach_of w []) c.args.frames.now.flat c.pop-x.new.self.flat c.pop-x.result c.in_ok-v.v asked.1.0 c.pop-x.ensures.flat c.requires.live.1
    (c.in_ok-v.ensures.value asked.1.0 asked.1.1.0) asked.1.1.1)

pub restore_pair-requires : goal.restore_pair-requires
restore_pair-requires g c =
    let w = c.args.world.now in
    let t = c.requires.live.0 in
    let popped = live_pop t (reach_of w []) c.args.frames.now.flat c.pop-x.new.self.flat c.pop-x.result c.pop-x.ensures.flat c.requires.live.1 in
    (live_unmark t (reach_of w []) c.pop-x.new.self.flat c.unmark-pair.new.self.flat c.unmark-pair.result
    (ap unmark (sym c.value_of.ensures.same) ∙ c.unmark-pair.ensures.flat) popped.rest).pair_live

pub returns-clause-step : goal.returns-clause-step
returns-clause-step g c =
    eret_runs c.args.world.now c.restore_pair.new.world c.args.frames.now.flat c.pop-x.new.self.flat c.unmark-pair.new.self.flat c.put.new.frames.flat
    c.pop-x.result c.in_ok-v.v c.unmark-pair.result c.pop-x.ensures.flat
    c.in_ok-v.ensures.value (ap unmark (sym c.value_of.ensures.same) ∙ c.unmark-pair.ensures.flat) c.restore_pair.ensures.same.heap c.restore_pair.ensures.world
    c.put.ensures.flat

pub returns-clause-live : goal.returns-clause-live
returns-clause-live g c t k =
    let w = c.args.world.now in
    let reach : Reach = reach_of w [] in
    let popped = live_pop t reach c.args.frames.now.flat c.pop-x.new.self.flat c.pop-x.result c.pop-x.ensures.flat k in
    let left = live_unmark t reach c.pop-x.new.self.flat c.unmark-pair.new.self.flat c.unmark-pair.result
    (ap unmark (sym c.value_of.ensures.same) ∙ c.unmark-pair.ensures.flat) popped.rest in
    let val : IsLiveItem (with_locals (own_locals c.unmark-pair.new.self.flat) reach) (HeldVal c.in_ok-v.v) = record { live = c.in_ok-v.ensures.live } in
    let on : IsLiveStack t reach c.put.new.frames.flat
    = subst (λ (x : FlatStack). IsLiveStack t reach x) (sym c.put.ensures.flat)
    (live_push t reach c.unmark-pair.new.self.flat (HeldVal c.in_ok-v.v) left.rest val) in
    subst (λ (r : Reach). IsLiveStack t r c.put.new.frames.flat) (sym c.restore_pair.ensures.same.reach) on
