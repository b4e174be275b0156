use Rattle.std.proofs.Common.{[], sym, subst}
use Rattle.icn_heap.specs.Heaps.{extent_of}
use Rattle.icn_value.specs.declared.item.Item.TheVariants as Items
use Rattle.icn_vars.specs.Worlds.{IsLiveItem, Reach, reach_of}
use Rattle.icn_frames.specs.Stacks.{FlatStack}
use Rattle.icn_control.specs.LiveStacks.{IsLiveStack, with_locals}
use Rattle.icn_control.proofs.LiveCalls.{live_push, live_unmark, own_locals}
use Rattle.icn_control.proofs.PlainValueSteps.{value_found}
use Rattle.icn_control.proofs.StackAndWorldSteps.{eret_runs}
use Rattle.icn_instructions.proofs.eret.give_value_out.Goals as goal

pub restore_pair-requires : goal.restore_pair-requires
restore_pair-requires g c =
    (live_unmark c.requires.live.0 (reach_of c.args.world.now []) c.args.frames.now.flat c.unmark-pair.new.self.flat c.unmark-pair.result
    c.unmark-pair.ensures.flat c.requires.live.1).pair_live

pub returns-clause-step : goal.returns-clause-step
returns-clause-step g c m takes =
    let w = c.args.world.now in
    let k = c.args.frames.now.flat in
    eret_runs w c.restore_pair.new.world m k c.unmark-pair.new.self.flat c.put_slot.new.frames.flat takes.item takes.is c.unmark-pair.result takes.pops
    (λ st same. value_found (extent_of w.heap) k st takes.item takes.is takes.holds) c.unmark-pair.ensures.flat
    c.restore_pair.ensures.same.heap c.restore_pair.ensures.world (c.put_slot.ensures.flat (Items.Val takes.is) takes.gives)

pub returns-clause-live : goal.returns-clause-live
returns-clause-live g c t v e live k =
    let reach : Reach = reach_of c.args.world.now [] in
    let o = c.unmark-pair.new.self.flat in
    let left = live_unmark t reach c.args.frames.now.flat o c.unmark-pair.result c.unmark-pair.ensures.flat k in
    let val : IsLiveItem (with_locals (own_locals o) reach) (Items.Val v) = record { live = live } in
    let on : IsLiveStack t reach c.put_slot.new.frames.flat
    = subst (λ (x : FlatStack). IsLiveStack t reach x) (sym (c.put_slot.ensures.flat (Items.Val v) e)) (live_push t reach o (Items.Val v) left.rest val) in
    subst (λ (r : Reach). IsLiveStack t r c.put_slot.new.frames.flat) (sym c.restore_pair.ensures.same.reach) on
