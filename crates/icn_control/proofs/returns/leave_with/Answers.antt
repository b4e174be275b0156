use Rattle.std.proofs.Common.{[], Option, None, refl, sym, ◌∙◌, subst}
use Rattle.icn_value.specs.declared.item.Item.TheVariants as Items
use Rattle.icn_value.specs.declared.item.Pair.{Pair}
use Rattle.icn_heap.specs.Heaps.{extent_of}
use Rattle.icn_vars.specs.Worlds.{Reach, reach_of}
use Rattle.icn_frames.specs.Stacks.{oldest}
use Rattle.icn_control.specs.LiveStacks.{IsLiveStack, MaybeLivePair}
use Rattle.icn_control.proofs.LiveCells.{live_pair_at}
use Rattle.icn_control.proofs.LiveCalls.{own_locals}
use Rattle.icn_control.proofs.LiveFrames.{live_leave}
use Rattle.icn_control.proofs.PlainValueSteps.{result_found}
use Rattle.icn_control.proofs.ReturnSteps.{given_free, pret_over, pret_runs}
use Rattle.icn_control.proofs.returns.leave_with.Goals as goal

pub restore_pair-requires : goal.restore_pair-requires
restore_pair-requires g c =
    let w = c.args.world.now in
    let k = c.args.frames.now.flat in
    let t = c.requires.live.0 in
    subst (λ (p : Option Pair). MaybeLivePair (extent_of w.heap) p) (sym c.oldest_pair-pair.ensures)
    (live_pair_at t (reach_of w []) (own_locals k) k.cells (oldest None k) c.requires.live.1.cells)

pub returns-then-is_base-clause-step : goal.returns-then-is_base-clause-step
returns-then-is_base-clause-step g c m takes =
    let w = c.args.world.now in
    let k = c.args.frames.now.flat in
    pret_over w c.restore_pair.new.world m k k takes.item (Items.Val takes.is) c.oldest_pair-pair.result takes.pops
    (result_found w k takes.item takes.is takes.holds) refl c.oldest_pair-pair.ensures c.restore_pair.ensures.world
    (sym c.is_base.ensures ∙ c.if-is_base.true)

pub returns-then-is_base-clause-live : goal.returns-then-is_base-clause-live
returns-then-is_base-clause-live g c t v e live k =
    subst (λ (r : Reach). IsLiveStack t r c.args.frames.now.flat) (sym c.restore_pair.ensures.same.reach) k

pub returns-clause-step : goal.returns-clause-step
returns-clause-step g c m takes =
    let w = c.args.world.now in
    let k = c.args.frames.now.flat in
    pret_runs w c.restore_pair.new.world m k k c.leave.new.self.flat c.put_slot.new.frames.flat takes.item (Items.Val takes.is)
    c.oldest_pair-pair.result takes.pops (result_found w k takes.item takes.is takes.holds) refl c.oldest_pair-pair.ensures
    c.restore_pair.ensures.world c.restore_pair.ensures.same.heap c.leave.ensures.flat (c.put_slot.ensures.flat (Items.Val takes.is) takes.gives)

pub returns-clause-live : goal.returns-clause-live
returns-clause-live g c t v e live k =
    let reach : Reach = reach_of c.args.world.now [] in
    let out : IsLiveStack t reach c.leave.new.self.flat
    = live_leave t reach c.args.frames.now.flat c.leave.new.self.flat c.leave.ensures.flat k in
    subst (λ (r : Reach). IsLiveStack t r c.put_slot.new.frames.flat) (sym c.restore_pair.ensures.same.reach)
    (given_free t reach c.leave.new.self.flat c.put_slot.new.frames.flat (Items.Val v) (c.put_slot.ensures.flat (Items.Val v) e) out
    (λ n. record { live = live }))
