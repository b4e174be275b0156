use Rattle.std.proofs.Common.{[], Option, None, sym, ◌∙◌, subst}
use Rattle.icn_value.specs.declared.item.Pair.{Pair}
use Rattle.icn_heap.specs.Heaps.{extent_of}
use Rattle.icn_vars.specs.Worlds.{Reach, reach_of}
use Rattle.icn_frames.specs.Stacks.{FlatStack, oldest}
use Rattle.icn_control.specs.LiveStacks.{IsLiveStack, MaybeLivePair}
use Rattle.icn_control.proofs.LiveCells.{live_pair_at}
use Rattle.icn_control.proofs.LiveCalls.{own_locals}
use Rattle.icn_control.proofs.LiveFrames.{live_leave}
use Rattle.icn_control.proofs.ReturnSteps.{fails_over, fails_on}
use Rattle.icn_control.proofs.returns.leave_failing.Goals as goal

pub restore_pair-requires : goal.restore_pair-requires
restore_pair-requires g c =
    let m : FlatStack = c.args.frames.now.flat in
    let w = c.args.world.now in
    subst (λ (p : Option Pair). MaybeLivePair (extent_of w.heap) p) (sym c.oldest_pair-pair.ensures)
    (live_pair_at c.requires.live.0 (reach_of w []) (own_locals m) m.cells (oldest None m) c.requires.live.1.cells)

pub returns-then-is_base-clause-step : goal.returns-then-is_base-clause-step
returns-then-is_base-clause-step g c st same =
    fails_over c.args.world.now c.restore_pair.new.world c.args.frames.now.flat c.oldest_pair-pair.result c.oldest_pair-pair.ensures
    c.restore_pair.ensures.world (sym c.is_base.ensures ∙ c.if-is_base.true) st same

pub returns-clause-step : goal.returns-clause-step
returns-clause-step g c st same =
    fails_on c.args.world.now c.restore_pair.new.world c.args.frames.now.flat c.leave.new.self.flat c.oldest_pair-pair.result c.oldest_pair-pair.ensures
    c.restore_pair.ensures.world c.restore_pair.ensures.same.heap c.leave.ensures.flat st same

pub returns-clause-live : goal.returns-clause-live
returns-clause-live g c t k =
    subst (λ (r : Reach). IsLiveStack t r c.leave.new.self.flat) (sym c.restore_pair.ensures.same.reach)
    (live_leave t (reach_of c.args.world.now []) c.args.frames.now.flat c.leave.new.self.flat c.leave.ensures.flat k)
