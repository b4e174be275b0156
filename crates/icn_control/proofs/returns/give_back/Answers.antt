use Rattle.std.proofs.Common.{[], Option, None, sym, ◌∙◌, subst}
use Rattle.icn_value.specs.declared.item.Pair.{Pair}
use Rattle.icn_heap.specs.Heaps.{extent_of}
use Rattle.icn_vars.specs.Worlds.{Reach, reach_of}
use Rattle.icn_frames.specs.Stacks.{FlatStack, oldest}
use Rattle.icn_control.specs.LiveStacks.{IsLiveStack, MaybeLivePair}
use Rattle.icn_control.proofs.LiveCells.{live_pair_at}
use Rattle.icn_control.proofs.LiveCalls.{own_locals, live_pop}
use Rattle.icn_control.proofs.LiveFrames.{live_leave}
use Rattle.icn_control.proofs.ReturnSteps.{pret_err, pret_over, pret_runs, given_free}
use Rattle.icn_control.proofs.Halts.{unless_ended}
use Rattle.icn_control.proofs.returns.give_back.Goals as goal

pub returns-in_err-r-clause-step : goal.returns-in_err-r-clause-step
returns-in_err-r-clause-step g c =
    pret_err c.from_residual.result c.args.world.now c.args.frames.now.flat c.pop-x.new.self.flat c.result_of.new.frames.flat c.pop-x.result
    c.in_err-r.field-0.0 c.from_residual.ensures.1 c.pop-x.ensures.flat c.result_of.ensures.same c.in_err-r.ensures.value

pub returns-in_err-r-clause-live : goal.returns-in_err-r-clause-live
returns-in_err-r-clause-live g c t k =
    unless_ended c.from_residual.result (IsLiveStack t (reach_of c.args.world.now []) c.result_of.new.frames.flat)
    (subst (λ (x : FlatStack). IsLiveStack t (reach_of c.args.world.now []) x) (sym c.result_of.ensures.same)
    (live_pop t (reach_of c.args.world.now []) c.args.frames.now.flat c.pop-x.new.self.flat c.pop-x.result c.pop-x.ensures.flat k).rest)

pub restore_pair-requires : goal.restore_pair-requires
restore_pair-requires g c =
    let w = c.args.world.now in
    let l : FlatStack = c.result_of.new.frames.flat in
    let t = c.requires.live.0 in
    let rest = (live_pop t (reach_of w []) c.args.frames.now.flat c.pop-x.new.self.flat c.pop-x.result c.pop-x.ensures.flat c.requires.live.1).rest in
    let live : IsLiveStack t (reach_of w []) l = subst (λ (x : FlatStack). IsLiveStack t (reach_of w []) x) (sym c.result_of.ensures.same) rest in
    subst (λ (p : Option Pair). MaybeLivePair (extent_of w.heap) p) (sym c.oldest_pair-pair.ensures)
    (live_pair_at t (reach_of w []) (own_locals l) l.cells (oldest None l) live.cells)

pub returns-then-is_base-clause-step : goal.returns-then-is_base-clause-step
returns-then-is_base-clause-step g c =
    pret_over c.args.world.now c.restore_pair.new.world c.args.frames.now.flat c.pop-x.new.self.flat c.result_of.new.frames.flat c.pop-x.result c.in_ok-r.r
    c.oldest_pair-pair.result c.pop-x.ensures.flat c.in_ok-r.ensures.value
    c.result_of.ensures.same c.oldest_pair-pair.ensures c.restore_pair.ensures.world (sym c.is_base.ensures ∙ c.if-is_base.true)

pub returns-clause-step : goal.returns-clause-step
returns-clause-step g c =
    pret_runs c.args.world.now c.restore_pair.new.world c.args.frames.now.flat c.pop-x.new.self.flat c.result_of.new.frames.flat c.leave.new.self.flat
    c.put.new.frames.flat c.pop-x.result c.in_ok-r.r c.oldest_pair-pair.result
    c.pop-x.ensures.flat c.in_ok-r.ensures.value c.result_of.ensures.same c.oldest_pair-pair.ensures c.restore_pair.ensures.world
    c.restore_pair.ensures.same.heap
    c.leave.ensures.flat c.put.ensures.flat

pub returns-clause-live : goal.returns-clause-live
returns-clause-live g c t k =
    let reach : Reach = reach_of c.args.world.now [] in
    let rest = (live_pop t reach c.args.frames.now.flat c.pop-x.new.self.flat c.pop-x.result c.pop-x.ensures.flat k).rest in
    let live : IsLiveStack t reach c.result_of.new.frames.flat = subst (λ (x : FlatStack). IsLiveStack t reach x) (sym c.result_of.ensures.same) rest in
    let out : IsLiveStack t reach c.leave.new.self.flat = live_leave t reach c.result_of.new.frames.flat c.leave.new.self.flat c.leave.ensures.flat live in
    subst (λ (r : Reach). IsLiveStack t r c.put.new.frames.flat) (sym c.restore_pair.ensures.same.reach)
    (given_free t reach c.leave.new.self.flat c.put.new.frames.flat c.in_ok-r.r c.put.ensures.flat out c.in_ok-r.ensures.live)
