use Rattle.std.proofs.Common.{◌≡◌, [], sym, ◌∙◌, subst}
use Rattle.icn_vars.specs.Worlds.{Reach, reach_of}
use Rattle.icn_frames.specs.Stacks.{FlatStack}
use Rattle.icn_control.specs.LiveStacks.{IsLiveStack}
use Rattle.icn_control.proofs.StackSteps.{pushed_back}
use Rattle.icn_control.proofs.ReturnSteps.{psusp_err, psusp_over, psusp_runs, suspended_free}
use Rattle.icn_control.proofs.Halts.{unless_ended}
use Rattle.icn_control.proofs.returns.suspend_with.Goals as goal

pub returns-in_err-r-clause-step : goal.returns-in_err-r-clause-step
returns-in_err-r-clause-step g c =
    psusp_err c.from_residual.result c.args.world.now c.args.frames.now.flat c.pop-x.new.self.flat c.put.new.frames.flat c.result_of.new.frames.flat
    c.pop-x.result c.in_err-r.field-0.0 c.from_residual.ensures.1 c.pop-x.ensures.flat
    c.put.ensures.flat c.result_of.ensures.same c.in_err-r.ensures.value

pub returns-in_err-r-clause-live : goal.returns-in_err-r-clause-live
returns-in_err-r-clause-live g c t k =
    let back : c.result_of.new.frames.flat ≡ c.args.frames.now.flat
    = c.result_of.ensures.same ∙ c.put.ensures.flat ∙ pushed_back c.args.frames.now.flat c.pop-x.new.self.flat c.pop-x.result c.pop-x.ensures.flat in
    unless_ended c.from_residual.result (IsLiveStack t (reach_of c.args.world.now []) c.result_of.new.frames.flat)
    (subst (λ (x : FlatStack). IsLiveStack t (reach_of c.args.world.now []) x) (sym back) k)

pub returns-then-is_base-clause-step : goal.returns-then-is_base-clause-step
returns-then-is_base-clause-step g c =
    psusp_over c.args.world.now c.swap_if_scanning.new.world c.args.frames.now.flat c.pop-x.new.self.flat c.put.new.frames.flat c.result_of.new.frames.flat
    c.swap_if_scanning.new.frames.flat c.pop-x.result c.in_ok-r.r
    c.pop-x.ensures.flat c.put.ensures.flat c.in_ok-r.ensures.value c.result_of.ensures.same c.swap_if_scanning.ensures.step
    c.swap_if_scanning.ensures.same.heap
    (sym c.is_base.ensures ∙ c.if-is_base.true)

pub returns-then-is_base-clause-live : goal.returns-then-is_base-clause-live
returns-then-is_base-clause-live g c t k =
    let back : c.result_of.new.frames.flat ≡ c.args.frames.now.flat
    = c.result_of.ensures.same ∙ c.put.ensures.flat ∙ pushed_back c.args.frames.now.flat c.pop-x.new.self.flat c.pop-x.result c.pop-x.ensures.flat in
    c.swap_if_scanning.ensures.live t (subst (λ (x : FlatStack). IsLiveStack t (reach_of c.args.world.now []) x) (sym back) k)

pub returns-in-Ok-clause-step : goal.returns-in-Ok-clause-step
returns-in-Ok-clause-step g c =
    psusp_runs c.args.world.now c.swap_if_scanning.new.world c.args.frames.now.flat c.pop-x.new.self.flat c.put.new.frames.flat c.result_of.new.frames.flat
    c.swap_if_scanning.new.frames.flat c.suspend.new.self.flat c.pop-x.result
    c.in_ok-r.r c.pop-x.ensures.flat c.put.ensures.flat c.in_ok-r.ensures.value c.result_of.ensures.same c.swap_if_scanning.ensures.step
    c.swap_if_scanning.ensures.same.heap c.in-Ok.ensures.ok

pub returns-in-Ok-clause-live : goal.returns-in-Ok-clause-live
returns-in-Ok-clause-live g c t k =
    let back : c.result_of.new.frames.flat ≡ c.args.frames.now.flat
    = c.result_of.ensures.same ∙ c.put.ensures.flat ∙ pushed_back c.args.frames.now.flat c.pop-x.new.self.flat c.pop-x.result c.pop-x.ensures.flat in
    let live = c.swap_if_scanning.ensures.live t (subst (λ (x : FlatStack). IsLiveStack t (reach_of c.args.world.now []) x) (sym back) k) in
    subst (λ (r : Reach). IsLiveStack t r c.suspend.new.self.flat) (sym c.swap_if_scanning.ensures.same.reach)
    (suspended_free t (reach_of c.args.world.now []) c.swap_if_scanning.new.frames.flat c.suspend.new.self.flat c.in_ok-r.r c.in-Ok.ensures.ok
    (subst (λ (r : Reach). IsLiveStack t r c.swap_if_scanning.new.frames.flat) c.swap_if_scanning.ensures.same.reach live) c.in_ok-r.ensures.live)
