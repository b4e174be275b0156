use Rattle.std.proofs.Common.{refl, sym, subst}
use Rattle.icn_frames.specs.Stacks.{FlatStack}
use Rattle.icn_control.specs.LiveStacks.{IsLiveStack}
use Rattle.icn_control.proofs.LiveCalls.{live_push, null_live}
use Rattle.icn_control.proofs.StackSteps.{null_runs}
use Rattle.icn_control.proofs.on_stack.push_null.Goals as goal

pub returns-clause-step : goal.returns-clause-step
returns-clause-step g c = null_runs c.args.frames.now.flat c.push_plain.new.self.flat (c.in_ok-push_plain.ensures.ok _ refl)

pub returns-clause-live : goal.returns-clause-live
returns-clause-live g c t reach k =
    subst (λ (m : FlatStack). IsLiveStack t reach m) (sym (c.in_ok-push_plain.ensures.ok _ refl)) (live_push t reach c.args.frames.now.flat _ k null_live)
