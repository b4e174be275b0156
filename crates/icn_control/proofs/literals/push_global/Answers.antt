use Rattle.std.proofs.Common.{refl, sym, subst}
use Rattle.icn_frames.specs.Stacks.{FlatStack}
use Rattle.icn_control.specs.LiveStacks.{IsLiveStack}
use Rattle.icn_control.proofs.LiveCalls.{live_push}
use Rattle.icn_control.proofs.StackSteps.{global_runs}
use Rattle.icn_control.proofs.literals.push_global.Goals as goal

pub returns-clause-step : goal.returns-clause-step
returns-clause-step g c = global_runs c.args.frames.now.flat c.push_plain.new.self.flat c.args.index (c.in_ok-push_plain.ensures.ok _ refl)

pub returns-clause-live : goal.returns-clause-live
returns-clause-live g c t reach within k =
    subst (λ (m : FlatStack). IsLiveStack t reach m) (sym (c.in_ok-push_plain.ensures.ok _ refl))
    (live_push t reach c.args.frames.now.flat _ k (record { live = record { live = record { live = within } } }))
