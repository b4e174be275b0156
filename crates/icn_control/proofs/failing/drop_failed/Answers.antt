use Rattle.std.proofs.Common.{sym, ◌∙◌, subst}
use Rattle.icn_frames.specs.Stacks.{FlatStack}
use Rattle.icn_control.specs.LiveStacks.{IsLiveStack}
use Rattle.icn_control.proofs.LiveCalls.{live_unmark, live_go}
use Rattle.icn_control.proofs.FailingStackSteps.{drops_leaving, drops_failing, drops_running, drops_beginning}
use Rattle.icn_control.proofs.FewerCells.{unmark_less}
use Rattle.icn_control.proofs.NamedFailing.{goes_falls, repeats_falls, unmark_falls}
use Rattle.icn_control.proofs.failing.drop_failed.Goals as goal

pub returns-then-at_base-clause-step : goal.returns-then-at_base-clause-step
returns-then-at_base-clause-step g c = drops_leaving c.args.frames.now.flat (sym c.at_base.ensures.drops ∙ c.if-at_base.true)

pub returns-in-None-clause-step : goal.returns-in-None-clause-step
returns-in-None-clause-step g c =
    drops_failing c.args.frames.now.flat c.drop_mark.new.self.flat c.drop_mark.ensures.flat.0 c.label-label.result c.has_new_label-again.result
    c.drop_mark.ensures.flat.1
    c.label-label.ensures c.has_new_label-again.ensures c.in-None.is

pub returns-in-None-clause-live : goal.returns-in-None-clause-live
returns-in-None-clause-live g c t reach k =
    (live_unmark t reach c.args.frames.now.flat c.drop_mark.new.self.flat c.drop_mark.ensures.flat.0 c.drop_mark.ensures.flat.1 k).rest

pub returns-then-again-clause-step : goal.returns-then-again-clause-step
returns-then-again-clause-step g c =
    drops_beginning c.args.frames.now.flat c.drop_mark.new.self.flat c.go.new.self.flat c.drop_mark.ensures.flat.0 c.label-label.result
    c.has_new_label-again.result
    c.in-Some.address c.drop_mark.ensures.flat.1 c.label-label.ensures c.has_new_label-again.ensures
    c.in-Some.is c.if-again.true c.go.ensures.flat

pub returns-then-again-clause-live : goal.returns-then-again-clause-live
returns-then-again-clause-live g c t reach k =
    subst (λ (x : FlatStack). IsLiveStack t reach x) (sym c.go.ensures.flat)
    (live_go t reach c.drop_mark.new.self.flat c.in-Some.address
    (live_unmark t reach c.args.frames.now.flat c.drop_mark.new.self.flat c.drop_mark.ensures.flat.0 c.drop_mark.ensures.flat.1 k).rest)

pub returns-else-again-clause-step : goal.returns-else-again-clause-step
returns-else-again-clause-step g c =
    drops_running c.args.frames.now.flat c.drop_mark.new.self.flat c.go.new.self.flat c.drop_mark.ensures.flat.0 c.label-label.result
    c.has_new_label-again.result
    c.in-Some.address c.drop_mark.ensures.flat.1 c.label-label.ensures c.has_new_label-again.ensures
    c.in-Some.is c.if-again.false c.go.ensures.flat

pub returns-else-again-clause-live : goal.returns-else-again-clause-live
returns-else-again-clause-live g c t reach k =
    subst (λ (x : FlatStack). IsLiveStack t reach x) (sym c.go.ensures.flat)
    (live_go t reach c.drop_mark.new.self.flat c.in-Some.address
    (live_unmark t reach c.args.frames.now.flat c.drop_mark.new.self.flat c.drop_mark.ensures.flat.0 c.drop_mark.ensures.flat.1 k).rest)

pub returns-in-None-clause-less : goal.returns-in-None-clause-less
returns-in-None-clause-less g c = unmark_less c.args.frames.now.flat c.drop_mark.new.self.flat c.drop_mark.ensures.flat.0 c.drop_mark.ensures.flat.1

pub returns-then-at_base-clause-named : goal.returns-then-at_base-clause-named
returns-then-at_base-clause-named g c all names k = (k, tt)

pub returns-in-None-clause-named : goal.returns-in-None-clause-named
returns-in-None-clause-named g c all = unmark_falls all c.args.frames.now.flat c.drop_mark.new.self.flat c.drop_mark.ensures.flat.0 c.drop_mark.ensures.flat.1

pub returns-then-again-clause-named : goal.returns-then-again-clause-named
returns-then-again-clause-named g c all =
    repeats_falls all c.args.frames.now.flat c.drop_mark.new.self.flat c.go.new.self.flat c.drop_mark.ensures.flat.0 c.in-Some.address
    c.drop_mark.ensures.flat.1 c.go.ensures.flat

pub returns-else-again-clause-named : goal.returns-else-again-clause-named
returns-else-again-clause-named g c all =
    goes_falls all c.args.frames.now.flat c.drop_mark.new.self.flat c.go.new.self.flat c.drop_mark.ensures.flat.0 c.in-Some.address
    c.drop_mark.ensures.flat.1 c.go.ensures.flat
