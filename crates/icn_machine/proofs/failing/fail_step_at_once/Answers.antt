use Rattle.std.proofs.Common.{◌≡◌, ◌∙◌, ap, refl, subst, sym}
use Rattle.icn_value.specs.Store.{Outside, bare_outside}
use Rattle.icn_run.specs.Stacks.{flat}
use Rattle.icn_run.specs.Step.{without_mark}
use Rattle.icn_control.specs.FailingStacks.{due_of}
use Rattle.icn_control.specs.Machines.{stack_seen, store_seen}
use Rattle.icn_control.specs.declared.failing.AfterFailure.TheVariants as AfterFailures
use Rattle.icn_control.specs.declared.machine.Machine.{Machine}
use Rattle.icn_control.specs.declared.machine.RunState.TheVariants as RunStates
use Rattle.icn_machine.specs.declared.at_once.AtOnce.TheVariants as AtOnces
use Rattle.icn_machine.specs.AnsweredAtOnce.{FailsAtOnce, done_at}
use Rattle.icn_machine.specs.Stepping.{IsReady}
use Rattle.icn_machine.proofs.AtOnceAnswers.{answer_at}
use Rattle.icn_machine.proofs.FailingAtOnce.{fails_done}
use Rattle.icn_machine.proofs.FailingSteps.{at_due, by_due, failed, never_failed}
use Rattle.icn_machine.proofs.failing.fail_step_at_once.Goals as goal

pub fall_here-requires : goal.fall_here-requires
fall_here-requires g c = record { runs = c.requires.1.stack; sound = (c.requires.0, c.requires.1.sound) }

pub begin_again-requires : goal.begin_again-requires
begin_again-requires g c = record { bounds = (c.in-Some-Beginning.ensures.sound c.requires.0 c.requires.1.sound).bounds }

pub reenter-requires-clause-stands : goal.reenter-requires-clause-stands
reenter-requires-clause-stands g c = record {
  runs = c.fall_here.ensures.runs;
  sound = (c.requires.0, c.in-Some-Reentering.ensures.sound c.requires.0 c.requires.1.sound);
}

pub reenter-requires-clause-bounds : goal.reenter-requires-clause-bounds
reenter-requires-clause-bounds g c = (c.in-Some-Reentering.ensures.sound c.requires.0 c.requires.1.sound).bounds

pub end_failing-requires-clause-stands : goal.end_failing-requires-clause-stands
end_failing-requires-clause-stands g c = record {
  runs = c.fall_here.ensures.runs;
  sound = (c.requires.0, c.in-Some-Leaving.ensures.sound c.requires.0 c.requires.1.sound);
}

pub end_failing-requires-clause-goes_on : goal.end_failing-requires-clause-goes_on
end_failing-requires-clause-goes_on g c =
    let tables = c.requires.0 in
    let o : Outside = bare_outside in
    let m = c.args.m.now in
    let due : failed tables m o ≡ without_mark flat tables (stack_seen c.fall_here.new.m) (store_seen tables o c.fall_here.new.m)
    = at_due tables o (failed tables m o) c.fall_here.new.m (due_of c.in-Some-Leaving.field-0) AfterFailures.Leaving (ap due_of c.in-Some-Leaving.field-0-is)
    (c.in-Some-Leaving.ensures.due tables o) in
    (tables, (o, λ e. never_failed tables m c.requires.1.kept o (due ∙ e)))

pub resume_at_once-requires : goal.resume_at_once-requires
resume_at_once-requires g c =
    let same = c.fall_here.ensures.not_done c.in-None.is in
    (c.requires.0, subst (λ (x : Machine g.row.K.Denot). IsReady c.requires.0 x RunStates.Failing) (sym same) c.requires.1)

pub returns-in-Some-Failing : goal.returns-in-Some-Failing
returns-in-Some-Failing g c tables ready =
    let m = c.args.m.now in
    fails_done tables c.steps_keep_names.ensures.kept c.steps_keep_sizes.ensures.kept m c.fall_here.new.m AtOnces.Failing RunStates.Failing refl
    (λ o. at_due tables o (failed tables m o) c.fall_here.new.m (due_of c.in-Some-Failing.field-0) AfterFailures.Failing
    (ap due_of c.in-Some-Failing.field-0-is) (c.in-Some-Failing.ensures.due tables o)) (c.in-Some-Failing.ensures.sound tables ready.sound)
    c.fall_here.ensures.runs c.fall_here.ensures.limits ready

pub returns-in-Some-Running : goal.returns-in-Some-Running
returns-in-Some-Running g c tables ready =
    let m = c.args.m.now in
    fails_done tables c.steps_keep_names.ensures.kept c.steps_keep_sizes.ensures.kept m c.fall_here.new.m AtOnces.Running RunStates.Running refl
    (λ o. at_due tables o (failed tables m o) c.fall_here.new.m (due_of c.in-Some-Running.field-0) AfterFailures.Running
    (ap due_of c.in-Some-Running.field-0-is) (c.in-Some-Running.ensures.due tables o)) (c.in-Some-Running.ensures.sound tables ready.sound)
    c.fall_here.ensures.runs c.fall_here.ensures.limits ready

pub returns-in-Some-Beginning : goal.returns-in-Some-Beginning
returns-in-Some-Beginning g c tables ready =
    let m = c.args.m.now in
    let n = c.begin_again.new.m in
    let r = c.begin_again.result in
    rw c.done_at.ensures
    (fails_done tables c.steps_keep_names.ensures.kept c.steps_keep_sizes.ensures.kept m n (done_at r) r (answer_at r)
    (λ o. by_due tables o _ _ n r
    (at_due tables o (failed tables m o) c.fall_here.new.m (due_of c.in-Some-Beginning.field-0) AfterFailures.Beginning
    (ap due_of c.in-Some-Beginning.field-0-is) (c.in-Some-Beginning.ensures.due tables o)) (c.begin_again.ensures.step tables o))
    (c.begin_again.ensures.sound tables (c.in-Some-Beginning.ensures.sound tables ready.sound)) (c.begin_again.ensures.stack c.fall_here.ensures.runs)
    (c.begin_again.ensures.limits ∙ c.fall_here.ensures.limits) ready)

pub returns-in-Some-Reentering : goal.returns-in-Some-Reentering
returns-in-Some-Reentering g c tables ready =
    let m = c.args.m.now in
    let n = c.reenter.new.m in
    let r = c.reenter.result in
    rw c.done_at-in-Some-Reentering.ensures
    (fails_done tables c.steps_keep_names.ensures.kept c.steps_keep_sizes.ensures.kept m n (done_at r) r (answer_at r)
    (λ o. by_due tables o _ _ n r
    (at_due tables o (failed tables m o) c.fall_here.new.m (due_of c.in-Some-Reentering.field-0) AfterFailures.Reentering
    (ap due_of c.in-Some-Reentering.field-0-is) (c.in-Some-Reentering.ensures.due tables o)) (c.reenter.ensures.step tables o))
    (c.reenter.ensures.keeps.sound tables (c.in-Some-Reentering.ensures.sound tables ready.sound)) c.reenter.ensures.keeps.stack
    (c.reenter.ensures.keeps.limits ∙ c.fall_here.ensures.limits) ready)

pub returns-in-Some-Leaving : goal.returns-in-Some-Leaving
returns-in-Some-Leaving g c tables ready =
    let m = c.args.m.now in
    let n = c.end_failing.new.m in
    let r = c.end_failing.result in
    rw c.done_at-in-Some-Leaving.ensures
    (fails_done tables c.steps_keep_names.ensures.kept c.steps_keep_sizes.ensures.kept m n (done_at r) r (answer_at r)
    (λ o. by_due tables o _ _ n r
    (at_due tables o (failed tables m o) c.fall_here.new.m (due_of c.in-Some-Leaving.field-0) AfterFailures.Leaving (ap due_of c.in-Some-Leaving.field-0-is)
    (c.in-Some-Leaving.ensures.due tables o)) (c.end_failing.ensures.step tables o))
    (c.end_failing.ensures.keeps.sound tables (c.in-Some-Leaving.ensures.sound tables ready.sound)) c.end_failing.ensures.keeps.stack
    (c.end_failing.ensures.keeps.limits ∙ c.fall_here.ensures.limits) ready)

pub returns-in-None : goal.returns-in-None
returns-in-None g c tables ready =
    let same = c.fall_here.ensures.not_done c.in-None.is in
    subst (λ (x : Machine g.row.K.Denot). FailsAtOnce tables x c.resume_at_once.new.m c.resume_at_once.result) same
    (c.resume_at_once.ensures tables (subst (λ (x : Machine g.row.K.Denot). IsReady tables x RunStates.Failing) (sym same) ready))
