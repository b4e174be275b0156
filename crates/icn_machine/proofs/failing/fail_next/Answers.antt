use Rattle.std.proofs.Common.{◌≡◌, ◌∙◌, subst, rules}
use Rattle.icn_value.specs.Store.{Names, Outside, bare_outside}
use Rattle.law_names.specs.NamedSettings.{WorldNamed}
use Rattle.icn_vars.specs.Worlds.{world_of}
use Rattle.icn_vars.specs.Outcomes.{residual_in}
use Rattle.icn_run.specs.Calls.{Op as Operation}
use Rattle.icn_run.specs.Stacks.{flat}
use Rattle.icn_run.specs.Step.{all_names, resume_by, without_mark}
use Rattle.law_steps.specs.StateNames.{StackNamed}
use Rattle.icn_control.specs.Machines.{extent, stack_seen, store_seen}
use Rattle.icn_control.specs.declared.failing.AfterFailure.TheVariants as AfterFailures
use Rattle.icn_control.specs.declared.machine.RunState.TheVariants as RunStates
use Rattle.icn_machine.specs.Stepping.{FailsFurther}
use Rattle.icn_machine.proofs.FailingSteps.{Lands, at_due, by_due, due_named, failed, failed_further, failed_kept, failed_performing, failed_quietly, if_so, kept_seen, lands_performing, lands_quietly, never_failed, resumed_erring, resumed_performs, resumed_ready}
use Rattle.icn_machine.proofs.SettleSteps.{left_known, settled_ready, settles_on}
use Rattle.icn_machine.proofs.failing.fail_next.Goals as goal

pub fail_once-requires-clause-stands : goal.fail_once-requires-clause-stands
fail_once-requires-clause-stands g c = record {
  runs = c.requires.ready.1.1.stack;
  sound = (c.requires.ready.0, c.requires.ready.1.1.sound);
}

pub fail_once-requires-clause-goes_on : goal.fail_once-requires-clause-goes_on
fail_once-requires-clause-goes_on g c =
    (c.requires.ready.0, (bare_outside, never_failed c.requires.ready.0 c.args.m.now c.requires.ready.1.1.kept bare_outside))

pub begin_again-requires : goal.begin_again-requires
begin_again-requires g c = record { bounds = (c.fail_once.ensures.sound c.requires.ready.0 c.requires.ready.1.1.sound).bounds }

pub reenter-requires-clause-bounds : goal.reenter-requires-clause-bounds
reenter-requires-clause-bounds g c = (c.fail_once.ensures.sound c.requires.ready.0 c.requires.ready.1.1.sound).bounds

pub resume-answer-requires-clause-stands : goal.resume-answer-requires-clause-stands
resume-answer-requires-clause-stands g c = record {
  runs = c.fail_once.ensures.runs;
  sound = (c.requires.ready.0, c.fail_once.ensures.sound c.requires.ready.0 c.requires.ready.1.1.sound);
}

pub reenter-requires-clause-stands : goal.reenter-requires-clause-stands
reenter-requires-clause-stands g c = record {
  runs = c.fail_once.ensures.runs;
  sound = (c.requires.ready.0, c.fail_once.ensures.sound c.requires.ready.0 c.requires.ready.1.1.sound);
}

pub end_failing-requires-clause-stands : goal.end_failing-requires-clause-stands
end_failing-requires-clause-stands g c = record {
  runs = c.fail_once.ensures.runs;
  sound = (c.requires.ready.0, c.fail_once.ensures.sound c.requires.ready.0 c.requires.ready.1.1.sound);
}

pub resume-answer-requires-clause-rest : goal.resume-answer-requires-clause-rest
resume-answer-requires-clause-rest g c = rw c.in-Resuming.is at c.fail_once.ensures.due

pub resume-answer-requires-clause-named : goal.resume-answer-requires-clause-named
resume-answer-requires-clause-named g c = record {
  stack_named = (
      let tables = c.requires.ready.0 in
      let k = kept_seen tables c.args.m.now c.requires.ready.1.1.kept bare_outside in
      subst (λ (n : Names). StackNamed n (stack_seen c.fail_once.new.m)) c.requires.ready.1.0 (c.fail_once.ensures.named.stack (all_names tables) k.named.0).0);
  world_named = (
      let tables = c.requires.ready.0 in
      let k = kept_seen tables c.args.m.now c.requires.ready.1.1.kept bare_outside in
      subst (λ (n : Names). WorldNamed n (world_of c.fail_once.new.m.world)) c.requires.ready.1.0
      (c.fail_once.ensures.named.store (all_names tables) tables bare_outside k.named.1).world);
}

pub resume-answer-requires-clause-rest_named : goal.resume-answer-requires-clause-rest_named
resume-answer-requires-clause-rest_named g c =
    let tables = c.requires.ready.0 in
    let k = kept_seen tables c.args.m.now c.requires.ready.1.1.kept bare_outside in
    due_named _ c.fail_once.new.m c.fail_once.result (AfterFailures.Resuming c.in-Resuming.rest) c.in-Resuming.is
    (c.fail_once.ensures.named.stack _ (subst (λ (n : Names). StackNamed n (stack_seen c.args.m.now)) c.requires.ready.1.0 k.named.0)).1

pub end_failing-requires-clause-goes_on : goal.end_failing-requires-clause-goes_on
end_failing-requires-clause-goes_on g c =
    let tables = c.requires.ready.0 in
    let o : Outside = bare_outside in
    let due : failed tables c.args.m.now o ≡ without_mark flat tables (stack_seen c.fail_once.new.m) (store_seen tables o c.fail_once.new.m)
    = at_due tables o (failed tables c.args.m.now o) c.fail_once.new.m c.fail_once.result AfterFailures.Leaving c.in-Leaving.is
    (c.fail_once.ensures.step tables o) in
    (tables, (o, λ e. never_failed tables c.args.m.now c.requires.ready.1.1.kept o (due ∙ e)))

pub returns-in-Failing-clause-steps : goal.returns-in-Failing-clause-steps
returns-in-Failing-clause-steps g c tables named ready =
    failed_quietly tables c.args.m.now c.fail_once.new.m _ RunStates.Failing
    (λ o. at_due tables o (failed tables c.args.m.now o) c.fail_once.new.m c.fail_once.result AfterFailures.Failing c.in-Failing.is
    (c.fail_once.ensures.step tables o))

pub returns-in-Failing-clause-ready : goal.returns-in-Failing-clause-ready
returns-in-Failing-clause-ready g c tables named ready = record {
  sound = c.fail_once.ensures.sound tables ready.sound;
  stack = c.fail_once.ensures.runs;
  kept =
      failed_kept tables c.steps_keep_names.ensures.kept c.steps_keep_sizes.ensures.kept c.args.m.now c.fail_once.new.m RunStates.Failing ready.kept
      (lands_quietly tables c.args.m.now c.fail_once.new.m RunStates.Failing (λ o. at_due tables o (failed tables c.args.m.now o) c.fail_once.new.m
      c.fail_once.result AfterFailures.Failing c.in-Failing.is (c.fail_once.ensures.step tables o)));
}

pub returns-in-Failing-clause-further : goal.returns-in-Failing-clause-further
returns-in-Failing-clause-further g c =
    let tables = c.requires.ready.0 in
    failed_further tables c.args.m.now c.fail_once.new.m RunStates.Failing c.requires.ready.1.1.sound.bounds
    (lands_quietly tables c.args.m.now c.fail_once.new.m RunStates.Failing (λ o. at_due tables o (failed tables c.args.m.now o) c.fail_once.new.m
    c.fail_once.result AfterFailures.Failing c.in-Failing.is (c.fail_once.ensures.step tables o)))

pub returns-in-Failing-clause-within : goal.returns-in-Failing-clause-within
returns-in-Failing-clause-within g c = record {
  halt = search rules;
  limits = c.fail_once.ensures.limits;
}

pub returns-in-Running-clause-steps : goal.returns-in-Running-clause-steps
returns-in-Running-clause-steps g c tables named ready =
    failed_quietly tables c.args.m.now c.fail_once.new.m _ RunStates.Running
    (λ o. at_due tables o (failed tables c.args.m.now o) c.fail_once.new.m c.fail_once.result AfterFailures.Running c.in-Running.is
    (c.fail_once.ensures.step tables o))

pub returns-in-Running-clause-ready : goal.returns-in-Running-clause-ready
returns-in-Running-clause-ready g c tables named ready = record {
  sound = c.fail_once.ensures.sound tables ready.sound;
  stack = c.fail_once.ensures.runs;
  kept =
      failed_kept tables c.steps_keep_names.ensures.kept c.steps_keep_sizes.ensures.kept c.args.m.now c.fail_once.new.m RunStates.Running ready.kept
      (lands_quietly tables c.args.m.now c.fail_once.new.m RunStates.Running (λ o. at_due tables o (failed tables c.args.m.now o) c.fail_once.new.m
      c.fail_once.result AfterFailures.Running c.in-Running.is (c.fail_once.ensures.step tables o)));
}

pub returns-in-Running-clause-within : goal.returns-in-Running-clause-within
returns-in-Running-clause-within g c = record {
  halt = search rules;
  limits = c.fail_once.ensures.limits;
}

pub returns-in-Beginning-clause-steps : goal.returns-in-Beginning-clause-steps
returns-in-Beginning-clause-steps g c tables named ready =
    failed_quietly tables c.args.m.now c.begin_again.new.m _ c.begin_again.result
    (λ o. by_due tables o _ _ c.begin_again.new.m c.begin_again.result
    (at_due tables o (failed tables c.args.m.now o) c.fail_once.new.m c.fail_once.result AfterFailures.Beginning c.in-Beginning.is
    (c.fail_once.ensures.step tables o))
    (c.begin_again.ensures.step tables o))

pub returns-in-Beginning-clause-ready : goal.returns-in-Beginning-clause-ready
returns-in-Beginning-clause-ready g c tables named ready = record {
  sound = c.begin_again.ensures.sound tables (c.fail_once.ensures.sound tables ready.sound);
  stack = c.begin_again.ensures.stack c.fail_once.ensures.runs;
  kept =
      failed_kept tables c.steps_keep_names.ensures.kept c.steps_keep_sizes.ensures.kept c.args.m.now c.begin_again.new.m c.begin_again.result
      ready.kept
      (lands_quietly tables c.args.m.now c.begin_again.new.m c.begin_again.result (λ o. by_due tables o _ _ c.begin_again.new.m c.begin_again.result (at_due
      tables o (failed tables c.args.m.now o) c.fail_once.new.m c.fail_once.result AfterFailures.Beginning c.in-Beginning.is
      (c.fail_once.ensures.step tables o)) (c.begin_again.ensures.step tables o)));
}

pub returns-in-Beginning-clause-further : goal.returns-in-Beginning-clause-further
returns-in-Beginning-clause-further g c =
    let tables = c.requires.ready.0 in
    failed_further tables c.args.m.now c.begin_again.new.m c.begin_again.result c.requires.ready.1.1.sound.bounds
    (lands_quietly tables c.args.m.now c.begin_again.new.m c.begin_again.result (λ o. by_due tables o _ _ c.begin_again.new.m c.begin_again.result
    (at_due tables o (failed tables c.args.m.now o) c.fail_once.new.m c.fail_once.result AfterFailures.Beginning c.in-Beginning.is
    (c.fail_once.ensures.step tables o))
    (c.begin_again.ensures.step tables o)))

pub returns-in-Beginning-clause-within : goal.returns-in-Beginning-clause-within
returns-in-Beginning-clause-within g c = record {
  halt = search rules;
  limits = c.begin_again.ensures.limits ∙ c.fail_once.ensures.limits;
}

pub returns-in-Reentering-clause-steps : goal.returns-in-Reentering-clause-steps
returns-in-Reentering-clause-steps g c tables named ready =
    failed_quietly tables c.args.m.now c.reenter.new.m _ c.reenter.result
    (λ o. by_due tables o _ _ c.reenter.new.m c.reenter.result (at_due tables o (failed tables c.args.m.now o) c.fail_once.new.m c.fail_once.result
    AfterFailures.Reentering c.in-Reentering.is (c.fail_once.ensures.step tables o)) (c.reenter.ensures.step tables o))

pub returns-in-Reentering-clause-ready : goal.returns-in-Reentering-clause-ready
returns-in-Reentering-clause-ready g c tables named ready = record {
  sound = c.reenter.ensures.keeps.sound tables (c.fail_once.ensures.sound tables ready.sound);
  stack = c.reenter.ensures.keeps.stack;
  kept =
      failed_kept tables c.steps_keep_names.ensures.kept c.steps_keep_sizes.ensures.kept c.args.m.now c.reenter.new.m c.reenter.result ready.kept
      (lands_quietly tables c.args.m.now c.reenter.new.m c.reenter.result (λ o. by_due tables o _ _ c.reenter.new.m c.reenter.result (at_due tables o
      (failed tables c.args.m.now o) c.fail_once.new.m c.fail_once.result AfterFailures.Reentering c.in-Reentering.is
      (c.fail_once.ensures.step tables o)) (c.reenter.ensures.step tables o)));
}

pub returns-in-Reentering-clause-further : goal.returns-in-Reentering-clause-further
returns-in-Reentering-clause-further g c =
    let tables = c.requires.ready.0 in
    failed_further tables c.args.m.now c.reenter.new.m c.reenter.result c.requires.ready.1.1.sound.bounds
    (lands_quietly tables c.args.m.now c.reenter.new.m c.reenter.result (λ o. by_due tables o _ _ c.reenter.new.m c.reenter.result (at_due tables o
    (failed tables c.args.m.now o) c.fail_once.new.m c.fail_once.result AfterFailures.Reentering c.in-Reentering.is
    (c.fail_once.ensures.step tables o)) (c.reenter.ensures.step tables o)))

pub returns-in-Reentering-clause-within : goal.returns-in-Reentering-clause-within
returns-in-Reentering-clause-within g c = record {
  halt = search rules;
  limits = c.reenter.ensures.keeps.limits ∙ c.fail_once.ensures.limits;
}

pub returns-in-Leaving-clause-steps : goal.returns-in-Leaving-clause-steps
returns-in-Leaving-clause-steps g c tables named ready =
    failed_quietly tables c.args.m.now c.end_failing.new.m _ c.end_failing.result
    (λ o. by_due tables o _ _ c.end_failing.new.m c.end_failing.result
    (at_due tables o (failed tables c.args.m.now o) c.fail_once.new.m c.fail_once.result AfterFailures.Leaving c.in-Leaving.is
    (c.fail_once.ensures.step tables o))
    (c.end_failing.ensures.step tables o))

pub returns-in-Leaving-clause-ready : goal.returns-in-Leaving-clause-ready
returns-in-Leaving-clause-ready g c tables named ready = record {
  sound = c.end_failing.ensures.keeps.sound tables (c.fail_once.ensures.sound tables ready.sound);
  stack = c.end_failing.ensures.keeps.stack;
  kept =
      failed_kept tables c.steps_keep_names.ensures.kept c.steps_keep_sizes.ensures.kept c.args.m.now c.end_failing.new.m c.end_failing.result
      ready.kept
      (lands_quietly tables c.args.m.now c.end_failing.new.m c.end_failing.result (λ o. by_due tables o _ _ c.end_failing.new.m c.end_failing.result
      (at_due tables o (failed tables c.args.m.now o) c.fail_once.new.m c.fail_once.result AfterFailures.Leaving c.in-Leaving.is
      (c.fail_once.ensures.step tables o))
      (c.end_failing.ensures.step tables o)));
}

pub returns-in-Leaving-clause-further : goal.returns-in-Leaving-clause-further
returns-in-Leaving-clause-further g c =
    let tables = c.requires.ready.0 in
    failed_further tables c.args.m.now c.end_failing.new.m c.end_failing.result c.requires.ready.1.1.sound.bounds
    (lands_quietly tables c.args.m.now c.end_failing.new.m c.end_failing.result (λ o. by_due tables o _ _ c.end_failing.new.m c.end_failing.result
    (at_due tables o (failed tables c.args.m.now o) c.fail_once.new.m c.fail_once.result AfterFailures.Leaving c.in-Leaving.is
    (c.fail_once.ensures.step tables o))
    (c.end_failing.ensures.step tables o)))

pub returns-in-Leaving-clause-within : goal.returns-in-Leaving-clause-within
returns-in-Leaving-clause-within g c = record {
  halt = search rules;
  limits = c.end_failing.ensures.keeps.limits ∙ c.fail_once.ensures.limits;
}

pub settle-requires-clause-halt : goal.settle-requires-clause-halt
settle-requires-clause-halt g c = c.resume-answer.ensures.keeps.halt

pub settle-requires-clause-known : goal.settle-requires-clause-known
settle-requires-clause-known g c = left_known (g.N.Names.known c.args.names.now) c.resume-answer.new.m c.resume-answer.result c.resume-answer.ensures.named

pub returns-in-Resuming-clause-steps : goal.returns-in-Resuming-clause-steps
returns-in-Resuming-clause-steps g c tables named ready =
    let m = c.args.m.now in
    let performs = resumed_performs tables
    (λ (o : Outside). resume_by flat tables (Operation (residual_in (extent c.fail_once.new.m) c.in-Resuming.rest)) (stack_seen c.fail_once.new.m)
    (store_seen tables o c.fail_once.new.m))
    m _ c.resume-answer.new.m _ c.resume-answer.result
    (λ o. at_due tables o (failed tables m o) c.fail_once.new.m c.fail_once.result (AfterFailures.Resuming c.in-Resuming.rest) c.in-Resuming.is
    (c.fail_once.ensures.step tables o))
    (c.resume-answer.ensures.step tables) in
    failed_performing tables m _ c.settle.new.m _ c.settle.result
    (settles_on tables (failed tables m) c.resume-answer.new.m c.settle.new.m _ _ c.resume-answer.result c.settle.result (c.settle.ensures.step tables)
    c.settle.ensures.same performs)

pub returns-in-Resuming-clause-ready : goal.returns-in-Resuming-clause-ready
returns-in-Resuming-clause-ready g c tables named ready =
    let m = c.args.m.now in
    let k = c.resume-answer.new.m in
    let performs = resumed_performs tables
    (λ (o : Outside). resume_by flat tables (Operation (residual_in (extent c.fail_once.new.m) c.in-Resuming.rest)) (stack_seen c.fail_once.new.m)
    (store_seen tables o c.fail_once.new.m))
    m _ c.resume-answer.new.m _ c.resume-answer.result
    (λ o. at_due tables o (failed tables m o) c.fail_once.new.m c.fail_once.result (AfterFailures.Resuming c.in-Resuming.rest) c.in-Resuming.is
    (c.fail_once.ensures.step tables o))
    (c.resume-answer.ensures.step tables) in
    let sound = c.resume-answer.ensures.keeps.sound tables (c.fail_once.ensures.sound tables ready.sound) in
    settled_ready tables k c.settle.new.m c.resume-answer.result c.settle.result
    (resumed_ready tables c.steps_keep_names.ensures.kept c.steps_keep_sizes.ensures.kept m _ k _ c.resume-answer.result ready.kept performs sound
    c.resume-answer.ensures.keeps.stack)
    (resumed_erring tables c.steps_keep_names.ensures.kept c.steps_keep_sizes.ensures.kept m _ k _ c.resume-answer.result ready.kept performs sound
    c.resume-answer.ensures.keeps.stack)
    (c.settle.ensures.step tables) (c.settle.ensures.sound tables) c.settle.ensures.stack c.settle.ensures.same

pub returns-in-Resuming-clause-further : goal.returns-in-Resuming-clause-further
returns-in-Resuming-clause-further g c =
    let tables = c.requires.ready.0 in
    let m = c.args.m.now in
    let performs = resumed_performs tables
    (λ (o : Outside). resume_by flat tables (Operation (residual_in (extent c.fail_once.new.m) c.in-Resuming.rest)) (stack_seen c.fail_once.new.m)
    (store_seen tables o c.fail_once.new.m))
    m _ c.resume-answer.new.m _ c.resume-answer.result
    (λ o. at_due tables o (failed tables m o) c.fail_once.new.m c.fail_once.result (AfterFailures.Resuming c.in-Resuming.rest) c.in-Resuming.is
    (c.fail_once.ensures.step tables o))
    (c.resume-answer.ensures.step tables) in
    if_so c.settle.result (Lands tables m c.settle.new.m) (FailsFurther m c.settle.new.m)
    (λ stage q. failed_further tables m c.settle.new.m stage c.requires.ready.1.1.sound.bounds q)
    (lands_performing tables m _ c.settle.new.m _ c.settle.result
    (settles_on tables (failed tables m) c.resume-answer.new.m c.settle.new.m _ _ c.resume-answer.result c.settle.result (c.settle.ensures.step tables)
    c.settle.ensures.same performs))

pub returns-in-Resuming-clause-within : goal.returns-in-Resuming-clause-within
returns-in-Resuming-clause-within g c = record {
  halt = c.settle.ensures.within.halt;
  limits = c.settle.ensures.within.limits ∙ c.resume-answer.ensures.keeps.limits ∙ c.fail_once.ensures.limits;
}
