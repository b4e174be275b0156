use Rattle.std.proofs.Common.{◌≡◌, ◌<◌, inl, refl, sym, ◌∙◌, subst, true, length, rules}
use Rattle.icn_control.specs.Machines.{stack_seen}
use Rattle.icn_control.specs.declared.machine.RunState.{RunState}
use Rattle.icn_control.specs.declared.machine.RunState.TheVariants as RunStates
use Rattle.icn_machine.specs.Stepping.{IsFailing, IsReady, advances, fails_within, stays}
use Rattle.icn_machine.proofs.AdvanceSteps.{at_failing}
use Rattle.icn_machine.proofs.LoopSteps.{if_err_known, fails_is, failing_left, loop_halts, loop_goes_on, if_ok_of_error, within_ended, within_falls, within_more}
use Rattle.icn_machine.proofs.failing.fail_to_turn.Goals as goal

pub loop-stage-init : goal.loop-stage-init
loop-stage-init g c = record {
  steps = λ tables named ready. stays refl refl refl;
  ready = λ tables named ready. ready;
  turn = inl refl;
  limits = refl;
  turns = refl;
}

pub fail_next-requires : goal.fail_next-requires
fail_next-requires g c =
    let tables = c.requires.ready.0 in
    let fails = fails_is c.loop-stage.stage c.loop-stage.m.turns c.args.m.now.turns (sym c.fails_within.ensures ∙ c.loop-stage-test.true) in
    record {
      ready = (
        tables,
        (
          c.requires.ready.1.0,
          subst (λ (s : RunState). IsReady tables c.loop-stage.m s) fails.0
              (c.loop-stage.invariant.ready tables c.requires.ready.1.0 c.requires.ready.1.1),
        ),
      );
    }

pub returns-in_err-stage-clause-steps : goal.returns-in_err-stage-clause-steps
returns-in_err-stage-clause-steps g c tables named ready =
    let fails = fails_is c.loop-stage.stage c.loop-stage.m.turns c.args.m.now.turns (sym c.fails_within.ensures ∙ c.loop-stage-test.true) in
    loop_halts IsFailing tables c.args.m.now RunStates.Failing _ c.loop-stage.m c.loop-stage.stage RunStates.Failing _ c.fail_next.new.m _
    c.in_err-stage.field-0.0
    c.from_residual.result fails.0 refl (at_failing tables c.loop-stage.m RunStates.Failing refl) (c.loop-stage.invariant.steps tables named ready)
    (advances (c.in_err-stage.ensures.steps tables named
    (subst (λ (s : RunState). IsReady tables c.loop-stage.m s) fails.0 (c.loop-stage.invariant.ready tables named ready))))
    c.from_residual.ensures.1

pub returns-in_err-stage-clause-ready : goal.returns-in_err-stage-clause-ready
returns-in_err-stage-clause-ready g c tables named ready = if_ok_of_error c.from_residual.result _ _ c.from_residual.ensures.1

pub returns-in_err-stage-clause-turn : goal.returns-in_err-stage-clause-turn
returns-in_err-stage-clause-turn g c = if_ok_of_error c.from_residual.result _ _ c.from_residual.ensures.1

pub returns-in_err-stage-clause-within : goal.returns-in_err-stage-clause-within
returns-in_err-stage-clause-within g c = record {
  halt = if_err_known c.from_residual.result c.in_err-stage.field-0.0 _ c.from_residual.ensures.1 c.in_err-stage.ensures.within.halt;
  limits = c.in_err-stage.ensures.within.limits ∙ c.loop-stage.invariant.limits;
}

pub loop-stage-smaller : goal.loop-stage-smaller
loop-stage-smaller g c =
    let test : fails_within c.loop-stage.stage c.loop-stage.m.turns c.args.m.now.turns ≡ true = sym c.fails_within.ensures ∙ c.loop-stage-test.true in
    let fails = fails_is c.loop-stage.stage c.loop-stage.m.turns c.args.m.now.turns test in
    subst (λ b. failing_left (fails_within c.in_ok-stage.stage c.fail_next.new.m.turns c.args.m.now.turns) (length (stack_seen c.fail_next.new.m).cells)
    < failing_left b (length (stack_seen c.loop-stage.m).cells))
    (sym test)
    (within_falls c.loop-stage.m c.fail_next.new.m c.in_ok-stage.stage c.args.m.now.turns fails.1 c.in_ok-stage.ensures.further)

pub loop-stage-preserved : goal.loop-stage-preserved
loop-stage-preserved g c =
    let fails = fails_is c.loop-stage.stage c.loop-stage.m.turns c.args.m.now.turns (sym c.fails_within.ensures ∙ c.loop-stage-test.true) in
    record {
      steps =
          λ tables named ready. loop_goes_on IsFailing tables c.args.m.now RunStates.Failing _ c.loop-stage.m c.loop-stage.stage RunStates.Failing _
          c.fail_next.new.m _ _
          fails.0 refl (at_failing tables c.loop-stage.m RunStates.Failing refl) (c.loop-stage.invariant.steps tables named ready)
          (advances
          (c.in_ok-stage.ensures.steps tables named
          (subst (λ (s : RunState). IsReady tables c.loop-stage.m s) fails.0 (c.loop-stage.invariant.ready tables named ready))));
      ready =
          λ tables named ready. c.in_ok-stage.ensures.ready tables named
          (subst (λ (s : RunState). IsReady tables c.loop-stage.m s) fails.0 (c.loop-stage.invariant.ready tables named ready));
      turn = within_more c.args.m.now c.loop-stage.m c.fail_next.new.m c.in_ok-stage.stage fails.1 c.loop-stage.invariant.limits c.in_ok-stage.ensures.further;
      limits = c.in_ok-stage.ensures.within.limits ∙ c.loop-stage.invariant.limits;
      turns = refl;
    }

pub returns-clause-steps : goal.returns-clause-steps
returns-clause-steps g c tables named ready = c.loop-stage.invariant.steps tables named ready

pub returns-clause-ready : goal.returns-clause-ready
returns-clause-ready g c tables named ready = c.loop-stage.invariant.ready tables named ready

pub returns-clause-turn : goal.returns-clause-turn
returns-clause-turn g c =
    within_ended c.args.m.now c.loop-stage.m c.loop-stage.stage c.args.m.now.turns refl (sym c.fails_within.ensures ∙ c.loop-stage-test.false)
    c.loop-stage.invariant.turn

pub returns-clause-within : goal.returns-clause-within
returns-clause-within g c = record {
  halt = search rules;
  limits = c.loop-stage.invariant.limits;
}
