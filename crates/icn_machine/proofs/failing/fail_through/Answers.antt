use Rattle.std.proofs.Common.{◌≡◌, ◌<◌, ◌-◌, refl, sym, ◌∙◌, subst, true, rules}
use Rattle.icn_machine.specs.Stepping.{IsFailing, is_failing, stays}
use Rattle.icn_machine.proofs.AdvanceSteps.{at_failing}
use Rattle.icn_machine.proofs.LoopSteps.{if_err_known, failing_goes, failing_left, loop_halts, loop_goes_on, if_ok_of_error, turns_fall}
use Rattle.icn_machine.proofs.failing.fail_through.Goals as goal

pub loop-m-init : goal.loop-m-init
loop-m-init g c = record {
  steps = λ tables named ready. stays refl refl refl;
  ready = λ tables named ready. ready;
  limits = refl;
}

pub fail_turn-requires : goal.fail_turn-requires
fail_turn-requires g c =
    record { ready = (c.requires.ready.0, (c.requires.ready.1.0, c.loop-m.invariant.ready c.requires.ready.0 c.requires.ready.1.0 c.requires.ready.1.1)) }

pub returns-in_err-stage-clause-steps : goal.returns-in_err-stage-clause-steps
returns-in_err-stage-clause-steps g c tables named ready =
    loop_halts IsFailing tables c.args.m.now c.args.from _ c.loop-m.m c.loop-m.stage c.loop-m.stage _ c.fail_turn.new.m _ c.in_err-stage.field-0.0
    c.from_residual.result refl
    (failing_goes c.loop-m.stage (sym c.is_failing.ensures ∙ c.loop-m-test.true))
    (at_failing tables c.loop-m.m c.loop-m.stage (sym c.is_failing.ensures ∙ c.loop-m-test.true)) (c.loop-m.invariant.steps tables named ready)
    (c.in_err-stage.ensures.steps tables named (c.loop-m.invariant.ready tables named ready)) c.from_residual.ensures.1

pub returns-in_err-stage-clause-ready : goal.returns-in_err-stage-clause-ready
returns-in_err-stage-clause-ready g c tables named ready = if_ok_of_error c.from_residual.result _ _ c.from_residual.ensures.1

pub returns-in_err-stage-clause-fails_no_more : goal.returns-in_err-stage-clause-fails_no_more
returns-in_err-stage-clause-fails_no_more g c = if_ok_of_error c.from_residual.result _ _ c.from_residual.ensures.1

pub returns-in_err-stage-clause-within : goal.returns-in_err-stage-clause-within
returns-in_err-stage-clause-within g c = record {
  halt = if_err_known c.from_residual.result c.in_err-stage.field-0.0 _ c.from_residual.ensures.1 c.in_err-stage.ensures.within.halt;
  limits = c.in_err-stage.ensures.within.limits ∙ c.loop-m.invariant.limits;
}

pub loop-m-smaller : goal.loop-m-smaller
loop-m-smaller g c =
    let test : is_failing c.loop-m.stage ≡ true = sym c.is_failing.ensures ∙ c.loop-m-test.true in
    subst (λ b. failing_left (is_failing c.in_ok-stage.stage) (c.fail_turn.new.m.limits.turns - c.fail_turn.new.m.turns) < failing_left b
    (c.loop-m.m.limits.turns - c.loop-m.m.turns))
    (sym test)
    (turns_fall c.loop-m.m c.fail_turn.new.m c.in_ok-stage.stage c.in_ok-stage.ensures.within.limits c.in_ok-stage.ensures.turn)

pub loop-m-preserved : goal.loop-m-preserved
loop-m-preserved g c = record {
  steps = λ tables named ready. loop_goes_on IsFailing tables c.args.m.now c.args.from _ c.loop-m.m c.loop-m.stage c.loop-m.stage _ c.fail_turn.new.m _ _ refl
      (failing_goes c.loop-m.stage (sym c.is_failing.ensures ∙ c.loop-m-test.true))
      (at_failing tables c.loop-m.m c.loop-m.stage (sym c.is_failing.ensures ∙ c.loop-m-test.true)) (c.loop-m.invariant.steps tables named ready)
      (c.in_ok-stage.ensures.steps tables named (c.loop-m.invariant.ready tables named ready));
  ready = λ tables named ready. c.in_ok-stage.ensures.ready tables named (c.loop-m.invariant.ready tables named ready);
  limits = c.in_ok-stage.ensures.within.limits ∙ c.loop-m.invariant.limits;
}

pub returns-clause-steps : goal.returns-clause-steps
returns-clause-steps g c tables named ready = c.loop-m.invariant.steps tables named ready

pub returns-clause-ready : goal.returns-clause-ready
returns-clause-ready g c tables named ready = c.loop-m.invariant.ready tables named ready

pub returns-clause-fails_no_more : goal.returns-clause-fails_no_more
returns-clause-fails_no_more g c = sym c.is_failing.ensures ∙ c.loop-m-test.false

pub returns-clause-within : goal.returns-clause-within
returns-clause-within g c = record {
  halt = search rules;
  limits = c.loop-m.invariant.limits;
}
