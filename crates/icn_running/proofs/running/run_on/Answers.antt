use Rattle.std.proofs.Common.{◌≡◌, ◌<◌, ◌-◌, Result, refl, sym, ◌∙◌, subst, true}
use Rattle.std.specs.Prelude.{IfErr, IfOk, false}
use Rattle.icn_vars.specs.declared.outcome.Halt.{Halt}
use Rattle.icn_vars.specs.Outcomes.{IsLiveHalt}
use Rattle.icn_code.specs.CodeTables.{tables_of}
use Rattle.icn_control.specs.Machines.{world_reach}
use Rattle.icn_control.specs.declared.machine.RunState.TheVariants as RunStates
use Rattle.icn_machine.specs.declared.stepping.AfterStep.{AfterStep}
use Rattle.icn_machine.specs.Stepping.{Advances, IsAny, stays}
use Rattle.icn_machine.specs.AfterInstruction.{stage_result}
use Rattle.icn_machine.proofs.LoopSteps.{failing_left}
use Rattle.icn_running.specs.DueInstructions.{goes_on, is_on}
use Rattle.icn_running.proofs.CollectedMachines.{goes_same, lasts_same, ready_same, turn_same}
use Rattle.icn_running.proofs.LoopSteps.{goes_is, goes_true, ready_due, run_next, run_over, stopped, turns_fall}
use Rattle.icn_running.proofs.running.run_on.Goals as goal

pub loop-after-init : goal.loop-after-init
loop-after-init g c = record {
  steps = stays refl refl refl;
  ready = c.requires.ready;
  lasts = λ on. c.requires.lasts;
  halted = tt;
  limits = refl;
}

pub collect_if_due-requires : goal.collect_if_due-requires
collect_if_due-requires g c =
    let tables = tables_of c.args.code.now.code in
    let on = goes_is c.loop-after.after (sym c.goes_on.ensures ∙ c.loop-after-test.true) in
    (tables, (ready_due tables c.loop-after.m c.loop-after.after c.loop-after.halt on c.loop-after.invariant.ready).sound)

pub run_to_turn-after-requires : goal.run_to_turn-after-requires
run_to_turn-after-requires g c =
    let tables = tables_of c.args.code.now.code in
    let on = goes_is c.loop-after.after (sym c.goes_on.ensures ∙ c.loop-after-test.true) in
    record {
      ready =
          ready_same c.loop-after.m c.collect_if_due.new.m c.collect_if_due.ensures tables
          (ready_due tables c.loop-after.m c.loop-after.after c.loop-after.halt on c.loop-after.invariant.ready);
      lasts =
          lasts_same c.loop-after.m c.collect_if_due.new.m c.collect_if_due.ensures tables
          (c.loop-after.invariant.lasts (goes_true c.loop-after.after on));
    }

pub loop-after-smaller : goal.loop-after-smaller
loop-after-smaller g c =
    let tables = tables_of c.args.code.now.code in
    let n = c.run_to_turn-after in
    let test : goes_on c.loop-after.after ≡ true = sym c.goes_on.ensures ∙ c.loop-after-test.true in
    let before = turn_same c.loop-after.m c.collect_if_due.new.m c.collect_if_due.ensures tables n.new.m in
    subst (λ b. failing_left (goes_on n.result) (n.new.m.limits.turns - n.new.m.turns)
    < failing_left b (c.loop-after.m.limits.turns - c.loop-after.m.turns)) (sym test)
    (turns_fall c.loop-after.m n.new.m n.result (n.ensures.limits ∙ c.collect_if_due.ensures.limits)
    (λ on. before (n.ensures.turn on)))

pub loop-after-preserved : goal.loop-after-preserved
loop-after-preserved g c =
    let tables = tables_of c.args.code.now.code in
    let n = c.run_to_turn-after in
    let on = goes_is c.loop-after.after (sym c.goes_on.ensures ∙ c.loop-after-test.true) in
    let goes = goes_same c.loop-after.m c.collect_if_due.new.m c.collect_if_due.ensures tables
    _ n.new.m _ n.result n.new.halt n.ensures.turn n.ensures.steps in
    record {
      steps =
          run_next tables c.args.m.now _ c.loop-after.m c.loop-after.after c.loop-after.halt _ n.new.m _ _ on
          c.loop-after.invariant.steps goes;
      ready = n.ensures.ready;
      lasts = n.ensures.lasts;
      halted = n.ensures.halt;
      limits = n.ensures.limits ∙ (c.collect_if_due.ensures.limits ∙ c.loop-after.invariant.limits);
    }

pub returns-clause-steps : goal.returns-clause-steps
returns-clause-steps g c =
    let tables = tables_of c.args.code.now.code in
    subst (λ (r : Result AfterStep Halt). Advances IsAny tables c.args.m.now RunStates.Running (g.S.Streams.state c.args.streams.now) c.loop-after.m
    (g.S.Streams.state c.loop-after.streams) (stage_result r))
    (sym c.step_result.ensures)
    (run_over tables c.args.m.now _ c.loop-after.m _ c.loop-after.after c.loop-after.halt (sym c.goes_on.ensures ∙ c.loop-after-test.false)
    c.loop-after.invariant.steps)

pub returns-clause-stops : goal.returns-clause-stops
returns-clause-stops g c =
    subst (λ (r : Result AfterStep Halt). IfOk r (λ stepped. is_on stepped ≡ false)) (sym c.step_result.ensures)
    (stopped c.loop-after.after c.loop-after.halt (sym c.goes_on.ensures ∙ c.loop-after-test.false))

pub returns-clause-halt : goal.returns-clause-halt
returns-clause-halt g c =
    subst (λ (r : Result AfterStep Halt). IfErr r (IsLiveHalt (world_reach c.loop-after.m))) (sym c.step_result.ensures) c.loop-after.invariant.halted

pub returns-clause-limits : goal.returns-clause-limits
returns-clause-limits g c = c.loop-after.invariant.limits
