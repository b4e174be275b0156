use Rattle.std.proofs.Common.{◌≡◌, ◌<◌, inl, refl, sym, ◌∙◌, subst, true}
use Rattle.std.specs.Prelude.{IfErr, IfOk}
use Rattle.icn_vars.specs.Outcomes.{IsLiveHalt}
use Rattle.icn_code.specs.CodeTables.{tables_of}
use Rattle.icn_control.specs.Machines.{world_reach}
use Rattle.icn_control.specs.declared.machine.RunState.TheVariants as RunStates
use Rattle.icn_machine.specs.Stepping.{GoesOn, IsAny, IsReady, advances, stays}
use Rattle.icn_machine.specs.AfterInstruction.{stage_of, stage_result}
use Rattle.icn_machine.proofs.AdvanceSteps.{advances_any}
use Rattle.icn_machine.proofs.AtOnceAnswers.{finished, off_alike, ready_alike_done, running_ready, running_step}
use Rattle.icn_machine.proofs.LoopSteps.{failing_left}
use Rattle.icn_running.specs.declared.running.AfterTurn.{AfterTurn}
use Rattle.icn_running.specs.declared.running.AfterTurn.TheVariants as AfterTurns
use Rattle.icn_running.specs.WorkLeft.{left_now}
use Rattle.icn_running.specs.DueInstructions.{is_within, step_result}
use Rattle.icn_running.proofs.LoopSteps.{ended_by_turn, goes_true, lasts_next, left_falls, ready_due, run_next, turn_next, within_is}
use Rattle.icn_running.proofs.running.run_to_turn.Goals as goal

pub loop-m-init : goal.loop-m-init
loop-m-init g c = record {
  steps = stays refl refl refl;
  ready = c.requires.ready;
  lasts = λ on. c.requires.lasts;
  turn = λ on. inl refl;
  halted = tt;
  limits = refl;
  turns = refl;
}

pub step_at_once-done-requires : goal.step_at_once-done-requires
step_at_once-done-requires g c =
    let on = within_is c.loop-m.after c.loop-m.m.turns c.args.m.now.turns (sym c.is_within.ensures ∙ c.loop-m-test.true) in
    ready_due (tables_of c.args.code.now.code) c.loop-m.m c.loop-m.after c.loop-m.halt on.0 c.loop-m.invariant.ready

pub finish-after-requires-clause-ready : goal.finish-after-requires-clause-ready
finish-after-requires-clause-ready g c =
    let t = tables_of c.args.code.now.code in
    let on = within_is c.loop-m.after c.loop-m.m.turns c.args.m.now.turns (sym c.is_within.ensures ∙ c.loop-m-test.true) in
    ready_alike_done t c.loop-m.m c.step_at_once-done.new.m c.step_at_once-done.result
    (ready_due t c.loop-m.m c.loop-m.after c.loop-m.halt on.0 c.loop-m.invariant.ready) c.step_at_once-done.ensures

pub finish-after-requires-clause-off_stack : goal.finish-after-requires-clause-off_stack
finish-after-requires-clause-off_stack g c q instr at =
    off_alike (tables_of c.args.code.now.code) c.loop-m.m c.step_at_once-done.new.m c.step_at_once-done.result c.step_at_once-done.ensures q instr at

pub loop-m-smaller-then-is_unfinished : goal.loop-m-smaller-then-is_unfinished
loop-m-smaller-then-is_unfinished g c =
    let t = tables_of c.args.code.now.code in
    let m = c.loop-m.m in
    let s = c.step_at_once-done in
    let f = c.finish-after in
    let test : is_within c.loop-m.after m.turns c.args.m.now.turns ≡ true = sym c.is_within.ensures ∙ c.loop-m-test.true in
    let on = within_is c.loop-m.after m.turns c.args.m.now.turns test in
    subst (λ b. failing_left (is_within f.result f.new.m.turns c.args.m.now.turns) (left_now t f.new.m)
    < failing_left b (left_now t m))
    (sym test)
    (left_falls t m _ f.new.m _ (c.loop-m.invariant.lasts (goes_true c.loop-m.after on.0)) f.result f.new.halt
    c.args.m.now.turns on.1
    (advances_any (finished t m _ s.new.m f.new.m _ (step_result f.result f.new.halt) s.result s.ensures f.ensures.steps)))

pub loop-m-preserved-then-is_unfinished : goal.loop-m-preserved-then-is_unfinished
loop-m-preserved-then-is_unfinished g c =
    let t = tables_of c.args.code.now.code in
    let m = c.loop-m.m in
    let s = c.step_at_once-done in
    let f = c.finish-after in
    let on = within_is c.loop-m.after m.turns c.args.m.now.turns (sym c.is_within.ensures ∙ c.loop-m-test.true) in
    let limits = f.ensures.within.limits ∙ s.ensures.limits in
    let steps = advances_any (finished t m _ s.new.m f.new.m _ (step_result f.result f.new.halt) s.result s.ensures f.ensures.steps) in
    let lasts = c.loop-m.invariant.lasts (goes_true c.loop-m.after on.0) in
    record {
      steps = run_next t c.args.m.now _ m c.loop-m.after c.loop-m.halt _ f.new.m _ _ on.0 c.loop-m.invariant.steps (advances steps);
      ready = f.ensures.ready;
      lasts = lasts_next t m _ f.new.m _ lasts f.result f.new.halt limits steps;
      turn = turn_next t m _ f.new.m _ lasts c.args.m.now f.result f.new.halt on.1 c.loop-m.invariant.limits steps;
      halted = f.ensures.within.halt;
      limits = limits ∙ c.loop-m.invariant.limits;
      turns = refl;
    }

pub loop-m-smaller : goal.loop-m-smaller
loop-m-smaller g c =
    let t = tables_of c.args.code.now.code in
    let m = c.loop-m.m in
    let s = c.step_at_once-done in
    let test : is_within c.loop-m.after m.turns c.args.m.now.turns ≡ true = sym c.is_within.ensures ∙ c.loop-m-test.true in
    let on = within_is c.loop-m.after m.turns c.args.m.now.turns test in
    let lasts = c.loop-m.invariant.lasts (goes_true c.loop-m.after on.0) in
    let steps = advances_any (running_step t m s.new.m s.result s.ensures (sym c.is_unfinished.ensures ∙ c.if-is_unfinished.false)
    (g.S.Streams.state c.loop-m.streams)) in
    let falls = left_falls t m _ s.new.m _ lasts AfterTurns.Running c.loop-m.halt c.args.m.now.turns on.1 steps in
    subst (λ b. failing_left (is_within c.loop-m.after s.new.m.turns c.args.m.now.turns) (left_now t s.new.m) < failing_left b (left_now t m))
    (sym test)
    (subst (λ (x : AfterTurn). failing_left (is_within x s.new.m.turns c.args.m.now.turns) (left_now t s.new.m) < failing_left true (left_now t m))
    (sym on.0) falls)

pub loop-m-preserved : goal.loop-m-preserved
loop-m-preserved g c =
    let t = tables_of c.args.code.now.code in
    let m = c.loop-m.m in
    let s = c.step_at_once-done in
    let halt = c.loop-m.halt in
    let on = within_is c.loop-m.after m.turns c.args.m.now.turns (sym c.is_within.ensures ∙ c.loop-m-test.true) in
    let off = sym c.is_unfinished.ensures ∙ c.if-is_unfinished.false in
    let lasts = c.loop-m.invariant.lasts (goes_true c.loop-m.after on.0) in
    let h = g.S.Streams.state c.loop-m.streams in
    let steps = advances_any (running_step t m s.new.m s.result s.ensures off h) in
    let is : AfterTurns.Running ≡ c.loop-m.after = sym on.0 in
    record {
      steps = run_next t c.args.m.now _ m c.loop-m.after halt _ s.new.m _ _ on.0 c.loop-m.invariant.steps
          (subst (λ (x : AfterTurn). GoesOn IsAny t m RunStates.Running h s.new.m h (stage_result (step_result x halt))) is (advances steps));
      ready = subst (λ (x : AfterTurn). IfOk (step_result x halt) (λ stepped. IsReady t s.new.m (stage_of stepped))) is
          (running_ready t m s.new.m s.result s.ensures off);
      lasts = λ q. lasts_next t m _ s.new.m _ lasts AfterTurns.Running halt s.ensures.limits steps (goes_true AfterTurns.Running refl);
      turn = λ q. turn_next t m _ s.new.m _ lasts c.args.m.now AfterTurns.Running halt on.1 c.loop-m.invariant.limits steps
          (goes_true AfterTurns.Running refl);
      halted = subst (λ (x : AfterTurn). IfErr (step_result x halt) (IsLiveHalt (world_reach s.new.m))) is tt;
      limits = s.ensures.limits ∙ c.loop-m.invariant.limits;
      turns = refl;
    }

pub returns-clause-steps : goal.returns-clause-steps
returns-clause-steps g c = c.loop-m.invariant.steps

pub returns-clause-ready : goal.returns-clause-ready
returns-clause-ready g c = c.loop-m.invariant.ready

pub returns-clause-lasts : goal.returns-clause-lasts
returns-clause-lasts g c = c.loop-m.invariant.lasts

pub returns-clause-turn : goal.returns-clause-turn
returns-clause-turn g c =
    ended_by_turn c.args.m.now c.loop-m.m c.loop-m.after c.args.m.now.turns refl (sym c.is_within.ensures ∙ c.loop-m-test.false)
    c.loop-m.invariant.turn

pub returns-clause-halt : goal.returns-clause-halt
returns-clause-halt g c = c.loop-m.invariant.halted

pub returns-clause-limits : goal.returns-clause-limits
returns-clause-limits g c = c.loop-m.invariant.limits
