use Rattle.std.proofs.Common.{◌≡◌, ◌⊎◌}
use Rattle.std.specs.Prelude.{IfErr, IfOk, IsTrue}
use Rattle.icn_vars.specs.Outcomes.{IsLiveHalt}
use Rattle.icn_code.specs.CodeTables.{tables_of}
use Rattle.icn_control.specs.Machines.{world_reach}
use Rattle.icn_control.specs.declared.machine.RunState.TheVariants as RunStates
use Rattle.icn_machine.specs.Stepping.{GoesOn, IsAny, IsReady}
use Rattle.icn_machine.specs.AfterInstruction.{stage_of, stage_result}
use Rattle.icn_machine.proofs.LoopSteps.{failing_left}
use Rattle.icn_running.specs.WorkLeft.{Lasts, MadeTurn, left_now}
use Rattle.icn_running.specs.DueInstructions.{goes_on, is_within, step_result}
use Rattle.icn_running.proofs.running.run_to_turn.Given as goal

abbrev pub invariant-loop-m : goal.invariant-loop-m
invariant-loop-m g l = record {
  steps : GoesOn IsAny (tables_of l.code.code) l.initial.m RunStates.Running
      (g.S.Streams.state l.initial.streams)
      l.m (g.S.Streams.state l.streams) (stage_result (step_result l.after l.halt));
  ready : IfOk (step_result l.after l.halt) (λ stepped. IsReady (tables_of l.code.code) l.m (stage_of stepped));
  lasts : IsTrue (goes_on l.after) → Lasts (tables_of l.code.code) l.m;
  turn : IsTrue (goes_on l.after) → (l.m.turns ≡ l.initial.m.turns) ⊎ MadeTurn l.initial.m l.m;
  halted : IfErr (step_result l.after l.halt) (IsLiveHalt (world_reach l.m));
  limits : l.m.limits ≡ l.initial.m.limits;
  turns : l.turns ≡ l.initial.m.turns;
}

abbrev pub decreases-loop-m : goal.decreases-loop-m
decreases-loop-m g l = failing_left (is_within l.after l.m.turns l.turns) (left_now (tables_of l.code.code) l.m)
