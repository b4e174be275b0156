use Rattle.std.proofs.Common.{◌≡◌, ◌-◌}
use Rattle.std.specs.Prelude.{IfErr, IfOk, IsTrue}
use Rattle.icn_vars.specs.Outcomes.{IsLiveHalt}
use Rattle.icn_code.specs.CodeTables.{tables_of}
use Rattle.icn_control.specs.Machines.{world_reach}
use Rattle.icn_control.specs.declared.machine.RunState.TheVariants as RunStates
use Rattle.icn_machine.specs.Stepping.{GoesOn, IsAny, IsReady}
use Rattle.icn_machine.specs.AfterInstruction.{stage_of, stage_result}
use Rattle.icn_machine.proofs.LoopSteps.{failing_left}
use Rattle.icn_running.specs.WorkLeft.{Lasts}
use Rattle.icn_running.specs.DueInstructions.{goes_on, step_result}
use Rattle.icn_running.proofs.running.run_on.Given as goal

abbrev pub invariant-loop-after : goal.invariant-loop-after
invariant-loop-after g l = record {
  steps : GoesOn IsAny (tables_of l.code.code) l.initial.m RunStates.Running
      (g.S.Streams.state l.initial.streams)
      l.m (g.S.Streams.state l.streams) (stage_result (step_result l.after l.halt));
  ready : IfOk (step_result l.after l.halt) (λ stepped. IsReady (tables_of l.code.code) l.m (stage_of stepped));
  lasts : IsTrue (goes_on l.after) → Lasts (tables_of l.code.code) l.m;
  halted : IfErr (step_result l.after l.halt) (IsLiveHalt (world_reach l.m));
  limits : l.m.limits ≡ l.initial.m.limits;
}

abbrev pub decreases-loop-after : goal.decreases-loop-after
decreases-loop-after g l = failing_left (goes_on l.after) (l.m.limits.turns - l.m.turns)
