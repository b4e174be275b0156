use Rattle.std.proofs.Common.{◌≡◌, Ok, length}
use Rattle.icn_code.specs.Codes.{Tables}
use Rattle.icn_run.specs.Step.{all_names}
use Rattle.icn_control.specs.Machines.{stack_seen}
use Rattle.icn_control.specs.declared.machine.RunState.TheVariants as RunStates
use Rattle.icn_machine.specs.Stepping.{GoesOn, IsFailing, IsReady, fails_within}
use Rattle.icn_machine.proofs.LoopSteps.{WithinTurn, failing_left}
use Rattle.icn_machine.proofs.failing.fail_to_turn.Given as goal

abbrev pub invariant-loop-stage : goal.invariant-loop-stage
invariant-loop-stage g l = record {
  steps : (tables : Tables) → all_names tables ≡ g.N.Names.known l.names → IsReady tables l.initial.m RunStates.Failing
      → GoesOn IsFailing tables l.initial.m RunStates.Failing (g.S.Streams.state l.initial.streams) l.m (g.S.Streams.state l.streams) (Ok l.stage);
  ready : (tables : Tables) → all_names tables ≡ g.N.Names.known l.names → IsReady tables l.initial.m RunStates.Failing → IsReady tables l.m l.stage;
  turn : WithinTurn l.initial.m l.m l.stage;
  limits : l.m.limits ≡ l.initial.m.limits;
  turns : l.turns ≡ l.initial.m.turns;
}

abbrev pub decreases-loop-stage : goal.decreases-loop-stage
decreases-loop-stage g l = failing_left (fails_within l.stage l.m.turns l.turns) (length (stack_seen l.m).cells)
