use Rattle.std.proofs.Common.{◌≡◌, length}
use Rattle.icn_code.specs.Codes.{Tables}
use Rattle.icn_control.specs.Machines.{stack_seen}
use Rattle.icn_control.specs.declared.machine.RunState.TheVariants as RunStates
use Rattle.icn_machine.specs.AnsweredAtOnce.{fails_in_turn}
use Rattle.icn_machine.specs.Stepping.{IsReady}
use Rattle.icn_machine.proofs.FailingAtOnce.{FailsSoFar}
use Rattle.icn_machine.proofs.LoopSteps.{failing_left}
use Rattle.icn_machine.proofs.failing.fail_turn_at_once.Given as goal

abbrev pub invariant-loop-done : goal.invariant-loop-done
invariant-loop-done g l = record {
  so_far : (tables : Tables) → IsReady tables l.initial.m RunStates.Failing → FailsSoFar tables l.initial.m l.m l.done;
  turns : l.turns ≡ l.initial.m.turns;
}

abbrev pub decreases-loop-done : goal.decreases-loop-done
decreases-loop-done g l = failing_left (fails_in_turn l.done l.m.turns l.turns) (length (stack_seen l.m).cells)
