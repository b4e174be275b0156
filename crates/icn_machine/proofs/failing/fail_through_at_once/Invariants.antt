use Rattle.std.proofs.Common.{◌-◌}
use Rattle.icn_code.specs.Codes.{Tables}
use Rattle.icn_control.specs.declared.machine.RunState.TheVariants as RunStates
use Rattle.icn_machine.specs.AnsweredAtOnce.{fails_at_once}
use Rattle.icn_machine.specs.Stepping.{IsReady}
use Rattle.icn_machine.proofs.FailingAtOnce.{FailsAllTheWay}
use Rattle.icn_machine.proofs.LoopSteps.{failing_left}
use Rattle.icn_machine.proofs.failing.fail_through_at_once.Given as goal

abbrev pub invariant-loop-done : goal.invariant-loop-done
invariant-loop-done g l = record {
  way : (tables : Tables) → IsReady tables l.initial.m RunStates.Failing → FailsAllTheWay tables l.initial.m l.m l.done;
}

abbrev pub decreases-loop-done : goal.decreases-loop-done
decreases-loop-done g l = failing_left (fails_at_once l.done) (l.m.limits.turns - l.m.turns)
