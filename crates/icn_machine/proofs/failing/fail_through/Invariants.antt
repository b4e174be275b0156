use Rattle.std.proofs.Common.{◌≡◌, Ok, ◌-◌}
use Rattle.icn_code.specs.Codes.{Tables}
use Rattle.icn_run.specs.Step.{all_names}
use Rattle.icn_machine.specs.Stepping.{GoesOn, IsFailing, IsReady, is_failing}
use Rattle.icn_machine.proofs.LoopSteps.{failing_left}
use Rattle.icn_machine.proofs.failing.fail_through.Given as goal

abbrev pub invariant-loop-m : goal.invariant-loop-m
invariant-loop-m g l = record {
  steps : (tables : Tables) → all_names tables ≡ g.N.Names.known l.names → IsReady tables l.initial.m l.fn.from
      → GoesOn IsFailing tables l.initial.m l.fn.from (g.S.Streams.state l.initial.streams) l.m (g.S.Streams.state l.streams) (Ok l.stage);
  ready : (tables : Tables) → all_names tables ≡ g.N.Names.known l.names → IsReady tables l.initial.m l.fn.from → IsReady tables l.m l.stage;
  limits : l.m.limits ≡ l.initial.m.limits;
}

abbrev pub decreases-loop-m : goal.decreases-loop-m
decreases-loop-m g l = failing_left (is_failing l.stage) (l.m.limits.turns - l.m.turns)
