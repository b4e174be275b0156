use Rattle.icn_control.specs.Machines.{stack_seen}
use Rattle.icn_control.proofs.hops.exhaust.Goals as goal

pub returns-clause-step : goal.returns-clause-step
returns-clause-step g c tables outside = c.pass_failure.ensures.step tables outside (stack_seen c.args.m.now)
