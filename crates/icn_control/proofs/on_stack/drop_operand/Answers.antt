use Rattle.icn_control.proofs.LiveCalls.{live_dropped}
use Rattle.icn_control.proofs.StackSteps.{dropped_runs}
use Rattle.icn_control.proofs.on_stack.drop_operand.Goals as goal

pub returns-clause-step : goal.returns-clause-step
returns-clause-step g c = dropped_runs c.args.frames.now.flat c.drop_top.new.self.flat c.requires c.drop_top.ensures.flat

pub returns-clause-live : goal.returns-clause-live
returns-clause-live g c t reach k = live_dropped t reach c.args.frames.now.flat c.drop_top.new.self.flat c.requires c.drop_top.ensures.flat k
