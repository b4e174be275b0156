use Rattle.icn_control.proofs.LiveCalls.{live_unmark}
use Rattle.icn_control.proofs.StackSteps.{unmark_runs}
use Rattle.icn_control.proofs.on_stack.drop_mark.Goals as goal

pub returns-clause-step : goal.returns-clause-step
returns-clause-step g c = unmark_runs c.args.frames.now.flat c.unmark.new.self.flat c.unmark.result c.unmark.ensures.flat

pub returns-clause-live : goal.returns-clause-live
returns-clause-live g c t reach k = (live_unmark t reach c.args.frames.now.flat c.unmark.new.self.flat c.unmark.result c.unmark.ensures.flat k).rest

pub returns-clause-pair : goal.returns-clause-pair
returns-clause-pair g c t reach k = (live_unmark t reach c.args.frames.now.flat c.unmark.new.self.flat c.unmark.result c.unmark.ensures.flat k).pair_live
