use Rattle.icn_control.proofs.LiveSets.{live_relabel}
use Rattle.icn_control.proofs.StackSteps.{relabel_runs}
use Rattle.icn_control.proofs.on_stack.change_label.Goals as goal

pub returns-clause-step : goal.returns-clause-step
returns-clause-step g c = relabel_runs c.args.frames.now.flat c.relabel.new.self.flat c.args.label c.relabel.ensures.flat

pub returns-clause-live : goal.returns-clause-live
returns-clause-live g c t reach k = live_relabel t reach c.args.frames.now.flat c.relabel.new.self.flat c.args.label c.relabel.ensures.flat k
