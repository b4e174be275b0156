use Rattle.icn_machine.proofs.StartLoops.{more_false}
use Rattle.icn_machine.proofs.starting.none_begun.Goals as goal

pub loop-i-init : goal.loop-i-init
loop-i-init c = record { is = c.new-begun.ensures.items }

pub loop-i-preserved : goal.loop-i-preserved
loop-i-preserved c = record { is = more_false c.loop-i.begun.items c.push.new.self.items c.loop-i.i c.in_ok-push.ensures.items c.loop-i.invariant.is }
