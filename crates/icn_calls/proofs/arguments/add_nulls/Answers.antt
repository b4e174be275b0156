use Rattle.std.proofs.Common.{sym, append-nil}
use Rattle.icn_calls.proofs.CallSteps.{nulls_more}
use Rattle.icn_calls.proofs.arguments.add_nulls.Goals as goal

pub loop-i-init : goal.loop-i-init
loop-i-init c = record { is = sym (append-nil c.args.vals.now.items) }

pub loop-i-preserved : goal.loop-i-preserved
loop-i-preserved c =
    record { is = nulls_more c.args.vals.now.items c.loop-i.vals.items c.push.new.self.items c.loop-i.i c.in_ok-push.ensures.items c.loop-i.invariant.is }
