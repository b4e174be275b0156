use Rattle.std.proofs.Common.{sym}
use Rattle.icn_link.proofs.RepeatedNames.{met_step}
use Rattle.icn_link.proofs.repeats.check_repeats.Goals as goal

pub loop-owner-preserved : goal.loop-owner-preserved
loop-owner-preserved c =
    met_step c.loop-owner.places c.insert.new.self c.args.owners.now c.loop-owner.owner-index _ c.loop-owner-test.true c.loop-owner.invariant
    (sym c.in-None.ensures.value) c.in_ok-insert.ensures.updates
