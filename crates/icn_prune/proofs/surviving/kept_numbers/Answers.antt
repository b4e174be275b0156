use Rattle.icn_prune.proofs.SurvivingTables.{number_next}
use Rattle.icn_prune.proofs.surviving.kept_numbers.Goals as goal

pub loop-number-preserved : goal.loop-number-preserved
loop-number-preserved c =
    number_next c.args.keep.now c.loop-number.number _ _ _ _ c.loop-number-test.true c.in_ok-push_if.ensures c.loop-number.invariant
