use Rattle.std.proofs.Common.{refl, arith}
use Rattle.icn_strings.proofs.GatheredRuns.{gathered_all, gathered_next, gathered_none}
use Rattle.icn_strings.proofs.region.Region.gather.Goals as goal

pub loop-range-init : goal.loop-range-init
loop-range-init c = gathered_none c.args.self.now c.args.ranges.now _ _ c.nothing-fresh.ensures refl refl

pub take_in-requires-clause-range : goal.take_in-requires-clause-range
take_in-requires-clause-range c = c.requires.of c.loop-range.range-index _ c.loop-range-test.true

pub take_in-requires-clause-from : goal.take_in-requires-clause-from
take_in-requires-clause-from c = c.loop-range.invariant.from c.loop-range.range-index _ (omega arith) c.loop-range-test.true

pub loop-range-preserved : goal.loop-range-preserved
loop-range-preserved c =
    gathered_next c.args.self.now c.args.ranges.now c.loop-range.range-index _ _ _ _ _ c.requires.order c.loop-range-test.true c.loop-range.invariant
    c.in_ok-run.ensures

pub returns : goal.returns
returns c =
    gathered_all c.args.self.now c.args.ranges.now c.loop-range.range-index _ _ _ c.loop-range-test.false c.loop-range.invariant
    c.in_ok-keep_run.ensures
