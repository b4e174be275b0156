use Rattle.icn_strings.proofs.GatheredRuns.{taken_next}
use Rattle.icn_strings.proofs.region.Region.take_in.Goals as goal

pub returns-in_ok-keep_run-in-None : goal.returns-in_ok-keep_run-in-None
returns-in_ok-keep_run-in-None c =
    taken_next c.args.self.now _ _ c.args.run c.args.range c.requires.range c.in-None.ensures.apart
    c.in_ok-keep_run-in-None.ensures
