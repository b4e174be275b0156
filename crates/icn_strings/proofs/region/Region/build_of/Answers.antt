use Rattle.icn_strings.proofs.KeptRegions.{sum_within}
use Rattle.icn_strings.proofs.region.Region.build_of.Goals as goal

pub returns-in_default-clause-within : goal.returns-in_default-clause-within
returns-in_default-clause-within c = sum_within c.args.self.now
