use Rattle.std.proofs.Common.{refl}
use Rattle.icn_strings.proofs.KeptRegions.{keeps_same}
use Rattle.icn_strings.proofs.region.Region.charge.Goals as goal

pub returns-clause-kept : goal.returns-clause-kept
returns-clause-kept c = keeps_same refl refl refl refl
