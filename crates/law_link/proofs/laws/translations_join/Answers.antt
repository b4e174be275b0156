use Rattle.law_link.proofs.JoinedCode.{units_join}
use Rattle.law_link.proofs.laws.translations_join.Goals as goal

pub returns : goal.returns
returns c names files same faultless = units_join names files same faultless
