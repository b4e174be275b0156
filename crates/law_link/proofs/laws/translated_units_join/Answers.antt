use Rattle.law_link.proofs.JoinedCode.{unit_joins}
use Rattle.law_link.proofs.laws.translated_units_join.Goals as goal

pub returns : goal.returns
returns c name file faultless = unit_joins name file faultless
