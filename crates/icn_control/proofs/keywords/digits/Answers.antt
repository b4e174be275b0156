use Rattle.icn_control.proofs.KeywordSets.{digits_members}
use Rattle.icn_control.proofs.keywords.digits.Goals as goal

pub returns : goal.returns
returns c = digits_members
