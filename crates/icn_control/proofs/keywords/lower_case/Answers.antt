use Rattle.icn_control.proofs.KeywordSets.{lower_members}
use Rattle.icn_control.proofs.keywords.lower_case.Goals as goal

pub returns : goal.returns
returns c = lower_members
