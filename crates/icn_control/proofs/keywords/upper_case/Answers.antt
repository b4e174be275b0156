use Rattle.icn_control.proofs.KeywordSets.{upper_members}
use Rattle.icn_control.proofs.keywords.upper_case.Goals as goal

pub returns : goal.returns
returns c = upper_members
