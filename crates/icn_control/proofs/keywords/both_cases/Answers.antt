use Rattle.icn_control.proofs.KeywordSets.{letters_members}
use Rattle.icn_control.proofs.keywords.both_cases.Goals as goal

pub returns : goal.returns
returns c = letters_members
