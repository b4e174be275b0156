use Rattle.icn_control.proofs.KeywordSets.{all_members}
use Rattle.icn_control.proofs.keywords.all_bytes.Goals as goal

pub returns : goal.returns
returns c = all_members
