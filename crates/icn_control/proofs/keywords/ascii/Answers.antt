use Rattle.icn_control.proofs.KeywordSets.{ascii_members}
use Rattle.icn_control.proofs.keywords.ascii.Goals as goal

pub returns : goal.returns
returns c = ascii_members
