use Rattle.icn_parse.proofs.ReadOutcomes.{tree_read}
use Rattle.icn_parse.proofs.parse_laws.trees_are_read.Goals as goal

pub returns : goal.returns
returns c = tree_read
