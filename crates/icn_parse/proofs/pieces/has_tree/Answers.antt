use Rattle.icn_parse.proofs.ReadOutcomes.{not_read, tree_of_read}
use Rattle.std.proofs.Common.{length}
use Rattle.icn_parse.proofs.pieces.has_tree.Goals as goal
use Rattle.icn_parse.proofs.pieces.has_tree.Goals.{in-Ok, in-Err-NotHere, in-Err-NoMemory}

pub returns : goal.returns
returns c = elim c.match-read_file.branch [
  | in-Ok w ↦ rw w.result-is (tree_of_read c.args.tokens.now (length c.args.tokens.now) _ w.in-Ok.ensures)
  | in-Err-NotHere w ↦ rw w.result-is (not_read c.args.tokens.now _ w.in-Err-NotHere.field-0-is w.in-Err-NotHere.ensures)
  | in-Err-NoMemory w ↦ rw w.result-is tt
]
