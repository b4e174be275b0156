use Rattle.icn_tree.proofs.Piecewise.{tree_by_pieces}
use Rattle.icn_tree.proofs.grammar_laws.tree_by_pieces.Goals as goal

pub returns : goal.returns
returns c = tree_by_pieces
