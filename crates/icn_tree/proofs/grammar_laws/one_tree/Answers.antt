use Rattle.icn_tree.proofs.OneFileTree.{one_file, one_declaration}
use Rattle.icn_tree.proofs.OneExpressionTree.{one_expression}
use Rattle.icn_tree.proofs.grammar_laws.one_tree.Goals as goal

pub returns : goal.returns
returns c = record { file = one_file; declaration = one_declaration; expression = one_expression }
