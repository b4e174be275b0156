use Rattle.std.proofs.Common.{rules}
use Rattle.icn_tree.proofs.TreeRows.{row_trees}
use Rattle.icn_tree.specs.declared.tree.Expr.{the_lemmas}
use Rattle.cases_grammar.proofs.building.list_of.Goals as goal

pub returns : goal.returns
returns c = search (rules, row_trees, the_lemmas)
