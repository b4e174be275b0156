use Rattle.std.proofs.Common.{map, sym}
use Rattle.std.proofs.lemmas.Result.{err_from_is_err_and}
use Rattle.icn_tree.specs.TreeOf.{declaration_of}
use Rattle.icn_parse.specs.Outcomes.{is_tree}
use Rattle.icn_parse.proofs.ReadOutcomes.{unfit_breaks}
use Rattle.icn_parse.proofs.parser.parse.Goals as goal

pub returns-clause-exact : goal.returns-clause-exact
returns-clause-exact c =
    let tree = c.in_ok-decls.ensures in
    is_tree (map declaration_of c.in_ok-decls.decls.items) tree.0 tree.1 (rw c.deref.ensures.value at (sym c.in_ok-check_declarations.ensures))

pub returns-in_err-check_declarations-clause-exact : goal.returns-in_err-check_declarations-clause-exact
returns-in_err-check_declarations-clause-exact c =
    let p = err_from_is_err_and c.from_residual-in_err-check_declarations.result c.from_residual-in_err-check_declarations.ensures.1 in
    rw (p.1, p.2) (unfit_breaks c.args.tokens.now
    (map declaration_of c.in_ok-decls.decls.items) _ c.in_ok-decls.ensures (rw c.deref.ensures.value at c.in_err-check_declarations.ensures))
