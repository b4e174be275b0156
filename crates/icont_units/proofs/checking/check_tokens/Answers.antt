use Rattle.std.proofs.lemmas.Result.{err_from_is_err_and}
use Rattle.icn_tree.specs.TreeOf.{declarations_of}
use Rattle.icont_units.proofs.CheckedSources.{are_checked}
use Rattle.icont_units.proofs.StageAnswers.{parse_stops, context_stops}
use Rattle.icont_units.proofs.checking.check_tokens.Goals as goal

pub returns-in_err-file : goal.returns-in_err-file
returns-in_err-file c =
    let p = err_from_is_err_and c.from_residual.result c.from_residual.ensures.1 in rw (p.1, p.2) (parse_stops c.args.tokens.now _ c.in_err-file.ensures.exact)

pub returns-in_err-checked : goal.returns-in_err-checked
returns-in_err-checked c =
    let p = err_from_is_err_and c.from_residual-in_err-checked.result c.from_residual-in_err-checked.ensures.1 in
    rw (p.1, p.2) (context_stops c.args.tokens.now (declarations_of c.in_ok-file.file) _ c.in_ok-file.ensures.exact c.in_err-checked.ensures.first)

pub returns : goal.returns
returns c = are_checked c.args.tokens.now c.in_ok-checked.checked c.in_ok-file.file c.in_ok-file.ensures.exact c.in_ok-checked.ensures.same
