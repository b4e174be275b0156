use Rattle.std.proofs.lemmas.Result.{err_from_is_err_and}
use Rattle.icn_lex.proofs.OutsideLiterals.{broken_all, token_all, token_within, shorter}
use Rattle.icn_lex.proofs.scanner.bare_token.Goals as goal

pub returns-in_err-kind-clause-exact : goal.returns-in_err-kind-clause-exact
returns-in_err-kind-clause-exact c =
    λ later all r. let p = err_from_is_err_and c.from_residual.result c.from_residual.ensures.1 in
    rw (p.1, p.2)
    (broken_all c.args.line.now c.args.is_first c.args.bytes.now later all c.args.tokens.now.items c.in_err-kind.field-0.0 c.requires c.in_err-kind.ensures r)

pub returns-clause-exact : goal.returns-clause-exact
returns-clause-exact c =
    λ later all r. rw (c.in_ok-push.ensures, c.split_at.ensures.back)
    (token_all c.args.line.now c.args.is_first c.args.bytes.now later all c.args.tokens.now.items c.in_ok-kind.kind c.in_ok-kind.count c.requires
    c.in_ok-kind.ensures r)

pub split_at-requires : goal.split_at-requires
split_at-requires c = (token_within c.args.bytes.now c.in_ok-kind.kind c.in_ok-kind.count c.in_ok-kind.ensures).1

pub returns-clause-shorter : goal.returns-clause-shorter
returns-clause-shorter c = rw c.split_at.ensures.back (shorter c.args.bytes.now c.in_ok-kind.kind c.in_ok-kind.count c.in_ok-kind.ensures)
