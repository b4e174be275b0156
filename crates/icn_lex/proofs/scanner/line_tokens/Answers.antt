use Rattle.std.proofs.lemmas.Result.{err_from_is_err_and}
use Rattle.icn_lex.proofs.scanner.line_tokens.Goals as goal

pub returns-in_err-text-in-Some : goal.returns-in_err-text-in-Some
returns-in_err-text-in-Some c =
    λ later all r. let p = err_from_is_err_and c.from_residual.result c.from_residual.ensures.1 in
    rw (p.1, p.2)
    (c.in_err-text-in-Some.ensures.exact later all (rw (c.split_at.ensures.back, c.blanks_len.ensures.counted, c.as_slice-text.ensures) (rw c.in-Some.is at r)))
