use Rattle.std.proofs.Common.{sym, ◌∙◌}
use Rattle.std.proofs.lemmas.Result.{err_from_is_err_and}
use Rattle.icn_lex.proofs.OutsideLiterals.{at_space, at_comment, at_text_end}
use Rattle.icn_lex.proofs.ReadSoFar.{reads_same}
use Rattle.icn_lex.proofs.scanner.text_tokens.Goals as goal

pub loop-first-preserved-then-is_space : goal.loop-first-preserved-then-is_space
loop-first-preserved-then-is_space c =
    λ later all r. reads_same all c.loop-first.tokens.items
    _ _ (at_space c.args.line.now c.loop-first.is_first c.in-Some.first.now c.in-Some.others.now c.loop-first.rest.now later c.in-Some.ensures.cases.0
    (sym c.is_space.ensures ∙ c.if-is_space.true)) (c.loop-first.invariant later all r)

pub returns-then-begins_comment : goal.returns-then-begins_comment
returns-then-begins_comment c =
    λ later all r. reads_same all c.loop-first.tokens.items
    _ _ (at_comment c.args.line.now c.loop-first.is_first c.in-Some.first.now c.in-Some.others.now c.loop-first.rest.now later c.in-Some.ensures.cases.0
    (sym c.is_space.ensures ∙ c.if-is_space.false) (sym c.begins_comment.ensures ∙ c.if-begins_comment.true)) (c.loop-first.invariant later all r)

pub returns-in_err-behind : goal.returns-in_err-behind
returns-in_err-behind c =
    λ later all r. let p = err_from_is_err_and c.from_residual.result c.from_residual.ensures.1 in
    rw (p.1, p.2) (c.in_err-behind.ensures.exact later all (c.loop-first.invariant later all r))

pub returns : goal.returns
returns c =
    λ later all r. reads_same all c.loop-first.tokens.items
    _ _ (at_text_end c.args.line.now c.loop-first.is_first c.loop-first.rest.now later c.in_default.ensures.cases) (c.loop-first.invariant later all r)
