use Rattle.std.proofs.Common.{sym, subst, ◌∙◌}
use Rattle.icn_expr.specs.Views.{capped_of, elements_of}
use Rattle.icn_parse.proofs.BodyLoop.{BodySo, body_more, body_shorter}
use Rattle.icn_parse.proofs.procedure.read_body.Goals as goal

pub loop-alloc-smaller : goal.loop-alloc-smaller
loop-alloc-smaller c = body_shorter c.loop-alloc.rest.now c.in_ok-value.others.now c.in_ok-rest.rest.now (capped_of c.in_ok-value.value) c.in_ok-value.ensures
    (rw c.semicolon_next.ensures at c.in_ok-rest.ensures)

pub loop-alloc-preserved : goal.loop-alloc-preserved
loop-alloc-preserved c =
    subst (λ e. BodySo c.args.tokens.now e c.in_ok-rest.rest.now) (sym c.in_ok-done.ensures)
    (body_more c.args.tokens.now (elements_of c.loop-alloc.done) c.loop-alloc.rest.now c.in_ok-value.others.now c.in_ok-rest.rest.now
    (capped_of c.in_ok-value.value) c.loop-alloc.invariant (sym c.end_next.ensures ∙ c.loop-alloc-test.true) c.in_ok-value.ensures
    (rw c.semicolon_next.ensures at c.in_ok-rest.ensures))
