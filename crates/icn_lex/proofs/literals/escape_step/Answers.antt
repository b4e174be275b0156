use Rattle.std.proofs.Common.{sym, ◌∙◌}
use Rattle.icn_lex.specs.Literals.{literal_of}
use Rattle.icn_lex.proofs.InsideLiterals.{at_escape, not_empty}
use Rattle.icn_lex.proofs.literals.escape_step.Goals as goal

pub returns-clause-exact : goal.returns-clause-exact
returns-clause-exact c =
    λ later. rw (c.in_ok-push.ensures.items, c.split_at.ensures.back)
    (at_escape c.args.line.now (literal_of c.args.opening c.args.bytes.now.items) c.args.text.now later c.in-Some.byte c.in-Some.count
    (not_empty c.is_empty.result c.args.text.now c.if-is_empty.false c.is_empty.ensures) (sym c.in-Some.is ∙ c.escape.ensures.found))
