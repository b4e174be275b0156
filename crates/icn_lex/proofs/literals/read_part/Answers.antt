use Rattle.std.proofs.Common.{◌∙◌}
use Rattle.icn_lex.specs.Literals.{literal_of}
use Rattle.icn_lex.proofs.InsideLiterals.{at_end}
use Rattle.icn_lex.proofs.literals.read_part.Goals as goal

pub returns-clause-exact : goal.returns-clause-exact
returns-clause-exact c =
    rw c.unclosed_fault.ensures
    (λ later. c.loop-first.invariant.same later
    ∙ at_end c.args.line.now (literal_of c.args.opening c.loop-first.bytes.items) c.loop-first.rest.now later c.in_default.ensures.cases)
