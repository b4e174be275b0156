use Rattle.std.proofs.Common.{false}
use Rattle.icn_lex.specs.Literals.{literal_of, scan_text, scan_inside}
use Rattle.icn_lex.proofs.OutsideLiterals.{closed_all}
use Rattle.icn_lex.proofs.scanner.rest_of_literal.Goals as goal

pub returns-in_ok-push-in-Closed-clause-exact : goal.returns-in_ok-push-in-Closed-clause-exact
returns-in_ok-push-in-Closed-clause-exact c =
    let opening = c.args.literal.opening in
    let read = literal_of opening c.read_part.new.bytes.items in
    λ later all r. rw c.in_ok-push-in-Closed.ensures
    (closed_all all c.args.tokens.now.items
    (scan_inside c.args.line.now (literal_of opening c.args.literal.bytes.items) c.args.text.now later) read c.in_ok-token-in-Closed.token
    (scan_text c.args.line.now false c.in-Closed.behind.now later) ((rw c.in-Closed.is at c.in_ok-behind.ensures.exact) later)
    (c.in_ok-token-in-Closed.ensures _) r)
