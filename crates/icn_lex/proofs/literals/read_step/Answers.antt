use Rattle.std.proofs.Common.{◌∷◌, sym, ◌∙◌}
use Rattle.icn_lex.specs.Literals.{literal_of, scan_escape, scan_inside}
use Rattle.icn_lex.proofs.ReadSoFar.{step_same}
use Rattle.icn_lex.proofs.InsideLiterals.{at_quote, at_backslash, at_line_end, at_plain}
use Rattle.icn_lex.proofs.literals.read_step.Goals as goal

pub returns-then-first-opening-clause-exact : goal.returns-then-first-opening-clause-exact
returns-then-first-opening-clause-exact c =
    λ later. at_quote c.args.line.now (literal_of c.args.opening c.args.bytes.now.items) c.args.first c.args.others.now later c.if-first-opening.true

pub returns-then-first-eq-BACKSLASH-clause-exact : goal.returns-then-first-eq-BACKSLASH-clause-exact
returns-then-first-eq-BACKSLASH-clause-exact c =
    let literal = literal_of c.args.opening c.args.bytes.now.items in
    step_same c.args.line.now c.escape_step.result (literal_of c.args.opening c.escape_step.new.bytes.items)
    (scan_escape c.args.line.now literal c.args.others.now)
    (scan_inside c.args.line.now literal (c.args.first ∷ c.args.others.now))
    (λ later. at_backslash c.args.line.now literal c.args.first c.args.others.now later c.if-first-opening.false c.if-first-eq-BACKSLASH.true)
    c.escape_step.ensures.exact

pub returns-then-is_continued-clause-exact : goal.returns-then-is_continued-clause-exact
returns-then-is_continued-clause-exact c =
    λ later. at_line_end c.args.line.now
    (literal_of c.args.opening c.args.bytes.now.items) c.args.first c.args.others.now later c.if-first-opening.false c.if-first-eq-BACKSLASH.false
    (sym c.is_continued.ensures ∙ c.if-is_continued.true)

pub returns-in_ok-push-clause-exact : goal.returns-in_ok-push-clause-exact
returns-in_ok-push-clause-exact c =
    λ later. rw c.in_ok-push.ensures.items
    (at_plain c.args.line.now
    (literal_of c.args.opening c.args.bytes.now.items) c.args.first c.args.others.now later c.if-first-opening.false c.if-first-eq-BACKSLASH.false
    (sym c.is_continued.ensures ∙ c.if-is_continued.false))
