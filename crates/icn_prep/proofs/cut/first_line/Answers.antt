-- The first of the lines that the library gives.
use Rattle.std.proofs.Common.{sym, ◌∙◌}
use Rattle.icn_prep.proofs.CutLines.{first_is, none_given}
use Rattle.icn_prep.proofs.cut.first_line.Goals as goal

pub unreachable-requires : goal.unreachable-requires
unreachable-requires c = none_given c.args.text.now c.requires (sym c.lines-lines.ensures.value ∙ c.in_default.ensures.steps.0)

pub returns-clause-cut : goal.returns-clause-cut
returns-clause-cut c =
    (first_is c.args.text.now c.in-Some.line.now c.in-Some-next.whole.now c.next.new.self c.next-2.new.self c.requires
    (sym c.lines-lines.ensures.value ∙ c.in-Some.ensures.steps) (sym c.lines_with_terminator-whole_lines.ensures.value ∙ c.in-Some-next.ensures.steps)).0

pub returns-clause-some : goal.returns-clause-some
returns-clause-some c =
    (first_is c.args.text.now c.in-Some.line.now c.in-Some-next.whole.now c.next.new.self c.next-2.new.self c.requires
    (sym c.lines-lines.ensures.value ∙ c.in-Some.ensures.steps) (sym c.lines_with_terminator-whole_lines.ensures.value ∙ c.in-Some-next.ensures.steps)).1

pub returns-clause-within : goal.returns-clause-within
returns-clause-within c =
    (first_is c.args.text.now c.in-Some.line.now c.in-Some-next.whole.now c.next.new.self c.next-2.new.self c.requires
    (sym c.lines-lines.ensures.value ∙ c.in-Some.ensures.steps) (sym c.lines_with_terminator-whole_lines.ensures.value ∙ c.in-Some-next.ensures.steps)).2
