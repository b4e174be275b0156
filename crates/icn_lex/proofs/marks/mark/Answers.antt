use Rattle.std.proofs.Common.{rules, tests}
use Rattle.icn_tree.specs.Spellings.{marks_of}
use Rattle.icn_lex.proofs.marks.mark.Goals as goal

pub returns-in_default : goal.returns-in_default
unfolding marks_of
returns-in_default c = search (tests, rules)
