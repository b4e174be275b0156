use Rattle.std.proofs.Common.{rules, tests}
use Rattle.icn_tree.specs.Spellings.{words_of}
use Rattle.icn_lex.proofs.words.reserved_word.Goals as goal

pub returns-in_default : goal.returns-in_default
unfolding words_of
returns-in_default c = search (tests, rules)
