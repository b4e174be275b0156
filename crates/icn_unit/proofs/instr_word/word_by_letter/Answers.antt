use Rattle.std.proofs.Common.{rules, tests}
use Rattle.icn_unit.specs.InstrWords.{instr_words}
use Rattle.icn_unit.proofs.instr_word.word_by_letter.Goals as goal

pub returns-in_default : goal.returns-in_default
unfolding instr_words
returns-in_default c = search (tests, rules)
