-- Which answers say that the words are faulty.
use Rattle.std.specs.Prelude.{◌≡◌, ◌⊎◌}
use Rattle.icn_answer.specs.declared.answer.Answer.{Answer}
use Rattle.icn_answer.specs.declared.answer.Answer.TheVariants.{Command}
use Rattle.icn_answer.specs.Answers.{IsCommand, IsFault}
use Rattle.iconx_top.specs.Words.{WordsReading, Asks, Migrates, Faulty}

-- faulty words are answered in their way, and no others are called faulty
abbrev pub IsCommanded : WordsReading → Answer → Type 0
IsCommanded (Faulty kind) answer = IsFault answer ⊎ (answer ≡ Command kind)
IsCommanded (Asks bounds name arguments) answer = IsCommand answer → ⊥
IsCommanded (Migrates new name) answer = IsCommand answer → ⊥
