-- How the code tells what it made of the program of a number.
use Rattle.std.specs.Prelude.{◌≡◌, ◌⊎◌, ℕ, List, [], ◌∷◌, Result, Ok, Err}
use Rattle.icn_tree.specs.declared.rule.Rule.{Rule}
use Rattle.icn_tree.specs.declared.tree.Place.{Place}
use Rattle.icn_tree.specs.Trees.{Declaration}
use Rattle.icn_answer.specs.declared.answer.Answer.{Answer}
use Rattle.icn_answer.specs.declared.answer.Answer.TheVariants.{Refused, NoMemory}
use Rattle.icn_answer.specs.Answers.{IsFault}
use Rattle.icont_units.specs.declared.members.Members.{Members}
use Rattle.icont_units.specs.Generated.{GeneratedComes, generated_base}
use Rattle.icont_units.specs.Loading.{HoldsMembers}
use Rattle.icont_units.specs.Sources.{ScannedSource, refused_at}
use Rattle.icont_units.specs.Translating.{TokensGive}
use Rattle.icont_units.specs.Units.{FromSource, Member}

-- the program of the number is these units, or what refuses it is answered, or want of memory
abbrev pub IsGenerated : ℕ → Result Members Answer → Type 0
IsGenerated number (Ok held) =
    (members : List Member) × (GeneratedComes number (Ok members) × HoldsMembers held members)
IsGenerated number (Err answer) = IsFault answer ⊎ GeneratedComes number (Err answer)

-- the tokens are the file of the one unit, or their refusal is answered, or want of memory
abbrev pub AreMember : ScannedSource → Result Members Answer → Type 0
AreMember scan (Ok held) = (file : List Declaration)
    × (TokensGive scan.tokens (Ok file) × HoldsMembers held (FromSource generated_base file ∷ []))
AreMember scan (Err answer) = (answer ≡ NoMemory)
    ⊎ ((rule : Rule) × ((place : Place)
    × (TokensGive scan.tokens (Err (rule, place)) × (answer ≡ refused_at scan.names rule place))))

-- an answer to lines that were made: the rule that they break, or want of memory
abbrev pub IsOfLines : Answer → Type 0
IsOfLines (Refused file line rule) = Unit {0}
IsOfLines NoMemory = Unit {0}
IsOfLines _ = ⊥
