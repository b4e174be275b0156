-- The program of a number: so many procedures that are generators, and a main procedure that adds up what they give.
use Rattle.std.specs.Prelude.{◌≡◌, ℕ, suc, List, [], ◌∷◌, ◌++◌, map, length, codes, decimal, Result, Ok, Err}
use Rattle.std.specs.List.{flat_map, range_with_len}
use Rattle.icn_tree.specs.declared.lines.SourceLine.{SourceLine}
use Rattle.icn_tree.specs.declared.rule.Rule.{Rule}
use Rattle.icn_tree.specs.declared.token.Token.{Token}
use Rattle.icn_tree.specs.declared.tree.Place.{Place}
use Rattle.icn_tree.specs.Tokens.{Scanned, Fault, tokens_of}
use Rattle.icn_tree.specs.Trees.{Declaration}
use Rattle.icn_answer.specs.declared.answer.Answer.{Answer}
use Rattle.icont_units.specs.Sources.{refused_at}
use Rattle.icont_units.specs.Translating.{TokensGive}
use Rattle.icont_units.specs.Units.{FromSource, Member}

-- from 1 on
abbrev pub numbers : ℕ → List ℕ
numbers count = range_with_len 1 count

-- the lines of the procedure of a number, which generates three multiples of it
abbrev pub procedure_lines : ℕ → List (List ℕ)
procedure_lines i = (codes "procedure p" ++ decimal i ++ codes "(n)")
    ∷ (codes "suspend (n to n + 2) * " ++ decimal i) ∷ codes "end" ∷ []

-- the line that adds up what a procedure gives
abbrev pub sum_line : ℕ → List ℕ
sum_line i = codes "every t +:= p" ++ decimal i ++ codes "(1 to 3)"

-- the lines without their ends
abbrev pub program_lines : ℕ → List (List ℕ)
program_lines count = flat_map procedure_lines (numbers count)
    ++ codes "procedure main()" ∷ codes "t := 0" ∷ map sum_line (numbers count)
    ++ codes "write(t)" ∷ codes "end" ∷ []

-- a line of the one file
abbrev pub line_at : ℕ → List ℕ → SourceLine
line_at number bytes = record { bytes = bytes; file = 0; number = number }

-- the lines as those of one file, numbered from here on
abbrev pub numbered_from : ℕ → List (List ℕ) → List SourceLine
numbered_from number [] = []
numbered_from number (bytes ∷ rest) = line_at number bytes ∷ numbered_from (suc number) rest

-- the source lines of the program of a number
abbrev pub generated_lines : ℕ → List SourceLine
generated_lines count = numbered_from 1 (program_lines count)

-- the name that the lines' file has in refusals, and the name of the image
abbrev pub generated_base : List ℕ
generated_base = codes "gen"

-- the name of the file of these lines, which refusals have
abbrev pub generated_name : List ℕ
generated_name = codes "gen.icn"

-- what is put on the output once a program with so many lines and procedures is done
abbrev pub sizes_text : ℕ → ℕ → List ℕ
sizes_text lines procedures =
    codes "lines " ++ decimal lines ++ codes " procedures " ++ decimal procedures ++ codes "\n"

-- how many lines and procedures the program of a number has, as it is put on the output
abbrev pub sizes_line : ℕ → List ℕ
sizes_line count = sizes_text (length (program_lines count)) (suc count)

-- the one unit of its lines, which are not read; or the rule that they break
pub data GeneratedComes (number : ℕ) : Result (List Member) Answer → Type 0 where
  not_scanned : (rule : Rule) (file line : ℕ) → tokens_of (generated_lines number) ≡ Fault rule file line
      → GeneratedComes number
      (Err (refused_at (generated_name ∷ []) rule (record { line = line; file = file })))
  broken : (tokens : List Token) (rule : Rule) (place : Place)
      → tokens_of (generated_lines number) ≡ Scanned tokens
      → TokensGive tokens (Err (rule, place))
      → GeneratedComes number (Err (refused_at (generated_name ∷ []) rule place))
  made : (tokens : List Token) (file : List Declaration) → tokens_of (generated_lines number) ≡ Scanned tokens
      → TokensGive tokens (Ok file) → GeneratedComes number (Ok (FromSource generated_base file ∷ []))
