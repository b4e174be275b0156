-- The joined code of a program, with its csets as the bits of their members.
use Rattle.std.specs.Prelude.{ℕ, ◌/◌, ◌%◌, ◌^◌, ◌==◌, List, map, if◌then◌else◌}
use Rattle.std.specs.List.{sum_by, range_with_len}
use Rattle.icn_tree.specs.Trees.{Declaration}
use Rattle.icn_value.specs.declared.cset.Cset.{Cset}
use Rattle.icn_code.specs.Codes.{Tables}
use Rattle.icn_meaning.specs.Program.{joined_declarations}
use Rattle.law_simulation.specs.JoinedFiles.{sets_of, code_with}

-- the bit of a member in the word of this number
abbrev pub bit_in : ℕ → ℕ → ℕ
bit_in i member = if member / 64 == i then 2 ^ (member % 64) else 0

-- a cset as four words of bits
abbrev pub cset_of : List ℕ → Cset
cset_of members = record { words = map (λ i. sum_by (bit_in i) members) (range_with_len 0 4) }

-- the tables of a program's files
abbrev pub tables_of : List (List Declaration) → Tables
tables_of files = let declarations = joined_declarations files in
    code_with declarations (map cset_of (sets_of declarations))
