-- The lines of a program text as one text.
use Rattle.std.specs.Prelude.{ℕ, ◌+◌, Bool, List, [], ◌∷◌, length, nat_lt}
use Rattle.std.specs.List.{list_all}
use Rattle.icn_tree.specs.declared.lines.SourceLine.{SourceLine}

-- how many bytes the lines have, joined by one newline
abbrev pub joined_len : List SourceLine → ℕ
joined_len [] = 0
joined_len (line ∷ []) = length line.bytes
joined_len (line ∷ next ∷ rest) = length line.bytes + 1 + joined_len (next ∷ rest)

-- each line's file is the place of one of the names
abbrev pub names_files : List (List ℕ) → List SourceLine → Bool
names_files names lines = list_all (λ line. nat_lt line.file (length names)) lines
