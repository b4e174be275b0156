-- Files without directives.
use Rattle.std.specs.Prelude.{ℕ, ◌+◌, Bool, List, [], ◌∷◌, not}
use Rattle.std.specs.List.{list_all}
use Rattle.icn_tree.specs.declared.lines.SourceLine.{SourceLine}
use Rattle.icn_prep.specs.Directives.{begins_directive}

-- no line looks like a directive
abbrev pub has_no_directive : List (List ℕ) → Bool
has_no_directive lines = list_all (λ line. not (begins_directive line)) lines

-- the lines of a file, numbered from here on
abbrev pub numbered_lines : ℕ → ℕ → List (List ℕ) → List SourceLine
numbered_lines file number [] = []
numbered_lines file number (line ∷ lines) =
    (record { bytes = line; file = file; number = number }) ∷ numbered_lines file (number + 1) lines
