-- Words and blanks.
use Rattle.std.specs.Prelude.{ℕ, List, take, drop, reverse}
use Rattle.std.specs.List.{prefix_len}
use Rattle.icn_tree.specs.Characters.{continues_identifier, is_blank}

-- the word that the bytes begin with, and what stands behind it
abbrev pub first_word : List ℕ → List ℕ
first_word bytes = take (prefix_len continues_identifier bytes) bytes

-- what stands behind that word
abbrev pub behind_word : List ℕ → List ℕ
behind_word bytes = drop (prefix_len continues_identifier bytes) bytes

-- without the blanks at the start, at the end, at both
abbrev pub trimmed_start : List ℕ → List ℕ
trimmed_start bytes = drop (prefix_len is_blank bytes) bytes

-- without the blanks at the end
abbrev pub trimmed_end : List ℕ → List ℕ
trimmed_end bytes = reverse (trimmed_start (reverse bytes))

-- without blanks at its start and its end
abbrev pub trim : List ℕ → List ℕ
trim bytes = trimmed_end (trimmed_start bytes)
