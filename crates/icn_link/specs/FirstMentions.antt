-- Tables that have each thing once, in the order in which it is first mentioned.
use Rattle.std.specs.Prelude.{ℕ, ℤ, List, [], ◌∷◌, ◌++◌, if◌then◌else◌}
use Rattle.std.specs.List.{list_any, position_or_len}
use Rattle.std.specs.Ordering.{int_eq}
use Rattle.std.specs.Str.{bytes_eq}

-- the texts with one more, unless it is there
abbrev pub with_text : List (List ℕ) → List ℕ → List (List ℕ)
with_text texts text = if list_any (bytes_eq text) texts then texts else texts ++ text ∷ []

-- the integers with one more, unless it is there
abbrev pub with_integer : List ℤ → ℤ → List ℤ
with_integer integers n = if list_any (int_eq n) integers then integers else integers ++ n ∷ []

-- a table with what is mentioned after it
abbrev pub with_texts : List (List ℕ) → List (List ℕ) → List (List ℕ)
with_texts texts [] = texts
with_texts texts (text ∷ others) = with_texts (with_text texts text) others

-- the integers with others, each once
abbrev pub with_integers : List ℤ → List ℤ → List ℤ
with_integers integers [] = integers
with_integers integers (n ∷ others) = with_integers (with_integer integers n) others

-- where a text or an integer stands in its table
abbrev pub text_index : List (List ℕ) → List ℕ → ℕ
text_index texts text = position_or_len (bytes_eq text) texts

-- the place of an integer in its table
abbrev pub integer_index : List ℤ → ℤ → ℕ
integer_index integers n = position_or_len (int_eq n) integers
