-- String and cset literals.
use Rattle.std.specs.Prelude.{◌==◌, ℕ, ◌+◌, ◌%◌, min, Bool, nat_le, nat_lt, List, [], ◌∷◌, ◌++◌, take, Option, Some, None, if◌then◌else◌}
use Rattle.std.specs.List.{prefix_len}
use Rattle.icn_profile.specs.Bytes.{caret, single_quote}
use Rattle.icn_tree.specs.declared.token.Kind.{Kind}
use Rattle.icn_tree.specs.declared.token.Kind.TheVariants.{Text, Cset}
use Rattle.icn_tree.specs.ByteSets.{members_of}
use Rattle.icn_tree.specs.Characters.{is_octal, is_hexadecimal}
use Rattle.icn_tree.specs.IntegerLiterals.{number_in}

-- A literal that is not closed yet: its quote, the bytes that it stands for so far, the place where it begins, and
-- whether it is the first token on that line.
pub record OpenLiteral : Type 0 where
  pub quote : ℕ
  pub bytes : List ℕ
  pub line : ℕ
  pub file : ℕ
  pub is_first : Bool

-- the literal with one byte more
abbrev pub with_byte : OpenLiteral → ℕ → OpenLiteral
with_byte literal b = record literal { bytes = literal.bytes ++ b ∷ [] }

-- what it is, once it is closed
abbrev pub literal_kind : ℕ → List ℕ → Kind
literal_kind quote bytes = if quote == single_quote then Cset (members_of bytes) else Text bytes

-- Escapes, by the bytes behind the backslash: the byte that is meant, and how many of these bytes the escape has

-- one to three octal digits, as many as there are, of a value up to 255
abbrev pub octal_escape : List ℕ → Option (ℕ × ℕ)
octal_escape bytes = let count = min (prefix_len is_octal bytes) 3 in
    let value = number_in 8 (take count bytes) in if nat_le value 255 then Some (value, count) else None

-- behind an `x`, one or two hexadecimal digits
abbrev pub hexadecimal_escape : List ℕ → Option (ℕ × ℕ)
hexadecimal_escape bytes = let count = min (prefix_len is_hexadecimal bytes) 2 in
    if nat_lt 0 count then Some (number_in 16 (take count bytes), count + 1) else None

-- behind a `^`, the low five bits of any byte
abbrev pub control_escape : List ℕ → Option (ℕ × ℕ)
control_escape [] = None
control_escape (b ∷ rest) = Some (b % 32, 2)

-- `\b \d \e \f \l \n \r \t \v`; any other byte stands for itself
abbrev pub escaped_byte : ℕ → ℕ
escaped_byte b =
    if b == 98 then 8
    else (if b == 100 then 127 else (if b == 101 then 27 else (if b == 102 then 12 else (if b == 108 then 10
    else (if b == 110 then 10
    else (if b == 114 then 13 else (if b == 116 then 9 else (if b == 118 then 11 else b))))))))

-- the byte that an escape means, by the bytes behind its backslash, and how many of these it takes; or that it is none
unfoldable pub escape_of : List ℕ → Option (ℕ × ℕ)
escape_of [] = None
escape_of (b ∷ rest) =
    if is_octal b then octal_escape (b ∷ rest) else (if b == 120 then hexadecimal_escape rest
    else (if b == caret then control_escape rest else Some (escaped_byte b, 1)))
