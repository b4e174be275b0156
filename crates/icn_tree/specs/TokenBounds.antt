-- What the tokens of lines keep within, and the rules that lines can break.
use Rattle.std.specs.Prelude.{◌≡◌, ℕ, pos, negsuc, ◌≤◌, Bool, true, false, ◌&&◌, nat_lt, List, [], ◌∷◌, length, None}
use Rattle.std.specs.List.{list_all}
use Rattle.icn_profile.specs.Numbers.{greatest_integer, most_bytes_of_name}
use Rattle.icn_tree.specs.Characters.{begins_identifier, continues_identifier}
use Rattle.icn_tree.specs.declared.rule.Rule.{Rule}
use Rattle.icn_tree.specs.declared.rule.Rule.TheVariants.{L1, L2, L3, L4, L5, L6, L7}
use Rattle.icn_tree.specs.declared.token.Kind.{Kind}
use Rattle.icn_tree.specs.declared.token.Kind.TheVariants.{Identifier, Integer, Text, Cset, Augmented}
use Rattle.icn_tree.specs.declared.token.Operator.{Operator}
use Rattle.icn_tree.specs.declared.token.Operator.TheVariants.{Bang, Backslash, Bar, Dot, Tilde, Assign, Swap, ReversibleAssign, ReversibleSwap}
use Rattle.icn_tree.specs.Spellings.{word_of}

-- a rule of tokens
abbrev pub IsScanRule : Rule → Type 0
IsScanRule L1 = Unit {0}
IsScanRule L2 = Unit {0}
IsScanRule L3 = Unit {0}
IsScanRule L4 = Unit {0}
IsScanRule L5 = Unit {0}
IsScanRule L6 = Unit {0}
IsScanRule L7 = Unit {0}
IsScanRule _ = ⊥

-- an identifier has 1 to 65535 bytes, an integer is from 0 to 9223372036854775807, and a string has at most 65535 bytes
abbrev pub IsSized : Kind → Type 0
IsSized (Identifier name) = (1 ≤ length name) × (length name ≤ most_bytes_of_name)
IsSized (Integer (pos n)) = n ≤ greatest_integer
IsSized (Integer (negsuc n)) = ⊥
IsSized (Text bytes) = length bytes ≤ most_bytes_of_name
IsSized _ = Unit {0}

-- a letter or an underscore, and letters, digits and underscores behind it
abbrev pub is_name : List ℕ → Bool
is_name [] = false
is_name (b ∷ rest) = begins_identifier b && list_all continues_identifier rest

-- each number is less than the next one
abbrev pub ascends : List ℕ → Bool
ascends [] = true
ascends (a ∷ []) = true
ascends (a ∷ b ∷ rest) = nat_lt a b && ascends (b ∷ rest)

-- a number that is a byte
abbrev pub is_byte : ℕ → Bool
is_byte b = nat_lt b 256

-- with `:=` behind it, the operator is one of the twenty-eight augmented ones
abbrev pub is_augmented : Operator → Bool
is_augmented Bang = false
is_augmented Backslash = false
is_augmented Bar = false
is_augmented Dot = false
is_augmented Tilde = false
is_augmented Assign = false
is_augmented Swap = false
is_augmented ReversibleAssign = false
is_augmented ReversibleSwap = false
is_augmented _ = true

-- an identifier is a name and no reserved word, the members of a cset are bytes that ascend, and an augmented operator is a token
abbrev pub IsFormed : Kind → Type 0
IsFormed (Identifier name) = (is_name name ≡ true) × (word_of name ≡ None)
IsFormed (Cset members) = (ascends members ≡ true) × (list_all is_byte members ≡ true)
IsFormed (Augmented operator) = is_augmented operator ≡ true
IsFormed _ = Unit {0}
