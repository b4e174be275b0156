-- What tells values apart.
use Rattle.std.specs.Prelude.{◌+◌, ℕ, ℤ, pos, Bool, List, [], ◌∷◌, ◌++◌, if◌then◌else◌}
use Rattle.std.specs.List.{list_any}
use Rattle.std.specs.declared.cmp.Ordering.{Ordering}
use Rattle.std.specs.Ordering.{ordering_then, nat_cmp, int_cmp, is_eq}
use Rattle.std.specs.Cmp.Lexicographic.{slice_cmp}
use Rattle.icn_value.specs.Values.{Value, Null, Integer, Text, Chars, Std, Procedure, ARecord, AList, ASet, ATable, ACoexp, File, Input, Output, Errout, Opened}

-- what tells the values of a type apart: a text or a number; and the type's rank in sorted lists
pub record ValueRank : Type 0 where
  pub rank : ℕ
  pub text : List ℕ
  pub number : ℤ

-- the order of the files among one another in sorted lists: the opened ones come last, as they were opened
abbrev pub file_rank : File → ℕ
file_rank Errout = 0
file_rank Input = 1
file_rank Output = 2
file_rank (Opened number) = 3 + number

-- what tells a value apart: its type by the rank, and its content by the text or by the number
abbrev pub shape_of : Value → ValueRank
shape_of Null = record { rank = 0; text = []; number = pos 0 }
shape_of (Integer n) = record { rank = 1; text = []; number = n }
shape_of (Text bytes) = record { rank = 2; text = bytes; number = pos 0 }
shape_of (Chars bytes) = record { rank = 3; text = bytes; number = pos 0 }
shape_of (Std file) = record { rank = 4; text = []; number = pos (file_rank file) }
shape_of (ACoexp id) = record { rank = 5; text = []; number = pos id }
shape_of (Procedure id) = record { rank = 6; text = []; number = pos id }
shape_of (AList id) = record { rank = 7; text = []; number = pos id }
shape_of (ASet id) = record { rank = 8; text = []; number = pos id }
shape_of (ATable id) = record { rank = 9; text = []; number = pos id }
shape_of (ARecord id) = record { rank = 10; text = []; number = pos id }

-- by the rank, then by the text, then by the number
abbrev pub shape_cmp : ValueRank → ValueRank → Ordering
shape_cmp a b = ordering_then (nat_cmp a.rank b.rank)
    (ordering_then (slice_cmp nat_cmp a.text b.text) (int_cmp a.number b.number))

-- `===`: the same type and the same value, structures by their identity
abbrev pub same : Value → Value → Bool
same a b = is_eq (shape_cmp (shape_of a) (shape_of b))

-- one of these values is the same as this one
abbrev pub has_value : List Value → Value → Bool
has_value values value = list_any (same value) values

-- the values with one more, unless it is there
abbrev pub with_member : List Value → Value → List Value
with_member members value = if has_value members value then members else members ++ value ∷ []
