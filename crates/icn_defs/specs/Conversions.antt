-- What values convert to, and what tells them apart.
use Rattle.std.specs.Prelude.{ℕ, zero, suc, ℤ, pos, negsuc, ◌+◌, ◌-◌, Bool, true, false, nat_lt, nat_le, List, [], ◌∷◌, Option, None, Some, if◌then◌else◌}
use Rattle.std.specs.Fmt.{signed_decimal}
use Rattle.std.specs.declared.cmp.Ordering.{Ordering}
use Rattle.std.specs.Ordering.{is_lt}
pub use Rattle.icn_text.specs.IntegerArithmetic.{fits, if_fits}
pub use Rattle.icn_text.specs.Reading.{written_integer}
use Rattle.icn_value.specs.Values.{Value, Null, Integer, Text, Chars}
pub use Rattle.icn_value.specs.Members.{contains, members}
pub use Rattle.icn_value.specs.Sameness.{ValueRank, file_rank, shape_of, shape_cmp, same, has_value, with_member}
pub use Rattle.icn_value.specs.Sizes.{ValueGroup, Textual, Listed, Collected, Tabled, Recorded, Filed, Activated, Single, group_of, size_in, size_of}

-- Integers, texts and csets

-- what is an integer, a text or a cset, and what else there is
pub data ConversionSource : Type 0 where
  Number : ℤ → ConversionSource
  Written : List ℕ → ConversionSource
  Member : List ℕ → ConversionSource
  Other : ConversionSource

-- the form of a value
abbrev pub form_of : Value → ConversionSource
form_of (Integer n) = Number n
form_of (Text bytes) = Written bytes
form_of (Chars bytes) = Member bytes
form_of value = Other

-- what converts to an integer: a string or a cset does where its bytes write one
abbrev pub integer_in : ConversionSource → Option ℤ
integer_in (Number n) = Some n
integer_in (Written bytes) = written_integer bytes
integer_in (Member bytes) = written_integer bytes
integer_in Other = None

-- what converts to a string: all three forms
abbrev pub text_in : ConversionSource → Option (List ℕ)
text_in (Number n) = Some (signed_decimal n)
text_in (Written bytes) = Some bytes
text_in (Member bytes) = Some bytes
text_in Other = None

-- what converts to a cset: the bytes of an integer's decimal, of a string
abbrev pub cset_in : ConversionSource → Option (List ℕ)
cset_in (Number n) = Some (members (contains (signed_decimal n)))
cset_in (Written bytes) = Some (members (contains bytes))
cset_in (Member bytes) = Some bytes
cset_in Other = None

-- the text that is made where a value that is no text becomes one
abbrev pub text_made : ConversionSource → Option (List ℕ)
text_made (Number n) = Some (signed_decimal n)
text_made (Written bytes) = None
text_made (Member bytes) = Some bytes
text_made Other = None

-- the integer that a value converts to
abbrev pub integer_of : Value → Option ℤ
integer_of value = integer_in (form_of value)

-- the string that a value converts to
abbrev pub text_of : Value → Option (List ℕ)
text_of value = text_in (form_of value)

-- the cset that a value converts to
abbrev pub cset_of : Value → Option (List ℕ)
cset_of value = cset_in (form_of value)

-- a value that is an integer, without conversion
abbrev pub held_integer : Value → Option ℤ
held_integer (Integer n) = Some n
held_integer value = None

-- a value that is a string, without conversion
abbrev pub held_text : Value → Option (List ℕ)
held_text (Text bytes) = Some bytes
held_text value = None

-- whether a value is null
abbrev pub is_null : Value → Bool
is_null Null = true
is_null value = false

-- Positions

-- The position that an integer means in a text of so many bytes: positions stand before the first byte, from 1
-- on, and one behind the last. At or below 0 an integer counts from the end.
abbrev pub position_of : ℤ → ℕ → Option ℕ
position_of (pos zero) size = Some (size + 1)
position_of (pos (suc n)) size = if nat_le n size then Some (suc n) else None
position_of (negsuc n) size = if nat_lt n size then Some (size - n) else None

-- The order of sort

-- an item goes in front of the first one that it is less than
abbrev pub sorted_in : {A : Type 0} → (A → A → Ordering) → A → List A → List A
sorted_in cmp item [] = item ∷ []
sorted_in cmp item (other ∷ others) =
    if is_lt (cmp item other) then item ∷ (other ∷ others) else other ∷ sorted_in cmp item others

-- each item in turn goes to its place among those that are placed
abbrev pub sorted_onto : {A : Type 0} → (A → A → Ordering) → List A → List A → List A
sorted_onto cmp placed [] = placed
sorted_onto cmp placed (item ∷ items) = sorted_onto cmp (sorted_in cmp item placed) items

-- ascending, and items that tie in the order that they had
abbrev pub sort_list : {A : Type 0} → (A → A → Ordering) → List A → List A
sort_list cmp items = sorted_onto cmp [] items
