-- Values by what their elements are, and how many they have.
use Rattle.std.specs.Prelude.{ℕ, List, length, Option, None, Some}
use Rattle.std.specs.Fmt.{signed_decimal}
use Rattle.icn_value.specs.Values.{Value, Null, Integer, Text, Chars, Std, Procedure, ARecord, AList, ASet, ATable, ACoexp, File}
use Rattle.icn_value.specs.Store.{Heap, list_at, set_at, table_at, record_at, count_at}

-- Values by what their elements are: bytes, or those of a structure
pub data ValueGroup : Type 0 where
  Textual : List ℕ → ValueGroup
  Listed : ℕ → ValueGroup
  Collected : ℕ → ValueGroup
  Tabled : ℕ → ValueGroup
  Recorded : ℕ → ValueGroup
  Filed : File → ValueGroup
  Activated : ℕ → ValueGroup
  Single : ValueGroup

-- a text is its bytes, a cset its members, an integer its decimal digits with the sign; a structure its
-- number
abbrev pub group_of : Value → ValueGroup
group_of Null = Single
group_of (Integer n) = Textual (signed_decimal n)
group_of (Text bytes) = Textual bytes
group_of (Chars bytes) = Textual bytes
group_of (Std file) = Filed file
group_of (Procedure number) = Single
group_of (ARecord id) = Recorded id
group_of (AList id) = Listed id
group_of (ASet id) = Collected id
group_of (ATable id) = Tabled id
group_of (ACoexp id) = Activated id

-- how many bytes, items, members, pairs, fields or results there are; a file, null and a procedure have no
-- size
abbrev pub size_in : Heap → ValueGroup → Option ℕ
size_in heap (Textual bytes) = Some (length bytes)
size_in heap (Listed id) = Some (length ((list_at heap id).items))
size_in heap (Collected id) = Some (length (set_at heap id))
size_in heap (Tabled id) = Some (length ((table_at heap id).pairs))
size_in heap (Recorded id) = Some (length ((record_at heap id).fields))
size_in heap (Filed file) = None
size_in heap (Activated id) = Some (count_at heap id)
size_in heap Single = None

-- the size of a string, cset, structure or co-expression, and of an integer the length of its text
abbrev pub size_of : Heap → Value → Option ℕ
size_of heap value = size_in heap (group_of value)
