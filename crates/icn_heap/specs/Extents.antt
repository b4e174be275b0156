-- What a value stands for beside the texts that a heap has and the structures that were made, and which values are of it.
use Rattle.std.specs.Prelude.{◌≡◌, ℕ, ◌<◌, Bool, List, length, ⊤}
use Rattle.std.specs.Coded.{Unit-prop, le_prop}
use Rattle.std.proofs.Props.{props}
use Rattle.icn_strings.specs.declared.byte_range.ByteRange.{ByteRange}
use Rattle.icn_strings.specs.declared.region.Region.{Region}
use Rattle.icn_strings.specs.Regions.{IsOf, IsOf-prop, IsWritten, IsWritten-prop, bytes_of}
use Rattle.icn_structs.specs.Shelves.{IsSet}
use Rattle.icn_value.specs.declared.val.Span.{Span}
use Rattle.icn_value.specs.declared.val.File.{File as HeldFile}
use Rattle.icn_value.specs.declared.val.File.TheVariants.{Input as HeldInput, Output as HeldOutput, Errout as HeldErrout, Opened as HeldOpened}
use Rattle.icn_value.specs.declared.val.Val.{Val}
use Rattle.icn_value.specs.declared.val.Val.TheVariants.{Null as NullVal, Integer as IntegerVal, Text as TextVal, Chars as CharsVal, Std as StdVal, Proc as ProcVal, Rec as RecVal, List as ListVal, Set as SetVal, Table as TableVal, Coexp as CoexpVal}
use Rattle.icn_value.specs.Values.{Value, Null, Integer, Text, Chars, Std, Procedure, ARecord, AList, ASet, ATable, ACoexp}
use Rattle.icn_value.specs.Members.{members_of}
use Rattle.icn_heap.specs.Keys.{file_of}

-- the texts that a heap has, of each structure that was ever made whether it is there still, how many co-expressions were
-- made, and how many files were opened
pub record Extent : Type 0 where
  pub strings : Region
  pub lists : List Bool
  pub sets : List Bool
  pub tables : List Bool
  pub records : List Bool
  pub coexps : ℕ
  pub files : ℕ

-- where the bytes of a text lie in the region
abbrev pub range_of : Span → ByteRange
range_of span = record { start = span.start; len = span.len }

-- the span names a text
pub record IsText (all : Extent) (span : Span) : Type 0 where
  pub of : IsOf all.strings (range_of span)

-- the span names a text that was made, whether its bytes are there still or not
pub record IsMadeText (all : Extent) (span : Span) : Type 0 where
  pub written : IsWritten all.strings (range_of span)

-- the bytes of a text
unfoldable pub text_in : Extent → Span → List ℕ
text_in all span = bytes_of all.strings (range_of span)

-- what a value stands for
abbrev pub value_in : Extent → Val → Value
value_in all NullVal = Null
value_in all (IntegerVal n) = Integer n
value_in all (TextVal span) = Text (text_in all span)
value_in all (CharsVal cset) = Chars (members_of cset)
value_in all (StdVal file) = Std (file_of file)
value_in all (ProcVal number) = Procedure number
value_in all (RecVal id) = ARecord id
value_in all (ListVal id) = AList id
value_in all (SetVal id) = ASet id
value_in all (TableVal id) = ATable id
value_in all (CoexpVal id) = ACoexp id

-- what two values stand for
abbrev pub values_in : Extent → Val × Val → Value × Value
values_in all pair = (value_in all pair.0, value_in all pair.1)

-- an opened file has a number below how many were opened; a standard one asks for nothing
abbrev pub FileBy : Extent → HeldFile → Type 0
FileBy all HeldInput = ⊤
FileBy all HeldOutput = ⊤
FileBy all HeldErrout = ⊤
FileBy all (HeldOpened number) = number < all.files

-- a text is of the heap, a structure is there, a co-expression has a number below their count, and so has an opened file;
-- other values ask for nothing
abbrev pub LiveBy : Extent → Val → Type 0
LiveBy all NullVal = ⊤
LiveBy all (IntegerVal n) = ⊤
LiveBy all (TextVal span) = IsText all span
LiveBy all (CharsVal cset) = ⊤
LiveBy all (StdVal file) = FileBy all file
LiveBy all (ProcVal number) = ⊤
LiveBy all (RecVal id) = IsSet all.records id
LiveBy all (ListVal id) = IsSet all.lists id
LiveBy all (SetVal id) = IsSet all.sets id
LiveBy all (TableVal id) = IsSet all.tables id
LiveBy all (CoexpVal id) = id < all.coexps

-- a text was made, a structure has a number below the count of those that were ever made of its type, and so has an opened
-- file; other values ask for nothing
abbrev pub MadeBy : Extent → Val → Type 0
MadeBy all NullVal = ⊤
MadeBy all (IntegerVal n) = ⊤
MadeBy all (TextVal span) = IsMadeText all span
MadeBy all (CharsVal cset) = ⊤
MadeBy all (StdVal file) = FileBy all file
MadeBy all (ProcVal number) = ⊤
MadeBy all (RecVal id) = id < length all.records
MadeBy all (ListVal id) = id < length all.lists
MadeBy all (SetVal id) = id < length all.sets
MadeBy all (TableVal id) = id < length all.tables
MadeBy all (CoexpVal id) = id < all.coexps

-- the value was made in the heap, and stands for something, whether its text or structure is there still or not
pub record IsMade (all : Extent) (val : Val) : Type 0 where
  pub made : MadeBy all val

-- the value is of the heap: its text or structure is there
pub record IsLive (all : Extent) (val : Val) : Type 0 where
  pub live : LiveBy all val

-- both values of a pair are of the heap
pub record AreLive (all : Extent) (pair : Val × Val) : Type 0 where
  pub first : IsLive all pair.0
  pub second : IsLive all pair.1

-- every value that was made stands for the same, whatever is given back: no call takes this back
pub record KeepsMeaning (old new : Extent) : Type 0 where
  pub made : (val : Val) → IsMade old val → IsMade new val
  pub value : (val : Val) → IsMade old val → value_in new val ≡ value_in old val
  pub text : (span : Span) → IsMadeText old span → IsMadeText new span
  pub bytes : (span : Span) → IsMadeText old span → text_in new span ≡ text_in old span

-- every value stays of the heap, and stands for the same: each call but `collect` gives this
pub record KeepsValues (old new : Extent) : Type 0 where
  pub means : KeepsMeaning old new
  pub live : (val : Val) → IsLive old val → IsLive new val
  pub value : (val : Val) → IsLive old val → value_in new val ≡ value_in old val
  pub text : (span : Span) → IsText old span → IsText new span
  pub bytes : (span : Span) → IsText old span → text_in new span ≡ text_in old span

IsText-prop : (all : Extent) (span : Span) → IsProp (IsText all span)
IsText-prop all span = hlevel IsOf-prop

FileBy-prop : (all : Extent) (file : HeldFile) → IsProp (FileBy all file)
FileBy-prop all HeldInput = Unit-prop
FileBy-prop all HeldOutput = Unit-prop
FileBy-prop all HeldErrout = Unit-prop
FileBy-prop all (HeldOpened number) = le_prop

LiveBy-prop : (all : Extent) (val : Val) → IsProp (LiveBy all val)
LiveBy-prop all NullVal = Unit-prop
LiveBy-prop all (IntegerVal n) = Unit-prop
LiveBy-prop all (TextVal span) = IsText-prop all span
LiveBy-prop all (CharsVal cset) = Unit-prop
LiveBy-prop all (StdVal file) = FileBy-prop all file
LiveBy-prop all (ProcVal number) = Unit-prop
LiveBy-prop all (RecVal id) = hlevel props
LiveBy-prop all (ListVal id) = hlevel props
LiveBy-prop all (SetVal id) = hlevel props
LiveBy-prop all (TableVal id) = hlevel props
LiveBy-prop all (CoexpVal id) = le_prop

-- there is one proof at most that a value is of a heap
pub IsLive-prop : (all : Extent) (val : Val) → IsProp (IsLive all val)
IsLive-prop all val = hlevel LiveBy-prop

IsMadeText-prop : (all : Extent) (span : Span) → IsProp (IsMadeText all span)
IsMadeText-prop all span = hlevel IsWritten-prop

MadeBy-prop : (all : Extent) (val : Val) → IsProp (MadeBy all val)
MadeBy-prop all NullVal = Unit-prop
MadeBy-prop all (IntegerVal n) = Unit-prop
MadeBy-prop all (TextVal span) = IsMadeText-prop all span
MadeBy-prop all (CharsVal cset) = Unit-prop
MadeBy-prop all (StdVal file) = FileBy-prop all file
MadeBy-prop all (ProcVal number) = Unit-prop
MadeBy-prop all (RecVal id) = le_prop
MadeBy-prop all (ListVal id) = le_prop
MadeBy-prop all (SetVal id) = le_prop
MadeBy-prop all (TableVal id) = le_prop
MadeBy-prop all (CoexpVal id) = le_prop

-- there is one proof at most that a value was made in a heap
pub IsMade-prop : (all : Extent) (val : Val) → IsProp (IsMade all val)
IsMade-prop all val = hlevel MadeBy-prop
