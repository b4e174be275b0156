-- What is to stay as memory is given back.
use Rattle.std.specs.Prelude.{◌≡◌, ◌⊎◌, ℕ, ◌+◌, List, ◌++◌, ⊤}
use Rattle.std.specs.List.{All, Contains, flat_map, sum_by}
use Rattle.icn_strings.specs.declared.byte_range.ByteRange.{ByteRange}
use Rattle.icn_strings.specs.Ranges.{total_length}
use Rattle.icn_strings.specs.Regions.{IsOf}
use Rattle.icn_structs.specs.Shelves.{things_there}
use Rattle.icn_value.specs.declared.val.Val.{Val}
use Rattle.icn_value.specs.declared.val.Val.TheVariants.{Null as NullVal, Integer as IntegerVal, Text as TextVal, Chars as CharsVal, Std as StdVal, Proc as ProcVal, Rec as RecVal, List as ListVal, Set as SetVal, Table as TableVal, Coexp as CoexpVal}
use Rattle.icn_heap.specs.Extents.{Extent, IsLive, range_of}
use Rattle.icn_heap.specs.ElementValues.{list_vals, set_vals, table_vals, record_vals}
use Rattle.icn_heap.specs.HeapParts.{Parts}
use Rattle.icn_heap.specs.declared.needed_values.NeededValues.{NeededValues}

-- the range of a value's text is among these; other values ask for nothing
abbrev pub NeededBy : List ByteRange → Val → Type 0
NeededBy ranges NullVal = ⊤
NeededBy ranges (IntegerVal n) = ⊤
NeededBy ranges (TextVal span) = Contains ranges (range_of span)
NeededBy ranges (CharsVal cset) = ⊤
NeededBy ranges (StdVal file) = ⊤
NeededBy ranges (ProcVal number) = ⊤
NeededBy ranges (RecVal id) = ⊤
NeededBy ranges (ListVal id) = ⊤
NeededBy ranges (SetVal id) = ⊤
NeededBy ranges (TableVal id) = ⊤
NeededBy ranges (CoexpVal id) = ⊤

-- a structure is among these; other values ask for nothing
abbrev pub AmongBy : List Val → Val → Type 0
AmongBy structures NullVal = ⊤
AmongBy structures (IntegerVal n) = ⊤
AmongBy structures (TextVal span) = ⊤
AmongBy structures (CharsVal cset) = ⊤
AmongBy structures (StdVal file) = ⊤
AmongBy structures (ProcVal number) = ⊤
AmongBy structures (RecVal id) = Contains structures (RecVal id)
AmongBy structures (ListVal id) = Contains structures (ListVal id)
AmongBy structures (SetVal id) = Contains structures (SetVal id)
AmongBy structures (TableVal id) = Contains structures (TableVal id)
AmongBy structures (CoexpVal id) = ⊤

-- the value is to stay: its text is needed, or the structure
pub record IsNeeded (values : NeededValues) (val : Val) : Type 0 where
  pub needed : NeededBy values.ranges.items val
  pub among : AmongBy values.structures.items val

-- what is needed are texts and structures of the heap
pub record AreOfHeap (all : Extent) (values : NeededValues) : Type 0 where
  pub of : All (IsOf all.strings) values.ranges.items
  pub live : All (IsLive all) values.structures.items

-- how many bytes the text of a value has; other values have none
abbrev pub length_of_val : Val → ℕ
length_of_val NullVal = 0
length_of_val (IntegerVal n) = 0
length_of_val (TextVal span) = span.len
length_of_val (CharsVal cset) = 0
length_of_val (StdVal file) = 0
length_of_val (ProcVal number) = 0
length_of_val (RecVal id) = 0
length_of_val (ListVal id) = 0
length_of_val (SetVal id) = 0
length_of_val (TableVal id) = 0
length_of_val (CoexpVal id) = 0

-- how many bytes the texts of some values have together, each as often as it stands there
abbrev pub length_of_vals : List Val → ℕ
length_of_vals vals = sum_by length_of_val vals

-- the structures that are needed, each as often as it was added
abbrev pub needed_structures : NeededValues → List Val
needed_structures values = values.structures.items

-- how many bytes what is needed has together, each text as often as it was added
abbrev pub needed_length : NeededValues → ℕ
needed_length values = total_length values.ranges.items

-- these values are needed beside all that were, and no more; where they are of a heap, so is what is needed
pub record AreNeeded (old new : NeededValues) (vals : List Val) : Type 0 where
  pub more : (val : Val) → IsNeeded old val → IsNeeded new val
  pub each : All (IsNeeded new) vals
  pub bytes : needed_length new ≡ needed_length old + length_of_vals vals
  pub of_heap : (all : Extent) → All (IsLive all) vals → AreOfHeap all old → AreOfHeap all new
  pub only : (val : Val) → Contains new.structures.items val
      → Contains old.structures.items val ⊎ Contains vals val

-- the values that the structures hold that are there
abbrev pub held_vals : Parts → List Val
held_vals parts = flat_map list_vals (things_there parts.lists)
    ++ (flat_map set_vals (things_there parts.sets)
    ++ (flat_map table_vals (things_there parts.tables) ++ flat_map record_vals (things_there parts.records)))
