-- Structures that are marked as they are reached, before those that are not are given back.
use Rattle.std.specs.Prelude.{◌≡◌, ◌⊎◌, ℕ, ◌+◌, Bool, true, false, not, ◌&&◌, List, [], ◌++◌, Option, IfNone, length, slice_index_or, if◌then◌else◌, ⊤}
use Rattle.std.specs.List.{All, Contains}
use Rattle.std.specs.Option.{option_to_list}
use Rattle.icn_structs.specs.Shelves.{IsSet, all_unset, with_held, with_mark}
use Rattle.icn_value.specs.declared.val.Val.{Val}
use Rattle.icn_value.specs.declared.val.Val.TheVariants.{Null as NullVal, Integer as IntegerVal, Text as TextVal, Chars as CharsVal, Std as StdVal, Proc as ProcVal, Rec as RecVal, List as ListVal, Set as SetVal, Table as TableVal, Coexp as CoexpVal}
use Rattle.icn_heap.specs.declared.heap.Heap.{Heap as HeldHeap}
use Rattle.icn_heap.specs.ElementValues.{list_vals, set_vals, table_vals, record_vals}
use Rattle.icn_heap.specs.Extents.{IsLive, range_of}
use Rattle.icn_heap.specs.HeapParts.{Parts, extent_in, no_entries, no_vals}
use Rattle.icn_heap.specs.Heaps.{extent_of, parts_of}
use Rattle.icn_heap.specs.NeededValues.{held_vals, length_of_vals, needed_length, AreOfHeap, IsNeeded}
use Rattle.icn_heap.specs.Records.{no_fields}
use Rattle.icn_heap.specs.declared.needed_values.NeededValues.{NeededValues}

-- of each structure that was ever made whether it is marked
pub record StructureMarks : Type 0 where
  pub lists : List Bool
  pub sets : List Bool
  pub tables : List Bool
  pub records : List Bool

-- the marks that a heap has
abbrev pub marks_of : HeldHeap → StructureMarks
marks_of heap = record {
  lists = heap.lists.marks;
  sets = heap.sets.marks;
  tables = heap.tables.marks;
  records = heap.records.marks;
}

-- whether a value is a structure
abbrev pub is_structure : Val → Bool
is_structure NullVal = false
is_structure (IntegerVal n) = false
is_structure (TextVal span) = false
is_structure (CharsVal cset) = false
is_structure (StdVal file) = false
is_structure (ProcVal number) = false
is_structure (RecVal id) = true
is_structure (ListVal id) = true
is_structure (SetVal id) = true
is_structure (TableVal id) = true
is_structure (CoexpVal id) = false

-- a structure is marked; other values ask for nothing
abbrev pub MarkedBy : StructureMarks → Val → Type 0
MarkedBy marks NullVal = ⊤
MarkedBy marks (IntegerVal n) = ⊤
MarkedBy marks (TextVal span) = ⊤
MarkedBy marks (CharsVal cset) = ⊤
MarkedBy marks (StdVal file) = ⊤
MarkedBy marks (ProcVal number) = ⊤
MarkedBy marks (RecVal id) = IsSet marks.records id
MarkedBy marks (ListVal id) = IsSet marks.lists id
MarkedBy marks (SetVal id) = IsSet marks.sets id
MarkedBy marks (TableVal id) = IsSet marks.tables id
MarkedBy marks (CoexpVal id) = ⊤

-- nothing is marked
abbrev pub no_marks : Parts → StructureMarks
no_marks parts = record {
  lists = all_unset parts.lists.held;
  sets = all_unset parts.sets.held;
  tables = all_unset parts.tables.held;
  records = all_unset parts.records.held;
}

-- the marks with that of a structure, if it is there
abbrev pub with_marked : Parts → StructureMarks → Val → StructureMarks
with_marked parts marks NullVal = marks
with_marked parts marks (IntegerVal n) = marks
with_marked parts marks (TextVal span) = marks
with_marked parts marks (CharsVal cset) = marks
with_marked parts marks (StdVal file) = marks
with_marked parts marks (ProcVal number) = marks
with_marked parts marks (RecVal id) = record marks { records = with_mark parts.records.held marks.records id }
with_marked parts marks (ListVal id) = record marks { lists = with_mark parts.lists.held marks.lists id }
with_marked parts marks (SetVal id) = record marks { sets = with_mark parts.sets.held marks.sets id }
with_marked parts marks (TableVal id) = record marks { tables = with_mark parts.tables.held marks.tables id }
with_marked parts marks (CoexpVal id) = marks

-- whether what these flags have is there, and not marked yet
abbrev pub is_new_mark : List Bool → List Bool → ℕ → Bool
is_new_mark held marks id = slice_index_or held id false && not (slice_index_or marks id false)

-- whether a value is a structure that is there, and not marked yet
abbrev pub is_unmarked : Parts → StructureMarks → Val → Bool
is_unmarked parts marks NullVal = false
is_unmarked parts marks (IntegerVal n) = false
is_unmarked parts marks (TextVal span) = false
is_unmarked parts marks (CharsVal cset) = false
is_unmarked parts marks (StdVal file) = false
is_unmarked parts marks (ProcVal number) = false
is_unmarked parts marks (RecVal id) = is_new_mark parts.records.held marks.records id
is_unmarked parts marks (ListVal id) = is_new_mark parts.lists.held marks.lists id
is_unmarked parts marks (SetVal id) = is_new_mark parts.sets.held marks.sets id
is_unmarked parts marks (TableVal id) = is_new_mark parts.tables.held marks.tables id
is_unmarked parts marks (CoexpVal id) = false

-- the values that a structure holds
abbrev pub vals_of : Parts → Val → List Val
vals_of parts NullVal = []
vals_of parts (IntegerVal n) = []
vals_of parts (TextVal span) = []
vals_of parts (CharsVal cset) = []
vals_of parts (StdVal file) = []
vals_of parts (ProcVal number) = []
vals_of parts (RecVal id) = record_vals (slice_index_or parts.records.things id no_fields)
vals_of parts (ListVal id) = list_vals (slice_index_or parts.lists.things id no_vals)
vals_of parts (SetVal id) = set_vals (slice_index_or parts.sets.things id [])
vals_of parts (TableVal id) = table_vals (slice_index_or parts.tables.things id no_entries)
vals_of parts (CoexpVal id) = []

-- one of these values, or what a structure holds that is there and is reached from them
pub data IsReachedFrom (parts : Parts) (roots : List Val) : Val → Type 0 where
  from_root : (val : Val) → Contains roots val → IsReachedFrom parts roots val
  from_held : (structure val : Val) → IsReachedFrom parts roots structure → IsLive (extent_in parts) structure
      → Contains (vals_of parts structure) val → IsReachedFrom parts roots val

-- each structure that is there afterwards is reached from these values
pub record LeavesReached (old new : HeldHeap) (roots : List Val) : Type 0 where
  pub reached : (val : Val) → is_structure val ≡ true → IsLive (extent_of new) val
      → IsReachedFrom (parts_of old) roots val

-- A text is among those that are to stay; a structure is marked, or to be marked yet. Other values ask for nothing.
abbrev pub ToStayBy : StructureMarks → NeededValues → Val → Type 0
ToStayBy marks needed NullVal = ⊤
ToStayBy marks needed (IntegerVal n) = ⊤
ToStayBy marks needed (TextVal span) = Contains needed.ranges.items (range_of span)
ToStayBy marks needed (CharsVal cset) = ⊤
ToStayBy marks needed (StdVal file) = ⊤
ToStayBy marks needed (ProcVal number) = ⊤
ToStayBy marks needed (RecVal id) = IsSet marks.records id ⊎ Contains needed.structures.items (RecVal id)
ToStayBy marks needed (ListVal id) = IsSet marks.lists id ⊎ Contains needed.structures.items (ListVal id)
ToStayBy marks needed (SetVal id) = IsSet marks.sets id ⊎ Contains needed.structures.items (SetVal id)
ToStayBy marks needed (TableVal id) = IsSet marks.tables id ⊎ Contains needed.structures.items (TableVal id)
ToStayBy marks needed (CoexpVal id) = ⊤

-- the value stays, once what is to be marked yet is
pub record IsToStay (marks : StructureMarks) (needed : NeededValues) (val : Val) : Type 0 where
  pub due : ToStayBy marks needed val

-- the structure is there, and what it holds stays
pub record HoldsToStay (parts : Parts) (marks : StructureMarks) (needed : NeededValues) (val : Val)
    : Type 0 where
  pub live : IsLive (extent_in parts) val
  pub held : All (IsToStay marks needed) (vals_of parts val)

-- there is a mark for each structure that was ever made
pub record AreLong (parts : Parts) (marks : StructureMarks) : Type 0 where
  pub lists : length marks.lists ≡ length parts.lists.held
  pub sets : length marks.sets ≡ length parts.sets.held
  pub tables : length marks.tables ≡ length parts.tables.held
  pub records : length marks.records ≡ length parts.records.held

-- the structures that are marked alone: the others were given back
abbrev pub with_marks : Parts → StructureMarks → Parts
with_marks parts marks = record parts {
  lists = with_held parts.lists marks.lists;
  sets = with_held parts.sets marks.sets;
  tables = with_held parts.tables marks.tables;
  records = with_held parts.records marks.records;
}

-- What was needed first stays, and what each structure holds that is marked. What is marked, or is to be, is reached from it. What is needed is of the heap, and has just the
-- bytes of what was needed first and of what these structures hold.
pub record AreReached (parts : Parts) (first : NeededValues) (marks : StructureMarks)
    (needed : NeededValues) : Type 0 where
  pub roots : (val : Val) → IsNeeded first val → IsToStay marks needed val
  pub each : (val : Val) → is_structure val ≡ true → MarkedBy marks val → HoldsToStay parts marks needed val
  pub marked : (val : Val) → is_structure val ≡ true → MarkedBy marks val
      → IsReachedFrom parts first.structures.items val
  pub waits : All (IsReachedFrom parts first.structures.items) needed.structures.items
  pub of_heap : AreOfHeap (extent_in parts) needed
  pub bytes : needed_length needed ≡ needed_length first + length_of_vals (held_vals (with_marks parts marks))
  pub long : AreLong parts marks

-- and nothing is to be marked any more
pub record AreAllReached (parts : Parts) (first : NeededValues) (marks : StructureMarks)
    (needed : NeededValues) : Type 0 where
  pub reached : AreReached parts first marks needed
  pub all : needed.structures.items ≡ []

-- What a structure holds is needed beside all that was, if the structure was there and not marked; else nothing is.
abbrev pub held_anew : Parts → StructureMarks → Val → List Val
held_anew parts marks val = if is_unmarked parts marks val then vals_of parts val else []

-- the structure that was added last is taken out, or there is none; the texts stay as they are
pub record IsTakenOut (old new : NeededValues) (taken : Option Val) : Type 0 where
  pub ranges : new.ranges ≡ old.ranges
  pub structures : old.structures.items ≡ new.structures.items ++ option_to_list taken
  pub none : IfNone taken (new.structures.items ≡ [])
