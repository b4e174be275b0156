-- The parts of a heap as it holds them, what they stand for, and what holds of them.
use Rattle.std.specs.Prelude.{◌≡◌, ℕ, ◌+◌, ◌<◌, ◌≤◌, ◌^◌, pos, ◌+ℤ◌, ◌≤ℤ◌, true, List, [], map, length, is_some, if◌then◌else◌}
use Rattle.std.specs.List.{All}
use Rattle.std.proofs.Props.{props}
use Rattle.icn_strings.specs.declared.region.Region.{Region}
use Rattle.icn_strings.specs.Regions.{sum_of, limit_of}
use Rattle.icn_structs.specs.Numbered.{NumberedList, number_after}
use Rattle.icn_structs.specs.PairLists.{value_of, with_value_of, without}
use Rattle.icn_structs.specs.Shelves.{Shelved, things_there}
use Rattle.icn_value.specs.declared.limits.Limits.{Limits}
use Rattle.icn_value.specs.declared.val.Val.{Val}
use Rattle.icn_value.specs.declared.val.Val.TheVariants.{Null}
use Rattle.icn_value.specs.Limited.{limits_of}
use Rattle.icn_value.specs.Values.{Value}
use Rattle.icn_value.specs.Store.{Heap, Table, Record, OpenedFile}
use Rattle.icn_value.specs.Sameness.{same}
use Rattle.icn_heap.specs.ElementValues.{list_vals, set_vals, table_vals, record_vals}
use Rattle.icn_heap.specs.Extents.{Extent, IsLive, IsLive-prop, IsMade, IsMade-prop, value_in}
use Rattle.icn_heap.specs.Keys.{key_value, IsKey, IsKey-prop}
use Rattle.icn_heap.specs.KeyTests.{key_eq}
use Rattle.icn_heap.specs.declared.key.Key.{Key}
use Rattle.icn_heap.specs.declared.entries.Entry.{Entry}
use Rattle.icn_heap.specs.declared.entries.Entries.{Entries}
use Rattle.icn_heap.specs.Records.{HeldRecord}

-- the parts: the region of strings, the structures of each type that were ever made, the counts of results, the files that were
-- opened, and what cells are charged
pub record Parts : Type 0 where
  pub strings : Region
  pub lists : Shelved (NumberedList Val)
  pub sets : Shelved (List (Key × Val))
  pub tables : Shelved Entries
  pub records : Shelved HeldRecord
  pub coexps : List ℕ
  pub files : List OpenedFile
  pub cells : ℕ
  pub limits : Limits

-- the parts of a heap, by name
abbrev pub parts : Region → Shelved (NumberedList Val) → Shelved (List (Key × Val)) → Shelved Entries
    → Shelved HeldRecord → List ℕ → List OpenedFile → ℕ → Limits → Parts
parts strings lists sets tables records coexps files cells limits = record {
  strings = strings;
  lists = lists;
  sets = sets;
  tables = tables;
  records = records;
  coexps = coexps;
  files = files;
  cells = cells;
  limits = limits;
}

-- Each structure as values that hold their bytes

-- the list that a held list stands for
abbrev pub list_in : Extent → NumberedList Val → NumberedList Value
list_in all list = record { items = map (value_in all) list.items; number = list.number }

-- what a held member stands for is what its key stands for
abbrev pub member_in : Key × Val → Value
member_in member = key_value member.0

-- the members that a held set stands for, in their order
abbrev pub set_in : List (Key × Val) → List Value
set_in members = map member_in members

-- the key and the value that a held pair stands for
abbrev pub pair_in : Extent → Key × Entry → Value × Value
pair_in all pair = (key_value pair.0, value_in all pair.1.value)

-- the table that a held table stands for
abbrev pub table_in : Extent → Entries → Table
table_in all table = record { default = value_in all table.default; pairs = map (pair_in all) table.pairs }

-- the record that a held record stands for
abbrev pub record_in : Extent → HeldRecord → Record
record_in all held = record { kind = held.kind; fields = map (value_in all) held.values }

-- the parts as a heap of the definitions, by an extent: with all structures that were ever made
abbrev pub heap_over : Extent → Parts → Heap
heap_over all parts = record {
  lists = map (list_in all) parts.lists.things;
  sets = map set_in parts.sets.things;
  tables = map (table_in all) parts.tables.things;
  records = map (record_in all) parts.records.things;
  coexps = parts.coexps;
  files = parts.files;
  strings = sum_of parts.strings;
  cells = parts.cells;
  bounds = limits_of parts.limits;
}

-- the texts of the parts, and which of their structures are there
abbrev pub extent_in : Parts → Extent
extent_in parts = record {
  strings = parts.strings;
  lists = parts.lists.held;
  sets = parts.sets.held;
  tables = parts.tables.held;
  records = parts.records.held;
  coexps = length parts.coexps;
  files = length parts.files;
}

-- Structures for numbers that none has

-- an empty list, as it is held
abbrev pub no_vals : NumberedList Val
no_vals = record { items = []; number = pos 1 }

-- an empty table with null as its default, as it is held
abbrev pub no_entries : Entries
no_entries = record { default = Null; pairs = [] }

-- What is found at a place

-- the entry of a pair, without the key that finds it
abbrev pub entry_of : Key × Entry → Entry
entry_of pair = pair.1

-- the value of a table's entry
abbrev pub entry_value : Entry → Val
entry_value entry = entry.value

-- the key and the value of a table's entry
abbrev pub entry_vals : Entry → Val × Val
entry_vals entry = (entry.key, entry.value)

-- members with one more under its key, unless that key is there
abbrev pub with_entry : List (Key × Val) → Key → Val → List (Key × Val)
with_entry members key val =
    if is_some (value_of key_eq members key) then members else with_value_of key_eq members key val

-- a table with a pair under a key, and without the pair of a key

-- the table with this entry under this key
abbrev pub table_with : Entries → Key → Entry → Entries
table_with table key entry = record table { pairs = with_value_of key_eq table.pairs key entry }

-- the table without the entry of this key
abbrev pub table_without : Entries → Key → Entries
table_without table key = record table { pairs = without key_eq table.pairs key }

-- What holds of each structure

-- the items are of the heap, and no more numbers were used up than cells were charged
pub record IsSoundList (all : Extent) (cells : ℕ) (list : NumberedList Val) : Type 0 where
  pub live : All (IsLive all) list.items
  pub low : pos 1 ≤ℤ (list.number +ℤ pos cells)
  pub high : number_after list ≤ℤ pos (cells + 1)

-- the member is of the heap, and its key is the one that it is kept under
pub record IsSoundMember (all : Extent) (member : Key × Val) : Type 0 where
  pub live : IsLive all member.1
  pub formed : IsKey member.0
  pub alike : same (key_value member.0) (value_in all member.1) ≡ true

-- the values of a pair are of the heap, and its key is the one that it is kept under
pub record IsSoundPair (all : Extent) (pair : Key × Entry) : Type 0 where
  pub key : IsLive all pair.1.key
  pub value : IsLive all pair.1.value
  pub formed : IsKey pair.0
  pub alike : same (key_value pair.0) (value_in all pair.1.key) ≡ true

-- the default and each pair of a table are of the heap
pub record IsSoundTable (all : Extent) (table : Entries) : Type 0 where
  pub default : IsLive all table.default
  pub pairs : All (IsSoundPair all) table.pairs

-- the fields are of the heap, and there are so few that each place is a number of 16 bits
pub record IsSoundRecord (all : Extent) (held : HeldRecord) : Type 0 where
  pub live : All (IsLive all) held.values
  pub few : length held.values ≤ 2 ^ 16

-- no more of an opened file was read than it holds
pub record IsSoundFile (file : OpenedFile) : Type 0 where
  pub within : file.place ≤ length file.content

-- what structures hold was made in the heap, and of each it is known whether it is there
pub record HoldMade {X : Type 0} (all : Extent) (vals : X → List Val) (shelf : Shelved X) : Type 0 where
  pub made : All (λ structure. All (IsMade all) (vals structure)) shelf.things
  pub long : length shelf.held ≡ length shelf.things

-- by an extent, the structures that are there are sound; those that are gone hold what was made
pub record AreSound (all : Extent) (parts : Parts) : Type 0 where
  pub lists : All (IsSoundList all parts.cells) (things_there parts.lists)
  pub sets : All (All (IsSoundMember all)) (things_there parts.sets)
  pub tables : All (IsSoundTable all) (things_there parts.tables)
  pub records : All (IsSoundRecord all) (things_there parts.records)
  pub made_lists : HoldMade all list_vals parts.lists
  pub made_sets : HoldMade all set_vals parts.sets
  pub made_tables : HoldMade all table_vals parts.tables
  pub made_records : HoldMade all record_vals parts.records
  pub coexps : All (λ count. count < 2 ^ 63) parts.coexps
  pub files : All IsSoundFile parts.files

-- the sums are within the limits, and there are no more structures and opened files than cells, `&main` aside, which is there
pub record IsCharged (parts : Parts) : Type 0 where
  pub limit : limit_of parts.strings ≡ parts.limits.strings
  pub within : parts.cells ≤ parts.limits.cells
  pub counted : length parts.lists.things + length parts.sets.things + length parts.tables.things
      + length parts.records.things + length parts.files + length parts.coexps ≤ parts.cells + 1
  pub main : 0 < length parts.coexps

-- what each heap keeps
pub record IsSoundHeap (parts : Parts) : Type 0 where
  pub structures : AreSound (extent_in parts) parts
  pub charged : IsCharged parts

IsSoundList-prop : (all : Extent) (cells : ℕ) (list : NumberedList Val) → IsProp (IsSoundList all cells list)
IsSoundList-prop all cells list = hlevel (IsLive-prop, props)

IsSoundMember-prop : (all : Extent) (member : Key × Val) → IsProp (IsSoundMember all member)
IsSoundMember-prop all member = hlevel (IsLive-prop, IsKey-prop, props)

IsSoundPair-prop : (all : Extent) (pair : Key × Entry) → IsProp (IsSoundPair all pair)
IsSoundPair-prop all pair = hlevel (IsLive-prop, IsKey-prop, props)

IsSoundTable-prop : (all : Extent) (table : Entries) → IsProp (IsSoundTable all table)
IsSoundTable-prop all table = hlevel (IsLive-prop, IsSoundPair-prop)

IsSoundRecord-prop : (all : Extent) (held : HeldRecord) → IsProp (IsSoundRecord all held)
IsSoundRecord-prop all held = hlevel (IsLive-prop, props)

IsSoundFile-prop : (file : OpenedFile) → IsProp (IsSoundFile file)
IsSoundFile-prop file = hlevel props

HoldMade-prop : {X : Type 0} (all : Extent) (vals : X → List Val) (shelf : Shelved X)
    → IsProp (HoldMade all vals shelf)
HoldMade-prop all vals shelf = hlevel (IsMade-prop, props)

AreSound-prop : (all : Extent) (parts : Parts) → IsProp (AreSound all parts)
AreSound-prop all parts =
    hlevel (
      IsSoundList-prop,
      IsSoundMember-prop,
      IsSoundTable-prop,
      IsSoundRecord-prop,
      IsSoundFile-prop,
      HoldMade-prop,
      props,
    )

IsCharged-prop : (parts : Parts) → IsProp (IsCharged parts)
IsCharged-prop parts = hlevel props

-- there is one proof at most that the parts of a heap are sound
pub IsSound-prop : (parts : Parts) → IsProp (IsSoundHeap parts)
IsSound-prop parts = hlevel (AreSound-prop, IsCharged-prop)
