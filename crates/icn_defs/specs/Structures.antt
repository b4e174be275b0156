-- The functions over lists, sets, tables and records.
use Rattle.std.specs.Prelude.{◌+◌, ℕ, zero, suc, ℤ, pos, Bool, not, List, [], ◌∷◌, ◌++◌, length, filter, drop, fold, replicate, slice_get, flat_map, Option, None, Some, is_some}
use Rattle.std.specs.Ordering.{ordering_then}
use Rattle.std.specs.declared.cmp.Ordering.{Ordering}
use Rattle.icn_structs.specs.Numbered.{NumberedList, leftmost, rightmost, without_left, without_right, with_left, with_right}
use Rattle.icn_structs.specs.PairLists.{value_of, without}
use Rattle.icn_value.specs.Values.{Value, Null, Integer, AList, ATable, ARecord, Val}
use Rattle.icn_value.specs.Store.{Heap, Table, Record, Names, list_at, set_at, table_at, record_at, with_list, with_set, with_table}
use Rattle.icn_defs.specs.Conversions.{ValueGroup, Textual, Listed, Collected, Tabled, Recorded, Filed, Activated, Single, group_of, same, has_value, with_member, sort_list, is_null}
use Rattle.icn_defs.specs.Rows.{◌>>=◌, ◌>>◌, Row, Finds, TableKeys, gives_value, suspends, wrong, check, fails_unless, thing_or_failure, natural, here, changes_heap, costs_cells, new_list_of, gives_list}
use Rattle.icn_defs.specs.ReadAndAssign.{costs_unless, stores}
use Rattle.icn_defs.specs.Operations.{new_set_of}
use Rattle.icn_defs.specs.Arguments.{arg, arg_or, integer, list, list_of, table, Keeper, SetKeeper, TableKeeper, keeper}
use Rattle.icn_defs.specs.Images.{value_cmp}

-- New tables and records

-- a new table with this default and these pairs
abbrev pub new_table_of : Table → Finds Value
new_table_of table next = do
  costs_cells (1 + length table.pairs)
  setting ← here
  let tables = setting.world.heap.tables
  changes_heap (λ heap. record heap { tables = heap.tables ++ table ∷ [] })
  next (ATable (length tables))

-- a new record of this type with these fields
abbrev pub new_record_of : Record → Finds Value
new_record_of structure next = do
  costs_cells (1 + length structure.fields)
  setting ← here
  let records = setting.world.heap.records
  changes_heap (λ heap. record heap { records = heap.records ++ structure ∷ [] })
  next (ARecord (length records))

-- a copy of a structure; any other value itself
abbrev pub copy_of : Value → ValueGroup → Row
copy_of v (Textual text) = gives_value v
copy_of v (Listed id) = do
  setting ← here
  gives_list (list_at setting.world.heap id).items
copy_of v (Collected id) = do
  setting ← here
  copy ← new_set_of (set_at setting.world.heap id)
  gives_value copy
copy_of v (Tabled id) = do
  setting ← here
  copy ← new_table_of (table_at setting.world.heap id)
  gives_value copy
copy_of v (Recorded id) = do
  setting ← here
  copy ← new_record_of (record_at setting.world.heap id)
  gives_value copy
copy_of v (Filed file) = gives_value v
copy_of v (Activated id) = gives_value v
copy_of v Single = gives_value v

-- `copy(x)`
abbrev pub copy_row : List Value → Row
copy_row args = copy_of (arg args 0) (group_of (arg args 0))

-- Lists

-- the element at an end, which is removed; it fails where there is none
abbrev pub takes_from : (NumberedList Value → Option Value) → (NumberedList Value → NumberedList Value)
    → List Value → Row
takes_from taken rest args = do
  id ← list (arg args 0)
  setting ← here
  let elements = list_at setting.world.heap id
  value ← thing_or_failure (taken elements)
  changes_heap (with_list id (rest elements))
  gives_value value

-- `get(L)` and `pop(L)`
abbrev pub get_row : List Value → Row
get_row args = takes_from leftmost without_left args

-- `pull(L)`
abbrev pub pull_row : List Value → Row
pull_row args = takes_from rightmost without_right args

-- the arguments behind the first, or null where there are none
abbrev pub or_null : List Value → List Value
or_null [] = Null ∷ []
or_null (value ∷ values) = value ∷ values

-- elements are added at an end, one after the other
abbrev pub adds_to : (NumberedList Value → Value → NumberedList Value) → List Value → Row
adds_to grown args = do
  id ← list (arg args 0)
  let added = or_null (drop 1 args)
  costs_cells (length added)
  setting ← here
  changes_heap (with_list id (fold grown (list_at setting.world.heap id) added))
  gives_value (AList id)

-- `push(L, x, ..)`
abbrev pub push_row : List Value → Row
push_row args = adds_to with_left args

-- `put(L, x, ..)`
abbrev pub put_row : List Value → Row
put_row args = adds_to with_right args

-- `list(i, x)`
abbrev pub list_row : List Value → Row
list_row args = do
  n ← integer (arg_or (Integer (pos 0)) args 0)
  count ← natural n (arg args 0)
  gives_list (replicate count (arg args 1))

-- Sets and tables

-- a set of the elements of a list, or an empty one of null
abbrev pub new_set_by : Value → Option ℕ → Row
new_set_by value (Some id) = do
  setting ← here
  set ← new_set_of (fold with_member [] (list_at setting.world.heap id).items)
  gives_value set
new_set_by value None = do
  check (is_null value) 108 (Some value)
  set ← new_set_of []
  gives_value set

-- `set(L)`
abbrev pub set_row : List Value → Row
set_row args = new_set_by (arg args 0) (list_of (arg args 0))

-- `table(x)`
abbrev pub table_row : List Value → Row
table_row args = do
  table ← new_table_of (record { default = arg args 0; pairs = [] })
  gives_value table

-- a member, or a key with its value, is put in
abbrev pub inserts : Keeper → Value → Value → Row → Row
inserts (SetKeeper id) key value next = do
  setting ← here
  let members = set_at setting.world.heap id
  costs_unless (has_value members key)
  changes_heap (with_set id (with_member members key))
  next
inserts (TableKeeper id) key value next = stores id key value next

-- `insert(X, x, y)`
abbrev pub insert_row : List Value → Row
insert_row args = do
  kept ← keeper (arg args 0)
  inserts kept (arg args 1) (arg args 2)
  gives_value (arg args 0)

-- a member, or a key with its value, is taken out
abbrev pub without_key : Keeper → Value → Heap → Heap
without_key (SetKeeper id) key heap =
    with_set id (filter (λ member. not (same key member)) (set_at heap id)) heap
without_key (TableKeeper id) key heap =
    let table = table_at heap id in
    with_table id (record { default = table.default; pairs = without same table.pairs key }) heap

-- `delete(X, x)`
abbrev pub delete_row : List Value → Row
delete_row args = do
  kept ← keeper (arg args 0)
  changes_heap (without_key kept (arg args 1))
  gives_value (arg args 0)

-- whether a member or a key is there
abbrev pub has_key : Heap → Keeper → Value → Bool
has_key heap (SetKeeper id) key = has_value (set_at heap id) key
has_key heap (TableKeeper id) key = is_some (value_of same (table_at heap id).pairs key)

-- `member(X, x)`
abbrev pub member_row : List Value → Row
member_row args = do
  kept ← keeper (arg args 0)
  setting ← here
  fails_unless (has_key setting.world.heap kept (arg args 1))
  gives_value (arg args 1)

-- the key at an index, from 0 on, with the index behind it; it fails where none stands there
abbrev pub table_keys_from : ℕ → ℕ → Row
table_keys_from id index = do
  setting ← here
  pair ← thing_or_failure (slice_get (table_at setting.world.heap id).pairs index)
  suspends (Val pair.0) (TableKeys id (index + 1))

-- `key(T)`
abbrev pub key_row : List Value → Row
key_row args = do
  id ← table (arg args 0)
  table_keys_from id 0

-- Sorting

-- new lists of two, each of a pair, from the first on
abbrev pub pair_lists : List (Value × Value) → Finds (List Value)
pair_lists [] next = next []
pair_lists (pair ∷ pairs) next = do
  list ← new_list_of (pair.0 ∷ pair.1 ∷ [])
  lists ← pair_lists pairs
  next (list ∷ lists)

-- pairs by key; by value, and of equal values by key
abbrev pub key_cmp : Names → Heap → Value × Value → Value × Value → Ordering
key_cmp names heap a b = value_cmp names heap a.0 b.0

-- by value, and of equal values by key
abbrev pub entry_cmp : Names → Heap → Value × Value → Value × Value → Ordering
entry_cmp names heap a b = ordering_then (value_cmp names heap a.1 b.1) (value_cmp names heap a.0 b.0)

-- a list of lists of two
abbrev pub gives_pair_lists : List (Value × Value) → Row
gives_pair_lists pairs = do
  lists ← pair_lists pairs
  gives_list lists

-- one list of keys and values in turn
abbrev pub gives_pairs : List (Value × Value) → Row
gives_pairs pairs = gives_list (flat_map (λ (pair : Value × Value). pair.0 ∷ pair.1 ∷ []) pairs)

-- how a table is sorted: by key or by value, to lists of two or in turn
abbrev pub table_sorted : Names → Heap → List (Value × Value) → ℤ → Value → Row
table_sorted names heap pairs (pos (suc zero)) chosen =
    gives_pair_lists (sort_list (key_cmp names heap) pairs)
table_sorted names heap pairs (pos (suc (suc zero))) chosen =
    gives_pair_lists (sort_list (entry_cmp names heap) pairs)
table_sorted names heap pairs (pos (suc (suc (suc zero)))) chosen =
    gives_pairs (sort_list (key_cmp names heap) pairs)
table_sorted names heap pairs (pos (suc (suc (suc (suc zero))))) chosen =
    gives_pairs (sort_list (entry_cmp names heap) pairs)
table_sorted names heap pairs n chosen = wrong 205 (Some chosen)

-- a sorted list of what a structure holds: 115 for other values
abbrev pub sorted_of : Names → Value → ℤ → Value → ValueGroup → Row
sorted_of names v n chosen (Listed id) = do
  setting ← here
  gives_list (sort_list (value_cmp names setting.world.heap) (list_at setting.world.heap id).items)
sorted_of names v n chosen (Collected id) = do
  setting ← here
  gives_list (sort_list (value_cmp names setting.world.heap) (set_at setting.world.heap id))
sorted_of names v n chosen (Recorded id) = do
  setting ← here
  gives_list (sort_list (value_cmp names setting.world.heap) (record_at setting.world.heap id).fields)
sorted_of names v n chosen (Tabled id) = do
  setting ← here
  table_sorted names setting.world.heap (table_at setting.world.heap id).pairs n chosen
sorted_of names v n chosen (Textual text) = wrong 115 (Some v)
sorted_of names v n chosen (Filed file) = wrong 115 (Some v)
sorted_of names v n chosen (Activated id) = wrong 115 (Some v)
sorted_of names v n chosen Single = wrong 115 (Some v)

-- `sort(x, i)`
abbrev pub sort_row : Names → List Value → Row
sort_row names args = do
  n ← integer (arg_or (Integer (pos 1)) args 1)
  sorted_of names (arg args 0) n (arg args 1) (group_of (arg args 0))
