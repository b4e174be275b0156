-- Structures that are made of a value.
use Rattle.std.specs.Prelude.{ℕ, [], Option, None, Some, fold}
use Rattle.icn_value.specs.Values.{Value, Null, Integer, Text, Chars, Std, Procedure, ARecord, AList, ASet, ATable, ACoexp}
use Rattle.icn_value.specs.Store.{list_at, set_at, table_at, record_at}
use Rattle.icn_value.specs.Sameness.{with_member}
use Rattle.icn_defs.specs.Conversions.{is_null}
use Rattle.icn_defs.specs.Rows.{◌>>=◌, ◌>>◌, Finds, check, here, new_list_of}
use Rattle.icn_defs.specs.Arguments.{list_of}
use Rattle.icn_defs.specs.Operations.{new_set_of}
use Rattle.icn_defs.specs.Structures.{new_table_of, new_record_of}

-- a structure with the same elements; any other value is its own copy
abbrev pub copy_of_value : Value → Finds Value
copy_of_value (AList id) next = do
  setting ← here
  list ← new_list_of (list_at setting.world.heap id).items
  next list
copy_of_value (ASet id) next = do
  setting ← here
  set ← new_set_of (set_at setting.world.heap id)
  next set
copy_of_value (ATable id) next = do
  setting ← here
  table ← new_table_of (table_at setting.world.heap id)
  next table
copy_of_value (ARecord id) next = do
  setting ← here
  structure ← new_record_of (record_at setting.world.heap id)
  next structure
copy_of_value Null next = next Null
copy_of_value (Integer n) next = next (Integer n)
copy_of_value (Text bytes) next = next (Text bytes)
copy_of_value (Chars bytes) next = next (Chars bytes)
copy_of_value (Std file) next = next (Std file)
copy_of_value (Procedure number) next = next (Procedure number)
copy_of_value (ACoexp id) next = next (ACoexp id)

-- a set of the elements of a list, or an empty one of null: 108 for other values
abbrev pub set_by : Value → Option ℕ → Finds Value
set_by value (Some id) next = do
  setting ← here
  set ← new_set_of (fold with_member [] (list_at setting.world.heap id).items)
  next set
set_by value None next = do
  check (is_null value) 108 (Some value)
  set ← new_set_of []
  next set

-- a set of the elements of a list, or an empty one of null: 108 for other values
abbrev pub set_of_value : Value → Finds Value
set_of_value value = set_by value (list_of value)
