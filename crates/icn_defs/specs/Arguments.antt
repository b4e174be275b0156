-- What arguments are, and what kinds of them are wanted.
use Rattle.std.specs.Prelude.{ℕ, ℤ, List, Option, None, Some, if◌then◌else◌}
use Rattle.icn_value.specs.Values.{Value, Std, AList, ASet, ATable, File}
use Rattle.icn_value.specs.Store.{value_at}
use Rattle.icn_defs.specs.Conversions.{integer_of, text_of, cset_of, is_null}
use Rattle.icn_defs.specs.Rows.{Finds, present}

-- a value, or another one where it is null
abbrev pub value_or : Value → Value → Value
value_or default value = if is_null value then default else value

-- the argument at this index, which is null where it is missing
abbrev pub arg : List Value → ℕ → Value
arg values index = value_at values index

-- the argument at this index, or another value where it is null
abbrev pub arg_or : Value → List Value → ℕ → Value
arg_or default values index = value_or default (arg values index)

-- Integers, texts and csets, by conversion

-- an integer, as arithmetic wants it: 102
abbrev pub number : Value → Finds ℤ
number value = present (integer_of value) 102 (Some value)

-- an integer: 101
abbrev pub integer : Value → Finds ℤ
integer value = present (integer_of value) 101 (Some value)

-- a text: 103; nothing is charged yet
abbrev pub string : Value → Finds (List ℕ)
string value = present (text_of value) 103 (Some value)

-- a cset: 104
abbrev pub cset : Value → Finds (List ℕ)
cset value = present (cset_of value) 104 (Some value)

-- Files and structures, by their numbers

-- the file of a value that is one
abbrev pub file_of : Value → Option File
file_of (Std file) = Some file
file_of value = None

-- a file: 105
abbrev pub file : Value → Finds File
file value = present (file_of value) 105 (Some value)

-- the number of a list
abbrev pub list_of : Value → Option ℕ
list_of (AList id) = Some id
list_of value = None

-- a list: 108
abbrev pub list : Value → Finds ℕ
list value = present (list_of value) 108 (Some value)

-- the number of a set
abbrev pub set_of : Value → Option ℕ
set_of (ASet id) = Some id
set_of value = None

-- the number of a table
abbrev pub table_of : Value → Option ℕ
table_of (ATable id) = Some id
table_of value = None

-- a table: 124
abbrev pub table : Value → Finds ℕ
table value = present (table_of value) 124 (Some value)

-- a set or a table
pub data Keeper : Type 0 where
  SetKeeper : ℕ → Keeper
  TableKeeper : ℕ → Keeper

-- the set or table of a value that is one
abbrev pub keeper_of : Value → Option Keeper
keeper_of (ASet id) = Some (SetKeeper id)
keeper_of (ATable id) = Some (TableKeeper id)
keeper_of value = None

-- a set or a table: 122
abbrev pub keeper : Value → Finds Keeper
keeper value = present (keeper_of value) 122 (Some value)
