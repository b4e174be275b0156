-- Settings whose values name only what has a name: each procedure value, and the kind of each record.
use Rattle.std.specs.Prelude.{◌<◌, ◌≡◌, ℕ, true, List, length, Option, None, Some}
use Rattle.std.specs.List.{All}
use Rattle.icn_structs.specs.Numbered.{NumberedList}
use Rattle.icn_value.specs.Values.{Value, Null, Integer, Text, Chars, Std, Procedure, ARecord, AList, ASet, ATable, ACoexp, Root, Variable, Item}
use Rattle.icn_value.specs.Store.{Table, Record, Heap, KeptError, World, Setting, Names}
use Rattle.icn_defs.specs.RowFacts.{is_error_number}
use Rattle.icn_defs.specs.Rows.{Residual}
use Rattle.law_rows.specs.HeldValues.{OptionBy, RootBy, VariableBy, ItemBy, PairBy, ResidualBy}
use Rattle.icn_convert.specs.ProgramNames.{name_count}

-- a value that is a procedure is one that has a name
abbrev pub ValueNamed : Names → Value → Type 0
ValueNamed names Null = Unit {0}
ValueNamed names (Integer n) = Unit {0}
ValueNamed names (Text text) = Unit {0}
ValueNamed names (Chars bytes) = Unit {0}
ValueNamed names (Std file) = Unit {0}
ValueNamed names (Procedure number) = number < name_count names
ValueNamed names (ARecord id) = Unit {0}
ValueNamed names (AList id) = Unit {0}
ValueNamed names (ASet id) = Unit {0}
ValueNamed names (ATable id) = Unit {0}
ValueNamed names (ACoexp id) = Unit {0}

-- the value that is there, if any, names what has a name
abbrev pub OptionNamed : Names → Option Value → Type 0
OptionNamed names value = OptionBy (ValueNamed names) value

-- the key of a table names what has a name; other roots hold no value
abbrev pub RootNamed : Names → Root → Type 0
RootNamed names root = RootBy (ValueNamed names) root

-- what a variable is rooted in names what has a name
abbrev pub VariableNamed : Names → Variable → Type 0
VariableNamed names variable = VariableBy (ValueNamed names) variable

-- a value, or what a variable is rooted in, names what has a name
pub record ItemNamed (names : Names) (item : Item) : Type 0 where
  pub named : ItemBy (ValueNamed names) item

-- the key and the value of a pair name what has a name
abbrev pub PairNamed : Names → Value × Value → Type 0
PairNamed names pair = PairBy (ValueNamed names) pair

-- each item of a list names what has a name
abbrev pub ListNamed : Names → NumberedList Value → Type 0
ListNamed names list = All (ValueNamed names) list.items

-- each member of a set names what has a name
abbrev pub SetNamed : Names → List Value → Type 0
SetNamed names members = All (ValueNamed names) members

-- the default and each pair of a table name what has a name
abbrev pub TableNamed : Names → Table → Type 0
TableNamed names table = ValueNamed names table.default × All (PairNamed names) table.pairs

-- the kind of a record has a name, and each of its fields names what has one
abbrev pub RecordNamed : Names → Record → Type 0
RecordNamed names structure =
    (structure.kind < length names.records) × All (ValueNamed names) structure.fields

-- the values in all structures of a heap name what has a name, and the kind of each record has one
pub record HeapNamed (names : Names) (heap : Heap) : Type 0 where
  pub lists : All (ListNamed names) heap.lists
  pub sets : All (SetNamed names) heap.sets
  pub tables : All (TableNamed names) heap.tables
  pub records : All (RecordNamed names) heap.records

-- the number is that of an error, and the value that it is about, if any, names what has a name
abbrev pub ErrorNamed : Names → ℕ → Option Value → Type 0
ErrorNamed names number offending = OptionNamed names offending × (is_error_number number ≡ true)

-- the same of an error that is kept
abbrev pub KeptNamed : Names → Option KeptError → Type 0
KeptNamed names None = Unit {0}
KeptNamed names (Some error) = ErrorNamed names error.number error.value

-- what the values of a world name has a name
pub record WorldNamed (names : Names) (world : World) : Type 0 where
  pub heap : HeapNamed names world.heap
  pub globals : All (ValueNamed names) world.globals
  pub statics : All (ValueNamed names) world.statics
  pub kept : KeptNamed names world.kept

-- what the values of a setting name has a name
pub record SettingNamed (names : Names) (setting : Setting) : Type 0 where
  pub world : WorldNamed names setting.world
  pub locals : All (ValueNamed names) setting.locals

-- the variables and the old values of a residual name what has a name
pub record ResidualNamed (names : Names) (rest : Residual) : Type 0 where
  pub named : ResidualBy (ValueNamed names) rest
