-- Values that name no co-expression but one that is there: the first of them are so many.
use Rattle.std.specs.Prelude.{◌≡◌, ℕ, suc, ◌<◌, List, length, Option, None, Some}
pub use Rattle.std.specs.List.{AllByRecursion as Each}
use Rattle.icn_structs.specs.Numbered.{NumberedList}
use Rattle.icn_value.specs.Values.{Value, ACoexp, Root, Variable, Item, Val}
use Rattle.icn_value.specs.Store.{Table, Record, Heap, KeptError, World, Setting, Names}
use Rattle.icn_defs.specs.Rows.{Residual, Outcome, Fails, Gives, Suspends, Error, Ends}
use Rattle.icn_defs.specs.Applying.{again}
use Rattle.icn_defs.specs.StepRows.{OperationOrFunction, apply, list_row, record_row, text_row, coexpression_row}
use Rattle.icn_defs.specs.Running.{words_row}
use Rattle.law_rows.specs.HeldValues.{OptionBy, RootBy, VariableBy, ItemBy, PairBy, ListBy, TableBy, ResidualBy}

-- a co-expression is one of the first so many; other values ask for nothing
abbrev pub ValueWithin : ℕ → Value → Type 0
ValueWithin n (ACoexp k) = k < n
ValueWithin n value = Unit {0}

-- the value, if there is one, names no other co-expression
abbrev pub OptionWithin : ℕ → Option Value → Type 0
OptionWithin n value = OptionBy (ValueWithin n) value

-- the value that an error that is kept is about, if any
abbrev pub KeptWithin : ℕ → Option KeptError → Type 0
KeptWithin n None = Unit {0}
KeptWithin n (Some error) = OptionWithin n error.value

-- the key of a table names no other co-expression; other roots hold no value
abbrev pub RootWithin : ℕ → Root → Type 0
RootWithin n root = RootBy (ValueWithin n) root

-- what a variable is rooted in names no other co-expression
abbrev pub VariableWithin : ℕ → Variable → Type 0
VariableWithin n variable = VariableBy (ValueWithin n) variable

-- a value, or what a variable is rooted in, names no other co-expression
abbrev pub ItemWithin : ℕ → Item → Type 0
ItemWithin n item = ItemBy (ValueWithin n) item

-- the key and the value of a pair name no other co-expression
abbrev pub PairWithin : ℕ → Value × Value → Type 0
PairWithin n pair = PairBy (ValueWithin n) pair

-- each item of a list names no other co-expression
abbrev pub ListWithin : ℕ → NumberedList Value → Type 0
ListWithin n list = ListBy (ValueWithin n) list

-- each member of a set names no other co-expression
abbrev pub SetWithin : ℕ → List Value → Type 0
SetWithin n members = Each (ValueWithin n) members

-- the default and each pair of a table name no other co-expression
abbrev pub TableWithin : ℕ → Table → Type 0
TableWithin n table = TableBy (ValueWithin n) table

-- each field of a record names no other co-expression
abbrev pub RecordWithin : ℕ → Record → Type 0
RecordWithin n structure = Each (ValueWithin n) structure.fields

-- the heap counts the results of so many co-expressions, and its structures hold no others
pub record HeapWithin (n : ℕ) (heap : Heap) : Type 0 where
  pub lists : Each (ListWithin n) heap.lists
  pub sets : Each (SetWithin n) heap.sets
  pub tables : Each (TableWithin n) heap.tables
  pub records : Each (RecordWithin n) heap.records
  pub count : length heap.coexps ≡ n

-- what the values of a world name is no other co-expression
pub record WorldWithin (n : ℕ) (world : World) : Type 0 where
  pub heap : HeapWithin n world.heap
  pub globals : Each (ValueWithin n) world.globals
  pub statics : Each (ValueWithin n) world.statics
  pub kept : KeptWithin n world.kept

-- what the values of a setting name is no other co-expression
pub record SettingWithin (n : ℕ) (setting : Setting) : Type 0 where
  pub world : WorldWithin n setting.world
  pub locals : Each (ValueWithin n) setting.locals

-- the variables and the old values of a residual name no other co-expression
abbrev pub ResidualWithin : ℕ → Residual → Type 0
ResidualWithin n residual = ResidualBy (ValueWithin n) residual

-- what a row comes to names no other co-expression, nor does the setting that it leaves
abbrev pub OutcomeWithin : ℕ → Outcome → Type 0
OutcomeWithin n (Fails seen) = SettingWithin n seen
OutcomeWithin n (Gives item seen) = ItemWithin n item × SettingWithin n seen
OutcomeWithin n (Suspends item residual seen) =
    ItemWithin n item × ResidualWithin n residual × SettingWithin n seen
OutcomeWithin n (Error number value seen) = OptionWithin n value × SettingWithin n seen
OutcomeWithin n (Ends status seen) = Unit {0}

-- one more co-expression was made, and nothing else changed of what values stand in; an error makes none
abbrev pub CreatedWithin : ℕ → Setting → Outcome → Type 0
CreatedWithin n before (Gives (Val value) seen) =
    (value ≡ ACoexp n) × WorldWithin (suc n) seen.world × (seen.locals ≡ before.locals)
CreatedWithin n before (Error number value seen) =
    OptionWithin n value × WorldWithin n seen.world × (seen.locals ≡ before.locals)
CreatedWithin n before outcome = ⊥

-- rows make no others
pub record RowsStayWithin : Type 0 where
  pub applied : (n : ℕ) (names : Names) (what : OperationOrFunction) (items : List Item) (at : Setting)
      → SettingWithin n at → Each (ItemWithin n) items → OutcomeWithin n (apply names what items at)
  pub listed : (n : ℕ) (values : List Value) (at : Setting) → SettingWithin n at → Each (ValueWithin n) values
      → OutcomeWithin n (list_row values at)
  pub recorded : (n kind : ℕ) (values : List Value) (at : Setting) → SettingWithin n at
      → Each (ValueWithin n) values → OutcomeWithin n (record_row kind values at)
  pub scanned : (n : ℕ) (value : Value) (at : Setting) → SettingWithin n at → ValueWithin n value
      → OutcomeWithin n (text_row value at)
  pub worded : (n : ℕ) (words : List (List ℕ)) (at : Setting) → SettingWithin n at
      → OutcomeWithin n (words_row words at)
  pub created : (n locals : ℕ) (at : Setting) → SettingWithin n at
      → CreatedWithin n at (coexpression_row locals at)
  pub resumed : (n : ℕ) (residual : Residual) (at : Setting) → SettingWithin n at → ResidualWithin n residual
      → OutcomeWithin n (again residual at)
