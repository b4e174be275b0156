-- Rows leave settings, and give items, in which all that is named has a name, where what they are given is so.
use Rattle.std.specs.Prelude.{◌≡◌, ◌<◌, ℕ, List, length, ⊤}
use Rattle.std.specs.List.{All}
use Rattle.icn_text.specs.declared.op.Op.{Op}
use Rattle.icn_text.specs.declared.func.Func.{Func}
use Rattle.icn_text.specs.declared.func.Func.TheVariants.{Copy}
use Rattle.icn_value.specs.Values.{Value, Null, Integer, Text, Chars, Std, Procedure, ARecord, AList, ASet, ATable, ACoexp, Item}
use Rattle.icn_value.specs.Store.{Heap, Names, Setting}
use Rattle.icn_defs.specs.Arguments.{arg}
use Rattle.icn_defs.specs.Applying.{again, function_of, operation_row}
use Rattle.icn_defs.specs.ReadAndAssign.{the_values}
use Rattle.icn_defs.specs.Rows.{Row, Residual, Outcome, Fails, Gives, Suspends, Error, Ends}
use Rattle.icn_defs.specs.Running.{words_row}
use Rattle.icn_defs.specs.StepRows.{coexpression_row, list_row, record_row, text_row}
use Rattle.law_names.specs.NamedSettings.{ErrorNamed, ItemNamed, ResidualNamed, SettingNamed, ValueNamed}

-- what a row comes to names only what has a name: what it gives and leaves, the value that an error is about, and
-- the setting after it; and an error has the number of one
abbrev pub OutcomeNamed : Names → Outcome → Type 0
OutcomeNamed names (Fails seen) = SettingNamed names seen
OutcomeNamed names (Gives item seen) = ItemNamed names item × SettingNamed names seen
OutcomeNamed names (Suspends item rest seen) =
    ItemNamed names item × (ResidualNamed names rest × SettingNamed names seen)
OutcomeNamed names (Error number offending seen) =
    ErrorNamed names number offending × SettingNamed names seen
OutcomeNamed names (Ends status seen) = SettingNamed names seen

-- a value that is a record is one of the heap
abbrev pub IsThere : Heap → Value → Type 0
IsThere heap Null = ⊤
IsThere heap (Integer n) = ⊤
IsThere heap (Text text) = ⊤
IsThere heap (Chars bytes) = ⊤
IsThere heap (Std file) = ⊤
IsThere heap (Procedure number) = ⊤
IsThere heap (ARecord id) = id < length heap.records
IsThere heap (AList id) = ⊤
IsThere heap (ASet id) = ⊤
IsThere heap (ATable id) = ⊤
IsThere heap (ACoexp id) = ⊤

-- rows make no procedure value, and no record but of a kind that has a name; a copy is of a record that is there
pub record RowsKeepNames : Type 0 where
  pub operations : (names : Names) (op : Op) (items : List Item) (at : Setting)
      → SettingNamed names at → All (ItemNamed names) items → OutcomeNamed names (operation_row op items at)
  pub values : (names : Names) (items : List Item) (next : List Value → Row) (at : Setting)
      → SettingNamed names at → All (ItemNamed names) items
      → ((values : List Value) → All (ValueNamed names) values → OutcomeNamed names (next values at))
      → OutcomeNamed names (the_values items next at)
  pub functions : (names : Names) (func : Func) (values : List Value) (at : Setting)
      → SettingNamed names at → All (ValueNamed names) values
      → (func ≡ Copy → IsThere at.world.heap (arg values 0))
      → OutcomeNamed names (function_of names func values at)
  pub resumed : (names : Names) (rest : Residual) (at : Setting)
      → SettingNamed names at → ResidualNamed names rest → OutcomeNamed names (again rest at)
  pub lists : (names : Names) (values : List Value) (at : Setting)
      → SettingNamed names at → All (ValueNamed names) values → OutcomeNamed names (list_row values at)
  pub records : (names : Names) (kind : ℕ) (values : List Value) (at : Setting)
      → SettingNamed names at → kind < length names.records → All (ValueNamed names) values
      → OutcomeNamed names (record_row kind values at)
  pub texts : (names : Names) (value : Value) (at : Setting)
      → SettingNamed names at → ValueNamed names value → OutcomeNamed names (text_row value at)
  pub words : (names : Names) (words : List (List ℕ)) (at : Setting)
      → SettingNamed names at → OutcomeNamed names (words_row words at)
  pub coexpressions : (names : Names) (locals : ℕ) (at : Setting)
      → SettingNamed names at → OutcomeNamed names (coexpression_row locals at)
