-- Rows keep each record as long as its kind, and each record of its kind.
use Rattle.std.specs.Prelude.{◌≡◌, ℕ, List, length, slice_get, Option, Some, option_map}
use Rattle.icn_text.specs.declared.op.Op.{Op}
use Rattle.icn_text.specs.declared.func.Func.{Func}
use Rattle.icn_text.specs.declared.func.Func.TheVariants.{Copy}
use Rattle.icn_value.specs.Values.{Value, Item}
use Rattle.icn_value.specs.Store.{Heap, Names, Record, Setting}
use Rattle.icn_defs.specs.Arguments.{arg}
use Rattle.icn_defs.specs.Applying.{again, function_of, operation_row}
use Rattle.icn_defs.specs.ReadAndAssign.{the_values}
use Rattle.icn_defs.specs.Rows.{Row, Residual, Outcome, Fails, Gives, Suspends, Error, Ends}
use Rattle.icn_defs.specs.Running.{words_row}
use Rattle.icn_defs.specs.StepRows.{coexpression_row, list_row, record_row, text_row}
use Rattle.law_names.specs.RowsNamed.{IsThere}

-- each record has as many fields as its kind has
pub record FitSizes (sizes : ℕ → ℕ) (heap : Heap) : Type 0 where
  pub fit : (id : ℕ) (structure : Record) → slice_get heap.records id ≡ Some structure
      → length structure.fields ≡ sizes structure.kind

-- the kind of a record, where it is there
abbrev pub kind_at : Heap → ℕ → Option ℕ
kind_at heap id = option_map (λ structure. structure.kind) (slice_get heap.records id)

-- from one heap to a later one: each record is of the kind that it was of, and records that had as many fields as their kinds
-- have so many still
pub record KeepSizes (sizes : ℕ → ℕ) (before after : Heap) : Type 0 where
  pub kinds : (id kind : ℕ) → kind_at before id ≡ Some kind → kind_at after id ≡ Some kind
  pub fit : FitSizes sizes before → FitSizes sizes after

-- the heap after a row
abbrev pub heap_after : Outcome → Heap
heap_after (Fails seen) = seen.world.heap
heap_after (Gives item seen) = seen.world.heap
heap_after (Suspends item rest seen) = seen.world.heap
heap_after (Error number offending seen) = seen.world.heap
heap_after (Ends status seen) = seen.world.heap

-- rows make no record but with as many fields as its kind has, where a copy is of a record that is there
pub record RowsKeepSizes : Type 0 where
  pub operations : (sizes : ℕ → ℕ) (op : Op) (items : List Item) (at : Setting)
      → KeepSizes sizes at.world.heap (heap_after (operation_row op items at))
  pub values : (sizes : ℕ → ℕ) (items : List Item) (next : List Value → Row) (at : Setting)
      → ((values : List Value) → KeepSizes sizes at.world.heap (heap_after (next values at)))
      → KeepSizes sizes at.world.heap (heap_after (the_values items next at))
  pub functions : (sizes : ℕ → ℕ) (names : Names) (func : Func) (values : List Value) (at : Setting)
      → (func ≡ Copy → IsThere at.world.heap (arg values 0))
      → KeepSizes sizes at.world.heap (heap_after (function_of names func values at))
  pub resumed : (sizes : ℕ → ℕ) (rest : Residual) (at : Setting)
      → KeepSizes sizes at.world.heap (heap_after (again rest at))
  pub lists : (sizes : ℕ → ℕ) (values : List Value) (at : Setting)
      → KeepSizes sizes at.world.heap (heap_after (list_row values at))
  pub records : (sizes : ℕ → ℕ) (kind : ℕ) (values : List Value) (at : Setting)
      → length values ≡ sizes kind
      → KeepSizes sizes at.world.heap (heap_after (record_row kind values at))
  pub texts : (sizes : ℕ → ℕ) (value : Value) (at : Setting)
      → KeepSizes sizes at.world.heap (heap_after (text_row value at))
  pub words : (sizes : ℕ → ℕ) (words : List (List ℕ)) (at : Setting)
      → KeepSizes sizes at.world.heap (heap_after (words_row words at))
  pub coexpressions : (sizes : ℕ → ℕ) (locals : ℕ) (at : Setting)
      → KeepSizes sizes at.world.heap (heap_after (coexpression_row locals at))
