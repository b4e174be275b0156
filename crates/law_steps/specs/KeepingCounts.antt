-- Rows leave the limits of the heap, and the counts of results.
use Rattle.std.specs.Prelude.{◌≡◌, List}
use Rattle.icn_text.specs.declared.op.Op.{Op}
use Rattle.icn_text.specs.declared.func.Func.{Func}
use Rattle.icn_value.specs.Values.{Value, Item}
use Rattle.icn_value.specs.Store.{Heap, Names, Setting}
use Rattle.icn_defs.specs.Applying.{again, function_of, operation_row}
use Rattle.icn_defs.specs.ReadAndAssign.{the_values}
use Rattle.icn_defs.specs.Rows.{Residual, Row}
use Rattle.law_names.specs.RowSizes.{heap_after}

-- from one heap to a later one the limits stay, and so do the counts of results
pub record KeepCounts (before after : Heap) : Type 0 where
  pub bounds : after.bounds ≡ before.bounds
  pub coexps : after.coexps ≡ before.coexps

-- what operations and functions leave, and what they leave once they are resumed
pub record RowsKeepCounts : Type 0 where
  pub operations : (op : Op) (items : List Item) (at : Setting)
      → KeepCounts at.world.heap (heap_after (operation_row op items at))
  pub values : (items : List Item) (next : List Value → Row) (at : Setting)
      → ((values : List Value) → KeepCounts at.world.heap (heap_after (next values at)))
      → KeepCounts at.world.heap (heap_after (the_values items next at))
  pub functions : (names : Names) (func : Func) (values : List Value) (at : Setting)
      → KeepCounts at.world.heap (heap_after (function_of names func values at))
  pub resumed : (rest : Residual) (at : Setting) → KeepCounts at.world.heap (heap_after (again rest at))
