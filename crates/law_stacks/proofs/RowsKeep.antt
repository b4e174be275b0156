-- The rows keep how many locals, globals and statics there are, and the limits.
use Rattle.std.proofs.Common.{◌≡◌, ℕ, Bool, true, false, List, Option}
use Rattle.icn_value.specs.Values.{Value, Item, Val}
use Rattle.icn_value.specs.Store.{Setting, Names}
use Rattle.icn_defs.specs.Rows.{Row, Outcome, Gives, check}
use Rattle.icn_defs.specs.Errors.{is_fatal}
use Rattle.icn_defs.proofs.OnErrors.{fatal_ends}
use Rattle.icn_defs.specs.KeptSizes.{KeepsIn}
use Rattle.law_rows.proofs.KeptSizes.{operation_keeps, function_keeps, again_keeps, list_keeps, record_keeps, coexpression_keeps, text_keeps, words_keep}
use Rattle.icn_run.specs.Rows.{Operation, Function, apply, list_row, words_row}
use Rattle.icn_defs.specs.StepRows.{OperationOrFunction}
use Rattle.law_stacks.specs.SameStates.{RowsKeep, IsMade}

applied : (names : Names) (what : OperationOrFunction) (items : List Item) (at : Setting) → KeepsIn at (apply names what items at)
applied names (Operation op) items at = operation_keeps op items at
applied names (Function func) items at = function_keeps names func items at

record Makes (o : Outcome) : Type 0 where
  is : IsMade o

m_check : (t : Bool) (n : ℕ) (v : Option Value) (next : Row) (a : Setting) → is_fatal n ≡ true → Makes (next a) → Makes (check t n v next a)
m_check true n v next a e f = f
m_check false n v next a e f = record { is = fatal_ends n a.world.error e }

m_gives : (v : Value) (a : Setting) → Makes (Gives (Val v) a)
m_gives v a = record { is = tt }

list_made : (values : List Value) (at : Setting) → Makes (list_row values at)
list_made values at = search (m_check, m_gives)

words_made : (lines : List (List ℕ)) (at : Setting) → Makes (words_row lines at)
words_made lines at = search (m_check, m_gives)

-- every row keeps the numbers of locals, globals and statics, and the limits
pub rows_keep : RowsKeep
rows_keep = record {
  applied = applied;
  resumed = again_keeps;
  listed = list_keeps;
  recorded = record_keeps;
  created = coexpression_keeps;
  scanned = text_keeps;
  list_made = λ values at. (list_made values at).is;
  words_made = λ lines at. (words_made lines at).is;
  worded = words_keep;
}
