-- What the meaning takes of the rows of operations and functions. A row goes from what it is applied in (the world, the locals of the activation at
-- hand and the outside) to an outcome. Where the meaning wants a value, its row gives one or is an error.
use Rattle.std.specs.Prelude.{ℕ, zero, ◌+◌, List, [], ◌∷◌, ◌++◌, length}
use Rattle.icn_text.specs.declared.op.Op.{Op}
use Rattle.icn_text.specs.declared.func.Func.{Func}
use Rattle.icn_value.specs.Values.{Value, Text, ACoexp, Item}
use Rattle.icn_value.specs.Store.{Names}
use Rattle.icn_defs.specs.Rows.{◌>>=◌, ◌>>◌, Row, here, changes_heap, costs_cells, costs_text, gives_value}
pub use Rattle.icn_defs.specs.Rows.{gives_list as list_row}
use Rattle.icn_defs.specs.Arguments.{string}
pub use Rattle.icn_defs.specs.Operations.{dereference_row as value_row}
use Rattle.icn_defs.specs.Structures.{new_record_of}
use Rattle.icn_defs.specs.Applying.{operation_row, function_row}

-- what has a row: an operation or a function
pub data OperationOrFunction : Type 0 where
  Operation : Op → OperationOrFunction
  Function : Func → OperationOrFunction

-- an operation, but for the refreshing of a co-expression, or a function
abbrev pub apply : Names → OperationOrFunction → List Item → Row
apply names (Operation o) xs = operation_row o xs
apply names (Function f) xs = function_row names f xs

-- the text that a value converts to; else 103
abbrev pub text_row : Value → Row
text_row v = do
  text ← string v
  costs_text v
  gives_value (Text text)

-- a new record of this kind
abbrev pub record_row : ℕ → List Value → Row
record_row kind fields = do
  new ← new_record_of (record { kind = kind; fields = fields })
  gives_value new

-- a new co-expression with so many locals, whose results are counted from 0
abbrev pub coexpression_row : ℕ → Row
coexpression_row locals = do
  costs_cells (1 + locals)
  setting ← here
  let counts = setting.world.heap.coexps
  changes_heap (λ heap. record heap { coexps = counts ++ zero ∷ [] })
  gives_value (ACoexp (length counts))
