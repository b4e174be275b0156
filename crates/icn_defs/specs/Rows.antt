-- What applying an operation or a function comes to, and the words that their rows are written in.
use Rattle.std.specs.Prelude.{ℕ, ℤ, pos, negsuc, ◌+◌, Bool, true, false, nat_le, List, [], ◌∷◌, ◌++◌, length, Option, None, Some, Result, Ok, Err}
use Rattle.icn_text.specs.declared.arithmetic.Arith.{Arith}
use Rattle.icn_text.specs.declared.arithmetic.Arith.TheVariants.{Overflow, DivideByZero, RemainderByZero}
use Rattle.icn_value.specs.Values.{Value, File, Text, AList, Variable, Item, Val}
use Rattle.icn_value.specs.Store.{Setting, Heap, having_heap, new_list}
use Rattle.icn_defs.specs.Conversions.{form_of, text_made}

-- which assignment of an exchange moves the place of the other side, where both sides are parts of one
-- variable
pub data Mover : Type 0 where
  Neither : Mover
  Left : Mover
  Right : Mover

-- what is kept of a row that may be resumed: from where it goes on, or what it takes back
pub data Residual : Type 0 where
  TextBytes : List ℕ → ℕ → Residual
  VariableBytes : Variable → ℕ → Residual
  ListItems : ℕ → ℕ → Residual
  SetMembers : ℕ → ℕ → Residual
  TableValues : ℕ → ℕ → Residual
  TableKeys : ℕ → ℕ → Residual
  RecordFields : ℕ → ℕ → Residual
  FileLines : File → Residual
  UndoAssign : Variable → Value → Residual
  UndoExchange : Mover → Variable → Variable → Value → Value → Residual
  UndoPosition : ℕ → Residual
  Counting : ℤ → ℤ → ℤ → Residual
  Sequence : ℤ → ℤ → Residual
  Balanced : List ℕ → List ℕ → List ℕ → List ℕ → ℕ → ℕ → Residual
  Found : List ℕ → List ℕ → ℕ → ℕ → Residual
  Among : List ℕ → List ℕ → ℕ → ℕ → Residual

-- It fails; gives an item; gives one and may be resumed; is an error with its number and perhaps a value
-- that it is about; or ends the program with a status. Each is with the setting after it.
pub data Outcome : Type 0 where
  Fails : Setting → Outcome
  Gives : Item → Setting → Outcome
  Suspends : Item → Residual → Setting → Outcome
  Error : ℕ → Option Value → Setting → Outcome
  Ends : ℕ → Setting → Outcome

-- a row is a function from a setting to what it comes to in it
abbrev pub Row : Type 0
Row = Setting → Outcome

-- what finds a thing goes on with it
abbrev pub Finds : Type 0 → Type 0
Finds A = (A → Row) → Row

infixl 10 ◌>>=◌
-- a thing is found, and the rest of the row goes on with it
abbrev pub ◌>>=◌ : {A : Type 0} → Finds A → (A → Row) → Row
find >>= next = find next

infixl 10 ◌>>◌
-- a check, a charge or a change, and then the rest of the row
abbrev pub ◌>>◌ : (Row → Row) → Row → Row
first >> next = first next

-- How a row ends

-- it fails
abbrev pub fails : Row
fails setting = Fails setting

-- it gives an item
abbrev pub gives : Item → Row
gives item setting = Gives item setting

-- it gives a value
abbrev pub gives_value : Value → Row
gives_value value setting = Gives (Val value) setting

-- it gives an item, and may be resumed
abbrev pub suspends : Item → Residual → Row
suspends item rest setting = Suspends item rest setting

-- a run-time error, with the value that it is about, if any
abbrev pub wrong : ℕ → Option Value → Row
wrong number offending setting = Error number offending setting

-- the program ends with a status
abbrev pub ends : ℕ → Row
ends status setting = Ends status setting

-- Checks

-- a test that is met, else an error
abbrev pub check : Bool → ℕ → Option Value → Row → Row
check true number offending next setting = next setting
check false number offending next setting = Error number offending setting

-- a thing that is there, else an error
abbrev pub present : {A : Type 0} → Option A → ℕ → Option Value → Finds A
present (Some thing) number offending next setting = next thing setting
present None number offending next setting = Error number offending setting

-- the error that an operation on integers without a result is
abbrev pub arithmetic_error : Arith → ℕ
arithmetic_error DivideByZero = 201
arithmetic_error RemainderByZero = 202
arithmetic_error Overflow = 203

-- a number that is computed, else the error of its operation
abbrev pub number_or_error : Result ℤ Arith → Finds ℤ
number_or_error (Ok n) next setting = next n setting
number_or_error (Err why) next setting = Error (arithmetic_error why) None setting

-- a test that is met, else the row fails
abbrev pub fails_unless : Bool → Row → Row
fails_unless true next setting = next setting
fails_unless false next setting = Fails setting

-- a thing that is there, else the row fails
abbrev pub thing_or_failure : {A : Type 0} → Option A → Finds A
thing_or_failure (Some thing) next setting = next thing setting
thing_or_failure None next setting = Fails setting

-- a number at or above 0, else error 205 with the argument that it comes from
abbrev pub natural : ℤ → Value → Finds ℕ
natural (pos n) value next setting = next n setting
natural (negsuc n) value next setting = Error 205 (Some value) setting

-- The setting

-- the setting as it is here
abbrev pub here : Finds Setting
here next setting = next setting setting

-- the setting is changed
abbrev pub changes : (Setting → Setting) → Row → Row
changes change next setting = next (change setting)

-- the heap is changed
abbrev pub changes_heap : (Heap → Heap) → Row → Row
changes_heap change next setting = next (having_heap change setting)

-- Charges

-- string bytes, where the sum stays within the limit
abbrev pub costs_bytes : ℕ → Row → Row
costs_bytes count next = do
  setting ← here
  let heap = setting.world.heap
  check (nat_le (heap.strings + count) heap.bounds.strings) 306 None
  changes_heap (λ heap. record heap { strings = heap.strings + count })
  next

-- cells, where the sum stays within the limit
abbrev pub costs_cells : ℕ → Row → Row
costs_cells count next = do
  setting ← here
  let heap = setting.world.heap
  check (nat_le (heap.cells + count) heap.bounds.cells) 307 None
  changes_heap (λ heap. record heap { cells = heap.cells + count })
  next

-- a text that is made costs its length
abbrev pub costs_made : Option (List ℕ) → Row → Row
costs_made None next = next
costs_made (Some text) next = costs_bytes (length text) next

-- a value that becomes a text costs its length, and one that is a text nothing
abbrev pub costs_text : Value → Row → Row
costs_text value = costs_made (text_made (form_of value))

-- the same of several, from the first on
abbrev pub costs_texts : List Value → Row → Row
costs_texts [] next = next
costs_texts (value ∷ values) next = costs_text value (costs_texts values next)

-- a new text is built
abbrev pub builds : List ℕ → Row
builds text = do
  costs_bytes (length text)
  gives_value (Text text)

-- a new list of these elements
abbrev pub new_list_of : List Value → Finds Value
new_list_of items next = do
  costs_cells (1 + length items)
  setting ← here
  let lists = setting.world.heap.lists
  changes_heap (λ heap. record heap { lists = heap.lists ++ new_list items ∷ [] })
  next (AList (length lists))

-- it gives a new list of these elements
abbrev pub gives_list : List Value → Row
gives_list items = do
  list ← new_list_of items
  gives_value list
