-- What a row gives when it is resumed again and again with nothing done between.
use Rattle.std.specs.Prelude.{◌≡◌, ◌+◌, ◌-◌, ℕ, zero, suc, pos, Bool, List, [], ◌∷◌, length, filter}
use Rattle.std.specs.List.{range_with_len}
use Rattle.icn_text.specs.declared.func.Func.TheVariants.{Key as KeyFunction}
use Rattle.icn_text.specs.declared.op.Op.TheVariants.{Elements, ToBy}
use Rattle.icn_value.specs.Values.{Value, Integer, Text, ATable, Item, Val}
use Rattle.icn_value.specs.Store.{Names, Setting}
use Rattle.icn_defs.specs.Rows.{Row, Outcome, Fails, Gives, Suspends, Error, Ends}
use Rattle.icn_defs.specs.Elements.{key_item}
use Rattle.icn_defs.specs.Applying.{again, function_row, operation_row}

-- the results of an outcome and of so many resumptions of it, in order
abbrev pub results : ℕ → Outcome → List Item
results zero outcome = []
results (suc n) (Suspends item rest setting) = item ∷ results n (again rest setting)
results (suc n) (Gives item setting) = item ∷ []
results (suc n) (Fails setting) = []
results (suc n) (Error number value setting) = []
results (suc n) (Ends status setting) = []

-- it gives these items, one at each resumption, and then no more
abbrev pub GivesAll : Row → Setting → List Item → Type 0
GivesAll row at items = results (length items + 1) (row at) ≡ items

-- Words for the rows that laws are about, and for their results

-- a number, a text of one byte, and of a pair of a table the key and the variable that is the value
abbrev pub integer_item : ℕ → Item
integer_item n = Val (Integer (pos n))

-- a text of one byte, as a result
abbrev pub byte_item : ℕ → Item
byte_item byte = Val (Text (byte ∷ []))

-- the key of a pair, as a result
abbrev pub pair_key : Value × Value → Item
pair_key pair = Val pair.0

-- the variable of a pair's value, in this table
abbrev pub pair_variable : ℕ → Value × Value → Item
pair_variable table pair = key_item table pair.0

-- `!x` of a value, `key(T)`, and `i to j` of two numbers
abbrev pub walk : Value → Row
walk value = operation_row Elements (Val value ∷ [])

-- the row of `key` of a table
abbrev pub keys : Names → ℕ → Row
keys names table = function_row names KeyFunction (Val (ATable table) ∷ [])

-- the row of `first to last`
abbrev pub counts : ℕ → ℕ → Row
counts first last = operation_row ToBy (integer_item first ∷ integer_item last ∷ integer_item 1 ∷ [])

-- the places of a list, from 0 on
abbrev pub places_of : {A : Type 0} → List A → List ℕ
places_of xs = range_with_len 0 (length xs)

-- the places that pass, from one on and before another
abbrev pub places_that : (ℕ → Bool) → ℕ → ℕ → List ℕ
places_that test first stop = filter test (range_with_len first (stop - first))
