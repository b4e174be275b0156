-- The operations that take or give variables.
use Rattle.std.specs.Prelude.{◌-◌, ℕ, ℤ, nat_le, length, slice_range, Some, Result, Ok, if◌then◌else◌}
use Rattle.icn_text.specs.declared.arithmetic.Arith.{Arith}
use Rattle.icn_text.specs.IntegerArithmetic.{sum, difference}
use Rattle.icn_value.specs.Values.{Value, Variable, Item, Var}
use Rattle.icn_value.specs.Store.{list_at, record_at}
use Rattle.icn_defs.specs.Conversions.{ValueGroup, Textual, Listed, Collected, Tabled, Recorded, Filed, Activated, Single, group_of, position_of}
use Rattle.icn_defs.specs.Rows.{◌>>=◌, ◌>>◌, Row, Finds, Mover, UndoAssign, UndoExchange, fails, gives, suspends, wrong, number_or_error, fails_unless, thing_or_failure, here, costs_text, gives_list}
use Rattle.icn_defs.specs.ReadAndAssign.{the_value, the_variable, assigns, undoes, exchanges, undoes_exchange, mover_of}
use Rattle.icn_defs.specs.Arguments.{integer}
use Rattle.icn_defs.specs.Elements.{part_item, text_variable, element_item, field_item, key_item}

-- Assigning

-- `x := y`, whose left side is not read
abbrev pub assign_row : Item → Item → Row
assign_row x y = do
  v ← the_value y
  target ← the_variable x
  now ← assigns target v
  gives (Var now)

-- `x :=: y`
abbrev pub swap_row : Item → Item → Row
swap_row x y = do
  v ← the_value x
  w ← the_value y
  left ← the_variable x
  right ← the_variable y
  now ← exchanges left right v w
  gives (Var now.0)

-- `x <- y`; resumed, the old value is assigned back
abbrev pub reversible_assign_row : Item → Item → Row
reversible_assign_row x y = do
  old ← the_value x
  v ← the_value y
  target ← the_variable x
  now ← assigns target v
  suspends (Var now) (UndoAssign now old)

-- the undo of `x <- y`
abbrev pub undo_assign_again : Variable → Value → Row
undo_assign_again variable old = do
  undoes variable old
  fails

-- `x <-> y`; resumed, the old values are assigned back, the left first
abbrev pub reversible_swap_row : Item → Item → Row
reversible_swap_row x y = do
  v ← the_value x
  w ← the_value y
  left ← the_variable x
  right ← the_variable y
  now ← exchanges left right v w
  suspends (Var now.0) (UndoExchange (mover_of left right) now.0 now.1 v w)

-- the undo of `x <-> y`
abbrev pub undo_exchange_again : Mover → Variable → Variable → Value → Value → Row
undo_exchange_again mover x y old_x old_y = do
  undoes_exchange mover x y old_x old_y
  fails

-- Subscripts

-- the element that a position stands before, from 1 on; it fails where none does
abbrev pub element_position : ℤ → ℕ → Finds ℕ
element_position n size next = do
  position ← thing_or_failure (position_of n size)
  fails_unless (nat_le position size)
  next position

-- the element, the field, the byte or the value at a key: 114 for other values
abbrev pub subscript_of : Item → Value → Value → ValueGroup → Row
subscript_of x v w (Textual text) = do
  n ← integer w
  costs_text v
  position ← element_position n (length text)
  gives (part_item (text_variable x v) text position 1)
subscript_of x v w (Listed id) = do
  n ← integer w
  setting ← here
  let list = list_at setting.world.heap id
  position ← element_position n (length list.items)
  gives (element_item id list (position - 1))
subscript_of x v w (Tabled id) = gives (key_item id w)
subscript_of x v w (Recorded id) = do
  n ← integer w
  setting ← here
  position ← element_position n (length (record_at setting.world.heap id).fields)
  gives (field_item id (position - 1))
subscript_of x v w (Collected id) = wrong 114 (Some v)
subscript_of x v w (Filed file) = wrong 114 (Some v)
subscript_of x v w (Activated id) = wrong 114 (Some v)
subscript_of x v w Single = wrong 114 (Some v)

-- `x[y]`
abbrev pub subscript_row : Item → Item → Row
subscript_row x y = do
  v ← the_value x
  w ← the_value y
  subscript_of x v w (group_of v)

-- Sections

-- two places, the smaller first
abbrev pub in_order : ℕ → ℕ → ℕ × ℕ
in_order a b = if nat_le a b then (a, b) else (b, a)

-- the places that two positions mean, the smaller first; it fails where one is out of range
abbrev pub places : ℤ → ℤ → ℕ → Finds (ℕ × ℕ)
places m n size next = do
  a ← thing_or_failure (position_of m size)
  b ← thing_or_failure (position_of n size)
  next (in_order a b)

-- two positions, of which the second is made of the two integers
abbrev pub positions : (ℤ → ℤ → Result ℤ Arith) → Value → Value → Finds (ℤ × ℤ)
positions second u w next = do
  m ← integer u
  n ← integer w
  end ← number_or_error (second m n)
  next (m, end)

-- the bytes or elements between two positions: 110 for other values
abbrev pub section_of : (ℤ → ℤ → Result ℤ Arith) → Item → Value → Value → Value → ValueGroup → Row
section_of second x v u w (Textual text) = do
  range ← positions second u w
  costs_text v
  ends ← places range.0 range.1 (length text)
  gives (part_item (text_variable x v) text ends.0 (ends.1 - ends.0))
section_of second x v u w (Listed id) = do
  range ← positions second u w
  setting ← here
  let list = list_at setting.world.heap id
  ends ← places range.0 range.1 (length list.items)
  gives_list (slice_range list.items (ends.0 - 1) (ends.1 - 1))
section_of second x v u w (Collected id) = wrong 110 (Some v)
section_of second x v u w (Tabled id) = wrong 110 (Some v)
section_of second x v u w (Recorded id) = wrong 110 (Some v)
section_of second x v u w (Filed file) = wrong 110 (Some v)
section_of second x v u w (Activated id) = wrong 110 (Some v)
section_of second x v u w Single = wrong 110 (Some v)

-- `x[i:j]`, `x[i+:j]`, `x[i-:j]`
abbrev pub section_by : (ℤ → ℤ → Result ℤ Arith) → Item → Item → Item → Row
section_by second x y z = do
  v ← the_value x
  u ← the_value y
  w ← the_value z
  section_of second x v u w (group_of v)

-- `x[i:j]`
abbrev pub section_row : Item → Item → Item → Row
section_row x y z = section_by (λ m n. Ok n) x y z

-- `x[i+:j]`
abbrev pub section_plus_row : Item → Item → Item → Row
section_plus_row x y z = section_by sum x y z

-- `x[i-:j]`
abbrev pub section_minus_row : Item → Item → Item → Row
section_minus_row x y z = section_by difference x y z
