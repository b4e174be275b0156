-- The elements of texts and structures: one after the other, and at random.
use Rattle.std.specs.Prelude.{◌+◌, ◌-◌, ℕ, ℤ, pos, ◌+ℤ◌, nat_lt, List, [], ◌∷◌, length, slice_get, slice_range, Option, None, Some, option_map}
use Rattle.icn_text.specs.RandomNumbers.{random_step, pick_place}
use Rattle.icn_structs.specs.Numbered.{NumberedList}
use Rattle.icn_value.specs.Values.{Value, Integer, Text, Element, Field, Key, Variable, Whole, Part, Item, Val, Var}
use Rattle.icn_value.specs.Store.{list_at, set_at, table_at, record_at, having_random, value_at}
use Rattle.icn_defs.specs.Conversions.{ValueGroup, Textual, Listed, Collected, Tabled, Recorded, Filed, Activated, Single, group_of, held_integer, held_text}
use Rattle.icn_defs.specs.Rows.{◌>>=◌, ◌>>◌, Row, Finds, TextBytes, VariableBytes, ListItems, SetMembers, TableValues, RecordFields, gives, gives_value, suspends, wrong, check, present, fails_unless, thing_or_failure, here, changes, costs_text}
use Rattle.icn_defs.specs.ReadAndAssign.{the_value, reads}
use Rattle.icn_defs.specs.Lines.{lines_row}

-- Parts of texts and elements of structures

-- a part of a variable, which may be a part itself
abbrev pub part_of : Variable → ℕ → ℕ → Variable
part_of (Whole root) position size = Part root position size
part_of (Part root begin count) position size = Part root (begin + position - 1) size

-- the variable that holds the text, if the item is one and holds a text
abbrev pub text_variable : Item → Value → Option Variable
text_variable (Val value) held = None
text_variable (Var variable) held = option_map (λ text. variable) (held_text held)

-- the part of a text at a position, as a variable where there is one that holds the text
abbrev pub part_item : Option Variable → List ℕ → ℕ → ℕ → Item
part_item None text position size = Val (Text (slice_range text (position - 1) (position - 1 + size)))
part_item (Some variable) text position size = Var (part_of variable position size)

-- the element of a list, the value of a table and the field of a record at an index, from 0 on
abbrev pub element_item : ℕ → NumberedList Value → ℕ → Item
element_item id list index = Var (Whole (Element id (list.number +ℤ pos index)))

-- a field of a record
abbrev pub field_item : ℕ → ℕ → Item
field_item id index = Var (Whole (Field id index))

-- the value at a key of a table
abbrev pub key_item : ℕ → Value → Item
key_item id key = Var (Whole (Key id key))

-- Elements: each is given with the index or the offset behind it, and where no element stands there it fails

-- the byte at an offset of a text
abbrev pub text_bytes_from : List ℕ → ℕ → Row
text_bytes_from text offset = do
  byte ← thing_or_failure (slice_get text offset)
  suspends (Val (Text (byte ∷ []))) (TextBytes text (offset + 1))

-- the bytes of the text that the variable holds now: 103 where it holds none
abbrev pub variable_bytes_from : Variable → ℕ → Row
variable_bytes_from variable offset = do
  value ← reads variable
  text ← present (held_text value) 103 (Some value)
  fails_unless (nat_lt offset (length text))
  suspends (Var (part_of variable (offset + 1) 1)) (VariableBytes variable (offset + 1))

-- the element at an index of a list
abbrev pub list_items_from : ℕ → ℕ → Row
list_items_from id index = do
  setting ← here
  let list = list_at setting.world.heap id
  fails_unless (nat_lt index (length list.items))
  suspends (element_item id list index) (ListItems id (index + 1))

-- the member at an index of a set
abbrev pub set_members_from : ℕ → ℕ → Row
set_members_from id index = do
  setting ← here
  member ← thing_or_failure (slice_get (set_at setting.world.heap id) index)
  suspends (Val member) (SetMembers id (index + 1))

-- the value at an index of a table
abbrev pub table_values_from : ℕ → ℕ → Row
table_values_from id index = do
  setting ← here
  pair ← thing_or_failure (slice_get (table_at setting.world.heap id).pairs index)
  suspends (key_item id pair.0) (TableValues id (index + 1))

-- the field at an index of a record
abbrev pub record_fields_from : ℕ → ℕ → Row
record_fields_from id index = do
  setting ← here
  fails_unless (nat_lt index (length (record_at setting.world.heap id).fields))
  suspends (field_item id index) (RecordFields id (index + 1))

-- the bytes of a text: parts of the variable that holds it, if one does
abbrev pub text_elements : Option Variable → Value → List ℕ → Row
text_elements (Some variable) value text = variable_bytes_from variable 0
text_elements None value text = do
  costs_text value
  text_bytes_from text 0

-- the elements of a value: 116 where it has none
abbrev pub elements_of : Item → Value → ValueGroup → Row
elements_of x v (Textual text) = text_elements (text_variable x v) v text
elements_of x v (Listed id) = list_items_from id 0
elements_of x v (Collected id) = set_members_from id 0
elements_of x v (Tabled id) = table_values_from id 0
elements_of x v (Recorded id) = record_fields_from id 0
elements_of x v (Filed file) = lines_row file
elements_of x v (Activated id) = wrong 116 (Some v)
elements_of x v Single = wrong 116 (Some v)

-- `!x`
abbrev pub elements_row : Item → Row
elements_row x = do
  v ← the_value x
  elements_of x v (group_of v)

-- At random

-- an index among so many, from 0 on
abbrev pub picks : ℕ → Finds ℕ
picks size next = do
  setting ← here
  let state = random_step setting.world.random
  changes (having_random state)
  next (pick_place state size)

-- an integer from 1 to n: 205 where n is below 1
abbrev pub random_number : Value → ℤ → Row
random_number v (pos n) = do
  check (nat_lt 0 n) 205 (Some v)
  index ← picks n
  gives_value (Integer (pos (1 + index)))
random_number v n = wrong 205 (Some v)

-- it fails where there is nothing to pick
abbrev pub random_of : Item → Value → ValueGroup → Row
random_of x v (Textual text) = do
  costs_text v
  fails_unless (nat_lt 0 (length text))
  offset ← picks (length text)
  gives (part_item (text_variable x v) text (offset + 1) 1)
random_of x v (Listed id) = do
  setting ← here
  let list = list_at setting.world.heap id
  fails_unless (nat_lt 0 (length list.items))
  index ← picks (length list.items)
  gives (element_item id list index)
random_of x v (Collected id) = do
  setting ← here
  let set = set_at setting.world.heap id
  fails_unless (nat_lt 0 (length set))
  index ← picks (length set)
  gives_value (value_at set index)
random_of x v (Tabled id) = do
  setting ← here
  let pairs = (table_at setting.world.heap id).pairs
  fails_unless (nat_lt 0 (length pairs))
  index ← picks (length pairs)
  pair ← thing_or_failure (slice_get pairs index)
  gives (key_item id pair.0)
random_of x v (Recorded id) = do
  setting ← here
  let fields = (record_at setting.world.heap id).fields
  fails_unless (nat_lt 0 (length fields))
  index ← picks (length fields)
  gives (field_item id index)
random_of x v (Filed file) = wrong 113 (Some v)
random_of x v (Activated id) = wrong 113 (Some v)
random_of x v Single = wrong 113 (Some v)

-- of an integer a number, of anything else an element
abbrev pub random_by : Item → Value → Option ℤ → Row
random_by x v (Some n) = random_number v n
random_by x v None = random_of x v (group_of v)

-- `?x`
abbrev pub random_row : Item → Row
random_row x = do
  v ← the_value x
  random_by x v (held_integer v)
