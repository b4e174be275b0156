-- Reading variables, assigning to them, exchanging them, and undoing an assignment.
use Rattle.std.specs.Prelude.{◌==◌, ◌&&◌, ◌+◌, ◌-◌, ◌^◌, ◌%◌, ℕ, pos, Bool, true, false, not, nat_lt, nat_le, List, [], ◌∷◌, ◌++◌, length, take, drop, slice_set, slice_range, Option, None, Some, unwrap_or, is_some, if◌then◌else◌}
use Rattle.std.specs.Int.{w64, cast_unsigned}
use Rattle.icn_structs.specs.Numbered.{item_numbered, with_numbered}
use Rattle.icn_structs.specs.PairLists.{value_of, with_value_of}
use Rattle.icn_value.specs.Values.{Value, Null, Integer, Text, Root, Global, Static, Local, Element, Field, Key, Keyword, KeywordVariable, Subject, Position, Random, ErrorCount, Variable, Whole, Part, Item, Val, Var}
use Rattle.icn_value.specs.Store.{Setting, Table, list_at, table_at, record_at, value_at, with_list, with_table, with_record, having_globals, having_statics, having_subject, having_position, having_random, having_error}
use Rattle.icn_defs.specs.Conversions.{same, text_of, integer_of, held_text, position_of}
use Rattle.icn_defs.specs.Rows.{◌>>=◌, ◌>>◌, Row, Finds, Mover, Neither, Left, Right, fails, wrong, check, present, here, changes, changes_heap, costs_bytes, costs_cells, costs_text}

-- Reading

-- what `&subject`, `&pos`, `&random` and `&error` hold
abbrev pub keyword_value : Setting → KeywordVariable → Value
keyword_value setting Subject = Text setting.world.subject
keyword_value setting Position = Integer (pos setting.world.position)
keyword_value setting Random = Integer (pos setting.world.random)
keyword_value setting ErrorCount = Integer setting.world.error

-- the value of a key that is there, else the default
abbrev pub table_value : Table → Value → Value
table_value table key = unwrap_or (value_of same table.pairs key) table.default

-- What a whole variable holds. A list element is there where an element of its list has its number.
abbrev pub root_value : Setting → Root → Option Value
root_value setting (Global index) = Some (value_at setting.world.globals index)
root_value setting (Static index) = Some (value_at setting.world.statics index)
root_value setting (Local index) = Some (value_at setting.locals index)
root_value setting (Element list number) = item_numbered (list_at setting.world.heap list) number
root_value setting (Field structure index) =
    Some (value_at (record_at setting.world.heap structure).fields index)
root_value setting (Key table key) = Some (table_value (table_at setting.world.heap table) key)
root_value setting (Keyword word) = Some (keyword_value setting word)

-- the value of a whole variable: 205 where the list element is gone
abbrev pub reads_root : Root → Finds Value
reads_root root next = do
  setting ← here
  value ← present (root_value setting root) 205 None
  next value

-- the text that a part is of: 103 with what its variable holds where that is no text, 205 where that is too
-- short
abbrev pub reads_text : Root → ℕ → ℕ → Finds (List ℕ)
reads_text root position size next = do
  value ← reads_root root
  text ← present (held_text value) 103 (Some value)
  check (nat_le (position - 1 + size) (length text)) 205 None
  next text

-- the value of a variable
abbrev pub reads : Variable → Finds Value
reads (Whole root) next = reads_root root next
reads (Part root position size) next = do
  text ← reads_text root position size
  next (Text (slice_range text (position - 1) (position - 1 + size)))

-- the value of an item
abbrev pub the_value : Item → Finds Value
the_value (Val value) next = next value
the_value (Var variable) next = reads variable next

-- the values of items, from the first on
abbrev pub the_values : List Item → Finds (List Value)
the_values [] next = next []
the_values (item ∷ items) next = do
  value ← the_value item
  values ← the_values items
  next (value ∷ values)

-- an item that is a variable: else 111
abbrev pub the_variable : Item → Finds Variable
the_variable (Val value) next = wrong 111 (Some value)
the_variable (Var variable) next = next variable

-- Assigning. Where `&pos` would be out of range it goes on as is said first, which is to fail, and in an
-- undo error 205.

-- `&subject` wants a string, and sets `&pos` to 1; the other keywords want integers
abbrev pub assigns_keyword : Row → KeywordVariable → Value → Row → Row
assigns_keyword refused Subject value next = do
  text ← present (text_of value) 103 (Some value)
  costs_text value
  changes (having_subject text)
  next
assigns_keyword refused Position value next = do
  n ← present (integer_of value) 101 (Some value)
  setting ← here
  moves_to refused (position_of n (length setting.world.subject)) next
  where
    moves_to : Row → Option ℕ → Row → Row
    moves_to refused None next = refused
    moves_to refused (Some position) next = changes (having_position position) next
assigns_keyword refused Random value next = do
  n ← present (integer_of value) 101 (Some value)
  changes (having_random (cast_unsigned w64 n % 2 ^ 31))
  next
assigns_keyword refused ErrorCount value next = do
  n ← present (integer_of value) 101 (Some value)
  changes (having_error n)
  next

-- what is new costs a cell
abbrev pub costs_unless : Bool → Row → Row
costs_unless true next = next
costs_unless false next = costs_cells 1 next

-- the table has this value at the key
abbrev pub stores : ℕ → Value → Value → Row → Row
stores id key value next = do
  setting ← here
  let table = table_at setting.world.heap id
  costs_unless (is_some (value_of same table.pairs key))
  changes_heap (with_table id (record table { pairs = with_value_of same table.pairs key value }))
  next

-- a whole variable gets a value: 205 where a list element is gone
abbrev pub assigns_root : Row → Root → Value → Row → Row
assigns_root refused (Global index) value next =
    changes (λ setting. having_globals (slice_set setting.world.globals index value) setting) next
assigns_root refused (Static index) value next =
    changes (λ setting. having_statics (slice_set setting.world.statics index value) setting) next
assigns_root refused (Local index) value next =
    changes (λ setting. record setting { locals = slice_set setting.locals index value }) next
assigns_root refused (Element id number) value next = do
  setting ← here
  let list = list_at setting.world.heap id
  check (is_some (item_numbered list number)) 205 None
  changes_heap (with_list id (with_numbered list number value))
  next
assigns_root refused (Field id index) value next = do
  setting ← here
  let structure = record_at setting.world.heap id
  changes_heap (with_record id (record structure { fields = slice_set structure.fields index value }))
  next
assigns_root refused (Key table key) value next = stores table key value next
assigns_root refused (Keyword word) value next = assigns_keyword refused word value next

-- A text with another text in the place of a part of it
abbrev pub with_part : List ℕ → ℕ → ℕ → List ℕ → List ℕ
with_part text position size new = take (position - 1) text ++ (new ++ drop (position - 1 + size) text)

-- The variable afterwards is the same, but that a part covers the text that it got. A part wants a text,
-- 103, and its variable one that is long enough; the whole text is built and assigned.
abbrev pub assigns_or : Row → Variable → Value → Finds Variable
assigns_or refused (Whole root) value next = assigns_root refused root value (next (Whole root))
assigns_or refused (Part root position size) value next = do
  new ← present (text_of value) 103 (Some value)
  text ← reads_text root position size
  costs_text value
  costs_bytes (length (with_part text position size new))
  assigns_root refused root (Text (with_part text position size new))
  next (Part root position (length new))

-- a variable gets a value: `x := y`
abbrev pub assigns : Variable → Value → Finds Variable
assigns variable value = assigns_or fails variable value

-- the variable gets its old value back
abbrev pub undoes : Variable → Value → Row → Row
undoes variable old next = assigns_or (wrong 205 None) variable old (λ now. next)

-- Exchanging

-- the type of a root, and what tells the roots of a type apart
abbrev pub root_number : Root → ℕ
root_number (Global index) = 0
root_number (Static index) = 1
root_number (Local index) = 2
root_number (Element list number) = 3
root_number (Field structure index) = 4
root_number (Key table key) = 5
root_number (Keyword word) = 6

-- the number of a keyword
abbrev pub word_number : KeywordVariable → ℕ
word_number Subject = 0
word_number Position = 1
word_number Random = 2
word_number ErrorCount = 3

-- the index or the structure of a root
abbrev pub root_place : Root → ℕ
root_place (Global index) = index
root_place (Static index) = index
root_place (Local index) = index
root_place (Element list number) = list
root_place (Field structure index) = structure
root_place (Key table key) = table
root_place (Keyword word) = word_number word

-- what else tells a root apart: the number of an element, the index of a field, a key
abbrev pub root_key : Root → Value
root_key (Global index) = Null
root_key (Static index) = Null
root_key (Local index) = Null
root_key (Element list number) = Integer number
root_key (Field structure index) = Integer (pos index)
root_key (Key table key) = key
root_key (Keyword word) = Null

-- two roots are one
abbrev pub same_root : Root → Root → Bool
same_root a b =
    root_number a == root_number b && (root_place a == root_place b && same (root_key a) (root_key b))

-- the side with the smaller position, where both are parts of one variable
abbrev pub mover_of : Variable → Variable → Mover
mover_of (Whole root) y = Neither
mover_of (Part root position size) (Whole other) = Neither
mover_of (Part root position size) (Part other begin count) =
    if not (same_root root other) then Neither
    else (if nat_lt position begin then Left else (if nat_lt begin position then Right else Neither))

-- the length of a part
abbrev pub part_length : Variable → ℕ
part_length (Whole root) = 0
part_length (Part root position size) = size

-- a part moves by the change of length of another one: 205 where its position would be below 1
abbrev pub move_part : ℕ → ℕ → Variable → Finds Variable
move_part old new (Whole root) next = next (Whole root)
move_part old new (Part root position size) next = do
  check (nat_lt old (position + new)) 205 None
  next (Part root (position + new - old) size)

-- the right side, moved by what the left side became
abbrev pub moved_by_left : Mover → ℕ → ℕ → Variable → Finds Variable
moved_by_left Neither old new y next = next y
moved_by_left Left old new y next = move_part old new y next
moved_by_left Right old new y next = next y

-- the left side, moved by what the right side became
abbrev pub moved_by_right : Mover → ℕ → ℕ → Variable → Finds Variable
moved_by_right Neither old new x next = next x
moved_by_right Left old new x next = next x
moved_by_right Right old new x next = move_part old new x next

-- The left side is assigned its new value, then the right side. The assignment of the mover moves the other
-- side.
abbrev pub assigns_both : Row → Mover → Variable → Variable → Value → Value → Finds (Variable × Variable)
assigns_both refused mover x y to_x to_y next = do
  x_now ← assigns_or refused x to_x
  y_moved ← moved_by_left mover (part_length x) (part_length x_now) y
  y_now ← assigns_or refused y_moved to_y
  x_moved ← moved_by_right mover (part_length y_moved) (part_length y_now) x_now
  next (x_moved, y_now)

-- the two are exchanged, when these are their values
abbrev pub exchanges : Variable → Variable → Value → Value → Finds (Variable × Variable)
exchanges x y value_of_x value_of_y = assigns_both fails (mover_of x y) x y value_of_y value_of_x

-- both get their old values back
abbrev pub undoes_exchange : Mover → Variable → Variable → Value → Value → Row → Row
undoes_exchange mover x y old_x old_y next = assigns_both (wrong 205 None) mover x y old_x old_y (λ now. next)
