-- What holds of each setting, item and residual that a row is given, and of those that it leaves. Each fact
-- is a test.
use Rattle.std.specs.Prelude.{◌==◌, ℕ, pos, int_le, not, [], ◌∷◌, ◌+◌, ◌^◌, ◌&&◌, ◌+ℤ◌, nat_lt, nat_le, Bool, true, List, length, is_some, Option, None, Some}
use Rattle.std.specs.List.{list_all}
use Rattle.std.specs.Map.{keys_of, lookup}
use Rattle.std.specs.Str.{bytes_eq, is_utf8}
use Rattle.icn_profile.specs.Numbers.{most_cells, most_strings}
use Rattle.icn_structs.specs.Numbered.{NumberedList}
use Rattle.icn_value.specs.Values.{Value, Null, Integer, Text, Chars, Std, Procedure, ARecord, AList, ASet, ATable, ACoexp, File, Input, Output, Errout, Opened, KeywordVariable, Subject, Position, Random, ErrorCount, Root, Global, Static, Local, Element, Field, Key, Keyword, Variable, Whole, Part, Item, Val, Var}
use Rattle.icn_value.specs.Store.{Table, Record, OpenedFile, Heap, KeptError, World, Setting, Names, record_at}
use Rattle.icn_defs.specs.Conversions.{has_value, fits, contains, members, held_text, held_integer}
use Rattle.icn_defs.specs.Errors.{error_texts}
use Rattle.icn_defs.specs.Images.{functions}
use Rattle.icn_defs.specs.Rows.{Residual, TextBytes, VariableBytes, ListItems, SetMembers, TableValues, TableKeys, RecordFields, FileLines, UndoAssign, UndoExchange, UndoPosition, Counting, Sequence, Balanced, Found, Among, Outcome, Fails, Gives, Suspends, Error, Ends}

-- Values

-- numbers below 256
abbrev pub are_bytes : List ℕ → Bool
are_bytes bytes = list_all (λ byte. nat_lt byte 256) bytes

-- the bytes of a cset are ascending
abbrev pub is_cset : List ℕ → Bool
is_cset bytes = bytes_eq bytes (members (contains bytes))

-- a procedure, a record constructor, or one of the functions
abbrev pub is_procedure : Names → ℕ → Bool
is_procedure names number = nat_lt number (length names.procedures + length names.records + length functions)

-- a standard file, or the number of one that was opened
abbrev pub is_file : Heap → File → Bool
is_file heap Input = true
is_file heap Output = true
is_file heap Errout = true
is_file heap (Opened number) = nat_lt number (length heap.files)

-- an integer of 64 bits, a text of bytes, a cset in order, or a number of something that is there
abbrev pub is_live : Names → Heap → Value → Bool
is_live names heap Null = true
is_live names heap (Integer n) = fits n
is_live names heap (Text bytes) = are_bytes bytes
is_live names heap (Chars bytes) = is_cset bytes
is_live names heap (Std file) = is_file heap file
is_live names heap (Procedure number) = is_procedure names number
is_live names heap (ARecord id) = nat_lt id (length heap.records)
is_live names heap (AList id) = nat_lt id (length heap.lists)
is_live names heap (ASet id) = nat_lt id (length heap.sets)
is_live names heap (ATable id) = nat_lt id (length heap.tables)
is_live names heap (ACoexp id) = nat_lt id (length heap.coexps)

-- all values are live
abbrev pub are_live : Names → Heap → List Value → Bool
are_live names heap values = list_all (is_live names heap) values

-- The heap and the world

-- The numbers of the elements: each element that was ever pushed or put cost a cell, so that the first
-- number is above 0 less the cells charged, and the one after the last at most 1 more than these.
abbrev pub is_numbered : Heap → NumberedList Value → Bool
is_numbered heap list =
    int_le (pos 1) (list.number +ℤ pos heap.cells)
    && int_le (list.number +ℤ pos (length list.items)) (pos (1 + heap.cells))

-- a list is numbered, and its elements are live
abbrev pub is_list : Names → Heap → NumberedList Value → Bool
is_list names heap list = is_numbered heap list && are_live names heap list.items

-- no two values are the same
abbrev pub differ : List Value → Bool
differ [] = true
differ (value ∷ values) = not (has_value values value) && differ values

-- the members of a set differ, and are live
abbrev pub is_set : Names → Heap → List Value → Bool
is_set names heap members = differ members && are_live names heap members

-- a key and its value are live
abbrev pub is_pair : Names → Heap → Value × Value → Bool
is_pair names heap pair = is_live names heap pair.0 && is_live names heap pair.1

-- the keys of a table differ, and all in it is live
abbrev pub is_table : Names → Heap → Table → Bool
is_table names heap table =
    differ (keys_of table.pairs) && (is_live names heap table.default
    && list_all (is_pair names heap) table.pairs)

-- the type of a record is one of the program, and its fields are live
abbrev pub is_record : Names → Heap → Record → Bool
is_record names heap structure =
    nat_lt structure.kind (length names.records) && are_live names heap structure.fields

-- the name of an opened file is a text of UTF-8, it holds bytes, and no more were read than it holds
abbrev pub is_opened : OpenedFile → Bool
is_opened file =
    is_utf8 file.name && (are_bytes file.name && (are_bytes file.content
    && nat_le file.place (length file.content)))

-- the sums are within the limits, and these in their ranges
abbrev pub are_sums : Heap → Bool
are_sums heap =
    nat_le heap.strings heap.bounds.strings && (nat_le heap.cells heap.bounds.cells
    && (nat_le heap.bounds.strings most_strings && nat_le heap.bounds.cells most_cells))

-- each structure cost a cell, each opened file, and each co-expression but `&main`
abbrev pub are_counted : Heap → Bool
are_counted heap =
    nat_le (length heap.lists + length heap.sets + length heap.tables + length heap.records
    + length heap.files + length heap.coexps) (heap.cells + 1)

-- what stands in the structures is live
abbrev pub is_heap : Names → Heap → Bool
is_heap names heap =
    are_sums heap && (are_counted heap && (list_all (is_list names heap) heap.lists
    && (list_all (is_set names heap) heap.sets
    && (list_all (is_table names heap) heap.tables && (list_all (is_record names heap) heap.records
    && (list_all is_opened heap.files && list_all (λ count. nat_lt count (2 ^ 63)) heap.coexps))))))

-- the value that an error is about, if any, is live
abbrev pub is_live_or_none : Names → Heap → Option Value → Bool
is_live_or_none names heap None = true
is_live_or_none names heap (Some value) = is_live names heap value

-- the number of an error
abbrev pub is_error_number : ℕ → Bool
is_error_number number = is_some (lookup (λ other. other == number) error_texts)

-- the error that is kept, if any, has a text, and its value is live
abbrev pub is_kept : Names → Heap → Option KeptError → Bool
is_kept names heap None = true
is_kept names heap (Some error) = is_error_number error.number && is_live_or_none names heap error.value

-- the position is one of the subject, `&random` below 2 ^ 31, and `&error` one of 64 bits
abbrev pub is_world : Names → World → Bool
is_world names world =
    is_heap names world.heap && (are_bytes world.subject && (nat_le 1 world.position
    && (nat_le world.position (length world.subject + 1)
    && (nat_lt world.random (2 ^ 31) && (are_live names world.heap world.globals
    && (are_live names world.heap world.statics
    && (fits world.error && is_kept names world.heap world.kept)))))))

-- the world, and the locals
abbrev pub is_setting : Names → Setting → Bool
is_setting names setting = is_world names setting.world && are_live names setting.world.heap setting.locals

-- Variables and items

-- its place is in range; a list element may be gone, but its list is there
abbrev pub is_root : Names → Setting → Root → Bool
is_root names setting (Global index) = nat_lt index (length setting.world.globals)
is_root names setting (Static index) = nat_lt index (length setting.world.statics)
is_root names setting (Local index) = nat_lt index (length setting.locals)
is_root names setting (Element list number) = nat_lt list (length setting.world.heap.lists) && fits number
is_root names setting (Field structure index) =
    nat_lt structure (length setting.world.heap.records)
    && nat_lt index (length (record_at setting.world.heap structure).fields)
is_root names setting (Key table key) =
    nat_lt table (length setting.world.heap.tables) && is_live names setting.world.heap key
is_root names setting (Keyword word) = true

-- its root is there, and a part begins at 1 or later
abbrev pub is_variable : Names → Setting → Variable → Bool
is_variable names setting (Whole root) = is_root names setting root
is_variable names setting (Part root position size) = is_root names setting root && nat_le 1 position

-- a live value, or a variable that is there
abbrev pub is_item : Names → Setting → Item → Bool
is_item names setting (Val value) = is_live names setting.world.heap value
is_item names setting (Var variable) = is_variable names setting variable

-- a value that a variable can hold: a text for `&subject` and for a part, an integer for another keyword
abbrev pub word_holds : KeywordVariable → Value → Bool
word_holds Subject value = is_some (held_text value)
word_holds Position value = is_some (held_integer value)
word_holds Random value = is_some (held_integer value)
word_holds ErrorCount value = is_some (held_integer value)

-- whether a root can hold a value
abbrev pub root_holds : Root → Value → Bool
root_holds (Global index) value = true
root_holds (Static index) value = true
root_holds (Local index) value = true
root_holds (Element list number) value = true
root_holds (Field structure index) value = true
root_holds (Key table key) value = true
root_holds (Keyword word) value = word_holds word value

-- whether a variable can hold a value
abbrev pub can_hold : Variable → Value → Bool
can_hold (Whole root) value = root_holds root value
can_hold (Part root position size) value = is_some (held_text value)

-- an old value of a variable
abbrev pub is_old : Names → Setting → Variable → Value → Bool
is_old names setting variable value =
    is_variable names setting variable && (is_live names setting.world.heap value
    && can_hold variable value)

-- Residuals

-- what a residual names is there
abbrev pub is_residual : Names → Setting → Residual → Bool
is_residual names setting (TextBytes text offset) = are_bytes text
is_residual names setting (VariableBytes variable offset) = is_variable names setting variable
is_residual names setting (ListItems id index) = nat_lt id (length setting.world.heap.lists)
is_residual names setting (SetMembers id index) = nat_lt id (length setting.world.heap.sets)
is_residual names setting (TableValues id index) = nat_lt id (length setting.world.heap.tables)
is_residual names setting (TableKeys id index) = nat_lt id (length setting.world.heap.tables)
is_residual names setting (RecordFields id index) = nat_lt id (length setting.world.heap.records)
is_residual names setting (FileLines file) = is_file setting.world.heap file
is_residual names setting (UndoAssign variable old) = is_old names setting variable old
is_residual names setting (UndoExchange mover x y old_x old_y) =
    is_old names setting x old_x && is_old names setting y old_y
is_residual names setting (UndoPosition old) = nat_le 1 old
is_residual names setting (Counting n last step) = fits n && (fits last && fits step)
is_residual names setting (Sequence n step) = fits n && fits step
is_residual names setting (Balanced wanted opening closing text position last) = are_bytes text
    && nat_le 1 position
is_residual names setting (Found wanted text position last) = are_bytes text && nat_le 1 position
is_residual names setting (Among bytes text position last) = are_bytes text && nat_le 1 position

-- What an outcome leaves. A structure is never taken away, so that what was live stays so.
abbrev pub is_outcome : Names → Outcome → Bool
is_outcome names (Fails setting) = is_setting names setting
is_outcome names (Gives item setting) = is_setting names setting && is_item names setting item
is_outcome names (Suspends item rest setting) =
    is_setting names setting && (is_item names setting item && is_residual names setting rest)
is_outcome names (Error number offending setting) =
    is_setting names setting && is_live_or_none names setting.world.heap offending
is_outcome names (Ends status setting) = is_setting names setting && nat_lt status 256
