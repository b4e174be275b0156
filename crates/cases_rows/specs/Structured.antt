-- Structures: their elements, what is added and taken, sets, tables, copies and sorting.
use Rattle.std.specs.Prelude.{ℕ, ℤ, pos, List, [], ◌∷◌, ◌++◌, codes, Some}
use Rattle.icn_structs.specs.Numbered.{NumberedList}
use Rattle.icn_text.specs.declared.op.Op.TheVariants as O
use Rattle.icn_text.specs.declared.func.Func.TheVariants as F
use Rattle.icn_value.specs.Values.{Value, Null, Integer, Text, Chars, AList, ASet, ATable, ARecord, ACoexp, Procedure, Std, Input, Errout, Element, Field, Key, Whole, Item, Val, Var}
use Rattle.icn_value.specs.Store.{Setting, having_heap, having_random, with_list, with_set, with_table}
use Rattle.icn_defs.specs.Rows.{Row}
use Rattle.cases_rows.specs.Cases.{RowCase, case, case_from, case_between, plain, op, fn, int, below, greatest, str, null, list, local, local_part, locals_holding, gives, gives_all, fails, stops, stops_alone, Gave, Suspended, Failed, Stopped, costs}

-- Words for what is changed

-- an integer from 0 on, as a value
abbrev num : ℕ → Value
num n = Integer (pos n)

-- a string, as a value
abbrev txt : List ℕ → Value
txt bytes = Text bytes

-- the element of a list, by its number
abbrev element : ℕ → ℕ → Item
element id number = Var (Whole (Element id (pos number)))

-- the field of a record, by its place
abbrev field : ℕ → ℕ → Item
field id place = Var (Whole (Field id place))

-- the element of a table, by its key
abbrev key : ℕ → Value → Item
key id value = Var (Whole (Key id value))

-- a list whose leftmost item has this number
abbrev numbered_list : List Value → ℤ → NumberedList Value
numbered_list items number = record { items = items; number = number }

-- list 0 has these items from this number on, and list 1 so too
abbrev first_list : List Value → ℤ → Setting → Setting
first_list items number setting = having_heap (with_list 0 (numbered_list items number)) setting

-- list 1 has these items from this number on
abbrev second_list : List Value → ℤ → Setting → Setting
second_list items number setting = having_heap (with_list 1 (numbered_list items number)) setting

-- there is one list, set, table or record more
abbrev more_list : List Value → Setting → Setting
more_list items setting =
    having_heap (λ heap. record heap { lists = heap.lists ++ numbered_list items (pos 1) ∷ [] }) setting

-- there is one set more
abbrev more_set : List Value → Setting → Setting
more_set members setting = having_heap (λ heap. record heap { sets = heap.sets ++ members ∷ [] }) setting

-- there is one table more
abbrev more_table : Value → List (Value × Value) → Setting → Setting
more_table default pairs setting =
    having_heap
    (λ heap. record heap { tables = heap.tables ++ record { default = default; pairs = pairs } ∷ [] }) setting

-- there is one record more
abbrev more_record : ℕ → List Value → Setting → Setting
more_record kind fields setting =
    having_heap
    (λ heap. record heap { records = heap.records ++ record { kind = kind; fields = fields } ∷ [] }) setting

-- set 0 has these members, and table 0 these pairs
abbrev first_set : List Value → Setting → Setting
first_set members setting = having_heap (with_set 0 members) setting

-- table 0 has these pairs
abbrev first_table : List (Value × Value) → Setting → Setting
first_table pairs setting = having_heap (with_table 0 (record { default = num 0; pairs = pairs })) setting

-- a new list that costs so many cells
abbrev new_list : Row → List Value → ℕ → RowCase
new_list row items cells = case row (Gave (list 2) (costs 0 cells (more_list items plain)) ∷ [])

-- one list of many types
abbrev mixed_setting : Setting
mixed_setting =
    first_list (ARecord 2 ∷ ARecord 1 ∷ ARecord 0 ∷ ATable 0 ∷ ASet 0 ∷ AList 0 ∷ Procedure 5 ∷ Procedure 1
    ∷ Procedure 0 ∷ ACoexp 1
    ∷ Std Input ∷ Std Errout ∷ Chars (codes "a") ∷ txt (codes "ab") ∷ txt (codes "B") ∷ num 10 ∷ num 9
    ∷ Null ∷ []) (pos 1) plain

-- operations and functions on lists, sets, tables and records
abbrev pub structures : List RowCase
structures =
    -- !x: elements, fields and values are variables, bytes of a variable are too
    case (op O.Elements (list 0 ∷ []))
    (gives_all (element 0 1 ∷ element 0 2 ∷ element 0 3 ∷ element 0 4 ∷ [])) ∷
    case (op O.Elements (list 1 ∷ [])) fails ∷
    case (op O.Elements (Val (ASet 0) ∷ [])) (gives_all (int 1 ∷ int 2 ∷ [])) ∷
    case (op O.Elements (Val (ATable 0) ∷ []))
    (gives_all (key 0 (txt (codes "b")) ∷ key 0 (txt (codes "a")) ∷ [])) ∷
    case (op O.Elements (Val (ARecord 0) ∷ [])) (gives_all (field 0 0 ∷ field 0 1 ∷ [])) ∷
    case (op O.Elements (str (codes "ab") ∷ [])) (gives_all (str (codes "a") ∷ str (codes "b") ∷ [])) ∷
    case (op O.Elements (local_part 0 2 2 ∷ [])) (gives_all (local_part 0 2 1 ∷ local_part 0 3 1 ∷ [])) ∷
    case (op O.Elements (local 1 ∷ []))
    (Suspended (str (codes "7")) (costs 1 0 plain) ∷ Failed (costs 1 0 plain) ∷ []) ∷
    case (op O.Elements (null ∷ [])) (stops 116 null) ∷
    case (op O.Elements (Val (ACoexp 0) ∷ [])) (stops 116 (Val (ACoexp 0))) ∷
    case (op O.Elements (Val (Std Errout) ∷ [])) (stops 212 (Val (Std Errout))) ∷
    case (fn F.Key (Val (ATable 0) ∷ [])) (gives_all (str (codes "b") ∷ str (codes "a") ∷ [])) ∷
    case (fn F.Key (Val (ASet 0) ∷ [])) (stops 124 (Val (ASet 0))) ∷
    -- a walk goes on at the next place of what is there now
    case_between (fn F.Get (list 0 ∷ []) ∷ []) (op O.Elements (list 0 ∷ []))
    (Suspended (element 0 1) plain ∷ Suspended (element 0 3) (first_list (txt (codes "a") ∷ num 1
    ∷ Null ∷ []) (pos 2) plain) ∷ []) ∷
    case_between (op O.Assign (local 0 ∷ str (codes "x") ∷ []) ∷ []) (op O.Elements (local 0 ∷ []))
    (Suspended (local_part 0 1 1) plain ∷ Failed (locals_holding (txt (codes "x") ∷ num 7 ∷ Null ∷ []) plain)
    ∷ []) ∷
    case_between (op O.Assign (local 0 ∷ int 5 ∷ []) ∷ []) (op O.Elements (local 0 ∷ []))
    (Suspended (local_part 0 1 1) plain ∷ Stopped 103 (Some (num 5)) (locals_holding (num 5 ∷ num 7 ∷ Null
    ∷ []) plain) ∷ []) ∷
    -- x[y]
    case (op O.Subscript (str (codes "abc") ∷ str (codes "2") ∷ [])) (gives (str (codes "b"))) ∷
    case (op O.Subscript (str (codes "abc") ∷ int 4 ∷ [])) fails ∷
    case (op O.Subscript (str (codes "abc") ∷ int 0 ∷ [])) fails ∷
    case (op O.Subscript (local 0 ∷ below 0 ∷ [])) (gives (local_part 0 5 1)) ∷
    case (op O.Subscript (local_part 0 2 3 ∷ int 2 ∷ [])) (gives (local_part 0 3 1)) ∷
    case (op O.Subscript (int 123 ∷ int 2 ∷ [])) (Gave (str (codes "2")) (costs 3 0 plain) ∷ []) ∷
    case (op O.Subscript (int 123 ∷ int 4 ∷ [])) (Failed (costs 3 0 plain) ∷ []) ∷
    case (op O.Subscript (list 0 ∷ below 0 ∷ [])) (gives (element 0 4)) ∷
    case (op O.Subscript (list 0 ∷ int 5 ∷ [])) fails ∷
    case (op O.Subscript (Val (ARecord 0) ∷ int 2 ∷ [])) (gives (field 0 1)) ∷
    case (op O.Subscript (Val (ARecord 0) ∷ str (codes "x") ∷ [])) (stops 101 (str (codes "x"))) ∷
    case (op O.Subscript (Val (ATable 0) ∷ null ∷ [])) (gives (key 0 Null)) ∷
    case (op O.Subscript (Val (ASet 0) ∷ int 1 ∷ [])) (stops 114 (Val (ASet 0))) ∷
    -- x[i:j], x[i+:j], x[i-:j]
    case (op O.Section (str (codes "hello") ∷ int 4 ∷ int 2 ∷ [])) (gives (str (codes "el"))) ∷
    case (op O.Section (local 0 ∷ int 2 ∷ int 0 ∷ [])) (gives (local_part 0 2 4)) ∷
    case (op O.Section (str (codes "hello") ∷ int 2 ∷ int 7 ∷ [])) fails ∷
    case (op O.Section (str (codes "hello") ∷ str (codes "x") ∷ int 1 ∷ [])) (stops 101 (str (codes "x"))) ∷
    case (op O.Section (Val (ATable 0) ∷ null ∷ null ∷ [])) (stops 110 (Val (ATable 0))) ∷
    case (op O.SectionPlus (str (codes "hello") ∷ int 2 ∷ int 2 ∷ [])) (gives (str (codes "el"))) ∷
    case (op O.SectionPlus (str (codes "hello") ∷ greatest ∷ int 1 ∷ [])) (stops_alone 203) ∷
    case (op O.SectionMinus (str (codes "hello") ∷ below 0 ∷ int 2 ∷ [])) (gives (str (codes "ll"))) ∷
    new_list (op O.Section (list 0 ∷ int 2 ∷ int 4 ∷ [])) (txt (codes "a") ∷ num 1 ∷ []) 3 ∷
    -- ?x: `&random` goes on, and then a place is picked
    case (op O.Random (int 6 ∷ [])) (Gave (int 2) (having_random 453816694 plain) ∷ []) ∷
    case (op O.Random (int 0 ∷ [])) (stops 205 (int 0)) ∷
    case (op O.Random (local 0 ∷ [])) (Gave (local_part 0 2 1) (having_random 453816694 plain) ∷ []) ∷
    case (op O.Random (list 0 ∷ [])) (Gave (element 0 1) (having_random 453816694 plain) ∷ []) ∷
    case (op O.Random (str [] ∷ [])) fails ∷
    case (op O.Random (list 1 ∷ [])) fails ∷
    case (op O.Random (null ∷ [])) (stops 113 null) ∷
    -- lists
    new_list (fn F.List (int 2 ∷ int 7 ∷ [])) (num 7 ∷ num 7 ∷ []) 3 ∷
    new_list (fn F.List []) [] 1 ∷
    case (fn F.List (below 0 ∷ [])) (stops 205 (below 0)) ∷
    new_list (op O.ConcatenateLists (list 0 ∷ list 0 ∷ []))
    (num 3 ∷ txt (codes "a") ∷ num 1 ∷ Null ∷ num 3 ∷ txt (codes "a") ∷ num 1 ∷ Null ∷ []) 9 ∷
    case (op O.ConcatenateLists (list 0 ∷ null ∷ [])) (stops 108 null) ∷
    case (fn F.Get (list 0 ∷ []))
    (Gave (int 3) (first_list (txt (codes "a") ∷ num 1 ∷ Null ∷ []) (pos 2) plain) ∷ []) ∷
    case (fn F.Pop (list 1 ∷ [])) fails ∷
    case (fn F.Pull (list 0 ∷ []))
    (Gave null (first_list (num 3 ∷ txt (codes "a") ∷ num 1 ∷ []) (pos 1) plain) ∷ []) ∷
    case (fn F.Pull (str [] ∷ [])) (stops 108 (str [])) ∷
    case (fn F.Push (list 1 ∷ int 5 ∷ int 6 ∷ []))
    (Gave (list 1) (costs 0 2 (second_list (num 6 ∷ num 5 ∷ []) (pos 2) plain)) ∷ []) ∷
    case (fn F.Put (list 1 ∷ int 5 ∷ int 6 ∷ []))
    (Gave (list 1) (costs 0 2 (second_list (num 5 ∷ num 6 ∷ []) (pos 4) plain)) ∷ []) ∷
    case (fn F.Push (list 1 ∷ [])) (Gave (list 1) (costs 0 1 (second_list (Null ∷ []) (pos 3) plain)) ∷ []) ∷
    -- sets and tables
    case (op O.Union (Val (ASet 0) ∷ Val (ASet 1) ∷ []))
    (Gave (Val (ASet 3)) (costs 0 4 (more_set (num 1 ∷ num 2 ∷ txt (codes "b") ∷ []) plain)) ∷ []) ∷
    case (op O.Difference (Val (ASet 0) ∷ Val (ASet 1) ∷ []))
    (Gave (Val (ASet 3)) (costs 0 2 (more_set (num 1 ∷ []) plain)) ∷ []) ∷
    case (op O.Intersection (Val (ASet 0) ∷ Val (ASet 1) ∷ []))
    (Gave (Val (ASet 3)) (costs 0 2 (more_set (num 2 ∷ []) plain)) ∷ []) ∷
    case (fn F.Set (list 1 ∷ [])) (Gave (Val (ASet 3)) (costs 0 1 (more_set [] plain)) ∷ []) ∷
    case (fn F.Set []) (Gave (Val (ASet 3)) (costs 0 1 (more_set [] plain)) ∷ []) ∷
    case (fn F.Set (str [] ∷ [])) (stops 108 (str [])) ∷
    case (fn F.Table (int 9 ∷ [])) (Gave (Val (ATable 2)) (costs 0 1 (more_table (num 9) [] plain)) ∷ []) ∷
    case (fn F.Insert (Val (ASet 0) ∷ int 2 ∷ [])) (gives (Val (ASet 0))) ∷
    case (fn F.Insert (Val (ASet 0) ∷ int 9 ∷ []))
    (Gave (Val (ASet 0)) (costs 0 1 (first_set (num 1 ∷ num 2 ∷ num 9 ∷ []) plain)) ∷ []) ∷
    case (fn F.Insert (Val (ATable 0) ∷ str (codes "b") ∷ []))
    (Gave (Val (ATable 0)) (first_table ((txt (codes "b"), Null) ∷ (txt (codes "a"), num 2)
    ∷ []) plain) ∷ []) ∷
    case (fn F.Insert (list 0 ∷ [])) (stops 122 (list 0)) ∷
    case (fn F.Delete (Val (ASet 0) ∷ int 1 ∷ [])) (Gave (Val (ASet 0)) (first_set (num 2 ∷ []) plain) ∷ []) ∷
    case (fn F.Delete (Val (ATable 0) ∷ str (codes "b") ∷ []))
    (Gave (Val (ATable 0)) (first_table ((txt (codes "a"), num 2) ∷ []) plain) ∷ []) ∷
    case (fn F.Member (Val (ASet 0) ∷ str (codes "2") ∷ [])) fails ∷
    case (fn F.Member (Val (ATable 0) ∷ str (codes "a") ∷ [])) (gives (str (codes "a"))) ∷
    -- copy(x)
    new_list (fn F.Copy (list 0 ∷ [])) (num 3 ∷ txt (codes "a") ∷ num 1 ∷ Null ∷ []) 5 ∷
    case (fn F.Copy (Val (ARecord 0) ∷ []))
    (Gave (Val (ARecord 3)) (costs 0 3 (more_record 0 (num 1 ∷ txt (codes "x") ∷ []) plain)) ∷ []) ∷
    case (fn F.Copy (Val (ACoexp 1) ∷ [])) (gives (Val (ACoexp 1))) ∷
    -- sort(x, i)
    new_list (fn F.Sort (list 0 ∷ [])) (Null ∷ num 1 ∷ num 3 ∷ txt (codes "a") ∷ []) 5 ∷
    case_from mixed_setting (fn F.Sort (list 0 ∷ []))
    (Gave (list 2) (costs 0 19 (more_list (Null ∷ num 9 ∷ num 10 ∷ txt (codes "B") ∷ txt (codes "ab")
    ∷ Chars (codes "a") ∷ Std Errout ∷ Std Input ∷ ACoexp 1 ∷ Procedure 1 ∷ Procedure 5 ∷ Procedure 0
    ∷ AList 0 ∷ ASet 0 ∷ ATable 0
    ∷ ARecord 1 ∷ ARecord 0 ∷ ARecord 2 ∷ []) mixed_setting)) ∷ []) ∷
    new_list (fn F.Sort (Val (ATable 0) ∷ int 3 ∷ []))
    (txt (codes "a") ∷ num 2 ∷ txt (codes "b") ∷ num 2 ∷ []) 5 ∷
    new_list (fn F.Sort (Val (ATable 0) ∷ int 4 ∷ []))
    (txt (codes "a") ∷ num 2 ∷ txt (codes "b") ∷ num 2 ∷ []) 5 ∷
    case (fn F.Sort (Val (ATable 0) ∷ [])) (Gave (list 4) (costs 0 9 (more_list (AList 2 ∷ AList 3 ∷ [])
    (more_list (txt (codes "b") ∷ num 2 ∷ []) (more_list (txt (codes "a") ∷ num 2 ∷ []) plain)))) ∷ []) ∷
    case (fn F.Sort (Val (ATable 0) ∷ int 5 ∷ [])) (stops 205 (int 5)) ∷
    case (fn F.Sort (str (codes "a") ∷ str (codes "x") ∷ [])) (stops 101 (str (codes "x"))) ∷
    case (fn F.Sort (str (codes "a") ∷ [])) (stops 115 (str (codes "a"))) ∷ []
