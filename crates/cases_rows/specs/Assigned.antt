-- Variables: what is assigned, exchanged and taken back. Local 0 is "hello", local 1 is 7, local 2 is null.
use Rattle.std.specs.Prelude.{ℕ, pos, negsuc, List, [], ◌∷◌, codes, None, Some}
use Rattle.icn_text.specs.declared.op.Op.TheVariants as O
use Rattle.icn_text.specs.declared.func.Func.TheVariants as F
use Rattle.icn_value.specs.Values.{Value, Null, Integer, Text, AList, Global, Static, Element, Field, Key, Keyword, Subject, Position, Random, ErrorCount, Whole, Part, Root, Item, Val, Var}
use Rattle.icn_value.specs.Store.{Setting, having_heap, having_random, having_error, having_kept, having_position, having_subject, having_globals, having_statics, with_list, with_table, with_record}
use Rattle.cases_rows.specs.Cases.{RowCase, case, case_from, case_between, plain, op, fn, int, below, str, list, local, local_part, locals_holding, gives, fails, stops, stops_alone, Gave, Suspended, Failed, Stopped, costs}

-- an integer from 0 on, as a value
abbrev num : ℕ → Value
num n = Integer (pos n)

-- a whole variable
abbrev whole : Root → Item
whole root = Var (Whole root)

-- `&subject`
abbrev subject : Item
subject = whole (Keyword Subject)

-- `&pos`
abbrev position : Item
position = whole (Keyword Position)

-- `&error`
abbrev error_count : Item
error_count = whole (Keyword ErrorCount)

-- the plain setting where error 101 over the text "x" is kept
abbrev error_kept : Setting
error_kept = having_kept (Some (record { number = 101; value = Some (Text (codes "x")) })) plain

-- local 0 holds this text, and the others what they held
abbrev text_local : List ℕ → Setting → Setting
text_local bytes setting = locals_holding (Text bytes ∷ num 7 ∷ Null ∷ []) setting

-- table 0 has these pairs
abbrev first_table : List (Value × Value) → Setting → Setting
first_table pairs setting = having_heap (with_table 0 (record { default = num 0; pairs = pairs })) setting

-- list 0 has a second element
abbrev second_element : Value → Setting → Setting
second_element value setting =
    having_heap (with_list 0 (record { items = num 3 ∷ value ∷ num 1 ∷ Null ∷ []; number = pos 1 })) setting

-- assignments and exchanges, and what resuming takes back
abbrev pub variables : List RowCase
variables =
    -- x := y
    case (op O.Assign (local 1 ∷ int 5 ∷ []))
    (Gave (local 1) (locals_holding (Text (codes "hello") ∷ num 5 ∷ Null ∷ []) plain) ∷ []) ∷
    case (op O.Assign (whole (Global 0) ∷ local 1 ∷ []))
    (Gave (whole (Global 0)) (having_globals (num 7 ∷ []) plain) ∷ []) ∷
    case (op O.Assign (whole (Static 0) ∷ list 1 ∷ []))
    (Gave (whole (Static 0)) (having_statics (AList 1 ∷ []) plain) ∷ []) ∷
    case (op O.Assign (whole (Element 0 (pos 2)) ∷ int 8 ∷ []))
    (Gave (whole (Element 0 (pos 2))) (second_element (num 8) plain) ∷ []) ∷
    case (op O.Assign (whole (Element 0 (pos 5)) ∷ int 8 ∷ [])) (stops_alone 205) ∷
    case (op O.Assign (whole (Field 0 1) ∷ int 8 ∷ []))
    (Gave (whole (Field 0 1)) (having_heap (with_record 0 (record {
      kind = 0;
      fields = num 1 ∷ num 8
          ∷ [];
    })) plain) ∷ []) ∷
    case (op O.Assign (int 1 ∷ int 2 ∷ [])) (stops 111 (int 1)) ∷
    case (op O.Assign (int 1 ∷ whole (Element 1 (pos 4)) ∷ [])) (stops_alone 205) ∷
    -- a key that is there costs nothing, and a new one a cell
    case (op O.Assign (whole (Key 0 (Text (codes "a"))) ∷ int 5 ∷ []))
    (Gave (whole (Key 0 (Text (codes "a")))) (first_table ((Text (codes "b"), num 2)
    ∷ (Text (codes "a"), num 5) ∷ []) plain) ∷ []) ∷
    case (op O.Assign (whole (Key 0 Null) ∷ int 5 ∷ []))
    (Gave (whole (Key 0 Null)) (costs 0 1 (first_table ((Text (codes "b"), num 2)
    ∷ (Text (codes "a"), num 2) ∷ (Null, num 5) ∷ []) plain)) ∷ []) ∷
    case (op O.Dereference (whole (Key 0 Null) ∷ [])) (gives (int 0)) ∷
    -- keywords
    case (op O.Assign (subject ∷ int 12 ∷ []))
    (Gave subject (costs 2 0 (having_subject (codes "12") plain)) ∷ []) ∷
    case (op O.Assign (subject ∷ list 0 ∷ [])) (stops 103 (list 0)) ∷
    case (op O.Assign (position ∷ int 0 ∷ [])) (Gave position (having_position 6 plain) ∷ []) ∷
    case (op O.Assign (position ∷ int 7 ∷ [])) fails ∷
    case (op O.Assign (position ∷ str (codes "x") ∷ [])) (stops 101 (str (codes "x"))) ∷
    case (op O.Assign (whole (Keyword Random) ∷ below 0 ∷ []))
    (Gave (whole (Keyword Random)) (having_random 2147483647 plain) ∷ []) ∷
    case (op O.Assign (error_count ∷ str (codes " 5 ") ∷ []))
    (Gave error_count (having_error (pos 5) plain) ∷ []) ∷
    case (op O.Assign (error_count ∷ below 0 ∷ [])) (Gave error_count (having_error (negsuc 0) plain) ∷ []) ∷
    case (op O.Assign (error_count ∷ str (codes "x") ∷ [])) (stops 101 (str (codes "x"))) ∷
    case (op O.Dereference (error_count ∷ [])) (gives (int 0)) ∷
    -- `errorclear()` forgets an error that is kept, and is null where none is
    case (fn F.ErrorClear []) (gives (Val Null)) ∷
    case_from error_kept (fn F.ErrorClear []) (gives (Val Null)) ∷
    -- parts: the whole text is built, and the part covers what it got
    case (op O.Assign (local_part 0 2 3 ∷ str [] ∷ []))
    (Gave (local_part 0 2 0) (costs 2 0 (text_local (codes "ho") plain)) ∷ []) ∷
    case (op O.Assign (local_part 0 2 3 ∷ int 12 ∷ []))
    (Gave (local_part 0 2 2) (costs 6 0 (text_local (codes "h12o") plain)) ∷ []) ∷
    case (op O.Assign (Var (Part (Keyword Subject) 2 1) ∷ str (codes "u") ∷ []))
    (Gave (Var (Part (Keyword Subject) 2 1)) (costs 5 0 (having_subject (codes "hullo") plain)) ∷ []) ∷
    case (op O.Assign (local_part 0 1 1 ∷ list 0 ∷ [])) (stops 103 (list 0)) ∷
    case (op O.Assign (local_part 1 1 1 ∷ str (codes "a") ∷ [])) (stops 103 (int 7)) ∷
    case (op O.Assign (local_part 0 5 2 ∷ str (codes "a") ∷ [])) (stops_alone 205) ∷
    case (op O.Dereference (local_part 0 5 1 ∷ [])) (gives (str (codes "o"))) ∷
    case (op O.Dereference (local_part 0 6 0 ∷ [])) (gives (str [])) ∷
    -- x :=: y
    case (op O.Swap (local 0 ∷ local 1 ∷ []))
    (Gave (local 0) (locals_holding (num 7 ∷ Text (codes "hello") ∷ Null ∷ []) plain) ∷ []) ∷
    case (op O.Swap (local 0 ∷ int 1 ∷ [])) (stops 111 (int 1)) ∷
    case (op O.Swap (int 1 ∷ whole (Element 1 (pos 4)) ∷ [])) (stops_alone 205) ∷
    -- where the right side refuses, the left was assigned
    case (op O.Swap (local 1 ∷ position ∷ []))
    (Failed (locals_holding (Text (codes "hello") ∷ num 2 ∷ Null ∷ []) plain) ∷ []) ∷
    -- parts of one variable: the first moves the second by its change of length
    case (op O.Swap (local_part 0 1 1 ∷ local_part 0 3 2 ∷ []))
    (Gave (local_part 0 1 2) (costs 11 0 (text_local (codes "lleho") plain)) ∷ []) ∷
    case (op O.Swap (local_part 0 3 2 ∷ local_part 0 1 1 ∷ []))
    (Gave (local_part 0 4 1) (costs 9 0 (text_local (codes "lleho") plain)) ∷ []) ∷
    -- parts that overlap: the second is written over the first
    case (op O.Swap (local_part 0 1 3 ∷ local_part 0 2 3 ∷ []))
    (Gave (local_part 0 1 3) (costs 10 0 (text_local (codes "ehelo") plain)) ∷ []) ∷
    case (op O.Swap (local_part 0 1 4 ∷ local_part 0 4 2 ∷ []))
    (Gave (local_part 0 1 2) (costs 8 0 (text_local (codes "lhell") plain)) ∷ []) ∷
    -- a part that would move below 1, and what was assigned by then
    case (op O.Swap (local_part 0 1 5 ∷ local_part 0 2 1 ∷ []))
    (Stopped 205 None (costs 1 0 (text_local (codes "e") plain)) ∷ []) ∷
    -- x <- y and x <-> y, and what they take back
    case (op O.ReversibleAssign (local 1 ∷ int 2 ∷ []))
    (Suspended (local 1) (locals_holding (Text (codes "hello") ∷ num 2 ∷ Null ∷ []) plain) ∷ fails) ∷
    case (op O.ReversibleAssign (local_part 0 1 1 ∷ str (codes "abc") ∷ []))
    (Suspended (local_part 0 1 3) (costs 7 0 (text_local (codes "abcello") plain)) ∷ Failed
    (costs 12 0 plain) ∷ []) ∷
    case (op O.ReversibleAssign (whole (Key 0 Null) ∷ int 5 ∷ []))
    (Suspended (whole (Key 0 Null)) (costs 0 1 (first_table ((Text (codes "b"), num 2)
    ∷ (Text (codes "a"), num 2) ∷ (Null, num 5) ∷ []) plain))
    ∷ Failed (costs 0 1 (first_table ((Text (codes "b"), num 2) ∷ (Text (codes "a"), num 2)
    ∷ (Null, num 0) ∷ []) plain)) ∷ []) ∷
    case (op O.ReversibleAssign (position ∷ int 9 ∷ [])) fails ∷
    case_between (op O.Assign (subject ∷ str [] ∷ []) ∷ []) (op O.ReversibleAssign (position ∷ int 3 ∷ []))
    (Suspended position (having_position 3 plain) ∷ Stopped 205 None (having_subject [] plain) ∷ []) ∷
    case_between (fn F.Pop (list 0 ∷ []) ∷ [])
    (op O.ReversibleAssign (whole (Element 0 (pos 1)) ∷ int 3 ∷ []))
    (Suspended (whole (Element 0 (pos 1))) plain
    ∷ Stopped 205 None (having_heap (with_list 0 (record {
      items = Text (codes "a") ∷ num 1 ∷ Null
          ∷ [];
      number = pos 2;
    })) plain) ∷ []) ∷
    case (op O.ReversibleSwap (local 0 ∷ local 1 ∷ []))
    (Suspended (local 0) (locals_holding (num 7 ∷ Text (codes "hello") ∷ Null ∷ []) plain) ∷ fails) ∷
    case (op O.ReversibleSwap (local_part 0 1 1 ∷ local_part 0 3 2 ∷ []))
    (Suspended (local_part 0 1 2) (costs 11 0 (text_local (codes "lleho") plain)) ∷ Failed
    (costs 20 0 plain) ∷ []) ∷ []
