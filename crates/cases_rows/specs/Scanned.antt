-- Scanning: the functions that look at a text from a place on, and those that move in the subject, which is "hello" with `&pos` 2.
use Rattle.std.specs.Prelude.{ℕ, List, [], ◌∷◌, codes, None}
use Rattle.icn_text.specs.declared.op.Op.TheVariants as O
use Rattle.icn_text.specs.declared.func.Func.TheVariants as F
use Rattle.icn_value.specs.Values.{Keyword, Subject, Whole, Var}
use Rattle.icn_value.specs.Store.{having_position, having_subject}
use Rattle.icn_defs.specs.Rows.{Row}
use Rattle.cases_rows.specs.Cases.{RowCase, case, case_between, plain, op, fn, int, below, str, chars, null, list, gives, gives_all, fails, stops, Suspended, Failed, Stopped, costs}

-- `&pos` goes there, the bytes between are given, and resumed it goes back
abbrev moves : Row → ℕ → List ℕ → RowCase
moves row place text = case row (Suspended (str text) (having_position place plain) ∷ fails)

-- functions that look for something in a text, and those that move in the subject
abbrev pub scans : List RowCase
scans =
    -- find
    case (fn F.Find (str (codes "l") ∷ str (codes "hello") ∷ [])) (gives_all (int 3 ∷ int 4 ∷ [])) ∷
    case (fn F.Find (str (codes "l") ∷ [])) (gives_all (int 3 ∷ int 4 ∷ [])) ∷
    case (fn F.Find (str (codes "h") ∷ [])) fails ∷
    case (fn F.Find (str (codes "h") ∷ null ∷ int 1 ∷ [])) (gives_all (int 1 ∷ [])) ∷
    case (fn F.Find (str [] ∷ str (codes "ab") ∷ [])) (gives_all (int 1 ∷ int 2 ∷ int 3 ∷ [])) ∷
    case (fn F.Find (str (codes "l") ∷ str (codes "hello") ∷ below 0 ∷ int 1 ∷ []))
    (gives_all (int 3 ∷ int 4 ∷ [])) ∷
    case (fn F.Find (str (codes "lo") ∷ str (codes "hello") ∷ int 1 ∷ below 0 ∷ [])) fails ∷
    case (fn F.Find (str (codes "l") ∷ str (codes "hello") ∷ int 9 ∷ [])) fails ∷
    case (fn F.Find (int 1 ∷ int 212 ∷ []))
    (Suspended (int 2) (costs 4 0 plain) ∷ Failed (costs 4 0 plain) ∷ []) ∷
    case (fn F.Find (list 0 ∷ [])) (stops 103 (list 0)) ∷
    case (fn F.Find (str (codes "a") ∷ str (codes "b") ∷ str (codes "x") ∷ [])) (stops 101 (str (codes "x")))
    ∷
    -- match, any, many
    case (fn F.Match (str (codes "he") ∷ str (codes "hello") ∷ [])) (gives (int 3)) ∷
    case (fn F.Match (str (codes "ell") ∷ [])) (gives (int 5)) ∷
    case (fn F.Match (str (codes "lo") ∷ [])) fails ∷
    case (fn F.Match (str (codes "he") ∷ str (codes "hello") ∷ int 1 ∷ int 2 ∷ [])) fails ∷
    case (fn F.Any (chars (codes "e") ∷ [])) (gives (int 3)) ∷
    case (fn F.Any (str (codes "oh") ∷ str (codes "hello") ∷ [])) (gives (int 2)) ∷
    case (fn F.Any (str (codes "o") ∷ str (codes "hello") ∷ int 6 ∷ int 6 ∷ [])) fails ∷
    case (fn F.Any (null ∷ [])) (stops 104 null) ∷
    case (fn F.Many (str (codes "helo") ∷ str (codes "hello!") ∷ [])) (gives (int 6)) ∷
    case (fn F.Many (str (codes "ab") ∷ str (codes "ababab") ∷ int 2 ∷ int 4 ∷ [])) (gives (int 4)) ∷
    case (fn F.Many (str (codes "l") ∷ [])) fails ∷
    -- upto and bal
    case (fn F.Upto (str (codes "eo") ∷ [])) (gives_all (int 2 ∷ int 5 ∷ [])) ∷
    case (fn F.Upto (str (codes "h") ∷ str (codes "hello") ∷ int 1 ∷ int 1 ∷ [])) fails ∷
    case (fn F.Upto (list 0 ∷ [])) (stops 104 (list 0)) ∷
    case (fn F.Bal (str (codes "+") ∷ null ∷ null ∷ str (codes "(a+b)+c") ∷ [])) (gives_all (int 6 ∷ [])) ∷
    case (fn F.Bal (null ∷ null ∷ null ∷ str (codes "a)b") ∷ [])) (gives_all (int 1 ∷ int 2 ∷ [])) ∷
    case (fn F.Bal (str (codes "+") ∷ str (codes "[") ∷ str (codes "]") ∷ str (codes "[+]+") ∷ []))
    (gives_all (int 4 ∷ [])) ∷
    case (fn F.Bal (null ∷ list 0 ∷ [])) (stops 104 (list 0)) ∷
    -- tab, move, pos and =s
    moves (fn F.Tab (int 4 ∷ [])) 4 (codes "el") ∷
    moves (fn F.Tab (int 0 ∷ [])) 6 (codes "ello") ∷
    moves (fn F.Tab (below 4 ∷ [])) 1 (codes "h") ∷
    case (fn F.Tab (int 7 ∷ [])) fails ∷
    case (fn F.Tab (null ∷ [])) (stops 101 null) ∷
    moves (fn F.Move (int 4 ∷ [])) 6 (codes "ello") ∷
    moves (fn F.Move (below 0 ∷ [])) 1 (codes "h") ∷
    moves (fn F.Move (int 0 ∷ [])) 2 [] ∷
    case (fn F.Move (below 1 ∷ [])) fails ∷
    case (fn F.Move (int 5 ∷ [])) fails ∷
    case (fn F.Pos (below 3 ∷ [])) (gives (int 2)) ∷
    case (fn F.Pos (int 1 ∷ [])) fails ∷
    case (fn F.Pos (int 99 ∷ [])) fails ∷
    moves (op O.TabMatch (str (codes "el") ∷ [])) 4 (codes "el") ∷
    case (op O.TabMatch (str (codes "lo") ∷ [])) fails ∷
    case (op O.TabMatch (int 1 ∷ [])) (Failed (costs 1 0 plain) ∷ []) ∷
    case (op O.TabMatch (null ∷ [])) (stops 103 null) ∷
    -- where the subject is too short for the way back, it is an error
    case_between (op O.Assign (Var (Whole (Keyword Subject)) ∷ str [] ∷ []) ∷ []) (fn F.Tab (int 4 ∷ []))
    (Suspended (str (codes "el")) (having_position 4 plain)
    ∷ Stopped 205 None (having_subject [] plain) ∷ []) ∷ []
