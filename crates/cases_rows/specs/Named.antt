-- What texts name, and how many arguments procedures, constructors and functions take. Their numbers go from 0 to 1, from 2 to 4, and from 5 on.
use Rattle.std.specs.Prelude.{ℕ, List, [], ◌∷◌, codes}
use Rattle.icn_text.specs.declared.func.Func.{Func}
use Rattle.icn_text.specs.declared.func.Func.TheVariants as F
use Rattle.icn_value.specs.Values.{Text, Procedure, Item, Val}
use Rattle.icn_defs.specs.Applying.{function_row}
use Rattle.icn_defs.specs.Rows.{Row}
use Rattle.cases_rows.specs.Cases.{RowCase, case, case_from, plain, fn, names, int, below, str, chars, null, list, local, gives, fails, stops, Gave, locals_holding}

-- the procedure, the constructor or the function of this number
abbrev procedure : ℕ → Item
procedure number = Val (Procedure number)

-- a function on items, where no text names these procedures
abbrev hiding : List ℕ → Func → List Item → Row
hiding hidden func items = function_row (record names { hidden = hidden }) func items

-- names and numbers of arguments
abbrev pub named_values : List RowCase
named_values =
    -- proc: a procedure, a constructor or a function by its name, of several the one of the least number
    case (fn F.Proc (str (codes "main") ∷ [])) (gives (procedure 0)) ∷
    case (fn F.Proc (str (codes "abs") ∷ [])) (gives (procedure 1)) ∷
    case (fn F.Proc (str (codes "point") ∷ [])) (gives (procedure 2)) ∷
    case (fn F.Proc (str (codes "pair") ∷ [])) (gives (procedure 3)) ∷
    case (fn F.Proc (str (codes "write") ∷ [])) (gives (procedure 54)) ∷
    case (fn F.Proc (str (codes "args") ∷ [])) (gives (procedure 60)) ∷
    -- itself where it is one
    case (fn F.Proc (procedure 3 ∷ int 1 ∷ [])) (gives (procedure 3)) ∷
    -- another text names nothing, and nothing is converted
    case (fn F.Proc (str (codes "nosuch") ∷ [])) fails ∷
    case (fn F.Proc (str (codes "Main") ∷ [])) fails ∷
    case (fn F.Proc (str [] ∷ [])) fails ∷
    case (fn F.Proc (str (codes "+") ∷ [])) fails ∷
    case (fn F.Proc (int 1 ∷ [])) fails ∷
    case (fn F.Proc (str (codes "1") ∷ [])) fails ∷
    case (fn F.Proc (chars (codes "abs") ∷ [])) fails ∷
    case (fn F.Proc (list 0 ∷ [])) fails ∷
    case (fn F.Proc []) fails ∷
    -- a variable is dereferenced
    case_from (locals_holding (Text (codes "pair") ∷ []) plain) (fn F.Proc (local 0 ∷ []))
    (Gave (procedure 3) (locals_holding (Text (codes "pair") ∷ []) plain) ∷ []) ∷
    -- a procedure that no text names leaves its name to a function, or to nothing
    case (hiding (1 ∷ []) F.Proc (str (codes "abs") ∷ [])) (gives (procedure 5)) ∷
    case (hiding (0 ∷ []) F.Proc (str (codes "main") ∷ [])) fails ∷
    case (hiding (0 ∷ 1 ∷ []) F.Proc (str (codes "point") ∷ [])) (gives (procedure 2)) ∷
    case (hiding (1 ∷ []) F.Proc (procedure 1 ∷ [])) (gives (procedure 1)) ∷
    -- args: parameters, below 0 where the last collects; fields; the parameters of a function, or -1
    case (fn F.Args (procedure 0 ∷ [])) (gives (int 0)) ∷
    case (fn F.Args (procedure 1 ∷ [])) (gives (below 1)) ∷
    case (fn F.Args (procedure 2 ∷ [])) (gives (int 2)) ∷
    case (fn F.Args (procedure 4 ∷ [])) (gives (int 1)) ∷
    case (fn F.Args (procedure 5 ∷ [])) (gives (int 1)) ∷
    case (fn F.Args (procedure 7 ∷ [])) (gives (int 6)) ∷
    case (fn F.Args (procedure 14 ∷ [])) (gives (int 4)) ∷
    case (fn F.Args (procedure 37 ∷ [])) (gives (below 0)) ∷
    case (fn F.Args (procedure 54 ∷ [])) (gives (below 0)) ∷
    case (fn F.Args (procedure 56 ∷ [])) (gives (int 0)) ∷
    case (fn F.Args (procedure 57 ∷ [])) (gives (int 2)) ∷
    case (fn F.Args (procedure 60 ∷ [])) (gives (int 1)) ∷
    -- 106 for what is none, though it names one
    case (fn F.Args (str (codes "write") ∷ [])) (stops 106 (str (codes "write"))) ∷
    case (fn F.Args (int 1 ∷ [])) (stops 106 (int 1)) ∷
    case (fn F.Args []) (stops 106 null) ∷
    []
