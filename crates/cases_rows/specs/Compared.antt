-- Tests of values, sizes, types, and comparisons.
use Rattle.std.specs.Prelude.{List, [], ◌∷◌, codes, pos}
use Rattle.std.specs.List.{range_with_len}
use Rattle.icn_text.specs.declared.op.Op.TheVariants as O
use Rattle.icn_text.specs.declared.func.Func.TheVariants as F
use Rattle.icn_value.specs.Values.{Integer, ARecord, ASet, ATable, ACoexp, Procedure, Std, Input, Output, Key, Whole, Val, Var}
use Rattle.cases_rows.specs.Cases.{RowCase, case, plain, op, fn, int, below, str, chars, null, list, local, gives, fails, stops, Gave, Failed, costs}

-- tests and comparisons of values
abbrev pub comparisons : List RowCase
comparisons =
    -- m < n and the like give the right integer
    case (op O.Less (int 1 ∷ str (codes "2") ∷ [])) (gives (int 2)) ∷
    case (op O.Less (int 2 ∷ int 2 ∷ [])) fails ∷
    case (op O.LessOrEqual (int 2 ∷ int 2 ∷ [])) (gives (int 2)) ∷
    case (op O.Equal (str (codes "07") ∷ int 7 ∷ [])) (gives (int 7)) ∷
    case (op O.GreaterOrEqual (int 1 ∷ int 2 ∷ [])) fails ∷
    case (op O.Greater (int 3 ∷ below 2 ∷ [])) (gives (below 2)) ∷
    case (op O.NotEqual (int 1 ∷ str (codes "1") ∷ [])) fails ∷
    case (op O.Less (str (codes "a") ∷ null ∷ [])) (stops 102 (str (codes "a"))) ∷
    -- s << t and the like go by bytes, give the right string, and charge for conversions, where they fail too
    case (op O.LexicallyLess (str (codes "B") ∷ str (codes "a") ∷ [])) (gives (str (codes "a"))) ∷
    case (op O.LexicallyLess (str (codes "ab") ∷ str (codes "ab") ∷ [])) fails ∷
    case (op O.LexicallyLess (str (codes "ab") ∷ str (codes "abc") ∷ [])) (gives (str (codes "abc"))) ∷
    case (op O.LexicallyLessOrEqual (str (codes "b") ∷ str (codes "a") ∷ [])) fails ∷
    case (op O.LexicallyEqual (str (codes "12") ∷ int 12 ∷ []))
    (Gave (str (codes "12")) (costs 2 0 plain) ∷ []) ∷
    case (op O.LexicallyEqual (int 1 ∷ str (codes "x") ∷ [])) (Failed (costs 1 0 plain) ∷ []) ∷
    case (op O.LexicallyGreaterOrEqual (str [] ∷ str [] ∷ [])) (gives (str [])) ∷
    case (op O.LexicallyGreater (chars (codes "ab") ∷ int 5 ∷ []))
    (Gave (str (codes "5")) (costs 3 0 plain) ∷ []) ∷
    case (op O.LexicallyNotEqual (list 0 ∷ null ∷ [])) (stops 103 (list 0)) ∷
    -- x === y looks at the type and the value, and at structures by identity
    case (op O.Equivalent (int 1 ∷ str (codes "1") ∷ [])) fails ∷
    case (op O.Equivalent (chars (codes "ab") ∷ str (codes "ab") ∷ [])) fails ∷
    case (op O.Equivalent (local 0 ∷ local 0 ∷ [])) (gives (str (codes "hello"))) ∷
    case (op O.Equivalent (list 0 ∷ list 0 ∷ [])) (gives (list 0)) ∷
    case (op O.Equivalent (list 0 ∷ list 1 ∷ [])) fails ∷
    case (op O.NotEquivalent (null ∷ int 0 ∷ [])) (gives (int 0)) ∷
    case (op O.NotEquivalent (local 2 ∷ null ∷ [])) fails ∷
    -- /x and \x give the variable, .x its value
    case (op O.IsNull (local 2 ∷ [])) (gives (local 2)) ∷
    case (op O.IsNull (local 1 ∷ [])) fails ∷
    case (op O.IsNull (Var (Whole (Key 1 (Integer (pos 5)))) ∷ []))
    (gives (Var (Whole (Key 1 (Integer (pos 5)))))) ∷
    case (op O.IsNotNull (local 1 ∷ [])) (gives (local 1)) ∷
    case (op O.IsNotNull (null ∷ [])) fails ∷
    case (op O.Dereference (local 0 ∷ [])) (gives (str (codes "hello"))) ∷
    -- *x
    case (op O.Size (local 0 ∷ [])) (gives (int 5)) ∷
    case (op O.Size (below 11 ∷ [])) (gives (int 3)) ∷
    case (op O.Size (chars (codes "ab") ∷ [])) (gives (int 2)) ∷
    case (op O.Size (list 0 ∷ [])) (gives (int 4)) ∷
    case (op O.Size (Val (ASet 2) ∷ [])) (gives (int 0)) ∷
    case (op O.Size (Val (ATable 0) ∷ [])) (gives (int 2)) ∷
    case (op O.Size (Val (ARecord 2) ∷ [])) (gives (int 1)) ∷
    case (op O.Size (Val (ACoexp 1) ∷ [])) (gives (int 3)) ∷
    case (op O.Size (null ∷ [])) (stops 112 null) ∷
    case (op O.Size (Val (Std Input) ∷ [])) (stops 112 (Val (Std Input))) ∷
    case (op O.Size (Val (Procedure 0) ∷ [])) (stops 112 (Val (Procedure 0))) ∷
    -- type(x)
    case (fn F.TypeOf []) (gives (str (codes "null"))) ∷
    case (fn F.TypeOf (int 1 ∷ [])) (gives (str (codes "integer"))) ∷
    case (fn F.TypeOf (local 0 ∷ [])) (gives (str (codes "string"))) ∷
    case (fn F.TypeOf (chars [] ∷ [])) (gives (str (codes "cset"))) ∷
    case (fn F.TypeOf (Val (Std Output) ∷ [])) (gives (str (codes "file"))) ∷
    case (fn F.TypeOf (Val (Procedure 4) ∷ [])) (gives (str (codes "procedure"))) ∷
    case (fn F.TypeOf (Val (ACoexp 0) ∷ [])) (gives (str (codes "co-expression"))) ∷
    case (fn F.TypeOf (list 1 ∷ [])) (gives (str (codes "list"))) ∷
    case (fn F.TypeOf (Val (ASet 0) ∷ [])) (gives (str (codes "set"))) ∷
    case (fn F.TypeOf (Val (ATable 0) ∷ [])) (gives (str (codes "table"))) ∷
    case (fn F.TypeOf (Val (ARecord 1) ∷ [])) (gives (str (codes "pair"))) ∷
    -- csets
    case (op O.Complement (chars (range_with_len 1 255) ∷ [])) (gives (chars (0 ∷ []))) ∷
    case (op O.Complement (null ∷ [])) (stops 104 null) ∷
    case (op O.Union (str (codes "ba") ∷ int 12 ∷ [])) (gives (chars (codes "12ab"))) ∷
    case (op O.Difference (chars (codes "abc") ∷ str (codes "b") ∷ [])) (gives (chars (codes "ac"))) ∷
    case (op O.Intersection (chars (codes "abc") ∷ str (codes "cxa") ∷ [])) (gives (chars (codes "ac"))) ∷
    case (op O.Union (Val (ASet 0) ∷ str (codes "a") ∷ [])) (stops 120 (Val (ASet 0))) ∷
    case (op O.Union (str (codes "a") ∷ Val (ASet 0) ∷ [])) (stops 120 (Val (ASet 0))) ∷
    case (op O.Difference (null ∷ null ∷ [])) (stops 120 null) ∷ []
