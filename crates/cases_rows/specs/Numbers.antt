-- Integers: arithmetic, the functions over bits, and counting.
use Rattle.std.specs.Prelude.{List, [], ◌∷◌, codes}
use Rattle.icn_text.specs.declared.op.Op.TheVariants as O
use Rattle.icn_text.specs.declared.func.Func.TheVariants as F
use Rattle.cases_rows.specs.Cases.{RowCase, case, plain, op, fn, int, below, greatest, least, str, chars, null, list, local, gives, gives_all, fails, stops, stops_alone, Suspended}

-- operations and functions on integers
abbrev pub arithmetic : List RowCase
arithmetic =
    -- +"7 ", -7, abs(-3)
    case (op O.Number (str (codes "7 ") ∷ [])) (gives (int 7)) ∷
    case (op O.Negate (int 7 ∷ [])) (gives (below 6)) ∷
    case (op O.Negate (least ∷ [])) (stops_alone 203) ∷
    case (op O.Number (str (codes "a") ∷ [])) (stops 102 (str (codes "a"))) ∷
    case (op O.Number (null ∷ [])) (stops 102 null) ∷
    case (fn F.Abs (below 2 ∷ [])) (gives (int 3)) ∷
    case (fn F.Abs (least ∷ [])) (stops_alone 203) ∷
    case (fn F.Abs []) (stops 102 null) ∷
    -- m + n and the like; a variable is read
    case (op O.Add (local 1 ∷ str (codes "16r1F") ∷ [])) (gives (int 38)) ∷
    case (op O.Add (greatest ∷ int 1 ∷ [])) (stops_alone 203) ∷
    case (op O.Add (int 1 ∷ local 0 ∷ [])) (stops 102 (str (codes "hello"))) ∷
    case (op O.Add (list 0 ∷ null ∷ [])) (stops 102 (list 0)) ∷
    case (op O.Subtract (least ∷ int 1 ∷ [])) (stops_alone 203) ∷
    case (op O.Subtract (int 1 ∷ chars (codes "23") ∷ [])) (gives (below 21)) ∷
    case (op O.Multiply (least ∷ below 0 ∷ [])) (stops_alone 203) ∷
    case (op O.Divide (below 6 ∷ int 2 ∷ [])) (gives (below 2)) ∷
    case (op O.Divide (int 7 ∷ int 0 ∷ [])) (stops_alone 201) ∷
    case (op O.Divide (least ∷ below 0 ∷ [])) (stops_alone 203) ∷
    case (op O.Remainder (below 6 ∷ int 2 ∷ [])) (gives (below 0)) ∷
    case (op O.Remainder (int 7 ∷ int 0 ∷ [])) (stops_alone 202) ∷
    case (op O.Remainder (least ∷ below 0 ∷ [])) (gives (int 0)) ∷
    case (op O.Power (int 2 ∷ int 62 ∷ [])) (gives (int 4611686018427387904)) ∷
    case (op O.Power (int 2 ∷ int 63 ∷ [])) (stops_alone 203) ∷
    case (op O.Power (below 1 ∷ int 63 ∷ [])) (gives least) ∷
    case (op O.Power (int 0 ∷ int 0 ∷ [])) (gives (int 1)) ∷
    case (op O.Power (int 0 ∷ below 0 ∷ [])) (stops_alone 201) ∷
    case (op O.Power (int 1 ∷ below 4 ∷ [])) (gives (int 1)) ∷
    case (op O.Power (below 0 ∷ below 2 ∷ [])) (gives (below 0)) ∷
    case (op O.Power (below 0 ∷ below 1 ∷ [])) (gives (int 1)) ∷
    case (op O.Power (int 9 ∷ below 0 ∷ [])) (gives (int 0)) ∷
    -- bits
    case (fn F.Iand (int 12 ∷ int 10 ∷ [])) (gives (int 8)) ∷
    case (fn F.Ior (int 12 ∷ below 15 ∷ [])) (gives (below 3)) ∷
    case (fn F.Ixor (int 12 ∷ int 10 ∷ [])) (gives (int 6)) ∷
    case (fn F.Iand (int 1 ∷ [])) (stops 101 null) ∷
    case (fn F.Icom (int 0 ∷ [])) (gives (below 0)) ∷
    case (fn F.Ishift (int 3 ∷ int 2 ∷ [])) (gives (int 12)) ∷
    case (fn F.Ishift (int 1 ∷ int 63 ∷ [])) (gives least) ∷
    case (fn F.Ishift (int 1 ∷ int 64 ∷ [])) (gives (int 0)) ∷
    case (fn F.Ishift (below 0 ∷ below 62 ∷ [])) (gives (int 1)) ∷
    case (fn F.Ishift (below 0 ∷ below 63 ∷ [])) (gives (int 0)) ∷
    -- conversions
    case (fn F.Integer (str (codes " -36rZZ\t") ∷ [])) (gives (below 1294)) ∷
    case (fn F.Integer (str (codes "9223372036854775808") ∷ [])) fails ∷
    case (fn F.Numeric (str [] ∷ [])) fails ∷
    case (fn F.Numeric (chars (codes "12") ∷ [])) (gives (int 12)) ∷
    case (fn F.Integer []) fails ∷
    -- i to j by k
    case (op O.ToBy (int 1 ∷ str (codes "3") ∷ int 1 ∷ [])) (gives_all (int 1 ∷ int 2 ∷ int 3 ∷ [])) ∷
    case (op O.ToBy (int 2 ∷ int 1 ∷ int 1 ∷ [])) fails ∷
    case (op O.ToBy (int 1 ∷ below 3 ∷ below 1 ∷ [])) (gives_all (int 1 ∷ below 0 ∷ below 2 ∷ [])) ∷
    case (op O.ToBy (greatest ∷ greatest ∷ int 1 ∷ [])) (gives_all (greatest ∷ [])) ∷
    case (op O.ToBy (int 1 ∷ int 2 ∷ int 0 ∷ [])) (stops_alone 211) ∷
    case (op O.ToBy (int 1 ∷ null ∷ int 0 ∷ [])) (stops 101 null) ∷
    -- seq(i, j)
    case (fn F.Seq []) (Suspended (int 1) plain ∷ Suspended (int 2) plain ∷ Suspended (int 3) plain ∷ []) ∷
    case (fn F.Seq (greatest ∷ int 2 ∷ [])) (Suspended greatest plain ∷ stops_alone 203) ∷
    case (fn F.Seq (int 1 ∷ int 0 ∷ [])) (stops_alone 211) ∷
    case (fn F.Seq (str (codes "x") ∷ [])) (stops 101 (str (codes "x"))) ∷ []
