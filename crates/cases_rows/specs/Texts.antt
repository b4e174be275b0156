-- Texts: those that are built and charged, those that are parts, conversions, and images.
use Rattle.std.specs.Prelude.{ℕ, List, [], ◌∷◌, codes}
use Rattle.std.specs.List.{range_with_len}
use Rattle.icn_text.specs.declared.op.Op.TheVariants as O
use Rattle.icn_text.specs.declared.func.Func.TheVariants as F
use Rattle.icn_value.specs.Values.{ARecord, ACoexp, Procedure, Std, Errout, Item, Val}
use Rattle.icn_defs.specs.Rows.{Row}
use Rattle.cases_rows.specs.Cases.{RowCase, case, plain, op, fn, int, below, str, chars, null, list, local, gives, fails, stops, stops_alone, Gave, costs}

-- the text that is given costs so many bytes
abbrev text_case : Row → List ℕ → ℕ → RowCase
text_case row text bytes = case row (Gave (str text) (costs bytes 0 plain) ∷ [])

-- the image of an item is this text, and costs so many bytes
abbrev image_case : Item → List ℕ → ℕ → RowCase
image_case item text bytes = text_case (fn F.Image (item ∷ [])) text bytes

-- operations and functions on strings, conversions and images
abbrev pub texts : List RowCase
texts =
    -- s || t
    text_case (op O.Concatenate (str (codes "abc") ∷ str (codes "def") ∷ [])) (codes "abcdef") 6 ∷
    text_case (op O.Concatenate (int 12 ∷ chars (codes "ab") ∷ [])) (codes "12ab") 8 ∷
    case (op O.Concatenate (str [] ∷ str [] ∷ [])) (gives (str [])) ∷
    case (op O.Concatenate (null ∷ list 0 ∷ [])) (stops 103 null) ∷
    -- left, right and center: what is put in is aligned at the far ends
    text_case (fn F.Left (str (codes "abc") ∷ int 5 ∷ [])) (codes "abc  ") 5 ∷
    text_case (fn F.Left (str (codes "abc") ∷ int 8 ∷ str (codes "12") ∷ [])) (codes "abc21212") 8 ∷
    text_case (fn F.Left (str (codes "abcde") ∷ int 2 ∷ [])) (codes "ab") 2 ∷
    text_case (fn F.Left (str (codes "ab") ∷ [])) (codes "a") 1 ∷
    case (fn F.Left (str (codes "ab") ∷ int 0 ∷ [])) (gives (str [])) ∷
    text_case (fn F.Right (str (codes "abc") ∷ int 8 ∷ str (codes "12") ∷ [])) (codes "12121abc") 8 ∷
    text_case (fn F.Right (int 7 ∷ int 3 ∷ str (codes "0") ∷ [])) (codes "007") 4 ∷
    text_case (fn F.Right (str (codes "abcde") ∷ int 2 ∷ [])) (codes "de") 2 ∷
    text_case (fn F.Center (str (codes "ab") ∷ int 5 ∷ str (codes "12") ∷ [])) (codes "1ab12") 5 ∷
    text_case (fn F.Center (str (codes "abcde") ∷ int 2 ∷ [])) (codes "cd") 2 ∷
    text_case (fn F.Center (str (codes "ab") ∷ int 3 ∷ str [] ∷ [])) (codes "ab ") 3 ∷
    case (fn F.Left (str (codes "a") ∷ below 0 ∷ [])) (stops 205 (below 0)) ∷
    case (fn F.Right (str (codes "a") ∷ str (codes "x") ∷ [])) (stops 101 (str (codes "x"))) ∷
    case (fn F.Center (null ∷ [])) (stops 103 null) ∷
    case (fn F.Center (str (codes "a") ∷ below 0 ∷ list 0 ∷ [])) (stops 103 (list 0)) ∷
    -- repl, reverse, trim, map
    text_case (fn F.Repl (str (codes "ab") ∷ int 3 ∷ [])) (codes "ababab") 6 ∷
    text_case (fn F.Repl (int 12 ∷ int 2 ∷ [])) (codes "1212") 6 ∷
    case (fn F.Repl (str (codes "ab") ∷ int 0 ∷ [])) (gives (str [])) ∷
    case (fn F.Repl (str (codes "ab") ∷ below 0 ∷ [])) (stops 205 (below 0)) ∷
    text_case (fn F.Reverse (int 123 ∷ [])) (codes "321") 6 ∷
    case (fn F.Trim (str (codes "ab  ") ∷ [])) (gives (str (codes "ab"))) ∷
    text_case (fn F.Trim (int 1200 ∷ int 0 ∷ [])) (codes "12") 4 ∷
    case (fn F.Trim (str (codes "  ") ∷ null ∷ [])) (gives (str [])) ∷
    text_case (fn F.Map (str (codes "AbC") ∷ [])) (codes "abc") 3 ∷
    text_case (fn F.Map (str (codes "hello") ∷ str (codes "el") ∷ str (codes "ip") ∷ [])) (codes "hippo") 5 ∷
    text_case (fn F.Map (str (codes "aba") ∷ str (codes "aa") ∷ int 12 ∷ [])) (codes "2b2") 5 ∷
    case (fn F.Map (str (codes "a") ∷ str (codes "ab") ∷ str (codes "c") ∷ [])) (stops_alone 208) ∷
    case (fn F.Map (str (codes "a") ∷ list 0 ∷ [])) (stops 103 (list 0)) ∷
    -- bytes and conversions
    case (fn F.Char (str (codes "65") ∷ [])) (gives (str (codes "A"))) ∷
    case (fn F.Char (int 256 ∷ [])) (stops 205 (int 256)) ∷
    case (fn F.Char (below 0 ∷ [])) (stops 205 (below 0)) ∷
    case (fn F.Ord (int 7 ∷ [])) (Gave (int 55) (costs 1 0 plain) ∷ []) ∷
    case (fn F.Ord (str [] ∷ [])) (stops 205 (str [])) ∷
    case (fn F.Ord (int 77 ∷ [])) (stops 205 (int 77)) ∷
    text_case (fn F.String (chars (codes "ab") ∷ [])) (codes "ab") 2 ∷
    case (fn F.String (local 0 ∷ [])) (gives (str (codes "hello"))) ∷
    case (fn F.String (null ∷ [])) fails ∷
    case (fn F.Cset (local 0 ∷ [])) (gives (chars (codes "ehlo"))) ∷
    case (fn F.Cset (int 211 ∷ [])) (gives (chars (codes "12"))) ∷
    case (fn F.Cset (list 0 ∷ [])) fails ∷
    -- image(x)
    image_case null (codes "&null") 5 ∷
    image_case (below 11) (codes "-12") 3 ∷
    image_case (str (codes "a\tb\"'")) (codes "\"a\\tb\\\"'\"") 9 ∷
    image_case (str (0 ∷ 127 ∷ 200 ∷ [])) (codes "\"\\x00\\d\\xc8\"") 12 ∷
    image_case (chars (codes "'ab")) (codes "'\\'ab'") 6 ∷
    image_case (chars (range_with_len 97 26)) (codes "&lcase") 6 ∷
    image_case (chars (range_with_len 0 256)) (codes "&cset") 5 ∷
    image_case (Val (Std Errout)) (codes "&errout") 7 ∷
    image_case (Val (Procedure 0)) (codes "procedure main") 14 ∷
    image_case (Val (Procedure 3)) (codes "record constructor pair") 23 ∷
    image_case (Val (Procedure 5)) (codes "function abs") 12 ∷
    image_case (list 0) (codes "list_1(4)") 9 ∷
    image_case (Val (ARecord 2)) (codes "record point_2(1)") 17 ∷
    image_case (Val (ACoexp 0)) (codes "co-expression_1(0)") 18 ∷ []
