-- Input and output. The input is "one", an empty line, and "last" without a newline.
use Rattle.std.specs.Prelude.{ℕ, List, [], ◌∷◌, ◌++◌, codes, map}
use Rattle.icn_text.specs.declared.op.Op.TheVariants as O
use Rattle.icn_text.specs.declared.func.Func.TheVariants as F
use Rattle.icn_value.specs.Values.{Std, File, Input, Output, Errout, Item, Val}
use Rattle.icn_value.specs.Store.{Setting, Request, ALine, SomeBytes, Event, AReading, OutputByte, ErrorByte}
use Rattle.cases_rows.specs.Cases.{RowCase, case, case_from, plain, op, fn, int, below, str, chars, null, list, gives, stops, Gave, Suspended, Failed, Ended, costs}

-- a file, as an item
abbrev file : File → Item
file name = Val (Std name)

-- a text is put on the output, and on the error output
abbrev on_output : List ℕ → List Event
on_output text = map OutputByte text

abbrev on_errors : List ℕ → List Event
on_errors text = map ErrorByte text

-- this was done outside
abbrev with_done : List Event → Setting → Setting
with_done done setting = record setting { outside = record setting.outside { history = done } }

-- this is left, and these readings were made
abbrev with_input : List ℕ → List Request → Setting → Setting
with_input left readings setting =
    record setting { outside = record setting.outside { left = left; history = map AReading readings } }

-- the plain setting at the end of the input
abbrev at_end : Setting
at_end = with_input [] [] plain

-- readings and writings
abbrev pub input_and_output : List RowCase
input_and_output =
    -- write, writes, stop
    case (fn F.Write []) (Gave null (with_done (on_output (codes "\n")) plain) ∷ []) ∷
    case (fn F.Write (str (codes "a") ∷ int 12 ∷ []))
    (Gave (int 12) (with_done (on_output (codes "a12\n")) plain) ∷ []) ∷
    case (fn F.Write (chars (codes "ab") ∷ null ∷ []))
    (Gave null (with_done (on_output (codes "ab\n")) plain) ∷ [])
    ∷
    case (fn F.Write (str (codes "a") ∷ file Errout ∷ str (codes "b") ∷ []))
    (Gave (str (codes "b")) (with_done (on_output (codes "a\n") ++ on_errors (codes "b\n")) plain) ∷ []) ∷
    case (fn F.Write (file Errout ∷ []))
    (Gave (file Errout) (with_done (on_errors (codes "\n")) plain) ∷ []) ∷
    case (fn F.Write (str (codes "a") ∷ list 0 ∷ [])) (stops 109 (list 0)) ∷
    case (fn F.Write (file Input ∷ list 0 ∷ [])) (stops 213 (file Input)) ∷
    case (fn F.Writes (str (codes "a") ∷ file Errout ∷ str (codes "b") ∷ []))
    (Gave (str (codes "b")) (with_done (on_output (codes "a") ++ on_errors (codes "b")) plain) ∷ []) ∷
    case (fn F.Writes []) (gives null) ∷
    case (fn F.Stop (str (codes "x") ∷ file Output ∷ int 1 ∷ []))
    (Ended 1 (with_done (on_errors (codes "x\n") ++ on_output (codes "1\n")) plain) ∷ []) ∷
    case (fn F.Stop (list 0 ∷ [])) (stops 109 (list 0)) ∷
    -- exit
    case (fn F.Exit []) (Ended 0 plain ∷ []) ∷
    case (fn F.Exit (below 0 ∷ [])) (Ended 255 plain ∷ []) ∷
    case (fn F.Exit (str (codes "256") ∷ [])) (Ended 0 plain ∷ []) ∷
    case (fn F.Exit (str (codes "a") ∷ [])) (stops 101 (str (codes "a"))) ∷
    -- read
    case (fn F.Read [])
    (Gave (str (codes "one")) (costs 3 0 (with_input (codes "\nlast") (ALine ∷ []) plain)) ∷ []) ∷
    case (fn F.Read (file Output ∷ [])) (stops 212 (file Output)) ∷
    case (fn F.Read (str (codes "a") ∷ [])) (stops 105 (str (codes "a"))) ∷
    case_from at_end (fn F.Read []) (Failed (with_input [] (ALine ∷ []) plain) ∷ []) ∷
    -- reads
    case (fn F.Reads (null ∷ int 5 ∷ []))
    (Gave (str (codes "one\n\n")) (costs 5 0 (with_input (codes "last") (SomeBytes 5 ∷ []) plain)) ∷ []) ∷
    case (fn F.Reads (file Input ∷ int 99 ∷ []))
    (Gave (str (codes "one\n\nlast")) (costs 9 0 (with_input [] (SomeBytes 99 ∷ []) plain)) ∷ []) ∷
    case (fn F.Reads (file Output ∷ int 0 ∷ [])) (stops 205 (int 0)) ∷
    case (fn F.Reads (file Output ∷ [])) (stops 212 (file Output)) ∷
    case (fn F.Reads (null ∷ below 0 ∷ [])) (stops 205 (below 0)) ∷
    case_from at_end (fn F.Reads []) (Failed (with_input [] (SomeBytes 1 ∷ []) plain) ∷ []) ∷
    -- the lines of the input, one after the other
    case (op O.Elements (file Input ∷ []))
    (Suspended (str (codes "one")) (costs 3 0 (with_input (codes "\nlast") (ALine ∷ []) plain))
    ∷ Suspended (str []) (costs 3 0 (with_input (codes "last") (ALine ∷ ALine ∷ []) plain))
    ∷ Suspended (str (codes "last")) (costs 7 0 (with_input [] (ALine ∷ ALine ∷ ALine ∷ []) plain))
    ∷ Failed (costs 7 0 (with_input [] (ALine ∷ ALine ∷ ALine ∷ ALine ∷ []) plain)) ∷ []) ∷ []
