-- Files that are opened, read, written and closed. File 0 is read ("one", an empty line, and "last" without a
-- newline), file 1 is written anew and holds "x", file 2 is added to and holds "y", file 3 is closed; the store
-- has a file `t`.
use Rattle.std.specs.Prelude.{ℕ, List, [], ◌∷◌, codes, map}
use Rattle.icn_text.specs.declared.op.Op.TheVariants as O
use Rattle.icn_text.specs.declared.func.Func.TheVariants as F
use Rattle.icn_value.specs.declared.mode.FileMode.TheVariants.{ToRead, ToWrite, ToAdd}
use Rattle.icn_value.specs.Values.{Std, File, Output, Opened, Item, Val}
use Rattle.icn_value.specs.Store.{Setting, FileReading, FileWriting, OutputByte, having_heap, with_events, with_file}
use Rattle.icn_value.specs.Changes.{added_to, having_file, new_file, read_on, shut}
use Rattle.cases_rows.specs.Cases.{RowCase, case, case_from, plain, op, fn, int, str, chars, null, list, gives, stops, Gave, Suspended, Failed, Ended, costs}

-- a file, as an item
abbrev file : File → Item
file name = Val (Std name)

-- the opened file of this number
abbrev opened : ℕ → Item
opened number = file (Opened number)

-- these were done outside, after which the file of a name holds these bytes
abbrev written : List ℕ → List ℕ → Setting → Setting
written name bytes setting = record setting {
  outside = record (with_events (FileWriting name bytes ∷ []) setting.outside) {
    files = with_file name bytes setting.outside.files;
  };
}

-- a file of this name was looked for
abbrev looked : List ℕ → Setting → Setting
looked name setting = record setting { outside = with_events (FileReading name ∷ []) setting.outside }

-- a text is put on the output
abbrev on_output : List ℕ → Setting → Setting
on_output text setting = record setting { outside = with_events (map OutputByte text) setting.outside }

-- openings, readings, writings and closings
abbrev pub opened_files : List RowCase
opened_files =
    -- open: a new file, which costs a cell; a mode that is a cset costs its text; `w` looks for nothing
    case (fn F.Open (str (codes "t") ∷ []))
    (Gave (opened 4) (having_heap (having_file (new_file (codes "t") ToRead (codes "old\n")))
    (costs 0 1 (looked (codes "t") plain))) ∷ []) ∷
    case (fn F.Open (str (codes "t") ∷ chars (codes "r") ∷ []))
    (Gave (opened 4) (having_heap (having_file (new_file (codes "t") ToRead (codes "old\n")))
    (costs 1 1 (looked (codes "t") plain))) ∷ []) ∷
    case (fn F.Open (int 12 ∷ str (codes "w") ∷ []))
    (Gave (opened 4) (having_heap (having_file (new_file (codes "12") ToWrite [])) (costs 2 1 plain)) ∷ []) ∷
    case (fn F.Open (str (codes "t") ∷ str (codes "w") ∷ []))
    (Gave (opened 4) (having_heap (having_file (new_file (codes "t") ToWrite [])) (costs 0 1 plain)) ∷ []) ∷
    case (fn F.Open (str (codes "t") ∷ str (codes "a") ∷ []))
    (Gave (opened 4) (having_heap (having_file (new_file (codes "t") ToAdd (codes "old\n")))
    (costs 0 1 (looked (codes "t") plain))) ∷ []) ∷
    case (fn F.Open (str (codes "u") ∷ str (codes "a") ∷ []))
    (Gave (opened 4)
    (having_heap (having_file (new_file (codes "u") ToAdd [])) (costs 0 1 (looked (codes "u") plain)))
    ∷ []) ∷
    case (fn F.Open (str (codes "u") ∷ [])) (Failed (looked (codes "u") plain) ∷ []) ∷
    case (fn F.Open (str (255 ∷ []) ∷ [])) (Failed plain ∷ []) ∷
    case (fn F.Open (null ∷ str (codes "x") ∷ [])) (stops 103 null) ∷
    case (fn F.Open (str (codes "t") ∷ list 0 ∷ [])) (stops 103 (list 0)) ∷
    case (fn F.Open (str (codes "t") ∷ str (codes "rw") ∷ [])) (stops 209 (str (codes "rw"))) ∷
    case (fn F.Open (str (codes "t") ∷ int 1 ∷ [])) (stops 209 (int 1)) ∷
    -- close: what is open to be written is written; what is read, is closed or is a standard file is not
    case (fn F.Close (opened 1 ∷ []))
    (Gave (opened 1) (having_heap (shut 1) (written (codes "out") (codes "x") plain)) ∷ []) ∷
    case (fn F.Close (opened 2 ∷ []))
    (Gave (opened 2) (having_heap (shut 2) (written (codes "log") (codes "y") plain)) ∷ []) ∷
    case (fn F.Close (opened 0 ∷ [])) (Gave (opened 0) (having_heap (shut 0) plain) ∷ []) ∷
    case (fn F.Close (opened 3 ∷ [])) (gives (opened 3)) ∷
    case (fn F.Close (file Output ∷ [])) (gives (file Output)) ∷
    case (fn F.Close []) (stops 105 null) ∷
    case (fn F.Close (str (codes "t") ∷ [])) (stops 105 (str (codes "t"))) ∷
    -- read, reads and `!f`
    case (fn F.Read (opened 0 ∷ []))
    (Gave (str (codes "one")) (costs 3 0 (having_heap (read_on 0 4) plain)) ∷ []) ∷
    case (fn F.Read (opened 1 ∷ [])) (stops 212 (opened 1)) ∷
    case (fn F.Read (opened 3 ∷ [])) (stops 212 (opened 3)) ∷
    case (fn F.Reads (opened 0 ∷ int 99 ∷ []))
    (Gave (str (codes "one\n\nlast")) (costs 9 0 (having_heap (read_on 0 9) plain)) ∷ []) ∷
    case (fn F.Reads (opened 2 ∷ int 0 ∷ [])) (stops 205 (int 0)) ∷
    case (fn F.Reads (opened 2 ∷ [])) (stops 212 (opened 2)) ∷
    case_from (having_heap (read_on 0 9) plain) (fn F.Read (opened 0 ∷ []))
    (Failed (having_heap (read_on 0 9) plain) ∷ []) ∷
    case (op O.Elements (opened 0 ∷ []))
    (Suspended (str (codes "one")) (costs 3 0 (having_heap (read_on 0 4) plain))
    ∷ Suspended (str []) (costs 3 0 (having_heap (read_on 0 5) plain))
    ∷ Suspended (str (codes "last")) (costs 7 0 (having_heap (read_on 0 9) plain))
    ∷ Failed (costs 7 0 (having_heap (read_on 0 9) plain)) ∷ []) ∷
    case (op O.Elements (opened 2 ∷ [])) (stops 212 (opened 2)) ∷
    -- write, writes and stop: a file that is read or closed is 213, before anything is put
    case (fn F.Write (opened 1 ∷ str (codes "a") ∷ int 1 ∷ []))
    (Gave (int 1) (having_heap (added_to 1 (codes "a1\n")) plain) ∷ []) ∷
    case (fn F.Writes (str (codes "a") ∷ opened 2 ∷ str (codes "b") ∷ []))
    (Gave (str (codes "b")) (having_heap (added_to 2 (codes "b")) (on_output (codes "a") plain)) ∷ []) ∷
    case (fn F.Write (str (codes "a") ∷ opened 2 ∷ []))
    (Gave (opened 2) (having_heap (added_to 2 (codes "\n")) (on_output (codes "a\n") plain)) ∷ []) ∷
    case (fn F.Write (str (codes "a") ∷ opened 0 ∷ [])) (stops 213 (opened 0)) ∷
    case (fn F.Write (opened 3 ∷ list 0 ∷ [])) (stops 213 (opened 3)) ∷
    case (fn F.Stop (opened 1 ∷ str (codes "a") ∷ []))
    (Ended 1 (having_heap (added_to 1 (codes "a\n")) plain) ∷ []) ∷
    -- its type, image and size; it is the same as itself alone
    case (fn F.TypeOf (opened 1 ∷ [])) (gives (str (codes "file"))) ∷
    case (fn F.Image (opened 1 ∷ [])) (Gave (str (codes "file(out)")) (costs 9 0 plain) ∷ []) ∷
    case (op O.Size (opened 1 ∷ [])) (stops 112 (opened 1)) ∷
    case (op O.Random (opened 1 ∷ [])) (stops 113 (opened 1)) ∷
    case (op O.Equivalent (opened 1 ∷ opened 1 ∷ [])) (gives (opened 1)) ∷
    case (op O.Equivalent (opened 1 ∷ opened 2 ∷ [])) (Failed plain ∷ []) ∷ []
