-- Limits: an application that comes just up to its limit, and one that would pass it. What was charged before the
-- charge that is refused stays charged.
use Rattle.std.specs.Prelude.{◌+◌, ℕ, pos, List, [], ◌∷◌, ◌++◌, codes, None}
use Rattle.icn_text.specs.declared.op.Op.TheVariants as O
use Rattle.icn_text.specs.declared.func.Func.TheVariants as F
use Rattle.icn_value.specs.Values.{Null, Integer, Text, ASet, ATable, Key, Whole, Val, Var}
use Rattle.icn_value.specs.Store.{Setting, ALine, AReading, having_heap}
use Rattle.icn_defs.specs.Rows.{Row}
use Rattle.cases_rows.specs.Cases.{RowCase, case_from, plain, op, fn, int, str, null, list, local_part, locals_holding, Gave, Stopped, costs}

-- so many string bytes and cells may still be charged
abbrev with_room : ℕ → ℕ → Setting
with_room bytes cells =
    having_heap (λ heap.
    record heap { bounds = record { turns = 100; strings = bytes; cells = 30 + cells; levels = 10 } }) plain

-- nothing was charged when the limit of strings, or of cells, was met
abbrev over_strings : ℕ → Row → RowCase
over_strings bytes row = case_from (with_room bytes 9) row (Stopped 306 None (with_room bytes 9) ∷ [])

-- nothing was charged when the limit of cells was met
abbrev over_cells : ℕ → Row → RowCase
over_cells cells row = case_from (with_room 9 cells) row (Stopped 307 None (with_room 9 cells) ∷ [])

-- applications at a limit and beyond it
abbrev pub limits : List RowCase
limits =
    -- string bytes
    over_strings 5 (op O.Concatenate (str (codes "abc") ∷ str (codes "def") ∷ [])) ∷
    case_from (with_room 6 9) (op O.Concatenate (str (codes "abc") ∷ str (codes "def") ∷ []))
    (Gave (str (codes "abcdef")) (costs 6 0 (with_room 6 9)) ∷ []) ∷
    case_from (with_room 5 9) (op O.Concatenate (int 12 ∷ int 34 ∷ []))
    (Stopped 306 None (costs 4 0 (with_room 5 9)) ∷ []) ∷
    case_from (with_room 3 9) (op O.Concatenate (int 12 ∷ int 34 ∷ []))
    (Stopped 306 None (costs 2 0 (with_room 3 9)) ∷ []) ∷
    over_strings 1 (op O.LexicallyEqual (int 12 ∷ str (codes "x") ∷ [])) ∷
    over_strings 1 (fn F.String (int 12 ∷ [])) ∷
    over_strings 4 (fn F.Image (null ∷ [])) ∷
    over_strings 2 (fn F.Repl (str (codes "abc") ∷ int 1 ∷ [])) ∷
    over_strings 2 (fn F.Left (str (codes "a") ∷ int 3 ∷ [])) ∷
    over_strings 2 (fn F.Find (int 123 ∷ str (codes "1") ∷ [])) ∷
    over_strings 2 (op O.Elements (int 123 ∷ [])) ∷
    case_from (with_room 5 9) (op O.Assign (local_part 0 1 1 ∷ int 12 ∷ []))
    (Stopped 306 None (costs 2 0 (with_room 5 9)) ∷ []) ∷
    -- the left side of an exchange was assigned when the right side met the limit
    case_from (with_room 6 9) (op O.Swap (local_part 0 1 1 ∷ local_part 0 3 2 ∷ []))
    (Stopped 306 None (costs 6 0 (locals_holding (Text (codes "llello") ∷ Integer (pos 7) ∷ Null
    ∷ []) (with_room 6 9))) ∷ []) ∷
    -- what was read is taken
    case_from (with_room 2 9) (fn F.Read []) (Stopped 306 None (record (with_room 2 9) {
      outside = record (with_room 2 9).outside {
        left = codes "\nlast";
        history = AReading ALine ∷ [];
      };
    }) ∷ []) ∷
    -- cells
    over_cells 2 (fn F.List (int 2 ∷ [])) ∷
    over_cells 4 (fn F.Copy (list 0 ∷ [])) ∷
    over_cells 0 (fn F.Table []) ∷
    over_cells 0 (fn F.Open (str (codes "t") ∷ str (codes "w") ∷ [])) ∷
    over_cells 3 (op O.Union (Val (ASet 0) ∷ Val (ASet 1) ∷ [])) ∷
    over_cells 0 (fn F.Put (list 1 ∷ int 1 ∷ [])) ∷
    over_cells 1 (fn F.Push (list 1 ∷ int 1 ∷ int 2 ∷ [])) ∷
    over_cells 0 (fn F.Insert (Val (ASet 0) ∷ int 9 ∷ [])) ∷
    case_from (with_room 0 0) (fn F.Insert (Val (ASet 0) ∷ int 2 ∷ []))
    (Gave (Val (ASet 0)) (with_room 0 0) ∷ []) ∷
    over_cells 0 (op O.Assign (Var (Whole (Key 0 Null)) ∷ int 5 ∷ [])) ∷
    over_cells 2 (op O.Section (list 0 ∷ int 1 ∷ int 3 ∷ [])) ∷
    -- the lists of two were made when the list of them met the limit
    case_from (with_room 9 8) (fn F.Sort (Val (ATable 0) ∷ int 1 ∷ []))
    (Stopped 307 None (costs 0 6 (having_heap (λ heap. record heap {
      lists = heap.lists
          ++ record { items = Text (codes "a") ∷ Integer (pos 2) ∷ []; number = pos 1 }
          ∷ record { items = Text (codes "b") ∷ Integer (pos 2) ∷ []; number = pos 1 }
          ∷ [];
    }) (with_room 9 8))) ∷ []) ∷ []
