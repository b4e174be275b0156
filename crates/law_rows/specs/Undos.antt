-- Words for what is assigned and taken back.
use Rattle.std.specs.Prelude.{◌+◌, ◌-◌, ℕ, Bool, true, false, List, slice_range}
use Rattle.icn_value.specs.Values.{Value, Root, Global, Static, Local, Element, Field, Key, Keyword, Whole}
use Rattle.icn_value.specs.Sameness.{same}
use Rattle.icn_value.specs.Store.{Table}
use Rattle.icn_structs.specs.PairLists.{with_value_of}
use Rattle.icn_defs.specs.Rows.{Row}
use Rattle.icn_defs.specs.ReadAndAssign.{assigns, undoes}

-- a variable that has a place of its own: a global, a static, a local, an element or a field
abbrev pub is_kept : Root → Bool
is_kept (Global place) = true
is_kept (Static place) = true
is_kept (Local place) = true
is_kept (Element list number) = true
is_kept (Field structure place) = true
is_kept (Key table key) = false
is_kept (Keyword word) = false

-- a value is assigned, the old one is assigned back, and the row goes on
abbrev pub assigned_and_undone : Root → Value → Value → Row → Row
assigned_and_undone root value old next = assigns (Whole root) value (λ now. undoes now old next)

-- a table with a value at a key
abbrev pub with_value : Table → Value → Value → Table
with_value table key value = record table { pairs = with_value_of same table.pairs key value }

-- the bytes of a part, by the place of the first, from 1 on, and by its length
abbrev pub part_at : List ℕ → ℕ → ℕ → List ℕ
part_at text place size = slice_range text (place - 1) (place - 1 + size)
