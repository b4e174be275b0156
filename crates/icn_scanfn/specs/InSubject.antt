-- What functions of scanning come to in the subject, from the position on.
use Rattle.std.specs.Prelude.{◌+◌, ℕ, pos, List, length, Option, None, Some, if◌then◌else◌}
use Rattle.icn_value.specs.Values.{Integer, Text, Val}
use Rattle.icn_defs.specs.Rows.{Row, Among, Found, UndoPosition, suspends}
use Rattle.icn_defs.specs.Scanning.{stands}
use Rattle.icn_heap.specs.Extents.{text_in}
use Rattle.icn_heap.specs.Heaps.{extent_of}
use Rattle.icn_vars.specs.declared.world.World.{World}

-- the bytes of the subject
abbrev pub subject_of : World → List ℕ
subject_of w = text_in (extent_of w.heap) w.pair.subject

-- the place behind a text that stands behind a place, if it does
abbrev pub place_behind : List ℕ → List ℕ → ℕ → Option ℕ
place_behind wanted text place =
    if stands wanted text place (length text + 1) then Some (place + length wanted) else None

-- a place before a byte of the cset is given, and the search goes on behind it
abbrev pub gives_member : List ℕ → List ℕ → ℕ → Row
gives_member wanted text place =
    suspends (Val (Integer (pos place))) (Among wanted text place (length text + 1))

-- a place at which the text stands is given, and the search goes on behind it
abbrev pub gives_found : List ℕ → List ℕ → ℕ → Row
gives_found wanted text place =
    suspends (Val (Integer (pos place))) (Found wanted text place (length text + 1))

-- the bytes between two places are given, and the move is taken back once it is resumed
abbrev pub gives_moved : List ℕ → ℕ → Row
gives_moved text old = suspends (Val (Text text)) (UndoPosition old)
