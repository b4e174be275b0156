-- The one spelling of each save.
use Rattle.std.specs.Prelude.{ℕ, Bool, true, false, List, [], ◌∷◌, ◌++◌, length}
use Rattle.std.specs.List.{flat_map}
use Rattle.std.specs.Int.{Width, w32, w64, to_le_bytes}
use Rattle.icn_save.specs.FileCalls.{FileCall, FoundFile, NoSuchFile, WroteFile}
use Rattle.icn_value.specs.Limited.{Bounds}
use Rattle.icn_save.specs.Saves.{SavedRun}

-- `Icn9sav` and 1
abbrev pub save_head : List ℕ
save_head = 73 ∷ 99 ∷ 110 ∷ 57 ∷ 115 ∷ 97 ∷ 118 ∷ 1 ∷ []

-- its length, so wide, and its bytes
abbrev pub string : Width → List ℕ → List ℕ
string width bytes = to_le_bytes width (length bytes) ++ bytes

-- how many there are, and each
abbrev pub table : {A : Type 0} → (A → List ℕ) → List A → List ℕ
table spelling entries = to_le_bytes w32 (length entries) ++ flat_map spelling entries

-- turns, string bytes, cells and levels
abbrev pub limit_numbers : Bounds → List ℕ
limit_numbers bounds = to_le_bytes w64 bounds.turns ++ (to_le_bytes w64 bounds.strings
    ++ (to_le_bytes w64 bounds.cells ++ to_le_bytes w64 bounds.levels))

-- the byte of a flag
abbrev pub flag : Bool → ℕ
flag false = 0
flag true = 1

-- its kind, its name, and its bytes, where it has some
abbrev pub call : FileCall → List ℕ
call (FoundFile name bytes) = 0 ∷ (string w32 name ++ string w32 bytes)
call (NoSuchFile name) = 1 ∷ string w32 name
call (WroteFile name bytes) = 2 ∷ (string w32 name ++ string w32 bytes)

-- what a run took and put, behind its words and its image
abbrev pub outside : SavedRun → List ℕ
outside saved = string w64 saved.input ++ (flag saved.ended
    ∷ (to_le_bytes w64 saved.output ++ (to_le_bytes w64 saved.errors ++ table call saved.calls)))

-- the bytes of a save
unfoldable pub save_bytes : SavedRun → List ℕ
save_bytes saved = save_head ++ (limit_numbers saved.bounds
    ++ (table (string w32) saved.words ++ (string w32 saved.image ++ outside saved)))
