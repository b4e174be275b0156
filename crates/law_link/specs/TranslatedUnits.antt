-- The units of several files.
use Rattle.std.specs.Prelude.{ℕ, List, [], ◌∷◌}
use Rattle.icn_tree.specs.Trees.{Declaration}
use Rattle.icn_unit.specs.PlainUnits.{UnitRead}
use Rattle.icn_translate.specs.FileUnits.{translated_unit}

-- the unit of each file, under the name at the same place
abbrev pub translated_units : List (List ℕ) → List (List Declaration) → List UnitRead
translated_units [] files = []
translated_units (name ∷ names) [] = []
translated_units (name ∷ names) (file ∷ files) = translated_unit name file ∷ translated_units names files
