-- The base name of the first file that is named.
use Rattle.std.specs.Prelude.{ℕ, List, [], ◌∷◌}
use Rattle.icont_units.specs.Files.{CommandFile}

-- the base name of the first file
abbrev pub first_named : List CommandFile → List ℕ
first_named [] = []
first_named (file ∷ files) = file.base
