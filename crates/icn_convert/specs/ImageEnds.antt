-- The end of a structure's image.
use Rattle.std.specs.Prelude.{ℕ, List, ◌++◌, codes, decimal}

-- its number and its size
abbrev pub number_and_size : ℕ → ℕ → List ℕ
number_and_size number size = codes "_" ++ (decimal number ++ (codes "(" ++ (decimal size ++ codes ")")))
