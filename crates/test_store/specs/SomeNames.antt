-- The names of a program with a procedure and two records.
use Rattle.std.specs.Prelude.{pos, [], ◌∷◌, codes}
use Rattle.icn_value.specs.Store.{Names}

-- a procedure `main`, and the records `p` and `q`
abbrev pub some_names : Names
some_names = record {
  procedures = codes "main" ∷ [];
  records = codes "p" ∷ codes "q" ∷ [];
  arguments = pos 0 ∷ pos 1 ∷ pos 2 ∷ [];
  hidden = [];
}
