-- Where the statics of each procedure begin.
use Rattle.std.specs.Prelude.{ℕ, ◌+◌, List, [], ◌∷◌}
use Rattle.icn_code.specs.Codes.{Proc, Tables}

-- the number of each procedure's first static, behind procedures that have so many: statics are numbered procedure by procedure
abbrev pub first_statics_from : ℕ → List Proc → List ℕ
first_statics_from before [] = []
first_statics_from before (proc ∷ procs) = before ∷ first_statics_from (before + proc.statics) procs

-- the number of each procedure's first static
abbrev pub first_statics : Tables → List ℕ
first_statics tables = first_statics_from 0 tables.procs
