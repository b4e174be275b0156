-- The names of a program that has one record and no procedure.
use Rattle.std.specs.Prelude.{pos, [], ◌∷◌, codes}
use Rattle.icn_value.specs.Store.{Names}

-- the record `p` of one field, and no procedure
abbrev pub one_record : Names
one_record = record { procedures = []; records = codes "p" ∷ []; arguments = pos 1 ∷ []; hidden = [] }
