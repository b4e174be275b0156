-- A unit whose `main` is `write("hi")`.
use Rattle.std.specs.Prelude.{false, List, [], ◌∷◌, codes}
use Rattle.icn_unit.specs.declared.unit.NameKind.TheVariants.{Undeclared}
use Rattle.icn_unit.specs.declared.unit.UnitInstr.{UnitInstr}
use Rattle.icn_unit.specs.declared.unit.UnitInstr.TheVariants.{Invoke, Lab, Mark, Pfail, Str, Unmark, Var}
use Rattle.icn_unit.specs.declared.unit.UnitName.{UnitName}
use Rattle.icn_unit.specs.PlainUnits.{PlainProc}

-- the names of the procedure
abbrev pub names : List UnitName
names = record { kind = Undeclared; name = codes "write" } ∷ []

-- its instructions
abbrev pub instrs : List UnitInstr
instrs = Mark 1 ∷ Var 0 ∷ Str (codes "hi") ∷ Invoke 1 ∷ Unmark ∷ Lab 1 ∷ Pfail ∷ []

-- the procedure
abbrev pub main : PlainProc
main = record { name = codes "main"; collects = false; names = names; instrs = instrs }
