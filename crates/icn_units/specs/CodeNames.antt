-- What the code of a procedure takes from its names, and what a record has.
use Rattle.std.specs.Prelude.{ℕ, Bool, true, nat_lt, length}
use Rattle.std.specs.List.{list_all}
use Rattle.icn_unit.specs.declared.unit.UnitInstr.{UnitInstr}
use Rattle.icn_unit.specs.declared.unit.UnitInstr.TheVariants.{Var}
use Rattle.icn_unit.specs.PlainUnits.{PlainProc, PlainDecl, Global, Procedure, Link, Invocable, Record}
use Rattle.icn_unit.specs.UnitRules.{names_differ}

-- where an instruction pushes a variable, it is that of one of so many names
abbrev pub variable_is_named : ℕ → UnitInstr → Bool
variable_is_named names (Var k) = nat_lt k names
variable_is_named names _ = true

-- each variable of the code is one of the procedure's names
abbrev pub variables_are_named : PlainProc → Bool
variables_are_named proc = list_all (variable_is_named (length proc.names)) proc.instrs

-- a record has no field twice
abbrev pub fields_differ : PlainDecl → Bool
fields_differ (Global name) = true
fields_differ (Procedure name) = true
fields_differ (Link text) = true
fields_differ (Invocable text) = true
fields_differ (Record name fields) = names_differ fields
