-- What joining asks of units. It is less than the rules of units: the numbers of labels may have any size, sets any members, and
-- linked texts are not looked at.
use Rattle.std.specs.Prelude.{ℕ, Bool, true, ◌&&◌, ◌||◌, not, nat_lt, length}
use Rattle.std.specs.List.{list_all}
use Rattle.icn_unit.specs.declared.unit.UnitInstr.{UnitInstr}
use Rattle.icn_unit.specs.declared.unit.UnitInstr.TheVariants.{Int, Str, Var, Llist, Field, Invoke}
use Rattle.icn_unit.specs.PlainUnits.{PlainProc, PlainDecl, Global, Procedure, Link, Invocable, Record, UnitRead, params_in, entry_names}
use Rattle.icn_unit.specs.UnitOperands.{is_name}
use Rattle.icn_unit.specs.UnitRules.{is_byte_text, is_integer, is_number}

-- the operand of an instruction, in a procedure of so many names
abbrev pub is_joinable_instr : ℕ → UnitInstr → Bool
is_joinable_instr names (Int n) = is_integer n
is_joinable_instr names (Str bytes) = is_byte_text bytes
is_joinable_instr names (Var k) = nat_lt k names
is_joinable_instr names (Llist n) = is_number n
is_joinable_instr names (Field name) = is_name name
is_joinable_instr names (Invoke n) = is_number n
is_joinable_instr names _ = true

-- its names are such, and the last parameter collects only where there is one
abbrev pub is_joinable_proc : PlainProc → Bool
is_joinable_proc proc =
    is_name proc.name && (not proc.collects || nat_lt 0 (params_in proc.names))
    && list_all is_name (entry_names proc.names)
    && list_all (λ instr. is_joinable_instr (length proc.names) instr) proc.instrs

-- each name of the declaration is one that linked code can have
abbrev pub is_joinable_decl : PlainDecl → Bool
is_joinable_decl (Global name) = is_name name
is_joinable_decl (Procedure name) = is_name name
is_joinable_decl (Link text) = true
is_joinable_decl (Invocable text) = true
is_joinable_decl (Record name fields) = is_name name && list_all is_name fields

-- the unit has all that joining asks of it
abbrev pub is_joinable : UnitRead → Bool
is_joinable unit = list_all is_joinable_proc unit.procs && list_all is_joinable_decl unit.decls
