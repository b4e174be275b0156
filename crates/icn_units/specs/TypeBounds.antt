-- What the types of instructions and declarations say of their numbers and their bytes.
use Rattle.std.specs.Prelude.{Bool, true}
use Rattle.std.specs.List.{list_all}
use Rattle.icn_unit.specs.declared.unit.UnitInstr.{UnitInstr}
use Rattle.icn_unit.specs.declared.unit.UnitInstr.TheVariants as I
use Rattle.icn_unit.specs.PlainUnits.{PlainProc, PlainDecl, Global, Procedure, Link, Invocable, Record}
use Rattle.icn_unit.specs.UnitRules.{is_byte, is_number}

-- the number of an instruction has 32 bits, and its text is of bytes
abbrev pub number_fits : UnitInstr → Bool
number_fits (I.Str bytes) = list_all is_byte bytes
number_fits (I.Var k) = is_number k
number_fits (I.Llist n) = is_number n
number_fits (I.Invoke n) = is_number n
number_fits (I.Mark label) = is_number label
number_fits (I.Chfail label) = is_number label
number_fits (I.Goto label) = is_number label
number_fits (I.Loop label) = is_number label
number_fits (I.Init label) = is_number label
number_fits (I.Create label) = is_number label
number_fits (I.Lab label) = is_number label
number_fits I.Pnull = true
number_fits (I.Int n) = true
number_fits (I.Cset bytes) = true
number_fits (I.Keywd keyword) = true
number_fits I.Pop = true
number_fits I.Dup = true
number_fits (I.Op op) = true
number_fits (I.Field name) = true
number_fits I.Appl = true
number_fits I.Mark0 = true
number_fits I.Unmark = true
number_fits I.Eret = true
number_fits I.Esusp = true
number_fits I.Limit = true
number_fits I.Lsusp = true
number_fits I.Efail = true
number_fits I.Bscan = true
number_fits I.Escan = true
number_fits I.Ccase = true
number_fits I.Psusp = true
number_fits I.Pret = true
number_fits I.Pfail = true
number_fits I.Coact = true
number_fits I.Coret = true
number_fits I.Cofail = true

-- the numbers of all instructions fit their types
abbrev pub numbers_fit : PlainProc → Bool
numbers_fit proc = list_all number_fits proc.instrs

-- the text of what is linked or may be called is of bytes
abbrev pub bytes_fit : PlainDecl → Bool
bytes_fit (Global name) = true
bytes_fit (Procedure name) = true
bytes_fit (Link text) = list_all is_byte text
bytes_fit (Invocable text) = list_all is_byte text
bytes_fit (Record name fields) = true
