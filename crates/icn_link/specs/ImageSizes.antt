-- How many bytes the parts of an image have.
use Rattle.std.specs.Prelude.{ℕ, ◌+◌, ◌*◌, List, length}
use Rattle.std.specs.List.{sum_by}
use Rattle.icn_code.specs.declared.instr.Instr.{Instr}
use Rattle.icn_code.specs.declared.instr.Instr.TheVariants.{Int, Str, Cset, Local, Static, Global, Keywd, Op, Llist, Field, Invoke, Mark, Chfail, Goto, Loop, Init, Create, Pnull, Pop, Dup, Appl, Mark0, Unmark, Eret, Esusp, Limit, Lsusp, Efail, Bscan, Escan, Ccase, Psusp, Pret, Pfail, Coact, Coret, Cofail}
use Rattle.icn_code.specs.Codes.{Proc, RecordType}

-- an instruction: its number, and an operand or a label of four bytes
abbrev pub instr_size : Instr → ℕ
instr_size (Int place) = 5
instr_size (Str place) = 5
instr_size (Cset place) = 5
instr_size (Local place) = 5
instr_size (Static place) = 5
instr_size (Global place) = 5
instr_size (Keywd keyword) = 5
instr_size (Op op) = 5
instr_size (Llist count) = 5
instr_size (Field place) = 5
instr_size (Invoke count) = 5
instr_size (Mark label) = 5
instr_size (Chfail label) = 5
instr_size (Goto label) = 5
instr_size (Loop label) = 5
instr_size (Init label) = 5
instr_size (Create label) = 5
instr_size Pnull = 1
instr_size Pop = 1
instr_size Dup = 1
instr_size Appl = 1
instr_size Mark0 = 1
instr_size Unmark = 1
instr_size Eret = 1
instr_size Esusp = 1
instr_size Limit = 1
instr_size Lsusp = 1
instr_size Efail = 1
instr_size Bscan = 1
instr_size Escan = 1
instr_size Ccase = 1
instr_size Psusp = 1
instr_size Pret = 1
instr_size Pfail = 1
instr_size Coact = 1
instr_size Coret = 1
instr_size Cofail = 1

-- how many bytes the instructions of a procedure have in an image
abbrev pub body_size : List Instr → ℕ
body_size instrs = sum_by instr_size instrs

-- how many bytes the instructions of all procedures have in an image
abbrev pub bodies_size : List Proc → ℕ
bodies_size procs = sum_by (λ proc. body_size proc.instrs) procs

-- a string behind its length; a record with its name and the count of its fields
abbrev pub strings_size : List (List ℕ) → ℕ
strings_size strings = sum_by (λ string. length string + 4) strings

-- how many bytes the record types have in an image
abbrev pub records_size : List RecordType → ℕ
records_size records = sum_by (λ kind. length kind.fields * 4 + 8) records
