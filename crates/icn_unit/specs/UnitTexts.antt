-- How a unit is spelled.
use Rattle.std.specs.Prelude.{ℕ, ◌+◌, ◌/◌, ◌%◌, nat_lt, if◌then◌else◌, Bool, true, false, List, [], ◌∷◌, ◌++◌, codes}
use Rattle.std.specs.Fmt.{decimal, signed_decimal}
use Rattle.std.specs.List.{flat_map}
use Rattle.icn_text.specs.Keywords.{keyword_name}
use Rattle.icn_text.specs.Ops.{op_number}
use Rattle.icn_unit.specs.declared.unit.NameKind.{NameKind}
use Rattle.icn_unit.specs.declared.unit.NameKind.TheVariants.{Parameter, Local, Static, Undeclared}
use Rattle.icn_unit.specs.declared.unit.UnitInstr.{UnitInstr}
use Rattle.icn_unit.specs.declared.unit.UnitInstr.TheVariants.{Int, Str, Cset, Var, Keywd, Op, Field, Llist, Invoke, Mark, Chfail, Goto, Loop, Init, Create, Lab}
use Rattle.icn_unit.specs.declared.unit.UnitName.{UnitName}
use Rattle.icn_unit.specs.InstrWords.{word_of, word_text}
use Rattle.icn_unit.specs.PlainUnits.{PlainProc, PlainDecl, Global, Procedure, Link, Invocable, Record, params_in}

-- a digit of hexadecimal, in lower case
abbrev pub hexadecimal_digit : ℕ → ℕ
hexadecimal_digit n = if nat_lt n 10 then n + 48 else n + 87

-- a byte in two hexadecimal digits
abbrev pub byte_text : ℕ → List ℕ
byte_text b = hexadecimal_digit (b / 16) ∷ hexadecimal_digit (b % 16) ∷ []

-- bytes in hexadecimal, `-` where there are none
abbrev pub bytes_text : List ℕ → List ℕ
bytes_text [] = codes "-"
bytes_text (b ∷ rest) = flat_map byte_text (b ∷ rest)

-- a blank and an operand
abbrev pub behind_blank : List ℕ → List ℕ
behind_blank text = 32 ∷ text

-- `L` and the number of a label
abbrev pub label_text : ℕ → List ℕ
label_text label = 76 ∷ decimal label

-- what stands behind an instruction's word
abbrev pub operand_text : UnitInstr → List ℕ
operand_text (Int n) = behind_blank (signed_decimal n)
operand_text (Str bytes) = behind_blank (bytes_text bytes)
operand_text (Cset set) = behind_blank (bytes_text set)
operand_text (Var n) = behind_blank (decimal n)
operand_text (Keywd keyword) = behind_blank (keyword_name keyword)
operand_text (Op op) = behind_blank (decimal (op_number op))
operand_text (Field name) = behind_blank name
operand_text (Llist n) = behind_blank (decimal n)
operand_text (Invoke n) = behind_blank (decimal n)
operand_text (Mark label) = behind_blank (label_text label)
operand_text (Chfail label) = behind_blank (label_text label)
operand_text (Goto label) = behind_blank (label_text label)
operand_text (Loop label) = behind_blank (label_text label)
operand_text (Init label) = behind_blank (label_text label)
operand_text (Create label) = behind_blank (label_text label)
operand_text (Lab label) = behind_blank (label_text label)
operand_text _ = []

-- the line of an instruction
abbrev pub instr_text : UnitInstr → List ℕ
instr_text instr = word_text (word_of instr) ++ operand_text instr ++ 10 ∷ []

-- the letter of a kind of names
abbrev pub kind_text : NameKind → List ℕ
kind_text Parameter = codes "p"
kind_text Local = codes "l"
kind_text Static = codes "s"
kind_text Undeclared = codes "u"

-- the line of a name with its kind
abbrev pub name_text : UnitName → List ℕ
name_text entry = codes "name " ++ kind_text entry.kind ++ 32 ∷ entry.name ++ 10 ∷ []

-- `1` where the last parameter collects, and else `0`
abbrev pub flag_text : Bool → List ℕ
flag_text false = codes "0"
flag_text true = codes "1"

-- the line that begins a procedure: its name, how many parameters it has, and whether the last one collects
abbrev pub head_text : PlainProc → List ℕ
head_text proc = codes "proc " ++ proc.name ++ 32 ∷ decimal (params_in proc.names) ++ 32
    ∷ flag_text proc.collects ++ 10 ∷ []

-- the lines of a procedure
abbrev pub proc_text : PlainProc → List ℕ
proc_text proc = head_text proc ++ flat_map name_text proc.names ++ codes "code" ++ 10
    ∷ flat_map instr_text proc.instrs ++ codes "end" ++ 10 ∷ []

-- the first text
abbrev pub procs_text : List PlainProc → List ℕ
procs_text procs = codes "U9.1" ++ 10 ∷ flat_map proc_text procs

-- the line of a declaration
abbrev pub decl_text : PlainDecl → List ℕ
decl_text (Global name) = codes "global " ++ name ++ 10 ∷ []
decl_text (Procedure name) = codes "proc " ++ name ++ 10 ∷ []
decl_text (Link bytes) = codes "link " ++ bytes_text bytes ++ 10 ∷ []
decl_text (Invocable bytes) = codes "invocable " ++ bytes_text bytes ++ 10 ∷ []
decl_text (Record name fields) = codes "record " ++ name ++ flat_map behind_blank fields ++ 10 ∷ []

-- the second
abbrev pub decls_text : List PlainDecl → List ℕ
decls_text decls = codes "U9.2" ++ 10 ∷ flat_map decl_text decls ++ codes "end" ++ 10 ∷ []
