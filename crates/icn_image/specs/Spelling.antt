-- The one spelling of each code.
use Rattle.std.specs.Prelude.{ℕ, ℤ, Bool, true, false, List, [], ◌∷◌, ◌++◌, length, map, Option, Some}
use Rattle.std.specs.List.{flat_map}
use Rattle.std.specs.Int.{Width, w32, w64, to_le_bytes, cast_unsigned}
use Rattle.icn_text.specs.Funcs.{func_number}
use Rattle.icn_value.specs.declared.cset.Cset.{Cset}
use Rattle.icn_code.specs.declared.code.Global.{Global}
use Rattle.icn_code.specs.declared.code.Start.{Start}
use Rattle.icn_code.specs.declared.code.Start.TheVariants.{Null, Procedure, Record, Function}
use Rattle.icn_code.specs.declared.instr.Instr.{Instr}
use Rattle.icn_code.specs.Codes.{RecordType, Proc, Tables}
use Rattle.icn_image.specs.declared.head.ImageHead.{ImageHead}
use Rattle.icn_image.specs.declared.operand.Operand.{Operand}
use Rattle.icn_image.specs.declared.operand.Operand.TheVariants.{Number, Label}
use Rattle.icn_image.specs.Fronts.{FrontTables, head_of}
use Rattle.icn_image.specs.Operands.{instr_number, operand_value, operand_of}
use Rattle.icn_image.specs.declared.version.Version.{Version}
use Rattle.icn_image.specs.declared.version.Version.TheVariants.{Second}
use Rattle.icn_image.specs.Versions.{width_of, image_head}

-- how many entries there are, and the entries
abbrev pub table : {A : Type 0} → Width → (A → List ℕ) → List A → List ℕ
table width spelling entries = to_le_bytes width (length entries) ++ flat_map spelling entries

-- its length and its bytes
abbrev pub string : Width → List ℕ → List ℕ
string width bytes = to_le_bytes width (length bytes) ++ bytes

-- the words of a cset, its bits from the least on
abbrev pub cset : Cset → List ℕ
cset set = flat_map (to_le_bytes w64) set.words

-- 64 bits, in two's complement
abbrev pub integer : ℤ → List ℕ
integer value = to_le_bytes w64 (cast_unsigned w64 value)

-- its name, and a table of its fields
abbrev pub record_type : Width → RecordType → List ℕ
record_type width kind = to_le_bytes width kind.name ++ table width (to_le_bytes width) kind.fields

-- a kind and a number
abbrev pub kind_and_number : Width → Start → List ℕ
kind_and_number width Null = 0 ∷ to_le_bytes width 0
kind_and_number width (Procedure place) = 1 ∷ to_le_bytes width place
kind_and_number width (Record place) = 2 ∷ to_le_bytes width place
kind_and_number width (Function func) = 3 ∷ to_le_bytes width (func_number func)

-- its name, and what it begins with
abbrev pub global : Width → Global → List ℕ
global width variable = to_le_bytes width variable.name ++ kind_and_number width variable.start

-- the byte of a flag
abbrev pub flag : Bool → ℕ
flag false = 0
flag true = 1

-- what an image says of a procedure in front of all instructions; how many these are has four bytes in each
-- version
abbrev pub head : Width → ImageHead → List ℕ
head width proc =
    to_le_bytes width proc.name ++ (to_le_bytes width proc.parameters ++ (flag proc.collects
    ∷ (to_le_bytes width proc.locals ++ (to_le_bytes width proc.statics ++ to_le_bytes w32 proc.instrs))))

-- a number as wide as the version has them, a label in four bytes, or nothing
abbrev pub operand : Width → Option Operand → ℕ → List ℕ
operand width (Some Number) value = to_le_bytes width value
operand width (Some Label) value = to_le_bytes w32 value
operand width _ value = []

-- its number, and the operand behind it
abbrev pub instruction : Width → Instr → List ℕ
instruction width instr =
    instr_number instr ∷ operand width (operand_of (instr_number instr)) (operand_value instr)

-- the instructions of a procedure
abbrev pub body : Width → Proc → List ℕ
body width proc = flat_map (instruction width) proc.instrs

-- the tables in front of the procedures
abbrev pub front : Width → FrontTables → List ℕ
front width tables =
    table width (string width) tables.strings ++ (table width cset tables.csets
    ++ (table width integer tables.integers ++ (table width (to_le_bytes width) tables.fields
    ++ (table width (record_type width) tables.records ++ table width (global width) tables.globals))))

-- the heads of all procedures, and behind them the instructions
abbrev pub procs : Width → List Proc → List ℕ
procs width all = table width (head width) (map head_of all) ++ flat_map (body width) all

-- the tables of a code that stand in front of its procedures
abbrev pub front_of : Tables → FrontTables
front_of tables = record {
  strings = tables.strings;
  csets = tables.csets;
  integers = tables.integers;
  fields = tables.fields;
  records = tables.records;
  globals = tables.globals;
}

-- the image of a code in this version
unfoldable pub image_in : Version → Tables → List ℕ
image_in version tables =
    image_head version
    ++ (front (width_of version) (front_of tables) ++ procs (width_of version) tables.procs)

-- the image of a code as it is written: in the second version
abbrev pub image_of : Tables → List ℕ
image_of tables = image_in Second tables
