-- The code that bytes spell, or the first rule that is broken, from the left.
use Rattle.std.specs.Prelude.{◌==◌, ℕ, ℤ, zero, suc, ◌+◌, Bool, true, false, ◌&&◌, List, [], ◌∷◌, length, drop, Option, Some, None, Result, Ok, Err, nat_eq, nat_le, nat_lt, slice_index_or, if◌then◌else◌}
use Rattle.std.specs.List.{list_all, starts_with}
use Rattle.std.specs.Int.{Width, w32, w64, cast_signed}
use Rattle.icn_profile.specs.Numbers.{most_fields, most_procedures, most_statics, most_variables}
use Rattle.icn_tree.specs.declared.rule.Rule.{Rule}
use Rattle.icn_tree.specs.declared.rule.Rule.TheVariants.{I1, I3, I4, I5}
use Rattle.icn_text.specs.declared.func.Func.{Func}
use Rattle.icn_value.specs.declared.cset.Cset.{Cset}
use Rattle.icn_defs.specs.Numbers.{func_of}
use Rattle.icn_code.specs.declared.code.Global.{Global}
use Rattle.icn_code.specs.declared.code.Start.{Start}
use Rattle.icn_code.specs.declared.code.Start.TheVariants.{Null, Procedure, Record, Function}
use Rattle.icn_code.specs.declared.instr.Instr.{Instr}
use Rattle.icn_code.specs.Codes.{RecordType, Proc, Tables}
use Rattle.icn_code.specs.Rules.{name_of}
use Rattle.icn_image.specs.declared.head.ImageHead.{ImageHead}
use Rattle.icn_image.specs.declared.operand.Operand.{Operand}
use Rattle.icn_image.specs.declared.operand.Operand.TheVariants.{Nothing, Number, Label}
use Rattle.icn_image.specs.declared.scope.TableSizes.{TableSizes}
use Rattle.icn_image.specs.Readers.{◌>>=◌, Reader, bytes_at, byte_at, number_at, count_at, index_at, times, table_at, bounded_table_at}
use Rattle.icn_image.specs.Operands.{operand_of, instr_of}
use Rattle.icn_image.specs.Scopes.{names_there}
use Rattle.icn_tree.specs.NameSets.{NameTest, none_met, with_name}
use Rattle.icn_image.specs.Fronts.{FrontTables, with_procs, with_instrs, scope_of}
use Rattle.icn_image.specs.declared.version.Version.{Version}
use Rattle.icn_image.specs.declared.version.Version.TheVariants.{First, Second}
use Rattle.icn_image.specs.Versions.{width_of, image_head}

-- ---- the tables in front of the procedures

-- a string: its length, and its bytes
unfoldable pub string_at : Width → Reader (List ℕ)
string_at width bytes = do
  count ← number_at width bytes
  bytes_at count.0 count.1

-- a cset: a bit for each of the 256 bytes, in four words
unfoldable pub cset_at : Reader Cset
cset_at bytes = do
  words ← times (number_at w64) 4 bytes
  Ok (record { words = words.0 }, words.1)

-- an integer of 64 bits, with its sign
unfoldable pub integer_at : Reader ℤ
integer_at bytes = do
  number ← number_at w64 bytes
  Ok (cast_signed w64 number.0, number.1)

-- a record of a code with so many strings and fields
unfoldable pub record_at : Width → ℕ → ℕ → Reader RecordType
record_at width strings fields bytes = do
  name ← index_at width strings bytes
  places ← bounded_table_at width most_fields (index_at width fields) name.1
  Ok (record { name = name.0; fields = places.0 }, places.1)

-- ---- globals

-- a function; I4 where there is none of that number
abbrev pub func_start : Option Func → Result Start Rule
func_start None = Err I4
func_start (Some func) = Ok (Function func)

-- what a global begins with, by its kind and number; procedures are not known yet
unfoldable pub start_of : ℕ → ℕ → ℕ → Result Start Rule
start_of records kind number =
    if kind == 0 then (if number == 0 then Ok Null else Err I4)
    else (if kind == 1 then Ok (Procedure number)
    else (if kind == 2 then (if nat_lt number records then Ok (Record number) else Err I4)
    else func_start (func_of number)))

-- a kind, and then a number: what a global begins with
unfoldable pub start_at : Width → ℕ → Reader Start
start_at width records bytes = do
  kind ← byte_at bytes
  if nat_lt 3 kind.0 then Err I3 else (do
    number ← number_at width kind.1
    start ← start_of records kind.0 number.0
    Ok (start, number.1))

-- the place of a string that no global has as its name yet
unfoldable pub new_name_at : Width → List (List ℕ) → NameTest → Reader ℕ
new_name_at width strings met bytes = do
  name ← index_at width (length strings) bytes
  if met (slice_index_or strings name.0 []) then Err I4 else Ok name

-- a global: its name, and what it begins with
unfoldable pub global_at : Width → List (List ℕ) → ℕ → NameTest → Reader Global
global_at width strings records met bytes = do
  name ← new_name_at width strings met bytes
  start ← start_at width records name.1
  Ok (record { name = name.0; start = start.0 }, start.1)

-- so many globals, behind those whose names were met
unfoldable pub globals_from : Width → List (List ℕ) → ℕ → NameTest → ℕ → Reader (List Global)
globals_from width strings records met zero bytes = Ok ([], bytes)
globals_from width strings records met (suc n) bytes = do
  first ← global_at width strings records met bytes
  others ← globals_from width strings records (with_name met (name_of strings first.0)) n first.1
  Ok (first.0 ∷ others.0, others.1)

-- the globals, no two of one name
unfoldable pub globals_at : Width → List (List ℕ) → ℕ → Reader (List Global)
globals_at width strings records bytes = do
  count ← number_at width bytes
  globals_from width strings records none_met count.0 count.1

-- all tables in front of the procedures
unfoldable pub front_at : Width → Reader FrontTables
front_at width bytes = do
  strings ← table_at width (string_at width) bytes
  csets ← table_at width cset_at strings.1
  integers ← table_at width integer_at csets.1
  fields ← bounded_table_at width most_fields (index_at width (length strings.0)) integers.1
  records ← bounded_table_at width most_fields (record_at width (length strings.0) (length fields.0)) fields.1
  globals ← globals_at width strings.0 (length records.0) records.1
  Ok (
    record {
      strings = strings.0;
      csets = csets.0;
      integers = integers.0;
      fields = fields.0;
      records = records.0;
      globals = globals.0;
    },
    globals.1,
  )

-- ---- procedures

-- whether the last parameter collects: 1 only with a parameter
unfoldable pub collects_at : ℕ → Reader Bool
collects_at parameters bytes = do
  flag ← byte_at bytes
  if flag.0 == 0 then Ok (false, flag.1)
      else (if (flag.0 == 1) && nat_lt 0 parameters then Ok (true, flag.1) else Err I3)

-- the other locals, which are judged together with the parameters
unfoldable pub locals_at : Width → ℕ → Reader ℕ
locals_at width parameters bytes = do
  locals ← number_at width bytes
  if nat_le (parameters + locals.0) most_variables then Ok locals else Err I4

-- the statics of a procedure, behind procedures that have so many together
unfoldable pub statics_at : Width → ℕ → Reader ℕ
statics_at width before bytes = do
  statics ← count_at width most_variables bytes
  if nat_le (before + statics.0) most_statics then Ok statics else Err I4

-- what an image says of a procedure in front of all instructions, behind procedures that have so many statics together
unfoldable pub head_at : Width → ℕ → ℕ → Reader ImageHead
head_at width strings before bytes = do
  name ← index_at width strings bytes
  parameters ← number_at width name.1
  collects ← collects_at parameters.0 parameters.1
  locals ← locals_at width parameters.0 collects.1
  statics ← statics_at width before locals.1
  instrs ← number_at w32 statics.1
  Ok (
    record {
      name = name.0;
      parameters = parameters.0;
      collects = collects.0;
      locals = locals.0;
      statics = statics.0;
      instrs = instrs.0;
    },
    instrs.1,
  )

-- what it says of so many procedures, behind those that have so many statics together
unfoldable pub heads_from : Width → ℕ → ℕ → ℕ → Reader (List ImageHead)
heads_from width strings before zero bytes = Ok ([], bytes)
heads_from width strings before (suc n) bytes = do
  first ← head_at width strings before bytes
  others ← heads_from width strings (before + first.0.statics) n first.1
  Ok (first.0 ∷ others.0, others.1)

-- the number of a global's procedure is judged where their count is known
abbrev pub has_proc : ℕ → Start → Bool
has_proc procs (Procedure place) = nat_lt place procs
has_proc procs _ = true

-- the procedures that globals begin with are there
unfoldable pub have_procs : ℕ → List Global → Bool
have_procs procs globals = list_all (λ global. has_proc procs global.start) globals

-- that of all procedures, among which are those that globals begin with
unfoldable pub heads_at : Width → FrontTables → Reader (List ImageHead)
heads_at width front bytes = do
  count ← count_at width most_procedures bytes
  if have_procs count.0 front.globals then heads_from width (length front.strings) 0 count.0 count.1
      else Err I4

-- ---- instructions

-- the operand of an instruction, by what kind it has; I3 where there is no such instruction
abbrev pub operand_at : Width → Option Operand → Reader ℕ
operand_at width None bytes = Err I3
operand_at width (Some Nothing) bytes = Ok (0, bytes)
operand_at width (Some Number) bytes = number_at width bytes
operand_at width (Some Label) bytes = number_at w32 bytes

-- an instruction that names what is there
abbrev pub there : TableSizes → Option Instr → Result Instr Rule
there scope None = Err I4
there scope (Some instr) = if names_there scope instr then Ok instr else Err I4

-- an instruction, whose operand is there in these tables and this procedure
unfoldable pub instr_at : Width → TableSizes → Reader Instr
instr_at width scope bytes = do
  number ← byte_at bytes
  operand ← operand_at width (operand_of number.0) number.1
  instr ← there scope (instr_of number.0 operand.0)
  Ok (instr, operand.1)

-- the procedure of a head, by its instructions
unfoldable pub proc_at : Width → FrontTables → ImageHead → Reader Proc
proc_at width front head bytes = do
  instrs ← times (instr_at width (scope_of front head)) head.instrs bytes
  Ok (with_instrs head instrs.0, instrs.1)

-- the procedures of these heads, each with its instructions
unfoldable pub procs_at : Width → FrontTables → List ImageHead → Reader (List Proc)
procs_at width front [] bytes = Ok ([], bytes)
procs_at width front (head ∷ heads) bytes = do
  first ← proc_at width front head bytes
  others ← procs_at width front heads first.1
  Ok (first.0 ∷ others.0, others.1)

-- ---- the whole

-- all tables of a code, in numbers of this width
unfoldable pub tables_at : Width → Reader Tables
tables_at width bytes = do
  front ← front_at width bytes
  heads ← heads_at width front.0 front.1
  procs ← procs_at width front.0 heads.0 heads.1
  Ok (with_procs front.0 procs.0, procs.1)

-- the version of an image, by its head
abbrev pub version_at : Reader Version
version_at bytes =
    if starts_with nat_eq bytes (image_head First) then Ok (First, drop 8 bytes)
    else (if starts_with nat_eq bytes (image_head Second) then Ok (Second, drop 8 bytes) else Err I1)

-- the tables that an image of either version spells, or the first rule that it breaks; nothing may stand behind them
unfoldable pub image_read : List ℕ → Result Tables Rule
image_read bytes = do
  version ← version_at bytes
  tables ← tables_at (width_of version.0) version.1
  if length tables.1 == 0 then Ok tables.0 else Err I5
