-- The joined code of units: their procedures, records and globals, each name resolved, with what is mentioned in tables.
use Rattle.std.specs.Prelude.{ℕ, zero, suc, ◌-◌, ◌^◌, ◌/◌, ◌%◌, Bool, true, false, List, [], ◌∷◌, codes, map, replicate, Option, Some, None, if◌then◌else◌, slice_get, slice_set, slice_index, count_by}
use Rattle.std.specs.Int.Bits.{bit_or}
use Rattle.std.specs.List.{flat_map, list_any}
use Rattle.std.specs.Option.{option_map}
use Rattle.std.specs.Str.{bytes_eq}
use Rattle.icn_text.specs.declared.func.Func.{Func}
use Rattle.icn_value.specs.declared.cset.Cset.{Cset}
use Rattle.icn_code.specs.declared.code.Global.{Global as GlobalEntry}
use Rattle.icn_code.specs.declared.code.Start.{Start}
use Rattle.icn_code.specs.declared.code.Start.TheVariants as Starts
use Rattle.icn_code.specs.declared.instr.Instr.{Instr}
use Rattle.icn_code.specs.declared.instr.Instr.TheVariants as Instrs
use Rattle.icn_code.specs.Codes.{RecordType, Proc as ProcEntry, Tables}
use Rattle.icn_unit.specs.declared.unit.NameKind.{NameKind}
use Rattle.icn_unit.specs.declared.unit.NameKind.TheVariants as Kinds
use Rattle.icn_link.specs.declared.variable.VariableKind.{VariableKind}
use Rattle.icn_link.specs.declared.variable.VariableKind.TheVariants.{Local, Static, Global}
use Rattle.icn_unit.specs.declared.unit.UnitName.{UnitName}
use Rattle.icn_unit.specs.PlainUnits.{PlainProc, PlainDecl, Global as GlobalDecl, Procedure, Link, Invocable, Record, UnitRead, params_in, proc_names}
use Rattle.icn_link.specs.FirstMentions.{text_index, integer_index}
use Rattle.icn_link.specs.Mentions.{AllMentions, all_mentions, function_named, invocable_in, record_names}
use Rattle.icn_link.specs.Resolving.{Scope, resolve, label_address}
use Rattle.icn_link.specs.Units.{all_decls, all_procs}

-- Names

-- a name is among these
abbrev pub is_among : List (List ℕ) → List ℕ → Bool
is_among names name = list_any (bytes_eq name) names

-- what a name of a procedure is: an undeclared one is global where the globals have it, and else a local
abbrev pub variable_by : List (List ℕ) → NameKind → List ℕ → VariableKind
variable_by globals Kinds.Parameter name = Local
variable_by globals Kinds.Local name = Local
variable_by globals Kinds.Static name = Static
variable_by globals Kinds.Undeclared name = if is_among globals name then Global else Local

-- which variable a name of a procedure is, by the names of the globals
abbrev pub variable_of : List (List ℕ) → UnitName → VariableKind
variable_of globals entry = variable_by globals entry.kind entry.name

-- The instruction of each name in its order. Locals are numbered from 0, and so are statics; so many of both were before.
abbrev pub variable_instr : VariableKind → ℕ → ℕ → ℕ → Instr
variable_instr Local locals statics global = Instrs.Local locals
variable_instr Static locals statics global = Instrs.Static statics
variable_instr Global locals statics global = Instrs.Global global

-- how many locals there are behind a variable
abbrev pub locals_behind : VariableKind → ℕ → ℕ
locals_behind Local locals = suc locals
locals_behind Static locals = locals
locals_behind Global locals = locals

-- how many statics there are behind a variable
abbrev pub statics_behind : VariableKind → ℕ → ℕ
statics_behind Local statics = statics
statics_behind Static statics = suc statics
statics_behind Global statics = statics

-- the instruction of each name of a procedure, where so many locals and statics stand before it
abbrev pub variables : List (List ℕ) → ℕ → ℕ → List UnitName → List Instr
variables globals locals statics [] = []
variables globals locals statics (entry ∷ entries) =
    variable_instr (variable_of globals entry) locals statics (text_index globals entry.name)
    ∷ variables globals (locals_behind (variable_of globals entry) locals)
    (statics_behind (variable_of globals entry) statics) entries

-- how many locals and statics there are among names
abbrev pub is_local : VariableKind → Bool
is_local Local = true
is_local Static = false
is_local Global = false

-- a static
abbrev pub is_static : VariableKind → Bool
is_static Local = false
is_static Static = true
is_static Global = false

-- how many of a procedure's names are locals
abbrev pub locals_in : List (List ℕ) → List UnitName → ℕ
locals_in globals names = count_by (λ entry. is_local (variable_of globals entry)) names

-- how many of a procedure's names are statics
abbrev pub statics_in : List (List ℕ) → List UnitName → ℕ
statics_in globals names = count_by (λ entry. is_static (variable_of globals entry)) names

-- the instruction at a name's place
abbrev pub variable_at : List Instr → ℕ → Instr
variable_at instrs k = or_local (slice_get instrs k)
  where
    or_local : Option Instr → Instr
    or_local None = Instrs.Local 0
    or_local (Some instr) = instr

-- Procedures

-- where names are these variables and labels have these addresses
abbrev pub scope_with : AllMentions → List Instr → (ℕ → ℕ) → Scope
scope_with tables variables label = record {
  integer = integer_index tables.integers;
  string = text_index tables.strings;
  set = text_index tables.sets;
  field = text_index tables.fields;
  variable = variable_at variables;
  label = label;
}

-- what the instructions of a procedure are resolved by: the tables, its variables and its labels
abbrev pub scope_of : AllMentions → PlainProc → Scope
scope_of tables proc =
    scope_with tables (variables tables.globals 0 0 proc.names) (λ label. label_address label proc.instrs)

-- where so many names are locals, parameters among them, and so many statics
abbrev pub entry_of : AllMentions → PlainProc → ℕ → ℕ → List Instr → ProcEntry
entry_of tables proc locals statics instrs = record {
  name = text_index tables.strings proc.name;
  parameters = params_in proc.names;
  collects = proc.collects;
  locals = locals - params_in proc.names;
  statics = statics;
  instrs = instrs;
}

-- a procedure of linked code
abbrev pub proc_entry : AllMentions → PlainProc → ProcEntry
proc_entry tables proc =
    entry_of tables proc (locals_in tables.globals proc.names) (statics_in tables.globals proc.names)
    (resolve (scope_of tables proc) proc.instrs)

-- Records and globals

-- a record type of linked code
abbrev pub record_entry : AllMentions → List ℕ → List (List ℕ) → RecordType
record_entry tables name fields = record {
  name = text_index tables.strings name;
  fields = map (text_index tables.fields) fields;
}

-- the record type that a declaration is, if it is one
abbrev pub records_in : AllMentions → PlainDecl → List RecordType
records_in tables (Record name fields) = record_entry tables name fields ∷ []
records_in tables (GlobalDecl name) = []
records_in tables (Procedure name) = []
records_in tables (Link text) = []
records_in tables (Invocable text) = []

-- What a global begins with: the procedure or the record of its name, or else, where no unit declares it, the function.
abbrev pub start_by : Option ℕ → Option ℕ → Bool → Option Func → Start
start_by (Some n) kind declared function = Starts.Procedure n
start_by None (Some n) declared function = Starts.Record n
start_by None None true function = Starts.Null
start_by None None false (Some function) = Starts.Function function
start_by None None false None = Starts.Null

-- where a name stands first
abbrev pub index_of : List (List ℕ) → List ℕ → Option ℕ
index_of [] name = None
index_of (other ∷ names) name =
    if bytes_eq name other then Some zero else option_map suc (index_of names name)

-- where procedures and records have these numbers by their names
abbrev pub global_with : AllMentions → (List ℕ → Option ℕ) → (List ℕ → Option ℕ) → List ℕ → GlobalEntry
global_with tables procs records name = record {
  name = text_index tables.strings name;
  start = start_by (procs name) (records name) (is_among tables.declared name) (function_named name);
}

-- a global of linked code, with what it begins with
abbrev pub global_entry : AllMentions → List (List ℕ) → List (List ℕ) → List ℕ → GlobalEntry
global_entry tables procs records name = global_with tables (index_of procs) (index_of records) name

-- Csets

-- a byte sets the bit b mod 64 of the word at b div 64
abbrev pub with_bit : List ℕ → ℕ → List ℕ
with_bit words b = slice_set words (b / 64) (bit_or (slice_index words (b / 64)) (2 ^ (b % 64)))

-- the words with the bits of more bytes
abbrev pub with_bits : List ℕ → List ℕ → List ℕ
with_bits words [] = words
with_bits words (b ∷ bytes) = with_bits (with_bit words b) bytes

-- a set of bytes as its 256 bits, in four words
abbrev pub cset_of : List ℕ → Cset
cset_of bytes = record { words = with_bits (replicate 4 0) bytes }

-- The code

-- the tables of linked code, by what is mentioned
abbrev pub tables_with : AllMentions → List PlainDecl → List PlainProc → Tables
tables_with tables decls procs = record {
  strings = tables.strings;
  csets = map cset_of tables.sets;
  integers = tables.integers;
  fields = map (text_index tables.strings) tables.fields;
  records = flat_map (records_in tables) decls;
  globals = map (global_entry tables (proc_names procs) (record_names decls)) tables.globals;
  procs = map (proc_entry tables) procs;
}

-- the joined code of declarations and procedures
abbrev pub joined_of : List PlainDecl → List PlainProc → Tables
joined_of decls procs = tables_with (all_mentions decls procs) decls procs

-- the number of a procedure, if it is one
abbrev pub number_list : Option ℕ → List ℕ
number_list None = []
number_list (Some number) = number ∷ []

-- the procedures that may be called by their names, by their numbers, in the order of the declarations
abbrev pub named_procs : List UnitRead → List ℕ
named_procs units = flat_map (λ text. number_list (index_of (proc_names (all_procs units)) text))
    (flat_map invocable_in (all_decls units))

-- all may be called by their names
abbrev pub names_all : List UnitRead → Bool
names_all units = list_any (bytes_eq (codes "all")) (flat_map invocable_in (all_decls units))

-- the joined code of units, with all procedures
abbrev pub joined_code : List UnitRead → Tables
joined_code units = joined_of (all_decls units) (all_procs units)
