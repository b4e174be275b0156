-- The joined code of the files of a program: each procedure's code is its translation, and what an
-- instruction, a record or a procedure
-- mentions stands in the tables once, in the order of first mention as the tables are written: fields,
-- records, globals, procedures, instructions.
use Rattle.std.specs.Prelude.{◌≡◌, ℕ, ◌+◌, ◌-◌, ℤ, Bool, true, false, List, ◌++◌, length, map, Option, Some, None}
use Rattle.std.specs.List.{flat_map, position_or_len}
use Rattle.std.specs.Ordering.{int_eq}
use Rattle.std.specs.Str.{bytes_eq}
use Rattle.icn_text.specs.declared.func.Func.{Func}
use Rattle.icn_tree.specs.Trees.{Declaration}
use Rattle.icn_value.specs.declared.cset.Cset.{Cset}
use Rattle.icn_code.specs.declared.code.Global.{Global}
use Rattle.icn_code.specs.declared.code.Start.{Start}
use Rattle.icn_code.specs.declared.code.Start.TheVariants as Starts
use Rattle.icn_code.specs.declared.instr.Instr.{Instr}
use Rattle.icn_code.specs.declared.instr.Instr.TheVariants as Instrs
use Rattle.icn_code.specs.Codes.{RecordType, Proc, Tables}
use Rattle.icn_meaning.specs.Program.{Routine, Constructor, joined_declarations, index_of, has_name, function_named, globals_of, global_names, procedures_of, kinds_of, kind_names, routine_names, routines_of}
use Rattle.icn_run.specs.Step.{members_of}
use Rattle.law_simulation.specs.Translation.{SymbolTable, procedure}
use Rattle.law_simulation.specs.Mentions.{TableMention, all_mentions, initial_mentions, integers_among, texts_among, sets_among, fields_among, firsts}

-- What the declarations mention

-- the procedures of all files, each with the places of its names
abbrev pub routines : List Declaration → List Routine
routines declarations = routines_of (globals_of declarations) 0 (procedures_of declarations)

-- what the instructions mention, procedure by procedure
abbrev pub routine_mentions : Routine → List TableMention
routine_mentions routine = initial_mentions routine.initial ++ all_mentions routine.body

-- what the code of all procedures takes from the tables, in the order of the instructions
abbrev pub code_mentions : List Declaration → List TableMention
code_mentions declarations = flat_map routine_mentions (routines declarations)

-- the names of the fields of all constructors
abbrev pub record_fields : List Constructor → List (List ℕ)
record_fields kinds = flat_map (λ (kind : Constructor). kind.fields) kinds

-- the fields, by their names: those of the records first
abbrev pub fields_of : List Declaration → List (List ℕ)
fields_of declarations = firsts bytes_eq
    (record_fields (kinds_of declarations) ++ fields_among (code_mentions declarations))

-- the strings: the names of fields, records, globals and procedures, and the string literals
abbrev pub string_mentions : List Declaration → List (List ℕ)
string_mentions declarations =
    fields_of declarations ++ (kind_names (kinds_of declarations)
    ++ (globals_of declarations ++ (routine_names (routines declarations)
    ++ texts_among (code_mentions declarations))))

-- the table of strings: each once, in the order in which they first come
abbrev pub strings_of : List Declaration → List (List ℕ)
strings_of declarations = firsts bytes_eq (string_mentions declarations)

-- the table of integers: each once, in the order in which they first come
abbrev pub integers_of : List Declaration → List ℤ
integers_of declarations = firsts int_eq (integers_among (code_mentions declarations))

-- the csets, each by its members in ascending order
abbrev pub sets_of : List Declaration → List (List ℕ)
sets_of declarations = firsts bytes_eq (sets_among (code_mentions declarations))

-- Places in the tables

-- the index of a text in its table
abbrev pub text_index : List (List ℕ) → List ℕ → ℕ
text_index texts text = position_or_len (bytes_eq text) texts

-- the index of an integer in its table
abbrev pub integer_index : List ℤ → ℤ → ℕ
integer_index integers n = position_or_len (int_eq n) integers

-- the instruction of a name: it is a local of the procedure, a static of it, or a global
abbrev pub variable_by : Option ℕ → Option ℕ → Option ℕ → Instr
variable_by (Some n) static global = Instrs.Local n
variable_by None (Some n) global = Instrs.Static n
variable_by None None (Some n) = Instrs.Global n
variable_by None None None = Instrs.Local 0

-- what the names and the literals of a procedure stand for in its code
abbrev pub names_in : List Declaration → Routine → SymbolTable
names_in declarations routine = record {
  integer = integer_index (integers_of declarations);
  string = text_index (strings_of declarations);
  set = text_index (sets_of declarations);
  variable = λ name. variable_by (index_of name routine.locals) (index_of name routine.statics)
      (index_of name (globals_of declarations));
  field = text_index (fields_of declarations);
}

-- The entries of the tables

-- the entry of a constructor: the indices of its name and of the names of its fields
abbrev pub record_entry : List Declaration → Constructor → RecordType
record_entry declarations kind =
    record {
      name = text_index (strings_of declarations) kind.name;
      fields =
          map (text_index (fields_of declarations)) kind.fields;
    }

-- What a global begins with: the procedure or the record of its name, or else, where no file declares it,
-- the function.
abbrev pub start_by : Option ℕ → Option ℕ → Bool → Option Func → Start
start_by (Some n) kind declared function = Starts.Procedure n
start_by None (Some n) declared function = Starts.Record n
start_by None None true function = Starts.Null
start_by None None false (Some function) = Starts.Function function
start_by None None false None = Starts.Null

-- what the global of this name begins with
abbrev pub start : List Declaration → List ℕ → Start
start declarations name = start_by (index_of name (routine_names (routines declarations)))
    (index_of name (kind_names (kinds_of declarations)))
    (has_name name (global_names declarations)) (function_named name)

-- the entry of a global: the index of its name, and what it begins with
abbrev pub global_entry : List Declaration → List ℕ → Global
global_entry declarations name =
    record { name = text_index (strings_of declarations) name; start = start declarations name }

-- the entry of a procedure: its name, the counts of its variables, and its translation
abbrev pub procedure_entry : List Declaration → Routine → Proc
procedure_entry declarations routine = record {
  name = text_index (strings_of declarations) routine.name;
  parameters = routine.parameters;
  collects = routine.collects;
  locals = length routine.locals - routine.parameters;
  statics = length routine.statics;
  instrs = procedure (names_in declarations routine) routine.initial routine.body;
}

-- the tables of these declarations, which are those of all files, with these csets
abbrev pub code_with : List Declaration → List Cset → Tables
code_with declarations csets = record {
  strings = strings_of declarations;
  csets = csets;
  integers = integers_of declarations;
  fields = map (text_index (strings_of declarations)) (fields_of declarations);
  records = map (record_entry declarations) (kinds_of declarations);
  globals = map (global_entry declarations) (globals_of declarations);
  procs = map (procedure_entry declarations) (routines declarations);
}

-- These tables are the code of these declarations: they have the csets that are mentioned, and all else as
-- it is there.
pub record IsCodeOf (declarations : List Declaration) (tables : Tables) : Type 0 where
  pub csets : map members_of tables.csets ≡ sets_of declarations
  pub others : tables ≡ code_with declarations tables.csets

-- These tables are the joined code of these files, each the list of its declarations.
abbrev pub IsJoined : List (List Declaration) → Tables → Type 0
IsJoined files tables = IsCodeOf (joined_declarations files) tables
