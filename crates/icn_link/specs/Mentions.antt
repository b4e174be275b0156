-- What declarations and instructions of units mention.
use Rattle.std.specs.Prelude.{ℕ, ℤ, List, [], ◌∷◌, ◌++◌, find, slice_get, Option, Some, None, if◌then◌else◌, is_some}
use Rattle.std.specs.Option.{option_map_or}
use Rattle.std.specs.List.{flat_map}
use Rattle.std.specs.Str.{bytes_eq}
use Rattle.icn_text.specs.Funcs.{func_name}
use Rattle.icn_text.specs.declared.func.Func.{Func}
use Rattle.icn_text.specs.declared.func.TheConstants.Func.{ALL as functions}
use Rattle.icn_unit.specs.declared.unit.NameKind.{NameKind}
use Rattle.icn_unit.specs.declared.unit.NameKind.TheVariants as Kinds
use Rattle.icn_unit.specs.declared.unit.UnitInstr.{UnitInstr}
use Rattle.icn_unit.specs.declared.unit.UnitInstr.TheVariants as Unit
use Rattle.icn_unit.specs.declared.unit.UnitName.{UnitName}
use Rattle.icn_unit.specs.PlainUnits.{PlainProc, PlainDecl, Global, Procedure, Link, Invocable, Record, proc_names}
use Rattle.icn_link.specs.FirstMentions.{with_texts, with_integers}

-- Instructions

-- what an instruction has from a table, or how many operands it takes as it says itself
pub data Mention : Type 0 where
  NoMention : Mention
  AnInteger : ℤ → Mention
  AText : List ℕ → Mention
  ASet : List ℕ → Mention
  AField : List ℕ → Mention
  Operands : ℕ → Mention

-- what an instruction takes from a table, or how many operands it mentions
abbrev pub mention_of : UnitInstr → Mention
mention_of (Unit.Int n) = AnInteger n
mention_of (Unit.Str bytes) = AText bytes
mention_of (Unit.Cset members) = ASet members
mention_of (Unit.Field name) = AField name
mention_of (Unit.Llist count) = Operands count
mention_of (Unit.Invoke count) = Operands count
mention_of Unit.Pnull = NoMention
mention_of (Unit.Var place) = NoMention
mention_of (Unit.Keywd keyword) = NoMention
mention_of Unit.Pop = NoMention
mention_of Unit.Dup = NoMention
mention_of (Unit.Op op) = NoMention
mention_of Unit.Appl = NoMention
mention_of (Unit.Mark label) = NoMention
mention_of Unit.Mark0 = NoMention
mention_of Unit.Unmark = NoMention
mention_of Unit.Eret = NoMention
mention_of Unit.Esusp = NoMention
mention_of Unit.Limit = NoMention
mention_of Unit.Lsusp = NoMention
mention_of Unit.Efail = NoMention
mention_of (Unit.Chfail label) = NoMention
mention_of (Unit.Goto label) = NoMention
mention_of (Unit.Loop label) = NoMention
mention_of Unit.Bscan = NoMention
mention_of Unit.Escan = NoMention
mention_of Unit.Ccase = NoMention
mention_of (Unit.Init label) = NoMention
mention_of Unit.Psusp = NoMention
mention_of Unit.Pret = NoMention
mention_of Unit.Pfail = NoMention
mention_of (Unit.Create label) = NoMention
mention_of Unit.Coact = NoMention
mention_of Unit.Coret = NoMention
mention_of Unit.Cofail = NoMention
mention_of (Unit.Lab label) = NoMention

-- which name of its procedure an instruction uses, if it uses one
abbrev pub name_used : UnitInstr → Option ℕ
name_used (Unit.Int n) = None
name_used (Unit.Str bytes) = None
name_used (Unit.Cset members) = None
name_used (Unit.Field name) = None
name_used (Unit.Llist count) = None
name_used (Unit.Invoke count) = None
name_used Unit.Pnull = None
name_used (Unit.Var place) = Some place
name_used (Unit.Keywd keyword) = None
name_used Unit.Pop = None
name_used Unit.Dup = None
name_used (Unit.Op op) = None
name_used Unit.Appl = None
name_used (Unit.Mark label) = None
name_used Unit.Mark0 = None
name_used Unit.Unmark = None
name_used Unit.Eret = None
name_used Unit.Esusp = None
name_used Unit.Limit = None
name_used Unit.Lsusp = None
name_used Unit.Efail = None
name_used (Unit.Chfail label) = None
name_used (Unit.Goto label) = None
name_used (Unit.Loop label) = None
name_used Unit.Bscan = None
name_used Unit.Escan = None
name_used Unit.Ccase = None
name_used (Unit.Init label) = None
name_used Unit.Psusp = None
name_used Unit.Pret = None
name_used Unit.Pfail = None
name_used (Unit.Create label) = None
name_used Unit.Coact = None
name_used Unit.Coret = None
name_used Unit.Cofail = None
name_used (Unit.Lab label) = None

-- the integer that is mentioned, if one is
abbrev pub integer_in : Mention → List ℤ
integer_in (AnInteger n) = n ∷ []
integer_in NoMention = []
integer_in (AText bytes) = []
integer_in (ASet members) = []
integer_in (AField name) = []
integer_in (Operands count) = []

-- the text that is mentioned, if one is
abbrev pub text_in : Mention → List (List ℕ)
text_in (AText bytes) = bytes ∷ []
text_in NoMention = []
text_in (AnInteger n) = []
text_in (ASet members) = []
text_in (AField name) = []
text_in (Operands count) = []

-- the set of bytes that is mentioned, if one is
abbrev pub set_in : Mention → List (List ℕ)
set_in (ASet members) = members ∷ []
set_in NoMention = []
set_in (AnInteger n) = []
set_in (AText bytes) = []
set_in (AField name) = []
set_in (Operands count) = []

-- the field's name that is mentioned, if one is
abbrev pub field_in : Mention → List (List ℕ)
field_in (AField name) = name ∷ []
field_in NoMention = []
field_in (AnInteger n) = []
field_in (AText bytes) = []
field_in (ASet members) = []
field_in (Operands count) = []

-- what is mentioned by the instructions of a procedure
abbrev pub mentioned_in : {A : Type 0} → (Mention → List A) → PlainProc → List A
mentioned_in mentioned proc = flat_map (λ instr. mentioned (mention_of instr)) proc.instrs

-- and of all
abbrev pub mentioned_by : {A : Type 0} → (Mention → List A) → List PlainProc → List A
mentioned_by mentioned procs = flat_map (mentioned_in mentioned) procs

-- Names

-- the global name that a declaration declares
abbrev pub global_in : PlainDecl → List (List ℕ)
global_in (Global name) = name ∷ []
global_in (Procedure name) = name ∷ []
global_in (Link text) = []
global_in (Invocable text) = []
global_in (Record name fields) = name ∷ []

-- the fields of a record
abbrev pub fields_in : PlainDecl → List (List ℕ)
fields_in (Record name fields) = fields
fields_in (Global name) = []
fields_in (Procedure name) = []
fields_in (Link text) = []
fields_in (Invocable text) = []

-- the name of a record
abbrev pub record_name_in : PlainDecl → List (List ℕ)
record_name_in (Record name fields) = name ∷ []
record_name_in (Global name) = []
record_name_in (Procedure name) = []
record_name_in (Link text) = []
record_name_in (Invocable text) = []

-- what a declaration says that may be called by its name
abbrev pub invocable_in : PlainDecl → List (List ℕ)
invocable_in (Invocable text) = text ∷ []
invocable_in (Global name) = []
invocable_in (Procedure name) = []
invocable_in (Link text) = []
invocable_in (Record name fields) = []

-- the names of all records
abbrev pub record_names : List PlainDecl → List (List ℕ)
record_names decls = flat_map record_name_in decls

-- the built-in function of a name
abbrev pub function_named : List ℕ → Option Func
function_named name = find (λ func. bytes_eq name (func_name func)) functions

-- the name of a function that a procedure uses without declaring it
abbrev pub function_by : NameKind → List ℕ → List (List ℕ)
function_by Kinds.Undeclared name = if is_some (function_named name) then name ∷ [] else []
function_by Kinds.Parameter name = []
function_by Kinds.Local name = []
function_by Kinds.Static name = []

-- the built-in function that an undeclared name may be, if there is one
abbrev pub function_in : UnitName → List (List ℕ)
function_in entry = function_by entry.kind entry.name

-- the built-in functions that the names of a procedure may be
abbrev pub functions_in : PlainProc → List (List ℕ)
functions_in proc = flat_map function_in proc.names

-- the built-in function that a name at a place may be, if there is one
abbrev pub function_at : List UnitName → ℕ → List (List ℕ)
function_at names place = option_map_or function_in (slice_get names place) []

-- the built-in function that an instruction uses, if it uses one, where its procedure has these names
abbrev pub function_used : List UnitName → UnitInstr → List (List ℕ)
function_used names instr = option_map_or (function_at names) (name_used instr) []

-- the built-in functions that the instructions of a procedure use, in their order
abbrev pub functions_used : PlainProc → List (List ℕ)
functions_used proc = flat_map (function_used proc.names) proc.instrs

-- The tables

-- what declarations declare global, each name once
abbrev pub declared_names : List PlainDecl → List (List ℕ)
declared_names decls = with_texts [] (flat_map global_in decls)

-- what is declared global, and then the functions that instructions use and that are not declared, in the order of the instructions
abbrev pub used_globals : List PlainDecl → List PlainProc → List (List ℕ)
used_globals decls procs = with_texts (declared_names decls) (flat_map functions_used procs)

-- The globals by their names: these, and last the functions that are among the names of procedures and that no instruction uses.
abbrev pub globals : List PlainDecl → List PlainProc → List (List ℕ)
globals decls procs = with_texts (used_globals decls procs) (flat_map functions_in procs)

-- the fields by their names: those of records first
abbrev pub fields : List PlainDecl → List PlainProc → List (List ℕ)
fields decls procs = with_texts [] (flat_map fields_in decls ++ mentioned_by field_in procs)

-- the strings: the names of fields, records, globals and procedures, and then the literals
abbrev pub string_mentions : List PlainDecl → List PlainProc → List (List ℕ)
string_mentions decls procs =
    fields decls procs ++ (record_names decls ++ (globals decls procs ++ (proc_names procs
    ++ mentioned_by text_in procs)))

-- all texts that are mentioned, each once
abbrev pub strings : List PlainDecl → List PlainProc → List (List ℕ)
strings decls procs = with_texts [] (string_mentions decls procs)

-- the csets, each by its members in ascending order
abbrev pub sets : List PlainProc → List (List ℕ)
sets procs = with_texts [] (mentioned_by set_in procs)

-- the integers that the procedures mention, each once
abbrev pub integers : List PlainProc → List ℤ
integers procs = with_integers [] (mentioned_by integer_in procs)

-- all of these
pub record AllMentions : Type 0 where
  pub strings : List (List ℕ)
  pub sets : List (List ℕ)
  pub integers : List ℤ
  pub fields : List (List ℕ)
  pub declared : List (List ℕ)
  pub globals : List (List ℕ)

-- all that declarations and procedures mention, each once, in a table for each kind
abbrev pub all_mentions : List PlainDecl → List PlainProc → AllMentions
all_mentions decls procs = record {
  strings = strings decls procs;
  sets = sets procs;
  integers = integers procs;
  fields = fields decls procs;
  declared = declared_names decls;
  globals = globals decls procs;
}
