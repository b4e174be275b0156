-- A code without the procedures that are not kept, and without what only these mention.
use Rattle.std.specs.Prelude.{◌==◌, ℕ, suc, pos, Bool, true, false, List, [], ◌∷◌, ◌++◌, map, slice_index_or, if◌then◌else◌}
use Rattle.std.specs.List.{flat_map, list_any, position_or_len}
use Rattle.icn_value.specs.declared.cset.Cset.{Cset}
use Rattle.icn_code.specs.declared.code.Global.{Global}
use Rattle.icn_code.specs.declared.code.Start.{Start}
use Rattle.icn_code.specs.declared.code.Start.TheVariants.{Null, Procedure, Record, Function}
use Rattle.icn_code.specs.declared.instr.Instr.{Instr}
use Rattle.icn_code.specs.declared.instr.Instr.TheVariants.{Int, Str, Cset as CsetAt, Local, Static, Global as GlobalAt, Keywd, Op, Llist, Field, Invoke, Mark, Chfail, Goto, Loop, Init, Create, Pnull, Pop, Dup, Appl, Mark0, Unmark, Eret, Esusp, Limit, Lsusp, Efail, Bscan, Escan, Ccase, Psusp, Pret, Pfail, Coact, Coret, Cofail}
use Rattle.icn_code.specs.Codes.{Proc, RecordType, Tables}
use Rattle.icn_prune.specs.KeptCode.{globals_in}

-- Entries of a table, by their places

-- the places with one more, unless it is there
abbrev pub with_place : List ℕ → ℕ → List ℕ
with_place places place = if list_any (λ other. other == place) places then places else places ++ place ∷ []

-- the places with others, each once, in the order of first mention
abbrev pub with_places : List ℕ → List ℕ → List ℕ
with_places places [] = places
with_places places (place ∷ others) = with_places (with_place places place) others

-- where a place of the whole table stands in what is left of it
abbrev pub new_place : List ℕ → ℕ → ℕ
new_place left place = position_or_len (λ other. other == place) left

-- What stays of each table: the places of its entries, in the order in which they stand then.
pub record Survivors : Type 0 where
  pub strings : List ℕ
  pub csets : List ℕ
  pub integers : List ℕ
  pub fields : List ℕ
  pub globals : List ℕ
  pub procs : List ℕ

-- What stays

-- the places of the procedures that are kept, where the first has this place
abbrev pub kept_from_place : ℕ → List Bool → List ℕ
kept_from_place place [] = []
kept_from_place place (true ∷ keep) = place ∷ kept_from_place (suc place) keep
kept_from_place place (false ∷ keep) = kept_from_place (suc place) keep

-- the procedures that are kept
abbrev pub kept_procs : List Bool → List Proc → List Proc
kept_procs [] procs = []
kept_procs (truth ∷ keep) [] = []
kept_procs (true ∷ keep) (entry ∷ entries) = entry ∷ kept_procs keep entries
kept_procs (false ∷ keep) (entry ∷ entries) = kept_procs keep entries

-- A global stays that begins null or with a constructor, one that begins with a procedure where that is kept, and one that begins with a
-- function where a kept procedure mentions it.
abbrev pub start_stays : List Bool → Bool → Start → Bool
start_stays keep mentioned Null = true
start_stays keep mentioned (Procedure number) = slice_index_or keep number false
start_stays keep mentioned (Record number) = true
start_stays keep mentioned (Function func) = mentioned

-- the places of the globals that stay, where the first has this place and these are mentioned
abbrev pub globals_from : List Bool → List ℕ → ℕ → List Global → List ℕ
globals_from keep mentioned place [] = []
globals_from keep mentioned place (global ∷ globals) =
    if start_stays keep (list_any (λ other. other == place) mentioned) global.start
    then place ∷ globals_from keep mentioned (suc place) globals
    else globals_from keep mentioned (suc place) globals

-- the string that an instruction pushes
abbrev pub string_in : Instr → List ℕ
string_in (Str place) = place ∷ []
string_in instr = []

-- the cset that an instruction pushes
abbrev pub cset_in : Instr → List ℕ
cset_in (CsetAt place) = place ∷ []
cset_in instr = []

-- the integer that an instruction pushes
abbrev pub integer_in : Instr → List ℕ
integer_in (Int place) = place ∷ []
integer_in instr = []

-- the field that an instruction takes
abbrev pub field_in : Instr → List ℕ
field_in (Field place) = place ∷ []
field_in instr = []

-- what the instructions of procedures take from a table, in their order
abbrev pub taken_by : (Instr → List ℕ) → List Proc → List ℕ
taken_by taken procs = flat_map (λ (entry : Proc). flat_map taken entry.instrs) procs

-- the fields of records first, and then by the instructions
abbrev pub fields_left : Tables → List Proc → List ℕ
fields_left tables procs = with_places []
    (flat_map (λ (kind : RecordType). kind.fields) tables.records ++ taken_by field_in procs)

-- the entry of the globals at a place
abbrev pub global_at : Tables → ℕ → Global
global_at tables place = slice_index_or tables.globals place (record { name = 0; start = Null })

-- the strings: the names of fields, records, globals and procedures, and then by the instructions
abbrev pub strings_left : Tables → List Proc → List ℕ → List ℕ → List ℕ
strings_left tables procs fields globals = with_places []
    (map (λ place. slice_index_or tables.fields place 0) fields
    ++ (map (λ (kind : RecordType). kind.name) tables.records
    ++ (map (λ place. (global_at tables place).name) globals
    ++ (map (λ (entry : Proc). entry.name) procs ++ taken_by string_in procs))))

-- what stays of each table, where these procedures are kept, and these globals and fields stay
abbrev pub survivors_with : Tables → List Bool → List Proc → List ℕ → List ℕ → Survivors
survivors_with tables keep procs globals fields = record {
  strings = strings_left tables procs fields globals;
  csets = with_places [] (taken_by cset_in procs);
  integers = with_places [] (taken_by integer_in procs);
  fields = fields;
  globals = globals;
  procs = kept_from_place 0 keep;
}

-- what stays of each table: all records, and of the others what the kept procedures mention
abbrev pub survivors : Tables → List Bool → Survivors
survivors tables keep = let procs = kept_procs keep tables.procs in
    survivors_with tables keep procs (globals_from keep (flat_map globals_in procs) 0 tables.globals)
    (fields_left tables procs)

-- Entries with their new places

-- an instruction in the pruned code: what it takes from a table of the code has another place there; the rest stays
abbrev pub instr_left : Survivors → Instr → Instr
instr_left S (Int place) = Int (new_place S.integers place)
instr_left S (Str place) = Str (new_place S.strings place)
instr_left S (CsetAt place) = CsetAt (new_place S.csets place)
instr_left S (GlobalAt place) = GlobalAt (new_place S.globals place)
instr_left S (Field place) = Field (new_place S.fields place)
instr_left S (Local place) = Local place
instr_left S (Static place) = Static place
instr_left S (Keywd keyword) = Keywd keyword
instr_left S (Op op) = Op op
instr_left S (Llist count) = Llist count
instr_left S (Invoke count) = Invoke count
instr_left S (Mark label) = Mark label
instr_left S (Chfail label) = Chfail label
instr_left S (Goto label) = Goto label
instr_left S (Loop label) = Loop label
instr_left S (Init label) = Init label
instr_left S (Create label) = Create label
instr_left S Pnull = Pnull
instr_left S Pop = Pop
instr_left S Dup = Dup
instr_left S Appl = Appl
instr_left S Mark0 = Mark0
instr_left S Unmark = Unmark
instr_left S Eret = Eret
instr_left S Esusp = Esusp
instr_left S Limit = Limit
instr_left S Lsusp = Lsusp
instr_left S Efail = Efail
instr_left S Bscan = Bscan
instr_left S Escan = Escan
instr_left S Ccase = Ccase
instr_left S Psusp = Psusp
instr_left S Pret = Pret
instr_left S Pfail = Pfail
instr_left S Coact = Coact
instr_left S Coret = Coret
instr_left S Cofail = Cofail

-- what a global begins with: a procedure has another number
abbrev pub start_left : Survivors → Start → Start
start_left S Null = Null
start_left S (Procedure number) = Procedure (new_place S.procs number)
start_left S (Record number) = Record number
start_left S (Function func) = Function func

-- a global with the new place of its name, and what it begins with
abbrev pub global_left : Survivors → Global → Global
global_left S global =
    record { name = new_place S.strings global.name; start = start_left S global.start }

-- a record type with the new places of its name and its fields
abbrev pub record_left : Survivors → RecordType → RecordType
record_left S kind =
    record { name = new_place S.strings kind.name; fields = map (new_place S.fields) kind.fields }

-- a procedure with the new place of its name, and its instructions
abbrev pub proc_left : Survivors → Proc → Proc
proc_left S entry = record {
  name = new_place S.strings entry.name;
  parameters = entry.parameters;
  collects = entry.collects;
  locals = entry.locals;
  statics = entry.statics;
  instrs = map (instr_left S) entry.instrs;
}

-- a cset without members, for a place at which there is none
abbrev pub no_cset : Cset
no_cset = record { words = [] }

-- the tables of what stays
abbrev pub tables_left : Tables → List Bool → Survivors → Tables
tables_left tables keep S = record {
  strings = map (λ place. slice_index_or tables.strings place []) S.strings;
  csets = map (λ place. slice_index_or tables.csets place no_cset) S.csets;
  integers = map (λ place. slice_index_or tables.integers place (pos 0)) S.integers;
  fields = map (λ place. new_place S.strings (slice_index_or tables.fields place 0)) S.fields;
  records = map (record_left S) tables.records;
  globals = map (λ place. global_left S (global_at tables place)) S.globals;
  procs = map (proc_left S) (kept_procs keep tables.procs);
}

-- The pruned code: it has the kept procedures and all constructors; of the globals, in their order, those that stay; and of the other
-- tables what these mention, by first mention.
abbrev pub pruned_tables : List Bool → Tables → Tables
pruned_tables keep tables = tables_left tables keep (survivors tables keep)
