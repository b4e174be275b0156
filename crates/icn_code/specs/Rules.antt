-- The rules of the tables: each place is one of its table, and each number fits the tables' bounds.
use Rattle.std.specs.Prelude.{◌==◌, ℕ, ℤ, ◌+◌, ◌^◌, pos, negsuc, Bool, true, ◌&&◌, ◌||◌, not, nat_le, nat_lt, List, [], ◌∷◌, length, map, slice_index_or}
use Rattle.std.specs.List.{list_all, list_any, sum_by}
use Rattle.std.specs.Str.{bytes_eq}
use Rattle.icn_profile.specs.Numbers.{most_fields, most_procedures, most_statics, most_variables, number_limit}
use Rattle.icn_value.specs.declared.cset.Cset.{Cset}
use Rattle.icn_code.specs.declared.instr.Instr.{Instr}
use Rattle.icn_code.specs.declared.instr.Instr.TheVariants.{Int, Str, Cset as CsetAt, Local, Static, Global as GlobalAt, Llist, Field, Invoke, Mark, Chfail, Goto, Loop, Init, Create}
use Rattle.icn_code.specs.declared.instr.Instr.TheVariants as I
use Rattle.icn_code.specs.declared.code.Global.{Global}
use Rattle.icn_code.specs.declared.code.Start.{Start}
use Rattle.icn_code.specs.declared.code.Start.TheVariants.{Null, Procedure, Record, Function}
use Rattle.icn_code.specs.Codes.{RecordType, Proc, Tables}

-- the number is that of a byte
abbrev pub is_byte : ℕ → Bool
is_byte b = nat_lt b 256

-- the number has 32 bits
abbrev pub is_number : ℕ → Bool
is_number n = nat_lt n number_limit

-- the length of a string is a number below the limit
abbrev pub is_string_below : ℕ → List ℕ → Bool
is_string_below limit bytes = nat_lt (length bytes) limit && list_all is_byte bytes

-- a text of bytes whose length is a number of a code
abbrev pub is_string : List ℕ → Bool
is_string bytes = is_string_below number_limit bytes

-- 64 bits
abbrev pub is_word : ℕ → Bool
is_word w = nat_lt w (2 ^ 64)

-- four words
abbrev pub is_cset : Cset → Bool
is_cset cset = (length cset.words == 4) && list_all is_word cset.words

-- an integer has 64 bits
abbrev pub is_integer : ℤ → Bool
is_integer (pos n) = nat_lt n (2 ^ 63)
is_integer (negsuc n) = nat_lt n (2 ^ 63)

-- a record's name is a string, and its fields are fields
abbrev pub is_record : ℕ → ℕ → RecordType → Bool
is_record strings fields kind = nat_lt kind.name strings && nat_le (length kind.fields) most_fields
    && list_all (λ field. nat_lt field fields) kind.fields

-- what a global begins with is there: a record or a procedure of the code, a function, or null
abbrev pub is_start : ℕ → ℕ → Start → Bool
is_start records procs Null = true
is_start records procs (Procedure place) = nat_lt place procs
is_start records procs (Record place) = nat_lt place records
is_start records procs (Function func) = true

-- a global's name is a string, and what it begins with is there
abbrev pub is_global : ℕ → ℕ → ℕ → Global → Bool
is_global strings records procs global = nat_lt global.name strings && is_start records procs global.start

-- the name of a global
abbrev pub name_of : List (List ℕ) → Global → List ℕ
name_of strings global = slice_index_or strings global.name []

-- one of these names is this one
abbrev pub has_name : List (List ℕ) → List ℕ → Bool
has_name names name = list_any (λ other. bytes_eq other name) names

-- no name stands twice
abbrev pub names_differ : List (List ℕ) → Bool
names_differ [] = true
names_differ (name ∷ names) = not (has_name names name) && names_differ names

-- what an instruction names is there, of the code's tables, of its procedure's variables and places, and what it counts is below the limit
abbrev pub is_instr_below : ℕ → Tables → Proc → Instr → Bool
is_instr_below limit tables proc (Int place) = nat_lt place (length tables.integers)
is_instr_below limit tables proc (Str place) = nat_lt place (length tables.strings)
is_instr_below limit tables proc (CsetAt place) = nat_lt place (length tables.csets)
is_instr_below limit tables proc (Local place) = nat_lt place (proc.parameters + proc.locals)
is_instr_below limit tables proc (Static place) = nat_lt place proc.statics
is_instr_below limit tables proc (GlobalAt place) = nat_lt place (length tables.globals)
is_instr_below limit tables proc (Llist count) = nat_lt count limit
is_instr_below limit tables proc (Field place) = nat_lt place (length tables.fields)
is_instr_below limit tables proc (Invoke count) = nat_lt count limit
is_instr_below limit tables proc (Mark label) = nat_le label (length proc.instrs)
is_instr_below limit tables proc (Chfail label) = nat_le label (length proc.instrs)
is_instr_below limit tables proc (Goto label) = nat_le label (length proc.instrs)
is_instr_below limit tables proc (Loop label) = nat_le label (length proc.instrs)
is_instr_below limit tables proc (Init label) = nat_le label (length proc.instrs)
is_instr_below limit tables proc (Create label) = nat_le label (length proc.instrs)
is_instr_below limit tables proc I.Pnull = true
is_instr_below limit tables proc (I.Keywd keyword) = true
is_instr_below limit tables proc I.Pop = true
is_instr_below limit tables proc I.Dup = true
is_instr_below limit tables proc (I.Op op) = true
is_instr_below limit tables proc I.Appl = true
is_instr_below limit tables proc I.Mark0 = true
is_instr_below limit tables proc I.Unmark = true
is_instr_below limit tables proc I.Eret = true
is_instr_below limit tables proc I.Esusp = true
is_instr_below limit tables proc I.Limit = true
is_instr_below limit tables proc I.Lsusp = true
is_instr_below limit tables proc I.Efail = true
is_instr_below limit tables proc I.Bscan = true
is_instr_below limit tables proc I.Escan = true
is_instr_below limit tables proc I.Ccase = true
is_instr_below limit tables proc I.Psusp = true
is_instr_below limit tables proc I.Pret = true
is_instr_below limit tables proc I.Pfail = true
is_instr_below limit tables proc I.Coact = true
is_instr_below limit tables proc I.Coret = true
is_instr_below limit tables proc I.Cofail = true

-- what an instruction names is there, and what it counts is a number of a code
abbrev pub is_instr : Tables → Proc → Instr → Bool
is_instr tables proc instr = is_instr_below number_limit tables proc instr

-- a last parameter collects only where there is one; parameters and other locals are numbered together
abbrev pub is_head : ℕ → Proc → Bool
is_head strings proc =
    nat_lt proc.name strings && (not proc.collects || nat_lt 0 proc.parameters)
    && nat_le (proc.parameters + proc.locals) most_variables && nat_le proc.statics most_variables
    && nat_lt (length proc.instrs) (2 ^ 32)

-- the head of a procedure keeps the rules, and so does each of its instructions, below the limit
abbrev pub is_proc_below : ℕ → Tables → Proc → Bool
is_proc_below limit tables proc =
    is_head (length tables.strings) proc && list_all (is_instr_below limit tables proc) proc.instrs

-- the head of a procedure and each of its instructions keep the rules of codes
abbrev pub is_proc : Tables → Proc → Bool
is_proc tables proc = is_proc_below number_limit tables proc

-- how many procedures there are, and how many statics these have together
abbrev pub are_procs : ℕ → List Proc → Bool
are_procs limit procs =
    nat_lt (length procs) limit && nat_le (length procs) most_procedures
    && nat_le (sum_by (λ proc. proc.statics) procs) most_statics

-- how many entries the tables have
abbrev pub are_counts : ℕ → Tables → Bool
are_counts limit tables =
    nat_lt (length tables.strings) limit && nat_lt (length tables.csets) limit
    && nat_lt (length tables.integers) limit && nat_le (length tables.fields) most_fields
    && nat_le (length tables.records) most_fields && nat_lt (length tables.globals) limit
    && are_procs limit tables.procs

-- The tables keep all rules, where counts, lengths and numbers of operands are below this limit.
abbrev pub keeps_rules_below : ℕ → Tables → Bool
keeps_rules_below limit tables =
    are_counts limit tables && list_all (is_string_below limit) tables.strings && list_all is_cset tables.csets
    && list_all is_integer tables.integers
    && list_all (λ name. nat_lt name (length tables.strings)) tables.fields
    && list_all (is_record (length tables.strings) (length tables.fields)) tables.records
    && list_all (is_global (length tables.strings) (length tables.records) (length tables.procs))
    tables.globals
    && names_differ (map (name_of tables.strings) tables.globals)
    && list_all (is_proc_below limit tables) tables.procs

-- the tables keep all rules
unfoldable pub keeps_rules : Tables → Bool
keeps_rules tables = keeps_rules_below number_limit tables
