-- A program of several files, joined, with what each of its names means.
use Rattle.std.specs.Prelude.{ℕ, zero, suc, pred, ℤ, pos, ◌+◌, ◌==◌, Bool, true, false, not, List, [], ◌∷◌, ◌++◌, length, map, codes, Option, Some, None, slice_get, bytes_eq, if◌then◌else◌}
use Rattle.std.specs.List.{range_with_len}
use Rattle.icn_text.specs.Funcs.{func_name, func_number}
use Rattle.icn_text.specs.declared.func.Func.{Func}
use Rattle.icn_text.specs.declared.func.TheConstants.Func.{ALL as functions}
use Rattle.icn_tree.specs.declared.token.Operator.TheVariants.{Backslash}
use Rattle.icn_tree.specs.declared.tree.DeclItem.{DeclItem}
use Rattle.icn_tree.specs.declared.tree.DeclItem.TheVariants as Items
use Rattle.icn_tree.specs.declared.tree.Name.{Name}
use Rattle.icn_tree.specs.declared.tree.Infix.TheVariants.{Plain}
use Rattle.icn_tree.specs.declared.tree.LocalKind.{LocalKind}
use Rattle.icn_tree.specs.declared.tree.LocalKind.TheVariants as Kinds
use Rattle.icn_tree.specs.Trees.{Tree, Trees, MaybeTree, Clauses, LocalDecl, Initial, Declaration, Empty, Constant, Identifier, Keyword, Parentheses, Listing, Compound, Call, CoCall, Subscript, Section, Field, Prefix, Not, Binary, To, If, Case, Loop, Repeat, Create, Next, Fail, Break, Return, Suspend, Absent, Present, NoTrees, More, Default, Guarded, NoClauses, MoreClauses, NoInitial, Initially, Global as GlobalDeclaration, Link, Invocable, Record, ProcedureOf, Procedure as ProcedureTree}
use Rattle.icn_value.specs.Values.{Value, Null, Procedure, Root, Global, Static, Local}
use Rattle.icn_value.specs.Store.{Names}
use Rattle.icn_defs.specs.KeptProcedures.{MentionLists, dropped_numbers, kept_from}
use Rattle.icn_defs.specs.NamedValues.{arguments_taken}

-- A procedure. Its locals are its parameters, then the names that it declares local, then those that it does not declare and that are no global. The
-- statics of all procedures are numbered one after the other.
pub record Routine : Type 0 where
  pub name : List ℕ
  pub parameters : ℕ
  pub collects : Bool
  pub locals : List (List ℕ)
  pub statics : List (List ℕ)
  pub first_static : ℕ
  pub initial : Initial
  pub body : Trees

-- the constructor of a record
pub record Constructor : Type 0 where
  pub name : List ℕ
  pub fields : List (List ℕ)

-- The procedures and records as declared; the globals by their numbers, each with the value that it begins with; how many statics there are; and
-- the procedures that are not kept, which no text names.
pub record Program : Type 0 where
  pub routines : List Routine
  pub kinds : List Constructor
  pub globals : List (List ℕ)
  pub starts : List Value
  pub statics : ℕ
  pub hidden : List ℕ

-- whether a name is among some names
abbrev pub has_name : List ℕ → List (List ℕ) → Bool
has_name name [] = false
has_name name (other ∷ names) = if bytes_eq name other then true else has_name name names

-- the place, counted from one entry before
abbrev pub later : Option ℕ → Option ℕ
later None = None
later (Some n) = Some (suc n)

-- the place of a name
abbrev pub index_of : List ℕ → List (List ℕ) → Option ℕ
index_of name [] = None
index_of name (other ∷ names) = if bytes_eq name other then Some zero else later (index_of name names)

-- the names with one in front, where it passed a test
abbrev pub with_name : Bool → List ℕ → List (List ℕ) → List (List ℕ)
with_name true name names = name ∷ names
with_name false name names = names

-- each name once, where it stands first, behind these
abbrev pub with_more_names : List (List ℕ) → List (List ℕ) → List (List ℕ)
with_more_names known [] = known
with_more_names known (name ∷ names) =
    with_more_names (known ++ with_name (not (has_name name known)) name []) names

-- the names that are not among some names, and those that pass a test
abbrev pub without_names : List (List ℕ) → List (List ℕ) → List (List ℕ)
without_names known [] = []
without_names known (name ∷ names) = with_name (not (has_name name known)) name (without_names known names)

-- the names that pass a test
abbrev pub only : (List ℕ → Bool) → List (List ℕ) → List (List ℕ)
only test [] = []
only test (name ∷ names) = with_name (test name) name (only test names)

-- The names of a tree as its evaluation meets them: a limit stands before what it limits, and a default behind the other clauses.
abbrev mutual
  pub names_in : Tree → List (List ℕ)
  names_in Empty = []
  names_in (Constant place value) = []
  names_in (Identifier name) = name.text ∷ []
  names_in (Keyword place name) = []
  names_in (Parentheses place trees) = names_in_all trees
  names_in (Listing place trees) = names_in_all trees
  names_in (Compound place trees) = names_in_all trees
  names_in (Call place callee trees) = names_in callee ++ names_in_all trees
  names_in (CoCall place callee trees) = names_in callee ++ names_in_all trees
  names_in (Subscript place subject trees) = names_in subject ++ names_in_all trees
  names_in (Section place kind subject a b) = names_in subject ++ names_in a ++ names_in b
  names_in (Field place subject name) = names_in subject
  names_in (Prefix place operator operand) = names_in operand
  names_in (Not place operand) = names_in operand
  names_in (Binary place (Plain Backslash) a b) = names_in b ++ names_in a
  names_in (Binary place operator a b) = names_in a ++ names_in b
  names_in (To place a b by) = names_in a ++ names_in b ++ names_in_maybe by
  names_in (If place condition a b) = names_in condition ++ names_in a ++ names_in_maybe b
  names_in (Case place subject cases) = names_in subject ++ names_in_guarded cases ++ names_in_default cases
  names_in (Loop place kind control body) = names_in control ++ names_in_maybe body
  names_in (Repeat place body) = names_in body
  names_in (Create place body) = names_in body
  names_in (Next place) = []
  names_in (Fail place) = []
  names_in (Break place value) = names_in value
  names_in (Return place value) = names_in value
  names_in (Suspend place value body) = names_in value ++ names_in_maybe body

  -- the names in a part that may be missing
  pub names_in_maybe : MaybeTree → List (List ℕ)
  names_in_maybe Absent = []
  names_in_maybe (Present tree) = names_in tree

  -- the names in a list of expressions
  pub names_in_all : Trees → List (List ℕ)
  names_in_all NoTrees = []
  names_in_all (More tree trees) = names_in tree ++ names_in_all trees

  -- the names in the guarded clauses of a `case`
  pub names_in_guarded : Clauses → List (List ℕ)
  names_in_guarded NoClauses = []
  names_in_guarded (MoreClauses (Default place value) cases) = names_in_guarded cases
  names_in_guarded (MoreClauses (Guarded place guard value) cases) =
      names_in guard ++ names_in value ++ names_in_guarded cases

  -- the names in the default of a `case`
  pub names_in_default : Clauses → List (List ℕ)
  names_in_default NoClauses = []
  names_in_default (MoreClauses (Default place value) cases) = names_in value
  names_in_default (MoreClauses (Guarded place guard value) cases) = names_in_default cases

-- the names in an `initial`
abbrev pub names_in_initial : Initial → List (List ℕ)
names_in_initial NoInitial = []
names_in_initial (Initially place tree) = names_in tree

-- the texts of names
abbrev pub texts : List Name → List (List ℕ)
texts [] = []
texts (name ∷ names) = name.text ∷ texts names

-- the names that are declared local
abbrev pub locals_among : List LocalDecl → List (List ℕ)
locals_among [] = []
locals_among (locals ∷ others) = of_kind locals.kind ++ locals_among others
  where
    of_kind : LocalKind → List (List ℕ)
    of_kind Kinds.Local = texts locals.names
    of_kind Kinds.Static = []

-- the names that are declared static
abbrev pub statics_among : List LocalDecl → List (List ℕ)
statics_among [] = []
statics_among (locals ∷ others) = of_kind locals.kind ++ statics_among others
  where
    of_kind : LocalKind → List (List ℕ)
    of_kind Kinds.Static = texts locals.names
    of_kind Kinds.Local = []

-- what a procedure declares, and the other names in it, each once
abbrev pub own_names : ProcedureTree → List (List ℕ)
own_names procedure = texts procedure.parameters ++ locals_among procedure.locals

-- the names in a procedure that it does not declare, wherever they stand
abbrev pub undeclared_uses : ProcedureTree → List (List ℕ)
undeclared_uses procedure = without_names (own_names procedure ++ statics_among procedure.locals)
    (names_in_initial procedure.initial ++ names_in_all procedure.body)

-- the same, each once
abbrev pub undeclared_names : ProcedureTree → List (List ℕ)
undeclared_names procedure = with_more_names [] (undeclared_uses procedure)

-- the declarations of all files, as one
abbrev pub joined_declarations : List (List Declaration) → List Declaration
joined_declarations [] = []
joined_declarations (file ∷ files) = file ++ joined_declarations files

-- the names that are declared as globals, procedures and records
abbrev pub global_names : List Declaration → List (List ℕ)
global_names [] = []
global_names (GlobalDeclaration place names ∷ others) = texts names ++ global_names others
global_names (Record place name fields ∷ others) = name.text ∷ global_names others
global_names (ProcedureOf procedure ∷ others) = procedure.name.text ∷ global_names others
global_names (Link place items ∷ others) = global_names others
global_names (Invocable place items ∷ others) = global_names others

-- the procedures among the declarations
abbrev pub procedures_of : List Declaration → List ProcedureTree
procedures_of [] = []
procedures_of (ProcedureOf procedure ∷ others) = procedure ∷ procedures_of others
procedures_of (_ ∷ others) = procedures_of others

-- the kinds of record among the declarations
abbrev pub kinds_of : List Declaration → List Constructor
kinds_of [] = []
kinds_of (Record place name fields ∷ others) =
    record { name = name.text; fields = texts fields } ∷ kinds_of others
kinds_of (_ ∷ others) = kinds_of others

-- the function of this name, if it is among these
abbrev pub function_among : List ℕ → List Func → Option Func
function_among name [] = None
function_among name (function ∷ others) =
    if bytes_eq name (func_name function) then Some function else function_among name others

-- the function of a name
abbrev pub function_named : List ℕ → Option Func
function_named name = function_among name functions

-- a function was found
abbrev pub is_there : Option Func → Bool
is_there (Some function) = true
is_there None = false

-- the name is that of a built-in function
abbrev pub names_function : List ℕ → Bool
names_function name = is_there (function_named name)

-- the names that the procedures use and do not declare
abbrev pub used_names : List ProcedureTree → List (List ℕ)
used_names [] = []
used_names (procedure ∷ others) = undeclared_names procedure ++ used_names others

-- the names of the globals: what a file declares global, procedure or record, and then the functions that are used without a declaration
abbrev pub globals_of : List Declaration → List (List ℕ)
globals_of declarations = let declared = with_more_names [] (global_names declarations) in
    declared ++ without_names declared
    (with_more_names [] (only names_function (used_names (procedures_of declarations))))

-- Kept procedures

-- the text by which an item of `invocable` names something
abbrev pub item_text : DeclItem → List ℕ
item_text (Items.Identifier name) = name.text
item_text (Items.Text name) = name.text

-- what the declarations `invocable` name
abbrev pub invocable_texts : List Declaration → List (List ℕ)
invocable_texts [] = []
invocable_texts (Invocable place items ∷ others) = map item_text items ++ invocable_texts others
invocable_texts (GlobalDeclaration place names ∷ others) = invocable_texts others
invocable_texts (Link place items ∷ others) = invocable_texts others
invocable_texts (Record place name fields ∷ others) = invocable_texts others
invocable_texts (ProcedureOf procedure ∷ others) = invocable_texts others

-- the number of a procedure, if it is one, before others
abbrev pub with_number : Option ℕ → List ℕ → List ℕ
with_number (Some number) numbers = number ∷ numbers
with_number None numbers = numbers

-- which of these procedures the names are of
abbrev pub numbers_of : List (List ℕ) → List (List ℕ) → List ℕ
numbers_of procedures [] = []
numbers_of procedures (name ∷ names) = with_number (index_of name procedures) (numbers_of procedures names)

-- the names of procedures
abbrev pub procedure_names : List ProcedureTree → List (List ℕ)
procedure_names [] = []
procedure_names (procedure ∷ others) = procedure.name.text ∷ procedure_names others

-- What each procedure mentions: a name that it uses and does not declare is global, where it is that of a procedure.
abbrev pub mentioned_by : List (List ℕ) → List ProcedureTree → MentionLists
mentioned_by procedures [] = []
mentioned_by procedures (procedure ∷ others) =
    numbers_of procedures (undeclared_uses procedure) ∷ mentioned_by procedures others

-- The procedures that are kept for their own sake: `main`, and what `invocable` names, which is each of them where it is `all`.
abbrev pub own_kept : List (List ℕ) → List (List ℕ) → List ℕ
own_kept procedures texts = if has_name (codes "all") texts then range_with_len 0 (length procedures)
    else numbers_of procedures (codes "main" ∷ texts)

-- which procedures are kept: the least set that has these, and with each one all that it mentions
abbrev pub kept_of : List Declaration → List Bool
kept_of declarations = let procedures = procedure_names (procedures_of declarations) in
    kept_from (mentioned_by procedures (procedures_of declarations))
    (own_kept procedures (invocable_texts declarations))

-- a procedure, where these are the globals and so many statics were numbered before
abbrev pub routine_of : List (List ℕ) → ℕ → ProcedureTree → Routine
routine_of globals first procedure = record {
  name = procedure.name.text;
  parameters = length procedure.parameters;
  collects = procedure.is_variadic;
  locals = own_names procedure ++ without_names globals (undeclared_names procedure);
  statics = statics_among procedure.locals;
  first_static = first;
  initial = procedure.initial;
  body = procedure.body;
}

-- the procedures with their names resolved, where so many statics stand before
abbrev pub routines_of : List (List ℕ) → ℕ → List ProcedureTree → List Routine
routines_of globals first [] = []
routines_of globals first (procedure ∷ others) =
    routine_of globals first procedure
    ∷ routines_of globals (first + length (statics_among procedure.locals)) others

-- how many statics all procedures have
abbrev pub statics_in : List Routine → ℕ
statics_in [] = zero
statics_in (routine ∷ others) = length routine.statics + statics_in others

-- the names of the procedures
abbrev pub routine_names : List Routine → List (List ℕ)
routine_names [] = []
routine_names (routine ∷ others) = routine.name ∷ routine_names others

-- the names of the kinds of record
abbrev pub kind_names : List Constructor → List (List ℕ)
kind_names [] = []
kind_names (kind ∷ others) = kind.name ∷ kind_names others

-- The value that a global begins with: the procedure or the constructor of its name, or else, where no file declares it, the function. The names
-- are those of the procedures, of the records and of what the files declare.
abbrev pub start_by : ℕ → ℕ → Option ℕ → Option ℕ → Bool → Option Func → Value
start_by procedures records (Some n) kind declared function = Procedure n
start_by procedures records None (Some n) declared function = Procedure (procedures + n)
start_by procedures records None None true function = Null
start_by procedures records None None false (Some function) =
    Procedure (procedures + records + pred (func_number function))
start_by procedures records None None false None = Null

-- the value that a global of this name begins with
abbrev pub start_of : List (List ℕ) → List (List ℕ) → List (List ℕ) → List ℕ → Value
start_of procedures records declared name =
    start_by (length procedures) (length records) (index_of name procedures) (index_of name records)
    (has_name name declared) (function_named name)

-- the values that globals begin with
abbrev pub starts_of : List (List ℕ) → List (List ℕ) → List (List ℕ) → List (List ℕ) → List Value
starts_of procedures records declared [] = []
starts_of procedures records declared (name ∷ names) =
    start_of procedures records declared name ∷ starts_of procedures records declared names

-- the program of these declarations
abbrev pub program_of : List Declaration → Program
program_of declarations = let globals = globals_of declarations in
    let routines = routines_of globals zero (procedures_of declarations) in record {
      routines = routines;
      kinds = kinds_of declarations;
      globals = globals;
      starts = starts_of (routine_names routines) (kind_names (kinds_of declarations))
          (global_names declarations) globals;
      statics = statics_in routines;
      hidden = dropped_numbers (kept_of declarations);
    }

-- the program of several files, each the list of its declarations
abbrev pub program : List (List Declaration) → Program
program files = program_of (joined_declarations files)

-- how many arguments a procedure takes, below 0 where the last parameter collects
abbrev pub routine_arguments : Routine → ℤ
routine_arguments routine = arguments_taken routine.parameters routine.collects

-- a constructor takes as many arguments as its records have fields
abbrev pub kind_arguments : Constructor → ℤ
kind_arguments kind = pos (length kind.fields)

-- The names of a program's procedures and kinds of record, and how many arguments these take. A text names a procedure that is kept.
abbrev pub names_of : Program → Names
names_of program = record {
  procedures = routine_names program.routines;
  records = kind_names program.kinds;
  arguments = map routine_arguments program.routines ++ map kind_arguments program.kinds;
  hidden = program.hidden;
}

-- what is called by a procedure's number
pub data Callee : Type 0 where
  IsRoutine : Routine → Callee
  IsKind : ℕ → Constructor → Callee
  IsFunction : Func → Callee
  IsNothing : Callee

-- the function of this number, counted behind procedures and kinds of record
abbrev pub function_numbered : ℕ → List Func → Callee
function_numbered n [] = IsNothing
function_numbered n (function ∷ others) =
    if func_number function == suc n then IsFunction function else function_numbered n others

-- a constructor by its place, or else a function, behind so many procedures and constructors
abbrev pub kind_or_function : ℕ → ℕ → List Constructor → Callee
kind_or_function n place [] = function_numbered n functions
kind_or_function zero place (kind ∷ kinds) = IsKind place kind
kind_or_function (suc n) place (kind ∷ kinds) = kind_or_function n (suc place) kinds

-- what a number stands for: procedures come first, then kinds of record, then functions
abbrev pub callee_among : ℕ → List Routine → List Constructor → Callee
callee_among n [] kinds = kind_or_function n zero kinds
callee_among zero (routine ∷ routines) kinds = IsRoutine routine
callee_among (suc n) (routine ∷ routines) kinds = callee_among n routines kinds

-- what a number stands for in a program
abbrev pub callee_of : Program → ℕ → Callee
callee_of program n = callee_among n program.routines program.kinds

-- The variable that a name means in a procedure. Each name of the procedure is a local, a static or a global of it.
abbrev pub meant_by : ℕ → Option ℕ → Option ℕ → Option ℕ → Root
meant_by first (Some n) static global = Local n
meant_by first None (Some n) global = Static (first + n)
meant_by first None None (Some n) = Global n
meant_by first None None None = Local zero

-- what a name means in a procedure
abbrev pub meaning_in : List (List ℕ) → List ℕ → Option Routine → Root
meaning_in globals name None = Local zero
meaning_in globals name (Some routine) = meant_by routine.first_static (index_of name routine.locals)
    (index_of name routine.statics) (index_of name globals)

-- the variable that a name means in the procedure of this number
abbrev pub meaning_of : Program → ℕ → List ℕ → Root
meaning_of program number name = meaning_in program.globals name (slice_get program.routines number)
