-- The context rules that a file breaks, in the order of their places, and at one place in the order of their numbers.
use Rattle.std.specs.Prelude.{ℕ, Bool, true, false, List, [], ◌∷◌, ◌++◌, length, nat_lt, if◌then◌else◌}
use Rattle.std.specs.List.{flat_map}
use Rattle.icn_profile.specs.Numbers.{most_names}
use Rattle.icn_tree.specs.declared.rule.Rule.{Rule}
use Rattle.icn_tree.specs.declared.rule.Rule.TheVariants.{C1, C5, C6, C7, C8}
use Rattle.icn_tree.specs.declared.tree.LoopKind.{LoopKind}
use Rattle.icn_tree.specs.declared.tree.LoopKind.TheVariants as Loops
use Rattle.icn_tree.specs.declared.tree.Name.{Name}
use Rattle.icn_tree.specs.declared.tree.Place.{Place}
use Rattle.icn_tree.specs.Trees.{Tree, MaybeTree, Trees, Clause, Clauses, Initial, NoInitial, Initially, Procedure, Declaration, Global, Link, Invocable, Record, ProcedureOf, Empty, Constant, Identifier, Keyword, Parentheses, Listing, Compound, Call, CoCall, Subscript, Section, Field, Prefix, Not, Binary, To, If, Case, Loop, Repeat, Create, Next, Fail, Break, Return, Suspend, Absent, Present, NoTrees, More, Default, Guarded, NoClauses, MoreClauses}
use Rattle.icn_tree.specs.NameSets.{NameTest, none_met, with_name}
use Rattle.icn_decls.specs.Contexts.{BrokenRule, Context, outermost, create_context, enter_loop, leave_loop, fault, result_faults, break_faults, next_faults}

-- `next` may stand in the control expression of `while` and `until`, and not in that of `every`
abbrev pub next_in_control : LoopKind → Bool
next_in_control Loops.While = true
next_in_control Loops.Until = true
next_in_control Loops.Every = false

-- a `default` clause, where another one may stand before it
abbrev pub default_faults : Bool → Place → List BrokenRule
default_faults has_default place = if has_default then fault C5 place else []

-- The rules that trees break, with those of their parts in the order of the source
abbrev mutual
  -- the context rules that a tree breaks
  pub faults : Context → Tree → List BrokenRule
  faults context Empty = []
  faults context (Constant place value) = []
  faults context (Identifier name) = []
  faults context (Keyword place name) = []
  faults context (Parentheses place elements) = all_faults context elements
  faults context (Listing place elements) = all_faults context elements
  faults context (Compound place exprs) = all_faults context exprs
  faults context (Call place callee arguments) = faults context callee ++ all_faults context arguments
  faults context (CoCall place callee arguments) =
      faults context callee ++ all_faults create_context arguments
  faults context (Subscript place subject subscripts) =
      faults context subject ++ all_faults context subscripts
  faults context (Section place kind subject from to) =
      faults context subject ++ (faults context from ++ faults context to)
  faults context (Field place subject name) = faults context subject
  faults context (Prefix place operator operand) = faults context operand
  faults context (Not place operand) = faults context operand
  faults context (Binary place operator first second) = faults context first ++ faults context second
  faults context (To place from to by) = faults context from ++ (faults context to ++ maybe_faults context by)
  faults context (If place condition first second) =
      faults context condition ++ (faults context first ++ maybe_faults context second)
  faults context (Case place subject clauses) = faults context subject ++ clauses_faults context false clauses
  faults context (Loop place kind control body) = faults (enter_loop (next_in_control kind) context) control
      ++ maybe_faults (enter_loop true context) body
  faults context (Repeat place body) = faults (enter_loop true context) body
  faults context (Create place body) = faults create_context body
  faults context (Next place) = next_faults context place
  faults context (Fail place) = result_faults context place
  faults context (Break place value) = break_faults context place ++ faults (leave_loop context) value
  faults context (Return place value) = result_faults context place ++ faults context value
  faults context (Suspend place value body) =
      result_faults context place ++ (faults context value ++ maybe_faults context body)

  pub maybe_faults : Context → MaybeTree → List BrokenRule
  maybe_faults context Absent = []
  maybe_faults context (Present tree) = faults context tree

  -- the context rules that several trees break
  pub all_faults : Context → Trees → List BrokenRule
  all_faults context NoTrees = []
  all_faults context (More tree trees) = faults context tree ++ all_faults context trees

  -- the clauses of a `case`, behind those among which a `default` was or was not
  pub clauses_faults : Context → Bool → Clauses → List BrokenRule
  clauses_faults context has_default NoClauses = []
  clauses_faults context has_default (MoreClauses clause clauses) = clause_faults context has_default clause
      ++ clauses_faults context (is_default has_default clause) clauses

  pub clause_faults : Context → Bool → Clause → List BrokenRule
  clause_faults context has_default (Default place value) =
      default_faults has_default place ++ faults context value
  clause_faults context has_default (Guarded place guard value) = faults context guard ++ faults context value

  -- a `default` was before, or this is one
  pub is_default : Bool → Clause → Bool
  is_default has_default (Default place value) = true
  is_default has_default (Guarded place guard value) = has_default

-- names met one after the other
abbrev pub with_names : NameTest → List Name → NameTest
with_names met [] = met
with_names met (name ∷ names) = with_names (with_name met name.text) names

-- a name that was met
abbrev pub fault_if_met : Rule → NameTest → Name → List BrokenRule
fault_if_met rule met name = if met name.text then fault rule name.place else []

-- names that were met, or that stand among those before them
abbrev pub all_repeated : Rule → NameTest → List Name → List BrokenRule
all_repeated rule met [] = []
all_repeated rule met (name ∷ names) =
    fault_if_met rule met name ++ all_repeated rule (with_name met name.text) names

-- more than 65535 names at once
abbrev pub too_many : ℕ → Name → List BrokenRule
too_many count name = if nat_lt most_names count then fault C7 name.place else []

-- the parameters, locals and statics of a procedure
abbrev pub declared_names : Procedure → List Name
declared_names procedure = procedure.parameters ++ flat_map (λ locals. locals.names) procedure.locals

-- the context rules that an `initial` clause breaks
abbrev pub initial_faults : Initial → List BrokenRule
initial_faults NoInitial = []
initial_faults (Initially place value) = faults outermost value

-- the context rules that a procedure breaks, where names were declared before it
abbrev pub procedure_faults : NameTest → Procedure → List BrokenRule
procedure_faults met procedure =
    too_many (length (declared_names procedure)) procedure.name ++ (fault_if_met C8 met procedure.name
    ++ (all_repeated C1 none_met (declared_names procedure)
    ++ (initial_faults procedure.initial ++ all_faults outermost procedure.body)))

-- the context rules that a record breaks, where names were declared before it
abbrev pub record_faults : NameTest → Name → List Name → List BrokenRule
record_faults met name fields =
    too_many (length fields) name ++ (fault_if_met C8 met name ++ all_repeated C6 none_met fields)

-- the names of procedures and records, behind a declaration
abbrev pub names_after : NameTest → Declaration → NameTest
names_after met (Global place names) = met
names_after met (Link place items) = met
names_after met (Invocable place items) = met
names_after met (Record place name fields) = with_name met name.text
names_after met (ProcedureOf procedure) = with_name met procedure.name.text

-- the context rules that a declaration breaks, where names were declared before it
abbrev pub declaration_faults : NameTest → Declaration → List BrokenRule
declaration_faults met (Global place names) = []
declaration_faults met (Link place items) = []
declaration_faults met (Invocable place items) = []
declaration_faults met (Record place name fields) = record_faults met name fields
declaration_faults met (ProcedureOf procedure) = procedure_faults met procedure

-- the context rules that declarations break, where names were declared before them
abbrev pub declarations_faults : NameTest → List Declaration → List BrokenRule
declarations_faults met [] = []
declarations_faults met (declaration ∷ others) =
    declaration_faults met declaration ++ declarations_faults (names_after met declaration) others

-- the faults of a file
abbrev pub context_faults : List Declaration → List BrokenRule
context_faults declarations = declarations_faults none_met declarations
