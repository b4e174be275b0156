-- The rules of contexts are C1 to C8.
use Rattle.std.proofs.Common.{◌≡◌, Bool, true, false, ℕ, List, [], ◌∷◌, ◌++◌, nat_lt, length, Some, if◌then◌else◌}
use Rattle.std.proofs.lemmas.Option.{none-some, same_Some}
use Rattle.icn_tree.specs.declared.rule.Rule.{Rule}
use Rattle.icn_tree.specs.declared.rule.Rule.TheVariants.{C1, C2, C3, C4, C5, C6, C7, C8}
use Rattle.icn_tree.specs.declared.tree.Name.{Name}
use Rattle.icn_tree.specs.declared.tree.Place.{Place}
use Rattle.icn_tree.specs.Trees.{Tree, MaybeTree, Trees, Clause, Clauses, Initial, NoInitial, Initially, Procedure, Declaration, Global, Link, Invocable, Record, ProcedureOf, Empty, Constant, Identifier, Keyword, Parentheses, Listing, Compound, Call, CoCall, Subscript, Section, Field, Prefix, Not, Binary, To, If, Case, Loop, Repeat, Create, Next, Fail, Break, Return, Suspend, Absent, Present, NoTrees, More, Default, Guarded, NoClauses, MoreClauses}
use Rattle.icn_decls.specs.Contexts.{BrokenRule, Context, outermost, create_context, enter_loop, leave_loop, fault, result_faults, loopless, break_by, next_by}
use Rattle.icn_decls.specs.Faults.{next_in_control, default_faults, faults, maybe_faults, all_faults, clauses_faults, clause_faults, is_default, fault_if_met, all_repeated, too_many, declared_names, initial_faults, procedure_faults, names_after, declaration_faults, declarations_faults, context_faults}
use Rattle.icn_tree.specs.NameSets.{NameTest, none_met, with_name}
use Rattle.icn_decls.specs.Views.{first_of}
use Rattle.icont_units.specs.Sources.{IsTreeRule}

abbrev AreOf : List BrokenRule → Type 0
AreOf [] = Unit {0}
AreOf (fault ∷ faults) = IsTreeRule fault.rule × AreOf faults

both : (a b : List BrokenRule) → AreOf a → AreOf b → AreOf (a ++ b)
both [] b h k = k
both (fault ∷ faults) b h k = (h.0, both faults b h.1 k)

one : (rule : Rule) (place : Place) → IsTreeRule rule → AreOf (fault rule place)
one rule place h = (h, tt)

where_true : (test : Bool) (faults : List BrokenRule) → AreOf faults → AreOf (if test then faults else [])
where_true true faults h = h
where_true false faults h = tt

either_of : (test : Bool) (a b : List BrokenRule) → AreOf a → AreOf b → AreOf (if test then a else b)
either_of true a b h k = h
either_of false a b h k = k

result_of : (context : Context) (place : Place) → AreOf (result_faults context place)
result_of context place = where_true context.in_create (fault C4 place) (one C4 place tt)

loopless_of : (in_create : Bool) (rule : Rule) (place : Place) → IsTreeRule rule → AreOf (loopless in_create rule place)
loopless_of in_create rule place h = either_of in_create (fault C4 place) (fault rule place) (one C4 place tt) (one rule place h)

break_of : (in_create : Bool) (loops : List Bool) (place : Place) → AreOf (break_by in_create loops place)
break_of in_create [] place = loopless_of in_create C2 place tt
break_of in_create (loop ∷ loops) place = tt

next_of : (in_create : Bool) (loops : List Bool) (place : Place) → AreOf (next_by in_create loops place)
next_of in_create [] place = loopless_of in_create C3 place tt
next_of in_create (true ∷ loops) place = tt
next_of in_create (false ∷ loops) place = one C3 place tt

default_of : (has_default : Bool) (place : Place) → AreOf (default_faults has_default place)
default_of has_default place = where_true has_default (fault C5 place) (one C5 place tt)

mutual
  tree_rules : (context : Context) (tree : Tree) → AreOf (faults context tree)
  tree_rules context Empty = tt
  tree_rules context (Constant place value) = tt
  tree_rules context (Identifier name) = tt
  tree_rules context (Keyword place name) = tt
  tree_rules context (Parentheses place elements) = trees_rules context elements
  tree_rules context (Listing place elements) = trees_rules context elements
  tree_rules context (Compound place exprs) = trees_rules context exprs
  tree_rules context (Call place callee arguments) = both _ _ (tree_rules context callee) (trees_rules context arguments)
  tree_rules context (CoCall place callee arguments) = both _ _ (tree_rules context callee) (trees_rules create_context arguments)
  tree_rules context (Subscript place subject subscripts) = both _ _ (tree_rules context subject) (trees_rules context subscripts)
  tree_rules context (Section place kind subject from to) = both _ _ (tree_rules context subject) (both _ _ (tree_rules context from) (tree_rules context to))
  tree_rules context (Field place subject name) = tree_rules context subject
  tree_rules context (Prefix place operator operand) = tree_rules context operand
  tree_rules context (Not place operand) = tree_rules context operand
  tree_rules context (Binary place operator first second) = both _ _ (tree_rules context first) (tree_rules context second)
  tree_rules context (To place from to by) = both _ _ (tree_rules context from) (both _ _ (tree_rules context to) (maybe_rules context by))
  tree_rules context (If place condition first second) =
      both _ _ (tree_rules context condition) (both _ _ (tree_rules context first) (maybe_rules context second))
  tree_rules context (Case place subject clauses) = both _ _ (tree_rules context subject) (clauses_rules context false clauses)
  tree_rules context (Loop place kind control body) =
      both _ _ (tree_rules (enter_loop (next_in_control kind) context) control) (maybe_rules (enter_loop true context) body)
  tree_rules context (Repeat place body) = tree_rules (enter_loop true context) body
  tree_rules context (Create place body) = tree_rules create_context body
  tree_rules context (Next place) = next_of context.in_create context.loops place
  tree_rules context (Fail place) = result_of context place
  tree_rules context (Break place value) = both _ _ (break_of context.in_create context.loops place) (tree_rules (leave_loop context) value)
  tree_rules context (Return place value) = both _ _ (result_of context place) (tree_rules context value)
  tree_rules context (Suspend place value body) = both _ _ (result_of context place) (both _ _ (tree_rules context value) (maybe_rules context body))

  maybe_rules : (context : Context) (tree : MaybeTree) → AreOf (maybe_faults context tree)
  maybe_rules context Absent = tt
  maybe_rules context (Present tree) = tree_rules context tree

  trees_rules : (context : Context) (trees : Trees) → AreOf (all_faults context trees)
  trees_rules context NoTrees = tt
  trees_rules context (More tree trees) = both _ _ (tree_rules context tree) (trees_rules context trees)

  clauses_rules : (context : Context) (has_default : Bool) (clauses : Clauses) → AreOf (clauses_faults context has_default clauses)
  clauses_rules context has_default NoClauses = tt
  clauses_rules context has_default (MoreClauses clause clauses) =
      both _ _ (clause_rules context has_default clause) (clauses_rules context (is_default has_default clause) clauses)

  clause_rules : (context : Context) (has_default : Bool) (clause : Clause) → AreOf (clause_faults context has_default clause)
  clause_rules context has_default (Default place value) = both _ _ (default_of has_default place) (tree_rules context value)
  clause_rules context has_default (Guarded place guard value) = both _ _ (tree_rules context guard) (tree_rules context value)

repeated_of : (rule : Rule) (met : NameTest) (name : Name) → IsTreeRule rule → AreOf (fault_if_met rule met name)
repeated_of rule met name h = where_true (met name.text) (fault rule name.place) (one rule name.place h)

all_repeated_of : (rule : Rule) (met : NameTest) (names : List Name) → IsTreeRule rule → AreOf (all_repeated rule met names)
all_repeated_of rule met [] h = tt
all_repeated_of rule met (name ∷ names) h = both _ _ (repeated_of rule met name h) (all_repeated_of rule (with_name met name.text) names h)

too_many_of : (count : ℕ) (name : Name) → AreOf (too_many count name)
too_many_of count name = where_true (nat_lt 65535 count) (fault C7 name.place) (one C7 name.place tt)

initial_of : (initial : Initial) → AreOf (initial_faults initial)
initial_of NoInitial = tt
initial_of (Initially place value) = tree_rules outermost value

procedure_of : (met : NameTest) (p : Procedure) → AreOf (procedure_faults met p)
procedure_of met p = both _ _ (too_many_of (length (declared_names p)) p.name) (both _ _ (repeated_of C8 met p.name tt)
    (both _ _ (all_repeated_of C1 none_met (declared_names p) tt) (both _ _ (initial_of p.initial) (trees_rules outermost p.body))))

declaration_of : (met : NameTest) (declaration : Declaration) → AreOf (declaration_faults met declaration)
declaration_of met (Global place names) = tt
declaration_of met (Link place items) = tt
declaration_of met (Invocable place items) = tt
declaration_of met (Record place name fields) =
    both _ _ (too_many_of (length fields) name) (both _ _ (repeated_of C8 met name tt) (all_repeated_of C6 none_met fields tt))
declaration_of met (ProcedureOf p) = procedure_of met p

declarations_of : (met : NameTest) (declarations : List Declaration) → AreOf (declarations_faults met declarations)
declarations_of met [] = tt
declarations_of met (declaration ∷ others) = both _ _ (declaration_of met declaration) (declarations_of (names_after met declaration) others)

first_is : (faults : List BrokenRule) (fault : BrokenRule) → AreOf faults → first_of faults ≡ Some fault → IsTreeRule fault.rule
first_is [] fault h e = absurd (none-some fault e)
first_is (first ∷ faults) fault h e = let same : first ≡ fault = same_Some first fault e in rw same at h.0

pub context_rules : (file : List Declaration) (fault : BrokenRule) → first_of (context_faults file) ≡ Some fault → IsTreeRule fault.rule
context_rules file fault e = first_is (context_faults file) fault (declarations_of none_met file) e
