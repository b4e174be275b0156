-- The tree that definitions and laws see of a tree of the program.
use Rattle.std.specs.Prelude.{List, [], ◌∷◌, map, Option, Some, None}
use Rattle.icn_tree.specs.declared.tree.Expr.{Expr}
use Rattle.icn_tree.specs.declared.tree.Expr.TheVariants as E
use Rattle.icn_tree.specs.declared.tree.Clause.TheVariants as C
use Rattle.icn_tree.specs.declared.tree.Clause.{Clause as ClauseExpr}
use Rattle.icn_tree.specs.declared.tree.Clause.TheBlock.{Held-Expr-To-3, Row_of-Expr, Row_of-Clause, end_of-Expr, more_of-Expr, end_of-Clause, more_of-Clause}
use Rattle.icn_tree.specs.declared.tree.Clause.TheBlock as Block
use Rattle.icn_tree.specs.declared.tree.LocalDecl.{LocalDecl as LocalsItem}
use Rattle.icn_tree.specs.declared.tree.Initial.{Initial as InitialItem}
use Rattle.icn_tree.specs.declared.tree.Procedure.{Procedure as ProcedureItem}
use Rattle.icn_tree.specs.declared.tree.Decl.{Decl}
use Rattle.icn_tree.specs.declared.tree.Decl.TheVariants as D
use Rattle.icn_tree.specs.declared.tree.SourceFile.{SourceFile}
use Rattle.icn_tree.specs.Trees.{LocalDecl, Initial, NoInitial, Initially, Procedure, Declaration, Global, Link, Invocable, Record, ProcedureOf, Tree, MaybeTree, Trees, Clause, Clauses, Empty, Constant, Identifier, Keyword, Parentheses, Listing, Compound, Call, CoCall, Subscript, Section, Field, Prefix, Not, Binary, To, If, Case, Loop, Repeat, Create, Next, Fail, Break, Return, Suspend, Absent, Present, NoTrees, More, Default, Guarded, NoClauses, MoreClauses}

-- trees, lists of trees and clauses, as definitions see them
abbrev mutual
  -- an expression of the program, as definitions see it
  pub tree_of : Expr → Tree
  tree_of E.Empty = Empty
  tree_of (E.Literal place value) = Constant place value
  tree_of (E.Identifier name) = Identifier name
  tree_of (E.Keyword place name) = Keyword place name
  tree_of (E.Parentheses' place shape elements) = Parentheses place (trees_of elements)
  tree_of (E.List' place shape elements) = Listing place (trees_of elements)
  tree_of (E.Compound' place shape exprs) = Compound place (trees_of exprs)
  tree_of (E.Call' place p callee shape arguments) = Call place (tree_of callee) (trees_of arguments)
  tree_of (E.CoCall' place p callee shape arguments) = CoCall place (tree_of callee) (trees_of arguments)
  tree_of (E.Subscript' place p subject shape subscripts) =
      Subscript place (tree_of subject) (trees_of subscripts)
  tree_of (E.Section' place kind p subject q from r to) =
      Section place kind (tree_of subject) (tree_of from) (tree_of to)
  tree_of (E.Field' place p subject name) = Field place (tree_of subject) name
  tree_of (E.Prefix' place operator p operand) = Prefix place operator (tree_of operand)
  tree_of (E.Not' place p operand) = Not place (tree_of operand)
  tree_of (E.Binary' place operator p left q right) = Binary place operator (tree_of left) (tree_of right)
  tree_of (E.To' place p from q to by) = To place (tree_of from) (tree_of to) (maybe_of by)
  tree_of (E.If' place p condition q first other) =
      If place (tree_of condition) (tree_of first) (maybe_of other)
  tree_of (E.Case' place p subject shape clauses) = Case place (tree_of subject) (clauses_of clauses)
  tree_of (E.Loop' place kind p control body) = Loop place kind (tree_of control) (maybe_of body)
  tree_of (E.Repeat' place p body) = Repeat place (tree_of body)
  tree_of (E.Create' place p body) = Create place (tree_of body)
  tree_of (E.Next place) = Next place
  tree_of (E.Fail place) = Fail place
  tree_of (E.Break' place p value) = Break place (tree_of value)
  tree_of (E.Return' place p value) = Return place (tree_of value)
  tree_of (E.Suspend' place p value body) = Suspend place (tree_of value) (maybe_of body)

  -- a part that may be missing
  pub maybe_of : Held-Expr-To-3 → MaybeTree
  maybe_of Block.None' = Absent
  maybe_of (Block.Some' p expr) = Present (tree_of expr)

  -- the elements of a form
  pub trees_of : {m : _} → Row_of-Expr m → Trees
  trees_of end_of-Expr = NoTrees
  trees_of (more_of-Expr expr rest) = More (tree_of expr) (trees_of rest)

  -- a clause of a `case`
  pub clause_of : ClauseExpr → Clause
  clause_of (C.Default place value) = Default place (tree_of value)
  clause_of (C.Guarded place guard value) = Guarded place (tree_of guard) (tree_of value)

  -- the clauses of a `case`
  pub clauses_of : {m : _} → Row_of-Clause m → Clauses
  clauses_of end_of-Clause = NoClauses
  clauses_of (more_of-Clause clause rest) = MoreClauses (clause_of clause) (clauses_of rest)

-- the expressions of a list, as definitions see them
abbrev pub all_of : List Expr → Trees
all_of [] = NoTrees
all_of (expr ∷ exprs) = More (tree_of expr) (all_of exprs)

-- the clauses of a list
abbrev pub all_clauses_of : List ClauseExpr → Clauses
all_clauses_of [] = NoClauses
all_clauses_of (clause ∷ clauses) = MoreClauses (clause_of clause) (all_clauses_of clauses)

-- a declaration of locals or statics
abbrev pub locals_of : LocalsItem → LocalDecl
locals_of locals = record { place = locals.place; kind = locals.kind; names = locals.names.items }

-- the `initial` of a procedure, if it has one
abbrev pub initial_of : Option InitialItem → Initial
initial_of None = NoInitial
initial_of (Some initial) = Initially initial.place (tree_of initial.value)

-- a procedure of the program, as definitions see it
abbrev pub procedure_of : ProcedureItem → Procedure
procedure_of p = record {
  place = p.place;
  name = p.name;
  parameters = p.parameters.items;
  is_variadic = p.is_variadic;
  locals = map locals_of p.locals.items;
  initial = initial_of p.initial;
  body = all_of p.body.items;
}

-- a declaration of the program, as definitions see it
abbrev pub declaration_of : Decl → Declaration
declaration_of (D.Global place names) = Global place names.items
declaration_of (D.Link place items) = Link place items.items
declaration_of (D.Invocable place items) = Invocable place items.items
declaration_of (D.Record place name fields) = Record place name fields.items
declaration_of (D.Procedure p) = ProcedureOf (procedure_of p)

-- the declarations of a program text
abbrev pub declarations_of : SourceFile → List Declaration
declarations_of file = map declaration_of file.decls.items
