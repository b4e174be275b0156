-- The trees of a program text, as definitions and laws see them.
use Rattle.std.specs.Prelude.{List, Bool}
use Rattle.icn_tree.specs.declared.token.Operator.{Operator}
use Rattle.icn_tree.specs.declared.tree.Place.{Place}
use Rattle.icn_tree.specs.declared.tree.Name.{Name}
use Rattle.icn_tree.specs.declared.tree.Literal.{Literal}
use Rattle.icn_tree.specs.declared.tree.Infix.{Infix}
use Rattle.icn_tree.specs.declared.tree.SectionKind.{SectionKind}
use Rattle.icn_tree.specs.declared.tree.LoopKind.{LoopKind}
use Rattle.icn_tree.specs.declared.tree.LocalKind.{LocalKind}
use Rattle.icn_tree.specs.declared.tree.DeclItem.{DeclItem}

-- a place is that of the form's first token
mutual
  -- an expression: one case for each form
  pub data Tree : Type 0 where
    Empty : Tree
    Constant : Place → Literal → Tree
    Identifier : Name → Tree
    Keyword : Place → Name → Tree
    Parentheses : Place → Trees → Tree
    Listing : Place → Trees → Tree
    Compound : Place → Trees → Tree
    Call : Place → Tree → Trees → Tree
    CoCall : Place → Tree → Trees → Tree
    Subscript : Place → Tree → Trees → Tree
    Section : Place → SectionKind → Tree → Tree → Tree → Tree
    Field : Place → Tree → Name → Tree
    Prefix : Place → Operator → Tree → Tree
    Not : Place → Tree → Tree
    Binary : Place → Infix → Tree → Tree → Tree
    To : Place → Tree → Tree → MaybeTree → Tree
    If : Place → Tree → Tree → MaybeTree → Tree
    Case : Place → Tree → Clauses → Tree
    Loop : Place → LoopKind → Tree → MaybeTree → Tree
    Repeat : Place → Tree → Tree
    Create : Place → Tree → Tree
    Next : Place → Tree
    Fail : Place → Tree
    Break : Place → Tree → Tree
    Return : Place → Tree → Tree
    Suspend : Place → Tree → MaybeTree → Tree

  -- a part of a form that may be missing
  pub data MaybeTree : Type 0 where
    Absent : MaybeTree
    Present : Tree → MaybeTree

  -- the elements of a list, in their order
  pub data Trees : Type 0 where
    NoTrees : Trees
    More : Tree → Trees → Trees

  -- a clause of a `case`: its default, or a guard with the value behind it
  pub data Clause : Type 0 where
    Default : Place → Tree → Clause
    Guarded : Place → Tree → Tree → Clause

  -- the clauses of a `case`, in their order
  pub data Clauses : Type 0 where
    NoClauses : Clauses
    MoreClauses : Clause → Clauses → Clauses

-- the elements that a list gives to a call, to `[ ]` and to `p{ }`: none, where it is one empty expression
abbrev pub elements_of : Trees → Trees
elements_of (More Empty NoTrees) = NoTrees
elements_of trees = trees

-- `local` or `static` with names
pub record LocalDecl : Type 0 where
  pub place : Place
  pub kind : LocalKind
  pub names : List Name

-- `initial` with an expression
pub data Initial : Type 0 where
  NoInitial : Initial
  Initially : Place → Tree → Initial

-- A procedure: its name, its parameters, of which the last one may collect all arguments that are left, its other
-- locals, its `initial` and its body.
pub record Procedure : Type 0 where
  pub place : Place
  pub name : Name
  pub parameters : List Name
  pub is_variadic : Bool
  pub locals : List LocalDecl
  pub initial : Initial
  pub body : Trees

-- a declaration of a file, one case for each kind; its place is that of its first word
pub data Declaration : Type 0 where
  Global : Place → List Name → Declaration
  Link : Place → List DeclItem → Declaration
  Invocable : Place → List DeclItem → Declaration
  Record : Place → Name → List Name → Declaration
  ProcedureOf : Procedure → Declaration
