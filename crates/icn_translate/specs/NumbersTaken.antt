-- How many numbers the code of a form takes at most: a label has one, a name that is new has one, and an element of a list
-- has one for its count, or the labels of its bound or of its co-expression.
use Rattle.std.specs.Prelude.{ℕ, ◌+◌, ◌<◌, List, [], ◌∷◌, length, ⊤}
use Rattle.std.specs.List.{AllByRecursion}
use Rattle.icn_profile.specs.Numbers.{number_limit}
use Rattle.icn_tree.specs.Trees.{Declaration, Global, Link, Invocable, Record, ProcedureOf, Procedure, LocalDecl, Initial, NoInitial, Initially, Tree, MaybeTree, Trees, Clauses, Empty, Constant, Identifier, Keyword, Parentheses, Listing, Compound, Call, CoCall, Subscript, Section, Field, Prefix, Not, Binary, To, If, Case, Loop, Repeat, Create, Next, Fail, Break, Return, Suspend, Absent, Present, NoTrees, More, Default, Guarded, NoClauses, MoreClauses}

-- The numbers that trees take, with those of their parts
abbrev mutual
  -- the numbers that an expression takes
  pub numbers : Tree → ℕ
  numbers Empty = 0
  numbers (Constant place value) = 0
  numbers (Identifier name) = 1
  numbers (Keyword place name) = 0
  numbers (Parentheses place es) = all_numbers es
  numbers (Listing place es) = all_numbers es
  numbers (Compound place es) = all_numbers es
  numbers (Call place f es) = numbers f + all_numbers es
  numbers (CoCall place f es) = numbers f + all_numbers es
  numbers (Subscript place x is) = numbers x + all_numbers is
  numbers (Section place kind x i j) = numbers x + numbers i + numbers j
  numbers (Field place x name) = numbers x
  numbers (Prefix place operator x) = 1 + numbers x
  numbers (Not place x) = 1 + numbers x
  numbers (Binary place operator a b) = 2 + numbers a + numbers b
  numbers (To place a b by) = numbers a + numbers b + maybe_numbers by
  numbers (If place c a b) = 2 + numbers c + numbers a + maybe_numbers b
  numbers (Case place e clauses) = 1 + numbers e + clause_numbers clauses
  numbers (Loop place kind c b) = 5 + numbers c + maybe_numbers b
  numbers (Repeat place b) = 4 + numbers b
  numbers (Create place e) = 2 + numbers e
  numbers (Next place) = 1
  numbers (Fail place) = 0
  numbers (Break place e) = 1 + numbers e
  numbers (Return place e) = 1 + numbers e
  numbers (Suspend place e b) = 1 + numbers e + maybe_numbers b

  -- those of expressions, two more for each
  pub all_numbers : Trees → ℕ
  all_numbers NoTrees = 0
  all_numbers (More e es) = 2 + numbers e + all_numbers es

  -- those of a part that may be missing
  pub maybe_numbers : MaybeTree → ℕ
  maybe_numbers Absent = 0
  maybe_numbers (Present e) = numbers e

  -- those of clauses of `case`, two more for each that is guarded
  pub clause_numbers : Clauses → ℕ
  clause_numbers NoClauses = 0
  clause_numbers (MoreClauses (Default place e) clauses) = numbers e + clause_numbers clauses
  clause_numbers (MoreClauses (Guarded place s b) clauses) =
      2 + numbers s + numbers b + clause_numbers clauses

-- the numbers that `initial` takes
abbrev pub initial_numbers : Initial → ℕ
initial_numbers NoInitial = 0
initial_numbers (Initially place e) = 1 + numbers e

-- one for each name of these locals
abbrev pub local_numbers : List LocalDecl → ℕ
local_numbers [] = 0
local_numbers (locals ∷ others) = length locals.names + local_numbers others

-- the numbers that a procedure takes: one for each name that it declares, and those of its expressions
abbrev pub procedure_numbers : Procedure → ℕ
procedure_numbers procedure = length procedure.parameters + local_numbers procedure.locals
    + initial_numbers procedure.initial + all_numbers procedure.body

-- the numbers of a procedure's code have 32 bits
abbrev pub HasRoom : Declaration → Type 0
HasRoom (Global place names) = ⊤
HasRoom (Link place items) = ⊤
HasRoom (Invocable place items) = ⊤
HasRoom (Record place name fields) = ⊤
HasRoom (ProcedureOf procedure) = procedure_numbers procedure < number_limit

-- the numbers of each procedure's code have 32 bits
abbrev pub HaveRoom : List Declaration → Type 0
HaveRoom declarations = AllByRecursion HasRoom declarations
