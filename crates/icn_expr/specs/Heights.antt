-- How high a tree is. A leaf has height 1, an empty expression too, and a form is one higher than its highest part.
use Rattle.std.specs.Prelude.{ℕ, suc, max}
use Rattle.icn_tree.specs.Trees.{Tree, MaybeTree, Trees, Clause, Clauses, Empty, Constant, Identifier, Keyword, Parentheses, Listing, Compound, Call, CoCall, Subscript, Section, Field, Prefix, Not, Binary, To, If, Case, Loop, Repeat, Create, Next, Fail, Break, Return, Suspend, Absent, Present, NoTrees, More, Default, Guarded, NoClauses, MoreClauses, Initial, NoInitial, Initially, Procedure}

-- the heights of trees, of lists of trees and of clauses
abbrev mutual
  -- the height of a tree
  pub height : Tree → ℕ
  height Empty = 1
  height (Constant place literal) = 1
  height (Identifier name) = 1
  height (Keyword place name) = 1
  height (Parentheses place elements) = suc (highest elements)
  height (Listing place elements) = suc (highest elements)
  height (Compound place exprs) = suc (highest exprs)
  height (Call place callee arguments) = suc (max (height callee) (highest arguments))
  height (CoCall place callee arguments) = suc (max (height callee) (highest arguments))
  height (Subscript place subject subscripts) = suc (max (height subject) (highest subscripts))
  height (Section place kind subject from to) = suc (max (height subject) (max (height from) (height to)))
  height (Field place subject name) = suc (height subject)
  height (Prefix place operator operand) = suc (height operand)
  height (Not place operand) = suc (height operand)
  height (Binary place operator left right) = suc (max (height left) (height right))
  height (To place from to by) = suc (max (height from) (max (height to) (height_if by)))
  height (If place condition first other) =
      suc (max (height condition) (max (height first) (height_if other)))
  height (Case place subject clauses) = suc (max (height subject) (highest_clause clauses))
  height (Loop place kind control body) = suc (max (height control) (height_if body))
  height (Repeat place body) = suc (height body)
  height (Create place body) = suc (height body)
  height (Next place) = 1
  height (Fail place) = 1
  height (Break place value) = suc (height value)
  height (Return place value) = suc (height value)
  height (Suspend place value body) = suc (max (height value) (height_if body))

  -- the height of a part that may be missing, which is 0 then
  pub height_if : MaybeTree → ℕ
  height_if Absent = 0
  height_if (Present tree) = height tree

  -- the height of the highest element, and 0 where there is none
  pub highest : Trees → ℕ
  highest NoTrees = 0
  highest (More tree trees) = max (height tree) (highest trees)

  -- a clause is no form of its own
  pub clause_height : Clause → ℕ
  clause_height (Default place value) = height value
  clause_height (Guarded place guard value) = max (height guard) (height value)

  -- the height of the highest clause, and 0 where there is none
  pub highest_clause : Clauses → ℕ
  highest_clause NoClauses = 0
  highest_clause (MoreClauses clause clauses) = max (clause_height clause) (highest_clause clauses)

-- the height of an `initial`, and 0 where there is none
abbrev pub initial_height : Initial → ℕ
initial_height NoInitial = 0
initial_height (Initially place value) = height value

-- the height of the highest tree of a procedure
abbrev pub procedure_height : Procedure → ℕ
procedure_height procedure = max (initial_height procedure.initial) (highest procedure.body)
