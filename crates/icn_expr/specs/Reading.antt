-- What the automaton finds in front of some tokens.
use Rattle.std.specs.Prelude.{ℕ, suc, ◌+◌, ◌*◌, List, [], ◌∷◌, length, Option, Some, None}
use Rattle.icn_tree.specs.declared.token.Kind.{Kind}
use Rattle.icn_tree.specs.declared.token.Kind.TheVariants.{Operator as OperatorKind}
use Rattle.icn_tree.specs.declared.token.Token.{Token}
use Rattle.icn_tree.specs.declared.token.Operator.{Operator}
use Rattle.icn_tree.specs.declared.token.Operator.TheVariants.{StarStar, PlusPlus, MinusMinus, BarBar, BarBarBar, NotEqual, EqualEqual, NotEqualEqual, EqualEqualEqual, NotEqualEqualEqual}
use Rattle.icn_expr.specs.Automata.{Builds, ReadingState, Starting, Climbing, Closing, Finished, Broken, run}

-- how many operators before an operand a token can be
abbrev pub operator_weight : Operator → ℕ
operator_weight BarBarBar = 3
operator_weight NotEqualEqualEqual = 4
operator_weight NotEqualEqual = 3
operator_weight EqualEqualEqual = 3
operator_weight BarBar = 2
operator_weight PlusPlus = 2
operator_weight MinusMinus = 2
operator_weight StarStar = 2
operator_weight NotEqual = 2
operator_weight EqualEqual = 2
operator_weight _ = 1

-- for how many tokens a kind counts: an operator that can be several before an operand counts for each
abbrev pub kind_weight : Kind → ℕ
kind_weight (OperatorKind operator) = operator_weight operator
kind_weight _ = 1

-- how much there is to be read in these tokens
abbrev pub weight : List Token → ℕ
weight [] = 0
weight (token ∷ tokens) = kind_weight token.kind + weight tokens

-- a number that falls at each step, so that so many steps come to the end
abbrev pub steps_left : {V L C : Type 0} → ReadingState V L C → ℕ
steps_left (Starting level frames tokens) = 8 * weight tokens + 4 * length frames + 3
steps_left (Climbing level place tree frames tokens) = 8 * weight tokens + 4 * length frames + 2
steps_left (Closing tree present frames tokens) = 8 * weight tokens + 4 * length frames + 1
steps_left (Finished tree tokens) = 0
steps_left Broken = 0

-- the tree that was read, with the tokens behind it
abbrev pub result : {V L C : Type 0} → ReadingState V L C → Option (V × List Token)
result (Finished tree tokens) = Some (tree, tokens)
result _ = None

-- what comes of a state after as many steps as it can take
abbrev pub end_of : {V L C : Type 0} → Builds V L C → ReadingState V L C → Option (V × List Token)
end_of make state = result (run make (steps_left state) state)

-- an expression of this level in front of the tokens, as long as it can be, and the tokens behind it
abbrev pub expression_read : {V L C : Type 0} → Builds V L C → ℕ → List Token → Option (V × List Token)
expression_read make level tokens = end_of make (Starting level [] tokens)
