-- The tokens of an expression have room for the numbers that its code takes: one line a form, from the phrases of its production.
use Rattle.std.proofs.Common.{◌≡◌, ◌≤◌, ◌<◌, inl, inr, ℕ, ◌+◌, ◌*◌, List, [], ◌∷◌, length, Option, None, Some, refl, ap, ◌∙◌, subst, arith}
use Rattle.icn_tree.specs.declared.token.Kind.{Kind}
use Rattle.icn_tree.specs.declared.token.Kind.TheVariants.{Operator as OperatorKind}
use Rattle.icn_tree.specs.declared.token.Token.{Token}
use Rattle.icn_tree.specs.declared.token.Operator.{Operator}
use Rattle.icn_tree.specs.declared.token.Operator.TheVariants.{BarBar}
use Rattle.icn_tree.specs.declared.tree.Place.{Place}
use Rattle.icn_tree.specs.declared.tree.Name.{Name}
use Rattle.icn_tree.specs.declared.tree.Infix.{Infix}
use Rattle.icn_tree.specs.Levels.{prefix_of}
use Rattle.icn_tree.specs.Phrases.{Phrase, nothing, sign_at, sign, ◌⨾◌, starts_at}
use Rattle.icn_tree.specs.Grammar.{Part, Spells, SpellsList, SpellsMore, SpellsClause, SpellsClauses, SpellsMoreClauses, IsPrefix, Separator, ByComma, BySemicolon, literal_kind, keyword, infix_sign, before}
use Rattle.icn_tree.specs.Trees.{Tree, Trees, Clause, Clauses, Empty, Constant, Identifier, Keyword, Parentheses, Listing, Compound, Call, CoCall, Subscript, Section, Field, Prefix, Not, Binary, To, If, Case, Loop, Repeat, Create, Next, Fail, Break, Return, Suspend, Absent, Present, NoTrees, More, Default, Guarded, NoClauses, MoreClauses}
use Rattle.icn_expr.specs.Reading.{operator_weight, kind_weight, weight}
use Rattle.icn_translate.specs.NumbersTaken.{numbers, all_numbers, clause_numbers}

-- Weights: a token counts for each operator before an operand that it can be

one_operator : (operator : Operator) → 1 ≤ operator_weight operator
one_operator BarBar = omega arith
one_operator _ = omega arith

one_kind : (kind : Kind) → 1 ≤ kind_weight kind
one_kind (OperatorKind operator) = one_operator operator
one_kind _ = omega arith

-- a token weighs four at most
operator_light : (operator : Operator) → operator_weight operator ≤ 4
operator_light BarBar = omega arith
operator_light _ = omega arith

kind_light : (kind : Kind) → kind_weight kind ≤ 4
kind_light (OperatorKind operator) = operator_light operator
kind_light _ = omega arith

pub weight_by : (tokens : List Token) → weight tokens ≤ 4 * length tokens
weight_by [] = omega arith
weight_by (token ∷ tokens) = omega (arith, kind_light token.kind, weight_by tokens)

abbrev other_weight : Option Operator → ℕ
other_weight (Some other) = operator_weight other
other_weight None = 0

abbrev others_weight : Option (Operator × Option Operator) → ℕ
others_weight (Some found) = other_weight found.1
others_weight None = 0

-- what is left of a token that was one operator before others
lighter : (characters : Operator) → others_weight (prefix_of characters) < operator_weight characters
lighter BarBar = omega arith
lighter _ = omega arith

before_weight : (place : Place) (others : Option Operator) (tokens : List Token)
    → weight (before place others tokens) ≡ other_weight others + weight tokens
before_weight place None tokens = omega arith
before_weight place (Some other) tokens = refl

-- Phrases

-- the tokens of such a phrase have room for so many numbers: sixteen for each operator or other token
pub record Room (n : ℕ) (p : Phrase) : Type 0 where
  pub holds : (here after : List Token) → p here after → n + 16 * weight after ≤ 16 * weight here

pub room_less : {n m : ℕ} {p : Phrase} → Room m p → n ≤ m → Room n p
room_less a less = record { holds = λ here after s. omega (arith, less, a.holds here after s) }

pub room_nothing : Room 0 nothing
room_nothing = record { holds = λ here after e. omega (arith, ap weight e) }

pub room_sign_at : (place : Place) (kind : Kind) → Room 16 (sign_at place kind)
room_sign_at place kind = record { holds = λ here after e. omega (arith, one_kind kind, ap weight e) }

pub room_sign : (kind : Kind) → Room 16 (sign kind)
room_sign kind = record { holds = λ here after s. omega (arith, one_kind kind, ap weight s.1) }

pub room_then : {n m : ℕ} {p q : Phrase} → Room n p → Room m q → Room (n + m) (p ⨾ q)
room_then a b = record { holds = λ here after s. omega (arith, a.holds here s.0 s.1, b.holds s.0 after s.2) }

room_starts : {n : ℕ} {p : Phrase} (place : Place) → Room n p → Room n (starts_at place p)
room_starts place a = record { holds = λ here after s. a.holds here after s.1 }

pub room_part : {n : ℕ} {tree : Tree} (level : ℕ) → Room n (Spells tree) → Room n (Part level tree (Spells tree))
room_part level a = record { holds = λ here after s. a.holds here after s.spells }

keyword_by : (name : Name) (here after : List Token) → keyword name here after → 16 + 16 * weight after ≤ 16 * weight here
keyword_by name here after (inl s) = (room_sign_at name.place _).holds here after s
keyword_by name here after (inr s) = (room_sign_at name.place _).holds here after s.1

room_keyword : (name : Name) → Room 16 (keyword name)
room_keyword name = record { holds = keyword_by name }

room_prefix : (place : Place) (operator : Operator) → Room 16 (IsPrefix place operator)
room_prefix place operator = record {
  holds = λ here after s.
      let less = subst (λ found. others_weight found < operator_weight s.characters) s.first (lighter s.characters) in
      omega (arith, less, ap weight s.is_here, ap weight s.is_after ∙ before_weight place s.others s.behind);
}

room_infix : (operator : Infix) → Room 16 (infix_sign operator)
room_infix operator = record { holds = λ here after s. (room_sign _).holds here after s.1 }

-- what a list takes, but for its first element, which may have no token
abbrev in_list : Trees → ℕ
in_list NoTrees = 0
in_list (More e es) = numbers e + all_numbers es

-- the signs round a list have room for its first element
between : {p list q : Phrase} (es : Trees) → Room 16 p → Room (in_list es) list → Room 16 q → Room (all_numbers es) (p ⨾ list ⨾ q)
between NoTrees a b c = room_less (room_then a (room_then b c)) (omega arith)
between (More e es) a b c = room_less (room_then a (room_then b c)) (omega arith)

-- Forms, each from the phrases of its production

-- what a clause takes
abbrev one_clause : Clause → ℕ
one_clause (Default place e) = numbers e
one_clause (Guarded place s b) = 2 + numbers s + numbers b

clauses_are : (clause : Clause) (others : Clauses)
    → clause_numbers (MoreClauses clause others) ≡ one_clause clause + clause_numbers others
clauses_are (Default place e) others = refl
clauses_are (Guarded place s b) others = refl

mutual
  pub tree_room : (tree : Tree) → Room (numbers tree) (Spells tree)
  tree_room Empty = room_nothing
  tree_room (Constant place value) = room_less (room_sign_at place (literal_kind value)) (omega arith)
  tree_room (Identifier name) = room_less (room_sign_at name.place _) (omega arith)
  tree_room (Keyword place name) = room_less (room_then (room_sign_at place _) (room_keyword name)) (omega arith)
  tree_room (Parentheses place es) = between es (room_sign_at place _) (list_room ByComma es) (room_sign _)
  tree_room (Listing place es) = between es (room_sign_at place _) (list_room ByComma es) (room_sign _)
  tree_room (Compound place es) = between es (room_sign_at place _) (list_room BySemicolon es) (room_sign _)
  tree_room (Call place f es) =
      room_starts place (room_then (room_part 13 (tree_room f)) (between es (room_sign _) (list_room ByComma es) (room_sign _)))
  tree_room (CoCall place f es) =
      room_starts place (room_then (room_part 13 (tree_room f)) (between es (room_sign _) (list_room ByComma es) (room_sign _)))
  tree_room (Subscript place x es) =
      room_starts place (room_then (room_part 13 (tree_room x)) (between es (room_sign _) (list_room ByComma es) (room_sign _)))
  tree_room (Section place kind x a b) = room_less
      (room_starts place (room_then (room_part 13 (tree_room x))
      (room_then (room_sign _) (room_then (room_part 1 (tree_room a))
      (room_then (room_sign _) (room_then (room_part 1 (tree_room b)) (room_sign _))))))) (omega arith)
  tree_room (Field place x name) = room_less
      (room_starts place (room_then (room_part 13 (tree_room x))
      (room_then (room_sign _) (room_sign_at name.place _)))) (omega arith)
  tree_room (Prefix place o e) = room_less (room_then (room_prefix place o) (room_part 12 (tree_room e))) (omega arith)
  tree_room (Not place e) = room_less (room_then (room_sign_at place _) (room_part 12 (tree_room e))) (omega arith)
  tree_room (Binary place o a b) = room_less
      (room_starts place (room_then (room_part _ (tree_room a))
      (room_then (room_infix o) (room_part _ (tree_room b))))) (omega arith)
  tree_room (To place a b Absent) = room_less
      (room_starts place (room_then (room_part 4 (tree_room a))
      (room_then (room_sign _) (room_part 5 (tree_room b))))) (omega arith)
  tree_room (To place a b (Present c)) = room_less
      (room_starts place (room_then (room_part 4 (tree_room a))
      (room_then (room_sign _) (room_then (room_part 5 (tree_room b))
      (room_then (room_sign _) (room_part 5 (tree_room c))))))) (omega arith)
  tree_room (If place c a Absent) = room_less
      (room_then (room_sign_at place _) (room_then (room_part 1 (tree_room c))
      (room_then (room_sign _) (room_part 1 (tree_room a))))) (omega arith)
  tree_room (If place c a (Present b)) = room_less
      (room_then (room_sign_at place _) (room_then (room_part 1 (tree_room c))
      (room_then (room_sign _) (room_then (room_part 1 (tree_room a))
      (room_then (room_sign _) (room_part 1 (tree_room b))))))) (omega arith)
  tree_room (Case place e cases) = room_less
      (room_then (room_sign_at place _) (room_then (room_part 1 (tree_room e))
      (room_then (room_sign _) (room_then (room_sign _)
      (room_then (clauses_room cases) (room_sign _)))))) (omega arith)
  tree_room (Loop place kind c Absent) =
      room_less (room_then (room_sign_at place _) (room_part 1 (tree_room c))) (omega arith)
  tree_room (Loop place kind c (Present b)) = room_less
      (room_then (room_sign_at place _) (room_then (room_part 1 (tree_room c))
      (room_then (room_sign _) (room_part 1 (tree_room b))))) (omega arith)
  tree_room (Repeat place b) = room_less (room_then (room_sign_at place _) (room_part 1 (tree_room b))) (omega arith)
  tree_room (Create place e) = room_less (room_then (room_sign_at place _) (room_part 1 (tree_room e))) (omega arith)
  tree_room (Next place) = room_less (room_sign_at place _) (omega arith)
  tree_room (Fail place) = room_less (room_sign_at place _) (omega arith)
  tree_room (Break place e) = room_less (room_then (room_sign_at place _) (room_part 0 (tree_room e))) (omega arith)
  tree_room (Return place e) = room_less (room_then (room_sign_at place _) (room_part 0 (tree_room e))) (omega arith)
  tree_room (Suspend place e Absent) =
      room_less (room_then (room_sign_at place _) (room_part 0 (tree_room e))) (omega arith)
  tree_room (Suspend place e (Present b)) = room_less
      (room_then (room_sign_at place _) (room_then (room_part 0 (tree_room e))
      (room_then (room_sign _) (room_part 1 (tree_room b))))) (omega arith)

  list_room : (by : Separator) (es : Trees) → Room (in_list es) (SpellsList by es)
  list_room by NoTrees = record { holds = λ here after s. absurd s }
  list_room by (More e es) = room_then (room_part 0 (tree_room e)) (more_room by es)

  more_room : (by : Separator) (es : Trees) → Room (all_numbers es) (SpellsMore by es)
  more_room by NoTrees = room_nothing
  more_room by (More e es) =
      room_less (room_then (room_sign _) (room_then (room_part 0 (tree_room e)) (more_room by es))) (omega arith)

  clause_room : (clause : Clause) → Room (one_clause clause) (SpellsClause clause)
  clause_room (Default place e) = room_less
      (room_then (room_sign_at place _) (room_then (room_sign _) (room_part 1 (tree_room e)))) (omega arith)
  clause_room (Guarded place c e) = room_less
      (room_starts place (room_then (room_part 1 (tree_room c))
      (room_then (room_sign _) (room_part 1 (tree_room e))))) (omega arith)

  clauses_room : (cases : Clauses) → Room (clause_numbers cases) (SpellsClauses cases)
  clauses_room NoClauses = record { holds = λ here after s. absurd s }
  clauses_room (MoreClauses clause cases) =
      room_less (room_then (clause_room clause) (more_clauses_room cases)) (omega (arith, clauses_are clause cases))

  more_clauses_room : (cases : Clauses) → Room (clause_numbers cases) (SpellsMoreClauses cases)
  more_clauses_room NoClauses = room_nothing
  more_clauses_room (MoreClauses clause cases) =
      room_less (room_then (room_sign _) (room_then (clause_room clause) (more_clauses_room cases)))
      (omega (arith, clauses_are clause cases))
