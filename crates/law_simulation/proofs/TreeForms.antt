-- What the grammar says of the trees of a text: operators stand where they may, and some lists are not empty.
use Rattle.std.proofs.Common.{◌≡◌, ℕ, suc, ◌≤◌, Bool, true, false, List, [], ◌∷◌, Option, Some, None, refl, sym, ap, ◌∙◌, subst, arith, inl, inr}
use Rattle.std.specs.Prelude.{All}
use Rattle.std.proofs.Math.Bool.{Bool-set}
use Rattle.icn_tree.specs.declared.token.Kind.{Kind}
use Rattle.icn_tree.specs.declared.token.Token.{Token}
use Rattle.icn_tree.specs.declared.token.Operator.{Operator}
use Rattle.icn_tree.specs.declared.token.Operator.TheVariants as Signs
use Rattle.icn_tree.specs.declared.tree.Place.{Place}
use Rattle.icn_tree.specs.declared.tree.Name.{Name}
use Rattle.icn_tree.specs.declared.tree.Infix.{Infix}
use Rattle.icn_tree.specs.declared.tree.Infix.TheVariants.{Plain, Augmented}
use Rattle.icn_tree.specs.TokenBounds.{IsFormed, is_augmented}
use Rattle.icn_tree.specs.Levels.{operator_level, prefix_of}
use Rattle.icn_tree.specs.Phrases.{Phrase, nothing, sign_at, sign, ◌⨾◌, starts_at}
use Rattle.icn_tree.specs.Grammar.{Part, Spells, SpellsList, SpellsMore, SpellsClause, SpellsClauses, SpellsMoreClauses, IsPrefix, Separator, ByComma, BySemicolon, literal_kind, keyword, infix_sign, before}
use Rattle.icn_tree.specs.Trees.{Initial, NoInitial, Initially, Tree, Trees, MaybeTree, Clause, Clauses, Empty, Constant, Identifier, Keyword, Parentheses, Listing, Compound, Call, CoCall, Subscript, Section, Field, Prefix, Not, Binary, To, If, Case, Loop, Repeat, Create, Next, Fail, Break, Return, Suspend, Absent, Present, NoTrees, More, Default, Guarded, NoClauses, MoreClauses}

-- the operators that stand before an operand, and between two
abbrev pub is_before : Operator → Bool
is_before Signs.Dot = true
is_before Signs.Bang = true
is_before Signs.At = true
is_before Signs.Bar = true
is_before Signs.Plus = true
is_before Signs.Minus = true
is_before Signs.Star = true
is_before Signs.Slash = true
is_before Signs.Backslash = true
is_before Signs.Caret = true
is_before Signs.Tilde = true
is_before Signs.Equal = true
is_before Signs.Question = true
is_before operator = false

abbrev pub is_between : Operator → Bool
is_between Signs.Dot = false
is_between Signs.Tilde = false
is_between operator = true

abbrev pub IsInfix : Infix → Type 0
IsInfix (Plain operator) = is_between operator ≡ true
IsInfix (Augmented operator) = is_augmented operator ≡ true

abbrev mutual
  pub Formed : Tree → Type 0
  Formed Empty = Unit {0}
  Formed (Constant place value) = Unit {0}
  Formed (Identifier name) = Unit {0}
  Formed (Keyword place name) = Unit {0}
  Formed (Parentheses place elements) = FormedSome elements
  Formed (Listing place elements) = FormedSome elements
  Formed (Compound place exprs) = FormedSome exprs
  Formed (Call place callee arguments) = Formed callee × FormedSome arguments
  Formed (CoCall place callee arguments) = Formed callee × FormedSome arguments
  Formed (Subscript place subject subscripts) = Formed subject × FormedSome subscripts
  Formed (Section place kind subject from to) = Formed subject × Formed from × Formed to
  Formed (Field place subject name) = Formed subject
  Formed (Prefix place operator operand) = (is_before operator ≡ true) × Formed operand
  Formed (Not place operand) = Formed operand
  Formed (Binary place operator first second) = IsInfix operator × Formed first × Formed second
  Formed (To place from to by) = Formed from × Formed to × FormedMaybe by
  Formed (If place condition first second) = Formed condition × Formed first × FormedMaybe second
  Formed (Case place subject clauses) = Formed subject × FormedClauses clauses
  Formed (Loop place kind control body) = Formed control × FormedMaybe body
  Formed (Repeat place body) = Formed body
  Formed (Create place body) = Formed body
  Formed (Next place) = Unit {0}
  Formed (Fail place) = Unit {0}
  Formed (Break place value) = Formed value
  Formed (Return place value) = Formed value
  Formed (Suspend place value body) = Formed value × FormedMaybe body

  pub FormedMaybe : MaybeTree → Type 0
  FormedMaybe Absent = Unit {0}
  FormedMaybe (Present tree) = Formed tree

  pub FormedSome : Trees → Type 0
  FormedSome NoTrees = ⊥
  FormedSome (More tree trees) = Formed tree × FormedAll trees

  pub FormedAll : Trees → Type 0
  FormedAll NoTrees = Unit {0}
  FormedAll (More tree trees) = Formed tree × FormedAll trees

  pub FormedClauses : Clauses → Type 0
  FormedClauses NoClauses = Unit {0}
  FormedClauses (MoreClauses clause clauses) = FormedClause clause × FormedClauses clauses

  pub FormedClause : Clause → Type 0
  FormedClause (Default place value) = Formed value
  FormedClause (Guarded place guard value) = Formed guard × Formed value

abbrev pub FormedInitial : Initial → Type 0
FormedInitial NoInitial = Unit {0}
FormedInitial (Initially place value) = Formed value

-- all that is a proposition
infix_prop : (operator : Infix) → IsProp (IsInfix operator)
infix_prop (Plain operator) = hlevel Bool-set
infix_prop (Augmented operator) = hlevel Bool-set

mutual
  pub form_prop : (tree : Tree) → IsProp (Formed tree)
  form_prop Empty = hlevel
  form_prop (Constant place value) = hlevel
  form_prop (Identifier name) = hlevel
  form_prop (Keyword place name) = hlevel
  form_prop (Parentheses place es) = some_prop es
  form_prop (Listing place es) = some_prop es
  form_prop (Compound place es) = some_prop es
  form_prop (Call place f es) = hlevel (form_prop f, some_prop es)
  form_prop (CoCall place f es) = hlevel (form_prop f, some_prop es)
  form_prop (Subscript place e es) = hlevel (form_prop e, some_prop es)
  form_prop (Section place kind e a b) = hlevel (form_prop e, form_prop a, form_prop b)
  form_prop (Field place e name) = form_prop e
  form_prop (Prefix place operator e) = hlevel (Bool-set, form_prop e)
  form_prop (Not place e) = form_prop e
  form_prop (Binary place operator a b) = hlevel (infix_prop operator, form_prop a, form_prop b)
  form_prop (To place a b by) = hlevel (form_prop a, form_prop b, maybe_prop by)
  form_prop (If place c a b) = hlevel (form_prop c, form_prop a, maybe_prop b)
  form_prop (Case place e cases) = hlevel (form_prop e, clauses_prop cases)
  form_prop (Loop place kind e b) = hlevel (form_prop e, maybe_prop b)
  form_prop (Repeat place b) = form_prop b
  form_prop (Create place e) = form_prop e
  form_prop (Next place) = hlevel
  form_prop (Fail place) = hlevel
  form_prop (Break place e) = form_prop e
  form_prop (Return place e) = form_prop e
  form_prop (Suspend place e b) = hlevel (form_prop e, maybe_prop b)

  maybe_prop : (tree : MaybeTree) → IsProp (FormedMaybe tree)
  maybe_prop Absent = hlevel
  maybe_prop (Present e) = form_prop e

  some_prop : (trees : Trees) → IsProp (FormedSome trees)
  some_prop NoTrees = hlevel
  some_prop (More e es) = hlevel (form_prop e, all_prop es)

  pub all_prop : (trees : Trees) → IsProp (FormedAll trees)
  all_prop NoTrees = hlevel
  all_prop (More e es) = hlevel (form_prop e, all_prop es)

  clauses_prop : (cases : Clauses) → IsProp (FormedClauses cases)
  clauses_prop NoClauses = hlevel
  clauses_prop (MoreClauses clause cases) = hlevel (clause_prop clause, clauses_prop cases)

  clause_prop : (clause : Clause) → IsProp (FormedClause clause)
  clause_prop (Default place e) = form_prop e
  clause_prop (Guarded place g e) = hlevel (form_prop g, form_prop e)

pub initial_prop : (initial : Initial) → IsProp (FormedInitial initial)
initial_prop NoInitial = hlevel
initial_prop (Initially place e) = form_prop e

-- Operators

abbrev before_or : Option (Operator × Option Operator) → Bool
before_or None = true
before_or (Some found) = is_before found.0

all_before : (characters : Operator) → before_or (prefix_of characters) ≡ true
all_before Signs.Dot = refl
all_before _ = refl

found_before : (characters operator : Operator) (others : Option Operator)
    → prefix_of characters ≡ Some (operator, others) → is_before operator ≡ true
found_before characters operator others e = sym (ap before_or e) ∙ all_before characters

found_between : (operator : Operator) → 1 ≤ operator_level operator → is_between operator ≡ true
found_between Signs.Dot h = absurd (omega arith)
found_between Signs.Tilde h = absurd (omega arith)
found_between _ h = refl

-- Phrases

-- each of these tokens has a form that the scanner gives
abbrev pub AreFormed : List Token → Type 0
AreFormed [] = Unit {0}
AreFormed (token ∷ tokens) = IsFormed token.kind × AreFormed tokens

pub are_formed : (tokens : List Token) → All (λ token. IsFormed token.kind) tokens → AreFormed tokens
are_formed [] h = tt
are_formed (token ∷ tokens) h =
    (h 0 token (omega arith), are_formed tokens (λ k d l. h (suc k) d (omega arith)))

-- what a phrase of such tokens gives, and such tokens are left behind it
pub record Keeps (p : Phrase) (X : Type 0) : Type 0 where
  pub gives : (here after : List Token) → AreFormed here → p here after → X × AreFormed after

pub keeps_nothing : Keeps nothing (Unit {0})
keeps_nothing = record { gives = λ here after h e. (tt, subst AreFormed e h) }

pub keeps_sign_at : (place : Place) (kind : Kind) → Keeps (sign_at place kind) (IsFormed kind)
keeps_sign_at place kind = record { gives = λ here after h e. subst AreFormed e h }

pub keeps_sign : (kind : Kind) → Keeps (sign kind) (IsFormed kind)
keeps_sign kind = record { gives = λ here after h s. subst AreFormed s.1 h }

pub keeps_then : {p q : Phrase} {X Y : Type 0} → Keeps p X → Keeps q Y → Keeps (p ⨾ q) (X × Y)
keeps_then a b = record {
  gives = λ here after h s. let x = a.gives here s.0 h s.1 in let y =
      b.gives s.0 after x.1 s.2 in ((x.0, y.0), y.1);
}

pub keeps_map : {p : Phrase} {X Y : Type 0} → Keeps p X → (X → Y) → Keeps p Y
keeps_map a f = record { gives = λ here after h s. let x = a.gives here after h s in (f x.0, x.1) }

keeps_starts : {p : Phrase} {X : Type 0} (place : Place) → Keeps p X → Keeps (starts_at place p) X
keeps_starts place a = record { gives = λ here after h s. a.gives here after h s.1 }

pub keeps_part : {tree : Tree} {X : Type 0} (level : ℕ) → Keeps (Spells tree) X
    → Keeps (Part level tree (Spells tree)) X
keeps_part level a = record { gives = λ here after h s. a.gives here after h s.spells }

keyword_by : (name : Name) (here after : List Token) → AreFormed here → keyword name here after → Unit {0}
    × AreFormed after
keyword_by name here after h (inl s) = (tt, (subst AreFormed s h).1)
keyword_by name here after h (inr s) = (tt, (subst AreFormed s.1 h).1)

keeps_keyword : (name : Name) → Keeps (keyword name) (Unit {0})
keeps_keyword name = record { gives = keyword_by name }

formed_before : (place : Place) (others : Option Operator) (tokens : List Token) → AreFormed tokens
    → AreFormed (before place others tokens)
formed_before place None tokens h = h
formed_before place (Some operator) tokens h = (tt, h)

keeps_prefix : (place : Place) (operator : Operator)
    → Keeps (IsPrefix place operator) (is_before operator ≡ true)
keeps_prefix place operator = record {
  gives = λ here after h s. (
    found_before s.characters operator s.others s.first,
    subst AreFormed (sym s.is_after)
        (formed_before place s.others s.behind (subst AreFormed s.is_here h).1),
  );
}

keeps_infix : (operator : Infix) → Keeps (infix_sign operator) (IsInfix operator)
keeps_infix (Plain operator) = record
    { gives = λ here after h s. (found_between operator s.0, (subst AreFormed s.1.1 h).1) }
keeps_infix (Augmented operator) = record { gives = λ here after h s. subst AreFormed s.1.1 h }

-- Forms, each from the phrases of its production

mutual
  pub formed : (tree : Tree) → Keeps (Spells tree) (Formed tree)
  formed Empty = keeps_nothing
  formed (Constant place value) = keeps_map (keeps_sign_at place (literal_kind value)) (λ x. tt)
  formed (Identifier name) = keeps_map (keeps_sign_at name.place _) (λ x. tt)
  formed (Keyword place name) = keeps_map (keeps_then (keeps_sign_at place _) (keeps_keyword name)) (λ x. tt)
  formed (Parentheses place es) =
      keeps_map (keeps_then (keeps_sign_at place _) (keeps_then (formed_list ByComma es) (keeps_sign _)))
      (λ x. x.1.0)
  formed (Listing place es) = keeps_map
      (keeps_then (keeps_sign_at place _) (keeps_then (formed_list ByComma es) (keeps_sign _))) (λ x. x.1.0)
  formed (Compound place es) = keeps_map
      (keeps_then (keeps_sign_at place _) (keeps_then (formed_list BySemicolon es) (keeps_sign _)))
      (λ x. x.1.0)
  formed (Call place f es) = keeps_map
      (keeps_starts place (keeps_then (keeps_part 13 (formed f))
      (keeps_then (keeps_sign _) (keeps_then (formed_list ByComma es) (keeps_sign _))))) (λ x. (x.0, x.1.1.0))
  formed (CoCall place f es) = keeps_map
      (keeps_starts place (keeps_then (keeps_part 13 (formed f))
      (keeps_then (keeps_sign _) (keeps_then (formed_list ByComma es) (keeps_sign _))))) (λ x. (x.0, x.1.1.0))
  formed (Subscript place x es) =
      keeps_map (keeps_starts place (keeps_then (keeps_part 13 (formed x))
      (keeps_then (keeps_sign _) (keeps_then (formed_list ByComma es) (keeps_sign _))))) (λ x. (x.0, x.1.1.0))
  formed (Section place kind x a b) =
      keeps_map (keeps_starts place (keeps_then (keeps_part 13 (formed x))
      (keeps_then (keeps_sign _) (keeps_then (keeps_part 1 (formed a))
      (keeps_then (keeps_sign _) (keeps_then (keeps_part 1 (formed b)) (keeps_sign _)))))))
      (λ x. (x.0, x.1.1.0, x.1.1.1.1.0))
  formed (Field place x name) = keeps_map
      (keeps_starts place (keeps_then (keeps_part 13 (formed x))
      (keeps_then (keeps_sign _) (keeps_sign_at name.place _)))) (λ x. x.0)
  formed (Prefix place o e) = keeps_then (keeps_prefix place o) (keeps_part 12 (formed e))
  formed (Not place e) = keeps_map (keeps_then (keeps_sign_at place _) (keeps_part 12 (formed e))) (λ x. x.1)
  formed (Binary place o a b) = keeps_map
      (keeps_starts place (keeps_then (keeps_part _ (formed a))
      (keeps_then (keeps_infix o) (keeps_part _ (formed b))))) (λ x. (x.1.0, x.0, x.1.1))
  formed (To place a b Absent) = keeps_map
      (keeps_starts place (keeps_then (keeps_part 4 (formed a))
      (keeps_then (keeps_sign _) (keeps_part 5 (formed b))))) (λ x. (x.0, x.1.1, tt))
  formed (To place a b (Present c)) =
      keeps_map (keeps_starts place (keeps_then (keeps_part 4 (formed a))
      (keeps_then (keeps_sign _) (keeps_then (keeps_part 5 (formed b))
      (keeps_then (keeps_sign _) (keeps_part 5 (formed c))))))) (λ x. (x.0, x.1.1.0, x.1.1.1.1))
  formed (If place c a Absent) = keeps_map
      (keeps_then (keeps_sign_at place _)
      (keeps_then (keeps_part 1 (formed c)) (keeps_then (keeps_sign _) (keeps_part 1 (formed a)))))
      (λ x. (x.1.0, x.1.1.1, tt))
  formed (If place c a (Present b)) =
      keeps_map (keeps_then (keeps_sign_at place _)
      (keeps_then (keeps_part 1 (formed c))
      (keeps_then (keeps_sign _) (keeps_then (keeps_part 1 (formed a))
      (keeps_then (keeps_sign _) (keeps_part 1 (formed b))))))) (λ x. (x.1.0, x.1.1.1.0, x.1.1.1.1.1))
  formed (Case place e cases) = keeps_map
      (keeps_then (keeps_sign_at place _)
      (keeps_then (keeps_part 1 (formed e))
      (keeps_then (keeps_sign _) (keeps_then (keeps_sign _)
      (keeps_then (formed_clauses cases) (keeps_sign _)))))) (λ x. (x.1.0, x.1.1.1.1.0))
  formed (Loop place kind c Absent) =
      keeps_map (keeps_then (keeps_sign_at place _) (keeps_part 1 (formed c))) (λ x. (x.1, tt))
  formed (Loop place kind c (Present b)) =
      keeps_map (keeps_then (keeps_sign_at place _)
      (keeps_then (keeps_part 1 (formed c)) (keeps_then (keeps_sign _) (keeps_part 1 (formed b)))))
      (λ x. (x.1.0, x.1.1.1))
  formed (Repeat place b) = keeps_map (keeps_then (keeps_sign_at place _) (keeps_part 1 (formed b)))
      (λ x. x.1)
  formed (Create place e) = keeps_map (keeps_then (keeps_sign_at place _) (keeps_part 1 (formed e)))
      (λ x. x.1)
  formed (Next place) = keeps_map (keeps_sign_at place _) (λ x. tt)
  formed (Fail place) = keeps_map (keeps_sign_at place _) (λ x. tt)
  formed (Break place e) = keeps_map (keeps_then (keeps_sign_at place _) (keeps_part 0 (formed e))) (λ x. x.1)
  formed (Return place e) = keeps_map (keeps_then (keeps_sign_at place _) (keeps_part 0 (formed e)))
      (λ x. x.1)
  formed (Suspend place e Absent) =
      keeps_map (keeps_then (keeps_sign_at place _) (keeps_part 0 (formed e))) (λ x. (x.1, tt))
  formed (Suspend place e (Present b)) =
      keeps_map (keeps_then (keeps_sign_at place _)
      (keeps_then (keeps_part 0 (formed e)) (keeps_then (keeps_sign _) (keeps_part 1 (formed b)))))
      (λ x. (x.1.0, x.1.1.1))

  formed_list : (by : Separator) (es : Trees) → Keeps (SpellsList by es) (FormedSome es)
  formed_list by NoTrees = record { gives = λ here after h s. absurd s }
  formed_list by (More e es) = keeps_then (keeps_part 0 (formed e)) (formed_more by es)

  formed_more : (by : Separator) (es : Trees) → Keeps (SpellsMore by es) (FormedAll es)
  formed_more by NoTrees = keeps_nothing
  formed_more by (More e es) = keeps_map
      (keeps_then (keeps_sign _) (keeps_then (keeps_part 0 (formed e)) (formed_more by es))) (λ x. x.1)

  formed_clause : (clause : Clause) → Keeps (SpellsClause clause) (FormedClause clause)
  formed_clause (Default place e) =
      keeps_map (keeps_then (keeps_sign_at place _) (keeps_then (keeps_sign _) (keeps_part 1 (formed e))))
      (λ x. x.1.1)
  formed_clause (Guarded place c e) =
      keeps_map (keeps_starts place (keeps_then (keeps_part 1 (formed c))
      (keeps_then (keeps_sign _) (keeps_part 1 (formed e))))) (λ x. (x.0, x.1.1))

  formed_clauses : (cases : Clauses) → Keeps (SpellsClauses cases) (FormedClauses cases)
  formed_clauses NoClauses = record { gives = λ here after h s. absurd s }
  formed_clauses (MoreClauses clause cases) = keeps_then (formed_clause clause) (formed_more_clauses cases)

  formed_more_clauses : (cases : Clauses) → Keeps (SpellsMoreClauses cases) (FormedClauses cases)
  formed_more_clauses NoClauses = keeps_nothing
  formed_more_clauses (MoreClauses clause cases) =
      keeps_map (keeps_then (keeps_sign _) (keeps_then (formed_clause clause) (formed_more_clauses cases)))
      (λ x. x.1)
