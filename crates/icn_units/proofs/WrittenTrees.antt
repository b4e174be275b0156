-- The names and the literals of a text are as the scanner gives them: one line a form, from the phrases of its production.
use Rattle.std.proofs.Common.{◌≡◌, ◌≤◌, ◌<◌, ◌⊎◌, inl, inr, ℕ, suc, Bool, true, false, ◌&&◌, nat_le, nat_lt, List, [], ◌∷◌, length, Option, None, Some, refl, sym, ap, ◌∙◌, subst, arith}
use Rattle.std.specs.Prelude.{All, pos, negsuc}
use Rattle.std.proofs.lemmas.Bool.Decides.{leb_tells}
use Rattle.icn_tree.specs.declared.token.Kind.{Kind}
use Rattle.icn_tree.specs.declared.token.Token.{Token}
use Rattle.icn_tree.specs.declared.token.Operator.{Operator}
use Rattle.icn_tree.specs.declared.tree.Literal.{Literal}
use Rattle.icn_tree.specs.declared.tree.Literal.TheVariants as Literals
use Rattle.icn_tree.specs.declared.tree.Place.{Place}
use Rattle.icn_tree.specs.declared.tree.Name.{Name}
use Rattle.icn_tree.specs.declared.tree.Infix.{Infix}
use Rattle.icn_tree.specs.declared.tree.Infix.TheVariants.{Plain, Augmented}
use Rattle.icn_tree.specs.TokenBounds.{IsSized, IsFormed}
use Rattle.icn_tree.specs.TokenBounds as Bounds
use Rattle.icn_tree.specs.Phrases.{Phrase, nothing, sign_at, sign, ◌⨾◌, starts_at}
use Rattle.icn_tree.specs.Grammar.{Part, Spells, SpellsList, SpellsMore, SpellsClause, SpellsClauses, SpellsMoreClauses, IsPrefix, Separator, ByComma, BySemicolon, literal_kind, keyword, identifier, infix_sign, before}
use Rattle.icn_tree.specs.Trees.{Tree, Trees, Clause, Clauses, Empty, Constant, Identifier, Keyword, Parentheses, Listing, Compound, Call, CoCall, Subscript, Section, Field, Prefix, Not, Binary, To, If, Case, Loop, Repeat, Create, Next, Fail, Break, Return, Suspend, Absent, Present, NoTrees, More, Default, Guarded, NoClauses, MoreClauses}
use Rattle.icn_unit.specs.UnitOperands.{is_name, ascends}
use Rattle.icn_units.specs.Written.{TextPasses, name_fits, literal_fits, tree_fits, trees_fit, clause_fits, clauses_fit}

-- a conjunction of what is true is true
pub and_intro : {a b : Bool} → a ≡ true → b ≡ true → (a && b) ≡ true
and_intro {a = true} h g = g
and_intro {a = false} h g = absurd (cc)

-- the first part of a conjunction that is true is true
pub and_first : (a b : Bool) → (a && b) ≡ true → a ≡ true
and_first true b h = refl
and_first false b h = absurd (cc)

-- so is the second
pub and_second : (a b : Bool) → (a && b) ≡ true → b ≡ true
and_second true b h = h
and_second false b h = absurd (cc)

-- Tokens as the scanner gives them

-- what is known of a token
abbrev Scanned : (List ℕ → Bool) → Kind → Type 0
Scanned passes kind = IsSized kind × IsFormed kind × TextPasses passes kind

abbrev pub AreScanned : (List ℕ → Bool) → List Token → Type 0
AreScanned passes [] = Unit {0}
AreScanned passes (token ∷ tokens) = Scanned passes token.kind × AreScanned passes tokens

pub are_scanned : (passes : List ℕ → Bool) (tokens : List Token) → All (λ token. IsSized token.kind) tokens
    → All (λ token. IsFormed token.kind) tokens → All (λ token. TextPasses passes token.kind) tokens → AreScanned passes tokens
are_scanned passes [] h g t = tt
are_scanned passes (token ∷ tokens) h g t = (
  (h 0 token (omega arith), g 0 token (omega arith), t 0 token (omega arith)),
  are_scanned passes tokens
      (λ k d l. h (suc k) d (omega arith)) (λ k d l. g (suc k) d (omega arith)) (λ k d l. t (suc k) d (omega arith)),
)

pub nat_le_of_le : (a b : ℕ) → a ≤ b → nat_le a b ≡ true
nat_le_of_le a b h = by (leb_tells a b)
  where
    by : ((nat_le a b ≡ true) × (a ≤ b)) ⊎ ((nat_le a b ≡ false) × (b < a)) → nat_le a b ≡ true
    by (inl t) = t.0
    by (inr t) = let k = t.1 in absurd (omega arith)

pub le_of_nat_le : (a b : ℕ) → nat_le a b ≡ true → a ≤ b
le_of_nat_le a b h = by (leb_tells a b)
  where
    by : ((nat_le a b ≡ true) × (a ≤ b)) ⊎ ((nat_le a b ≡ false) × (b < a)) → a ≤ b
    by (inl t) = t.1
    by (inr t) = absurd (let f = t.0 in cc)

name_by : (text : List ℕ) → length text ≤ 65535 → Bounds.is_name text ≡ true → is_name text ≡ true
name_by [] h g = absurd (cc)
name_by (b ∷ rest) h g = and_intro g (nat_le_of_le (length (b ∷ rest)) 65535 (omega arith))

same_ascends : (members : List ℕ) → Bounds.ascends members ≡ ascends members
same_ascends [] = refl
same_ascends (a ∷ []) = refl
same_ascends (a ∷ b ∷ rest) = ap (λ t. nat_lt a b && t) (same_ascends (b ∷ rest))

literal_by : (passes : List ℕ → Bool) (value : Literal) → Scanned passes (literal_kind value) → literal_fits passes value ≡ true
literal_by passes (Literals.Integer (pos n)) h = nat_le_of_le n 9223372036854775807 h.0
literal_by passes (Literals.Integer (negsuc n)) h = absurd h.0
literal_by passes (Literals.Text bytes) h = h.2
literal_by passes (Literals.Cset members) h = and_intro h.1.1 (sym (same_ascends members) ∙ h.1.0)

-- Phrases

-- what a phrase of such tokens gives, and such tokens are left behind it
pub record Keeps (passes : List ℕ → Bool) (p : Phrase) (X : Type 0) : Type 0 where
  pub gives : (here after : List Token) → AreScanned passes here → p here after → X × AreScanned passes after

pub keeps_nothing : {passes : List ℕ → Bool} → Keeps passes nothing (Unit {0})
keeps_nothing {passes = passes} = record { gives = λ here after h e. (tt, subst (AreScanned passes) e h) }

pub keeps_sign_at : {passes : List ℕ → Bool} (place : Place) (kind : Kind) → Keeps passes (sign_at place kind) (Scanned passes kind)
keeps_sign_at {passes = passes} place kind = record { gives = λ here after h e. subst (AreScanned passes) e h }

pub keeps_sign : {passes : List ℕ → Bool} (kind : Kind) → Keeps passes (sign kind) (Scanned passes kind)
keeps_sign {passes = passes} kind = record { gives = λ here after h s. subst (AreScanned passes) s.1 h }

pub keeps_then : {passes : List ℕ → Bool} {p q : Phrase} {X Y : Type 0} → Keeps passes p X → Keeps passes q Y → Keeps passes (p ⨾ q) (X × Y)
keeps_then a b = record {
  gives = λ here after h s. let x = a.gives here s.0 h s.1 in let y = b.gives s.0 after x.1 s.2 in
      ((x.0, y.0), y.1);
}

pub keeps_map : {passes : List ℕ → Bool} {p : Phrase} {X Y : Type 0} → Keeps passes p X → (X → Y) → Keeps passes p Y
keeps_map a f = record { gives = λ here after h s. let x = a.gives here after h s in (f x.0, x.1) }

keeps_starts : {passes : List ℕ → Bool} {p : Phrase} {X : Type 0} (place : Place) → Keeps passes p X → Keeps passes (starts_at place p) X
keeps_starts place a = record { gives = λ here after h s. a.gives here after h s.1 }

pub keeps_part : {passes : List ℕ → Bool} {tree : Tree} {X : Type 0} (level : ℕ) → Keeps passes (Spells tree) X
    → Keeps passes (Part level tree (Spells tree)) X
keeps_part level a = record { gives = λ here after h s. a.gives here after h s.spells }

keyword_by : (passes : List ℕ → Bool) (name : Name) (here after : List Token) → AreScanned passes here → keyword name here after → Unit {0}
    × AreScanned passes after
keyword_by passes name here after h (inl s) = (tt, (subst (AreScanned passes) s h).1)
keyword_by passes name here after h (inr s) = (tt, (subst (AreScanned passes) s.1 h).1)

keeps_keyword : {passes : List ℕ → Bool} (name : Name) → Keeps passes (keyword name) (Unit {0})
keeps_keyword {passes = passes} name = record { gives = keyword_by passes name }

scanned_before : (passes : List ℕ → Bool) (place : Place) (others : Option Operator) (tokens : List Token) → AreScanned passes tokens
    → AreScanned passes (before place others tokens)
scanned_before passes place None tokens h = h
scanned_before passes place (Some operator) tokens h = ((tt, tt, tt), h)

keeps_prefix : {passes : List ℕ → Bool} (place : Place) (operator : Operator) → Keeps passes (IsPrefix place operator) (Unit {0})
keeps_prefix {passes = passes} place operator = record {
  gives = λ here after h s. (
    tt,
    subst (AreScanned passes) (sym s.is_after)
        (scanned_before passes place s.others s.behind (subst (AreScanned passes) s.is_here h).1),
  );
}

keeps_infix : {passes : List ℕ → Bool} (operator : Infix) → Keeps passes (infix_sign operator) (Unit {0})
keeps_infix {passes = passes} (Plain operator) = record { gives = λ here after h s. (tt, (subst (AreScanned passes) s.1.1 h).1) }
keeps_infix {passes = passes} (Augmented operator) = record { gives = λ here after h s. (tt, (subst (AreScanned passes) s.1.1 h).1) }

pub name_keeps : {passes : List ℕ → Bool} (name : Name) → Keeps passes (identifier name) (name_fits name ≡ true)
name_keeps name = keeps_map (keeps_sign_at name.place _) (λ x. name_by name.text x.0.1 x.1.0)

-- Forms, each from the phrases of its production

module _ (passes : List ℕ → Bool) where
  mutual
    pub fits : (tree : Tree) → Keeps passes (Spells tree) (tree_fits passes tree ≡ true)
    fits Empty = keeps_map keeps_nothing (λ x. refl)
    fits (Constant place value) = keeps_map (keeps_sign_at place (literal_kind value)) (literal_by passes value)
    fits (Identifier name) = name_keeps name
    fits (Keyword place name) = keeps_map (keeps_then (keeps_sign_at place _) (keeps_keyword name)) (λ x. refl)
    fits (Parentheses place es) =
        keeps_map (keeps_then (keeps_sign_at place _) (keeps_then (fits_list ByComma es) (keeps_sign _)))
        (λ x. x.1.0)
    fits (Listing place es) = keeps_map
        (keeps_then (keeps_sign_at place _) (keeps_then (fits_list ByComma es) (keeps_sign _))) (λ x. x.1.0)
    fits (Compound place es) = keeps_map
        (keeps_then (keeps_sign_at place _) (keeps_then (fits_list BySemicolon es) (keeps_sign _)))
        (λ x. x.1.0)
    fits (Call place f es) = keeps_map
        (keeps_starts place (keeps_then (keeps_part 13 (fits f))
        (keeps_then (keeps_sign _) (keeps_then (fits_list ByComma es) (keeps_sign _))))) (λ x. and_intro x.0 x.1.1.0)
    fits (CoCall place f es) = keeps_map
        (keeps_starts place (keeps_then (keeps_part 13 (fits f))
        (keeps_then (keeps_sign _) (keeps_then (fits_list ByComma es) (keeps_sign _))))) (λ x. and_intro x.0 x.1.1.0)
    fits (Subscript place x es) =
        keeps_map (keeps_starts place (keeps_then (keeps_part 13 (fits x))
        (keeps_then (keeps_sign _) (keeps_then (fits_list ByComma es) (keeps_sign _))))) (λ x. and_intro x.0 x.1.1.0)
    fits (Section place kind x a b) =
        keeps_map (keeps_starts place (keeps_then (keeps_part 13 (fits x))
        (keeps_then (keeps_sign _) (keeps_then (keeps_part 1 (fits a))
        (keeps_then (keeps_sign _) (keeps_then (keeps_part 1 (fits b)) (keeps_sign _)))))))
        (λ x. and_intro x.0 (and_intro x.1.1.0 x.1.1.1.1.0))
    fits (Field place x name) = keeps_map
        (keeps_starts place (keeps_then (keeps_part 13 (fits x))
        (keeps_then (keeps_sign _) (name_keeps name)))) (λ x. and_intro x.0 x.1.1)
    fits (Prefix place o e) = keeps_map (keeps_then (keeps_prefix place o) (keeps_part 12 (fits e))) (λ x. x.1)
    fits (Not place e) = keeps_map (keeps_then (keeps_sign_at place _) (keeps_part 12 (fits e))) (λ x. x.1)
    fits (Binary place o a b) = keeps_map
        (keeps_starts place (keeps_then (keeps_part _ (fits a))
        (keeps_then (keeps_infix o) (keeps_part _ (fits b))))) (λ x. and_intro x.0 x.1.1)
    fits (To place a b Absent) = keeps_map
        (keeps_starts place (keeps_then (keeps_part 4 (fits a))
        (keeps_then (keeps_sign _) (keeps_part 5 (fits b))))) (λ x. and_intro x.0 (and_intro x.1.1 refl))
    fits (To place a b (Present c)) =
        keeps_map (keeps_starts place (keeps_then (keeps_part 4 (fits a))
        (keeps_then (keeps_sign _) (keeps_then (keeps_part 5 (fits b))
        (keeps_then (keeps_sign _) (keeps_part 5 (fits c))))))) (λ x. and_intro x.0 (and_intro x.1.1.0 x.1.1.1.1))
    fits (If place c a Absent) = keeps_map
        (keeps_then (keeps_sign_at place _)
        (keeps_then (keeps_part 1 (fits c)) (keeps_then (keeps_sign _) (keeps_part 1 (fits a)))))
        (λ x. and_intro x.1.0 (and_intro x.1.1.1 refl))
    fits (If place c a (Present b)) =
        keeps_map (keeps_then (keeps_sign_at place _)
        (keeps_then (keeps_part 1 (fits c))
        (keeps_then (keeps_sign _) (keeps_then (keeps_part 1 (fits a))
        (keeps_then (keeps_sign _) (keeps_part 1 (fits b))))))) (λ x. and_intro x.1.0 (and_intro x.1.1.1.0 x.1.1.1.1.1))
    fits (Case place e cases) = keeps_map
        (keeps_then (keeps_sign_at place _)
        (keeps_then (keeps_part 1 (fits e))
        (keeps_then (keeps_sign _) (keeps_then (keeps_sign _)
        (keeps_then (fits_clauses cases) (keeps_sign _)))))) (λ x. and_intro x.1.0 x.1.1.1.1.0)
    fits (Loop place kind c Absent) =
        keeps_map (keeps_then (keeps_sign_at place _) (keeps_part 1 (fits c))) (λ x. and_intro x.1 refl)
    fits (Loop place kind c (Present b)) =
        keeps_map (keeps_then (keeps_sign_at place _)
        (keeps_then (keeps_part 1 (fits c)) (keeps_then (keeps_sign _) (keeps_part 1 (fits b)))))
        (λ x. and_intro x.1.0 x.1.1.1)
    fits (Repeat place b) = keeps_map (keeps_then (keeps_sign_at place _) (keeps_part 1 (fits b)))
        (λ x. x.1)
    fits (Create place e) = keeps_map (keeps_then (keeps_sign_at place _) (keeps_part 1 (fits e)))
        (λ x. x.1)
    fits (Next place) = keeps_map (keeps_sign_at place _) (λ x. refl)
    fits (Fail place) = keeps_map (keeps_sign_at place _) (λ x. refl)
    fits (Break place e) = keeps_map (keeps_then (keeps_sign_at place _) (keeps_part 0 (fits e))) (λ x. x.1)
    fits (Return place e) = keeps_map (keeps_then (keeps_sign_at place _) (keeps_part 0 (fits e)))
        (λ x. x.1)
    fits (Suspend place e Absent) =
        keeps_map (keeps_then (keeps_sign_at place _) (keeps_part 0 (fits e))) (λ x. and_intro x.1 refl)
    fits (Suspend place e (Present b)) =
        keeps_map (keeps_then (keeps_sign_at place _)
        (keeps_then (keeps_part 0 (fits e)) (keeps_then (keeps_sign _) (keeps_part 1 (fits b)))))
        (λ x. and_intro x.1.0 x.1.1.1)

    fits_list : (by : Separator) (es : Trees) → Keeps passes (SpellsList by es) (trees_fit passes es ≡ true)
    fits_list by NoTrees = record { gives = λ here after h s. absurd s }
    fits_list by (More e es) = keeps_map (keeps_then (keeps_part 0 (fits e)) (fits_more by es)) (λ x. and_intro x.0 x.1)

    fits_more : (by : Separator) (es : Trees) → Keeps passes (SpellsMore by es) (trees_fit passes es ≡ true)
    fits_more by NoTrees = keeps_map keeps_nothing (λ x. refl)
    fits_more by (More e es) = keeps_map
        (keeps_then (keeps_sign _) (keeps_then (keeps_part 0 (fits e)) (fits_more by es))) (λ x. and_intro x.1.0 x.1.1)

    fits_clause : (clause : Clause) → Keeps passes (SpellsClause clause) (clause_fits passes clause ≡ true)
    fits_clause (Default place e) =
        keeps_map (keeps_then (keeps_sign_at place _) (keeps_then (keeps_sign _) (keeps_part 1 (fits e))))
        (λ x. x.1.1)
    fits_clause (Guarded place c e) =
        keeps_map (keeps_starts place (keeps_then (keeps_part 1 (fits c))
        (keeps_then (keeps_sign _) (keeps_part 1 (fits e))))) (λ x. and_intro x.0 x.1.1)

    fits_clauses : (cases : Clauses) → Keeps passes (SpellsClauses cases) (clauses_fit passes cases ≡ true)
    fits_clauses NoClauses = record { gives = λ here after h s. absurd s }
    fits_clauses (MoreClauses clause cases) =
        keeps_map (keeps_then (fits_clause clause) (fits_more_clauses cases)) (λ x. and_intro x.0 x.1)

    fits_more_clauses : (cases : Clauses) → Keeps passes (SpellsMoreClauses cases) (clauses_fit passes cases ≡ true)
    fits_more_clauses NoClauses = keeps_map keeps_nothing (λ x. refl)
    fits_more_clauses (MoreClauses clause cases) =
        keeps_map (keeps_then (keeps_sign _) (keeps_then (fits_clause clause) (fits_more_clauses cases)))
        (λ x. and_intro x.1.0 x.1.1)
