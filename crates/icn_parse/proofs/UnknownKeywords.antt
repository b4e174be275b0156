-- The first unknown keyword of two lists, and of one name.
use Rattle.std.proofs.Common.{ℕ, ◌+◌, ◌<◌, length, drop, get_or, Bool, true, false, if◌then◌else◌, List, [], ◌∷◌, ◌++◌, Option, None, Some, Result, Ok, Err, IsErrAnd, ◌≡◌, ◌≢◌, refl, sym, ap, ◌∙◌}
use Rattle.std.proofs.lemmas.Option.{none-some}
use Rattle.std.proofs.lemmas.List.{at_drop_more}
use Rattle.std.proofs.lemmas.Slice.Eq.{bytes_eq-Decides}
use Rattle.std.specs.List.{list_any}
use Rattle.std.specs.Str.{bytes_eq}
use Rattle.icn_text.specs.declared.keyword.Keyword.{Keyword}
use Rattle.icn_text.specs.Keywords.{keyword_name}
use Rattle.icn_tree.specs.declared.tree.Place.{Place}
use Rattle.icn_tree.specs.declared.tree.Name.{Name}
use Rattle.icn_tree.specs.declared.tree.Expr.{Expr}
use Rattle.icn_tree.specs.declared.tree.Clause.{Clause}
use Rattle.icn_tree.specs.TreeOf.{tree_of, all_of, clause_of, all_clauses_of}
use Rattle.icn_parse.specs.Outcomes.{keywords, all_keywords, clause_keywords, clauses_keywords, known_keywords, is_known, first_unknown}
use Rattle.icn_parse.specs.Views.{place_found}

then_by : (t : Bool) (rest later all : Option Place) (place : Place) → None ≡ (if t then rest else Some place) → (None ≡ rest → later ≡ all)
    → (if t then later else Some place) ≡ all
then_by true rest later all place e h = h e
then_by false rest later all place e h = absurd (none-some place e)

-- none in the first of them
pub unknown_then : (a b : List Name) → None ≡ first_unknown a → first_unknown (a ++ b) ≡ first_unknown b
unknown_then [] b e = refl
unknown_then (x ∷ a) b e = then_by (is_known x.text) (first_unknown a) (first_unknown (a ++ b)) (first_unknown b) x.place e (unknown_then a b)

kept_by : (t : Bool) (rest later : Option Place) (place p : Place) → Some p ≡ (if t then rest else Some place) → (Some p ≡ rest → later ≡ Some p)
    → (if t then later else Some place) ≡ Some p
kept_by true rest later place p e h = h e
kept_by false rest later place p e h = sym e

-- one in the first of them
pub unknown_kept : (a b : List Name) (p : Place) → Some p ≡ first_unknown a → first_unknown (a ++ b) ≡ Some p
unknown_kept [] b p e = absurd (none-some p (sym e))
unknown_kept (x ∷ a) b p e = kept_by (is_known x.text) (first_unknown a) (first_unknown (a ++ b)) x.place p e (unknown_kept a b p)

-- the same where it is passed on
pub unknown_passed : (a b : List Name) (p : Place) (result : Result (Unit {0}) Place) → IsErrAnd result (λ q. q ≡ p) → Some p ≡ first_unknown a
    → place_found result ≡ first_unknown (a ++ b)
unknown_passed a b p (Ok done) is e = absurd is
unknown_passed a b p (Err q) is e = ap Some is ∙ sym (unknown_kept a b p e)

-- those of an expression, in front of those behind it
pub exprs_at : (exprs : List Expr) (i : ℕ) (expr : Expr) → i < length exprs → expr ≡ get_or exprs i expr
    → all_keywords (all_of (drop i exprs)) ≡ keywords (tree_of expr) ++ all_keywords (all_of (drop (i + 1) exprs))
exprs_at exprs i expr within is =
    at_drop_more (λ rest. all_keywords (all_of rest)) exprs i expr within
    ∙ ap (λ (e : Expr). keywords (tree_of e) ++ all_keywords (all_of (drop (i + 1) exprs))) (sym is)

-- those of a clause, in front of those behind it
pub clauses_at : (clauses : List Clause) (i : ℕ) (clause : Clause) → i < length clauses → clause ≡ get_or clauses i clause
    → clauses_keywords (all_clauses_of (drop i clauses)) ≡ clause_keywords (clause_of clause) ++ clauses_keywords (all_clauses_of (drop (i + 1) clauses))
clauses_at clauses i clause within is =
    at_drop_more (λ rest. clauses_keywords (all_clauses_of rest)) clauses i clause within
    ∙ ap (λ (e : Clause). clause_keywords (clause_of e) ++ clauses_keywords (all_clauses_of (drop (i + 1) clauses))) (sym is)

false_by : (t : Bool) → (t ≡ true → ⊥) → t ≡ false
false_by true h = absurd (h refl)
false_by false h = refl

other_name : (text : List ℕ) (k : Keyword) → keyword_name k ≢ text → bytes_eq text (keyword_name k) ≡ false
other_name text k differs = false_by _ (λ same. differs (sym ((bytes_eq-Decides text (keyword_name k)).0 same)))

or_false : (s t : Bool) → s ≡ false → t ≡ false → (if s then true else t) ≡ false
or_false true t e f = e
or_false false t e f = f

none_named : (text : List ℕ) → ((any : Keyword) → keyword_name any ≢ text) → (ks : List Keyword)
    → list_any (λ keyword. bytes_eq text (keyword_name keyword)) ks ≡ false
none_named text none [] = refl
none_named text none (k ∷ ks) = rw (other_name text k (none k), none_named text none ks) refl

none_by : (t : Bool) (place : Place) → t ≡ false → Some place ≡ (if t then None else Some place)
none_by false place e = refl
none_by true place e = absurd (let clash : true ≡ false = e in cc)

-- a name that none has
pub name_unknown : (name : Name) → ((any : Keyword) → keyword_name any ≢ name.text) → Some name.place ≡ first_unknown (name ∷ [])
name_unknown name none = none_by (is_known name.text) name.place (none_named name.text none known_keywords)
