-- The tests of equal entries and of equal shapes in a few words.
use Rattle.std.proofs.Common.{◌≡◌, ℕ, zero, suc, Bool, true, false, ◌&&◌, ◌||◌, nat_eq, if◌then◌else◌, inl, inr, List, [], ◌∷◌, ◌++◌, slice_get, Option, None, Some, refl, sym, ap, ◌∙◌, true≢false}
use Rattle.std.specs.List.{list_any}
use Rattle.std.proofs.lemmas.Bool.{eq-eqb}
use denote.Enum.Bare.{sameb}
use mathlib.Core.Bool.{beq}
use Rattle.icn_verify.specs.contracts.shape.LevelKind.{the_type}
use Rattle.icn_verify.specs.declared.shape.Level.{Level}
use Rattle.icn_verify.specs.declared.shape.LevelKind.{LevelKind}
use Rattle.icn_verify.specs.declared.shape.LevelKind.TheVariants.{Base, Plain, Limit}
use Rattle.icn_verify.specs.declared.arena.StackedLevel.{StackedLevel}
use Rattle.indexmap.specs.IndexSet.{insert_key}
use Rattle.icn_verify.specs.Shapes.{same_kind, same_level}
use Rattle.icn_verify.specs.Passing.{bool_eq}
use Rattle.icn_verify.specs.KeptOnce.{IsEntered}
use Rattle.icn_verify.proofs.SameShapes.{level_itself}

none_some : {A : Type 0} (a : A) → let none : Option A = None in (none ≡ Some a) → ⊥
none_some a h = cc

some_same : {A : Type 0} (a b : A) → Some a ≡ Some b → a ≡ b
some_same a b h = cc

pub kind_tested : (a b : LevelKind) → sameb the_type a b ≡ same_kind a b
kind_tested Base Base = refl
kind_tested Base Plain = refl
kind_tested Base Limit = refl
kind_tested Plain Base = refl
kind_tested Plain Plain = refl
kind_tested Plain Limit = refl
kind_tested Limit Base = refl
kind_tested Limit Plain = refl
kind_tested Limit Limit = refl

and_assoc : (a b c : Bool) → (a && (b && c)) ≡ (a && b && c)
and_assoc true b c = refl
and_assoc false b c = refl

pub level_tested : (a b : Level) → (sameb the_type a.kind b.kind && (nat_eq a.operands b.operands && nat_eq a.scans b.scans)) ≡ same_level a b
level_tested a b = ap (λ k. k && (nat_eq a.operands b.operands && nat_eq a.scans b.scans)) (kind_tested a.kind b.kind)
    ∙ and_assoc (same_kind a.kind b.kind) (nat_eq a.operands b.operands) (nat_eq a.scans b.scans)

abbrev pub entry_eq : StackedLevel → StackedLevel → Bool
entry_eq a b =
    (sameb the_type a.level.kind b.level.kind && (nat_eq a.level.operands b.level.operands && nat_eq a.level.scans b.level.scans)) && nat_eq a.outer b.outer

and_both : (a b : Bool) → a ≡ true → b ≡ true → (a && b) ≡ true
and_both true b h k = k
and_both false b h k = absurd (true≢false (sym h))

entry_itself : (a : StackedLevel) → entry_eq a a ≡ true
entry_itself a = and_both _ _ (level_tested a.level a.level ∙ level_itself a.level) (eq-eqb a.outer a.outer refl)

or_left : (a b : Bool) → a ≡ true → (a || b) ≡ true
or_left true b h = refl
or_left false b h = absurd (true≢false (sym h))

or_true : (a b : Bool) → b ≡ true → (a || b) ≡ true
or_true true b h = refl
or_true false b h = h

any_at : (entries : List StackedLevel) (k : ℕ) (entry : StackedLevel) → slice_get entries k ≡ Some entry → list_any (entry_eq entry) entries ≡ true
any_at [] k entry h = absurd (none_some entry h)
any_at (first ∷ entries) zero entry h =
    or_left (entry_eq entry first) (list_any (entry_eq entry) entries) (ap (entry_eq entry) (some_same first entry h) ∙ entry_itself entry)
any_at (first ∷ entries) (suc k) entry h = or_true (entry_eq entry first) (list_any (entry_eq entry) entries) (any_at entries k entry h)

pub entered_by : (old : List StackedLevel) (entry : StackedLevel) (new : List StackedLevel) → new ≡ insert_key entry_eq old entry → IsEntered old entry new
entered_by old entry new h = by (list_any (entry_eq entry) old) refl
  where
    by : (found : Bool) → list_any (entry_eq entry) old ≡ found → IsEntered old entry new
    by true is = record { is = inl (h ∙ ap (λ b. if b then old else old ++ entry ∷ []) is) }
    by false is = record { is = inr (h ∙ ap (λ b. if b then old else old ++ entry ∷ []) is, λ k there. true≢false (sym (any_at old k entry there) ∙ is)) }

-- the test of two shapes in a few words
pub flat_tested : (create create' : Bool) (a b : Level) (numbers stacks : Bool) → numbers ≡ stacks
    → (beq create create' && ((sameb the_type a.kind b.kind && (nat_eq a.operands b.operands && nat_eq a.scans b.scans)) && numbers))
    ≡ (bool_eq create create' && same_level a b && stacks)
flat_tested create create' a b numbers stacks h =
    (λ i. bools create create' i && (level_tested a b i && h i)) ∙ and_assoc (bool_eq create create') (same_level a b) stacks
  where
    bools : (c d : Bool) → beq c d ≡ bool_eq c d
    bools true true = refl
    bools true false = refl
    bools false true = refl
    bools false false = refl
