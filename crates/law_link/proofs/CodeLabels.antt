-- Where no two places are of one label, each label has its place: the address of a label is where its place stands.
use Rattle.std.proofs.Common.{◌≡◌, ◌≢◌, ◌⊎◌, inl, inr, ℕ, ◌+◌, Bool, true, false, not, ◌&&◌, ◌||◌, List, [], ◌∷◌, ◌++◌, length, Option, None, Some, refl, subst, nat_eq, if◌then◌else◌, arith}
use Rattle.std.proofs.lemmas.Bool.Decides.{eqb_tells}
use Rattle.icn_unit.specs.declared.unit.UnitInstr.{UnitInstr}
use Rattle.icn_unit.specs.declared.unit.UnitInstr.TheVariants as U
use Rattle.icn_unit.specs.UnitRules.{own_label, own_labels, placed_labels, has_label, labels_differ}
use Rattle.icn_link.specs.Resolving.{Scope, resolved_one, label_address, label_address_by}
use Rattle.law_link.proofs.CodeSteps.{AtPlace, Placed}

-- how many instructions stand for one of a unit
abbrev counted : Option ℕ → ℕ
counted None = 1
counted (Some label) = 0

one_or_none : (S : Scope) (i : UnitInstr) → length (resolved_one S i) ≡ counted (own_label i)
one_or_none S (U.Lab label) = refl
one_or_none S i = refl

both_of : (b t : Bool) → (b && t) ≡ true → (b ≡ true) × (t ≡ true)
both_of true t h = (refl, h)
both_of false t h = absurd (cc)

-- a label before others, none of which it is
here : (label : ℕ) (labels : List ℕ) → has_label (label ∷ labels) label ≡ true
here label labels = by (nat_eq label label) (eqb_tells label label)
  where
    by : (b : Bool) → ((b ≡ true) × (label ≡ label)) ⊎ ((b ≡ false) × (label ≢ label)) → (b || has_label labels label) ≡ true
    by true h = refl
    by false (inl h) = absurd (cc)
    by false (inr h) = absurd (h.1 refl)

later : (label other : ℕ) (labels : List ℕ) → has_label labels label ≡ true → has_label (other ∷ labels) label ≡ true
later label other labels h = by (nat_eq label other)
  where
    by : (b : Bool) → (b || has_label labels label) ≡ true
    by true = refl
    by false = h

place_here : (label behind : ℕ) → label_address_by label (Some label) behind ≡ 0
place_here label behind = by (nat_eq label label) (eqb_tells label label)
  where
    by : (b : Bool) → ((b ≡ true) × (label ≡ label)) ⊎ ((b ≡ false) × (label ≢ label)) → (if b then 0 else behind) ≡ 0
    by true h = refl
    by false (inl h) = absurd (cc)
    by false (inr h) = absurd (h.1 refl)

place_later : (label other behind : ℕ) (labels : List ℕ) → has_label labels label ≡ true → not (has_label labels other) ≡ true
    → label_address_by label (Some other) behind ≡ behind
place_later label other behind labels h n = by (nat_eq label other) (eqb_tells label other)
  where
    by : (b : Bool) → ((b ≡ true) × (label ≡ other)) ⊎ ((b ≡ false) × (label ≢ other)) → (if b then 0 else behind) ≡ behind
    by false e = refl
    by true (inr e) = absurd (cc)
    by true (inl e) = absurd (let there : has_label labels other ≡ true = subst (λ l. has_label labels l ≡ true) e.1 h in
        let no : not true ≡ true = subst (λ b. not b ≡ true) there n in cc)

-- the labels from a place on have these addresses
Known : Scope → ℕ → List ℕ → (ℕ → ℕ) → Type 0
Known S p labels address = (label : ℕ) → has_label labels label ≡ true → S.label label ≡ p + address label

placed_from : (S : Scope) (p : ℕ) (is : List UnitInstr) → labels_differ (placed_labels is) ≡ true
    → Known S p (placed_labels is) (λ label. label_address label is)
    → Placed S p is
unfolding Known
placed_from S p [] d h = tt
placed_from S p (i ∷ is) d h = by (own_label i) (length (resolved_one S i)) (one_or_none S i) d h (λ q. placed_from S q is)
  where
    by : (k : Option ℕ) (one : ℕ) → one ≡ counted k → labels_differ (own_labels k ++ placed_labels is) ≡ true
        → ((label : ℕ) → has_label (own_labels k ++ placed_labels is) label ≡ true → S.label label ≡ p + label_address_by label k (label_address label is))
        → ((q : ℕ) → labels_differ (placed_labels is) ≡ true
        → ((label : ℕ) → has_label (placed_labels is) label ≡ true → S.label label ≡ q + label_address label is) → Placed S q is)
        → AtPlace S p k × Placed S (p + one) is
    by None one e d h rest = (tt, rest (p + one) d (λ label k. let at = h label k in omega arith))
    by (Some m) one e d h rest =
        let parts = both_of (not (has_label (placed_labels is) m)) (labels_differ (placed_labels is)) d in
        let at = h m (here m (placed_labels is)) in
        let zero = place_here m (label_address m is) in (
          omega arith,
          rest (p + one) parts.1 (λ label k.
              let there = h label (later label m (placed_labels is) k) in
              let same = place_later label m (label_address label is) (placed_labels is) k parts.0 in
              omega arith),
        )

pub all_placed : (S : Scope) (is : List UnitInstr) → labels_differ (placed_labels is) ≡ true → ((label : ℕ) → S.label label ≡ label_address label is)
    → Placed S 0 is
unfolding Known
all_placed S is d h = placed_from S 0 is d (λ label k. let at = h label in omega arith)
