-- What came to a place sums up the shapes that came there.
use Rattle.std.proofs.Common.{◌≡◌, ◌≢◌, ℕ, ◌+◌, ◌<◌, ◌≤◌, Bool, true, false, if◌then◌else◌, ◌⊎◌, inl, inr, min, List, length, Option, None, Some, slice_set, refl, sym, ap, subst, ◌∙◌, true≢false, arith}
use Rattle.std.proofs.lemmas.Bool.{cases_lt, cases_eq}
use Rattle.std.proofs.lemmas.List.{get_or-set_same, get_or-set_other, length-set}
use Rattle.icn_verify.specs.Shapes.{PlainShape}
use Rattle.icn_verify.specs.Passing.{Arrival, unseen, one, several, with_shape, seen_at, with_arrival, same_shape, is_one}
use Rattle.icn_verify.proofs.SameShapes.{same_shape_tells, same_shapes, differ_by_test}

-- shapes that differ, of whose operands the fewest are n
pub record AreSeveral (Came : PlainShape → Type 0) (n : ℕ) : Type 0 where
  pub first : PlainShape
  pub other : PlainShape
  pub first_came : Came first
  pub other_came : Came other
  pub differ : first ≢ other
  pub lowest : PlainShape
  pub lowest_came : Came lowest
  pub is : lowest.inner.operands ≡ n
  pub fewest : (shape : PlainShape) → Came shape → n ≤ shape.inner.operands

pub record IsOnly (Came : PlainShape → Type 0) (only : PlainShape) : Type 0 where
  pub came : Came only
  pub alone : (shape : PlainShape) → Came shape → shape ≡ only

abbrev pub Sums : (PlainShape → Type 0) → Arrival → Type 0
Sums Came unseen = (shape : PlainShape) → Came shape → ⊥
Sums Came (one only) = IsOnly Came only
Sums Came (several n) = AreSeveral Came n

-- the same shapes, said otherwise
pub sums_as : (Came Came' : PlainShape → Type 0) → ((shape : PlainShape) → Came shape → Came' shape) → ((shape : PlainShape) → Came' shape → Came shape)
    → (seen : Arrival) → Sums Came seen → Sums Came' seen
sums_as Came Came' on back unseen h = λ shape came. h shape (back shape came)
sums_as Came Came' on back (one only) h = record { came = on only h.came; alone = λ shape came. h.alone shape (back shape came) }
sums_as Came Came' on back (several n) h = record {
  first = h.first;
  other = h.other;
  first_came = on h.first h.first_came;
  other_came = on h.other h.other_came;
  differ = h.differ;
  lowest = h.lowest;
  lowest_came = on h.lowest h.lowest_came;
  is = h.is;
  fewest = λ shape came. h.fewest shape (back shape came);
}

module _ (Came Came' : PlainShape → Type 0) (new : PlainShape) (either' : (shape : PlainShape) → Came' shape → Came shape ⊎ (shape ≡ new))
    (on : (shape : PlainShape) → Came shape → Came' shape) (comes : Came' new) where
  -- the fewer of two
  fewer : (m : ℕ) → (lowest : PlainShape) → Came' lowest → lowest.inner.operands ≡ m
      → (shape : PlainShape) × Came' shape × (shape.inner.operands ≡ min m new.inner.operands)
  fewer m lowest came is = by (cases_lt m new.inner.operands)
    where
      by : (m < new.inner.operands) ⊎ (new.inner.operands ≤ m) → (shape : PlainShape) × Came' shape × (shape.inner.operands ≡ min m new.inner.operands)
      by (inl lt) = (lowest, came, omega arith)
      by (inr le) = (new, comes, omega arith)

  sums_joined : (seen : Arrival) → Sums Came seen → Sums Came' (with_shape seen new)
  sums_joined unseen h = record { came = comes; alone = λ shape came. alone shape (either' shape came) }
    where
      alone : (shape : PlainShape) → Came shape ⊎ (shape ≡ new) → shape ≡ new
      alone shape (inl came) = absurd (h shape came)
      alone shape (inr same) = same
  sums_joined (one only) h = by (same_shape only new) refl
    where
      by : (b : Bool) → same_shape only new ≡ b → Sums Came' (if b then one only else several (min only.inner.operands new.inner.operands))
      by true is = record { came = on only h.came; alone = λ shape came. alone shape (either' shape came) }
        where
          alone : (shape : PlainShape) → Came shape ⊎ (shape ≡ new) → shape ≡ only
          alone shape (inl came) = h.alone shape came
          alone shape (inr same) = same ∙ sym (same_shape_tells only new is)
      by false is = record {
        first = only;
        other = new;
        first_came = on only h.came;
        other_came = comes;
        differ = differ_by_test only new is;
        lowest = low.0;
        lowest_came = low.1;
        is = low.2;
        fewest = λ shape came. fewest shape (either' shape came);
      }
        where
          low : (shape : PlainShape) × Came' shape × (shape.inner.operands ≡ min only.inner.operands new.inner.operands)
          low = fewer only.inner.operands only (on only h.came) refl

          fewest : (shape : PlainShape) → Came shape ⊎ (shape ≡ new) → min only.inner.operands new.inner.operands ≤ shape.inner.operands
          fewest shape (inl came) = let e : shape.inner.operands ≡ only.inner.operands = ap (λ s. s.inner.operands) (h.alone shape came) in omega arith
          fewest shape (inr same) = let e : shape.inner.operands ≡ new.inner.operands = ap (λ s. s.inner.operands) same in omega arith
  sums_joined (several n) h = record {
    first = h.first;
    other = h.other;
    first_came = on h.first h.first_came;
    other_came = on h.other h.other_came;
    differ = h.differ;
    lowest = low.0;
    lowest_came = low.1;
    is = low.2;
    fewest = λ shape came. fewest shape (either' shape came);
  }
    where
      low : (shape : PlainShape) × Came' shape × (shape.inner.operands ≡ min n new.inner.operands)
      low = fewer n h.lowest (on h.lowest h.lowest_came) h.is

      fewest : (shape : PlainShape) → Came shape ⊎ (shape ≡ new) → min n new.inner.operands ≤ shape.inner.operands
      fewest shape (inl came) = let e : n ≤ shape.inner.operands = h.fewest shape came in omega arith
      fewest shape (inr same) = let e : shape.inner.operands ≡ new.inner.operands = ap (λ s. s.inner.operands) same in omega arith

-- what a shape that goes to a place adds to what came
abbrev pub Adds : (ℕ → PlainShape → Type 0) → Option (ℕ × PlainShape) → ℕ → PlainShape → Type 0
Adds Came to place shape = Came place shape ⊎ (to ≡ Some (place, shape))

-- a table sums up what came to the places up to n
abbrev pub SumUp : (ℕ → PlainShape → Type 0) → ℕ → List Arrival → Type 0
SumUp Came n table = (place : ℕ) → place ≤ n → Sums (Came place) (seen_at table place)

none_some : (to : ℕ × PlainShape) → let none : Option (ℕ × PlainShape) = None in (none ≡ Some to) → ⊥
none_some to h = cc

pub sums_arrived : (Came : ℕ → PlainShape → Type 0) (n : ℕ) (table : List Arrival) (to : Option (ℕ × PlainShape)) → length table ≡ n + 1 → SumUp Came n table
    → SumUp (Adds Came to) n (with_arrival table to)
sums_arrived Came n table None long sums place within =
    sums_as (Came place) (Adds Came None place) (λ shape came. inl came) back (seen_at table place) (sums place within)
  where
    back : (shape : PlainShape) → Adds Came None place shape → Came place shape
    back shape (inl came) = came
    back shape (inr h) = absurd (none_some (place, shape) h)
sums_arrived Came n table (Some to) long sums place within = by (cases_eq place to.0)
  where
    other : (place ≡ to.0 → ⊥) → (shape : PlainShape) → Adds Came (Some to) place shape → Came place shape
    other ne shape (inl came) = came
    other ne shape (inr h) = absurd (ne (sym (ap (λ o. target o) h)))
      where
        target : Option (ℕ × PlainShape) → ℕ
        target None = 0
        target (Some p) = p.0

    split : place ≡ to.0 → (shape : PlainShape) → Adds Came (Some to) place shape → Came place shape ⊎ (shape ≡ to.1)
    split is shape (inl came) = inl came
    split is shape (inr h) = inr (sym (ap (λ o. carried o) h))
      where
        carried : Option (ℕ × PlainShape) → PlainShape
        carried None = shape
        carried (Some p) = p.1

    by : (place ≡ to.0) ⊎ (place ≡ to.0 → ⊥) → Sums (Adds Came (Some to) place) (seen_at (with_arrival table (Some to)) place)
    by (inl is) =
        let at : seen_at (with_arrival table (Some to)) place ≡ with_shape (seen_at table place) to.1 =
        ap (λ p. seen_at (slice_set table to.0 (with_shape (seen_at table to.0) to.1)) p) is
        ∙ get_or-set_same table to.0 (with_shape (seen_at table to.0) to.1) unseen (omega arith) ∙ ap (λ p. with_shape (seen_at table p) to.1) (sym is) in
        subst (Sums (Adds Came (Some to) place)) (sym at)
        (sums_joined (Came place) (Adds Came (Some to) place) to.1 (split is) (λ shape came. inl came) (inr (λ i. Some (sym is i, to.1))) (seen_at table place)
        (sums place within))
    by (inr ne) =
        let at : seen_at (with_arrival table (Some to)) place
        ≡ seen_at table place = get_or-set_other table to.0 place (with_shape (seen_at table to.0) to.1) unseen ne in
        subst (Sums (Adds Came (Some to) place)) (sym at)
        (sums_as (Came place) (Adds Came (Some to) place) (λ shape came. inl came) (other ne) (seen_at table place) (sums place within))

pub length_arrived : (table : List Arrival) (to : Option (ℕ × PlainShape)) → length (with_arrival table to) ≡ length table
length_arrived table None = refl
length_arrived table (Some to) = length-set table to.0 (with_shape (seen_at table to.0) to.1)

-- whether the one shape that came is this one
pub holds : (Came : PlainShape → Type 0) (seen : Arrival) (shape : PlainShape) → Sums Came seen → is_one seen shape ≡ true → Came shape
holds Came unseen shape sums h = absurd (true≢false (sym h))
holds Came (one only) shape sums h = subst Came (same_shape_tells only shape h) sums.came
holds Came (several n) shape sums h = absurd (true≢false (sym h))

-- where no two came, the test of the one that came is right
pub is_held : (Came : PlainShape → Type 0) (seen : Arrival) (shape : PlainShape) → Sums Came seen → ((a b : PlainShape) → Came a → Came b → a ≢ b → ⊥)
    → Came shape → is_one seen shape ≡ true
is_held Came unseen shape sums alone came = absurd (sums shape came)
is_held Came (one only) shape sums alone came = same_shapes only shape (sym (sums.alone shape came))
is_held Came (several n) shape sums alone came = absurd (alone sums.first sums.other sums.first_came sums.other_came sums.differ)
