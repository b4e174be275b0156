-- How the values of segments follow from their places.
use Rattle.std.proofs.Common.{◌≡◌, ◌≢◌, ℕ, zero, suc, ◌+◌, ◌-◌, ◌*◌, ◌/◌, ◌%◌, ◌^◌, ◌<◌, ◌≤◌, ◌⊎◌, List, [], ◌∷◌, ◌++◌, length, drop, get_or, slice_get, slice_set, Option, Some, None, IsSome, refl, sym, ap, ap₂, ◌∙◌, subst, inl, inr, arith, mod-lt, zero-lt-suc, length-append, add-one}
use Rattle.std.proofs.Math.Nat.{div-add-mod}
use Rattle.std.proofs.lemmas.List.{get_or-set_same, get_or-set_other, get_or_append_left, get_or-append-add, length-set}
use Rattle.std_alloc.proofs.Permutation.{which}
use Rattle.icn_frames.specs.Heights.{cut, cell_at, set_cell}
use Rattle.icn_segments.specs.Segmented.{place_at, with_place, in_front, values_to, AreWhole, AreFilled}

-- where an index lies

pub inside : (index : ℕ) → index % 256 < 256
inside index = mod-lt index (zero-lt-suc 255)

pub segment_below : (index n : ℕ) → index < 256 * n → index / 256 < n
segment_below index n p = let e = div-add-mod index 256 in omega (arith, e)

parts_are : (i j : ℕ) → i / 256 ≡ j / 256 → i % 256 ≡ j % 256 → i ≡ j
parts_are i j a b = omega (arith, div-add-mod i 256, div-add-mod j 256)

below_or_not : (a b : ℕ) → (a < b) ⊎ (b ≤ a)
below_or_not zero zero = inr (omega arith)
below_or_not zero (suc b) = inl (omega arith)
below_or_not (suc a) zero = inr (omega arith)
below_or_not (suc a) (suc b) = elim (below_or_not a b) [ inl h ↦ inl (omega arith) | inr h ↦ inr (omega arith) ]

some_is : {T : Type 0} (o : Option T) → IsSome o → (x : T) × (o ≡ Some x)
some_is (Some x) k = (x, refl)
some_is None k = cc

-- what holds of the segments of a stack of so many values
pub record IsSegmented {X : Type 0} (segments : List (List (Option X))) (len : ℕ) : Type 0 where
  pub whole : AreWhole segments
  pub filled : (index : ℕ) → index < len → (v : X) × (place_at segments index ≡ Some v)
  pub within : len ≤ 256 * length segments
  pub few : length segments < 2 ^ 24

-- below the next, and another
pub below_next : (j n : ℕ) → j < n + 1 → j ≢ n → j < n
below_next j n p d = elim (below_or_not j n) [ inl low ↦ low | inr high ↦ absurd (d (omega arith)) ]

module _ {X : Type 0} where
  pub segmented : (s : List (List (Option X))) (n : ℕ) → AreWhole s → AreFilled s n → n ≤ 256 * length s → length s < 2 ^ 24 → IsSegmented s n
  segmented s n w f p q = record { whole = w; filled = λ i r. some_is (place_at s i) (f i r); within = p; few = q }

  pub filled_of : (s : List (List (Option X))) (n : ℕ) → IsSegmented s n → AreFilled s n
  filled_of s n t i p = let w = t.filled i p in subst IsSome (sym w.1) refl

  front_at_most : (o : Option X) (values : List X) (n : ℕ) → length values ≤ n → length (in_front o values) ≤ suc n
  front_at_most (Some v) values n p = omega (arith, p)
  front_at_most None values n p = omega (arith, p)

  length_at_most : (s : List (List (Option X))) (n : ℕ) → length (values_to s n) ≤ n
  length_at_most s zero = omega arith
  length_at_most s (suc n) = front_at_most (place_at s n) (values_to s n) n (length_at_most s n)

  -- the values, and for how many more there is room, are few
  pub few_values : (s : List (List (Option X))) (n : ℕ) → n ≤ 256 * length s → length s < 2 ^ 24
      → length (values_to s n) + (256 * length s - n) < 2 ^ 63
  few_values s n p q = omega (arith, length_at_most s n)

  -- a value was put into a place

  pub put_there : (s : List (List (Option X))) (i : ℕ) (v : X) → i / 256 < length s → length (get_or s (i / 256) []) ≡ 256
      → place_at (with_place s i v) i ≡ Some v
  put_there s i v p q =
      let seg : List (Option X) = slice_set (get_or s (i / 256) []) (i % 256) (Some v) in
      ap (λ (w : List (Option X)). get_or w (i % 256) None) (get_or-set_same s (i / 256) seg [] p)
      ∙ get_or-set_same (get_or s (i / 256) []) (i % 256) (Some v) None (omega (arith, inside i))

  pub put_elsewhere : (s : List (List (Option X))) (i j : ℕ) (v : X) → i / 256 < length s → j ≢ i
      → place_at (with_place s i v) j ≡ place_at s j
  put_elsewhere s i j v p d =
      let seg : List (Option X) = slice_set (get_or s (i / 256) []) (i % 256) (Some v) in
      elim (which (j / 256) (i / 256)) [
        | inl e ↦
            let other : (j % 256) ≢ (i % 256) = λ k. d (parts_are j i e k) in
            ap (λ (k : ℕ). get_or (get_or (slice_set s (i / 256) seg) k []) (j % 256) None) e
            ∙ ap (λ (w : List (Option X)). get_or w (j % 256) None) (get_or-set_same s (i / 256) seg [] p)
            ∙ get_or-set_other (get_or s (i / 256) []) (i % 256) (j % 256) (Some v) None other
            ∙ ap (λ (k : ℕ). get_or (get_or s k []) (j % 256) None) (sym e)
        | inr e ↦ ap (λ (w : List (Option X)). get_or w (j % 256) None) (get_or-set_other s (i / 256) (j / 256) seg [] e)
      ]

  whole_put : (s : List (List (Option X))) (i k : ℕ) (v : X) → i / 256 < length s
      → ((k : ℕ) → k < length s → length (get_or s k []) ≡ 256) → k < length s → length (get_or (with_place s i v) k []) ≡ 256
  whole_put s i k v p w q =
      let seg : List (Option X) = slice_set (get_or s (i / 256) []) (i % 256) (Some v) in
      elim (which k (i / 256)) [
        | inl e ↦ ap (λ (n : ℕ). length (get_or (slice_set s (i / 256) seg) n [])) e ∙ ap length (get_or-set_same s (i / 256) seg [] p)
            ∙ length-set (get_or s (i / 256) []) (i % 256) (Some v) ∙ w (i / 256) p
        | inr e ↦ ap length (get_or-set_other s (i / 256) k seg [] e) ∙ w k q
      ]

  -- the values

  pub length_to : (s : List (List (Option X))) (n : ℕ) → ((i : ℕ) → i < n → (v : X) × (place_at s i ≡ Some v)) → length (values_to s n) ≡ n
  length_to s zero f = refl
  length_to s (suc n) f =
      let w = f n (omega arith) in
      ap (λ (o : Option X). length (in_front o (values_to s n))) w.1 ∙ ap suc (length_to s n (λ i p. f i (omega arith)))

  pub value_there : (s : List (List (Option X))) (n i : ℕ) → ((i : ℕ) → i < n → (v : X) × (place_at s i ≡ Some v)) → i < n
      → slice_get (values_to s n) (n - (i + 1)) ≡ place_at s i
  value_there s zero i f p = absurd (omega arith)
  value_there s (suc n) i f p =
      let w = f n (omega arith) in
      let values : List X = values_to s n in
      elim (below_or_not i n) [
        | inl low ↦
            let at : suc n - (i + 1) ≡ suc (n - (i + 1)) = omega arith in
            ap (λ (k : ℕ). slice_get (in_front (place_at s n) values) k) at ∙ ap (λ (o : Option X). slice_get (in_front o values) (suc (n - (i + 1)))) w.1
            ∙ value_there s n i (λ j q. f j (omega arith)) low
        | inr high ↦
            let same : i ≡ n = omega arith in
            let at : suc n - (i + 1) ≡ 0 = omega arith in
            ap (λ (k : ℕ). slice_get (in_front (place_at s n) values) k) at ∙ ap (λ (o : Option X). slice_get (in_front o values) 0) w.1
            ∙ sym w.1 ∙ ap (place_at s) (sym same)
      ]

  pub values_same : (s s' : List (List (Option X))) (n : ℕ) → ((i : ℕ) → i < n → place_at s' i ≡ place_at s i) → values_to s' n ≡ values_to s n
  values_same s s' zero f = refl
  values_same s s' (suc n) f = ap₂ in_front (f n (omega arith)) (values_same s s' n (λ i p. f i (omega arith)))

  pub values_set : (s : List (List (Option X))) (n i : ℕ) (v : X) → ((i : ℕ) → i < n → (v : X) × (place_at s i ≡ Some v)) → i < n
      → i / 256 < length s → length (get_or s (i / 256) []) ≡ 256
      → values_to (with_place s i v) n ≡ slice_set (values_to s n) (n - (i + 1)) v
  values_set s zero i v f p a b = absurd (omega arith)
  values_set s (suc n) i v f p a b =
      let w = f n (omega arith) in
      let values : List X = values_to s n in
      elim (below_or_not i n) [
        | inl low ↦
            let at : suc n - (i + 1) ≡ suc (n - (i + 1)) = omega arith in
            let other : n ≢ i = λ k. omega (arith, k) in
            ap₂ in_front (put_elsewhere s i n v a other ∙ w.1) (values_set s n i v (λ j q. f j (omega arith)) low a b)
            ∙ ap (λ (o : Option X). slice_set (in_front o values) (suc (n - (i + 1))) v) (sym w.1)
            ∙ ap (λ (k : ℕ). slice_set (in_front (place_at s n) values) k v) (sym at)
        | inr high ↦
            let same : i ≡ n = omega arith in
            let at : suc n - (i + 1) ≡ 0 = omega arith in
            let others : (j : ℕ) → j < n → place_at (with_place s i v) j ≡ place_at s j = λ j q. put_elsewhere s i j v a (λ k. omega (arith, k)) in
            ap₂ in_front (ap (place_at (with_place s i v)) (sym same) ∙ put_there s i v a b) (values_same s (with_place s i v) n others)
            ∙ ap (λ (o : Option X). slice_set (in_front o values) 0 v) (sym w.1)
            ∙ ap (λ (k : ℕ). slice_set (in_front (place_at s n) values) k v) (sym at)
      ]

  pub values_cut : (s : List (List (Option X))) (n m : ℕ) → ((i : ℕ) → i < n → (v : X) × (place_at s i ≡ Some v)) → m ≤ n
      → values_to s m ≡ drop (n - m) (values_to s n)
  values_cut s zero m f p =
      let e : m ≡ 0 = omega arith in
      let k : 0 - m ≡ 0 = omega arith in
      ap (values_to s) e ∙ ap (λ (w : ℕ). drop w (values_to s 0)) (sym k)
  values_cut s (suc n) m f p =
      let w = f n (omega arith) in
      let values : List X = values_to s n in
      elim (below_or_not n m) [
        | inl high ↦
            let e : m ≡ suc n = omega arith in
            let at : suc n - m ≡ 0 = omega arith in
            ap (values_to s) e ∙ ap (λ (k : ℕ). drop k (values_to s (suc n))) (sym at)
        | inr low ↦
            let at : suc n - m ≡ suc (n - m) = omega arith in
            values_cut s n m (λ j q. f j (omega arith)) low ∙ ap (λ (o : Option X). drop (suc (n - m)) (in_front o values)) (sym w.1)
            ∙ ap (λ (k : ℕ). drop k (in_front (place_at s n) values)) (sym at)
      ]

  -- what stays of segments

  pub put_within : (s : List (List (Option X))) (n i : ℕ) → IsSegmented s n → i < 256 * length s
      → (i / 256 < length s) × (length (get_or s (i / 256) []) ≡ 256)
  put_within s n i t p = let q = segment_below i (length s) p in (q, t.whole (i / 256) q)

  pub segmented_put : (s : List (List (Option X))) (n m i : ℕ) (v : X) → IsSegmented s n → i < 256 * length s → m ≤ 256 * length s
      → ((j : ℕ) → j < m → j ≢ i → j < n) → IsSegmented (with_place s i v) m
  segmented_put s n m i v t p q f =
      let w = put_within s n i t p in
      let long : length (with_place s i v) ≡ length s = length-set s (i / 256) (slice_set (get_or s (i / 256) []) (i % 256) (Some v)) in
      record {
        whole = λ k r. whole_put s i k v w.0 t.whole (omega (arith, r, long));
        filled = λ j r. elim (which j i) [
          | inl e ↦ (v, ap (place_at (with_place s i v)) e ∙ put_there s i v w.0 w.1)
          | inr e ↦ let old = t.filled j (f j r e) in (old.0, put_elsewhere s i j v w.0 e ∙ old.1)
        ];
        within = omega (arith, q, long);
        few = omega (arith, t.few, long);
      }

  pub segmented_less : (s : List (List (Option X))) (n m : ℕ) → IsSegmented s n → m ≤ n → IsSegmented s m
  segmented_less s n m t p = record {
    whole = t.whole;
    filled = λ j r. t.filled j (omega arith);
    within = omega (arith, t.within);
    few = t.few;
  }

  pub place_more : (s : List (List (Option X))) (seg : List (Option X)) (i : ℕ) → i < 256 * length s → place_at (s ++ seg ∷ []) i ≡ place_at s i
  place_more s seg i p = ap (λ (w : List (Option X)). get_or w (i % 256) None) (get_or_append_left s (seg ∷ []) [] (i / 256) (segment_below i (length s) p))

  pub segmented_more : (s : List (List (Option X))) (seg : List (Option X)) (n : ℕ) → IsSegmented s n → length seg ≡ 256 → length s + 1 < 2 ^ 24
      → IsSegmented (s ++ seg ∷ []) n
  segmented_more s seg n t l p =
      let long : length (s ++ seg ∷ []) ≡ length s + 1 = length-append s (seg ∷ []) in
      record {
        whole = λ k r. elim (below_or_not k (length s)) [
          | inl low ↦ ap length (get_or_append_left s (seg ∷ []) [] k low) ∙ t.whole k low
          | inr high ↦
              let at : k ≡ length s + 0 = omega (arith, r, long) in
              ap (λ (j : ℕ). length (get_or (s ++ seg ∷ []) j [])) at ∙ ap length (get_or-append-add s (seg ∷ []) 0 []) ∙ l
        ];
        filled = λ j r. let old = t.filled j r in (old.0, place_more s seg j (omega (arith, t.within)) ∙ old.1);
        within = omega (arith, t.within, long);
        few = omega (arith, long);
      }

  pub values_more : (s : List (List (Option X))) (seg : List (Option X)) (n : ℕ) → IsSegmented s n → values_to (s ++ seg ∷ []) n ≡ values_to s n
  values_more s seg n t = values_same s (s ++ seg ∷ []) n (λ i p. place_more s seg i (omega (arith, t.within)))

  -- what each call leaves

  values_next : (s : List (List (Option X))) (n : ℕ) (v : X) → place_at s n ≡ Some v → values_to s (n + 1) ≡ v ∷ values_to s n
  values_next s n v e = ap (values_to s) (add-one n) ∙ ap (λ (o : Option X). in_front o (values_to s n)) e

  pub pushed : (s : List (List (Option X))) (n : ℕ) (v : X) → IsSegmented s n → n < 256 * length s
      → values_to (with_place s n v) (n + 1) ≡ v ∷ values_to s n
  pushed s n v t p =
      let w = put_within s n n t p in
      values_next (with_place s n v) n v (put_there s n v w.0 w.1)
      ∙ ap (λ (values : List X). v ∷ values) (values_same s (with_place s n v) n (λ j q. put_elsewhere s n j v w.0 (λ k. omega (arith, k))))

  pub popped : (s : List (List (Option X))) (n : ℕ) (v : X) → 0 < n → place_at s (n - 1) ≡ Some v → values_to s n ≡ v ∷ values_to s (n - 1)
  popped s n v p e = let same : n ≡ n - 1 + 1 = omega arith in ap (values_to s) same ∙ values_next s (n - 1) v e

  pub value_set : (s : List (List (Option X))) (n i : ℕ) (v : X) → IsSegmented s n → i < n
      → values_to (with_place s i v) n ≡ set_cell (i + 1) v (values_to s n)
  value_set s n i v t p =
      let w = put_within s n i t (omega (arith, t.within)) in
      values_set s n i v t.filled p w.0 w.1 ∙ ap (λ (k : ℕ). slice_set (values_to s n) (k - (i + 1)) v) (sym (length_to s n t.filled))

  pub value_is : (s : List (List (Option X))) (n i : ℕ) → IsSegmented s n → i < n → cell_at (i + 1) (values_to s n) ≡ place_at s i
  value_is s n i t p = ap (λ (k : ℕ). slice_get (values_to s n) (k - (i + 1))) (length_to s n t.filled) ∙ value_there s n i t.filled p

  pub cut_to : (s : List (List (Option X))) (n m : ℕ) → IsSegmented s n → m ≤ n → values_to s m ≡ cut m (values_to s n)
  cut_to s n m t p = values_cut s n m t.filled p ∙ ap (λ (k : ℕ). drop (k - m) (values_to s n)) (sym (length_to s n t.filled))
