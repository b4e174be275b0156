-- What a tree counts of a list with gaps.
use Rattle.std.proofs.Common.{arith, ◌≡◌, ◌<◌, ◌≤◌, ◌+◌, ◌*◌, ◌^◌, ◌⊎◌, ℕ, zero, suc, refl, sym, ap, subst, ◌∙◌, List, [], ◌∷◌, length, take, map, slice_get, slice_index_or, Option, Some, None, filter, is_some, inl, inr}
use Rattle.std.proofs.Math.Nat.{pow-zero, pow-succ'}
use Rattle.std.proofs.lemmas.Bool.{cases_lt}
use Rattle.std.proofs.lemmas.Option.{slice_get-get_or, slice_get_past, get_or_from_slice_get, none-some, same_Some}
use Rattle.icn_structs.specs.Counts.{count_at, counts_from, IsPowerOfTwo}
use Rattle.icn_structs.specs.GapLists.{present, filling, IsCounted}
use Rattle.icn_structs.proofs.LeafSums.{sum_below}

module _ {A : Type 0} (counts : List ℕ) where
  -- leaves that hold what a list has count what is there
  pub sum_present : (items : List (Option A)) (first n : ℕ)
      → ((index : ℕ) → index < n → count_at counts (first + index) ≡ filling (slice_get items index))
      → counts_from counts first n ≡ length (present (take n items))
  sum_present items first zero holds = refl
  sum_present [] first (suc n) holds =
      let here : count_at counts first ≡ 0 = ap (count_at counts) (no_more first) ∙ holds 0 (omega arith) in
      let later = sum_present [] (suc first) n (λ index less. ap (count_at counts) (one_more first index) ∙ holds (suc index) (omega (arith, less))) in
      omega (arith, here, later, nothing n)
    where
      no_more : (m : ℕ) → m ≡ m + 0
      no_more m = omega arith

      one_more : (m i : ℕ) → suc m + i ≡ m + suc i
      one_more m i = omega arith

      nothing : (m : ℕ) → length (present {A = A} (take m [])) ≡ 0
      nothing zero = refl
      nothing (suc m) = refl
  sum_present (None ∷ items) first (suc n) holds =
      let here : count_at counts first ≡ 0 = ap (count_at counts) (omega arith) ∙ holds 0 (omega arith) in
      let later = sum_present items (suc first) n (λ index less. ap (count_at counts) (omega arith) ∙ holds (suc index) (omega (arith, less))) in
      omega (arith, here, later)
  sum_present (Some item ∷ items) first (suc n) holds =
      let here : count_at counts first ≡ 1 = ap (count_at counts) (omega arith) ∙ holds 0 (omega arith) in
      let later = sum_present items (suc first) n (λ index less. ap (count_at counts) (omega arith) ∙ holds (suc index) (omega (arith, less))) in
      omega (arith, here, later)

-- 1 is a power of two
pub one_is_power : IsPowerOfTwo 1
one_is_power = record { exponent = 0; is = sym (pow-zero 2) }

-- twice a power of two is one
pub twice_is_power : (width : ℕ) → (width ≡ 0) ⊎ IsPowerOfTwo width → (width ≡ 0 → ⊥) → IsPowerOfTwo (2 * width)
twice_is_power width (inl none) some = absurd (some none)
twice_is_power width (inr power) some = record {
  exponent = suc power.exponent;
  is = ap (λ n. 2 * n) power.is ∙ sym (pow-succ' 2 power.exponent);
}

-- what stands in for an item past the end is of no matter within
pub any_default : {A : Type 0} (items : List A) (index : ℕ) (one other : A) → index < length items
    → slice_index_or items index one ≡ slice_index_or items index other
any_default items index one other less =
    get_or_from_slice_get items index _ one (slice_get-get_or items index other less)

-- past the end nothing is counted
past_end : (counts : List ℕ) → length counts ≡ 0 → count_at counts 1 ≡ 0
past_end [] none = refl
past_end (count ∷ counts) none = absurd (omega (arith, none))

nothing_there : {A : Type 0} (items : List (Option A)) → length items ≤ 0 → length (present items) ≡ 0
nothing_there [] none = refl
nothing_there (item ∷ items) none = absurd (omega (arith, none))

all_taken : {A : Type 0} (items : List A) (n : ℕ) → length items ≤ n → take n items ≡ items
all_taken [] zero most = refl
all_taken [] (suc n) most = refl
all_taken (item ∷ items) zero most = absurd (omega (arith, most))
all_taken (item ∷ items) (suc n) most = ap (λ rest. item ∷ rest) (all_taken items n (omega (arith, most)))

-- what stands behind so many that are there
pub present_at : {A : Type 0} (items : List (Option A)) (index : ℕ) (item : A) → slice_get items index ≡ Some (Some item)
    → slice_get (present items) (length (present (take index items))) ≡ Some item
present_at [] index item is = absurd (none-some _ is)
present_at (None ∷ items) zero item is = absurd (none-some _ (same_Some _ _ is))
present_at (None ∷ items) (suc index) item is = present_at items index item is
present_at (Some first ∷ items) zero item is = same_Some _ _ is
present_at (Some first ∷ items) (suc index) item is = present_at items index item is

module _ {A : Type 0} (items : List (Option A)) (counts : List ℕ) (width : ℕ) (counted : IsCounted A items counts width) where
  -- what a leaf counts
  leaf_holds : (index : ℕ) → index < width → count_at counts (width + index) ≡ filling (slice_get items index)
  leaf_holds index less = by (cases_lt index (length items))
    where
      by : (index < length items) ⊎ (length items ≤ index) → count_at counts (width + index) ≡ filling (slice_get items index)
      by (inl before) = counted.counted.leaves index before
      by (inr behind) = counted.counted.free index behind less ∙ sym (ap filling (slice_get_past items index behind))

  -- the leaves before one count what is there before it
  pub before_leaf : (leaf : ℕ) → leaf ≤ width → counts_from counts width leaf ≡ length (present (take leaf items))
  before_leaf leaf most = sum_present counts items width leaf (λ index less. leaf_holds index (omega (arith, less, most)))

  -- the root counts all that is there
  pub root_counts : count_at counts 1 ≡ length (present items)
  root_counts = by counted.power
    where
      by : (width ≡ 0) ⊎ IsPowerOfTwo width → count_at counts 1 ≡ length (present items)
      by (inl none) =
          let no_counts : length counts ≡ 0 = counted.counted.length ∙ ap (λ n. 2 * n) none in
          let no_items : length items ≤ 0 = subst (λ n. length items ≤ n) none counted.counted.within in
          past_end counts no_counts ∙ sym (nothing_there items no_items)
      by (inr power) =
          let whole : 1 * 2 ^ power.exponent + 2 ^ power.exponent ≤ 2 * width = omega (arith, power.is) in
          let all = sum_below counts width counted.counted.summed power.exponent 1 (omega arith) whole in
          let first : 1 * 2 ^ power.exponent ≡ width = omega (arith, power.is) in
          sym all ∙ ap (λ at. counts_from counts at (2 ^ power.exponent)) first ∙ ap (counts_from counts width) (sym power.is)
          ∙ before_leaf width (omega arith) ∙ ap (λ (list : List (Option A)). length (present list)) (all_taken items width counted.counted.within)

  -- the leaf that a number leads to holds the thing at that place
  pub found_there : (place leaf : ℕ) (other : Option A) → leaf < width → counts_from counts width leaf ≤ place
      → place < counts_from counts width leaf + count_at counts (width + leaf)
      → slice_index_or items leaf other ≡ slice_get (present items) place
  found_there place leaf other less before within = by (slice_get items leaf) refl
    where
      here : count_at counts (width + leaf) ≡ filling (slice_get items leaf)
      here = leaf_holds leaf less

      by : (held : Option (Option A)) → slice_get items leaf ≡ held → slice_index_or items leaf other ≡ slice_get (present items) place
      by None is = absurd (omega (arith, here, ap filling is, before, within))
      by (Some None) is = absurd (omega (arith, here, ap filling is, before, within))
      by (Some (Some item)) is =
          let one : count_at counts (width + leaf) ≡ 1 = here ∙ ap filling is in
          let count : length (present (take leaf items)) ≡ place = omega (arith, before_leaf leaf (omega (arith, less)), one, before, within) in
          get_or_from_slice_get items leaf (Some item) other is
          ∙ sym (present_at items leaf item is) ∙ ap (slice_get (present items)) count

-- what is kept where gaps go
pub filtered_present : {A : Type 0} (items : List (Option A)) → filter is_some items ≡ map Some (present items)
filtered_present [] = refl
filtered_present (None ∷ items) = filtered_present items
filtered_present (Some item ∷ items) = ap (λ rest. Some item ∷ rest) (filtered_present items)

present_most : {A : Type 0} (items : List (Option A)) → length (present items) ≤ length items
present_most [] = omega arith
present_most (None ∷ items) = omega (arith, present_most items)
present_most (Some item ∷ items) = omega (arith, present_most items)

-- where as many are there as there are indexes, each stands at its place
pub no_gaps : {A : Type 0} (items : List (Option A)) → length (present items) ≡ length items → (place : ℕ) (other : Option A) → place < length items
    → slice_index_or items place other ≡ slice_get (present items) place
no_gaps [] full place other less = absurd (omega (arith, less))
no_gaps (None ∷ items) full place other less = absurd (omega (arith, full, present_most items))
no_gaps (Some item ∷ items) full zero other less = refl
no_gaps (Some item ∷ items) full (suc place) other less = no_gaps items (omega (arith, full)) place other (omega (arith, less))
