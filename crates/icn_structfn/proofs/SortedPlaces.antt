-- Items that are sorted by their places.
use Rattle.std.proofs.Common.{◌≡◌, ◌∙◌, sym, ap, subst, ℕ, ◌+◌, ◌<◌, ◌≤◌, Bool, List, [], ◌∷◌, ◌++◌, append_assoc, append-nil, map, length, arith, ⊎_elim}
use Rattle.std.specs.Prelude.{unwrap_or, slice_index_or}
use Rattle.std.specs.List.{All, range_with_len, slice_get}
use Rattle.std.specs.Cmp.{IsTotalOrder, IsStrictWeakOrder}
use Rattle.std.specs.Fn.{Called, ComparesAs}
use Rattle.std.specs.Ordering.{is_lt}
use Rattle.std.specs.declared.cmp.Ordering.{Ordering}
use Rattle.std.specs.List.Sorted.{IsPermutation, IsSorted, IsSortedBy}
use Rattle.std.proofs.lemmas.Bool.{cases_lt}
use Rattle.std.proofs.lemmas.Fn.{always_returns_same}
use Rattle.std.proofs.lemmas.List.{ext_get_or, get_or-map, get_or_past, length-map, map-append}
use Rattle.std.proofs.lemmas.List.FromFn.{length-map-range_with_len, get_or-map-range_with_len}
use Rattle.std.proofs.lemmas.List.Sorted.{ranks_by, IsPermutation-map}
use Rattle.std.proofs.lemmas.Option.{unwrap_or-slice_get}
use Rattle.icn_defs.specs.Conversions.{sort_list}
use Rattle.icn_structfn.proofs.RowAnswers.{nothing_left}
use denote.Ref.{Bor}
use denote.Param.Members.{Mut}

-- a sort by a closure that answers by a total order sorts by this
pub sorted_by_closure : {F X : Type 0} {g : Mut F (Bor X × (Bor X × Unit {0})) Ordering} {f : F} (cmp : X → X → Ordering) → IsTotalOrder cmp → (xs : List X)
    → ((lt : X → X → Bool) → IsStrictWeakOrder lt → ComparesAs g lt f → IsSortedBy lt xs)
    → ((a : Bor X × (Bor X × Unit {0})) (r : Ordering) (f' : F) → Called g f a r f' → (r ≡ cmp a.0.now a.1.0.now) × (f' ≡ f)) → IsSorted cmp xs
sorted_by_closure {X = X} {g = g} {f = f} cmp total xs up answers =
    up (λ x y. is_lt (cmp x y)) (ranks_by total (λ (x : X). x))
    (always_returns_same g (λ a r. is_lt r ≡ is_lt (cmp a.0.now a.1.0.now)) f
    (λ a r f' called. (ap is_lt (answers a r f' called).0, (answers a r f' called).1)))

module _ {A : Type 0} (xs : List A) (none : A) where
  -- the item at a place, and another one where there is none
  abbrev item_at : ℕ → A
  item_at place = unwrap_or (slice_get xs place) none

  all_items : map item_at (range_with_len 0 (length xs)) ≡ xs
  all_items = ext_get_or none (map item_at (range_with_len 0 (length xs))) xs (length-map-range_with_len item_at 0 (length xs)) at
    where
      at : (k : ℕ) → k < length (map item_at (range_with_len 0 (length xs)))
          → slice_index_or (map item_at (range_with_len 0 (length xs))) k none ≡ slice_index_or xs k none
      at k below =
          let within : k < length xs = subst (λ n. k < n) (length-map-range_with_len item_at 0 (length xs)) below in
          get_or-map-range_with_len item_at 0 (length xs) k k none within (omega arith) ∙ unwrap_or-slice_get xs k none

  -- the items at all places in another order are all items in another order
  pub items_moved : (count : ℕ) (places : List ℕ) → count ≡ length xs → IsPermutation (range_with_len 0 count) places → IsPermutation xs (map item_at places)
  items_moved count places same moved =
      subst (λ ys. IsPermutation ys (map item_at places)) all_items
      (IsPermutation-map item_at (range_with_len 0 (length xs)) places (subst (λ n. IsPermutation (range_with_len 0 n) places) same moved))

  -- where places are in the order of their items, the items are in order
  pub items_sorted : (cmp : A → A → Ordering) (places : List ℕ) → IsSorted (λ i j. cmp (item_at i) (item_at j)) places → IsSorted cmp (map item_at places)
  items_sorted cmp places up k d low high =
      let within : k + 1 < length places = subst (λ n. k + 1 < n) (length-map places item_at) high in
      ap (λ y. is_lt (cmp y (slice_index_or (map item_at places) k d))) (get_or-map item_at places (k + 1) 0 d within)
      ∙ (ap (λ x. is_lt (cmp (item_at (slice_index_or places (k + 1) 0)) x)) (get_or-map item_at places k 0 d (omega arith))
      ∙ up k 0 low within)

  -- so where only one list is in order and has these items, it is this
  pub ordered : (cmp : A → A → Ordering) (count : ℕ) (places held : List ℕ) → held ≡ places → count ≡ length xs → IsPermutation (range_with_len 0 count) places
      → IsSorted (λ i j. cmp (item_at i) (item_at j)) places → ((ys : List A) → IsPermutation xs ys → IsSorted cmp ys → ys ≡ sort_list cmp xs)
      → map item_at held ≡ sort_list cmp xs
  ordered cmp count places held is same moved up one =
      ap (map item_at) is ∙ one (map item_at places) (items_moved count places same moved) (items_sorted cmp places up)

-- items are taken from the first place on: one more is, of those that are left
pub one_taken : {B C : Type 0} (shown : B → C) (f : ℕ → C) (done now : List B) (item : B) (first : ℕ) (rest others : List ℕ) (whole : List C)
    → now ≡ done ++ item ∷ [] → rest ≡ first ∷ others
    → shown item ≡ f first → map shown done ++ map f rest ≡ whole → map shown now ++ map f others ≡ whole
one_taken shown f done now item first rest others whole more same is so =
    ap (λ vals. map shown vals ++ map f others) more
    ∙ (ap (λ vals. vals ++ map f others) (map-append shown done (item ∷ []))
    ∙ (append_assoc (map shown done) (shown item ∷ []) (map f others)
    ∙ (ap (λ v. map shown done ++ v ∷ map f others) is
    ∙ (ap (λ left. map shown done ++ map f left) (sym same) ∙ so))))

-- all are taken
pub all_taken : {B C : Type 0} (shown : B → C) (f : ℕ → C) (done : List B) (rest : List ℕ) (whole : List C) → length rest ≡ 0
    → map shown done ++ map f rest ≡ whole → map shown done ≡ whole
all_taken shown f done rest whole none so =
    sym (append-nil (map shown done)) ∙ (ap (λ left. map shown done ++ map f left) (sym (nothing_left rest none)) ∙ so)

-- what holds of all items and of the one that stands where there is none holds of the item at any place
pub holds_at : {A : Type 0} (P : A → Type 0) (xs : List A) (none : A) (place : ℕ) → All P xs → P none → P (unwrap_or (slice_get xs place) none)
holds_at P xs none place all of_none =
    subst P (sym (unwrap_or-slice_get xs place none))
    (⊎_elim (λ (below : place < length xs). all place none below) (λ (past : length xs ≤ place). subst P (sym (get_or_past xs place none past)) of_none)
    (cases_lt place (length xs)))
