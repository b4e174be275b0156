-- Rows one behind the other, each of which but the last has 128 things.
use Rattle.std.proofs.Common.{◌≡◌, ◌∙◌, sym, ap, ℕ, zero, suc, ◌+◌, ◌*◌, ◌<◌, List, [], ◌∷◌, ◌++◌, length, set, get_or, arith}
use Rattle.std.specs.List.{flat_map}
use Rattle.std.proofs.lemmas.List.{get_or-append-add, get_or_append_left, set-append_left}
use Rattle.std.proofs.lemmas.List.Concat.{flat_map-cons}

module _ {Y : Type 0} where
  -- another element of the second of two lists
  set_behind : (xs ys : List Y) (k : ℕ) (y : Y) → set (xs ++ ys) (length xs + k) y ≡ xs ++ set ys k y
  set_behind [] ys k y = ap (λ i. set ys i y) (let same : 0 + k ≡ k = omega arith in same)
  set_behind (x ∷ xs) ys k y =
      ap (λ i. set (x ∷ (xs ++ ys)) i y) (let same : suc (length xs) + k ≡ suc (length xs + k) = omega arith in same)
      ∙ ap (λ zs. x ∷ zs) (set_behind xs ys k y)

module _ {X Y : Type 0} (f : X → List Y) where
  next_place : (n q r : ℕ) → n ≡ 128 → 128 * suc q + r ≡ n + (128 * q + r)
  next_place n q r same = omega (arith, same)

  -- the thing at a place of a row
  pub flat_at : (rows : List X) (q r : ℕ) (e : X) (d : Y) → ((k : ℕ) → suc k < length rows → length (f (get_or rows k e)) ≡ 128) → q < length rows
      → r < length (f (get_or rows q e))
      → get_or (flat_map f rows) (128 * q + r) d ≡ get_or (f (get_or rows q e)) r d
  flat_at [] q r e d full within small = absurd (omega (arith, within))
  flat_at (row ∷ rows) zero r e d full within small =
      let place : 128 * 0 + r ≡ r = omega arith in
      ap (λ xs. get_or xs (128 * 0 + r) d) (flat_map-cons f row rows)
      ∙ (ap (λ i. get_or (f row ++ flat_map f rows) i d) place ∙ get_or_append_left (f row) (flat_map f rows) d r small)
  flat_at (row ∷ rows) (suc q) r e d full within small =
      let more : 1 < suc (length rows) = omega (arith, within) in
      let first : length (f row) ≡ 128 = full 0 more in
      ap (λ xs. get_or xs (128 * suc q + r) d) (flat_map-cons f row rows)
      ∙ (ap (λ i. get_or (f row ++ flat_map f rows) i d) (next_place (length (f row)) q r first)
      ∙ (get_or-append-add (f row) (flat_map f rows) (128 * q + r) d
      ∙ flat_at rows q r e d (λ k low. full (suc k) (omega (arith, low))) (omega (arith, within)) small))

  -- another thing there is another row
  pub flat_set : (rows : List X) (q r : ℕ) (e new : X) (y : Y) → ((k : ℕ) → suc k < length rows → length (f (get_or rows k e)) ≡ 128) → q < length rows
      → r < length (f (get_or rows q e)) → f new ≡ set (f (get_or rows q e)) r y
      → flat_map f (set rows q new) ≡ set (flat_map f rows) (128 * q + r) y
  flat_set [] q r e new y full within small is = absurd (omega (arith, within))
  flat_set (row ∷ rows) zero r e new y full within small is =
      let place : r ≡ 128 * 0 + r = omega arith in
      flat_map-cons f new rows
      ∙ (ap (λ xs. xs ++ flat_map f rows) is
      ∙ (sym (set-append_left (f row) (flat_map f rows) r y small)
      ∙ (ap (λ i. set (f row ++ flat_map f rows) i y) place ∙ ap (λ xs. set xs (128 * 0 + r) y) (sym (flat_map-cons f row rows)))))
  flat_set (row ∷ rows) (suc q) r e new y full within small is =
      let more : 1 < suc (length rows) = omega (arith, within) in
      let first : length (f row) ≡ 128 = full 0 more in
      flat_map-cons f row (set rows q new)
      ∙ (ap (λ xs. f row ++ xs) (flat_set rows q r e new y (λ k low. full (suc k) (omega (arith, low))) (omega (arith, within)) small is)
      ∙ (sym (set_behind (f row) (flat_map f rows) (128 * q + r) y)
      ∙ (ap (λ i. set (f row ++ flat_map f rows) i y) (sym (next_place (length (f row)) q r first))
      ∙ ap (λ xs. set xs (128 * suc q + r) y) (sym (flat_map-cons f row rows)))))
