-- Kinds that join rows, and that are taken away.
use Rattle.std.proofs.Common.{◌≡◌, ◌∙◌, ◌⊎◌, inl, inr, refl, sym, ap, ℕ, zero, suc, ◌+◌, ◌*◌, ◌<◌, ◌≤◌, List, [], ◌∷◌, ◌++◌, length, take, set, get_or, append_assoc, append-nil, length-append, arith}
use Rattle.std.specs.List.{All}
use Rattle.std.proofs.lemmas.List.{same_from_push}
use Rattle.std.proofs.lemmas.List.{get_or-set_other, get_or_append_left, length-set}
use Rattle.std.proofs.lemmas.List.Concat.{flat_map-append}
use Rattle.std.proofs.lemmas.List.Elements.{All-push, All-set, All-tail}
use Rattle.icn_structs.proofs.FlatRows.{flat_at}
use Rattle.icn_heap.specs.KindRows.{AreKindRows, all_kinds}

more_or_last : (n m : ℕ) → n < m → (suc n < m) ⊎ (suc n ≡ m)
more_or_last n zero within = absurd (omega (arith, within))
more_or_last zero (suc zero) within = inr refl
more_or_last zero (suc (suc m)) within = inl (omega arith)
more_or_last (suc n) (suc m) within =
    elim (more_or_last n m (omega (arith, within))) [ inl more ↦ inl (omega (arith, more)) | inr same ↦ inr (ap suc same) ]

one_of : (xs : List ℕ) → length xs ≡ 1 → (x : ℕ) × (xs ≡ x ∷ [])
one_of [] is = absurd (omega (arith, is))
one_of (x ∷ []) is = (x, refl)
one_of (x ∷ y ∷ xs) is = absurd (omega (arith, is))

pub split_last : (xs : List ℕ) → 0 < length xs → (front : List ℕ) × ((x : ℕ) × (xs ≡ front ++ x ∷ []))
split_last [] some = absurd (omega (arith, some))
split_last (x ∷ []) some = ([], (x, refl))
split_last (x ∷ y ∷ xs) some =
    let rest = split_last (y ∷ xs) (omega arith) in (x ∷ rest.0, (rest.1.0, ap (λ ks. x ∷ ks) rest.1.1))

-- what is left is what was in front of the last
pub same_front : (a b : List ℕ) (x y : ℕ) → a ++ x ∷ [] ≡ b ++ y ∷ [] → a ≡ b
same_front a b x y same = (same_from_push a b x y same).0

-- where a number stands
pub place_within : (rows : List (List ℕ)) (q r : ℕ) → ((k : ℕ) → suc k < length rows → length (get_or rows k []) ≡ 128) → All (λ row. length row ≤ 128) rows
    → r < 128 → 128 * q + r < length (all_kinds rows)
    → (q < length rows) × (r < length (get_or rows q []))
place_within [] q r full few small within = absurd (omega (arith, within))
place_within (row ∷ []) zero r full few small within =
    let whole = length-append row [] in ((omega arith), (omega (arith, within, whole)))
place_within (row ∷ []) (suc q) r full few small within =
    let whole = length-append row [] in let most = few 0 [] (omega arith) in absurd (omega (arith, within, whole, most))
place_within (row ∷ next ∷ rows) zero r full few small within =
    let first : length row ≡ 128 = full 0 (omega arith) in ((omega arith), (omega (arith, first, small)))
place_within (row ∷ next ∷ rows) (suc q) r full few small within =
    let first : length row ≡ 128 = full 0 (omega arith) in
    let whole = length-append row (all_kinds (next ∷ rows)) in
    let rest = place_within (next ∷ rows) q r (λ k low. full (suc k) (omega (arith, low))) (All-tail (λ one. length one ≤ 128) row (next ∷ rows) few) small
    (omega (arith, within, whole, first)) in
    let low = rest.0 in ((omega (arith, low)), rest.1)

pub kind_at : (rows : List (List ℕ)) → AreKindRows rows → (n q r : ℕ) → n ≡ 128 * q + r → r < 128 → n < length (all_kinds rows)
    → get_or (get_or rows q []) r 0 ≡ get_or (all_kinds rows) n 0
kind_at rows are n q r same small within =
    let there = place_within rows q r are.full are.few small (omega (arith, same, within)) in
    sym (flat_at (λ row. row) rows q r [] 0 are.full there.0 there.1) ∙ ap (λ i. get_or (all_kinds rows) i 0) (sym same)

pub last_grows : (rows : List (List ℕ)) (last k : ℕ) → suc last ≡ length rows
    → all_kinds (set rows last (get_or rows last [] ++ k ∷ [])) ≡ all_kinds rows ++ k ∷ []
last_grows [] last k is = absurd (omega (arith, is))
last_grows (row ∷ []) zero k is = append-nil (row ++ k ∷ []) ∙ ap (λ ks. ks ++ k ∷ []) (sym (append-nil row))
last_grows (row ∷ []) (suc last) k is = absurd (omega (arith, is))
last_grows (row ∷ next ∷ rows) zero k is = absurd (omega (arith, is))
last_grows (row ∷ next ∷ rows) (suc last) k is =
    ap (λ ks. row ++ ks) (last_grows (next ∷ rows) last k (omega (arith, is))) ∙ sym (append_assoc row (all_kinds (next ∷ rows)) (k ∷ []))

pub last_shrinks : (rows : List (List ℕ)) (last k : ℕ) (row : List ℕ) → suc last ≡ length rows → get_or rows last [] ≡ row ++ k ∷ []
    → all_kinds rows ≡ all_kinds (set rows last row) ++ k ∷ []
last_shrinks [] last k left is was = absurd (omega (arith, is))
last_shrinks (row ∷ []) zero k left is was = append-nil row ∙ (was ∙ ap (λ ks. ks ++ k ∷ []) (sym (append-nil left)))
last_shrinks (row ∷ []) (suc last) k left is was = absurd (omega (arith, is))
last_shrinks (row ∷ next ∷ rows) zero k left is was = absurd (omega (arith, is))
last_shrinks (row ∷ next ∷ rows) (suc last) k left is was =
    ap (λ ks. row ++ ks) (last_shrinks (next ∷ rows) last k left (omega (arith, is)) was)
    ∙ sym (append_assoc row (all_kinds (set (next ∷ rows) last left)) (k ∷ []))

-- a row of one kind that is taken away
pub last_gone : (rows : List (List ℕ)) (last : ℕ) → suc last ≡ length rows → all_kinds rows ≡ all_kinds (take last rows) ++ get_or rows last []
last_gone [] last is = absurd (omega (arith, is))
last_gone (row ∷ []) zero is = append-nil row
last_gone (row ∷ []) (suc last) is = absurd (omega (arith, is))
last_gone (row ∷ next ∷ rows) zero is = absurd (omega (arith, is))
last_gone (row ∷ next ∷ rows) (suc last) is =
    ap (λ ks. row ++ ks) (last_gone (next ∷ rows) last (omega (arith, is)))
    ∙ sym (append_assoc row (all_kinds (take last (next ∷ rows))) (get_or (next ∷ rows) last []))

pub front_left : (rows : List (List ℕ)) (last : ℕ) → suc last ≡ length rows → length (get_or rows last []) ≡ 1 → (kinds : List ℕ) (kind : ℕ)
    → all_kinds rows ≡ kinds ++ kind ∷ [] → all_kinds (take last rows) ≡ kinds
front_left rows last is one kinds kind same =
    let row = one_of (get_or rows last []) one in
    same_front (all_kinds (take last rows)) kinds row.0 kind
    (ap (λ ks. all_kinds (take last rows) ++ ks) (sym row.1) ∙ (sym (last_gone rows last is) ∙ same))

pub front_set : (rows : List (List ℕ)) (last k : ℕ) (row : List ℕ) → suc last ≡ length rows → get_or rows last [] ≡ row ++ k ∷ [] → (kinds : List ℕ) (kind : ℕ)
    → all_kinds rows ≡ kinds ++ kind ∷ [] → all_kinds (set rows last row) ≡ kinds
front_set rows last k row is was kinds kind same =
    same_front (all_kinds (set rows last row)) kinds k kind (sym (last_shrinks rows last k row is was) ∙ same)

pub row_joins : (rows : List (List ℕ)) (row : List ℕ) → all_kinds (rows ++ row ∷ []) ≡ all_kinds rows ++ row
row_joins rows row = flat_map-append (λ kinds. kinds) rows (row ∷ []) ∙ ap (λ ks. all_kinds rows ++ ks) (append-nil row)

-- What holds of the rows afterwards

module _ (rows : List (List ℕ)) (are : AreKindRows rows) where
  pub set_full : (last : ℕ) (row : List ℕ) → suc last ≡ length rows → 0 < length row → length row ≤ 128 → AreKindRows (set rows last row)
  set_full last row is some few = record {
    full = λ n low. (let size = length-set rows last row in
        let same : get_or (set rows last row) n [] ≡ get_or rows n [] = get_or-set_other rows last n row [] (λ e. omega (arith, size, low, is, e)) in
        ap length same ∙ are.full n (omega (arith, size, low)));
    some = All-set (λ one. 0 < length one) rows last row some are.some;
    few = All-set (λ one. length one ≤ 128) rows last row few are.few;
  }

  pub push_full : (row : List ℕ) → ((last : ℕ) → suc last ≡ length rows → length (get_or rows last []) ≡ 128) → 0 < length row → length row ≤ 128
      → AreKindRows (rows ++ row ∷ [])
  push_full row whole some few = record {
    full = λ n low. (let size = length-append rows (row ∷ []) in
        let within : n < length rows = omega (arith, size, low) in
        ap length (get_or_append_left rows (row ∷ []) [] n within) ∙ by_place n within);
    some = All-push (λ one. 0 < length one) rows row are.some some;
    few = All-push (λ one. length one ≤ 128) rows row are.few few;
  }
    where
      by_place : (n : ℕ) → n < length rows → length (get_or rows n []) ≡ 128
      by_place n within = elim (more_or_last n (length rows) within) [ inl more ↦ are.full n more | inr last ↦ whole n last ]
