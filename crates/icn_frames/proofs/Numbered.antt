-- Entries that are read by how many stand below them.
use Rattle.std.proofs.Common.{◌≡◌, ℕ, zero, suc, ◌+◌, ◌-◌, ◌<◌, ◌≤◌, List, [], ◌∷◌, ◌++◌, length, take, drop, slice_get, slice_set, Some, refl, sym, ap, ◌∙◌, arith, length-append}
use Rattle.std.proofs.lemmas.List.{length-set}
use Rattle.icn_frames.specs.Heights.{cut, cell_at, set_cell, with_copy}
use Rattle.icn_frames.specs.Slots.{number_entries}

pub length_numbered : {A B : Type 0} (f : ℕ → A → B) (s : List A) → length (number_entries f s) ≡ length s
length_numbered f [] = refl
length_numbered f (x ∷ s) = ap (λ (n : ℕ). suc n) (length_numbered f s)

drop_numbered : {A B : Type 0} (f : ℕ → A → B) (n : ℕ) (s : List A) → number_entries f (drop n s) ≡ drop n (number_entries f s)
drop_numbered f zero s = refl
drop_numbered f (suc n) [] = refl
drop_numbered f (suc n) (x ∷ s) = drop_numbered f n s

get_numbered : {A B : Type 0} (f : ℕ → A → B) (s : List A) (n : ℕ) (x : A) → slice_get s n ≡ Some x
    → slice_get (number_entries f s) n ≡ Some (f (length s - suc n) x)
get_numbered f [] n x e = cc
get_numbered f (y ∷ s) zero x e =
    let p : length (y ∷ s) - suc zero ≡ length s = omega arith in
    let k : y ≡ x = cc in
    ap (λ w. Some (f (length s) w)) k ∙ ap (λ (m : ℕ). Some (f m x)) (sym p)
get_numbered f (y ∷ s) (suc n) x e =
    let p : length (y ∷ s) - suc (suc n) ≡ length s - suc n = omega arith in
    get_numbered f s n x e ∙ ap (λ (m : ℕ). Some (f m x)) (sym p)

-- two ways to read, of which each entry is the same
pub numbered_same : {A B : Type 0} (f g : ℕ → A → B) (s : List A) → ((i : ℕ) → i < length s → (x : A) → f i x ≡ g i x) → number_entries f s ≡ number_entries g s
numbered_same f g [] h = refl
numbered_same f g (x ∷ s) h =
    let p : length s < length (x ∷ s) = omega arith in
    let r : number_entries f s ≡ number_entries g s = numbered_same f g s (λ i q y. let o : i < length (x ∷ s) = omega arith in h i o y) in
    ap (λ w. w ∷ number_entries f s) (h (length s) p x) ∙ ap (λ w. g (length s) x ∷ w) r

set_numbered : {A B : Type 0} (f g : ℕ → A → B) (s : List A) (n : ℕ) (y : A) → n < length s
    → ((i : ℕ) → i < length s → (i ≡ length s - suc n → ⊥) → (x : A) → f i x ≡ g i x)
    → number_entries g (slice_set s n y) ≡ slice_set (number_entries f s) n (g (length s - suc n) y)
set_numbered f g [] n y p h = absurd (omega arith)
set_numbered f g (x ∷ s) zero y p h =
    let e : length (x ∷ s) - suc zero ≡ length s = omega arith in
    let r : number_entries f s ≡ number_entries g s
    = numbered_same f g s (λ i q z. let o : i < length (x ∷ s) = omega arith in h i o (λ k. absurd (omega arith)) z) in
    ap (λ w. g (length s) y ∷ w) (sym r) ∙ ap (λ (m : ℕ). g m y ∷ number_entries f s) (sym e)
set_numbered f g (x ∷ s) (suc n) y p h =
    let e : length (x ∷ s) - suc (suc n) ≡ length s - suc n = omega arith in
    let q : n < length s = omega arith in
    let o : length s < length (x ∷ s) = omega arith in
    let d : (length s ≡ length (x ∷ s) - suc (suc n)) → ⊥ = λ k. omega arith in
    let r = set_numbered f g s n y q (λ i a b z. let u : i < length (x ∷ s) = omega arith in h i u (λ k. b (k ∙ e)) z) in
    let l : length (slice_set s n y) ≡ length s = length-set s n y in
    ap (λ (m : ℕ). g m x ∷ number_entries g (slice_set s n y)) l
    ∙ ap (λ w. w ∷ number_entries g (slice_set s n y)) (sym (h (length s) o d x))
    ∙ ap (λ w. f (length s) x ∷ w) (r ∙ ap (λ (m : ℕ). slice_set (number_entries f s) n (g m y)) (sym e))

-- by heights

pub numbered_cut : {A B : Type 0} (f : ℕ → A → B) (height : ℕ) (s : List A) → number_entries f (cut height s) ≡ cut height (number_entries f s)
numbered_cut f height s =
    drop_numbered f (length s - height) s ∙ ap (λ (n : ℕ). drop (n - height) (number_entries f s)) (sym (length_numbered f s))

pub numbered_at : {A B : Type 0} (f : ℕ → A → B) (s : List A) (i : ℕ) (x : A) → i < length s → cell_at (i + 1) s ≡ Some x
    → cell_at (i + 1) (number_entries f s) ≡ Some (f i x)
numbered_at f s i x p e =
    let q : length s - suc (length s - (i + 1)) ≡ i = omega arith in
    ap (λ (n : ℕ). slice_get (number_entries f s) (n - (i + 1))) (length_numbered f s) ∙ get_numbered f s (length s - (i + 1)) x e
    ∙ ap (λ (m : ℕ). Some (f m x)) q

pub numbered_set : {A B : Type 0} (f g : ℕ → A → B) (s : List A) (i : ℕ) (y : A) → i < length s
    → ((j : ℕ) → j < length s → (j ≡ i → ⊥) → (x : A) → f j x ≡ g j x)
    → number_entries g (set_cell (i + 1) y s) ≡ set_cell (i + 1) (g i y) (number_entries f s)
numbered_set f g s i y p h =
    let q : length s - suc (length s - (i + 1)) ≡ i = omega arith in
    let o : length s - (i + 1) < length s = omega arith in
    set_numbered f g s (length s - (i + 1)) y o (λ j a b x. h j a (λ k. b (k ∙ sym q)) x)
    ∙ ap (λ (m : ℕ). slice_set (number_entries f s) (length s - (i + 1)) (g m y)) q
    ∙ ap (λ (n : ℕ). slice_set (number_entries f s) (n - (i + 1)) (g i y)) (sym (length_numbered f s))

-- another entry on top, with what is kept beside it
pub numbered_push : {A B : Type 0} (f g : ℕ → A → B) (s : List A) (x : A) (y : B) → ((i : ℕ) → i < length s → (z : A) → f i z ≡ g i z)
    → g (length s) x ≡ y → number_entries g (x ∷ s) ≡ y ∷ number_entries f s
numbered_push f g s x y h e = ap (λ w. w ∷ number_entries g s) e ∙ ap (λ w. y ∷ w) (sym (numbered_same f g s h))

-- one more of the cells that are copied

drop_one : {T : Type 0} (n : ℕ) (s : List T) (x : T) → slice_get s n ≡ Some x → drop n s ≡ x ∷ drop (suc n) s
drop_one n [] x e = cc
drop_one zero (y ∷ s) x e = cc
drop_one (suc n) (y ∷ s) x e = drop_one n s x e

pub copy_next : {T : Type 0} (s : List T) (from i : ℕ) (x : T) → from ≤ i → i < length s → cell_at (i + 1) s ≡ Some x
    → with_copy from (i + 1) s ≡ x ∷ with_copy from i s
copy_next {T} s from i x a b e =
    let p : i + 1 - from ≡ suc (i - from) = omega arith in
    let q : suc (length s - (i + 1)) ≡ length s - i = omega arith in
    ap (λ (n : ℕ). take n (cut (i + 1) s) ++ s) p
    ∙ ap (λ (w : List T). take (suc (i - from)) w ++ s) (drop_one (length s - (i + 1)) s x e ∙ ap (λ (n : ℕ). x ∷ drop n s) q)

get_behind : {T : Type 0} (above s : List T) (n : ℕ) → slice_get (above ++ s) (length above + n) ≡ slice_get s n
get_behind [] s n = let e : 0 + n ≡ n = omega arith in ap (λ (m : ℕ). slice_get s m) e
get_behind (x ∷ above) s n =
    let e : suc (length above) + n ≡ suc (length above + n) = omega arith in
    ap (λ (m : ℕ). slice_get (x ∷ (above ++ s)) m) e ∙ get_behind above s n

pub at_behind : {T : Type 0} (above s : List T) (i : ℕ) → i < length s → length (above ++ s) ≡ length above + length s
    → cell_at (i + 1) (above ++ s) ≡ cell_at (i + 1) s
at_behind above s i p l =
    let e : length (above ++ s) - (i + 1) ≡ length above + (length s - (i + 1)) = omega arith in
    ap (λ (m : ℕ). slice_get (above ++ s) m) e ∙ get_behind above s (length s - (i + 1))

pub copied_at : {T : Type 0} (s : List T) (from i : ℕ) → i < length s → cell_at (i + 1) (with_copy from i s) ≡ cell_at (i + 1) s
copied_at s from i p = at_behind (take (i - from) (cut i s)) s i p (length-append (take (i - from) (cut i s)) s)

pub copied_within : {T : Type 0} (s : List T) (from i : ℕ) → i < length s → i < length (with_copy from i s)
copied_within s from i p = omega (arith, length-append (take (i - from) (cut i s)) s)
