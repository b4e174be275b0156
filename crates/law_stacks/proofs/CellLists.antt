-- Lists of cells by heights.
use Rattle.std.proofs.Common.{◌≡◌, ◌≢◌, ℕ, zero, suc, ◌-◌, List, [], ◌∷◌, ◌++◌, length, map, Some, None, refl, sym, ap, ◌∙◌, arith, length-append}
use Rattle.std.specs.Prelude.{slice_get, slice_set, slice_index_or, drop}
use Rattle.std.proofs.Math.Seq.{drop-append_seam}
use Rattle.std.proofs.lemmas.List.{map-append}
use Rattle.icn_run.specs.Stacks.{cut, cell_at, set_cell, Cell}
use Rattle.law_stacks.specs.Rendered.{Memory, NCell, shown_cell, render}

-- no option is both empty and not
pub none_is_not_some : {A B : Type 0} (x : A) → None ≡ Some x → B
none_is_not_some x e = let z : ⊥ = cc in absurd z

-- equal options have equal values
pub some_injective : {A : Type 0} {x y : A} → Some x ≡ Some y → x ≡ y
some_injective {x = x} {y = y} e = cc

-- what stands in a list stands there when more is put behind
pub get_more : {A : Type 0} (xs : List A) (y : A) (n : ℕ) (v : A) → slice_get xs n ≡ Some v → slice_get (xs ++ y ∷ []) n ≡ Some v
get_more [] y n v e = none_is_not_some v e
get_more (x ∷ xs) y zero v e = e
get_more (x ∷ xs) y (suc n) v e = get_more xs y n v e

-- what stands behind a list stands at its length
pub get_seam : {A : Type 0} (xs : List A) (y : A) (ys : List A) → slice_get (xs ++ y ∷ ys) (length xs) ≡ Some y
get_seam [] y ys = refl
get_seam (x ∷ xs) y ys = get_seam xs y ys

pub index_seam : {A : Type 0} (xs : List A) (y : A) (ys : List A) (d : A) → slice_index_or (xs ++ y ∷ ys) (length xs) d ≡ y
index_seam [] y ys d = refl
index_seam (x ∷ xs) y ys d = index_seam xs y ys d

pub set_seam : {A : Type 0} (xs : List A) (y z : A) (ys : List A) → slice_set (xs ++ y ∷ ys) (length xs) z ≡ xs ++ z ∷ ys
set_seam [] y z ys = refl
set_seam (x ∷ xs) y z ys = ap (λ l. x ∷ l) (set_seam xs y z ys)

-- what is set at a place is read there
pub get_set_same : {A : Type 0} (xs : List A) (n : ℕ) (v y : A) → slice_get xs n ≡ Some v → slice_get (slice_set xs n y) n ≡ Some y
get_set_same [] n v y e = none_is_not_some v e
get_set_same (x ∷ xs) zero v y e = refl
get_set_same (x ∷ xs) (suc n) v y e = get_set_same xs n v y e

-- what is set at one place leaves the others
pub get_set_other : {A : Type 0} (xs : List A) (n m : ℕ) (y : A) → n ≢ m → slice_get (slice_set xs m y) n ≡ slice_get xs n
get_set_other [] n m y d = refl
get_set_other (x ∷ xs) zero zero y d = absurd (d refl)
get_set_other (x ∷ xs) zero (suc m) y d = refl
get_set_other (x ∷ xs) (suc n) zero y d = refl
get_set_other (x ∷ xs) (suc n) (suc m) y d = get_set_other xs n m y (λ e. d (ap suc e))

-- a list has as many entries after each is mapped
pub length_map : {A B : Type 0} (f : A → B) (xs : List A) → length (map f xs) ≡ length xs
length_map f [] = refl
length_map f (x ∷ xs) = ap suc (length_map f xs)

pub above_all : {A : Type 0} (xs : List A) (y : A) (ys : List A) (h : ℕ) → h ≡ suc (length ys) → length (xs ++ y ∷ ys) - h ≡ length xs
above_all xs y ys h e = omega (arith, length-append xs (y ∷ ys))

pub cut_at : (xs : List Cell) (y : Cell) (ys : List Cell) (h : ℕ) → h ≡ suc (length ys) → cut h (xs ++ y ∷ ys) ≡ y ∷ ys
cut_at xs y ys h e = ap (λ n. drop n (xs ++ y ∷ ys)) (above_all xs y ys h e) ∙ drop-append_seam xs (y ∷ ys)

pub get_at : (xs : List Cell) (y : Cell) (ys : List Cell) (h : ℕ) → h ≡ suc (length ys) → cell_at h (xs ++ y ∷ ys) ≡ Some y
get_at xs y ys h e = ap (slice_get (xs ++ y ∷ ys)) (above_all xs y ys h e) ∙ get_seam xs y ys

pub set_at : (xs : List Cell) (y z : Cell) (ys : List Cell) (h : ℕ) → h ≡ suc (length ys) → set_cell h z (xs ++ y ∷ ys) ≡ xs ++ z ∷ ys
set_at xs y z ys h e = ap (λ n. slice_set (xs ++ y ∷ ys) n z) (above_all xs y ys h e) ∙ set_seam xs y z ys

pub cut_off : (xs ys : List Cell) (h : ℕ) → h ≡ length ys → cut h (xs ++ ys) ≡ ys
cut_off xs ys h e = let d : length (xs ++ ys) - h ≡ length xs = omega (arith, length-append xs ys) in ap (λ n. drop n (xs ++ ys)) d ∙ drop-append_seam xs ys

-- the same of cells that are shown

pub render_at : (F : Memory) {cells : List NCell} (above : List NCell) (c : NCell) (below : List NCell) → cells ≡ above ++ c ∷ below
    → render F cells ≡ render F above ++ shown_cell F c ∷ render F below
render_at F above c below e = ap (render F) e ∙ map-append (shown_cell F) above (c ∷ below)

height : (F : Memory) (below : List NCell) (h : ℕ) → h ≡ suc (length below) → h ≡ suc (length (render F below))
height F below h e = e ∙ ap suc (sym (length_map (shown_cell F) below))

-- cells that are cut at a height show that one and those below
pub render_cut : (F : Memory) {cells : List NCell} (above : List NCell) (c : NCell) (below : List NCell) (h : ℕ) → cells ≡ above ++ c ∷ below
    → h ≡ suc (length below) → cut h (render F cells) ≡ shown_cell F c ∷ render F below
render_cut F above c below h e g = ap (cut h) (render_at F above c below e) ∙ cut_at (render F above) (shown_cell F c) (render F below) h (height F below h g)

-- a numbered cell is shown at its height
pub render_get : (F : Memory) {cells : List NCell} (above : List NCell) (c : NCell) (below : List NCell) (h : ℕ) → cells ≡ above ++ c ∷ below
    → h ≡ suc (length below) → cell_at h (render F cells) ≡ Some (shown_cell F c)
render_get F above c below h e g =
    ap (cell_at h) (render_at F above c below e) ∙ get_at (render F above) (shown_cell F c) (render F below) h (height F below h g)

pub render_set : (F : Memory) {cells : List NCell} (above : List NCell) (c : NCell) (below : List NCell) (h : ℕ) (d : Cell) → cells ≡ above ++ c ∷ below
    → h ≡ suc (length below) → set_cell h d (render F cells) ≡ render F above ++ d ∷ render F below
render_set F above c below h d e g =
    ap (set_cell h d) (render_at F above c below e) ∙ set_at (render F above) (shown_cell F c) d (render F below) h (height F below h g)
