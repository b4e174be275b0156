-- To set all locals twice is to set them once.
use Rattle.std.proofs.Common.{◌≡◌, ℕ, zero, suc, ◌+◌, ◌-◌, ◌<◌, ◌≤◌, List, [], ◌∷◌, length, slice_get, slice_set, Option, Some, None, refl, sym, ap, ◌∙◌, arith, inl, inr}
use Rattle.std.proofs.lemmas.Bool.{cases_lt}
use Rattle.std.proofs.lemmas.List.{length-set}
use Rattle.icn_frames.specs.Heights.{cell_at}
use Rattle.icn_value.specs.declared.val.Val.{Val}
use Rattle.icn_frames.specs.declared.layout.Cell.{Cell}
use Rattle.icn_frames.specs.declared.layout.Cell.TheVariants.{Base, Call, Local, Mark, Limit, Suspension, Operand}
use Rattle.icn_frames.specs.Stacks.{FlatStack, locals, set_from, set_local, set_locals}

-- a cell with another value, where it is a local
abbrev revalued : Val → Cell → Cell
revalued v (Local old) = Local v
revalued v (Base proc locals) = Base proc locals
revalued v (Call proc locals level registers place) = Call proc locals level registers place
revalued v (Mark label changed registers) = Mark label changed registers
revalued v (Limit count registers) = Limit count registers
revalued v (Suspension why registers place) = Suspension why registers place
revalued v (Operand item) = Operand item

revalued_twice : (v w : Val) (c : Cell) → revalued w (revalued v c) ≡ revalued w c
revalued_twice v w (Local old) = refl
revalued_twice v w (Base proc locals) = refl
revalued_twice v w (Call proc locals level registers place) = refl
revalued_twice v w (Mark label changed registers) = refl
revalued_twice v w (Limit count registers) = refl
revalued_twice v w (Suspension why registers place) = refl
revalued_twice v w (Operand item) = refl

-- so many cells down
abbrev put_down : ℕ → Val → List Cell → List Cell
put_down n v [] = []
put_down zero v (c ∷ cells) = revalued v c ∷ cells
put_down (suc n) v (c ∷ cells) = c ∷ put_down n v cells

put_length : (n : ℕ) (v : Val) (cells : List Cell) → length (put_down n v cells) ≡ length cells
put_length n v [] = refl
put_length zero v (c ∷ cells) = refl
put_length (suc n) v (c ∷ cells) = ap (λ (k : ℕ). suc k) (put_length n v cells)

put_twice : (n : ℕ) (v w : Val) (cells : List Cell) → put_down n w (put_down n v cells) ≡ put_down n w cells
put_twice n v w [] = refl
put_twice zero v w (c ∷ cells) = ap (λ (x : Cell). x ∷ cells) (revalued_twice v w c)
put_twice (suc n) v w (c ∷ cells) = ap (λ (x : List Cell). c ∷ x) (put_twice n v w cells)

-- the later one stays where both are at one cell, and else they may change places
data Passes (n k : ℕ) (v w : Val) (cells : List Cell) : Type 0 where
  one : put_down n w (put_down k v cells) ≡ put_down n w cells → Passes n k v w cells
  other : put_down n w (put_down k v cells) ≡ put_down k v (put_down n w cells) → Passes n k v w cells

passes : (n k : ℕ) (v w : Val) (cells : List Cell) → Passes n k v w cells
passes n k v w [] = one refl
passes zero zero v w (c ∷ cells) = one (put_twice zero v w (c ∷ cells))
passes zero (suc k) v w (c ∷ cells) = other refl
passes (suc n) zero v w (c ∷ cells) = other refl
passes (suc n) (suc k) v w (c ∷ cells) = elim (passes n k v w cells) as (λ x. Passes (suc n) (suc k) v w (c ∷ cells)) [
  | one e ↦ one (ap (λ (x : List Cell). c ∷ x) e)
  | other e ↦ other (ap (λ (x : List Cell). c ∷ x) e)
]

-- a local that is set, by how many cells stand above it

abbrev slot_set : ℕ → Val → List Cell → Option Cell → List Cell
slot_set n v cells (Some (Local old)) = slice_set cells n (Local v)
slot_set n v cells (Some (Base proc locals)) = cells
slot_set n v cells (Some (Call proc locals level registers place)) = cells
slot_set n v cells (Some (Mark label changed registers)) = cells
slot_set n v cells (Some (Limit count registers)) = cells
slot_set n v cells (Some (Suspension why registers place)) = cells
slot_set n v cells (Some (Operand item)) = cells
slot_set n v cells None = cells

slot_is : (height : ℕ) (v : Val) (cells : List Cell) (o : Option Cell) → set_local height v cells o ≡ slot_set (length cells - height) v cells o
slot_is height v cells (Some (Local old)) = refl
slot_is height v cells (Some (Base proc locals)) = refl
slot_is height v cells (Some (Call proc locals level registers place)) = refl
slot_is height v cells (Some (Mark label changed registers)) = refl
slot_is height v cells (Some (Limit count registers)) = refl
slot_is height v cells (Some (Suspension why registers place)) = refl
slot_is height v cells (Some (Operand item)) = refl
slot_is height v cells None = refl

slot_below : (n : ℕ) (v : Val) (c : Cell) (cells : List Cell) (o : Option Cell) → slot_set (suc n) v (c ∷ cells) o ≡ c ∷ slot_set n v cells o
slot_below n v c cells (Some (Local old)) = refl
slot_below n v c cells (Some (Base proc locals)) = refl
slot_below n v c cells (Some (Call proc locals level registers place)) = refl
slot_below n v c cells (Some (Mark label changed registers)) = refl
slot_below n v c cells (Some (Limit count registers)) = refl
slot_below n v c cells (Some (Suspension why registers place)) = refl
slot_below n v c cells (Some (Operand item)) = refl
slot_below n v c cells None = refl

slot_put : (n : ℕ) (v : Val) (cells : List Cell) → slot_set n v cells (slice_get cells n) ≡ put_down n v cells
slot_put n v [] = refl
slot_put zero v (Local old ∷ cells) = refl
slot_put zero v (Base proc locals ∷ cells) = refl
slot_put zero v (Call proc locals level registers place ∷ cells) = refl
slot_put zero v (Mark label changed registers ∷ cells) = refl
slot_put zero v (Limit count registers ∷ cells) = refl
slot_put zero v (Suspension why registers place ∷ cells) = refl
slot_put zero v (Operand item ∷ cells) = refl
slot_put (suc n) v (c ∷ cells) = slot_below n v c cells (slice_get cells n) ∙ ap (λ (x : List Cell). c ∷ x) (slot_put n v cells)

abbrev put_at : ℕ → Val → List Cell → List Cell
put_at height v cells = put_down (length cells - height) v cells

set_is : (height : ℕ) (v : Val) (cells : List Cell) → set_local height v cells (cell_at height cells) ≡ put_at height v cells
set_is height v cells = slot_is height v cells (cell_at height cells) ∙ slot_put (length cells - height) v cells

-- of two that are put, the height of the second counts from the same cells
put_both : (m n : ℕ) (v w : Val) (cells : List Cell) → put_at m w (put_at n v cells) ≡ put_down (length cells - m) w (put_down (length cells - n) v cells)
put_both m n v w cells = ap (λ (k : ℕ). put_down (k - m) w (put_at n v cells)) (put_length (length cells - n) v cells)

-- what is set anew once all are set need not be put before
absorbed : (ys : List Val) (h k : ℕ) (v : Val) (cells : List Cell) → h < k → k ≤ h + length ys → set_from h ys (put_at k v cells) ≡ set_from h ys cells
absorbed [] h k v cells p q = absurd (omega arith)
absorbed (y ∷ ys) h k v cells p q =
    ap (set_from (suc h) ys) (set_is (suc h) y (put_at k v cells) ∙ put_both (suc h) k v y cells)
    ∙ (elim (cases_lt (suc h) k) as
    (λ x. set_from (suc h) ys (put_down (length cells - suc h) y (put_down (length cells - k) v cells)) ≡ set_from h (y ∷ ys) cells) [
      | inl later ↦
          let to : k ≤ suc h + length ys = omega arith in
          past (passes (length cells - suc h) (length cells - k) v y cells) (absorbed ys (suc h) k v (put_at (suc h) y cells) later to)
      | inr last ↦
          let same : k ≡ suc h = omega arith in
          ap (λ (n : ℕ). set_from (suc h) ys (put_down (length cells - suc h) y (put_down (length cells - n) v cells))) same
          ∙ ap (set_from (suc h) ys) (put_twice (length cells - suc h) v y cells ∙ sym (set_is (suc h) y cells))
    ])
  where
    past : Passes (length cells - suc h) (length cells - k) v y cells
        → set_from (suc h) ys (put_at k v (put_at (suc h) y cells)) ≡ set_from (suc h) ys (put_at (suc h) y cells)
        → set_from (suc h) ys (put_down (length cells - suc h) y (put_down (length cells - k) v cells)) ≡ set_from h (y ∷ ys) cells
    past (one e) rest = ap (set_from (suc h) ys) (e ∙ sym (set_is (suc h) y cells))
    past (other e) rest = ap (set_from (suc h) ys) (e ∙ sym (put_both k (suc h) y v cells)) ∙ rest ∙ ap (set_from (suc h) ys) (sym (set_is (suc h) y cells))

from_twice : (xs ys : List Val) (h g : ℕ) (cells : List Cell) → h ≤ g → g + length xs ≤ h + length ys
    → set_from h ys (set_from g xs cells) ≡ set_from h ys cells
from_twice [] ys h g cells p q = refl
from_twice (x ∷ xs) ys h g cells p q =
    let low : h ≤ suc g = omega arith in
    let high : suc g + length xs ≤ h + length ys = omega arith in
    let above : h < suc g = omega arith in
    let within : suc g ≤ h + length ys = omega arith in
    from_twice xs ys h (suc g) (set_local (suc g) x cells (cell_at (suc g) cells)) low high
    ∙ ap (set_from h ys) (set_is (suc g) x cells)
    ∙ absorbed ys h (suc g) x cells above within

-- a stack of which only the locals are others stays so as one of them is set
pub set_again : (base old new : FlatStack) (place : ℕ) (v : Val) → set_locals (locals old) base ≡ old → new ≡ set_locals (slice_set (locals old) place v) old
    → locals new ≡ slice_set (locals old) place v → set_locals (locals new) base ≡ new
set_again base old new place v e f g =
    let ys : List Val = slice_set (locals old) place v in
    let long : length ys ≡ length (locals old) = length-set (locals old) place v in
    let h : ℕ = base.registers.base in
    let low : h ≤ h = omega arith in
    let high : h + length (locals old) ≤ h + length ys = omega arith in
    let F : List Cell → FlatStack = λ w. record base { cells = w } in
    ap (λ (w : List Val). set_locals w base) g
    ∙ ap F (sym (from_twice (locals old) ys h h base.cells low high))
    ∙ ap (set_locals ys) e
    ∙ sym f
