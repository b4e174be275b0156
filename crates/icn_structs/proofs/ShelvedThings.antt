-- Things that are there, as they come, change and are given back.
use Rattle.std.proofs.Common.{◌≡◌, ◌∙◌, refl, sym, ap, subst, ℕ, zero, suc, ◌<◌, ◌≤◌, Bool, true, false, List, [], ◌∷◌, ◌++◌, length, set, get_or, arith, length-append}
use Rattle.std.proofs.Math.Nat.{le_refl}
use Rattle.std.specs.List.{All}
use Rattle.std.proofs.lemmas.List.Elements.{All-nil, All-cons, All-head, All-tail}
use Rattle.icn_structs.specs.Shelves.{Shelved, IsSet, those_set, with_new}

-- Flags

-- a flag that is set is one of them
pub set_below : (flags : List Bool) (id : ℕ) → IsSet flags id → id < length flags
set_below [] id is = absurd (grind (arith, is))
set_below (flag ∷ flags) zero is = omega arith
set_below (flag ∷ flags) (suc id) is = let rest = set_below flags id is in omega (arith, rest)

-- it is so with one more behind it
set_front : (flags more : List Bool) (id : ℕ) → IsSet flags id → IsSet (flags ++ more) id
set_front [] more id is = absurd (grind (arith, is))
set_front (flag ∷ flags) more zero is = is
set_front (flag ∷ flags) more (suc id) is = set_front flags more id is

-- the one behind all of them
set_behind : (flags : List Bool) → IsSet (flags ++ true ∷ []) (length flags)
set_behind [] = refl
set_behind (flag ∷ flags) = set_behind flags

-- what was set is set still, and there are as many flags, or more
pub record SetsMore (old new : List Bool) : Type 0 where
  pub still : (id : ℕ) → IsSet old id → IsSet new id
  pub long : length old ≤ length new

pub same_set : (flags : List Bool) → SetsMore flags flags
same_set flags = record { still = λ id is. is; long = le_refl _ }

pub more_set : (flags : List Bool) → SetsMore flags (flags ++ true ∷ [])
more_set flags = record { still = λ id is. set_front flags (true ∷ []) id is; long = rw length-append (omega arith) }

-- a thing that came is there
pub newly_there : {X : Type 0} (old new : Shelved X) (thing : X) → new ≡ with_new old thing → length old.held ≡ length old.things
    → {id : ℕ} → id ≡ length old.things → IsSet new.held id
newly_there {X} old new thing came long {id} is =
    let number : id ≡ length old.held = is ∙ sym long in
    subst (λ (flags : List Bool). IsSet flags id) (sym (ap (λ (shelf : Shelved X). shelf.held) came))
    (subst (λ (n : ℕ). IsSet (old.held ++ true ∷ []) n) (sym number) (set_behind old.held))

-- Things that are there

module _ {X : Type 0} (P : X → Type 0) where
  -- what holds of all that are there holds of the one of a number
  pub at_there : (flags : List Bool) (xs : List X) (id : ℕ) (d : X) → IsSet flags id → id < length xs → All P (those_set flags xs) → P (get_or xs id d)
  at_there flags [] id d is within are = absurd (omega (arith, within))
  at_there [] (x ∷ xs) id d is within are = absurd (grind (arith, is))
  at_there (true ∷ flags) (x ∷ xs) zero d is within are = All-head P x (those_set flags xs) are
  at_there (false ∷ flags) (x ∷ xs) zero d is within are = absurd (grind (arith, is))
  at_there (true ∷ flags) (x ∷ xs) (suc id) d is within are =
      at_there flags xs id d is (omega (arith, within)) (All-tail P x (those_set flags xs) are)
  at_there (false ∷ flags) (x ∷ xs) (suc id) d is within are = at_there flags xs id d is (omega (arith, within)) are

  -- and what holds of those of all numbers holds of all that are there
  pub all_by_number : (flags : List Bool) (xs : List X) (d : X) → ((id : ℕ) → IsSet flags id → id < length xs → P (get_or xs id d))
      → All P (those_set flags xs)
  all_by_number flags [] d each = All-nil P
  all_by_number [] (x ∷ xs) d each = All-nil P
  all_by_number (true ∷ flags) (x ∷ xs) d each =
      All-cons P x (those_set flags xs) (each 0 refl (omega arith)) (all_by_number flags xs d (λ id is within. each (suc id) is (omega (arith, within))))
  all_by_number (false ∷ flags) (x ∷ xs) d each = all_by_number flags xs d (λ id is within. each (suc id) is (omega (arith, within)))

  -- another thing in the place of one
  pub all_other : (flags : List Bool) (xs : List X) (id : ℕ) (x : X) → P x → All P (those_set flags xs) → All P (those_set flags (set xs id x))
  all_other flags [] id x is are = All-nil P
  all_other [] (y ∷ ys) zero x is are = All-nil P
  all_other [] (y ∷ ys) (suc id) x is are = All-nil P
  all_other (true ∷ flags) (y ∷ ys) zero x is are = All-cons P x (those_set flags ys) is (All-tail P y (those_set flags ys) are)
  all_other (false ∷ flags) (y ∷ ys) zero x is are = are
  all_other (true ∷ flags) (y ∷ ys) (suc id) x is are =
      All-cons P y (those_set flags (set ys id x)) (All-head P y (those_set flags ys) are)
      (all_other flags ys id x is (All-tail P y (those_set flags ys) are))
  all_other (false ∷ flags) (y ∷ ys) (suc id) x is are = all_other flags ys id x is are

  -- one thing more
  pub all_new : (flags : List Bool) (xs : List X) (x : X) → length flags ≡ length xs → All P (those_set flags xs) → P x
      → All P (those_set (flags ++ true ∷ []) (xs ++ x ∷ []))
  all_new [] [] x long are is = All-cons P x [] is (All-nil P)
  all_new [] (y ∷ ys) x long are is = absurd (omega (arith, long))
  all_new (flag ∷ flags) [] x long are is = absurd (omega (arith, long))
  all_new (true ∷ flags) (y ∷ ys) x long are is =
      All-cons P y (those_set (flags ++ true ∷ []) (ys ++ x ∷ [])) (All-head P y (those_set flags ys) are)
      (all_new flags ys x (omega (arith, long)) (All-tail P y (those_set flags ys) are) is)
  all_new (false ∷ flags) (y ∷ ys) x long are is = all_new flags ys x (omega (arith, long)) are is
