-- Places that stay each once, and the new place of each.
use Rattle.std.proofs.Common.{◌≡◌, ◌⊎◌, inl, inr, ℕ, zero, suc, ◌+◌, ◌<◌, ◌≤◌, ◌^◌, Bool, true, false, not, List, [], ◌∷◌, ◌++◌, length, replicate, Option, None, Some, if◌then◌else◌, ◌||◌, refl, sym, ap, ◌∙◌, subst, arith, length-append, get_or}
use Rattle.std.specs.Prelude.{◌==◌, slice_get, slice_set, unwrap_or}
use Rattle.std.specs.List.{list_any}
use Rattle.std.proofs.lemmas.Bool.{eq-eqb, or_left, or_right, false≢true}
use Rattle.std.proofs.lemmas.Bool.Decides.{eqb_tells}
use Rattle.std.proofs.lemmas.List.Sums.{position_or_len_is}
use Rattle.std.proofs.lemmas.Option.{get_or_from_slice_get, none-some, slice_get-get_or, slice_get_past, slice_get_within}
use Rattle.icn_prune.specs.PrunedCode.{new_place, with_place}
use Rattle.icn_prune.specs.Renumbering.{ArePlaces, unset_count}

-- Items at places

pub some_injective : {A : Type 0} (x y : A) → Some x ≡ Some y → x ≡ y
some_injective x y e = ap (λ o. unwrap_or o x) e

-- what stands at a place is among all
pub any_at : (l : List ℕ) (k p : ℕ) → slice_get l k ≡ Some p → list_any (λ other. other == p) l ≡ true
any_at [] k p g = absurd (cc)
any_at (x ∷ l) zero p g = or_left (x == p) (list_any (λ other. other == p) l) (eq-eqb x p (some_injective x p g))
any_at (x ∷ l) (suc k) p g = or_right (x == p) (list_any (λ other. other == p) l) (any_at l k p g)

-- and what is among all stands somewhere
pub at_any : (l : List ℕ) (p : ℕ) → list_any (λ other. other == p) l ≡ true → (k : ℕ) × (slice_get l k ≡ Some p)
at_any [] p h = absurd (false≢true h)
at_any (x ∷ l) p h = by (eqb_tells x p) (at_any l p)
  where
    by : (((x == p) ≡ true) × (x ≡ p)) ⊎ (((x == p) ≡ false) × (x ≡ p → ⊥))
        → (list_any (λ other. other == p) l ≡ true → (k : ℕ) × (slice_get l k ≡ Some p)) → (k : ℕ) × (slice_get (x ∷ l) k ≡ Some p)
    by (inl e) behind = (0, ap Some e.1)
    by (inr e) behind = let found = behind (sym (ap (λ b. b || list_any (λ other. other == p) l) e.0) ∙ h) in (suc found.0, found.1)

-- the first place of what stands there once
pub place_of_one : (l : List ℕ) (k p : ℕ) → slice_get l k ≡ Some p → ((j : ℕ) → slice_get l j ≡ Some p → j ≡ k) → new_place l p ≡ k
place_of_one l k p g one =
    let within = slice_get_within l k p g in
    position_or_len_is (λ other. other == p) l k 0 (omega (arith, within))
    (λ j before. by j before (eqb_tells (get_or l j 0) p))
    (λ h. eq-eqb (get_or l k 0) p (get_or_from_slice_get l k p 0 g))
  where
    by : (j : ℕ) → j < k → (((get_or l j 0 == p) ≡ true) × (get_or l j 0 ≡ p)) ⊎ (((get_or l j 0 == p) ≡ false) × (get_or l j 0 ≡ p → ⊥))
        → (get_or l j 0 == p) ≡ false
    by j before (inl e) =
        let within = slice_get_within l k p g in
        let same = one j (slice_get-get_or l j 0 (omega (arith, within, before)) ∙ ap Some e.1) in
        absurd (omega (arith, before, same))
    by j before (inr e) = e.0

-- what stands nowhere has the place behind all
pub place_of_none : (l : List ℕ) (p : ℕ) → ((j : ℕ) → slice_get l j ≡ Some p → ⊥) → new_place l p ≡ length l
place_of_none l p none =
    position_or_len_is (λ other. other == p) l (length l) 0 (omega arith)
    (λ j before. by j before (eqb_tells (get_or l j 0) p)) (λ h. absurd (omega (arith, h)))
  where
    by : (j : ℕ) → j < length l → (((get_or l j 0 == p) ≡ true) × (get_or l j 0 ≡ p)) ⊎ (((get_or l j 0 == p) ≡ false) × (get_or l j 0 ≡ p → ⊥))
        → (get_or l j 0 == p) ≡ false
    by j before (inl e) = absurd (none j (slice_get-get_or l j 0 before ∙ ap Some e.1))
    by j before (inr e) = e.0

-- Lists with one more, or one set

pub get_before : (l : List ℕ) (x k p : ℕ) → slice_get l k ≡ Some p → slice_get (l ++ x ∷ []) k ≡ Some p
get_before [] x k p g = absurd (cc)
get_before (y ∷ l) x zero p g = g
get_before (y ∷ l) x (suc k) p g = get_before l x k p g

pub get_last : (l : List ℕ) (x : ℕ) → slice_get (l ++ x ∷ []) (length l) ≡ Some x
get_last [] x = refl
get_last (y ∷ l) x = get_last l x

-- an item of the longer list is an old one, or the last
pub get_either : (l : List ℕ) (x k p : ℕ) → slice_get (l ++ x ∷ []) k ≡ Some p → (slice_get l k ≡ Some p) ⊎ ((k ≡ length l) × (x ≡ p))
get_either [] x zero p g = inr (refl, some_injective x p g)
get_either [] x (suc k) p g = absurd (cc)
get_either (y ∷ l) x zero p g = inl g
get_either (y ∷ l) x (suc k) p g = by (get_either l x k p g)
  where
    by : (slice_get l k ≡ Some p) ⊎ ((k ≡ length l) × (x ≡ p)) → (slice_get l k ≡ Some p) ⊎ ((suc k ≡ suc (length l)) × (x ≡ p))
    by (inl e) = inl e
    by (inr e) = inr (ap suc e.0, e.1)

pub set_at : (new : List (Option ℕ)) (p : ℕ) (o : Option ℕ) → p < length new → slice_get (slice_set new p o) p ≡ Some o
set_at [] p o l = absurd (omega (arith, l))
set_at (x ∷ new) zero o l = refl
set_at (x ∷ new) (suc p) o l = set_at new p o (omega (arith, l))

pub set_beside : (new : List (Option ℕ)) (p q : ℕ) (o : Option ℕ) → (p ≡ q → ⊥) → slice_get (slice_set new p o) q ≡ slice_get new q
set_beside [] p q o d = refl
set_beside (x ∷ new) zero zero o d = absurd (d refl)
set_beside (x ∷ new) zero (suc q) o d = refl
set_beside (x ∷ new) (suc p) zero o d = refl
set_beside (x ∷ new) (suc p) (suc q) o d = set_beside new p q o (λ e. d (ap suc e))

pub set_long : (new : List (Option ℕ)) (p : ℕ) (o : Option ℕ) → length (slice_set new p o) ≡ length new
set_long [] p o = refl
set_long (x ∷ new) zero o = refl
set_long (x ∷ new) (suc p) o = ap suc (set_long new p o)

-- one that had no new place has one
unset_fewer : (new : List (Option ℕ)) (p m : ℕ) → slice_get new p ≡ Some None → suc (unset_count (slice_set new p (Some m))) ≡ unset_count new
unset_fewer [] p m g = absurd (cc)
unset_fewer (None ∷ new) zero m g = refl
unset_fewer (Some x ∷ new) zero m g = absurd (cc)
unset_fewer (None ∷ new) (suc p) m g = ap suc (unset_fewer new p m g)
unset_fewer (Some x ∷ new) (suc p) m g = unset_fewer new p m g

none_at : (n p at : ℕ) → slice_get (replicate n None) p ≡ Some (Some at) → ⊥
none_at zero p at g = cc
none_at (suc n) zero at g = cc
none_at (suc n) (suc p) at g = none_at n p at g

none_unset : (n : ℕ) → unset_count (replicate n None) ≡ n
none_unset zero = refl
none_unset (suc n) = ap suc (none_unset n)

pub none_long : (n : ℕ) → length (replicate {A = Option ℕ} n None) ≡ n
none_long zero = refl
none_long (suc n) = ap suc (none_long n)

-- at a place of a list something stands
none_past : {X : Type 0} (xs : List X) (p : ℕ) → p < length xs → slice_get xs p ≡ None → ⊥
none_past [] p l e = omega (arith, l)
none_past (x ∷ xs) zero l e = absurd (cc)
none_past (x ∷ xs) (suc p) l e = none_past xs p (omega (arith, l)) e

-- Nothing stays

pub nothing_stays : (n : ℕ) → n < 2 ^ 32 → ArePlaces [] (replicate n None)
nothing_stays n few = record {
  told = λ p at g. absurd (none_at n p at g);
  stands = λ at p g. absurd (cc);
  counted = let unset_all = none_unset n in let long = none_long n in omega (arith, unset_all, long);
  few = subst (λ k. k < 2 ^ 32) (sym (none_long n)) few;
}

pub none_there : (left : List ℕ) (new : List (Option ℕ)) (n : ℕ) → left ≡ [] → new ≡ replicate n None → n < 2 ^ 32 → ArePlaces left new
none_there left new n l e few = subst (λ l. ArePlaces l new) (sym l) (subst (ArePlaces []) (sym e) (nothing_stays n few))

-- One more stays

module _ (left : List ℕ) (new : List (Option ℕ)) (are : ArePlaces left new) where
  -- whether it stays is told by its new place
  pub told_there : (p at : ℕ) → slice_get new p ≡ Some (Some at) → list_any (λ other. other == p) left ≡ true
  told_there p at g = any_at left at p (are.told p at g)

  told_away : (p : ℕ) → slice_get new p ≡ Some None → (k : ℕ) → slice_get left k ≡ Some p → ⊥
  told_away p g k h = let there = are.stands k p h in cc

  past_away : (p : ℕ) → slice_get new p ≡ None → (k : ℕ) → slice_get left k ≡ Some p → ⊥
  past_away p g k h = let there = are.stands k p h in cc

  away : (p : ℕ) → ((k : ℕ) → slice_get left k ≡ Some p → ⊥) → (b : Bool) → list_any (λ other. other == p) left ≡ b
      → list_any (λ other. other == p) left ≡ false
  away p none true e = let found = at_any left p e in absurd (none found.0 found.1)
  away p none false e = e

  pub unset_away : (p : ℕ) → slice_get new p ≡ Some None → list_any (λ other. other == p) left ≡ false
  unset_away p g = away p (told_away p g) _ refl

  pub beyond_away : (p : ℕ) → slice_get new p ≡ None → list_any (λ other. other == p) left ≡ false
  beyond_away p g = away p (past_away p g) _ refl

  -- and so is where
  pub new_told : (p at : ℕ) → slice_get new p ≡ Some (Some at) → new_place left p ≡ at
  new_told p at g = place_of_one left at p (are.told p at g)
      (λ k h. let there = are.stands k p h in some_injective k at (some_injective (Some k) (Some at) (sym there ∙ g)))

  pub new_unset : (p : ℕ) → slice_get new p ≡ Some None → new_place left p ≡ length left
  new_unset p g = place_of_none left p (told_away p g)

  pub new_beyond : (p : ℕ) → slice_get new p ≡ None → new_place left p ≡ length left
  new_beyond p g = place_of_none left p (past_away p g)

  -- how many stay is a number of 32 bits
  pub few_left : length left < 2 ^ 32
  few_left = let n = are.counted in let few = are.few in omega (arith, n, few)

  not_there : (p : ℕ) → p < length new → list_any (λ other. other == p) left ≡ false → (o : Option (Option ℕ)) → slice_get new p ≡ o
      → slice_get new p ≡ Some None
  not_there p l h None e = absurd (none_past new p l e)
  not_there p l h (Some None) e = e
  not_there p l h (Some (Some at)) e = absurd (false≢true (sym h ∙ told_there p at e))

  -- an entry that is not there, as a place of the table
  pub is_unset : (p : ℕ) → p < length new → list_any (λ other. other == p) left ≡ false → slice_get new p ≡ Some None
  is_unset p l h = not_there p l h (slice_get new p) refl

  pub one_more : (p : ℕ) → p < length new → list_any (λ other. other == p) left ≡ false
      → ArePlaces (left ++ p ∷ []) (slice_set new p (Some (length left)))
  one_more p l h = record {
    told = λ q at g. tells q at (eqb_tells p q) g;
    stands = λ at q g. stand at q (get_either left p at q g);
    counted =
        let fewer = unset_fewer new p (length left) (is_unset p l h) in
        let long = set_long new p (Some (length left)) in
        let longer = length-append left (p ∷ []) in
        let all = are.counted in
        omega (arith, fewer, long, longer, all);
    few = let long = set_long new p (Some (length left)) in let few = are.few in omega (arith, long, few);
  }
    where
      tells : (q at : ℕ) → (((p == q) ≡ true) × (p ≡ q)) ⊎ (((p == q) ≡ false) × (p ≡ q → ⊥))
          → slice_get (slice_set new p (Some (length left))) q ≡ Some (Some at) → slice_get (left ++ p ∷ []) at ≡ Some q
      tells q at (inl e) g =
          let told = sym (set_at new p (Some (length left)) l) ∙ ap (slice_get (slice_set new p (Some (length left)))) e.1 ∙ g in
          let same : length left ≡ at = some_injective (length left) at (some_injective (Some (length left)) (Some at) told) in
          ap (slice_get (left ++ p ∷ [])) (sym same) ∙ get_last left p ∙ ap Some e.1
      tells q at (inr e) g = get_before left p at q (are.told q at (sym (set_beside new p q (Some (length left)) e.1) ∙ g))

      stand : (at q : ℕ) → (slice_get left at ≡ Some q) ⊎ ((at ≡ length left) × (p ≡ q))
          → slice_get (slice_set new p (Some (length left))) q ≡ Some (Some at)
      stand at q (inl g) = set_beside new p q (Some (length left)) (λ e. told_away p (is_unset p l h) at (g ∙ ap Some (sym e)))
          ∙ are.stands at q g
      stand at q (inr e) = ap (slice_get (slice_set new p (Some (length left)))) (sym e.1) ∙ set_at new p (Some (length left)) l
          ∙ ap (λ k. Some (Some k)) (sym e.0)

-- What is told of an entry's new place

pub found_at : (xs slice : List (Option ℕ)) (i : ℕ) (x : Option ℕ) → slice ≡ xs → i < length slice → x ≡ get_or slice i x
    → x ≡ unwrap_or (slice_get xs i) None
found_at xs slice i x e l h = h ∙ sym (ap (λ o. unwrap_or o None) (ap (λ s. slice_get s i) (sym e) ∙ slice_get-get_or slice i x l))

pub past_all : (xs slice : List (Option ℕ)) (i : ℕ) → slice ≡ xs → length slice ≤ i → None ≡ unwrap_or (slice_get xs i) None
past_all xs slice i e l = sym (ap (λ o. unwrap_or o None) (ap (λ s. slice_get s i) (sym e) ∙ slice_get_past slice i l))

whole_of : (o : Option (Option ℕ)) (at : ℕ) → unwrap_or o None ≡ Some at → o ≡ Some (Some at)
whole_of None at e = absurd (none-some at e)
whole_of (Some x) at e = ap Some e

module _ (left : List ℕ) (new : List (Option ℕ)) (are : ArePlaces left new) (p : ℕ) (told : Option ℕ) (by : told ≡ unwrap_or (slice_get new p) None) where
  pub told_stays : (at : ℕ) → told ≡ Some at → true ≡ list_any (λ other. other == p) left
  told_stays at e = sym (told_there left new are p at (whole_of (slice_get new p) at (sym by ∙ e)))

  pub told_new : (at : ℕ) → told ≡ Some at → at ≡ new_place left p
  told_new at e = sym (new_told left new are p at (whole_of (slice_get new p) at (sym by ∙ e)))

  either_none : {P : Type 0} → told ≡ None → (slice_get new p ≡ None → P) → (slice_get new p ≡ Some None → P) → P
  either_none {P} e f g = on (slice_get new p) refl (sym by ∙ e)
    where
      on : (o : Option (Option ℕ)) → slice_get new p ≡ o → unwrap_or o None ≡ None → P
      on None is n = f is
      on (Some None) is n = g is
      on (Some (Some at)) is n = absurd (none-some at (sym n))

  pub told_goes : told ≡ None → false ≡ list_any (λ other. other == p) left
  told_goes e = either_none e (λ is. sym (beyond_away left new are p is)) (λ is. sym (unset_away left new are p is))

  pub told_behind : told ≡ None → new_place left p ≡ length left
  told_behind e = either_none e (new_beyond left new are p) (new_unset left new are p)

-- one that was entered
pub entered : (left : List ℕ) (new : List (Option ℕ)) → ArePlaces left new → (p : ℕ) (pushed : List ℕ) (n : ℕ) → p < length new
    → list_any (λ other. other == p) left ≡ false → pushed ≡ left ++ p ∷ [] → n ≡ length left → ArePlaces pushed (slice_set new p (Some n))
entered left new are p pushed n l h e k =
    subst (λ places. ArePlaces places (slice_set new p (Some n))) (sym e)
    (subst (λ m. ArePlaces (left ++ p ∷ []) (slice_set new p (Some m))) (sym k) (one_more left new are p l h))

-- one more without a new place
pub none_more : (n : ℕ) → replicate {A = Option ℕ} n None ++ None ∷ [] ≡ replicate (n + 1) None
none_more zero = refl
none_more (suc n) =
    let same : suc n + 1 ≡ suc (n + 1) = omega arith in
    ap (λ l. None ∷ l) (none_more n) ∙ sym (ap (λ k. replicate {A = Option ℕ} k None) same)

-- the list with a place that is there, or not

pub with_there : (left : List ℕ) (p : ℕ) → list_any (λ other. other == p) left ≡ true → with_place left p ≡ left
with_there left p h = ap (λ b. if b then left else left ++ p ∷ []) h

pub with_away : (left : List ℕ) (p : ℕ) → list_any (λ other. other == p) left ≡ false → with_place left p ≡ left ++ p ∷ []
with_away left p h = ap (λ b. if b then left else left ++ p ∷ []) h

-- where nothing stands the list has ended
pub slice_get_none : {A : Type 0} (l : List A) (p : ℕ) → slice_get l p ≡ None → length l ≤ p
slice_get_none [] p e = omega arith
slice_get_none (x ∷ l) zero e = absurd (cc)
slice_get_none (x ∷ l) (suc p) e = let le = slice_get_none l p e in omega (arith, le)
