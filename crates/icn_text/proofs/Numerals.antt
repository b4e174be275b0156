-- What is read of a text is what it writes.
use Rattle.std.proofs.Common.{◌≡◌, ◌⊎◌, inl, inr, ℕ, suc, ◌+◌, ◌-◌, ◌<◌, ◌≤◌, ◌==◌, ◌&&◌, ◌||◌, nat_lt, Bool, true, false, cond, List, [], ◌∷◌, ◌++◌, length, take, refl, sym, ap, ◌∙◌, arith, subst}
use Rattle.std.proofs.lemmas.Bool.{cases_lt, lt-ltb, le-ltb, eqb-true}
use Rattle.std.proofs.lemmas.Bool.Decides.{nat_tests}
use Rattle.std.specs.Char.{digit_value}
use Rattle.std.specs.List.{list_all, prefix_len}
use Rattle.icn_text.specs.Integers.{is_space, is_digit_of, is_radix_mark}

-- Bytes

space_small : (b : ℕ) → is_space b ≡ true → b < 48
space_small b h = grind (arith, nat_tests)

value_small : (b : ℕ) → b < 48 → digit_value b ≡ 36
value_small b h = ap (λ t. cond t 36 (cond (nat_lt b 58) (b - 48)
    (cond (nat_lt b 65) 36 (cond (nat_lt b 91) (b - 55) (cond (nat_lt b 97) 36 (cond (nat_lt b 123) (b - 87) 36)))))) (lt-ltb b 48 h)

pub space_no_digit : (radix b : ℕ) → radix ≤ 36 → is_space b ≡ true → is_digit_of radix b ≡ false
space_no_digit radix b most h = ap (λ v. nat_lt v radix) (value_small b (space_small b h)) ∙ le-ltb 36 radix most

pub space_no_mark : (b : ℕ) → is_space b ≡ true → is_radix_mark b ≡ false
space_no_mark b h = let small : b < 48 = space_small b h in grind (arith, nat_tests, small)

no_digit_at : (b : ℕ) (capital : Bool) → b == 114 ≡ capital → is_radix_mark b ≡ true → is_digit_of 10 b ≡ false
no_digit_at b true is h = subst (λ c. is_digit_of 10 c ≡ false) (sym (eqb-true b 114 is)) refl
no_digit_at b false is h = subst (λ c. is_digit_of 10 c ≡ false) (sym (eqb-true b 82 (sym (ap (λ t. t || b == 82) is) ∙ h))) refl

pub mark_no_digit : (b : ℕ) → is_radix_mark b ≡ true → is_digit_of 10 b ≡ false
mark_no_digit b h = no_digit_at b (b == 114) refl h

digit_by : (b : ℕ) → (b < 48) ⊎ (48 ≤ b) → is_digit_of 10 b ≡ true → 48 ≤ b
digit_by b (inl small) h = absurd (let clash : false ≡ true = sym (ap (λ v. nat_lt v 10) (value_small b small)) ∙ h in cc)
digit_by b (inr large) h = large

pub digit_above : (b : ℕ) → is_digit_of 10 b ≡ true → 48 ≤ b
digit_above b h = digit_by b (cases_lt b 48) h

pub above_no_space : (b : ℕ) → 48 ≤ b → is_space b ≡ false
above_no_space b h = grind (arith, nat_tests)

pub above_no_sign : (b : ℕ) → 48 ≤ b → (b == 45 ≡ false) × (b == 43 ≡ false)
above_no_sign b h = (grind (arith, nat_tests), grind (arith, nat_tests))

-- Runs of bytes

pub and_parts : (a b : Bool) → (a && b) ≡ true → (a ≡ true) × (b ≡ true)
and_parts true b h = (refl, h)
and_parts false b h = absurd (let clash : false ≡ true = h in cc)

-- the first of the bytes, if there is one, does not pass
abbrev pub Stops : (ℕ → Bool) → List ℕ → Type 0
Stops p [] = Unit {0}
Stops p (b ∷ rest) = p b ≡ false

pub run_len : (p : ℕ → Bool) (xs ys : List ℕ) → list_all p xs ≡ true → Stops p ys → prefix_len p (xs ++ ys) ≡ length xs
run_len p [] [] h s = refl
run_len p [] (y ∷ ys) h s = ap (λ t. cond t (1 + prefix_len p ys) 0) s
run_len p (x ∷ xs) ys h s =
    let here = and_parts (p x) (list_all p xs) h in
    let later : prefix_len p (xs ++ ys) ≡ length xs = run_len p xs ys here.1 s in
    ap (λ t. cond t (1 + prefix_len p (xs ++ ys)) 0) here.0 ∙ omega (arith, later)

run_step : (p : ℕ → Bool) (x : ℕ) (xs : List ℕ) (t : Bool) → p x ≡ t → list_all p (take (prefix_len p xs) xs) ≡ true
    → list_all p (take (prefix_len p (x ∷ xs)) (x ∷ xs)) ≡ true
run_step p x xs true is h =
    let one : 1 + prefix_len p xs ≡ suc (prefix_len p xs) = omega arith in
    ap (λ t. list_all p (take (cond t (1 + prefix_len p xs) 0) (x ∷ xs))) is ∙ ap (λ n. list_all p (take n (x ∷ xs))) one
    ∙ ap (λ t. t && list_all p (take (prefix_len p xs) xs)) is ∙ h
run_step p x xs false is h = ap (λ t. list_all p (take (cond t (1 + prefix_len p xs) 0) (x ∷ xs))) is

pub run_all : (p : ℕ → Bool) (xs : List ℕ) → list_all p (take (prefix_len p xs) xs) ≡ true
run_all p [] = refl
run_all p (x ∷ xs) = run_step p x xs (p x) refl (run_all p xs)
