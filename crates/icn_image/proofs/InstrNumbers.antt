-- The instruction of a number.
use Rattle.std.proofs.Common.{◌≡◌, ℕ, ◌<◌, Bool, true, false, cond, eqb, ◌&&◌, List, [], ◌∷◌, Option, Some, None, refl, sym, ◌∙◌, arith}
use Rattle.std.specs.Prelude.{find, nat_lt}
use Rattle.std.specs.List.{list_all}
use Rattle.std.proofs.lemmas.Bool.{eqb-true, ltb-true, and_parts, ne_eqb, cond-false}
use Rattle.icn_code.specs.declared.instr.Instr.{Instr}
use Rattle.icn_image.specs.Operands.{instr_number, instrs, instr_of}

-- the numbers of instructions are from 1 to 37
is_between : ℕ → Bool
is_between n = nat_lt 0 n && nat_lt n 38

between : (n : ℕ) → is_between n ≡ true → (0 < n) × (n < 38)
unfolding is_between
between n e = let p = and_parts (nat_lt 0 n) (nat_lt n 38) e in (ltb-true 0 n p.0, ltb-true n 38 p.1)

passed : (i : Instr) (n : ℕ) (rest : Option Instr) (t : Bool) → eqb (instr_number i) n ≡ t → is_between (instr_number i) ≡ true → (0 < n → n < 38 → ⊥)
    → rest ≡ None → cond t (Some i) rest ≡ None
passed i n rest true e b outside h =
    let same : instr_number i ≡ n = eqb-true (instr_number i) n e in
    let low = between (instr_number i) b in
    absurd (outside (rw (← same) low.0) (rw (← same) low.1))
passed i n rest false e b outside h = h

none_found : (xs : List Instr) (n : ℕ) → list_all (λ i. is_between (instr_number i)) xs ≡ true → (0 < n → n < 38 → ⊥)
    → find (λ i. eqb (instr_number i) n) xs ≡ None
none_found [] n all outside = refl
none_found (x ∷ xs) n all outside =
    let p = and_parts (is_between (instr_number x)) (list_all (λ i. is_between (instr_number i)) xs) all in
    passed x n (find (λ i. eqb (instr_number i) n) xs) (eqb (instr_number x) n) refl p.0 outside (none_found xs n p.1 outside)

all_between : (k : ℕ) → list_all (λ i. is_between (instr_number i)) (instrs k) ≡ true
unfolding is_between
all_between k = refl

pub no_instr : (n k : ℕ) → (0 < n → n < 38 → ⊥) → None ≡ instr_of n k
unfolding instr_of
no_instr n k outside =
    let all = none_found (instrs k) n (all_between k) outside in
    let at_8 : eqb n 8 ≡ false = ne_eqb n 8 (λ e. outside (omega arith) (omega arith)) in
    let at_11 : eqb n 11 ≡ false = ne_eqb n 11 (λ e. outside (omega arith) (omega arith)) in
    sym (cond-false (eqb n 8) _ _ at_8 ∙ cond-false (eqb n 11) _ _ at_11 ∙ all)
