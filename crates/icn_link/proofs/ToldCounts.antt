-- Counts as faults tell them.
use Rattle.std.proofs.Common.{◌≡◌, ℕ, ◌+◌, ◌<◌, ◌≤◌, ◌^◌, ◌-◌, cond, List, [], ◌∷◌, drop, length, Some, None, Result, Ok, Err, OnOk, IfErr, sym, ap, ◌∙◌, arith, ⊎_elim}
use Rattle.std.specs.Prelude.{find, nat_lt}
use Rattle.std.specs.Option.{option_map}
use Rattle.std.proofs.lemmas.Bool.{cases_lt, lt-ltb}
use Rattle.std.proofs.lemmas.List.{drop_all}
use Rattle.icn_link.specs.declared.fault.LinkFault.{LinkFault}
use Rattle.icn_link.specs.declared.fault.LinkFault.TheVariants.{K3}
use Rattle.icn_link.specs.LinkFaults.{count_fault, count_told, over}

-- A sum in a loop

one_more : (now count told later rest : ℕ) → told ≡ count_told count → later ≡ count_told (now + told)
    → count_told (later + rest) ≡ count_told (now + (count + rest))
one_more now count told later rest t e = omega (arith, t, e)

-- and when no item is left
pub told_all : {A : Type 0} (count : List A → ℕ) (xs : List A) (i now all : ℕ) → count [] ≡ 0 → length xs ≤ i → now < 2 ^ 64
    → count_told (now + count (drop i xs)) ≡ all → now ≡ all
told_all count xs i now all none past fits h = let rest : count (drop i xs) ≡ 0 = ap count (drop_all i xs past) ∙ none in omega (arith, rest, h, fits)

-- a sum of two numbers, each of which is told so
pub told_plus : (a b x y sum : ℕ) → x ≡ count_told a → y ≡ count_told b → sum ≡ count_told (x + y) → sum ≡ count_told (a + b)
told_plus a b x y sum e f s = omega (arith, e, f, s)

-- Numbers above a bound

-- the first number, where it is above the bound
pub first_over : (most count : ℕ) (rest : List ℕ) → most < count → over most (count ∷ rest) ≡ Some (count_fault count)
first_over most count rest h =
    ap (λ test. option_map count_fault (cond test (Some count) (find (λ n. nat_lt most n) rest))) (lt-ltb most count h)

-- a count that 64 bits hold is told as it is
pub told_same : (count : ℕ) → count < 2 ^ 64 → count_told count ≡ count
told_same count h = omega arith

-- a bound that 64 bits hold does not tell a count from what is told of it
pub over_told : (most count : ℕ) (rest : List ℕ) → most < 2 ^ 64 - 1 → over most (count_told count ∷ rest) ≡ over most (count ∷ rest)
over_told most count rest small = ⊎_elim here past (cases_lt count (2 ^ 64))
  where
    here : count < 2 ^ 64 → over most (count_told count ∷ rest) ≡ over most (count ∷ rest)
    here h = ap (λ n. over most (n ∷ rest)) (told_same count h)

    past : 2 ^ 64 ≤ count → over most (count_told count ∷ rest) ≡ over most (count ∷ rest)
    past h =
        first_over most (count_told count) rest (omega arith)
        ∙ ap (λ n. Some (K3 n)) (told_same (count_told count) (omega arith))
        ∙ sym (first_over most count rest (omega arith))

-- A check of one number, by what is told of it

pub one_kept : {A : Type 0} (result : Result A LinkFault) (most told count : ℕ) → most < 2 ^ 64 - 1 → told ≡ count_told count
    → OnOk result ((rest : List ℕ) → over most (told ∷ rest) ≡ over most rest) → OnOk result (over most (count ∷ []) ≡ None)
one_kept (Ok done) most told count small same h =
    sym (over_told most count [] small) ∙ ap (λ n. over most (n ∷ [])) (sym same) ∙ h []
one_kept (Err fault) most told count small same h = tt

pub one_fault : {A : Type 0} (result : Result A LinkFault) (most told count : ℕ) → most < 2 ^ 64 - 1 → told ≡ count_told count
    → IfErr result (λ fault. (rest : List ℕ) → over most (told ∷ rest) ≡ Some fault)
    → IfErr result (λ fault. over most (count ∷ []) ≡ Some fault)
one_fault (Ok done) most told count small same h = tt
one_fault (Err fault) most told count small same h =
    sym (over_told most count [] small) ∙ ap (λ n. over most (n ∷ [])) (sym same) ∙ h []

-- A check of the second of two numbers, where the first was kept

pub second_kept : {A : Type 0} (result : Result A LinkFault) (most a b x y : ℕ) → x ≡ a → y ≡ b
    → ((rest : List ℕ) → over most (x ∷ rest) ≡ over most rest)
    → OnOk result ((rest : List ℕ) → over most (y ∷ rest) ≡ over most rest) → OnOk result (over most (a ∷ b ∷ []) ≡ None)
second_kept (Ok done) most a b x y e f first h =
    ap (λ n. over most (n ∷ b ∷ [])) (sym e) ∙ first (b ∷ []) ∙ ap (λ n. over most (n ∷ [])) (sym f) ∙ h []
second_kept (Err fault) most a b x y e f first h = tt

pub second_fault : {A : Type 0} (result : Result A LinkFault) (most a b x y : ℕ) → x ≡ a → y ≡ b
    → ((rest : List ℕ) → over most (x ∷ rest) ≡ over most rest)
    → IfErr result (λ fault. (rest : List ℕ) → over most (y ∷ rest) ≡ Some fault) → IfErr result (λ fault. over most (a ∷ b ∷ []) ≡ Some fault)
second_fault (Ok done) most a b x y e f first h = tt
second_fault (Err fault) most a b x y e f first h =
    ap (λ n. over most (n ∷ b ∷ [])) (sym e) ∙ first (b ∷ []) ∙ ap (λ n. over most (n ∷ [])) (sym f) ∙ h []
