-- Values are the same exactly where the test says so.
use Rattle.std.proofs.Common.{◌≡◌, ◌∙◌, ◌+◌, ◌<◌, refl, sym, ap, arith, ℕ, zero, suc, ℤ, pos, negsuc, ◌==◌, true, cond, true≢false, List}
use Rattle.std.specs.Cmp.{IsTotalOrder, IsEquivalence, Equal-is}
use Rattle.std.specs.declared.cmp.Ordering.{Ordering}
use Rattle.std.specs.declared.cmp.Ordering.TheVariants.{Less, Equal, Greater}
use Rattle.std.specs.Cmp.Lexicographic.{slice_cmp}
use Rattle.std.specs.Ordering.{ordering_then, nat_cmp, int_cmp, is_eq}
use Rattle.std.proofs.lemmas.Cmp.{nat_cmp_total, int_cmp_total, nat_list_cmp_total, on_total, then_total, tied_itself, eq_by_cmp_equiv, on_equiv}
use Rattle.std.proofs.lemmas.Map.Lookups.{CmpEqualImpliesEq, exact_bytes, exact_signed, exact_unsigned}
use Rattle.icn_value.specs.Values.{Value, Null, Integer, Text, Chars, Std, Procedure, ARecord, AList, ASet, ATable, ACoexp, File, Input, Output, Errout, Opened}
use Rattle.icn_value.specs.Sameness.{ValueRank, shape_of, shape_cmp, same}

-- the value of a shape
natural : ℤ → ℕ
natural (pos n) = n
natural (negsuc n) = 0

file_ranked : ℕ → File
file_ranked zero = Errout
file_ranked (suc zero) = Input
file_ranked (suc (suc zero)) = Output
file_ranked (suc (suc (suc number))) = Opened number

below : (number n : ℕ) → n < 3 → n ≡ 3 + number → ⊥
below number n small is = omega arith

opened_ranked : (number n : ℕ) → n ≡ 3 + number → file_ranked n ≡ Opened number
unfolding file_ranked
opened_ranked number zero is = absurd (below number 0 (omega arith) is)
opened_ranked number (suc zero) is = absurd (below number 1 (omega arith) is)
opened_ranked number (suc (suc zero)) is = absurd (below number 2 (omega arith) is)
opened_ranked number (suc (suc (suc n))) is = ap Opened (omega arith)

valued : ValueRank → Value
valued shape =
    cond (shape.rank == 0) Null (cond (shape.rank == 1) (Integer shape.number) (cond (shape.rank == 2) (Text shape.text)
    (cond (shape.rank == 3) (Chars shape.text) (cond (shape.rank == 4) (Std (file_ranked (natural shape.number)))
    (cond (shape.rank == 5) (ACoexp (natural shape.number)) (cond (shape.rank == 6) (Procedure (natural shape.number))
    (cond (shape.rank == 7) (AList (natural shape.number)) (cond (shape.rank == 8) (ASet (natural shape.number))
    (cond (shape.rank == 9) (ATable (natural shape.number)) (ARecord (natural shape.number)))))))))))

back : (value : Value) → valued (shape_of value) ≡ value
unfolding valued natural file_ranked
back Null = refl
back (Integer n) = refl
back (Text bytes) = refl
back (Chars bytes) = refl
back (Std Input) = refl
back (Std Output) = refl
back (Std Errout) = refl
back (Std (Opened number)) = ap Std (opened_ranked number (3 + number) refl)
back (Procedure number) = refl
back (ARecord id) = refl
back (AList id) = refl
back (ASet id) = refl
back (ATable id) = refl
back (ACoexp id) = refl

both : (a b : Ordering) → is_eq (ordering_then a b) ≡ true → (is_eq a ≡ true) × (is_eq b ≡ true)
both Less b is = absurd (true≢false (sym is))
both Equal b is = (refl, is)
both Greater b is = absurd (true≢false (sym is))

by_equal : {X : Type 0} (cmp : X → X → Ordering) → CmpEqualImpliesEq cmp → (x y : X) → is_eq (cmp x y) ≡ true → x ≡ y
by_equal cmp exact x y is = exact x y ((Equal-is (cmp x y)).0 is)

shape_by : {rank rank' : ℕ} {text text' : List ℕ} {number number' : ℤ} → rank ≡ rank' → text ≡ text' → number ≡ number'
    → (let a : ValueRank = record { rank = rank; text = text; number = number } in a)
    ≡ (let b : ValueRank = record { rank = rank'; text = text'; number = number' } in
    b)
shape_by rank text number = cc

same_shape : (a b : ValueRank) → is_eq (shape_cmp a b) ≡ true → a ≡ b
same_shape a b is =
    let first = both (nat_cmp a.rank b.rank) _ is in
    let second = both (slice_cmp nat_cmp a.text b.text) _ first.1 in
    let rank : a.rank ≡ b.rank = by_equal nat_cmp exact_unsigned _ _ first.0 in
    let text : a.text ≡ b.text = by_equal (slice_cmp nat_cmp) exact_bytes _ _ second.0 in
    let number : a.number ≡ b.number = by_equal int_cmp exact_signed _ _ second.1 in
    shape_by rank text number

-- values that are the same are one value
pub same_is : (a b : Value) → same a b ≡ true → a ≡ b
same_is a b is = sym (back a) ∙ (ap valued (same_shape (shape_of a) (shape_of b) is) ∙ back b)

shapes : IsTotalOrder shape_cmp
shapes = then_total (on_total (λ (shape : ValueRank). shape.rank) nat_cmp_total)
    (then_total (on_total (λ (shape : ValueRank). shape.text) nat_list_cmp_total) (on_total (λ (shape : ValueRank). shape.number) int_cmp_total))

-- a value is the same as itself
pub same_self : (a : Value) → same a a ≡ true
same_self a = ap is_eq (tied_itself shapes (shape_of a))

-- sameness is an equivalence
pub same_equiv : IsEquivalence same
same_equiv = on_equiv shape_of (eq_by_cmp_equiv shapes)
