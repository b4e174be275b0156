-- The order of sorted lists, by rank, then by text, then by number.
use Rattle.std.proofs.Common.{◌≡◌, ◌∙◌, refl, sym, ap, ℕ, ℤ}
use Rattle.std.specs.Cmp.Lexicographic.{slice_cmp}
use Rattle.std.specs.Ordering.{ordering_then, int_cmp, nat_cmp}
use Rattle.std.specs.declared.cmp.Ordering.{Ordering}
use Rattle.std.specs.declared.cmp.Ordering.TheVariants.{Equal}
use Rattle.icn_value.specs.Sameness.{shape_of}
use Rattle.icn_value.specs.Store.{Heap, Names}
use Rattle.icn_value.specs.Values.{Value, Null, Integer, Text, Chars, Std, Procedure, ARecord, AList, ASet, ATable, ACoexp}
use Rattle.icn_defs.specs.Images.{sorted_shape, value_cmp}

rank_same : (names : Names) (heap : Heap) (value : Value) → (sorted_shape names heap value).rank ≡ (shape_of value).rank
rank_same names heap Null = refl
rank_same names heap (Integer n) = refl
rank_same names heap (Text bytes) = refl
rank_same names heap (Chars bytes) = refl
rank_same names heap (Std file) = refl
rank_same names heap (Procedure number) = refl
rank_same names heap (ARecord id) = refl
rank_same names heap (AList id) = refl
rank_same names heap (ASet id) = refl
rank_same names heap (ATable id) = refl
rank_same names heap (ACoexp id) = refl

number_same : (names : Names) (heap : Heap) (value : Value) → (sorted_shape names heap value).number ≡ (shape_of value).number
number_same names heap Null = refl
number_same names heap (Integer n) = refl
number_same names heap (Text bytes) = refl
number_same names heap (Chars bytes) = refl
number_same names heap (Std file) = refl
number_same names heap (Procedure number) = refl
number_same names heap (ARecord id) = refl
number_same names heap (AList id) = refl
number_same names heap (ASet id) = refl
number_same names heap (ATable id) = refl
number_same names heap (ACoexp id) = refl

-- values of one rank, by text and by number
pub alike : (names : Names) (heap : Heap) (a b : Value) (r s : ℕ) (m n : ℤ) (texts numbers result : Ordering)
    → Equal ≡ nat_cmp r s → r ≡ (shape_of a).rank → s ≡ (shape_of b).rank
    → texts ≡ slice_cmp nat_cmp (sorted_shape names heap a).text (sorted_shape names heap b).text
    → m ≡ (shape_of a).number → n ≡ (shape_of b).number → numbers ≡ int_cmp m n → result ≡ ordering_then texts numbers → result ≡ value_cmp names heap a b
alike names heap a b r s m n texts numbers result ranks first second by_text left right by_number is =
    let rank_a : (sorted_shape names heap a).rank ≡ r = rank_same names heap a ∙ sym first in
    let rank_b : (sorted_shape names heap b).rank ≡ s = rank_same names heap b ∙ sym second in
    let number_a : (sorted_shape names heap a).number ≡ m = number_same names heap a ∙ sym left in
    let number_b : (sorted_shape names heap b).number ≡ n = number_same names heap b ∙ sym right in
    is
    ∙ (ap (λ order. ordering_then order numbers) by_text
    ∙ (ap (λ order. ordering_then (slice_cmp nat_cmp (sorted_shape names heap a).text (sorted_shape names heap b).text) order)
    (by_number ∙ (ap (λ k. int_cmp k n) (sym number_a) ∙ ap (int_cmp (sorted_shape names heap a).number) (sym number_b)))
    ∙ ap (λ order. ordering_then order (ordering_then (slice_cmp nat_cmp (sorted_shape names heap a).text (sorted_shape names heap b).text)
    (int_cmp (sorted_shape names heap a).number (sorted_shape names heap b).number)))
    (ranks ∙ (ap (λ k. nat_cmp k s) (sym rank_a) ∙ ap (nat_cmp (sorted_shape names heap a).rank) (sym rank_b)))))
