-- The order of sort: total, and a tie is one value.
use Rattle.std.proofs.Common.{◌≡◌, ◌∙◌, refl, sym, ap, ℕ, ℤ, ◌==◌, ◌||◌, true, if◌then◌else◌, true≢false, List, []}
use Rattle.std.specs.Cmp.{IsTotalOrder}
use Rattle.std.specs.declared.cmp.Ordering.{Ordering}
use Rattle.std.specs.declared.cmp.Ordering.TheVariants.{Less, Equal, Greater}
use Rattle.std.specs.Cmp.Lexicographic.{slice_cmp}
use Rattle.std.specs.Ordering.{ordering_then, nat_cmp, is_eq}
use Rattle.std.proofs.lemmas.Cmp.{nat_cmp_total, int_cmp_total, nat_list_cmp_total, on_total, then_total}
use Rattle.std.proofs.lemmas.Map.Lookups.{exact_bytes, exact_signed, exact_unsigned}
use Rattle.icn_value.specs.Values.{Value, Null, Integer, Text, Chars, Std, Procedure, ARecord, AList, ASet, ATable, ACoexp}
use Rattle.icn_value.specs.Sameness.{ValueRank, shape_of, shape_cmp, same}
use Rattle.icn_value.specs.Store.{Heap, Names}
use Rattle.icn_value.proofs.SameValues.{same_is, same_self}
use Rattle.icn_defs.specs.Images.{value_cmp, sorted_shape}
use Rattle.icn_defs.specs.Structures.{entry_cmp, key_cmp}

shapes : IsTotalOrder shape_cmp
shapes = then_total (on_total (λ (shape : ValueRank). shape.rank) nat_cmp_total)
    (then_total (on_total (λ (shape : ValueRank). shape.text) nat_list_cmp_total) (on_total (λ (shape : ValueRank). shape.number) int_cmp_total))

-- the order of `sort` is total
pub order_is_total : (names : Names) (heap : Heap) → IsTotalOrder (value_cmp names heap)
order_is_total names heap = on_total (sorted_shape names heap) shapes

both : (a b : Ordering) → ordering_then a b ≡ Equal → (a ≡ Equal) × (b ≡ Equal)
both Less b is = (is, absurd (less is))
  where
    less : Less ≡ Equal → ⊥
    less same = true≢false (sym (ap is_eq same))
both Equal b is = (refl, is)
both Greater b is = (is, absurd (greater is))
  where
    greater : Greater ≡ Equal → ⊥
    greater same = true≢false (sym (ap is_eq same))

shape_by : {rank rank' : ℕ} {text text' : List ℕ} {number number' : ℤ} → rank ≡ rank' → text ≡ text' → number ≡ number'
    → (let a : ValueRank = record { rank = rank; text = text; number = number } in a)
    ≡ (let b : ValueRank = record { rank = rank'; text = text'; number = number' } in
    b)
shape_by rank text number = cc

tied_shapes : (a b : ValueRank) → shape_cmp a b ≡ Equal → a ≡ b
tied_shapes a b is =
    let first = both (nat_cmp a.rank b.rank) _ is in
    let second = both (slice_cmp nat_cmp a.text b.text) _ first.1 in
    shape_by (exact_unsigned _ _ first.0) (exact_bytes _ _ second.0) (exact_signed _ _ second.1)

-- the shape that `===` looks at is that of the order without the names of procedures and of records
unnamed : ValueRank → ValueRank
unnamed shape = record { rank = shape.rank; text = if (shape.rank == 6) || (shape.rank == 10) then [] else shape.text; number = shape.number }

unnamed_shape : (names : Names) (heap : Heap) (value : Value) → unnamed (sorted_shape names heap value) ≡ shape_of value
unfolding unnamed
unnamed_shape names heap Null = refl
unnamed_shape names heap (Integer n) = refl
unnamed_shape names heap (Text bytes) = refl
unnamed_shape names heap (Chars bytes) = refl
unnamed_shape names heap (Std file) = refl
unnamed_shape names heap (Procedure number) = refl
unnamed_shape names heap (ARecord id) = refl
unnamed_shape names heap (AList id) = refl
unnamed_shape names heap (ASet id) = refl
unnamed_shape names heap (ATable id) = refl
unnamed_shape names heap (ACoexp id) = refl

pub ties : (names : Names) (heap : Heap) (a b : Value) → value_cmp names heap a b ≡ Equal → same a b ≡ true
ties names heap a b is =
    let one : shape_of a ≡ shape_of b = sym (unnamed_shape names heap a) ∙ (ap unnamed (tied_shapes _ _ is) ∙ unnamed_shape names heap b) in
    ap (λ shape. is_eq (shape_cmp (shape_of a) shape)) (sym one) ∙ same_self a

-- by key
pub total_keys : (names : Names) (heap : Heap) → IsTotalOrder (key_cmp names heap)
total_keys names heap = on_total (λ (pair : Value × Value). pair.0) (order_is_total names heap)

-- by value and then by key, a tie is one pair
pub total_entries : (names : Names) (heap : Heap) → IsTotalOrder (entry_cmp names heap)
total_entries names heap =
    then_total (on_total (λ (pair : Value × Value). pair.1) (order_is_total names heap))
    (on_total (λ (pair : Value × Value). pair.0) (order_is_total names heap))

pub ties_are_one : (names : Names) (heap : Heap) (a b : Value) → value_cmp names heap a b ≡ Equal → a ≡ b
ties_are_one names heap a b is = same_is a b (ties names heap a b is)

pub entries_are_one : (names : Names) (heap : Heap) (a b : Value × Value) → entry_cmp names heap a b ≡ Equal → a ≡ b
entries_are_one names heap a b is =
    let parts = both (value_cmp names heap a.1 b.1) (value_cmp names heap a.0 b.0) is in
    pair_by (ties_are_one names heap a.0 b.0 parts.1) (ties_are_one names heap a.1 b.1 parts.0)
  where
    pair_by : a.0 ≡ b.0 → a.1 ≡ b.1 → a ≡ b
    pair_by first second = ap (λ v. (v, a.1)) first ∙ ap (λ v. (b.0, v)) second
