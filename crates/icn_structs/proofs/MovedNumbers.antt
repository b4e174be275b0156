-- Numbers that go from their places, and that come.
use Rattle.std.proofs.Common.{arith, ◌≡◌, ◌<◌, ◌≤◌, ◌+◌, ◌-◌, ◌⊎◌, ◌++◌, ◌==◌, ℕ, zero, suc, refl, sym, ap, subst, ◌∙◌, List, [], ◌∷◌, length, map, filter, not, Bool, true, false, if◌then◌else◌, slice_get, slice_set, slice_index_or, Option, Some, None, inl, inr}
use Rattle.std.proofs.lemmas.Bool.{cases_lt, eqb-true}
use Rattle.std.proofs.lemmas.Option.{get_or_from_slice_get, none-some, same_Some, slice_get-get_or}
use Rattle.icn_structs.specs.GapLists.{present}
use Rattle.icn_structs.specs.Turns.{IsStanding, renamed, without_number}
use Rattle.icn_structs.proofs.StandingNumbers.{got_set, got_other, gap_counts, set_counts, present_mapped, present_without, set_is_renamed}

-- two numbers are the same or they are not
pub same_or_not : (m n : ℕ) → (m ≡ n) ⊎ (m ≡ n → ⊥)
same_or_not m n = by (cases_lt m n) (cases_lt n m)
  where
    by : (m < n) ⊎ (n ≤ m) → (n < m) ⊎ (m ≤ n) → (m ≡ n) ⊎ (m ≡ n → ⊥)
    by (inl less) other = inr (λ same. omega (arith, same, less))
    by (inr most) (inl less) = inr (λ same. omega (arith, same, less))
    by (inr most) (inr least) = inl (omega (arith, most, least))

-- what is renamed to itself stays
renamed_same : (numbers : List ℕ) (number : ℕ) → map (renamed number number) numbers ≡ numbers
renamed_same [] number = refl
renamed_same (n ∷ numbers) number =
    ap (λ (m : ℕ). m ∷ map (renamed number number) numbers) (here (n == number) refl) ∙ ap (λ rest. n ∷ rest) (renamed_same numbers number)
  where
    here : (b : Bool) → (n == number) ≡ b → renamed number number n ≡ n
    here true is = ap (λ t. if t then number else n) is ∙ sym (eqb-true _ _ is)
    here false is = ap (λ t. if t then number else n) is

module _ (places : List ℕ) (order : List (Option ℕ)) (standing : IsStanding places order) (number : ℕ) (less : number < length places) where
  abbrev pub its_place : ℕ
  its_place = slice_index_or places number 0

  pub at_place : slice_get order its_place ≡ Some (Some number)
  at_place = standing.there number less

  only_there : (other : ℕ) → slice_get order other ≡ Some (Some number) → other ≡ its_place
  only_there other is = sym (standing.back other number is).1

  -- where another number stands is another place
  other_place : (n : ℕ) → n < length places → (n ≡ number → ⊥) → slice_index_or places n 0 ≡ its_place → ⊥
  other_place n small apart same =
      apart (same_Some _ _ (same_Some _ _ (sym (standing.there n small) ∙ ap (slice_get order) same ∙ at_place)))

  -- what stands in the order behind is no gap
  no_gap : (p n : ℕ) → slice_get (slice_set order its_place None) p ≡ Some (Some n) → p ≡ its_place → ⊥
  no_gap p n is same =
      none-some _ (same_Some _ _ (sym (got_set order its_place None _ at_place) ∙ ap (slice_get (slice_set order its_place None)) (sym same) ∙ is))

  module _ (left : List ℕ) (shorter : length left + 1 ≡ length places)
      (same : (n : ℕ) → (n ≡ number → ⊥) → n < length left → slice_index_or left n 0 ≡ slice_index_or places n 0) where
    gapped : length (present (slice_set order its_place None)) ≡ length left
    gapped = omega (arith, gap_counts order its_place number at_place, standing.count, shorter)

    -- the last number goes
    pub stands_short : length left ≤ number → IsStanding left (slice_set order its_place None)
    stands_short most = record {
      count = gapped;
      there = λ n small.
          let apart : n ≡ number → ⊥ = λ equal. omega (arith, equal, small, most) in
          subst (λ p. slice_get (slice_set order its_place None) p ≡ Some (Some n)) (sym (same n apart small))
          (got_other order its_place (slice_index_or places n 0) None (other_place n (omega (arith, small, shorter)) apart)
          ∙ standing.there n (omega (arith, small, shorter)));
      back = λ p n is.
          let before : slice_get order p ≡ Some (Some n) = sym (got_other order its_place p None (no_gap p n is)) ∙ is in
          let held = standing.back p n before in
          let apart : n ≡ number → ⊥ = λ equal. no_gap p n is (sym held.1 ∙ ap (λ m. slice_index_or places m 0) equal) in
          let small : n < length left = below n held.0 apart most in
          (small, same n apart small ∙ held.1);
    }
      where
        below : (n : ℕ) → n < length places → (n ≡ number → ⊥) → length left ≤ number → n < length left
        below n held apart most = by (cases_lt n number)
          where
            by : (n < number) ⊎ (number ≤ n) → n < length left
            by (inl smaller) = omega (arith, smaller, less, shorter, most)
            by (inr greater) = absurd (apart (omega (arith, greater, held, most, shorter)))

    pub rest_short : length left ≤ number → present (slice_set order its_place None) ≡ without_number number (present order)
    rest_short most =
        let last : length (present order) - 1 ≡ number = omega (arith, standing.count, shorter, most, less) in
        present_without order its_place number at_place only_there
        ∙ sym (ap (λ l. map (renamed l number) (filter (λ n. not (n == number)) (present order))) last
        ∙ renamed_same (filter (λ n. not (n == number)) (present order)) number)

    -- the last number takes that of another
    module _ (fewer : number < length left) (moved : slice_index_or left number 0 ≡ slice_index_or places (length left) 0) where
      abbrev pub from : ℕ
      from = slice_index_or left number 0

      at_from : slice_get order from ≡ Some (Some (length left))
      at_from = ap (slice_get order) moved ∙ standing.there (length left) (omega (arith, shorter))

      from_apart : from ≡ its_place → ⊥
      from_apart equal = other_place (length left) (omega (arith, shorter)) (λ same. omega (arith, same, fewer)) (sym moved ∙ equal)

      pub still_from : slice_get (slice_set order its_place None) from ≡ Some (Some (length left))
      still_from = got_other order its_place from None from_apart ∙ at_from

      only_from : (other : ℕ) → slice_get (slice_set order its_place None) other ≡ Some (Some (length left)) → other ≡ from
      only_from other is =
          let before : slice_get order other ≡ Some (Some (length left)) = sym (got_other order its_place other None (no_gap other (length left) is)) ∙ is in
          sym (standing.back other (length left) before).1 ∙ sym moved

      pub stands_moved : IsStanding left (slice_set (slice_set order its_place None) from (Some number))
      stands_moved = record {
        count = set_counts (slice_set order its_place None) from (length left) number still_from ∙ gapped;
        there = λ n small. there_by n small (same_or_not n number);
        back = λ p n is. back_by p n is (same_or_not p from);
      }
        where
          after : List (Option ℕ)
          after = slice_set (slice_set order its_place None) from (Some number)

          there_by : (n : ℕ) → n < length left → (n ≡ number) ⊎ (n ≡ number → ⊥) → slice_get after (slice_index_or left n 0) ≡ Some (Some n)
          there_by n small (inl equal) =
              subst (λ m. slice_get after (slice_index_or left m 0) ≡ Some (Some m)) (sym equal)
              (got_set (slice_set order its_place None) from (Some number) _ still_from)
          there_by n small (inr apart) =
              let held : slice_get order (slice_index_or places n 0) ≡ Some (Some n) = standing.there n (omega (arith, small, shorter)) in
              let away : slice_index_or places n 0 ≡ from → ⊥ =
              λ equal. omega (arith, small, same_Some _ _ (same_Some _ _ (sym held ∙ ap (slice_get order) equal ∙ at_from))) in
              subst (λ p. slice_get after p ≡ Some (Some n)) (sym (same n apart small))
              (got_other (slice_set order its_place None) from (slice_index_or places n 0) (Some number) away
              ∙ got_other order its_place (slice_index_or places n 0) None (other_place n (omega (arith, small, shorter)) apart) ∙ held)

          back_by : (p n : ℕ) → slice_get after p ≡ Some (Some n) → (p ≡ from) ⊎ (p ≡ from → ⊥)
              → (n < length left) × (slice_index_or left n 0 ≡ p)
          back_by p n is (inl equal) =
              let named : number ≡ n = same_Some _ _ (same_Some _ _
              (sym (got_set (slice_set order its_place None) from (Some number) _ still_from) ∙ ap (slice_get after) (sym equal) ∙ is)) in
              (omega (arith, named, fewer), ap (λ m. slice_index_or left m 0) (sym named) ∙ sym equal)
          back_by p n is (inr away) =
              let first : slice_get (slice_set order its_place None) p ≡ Some (Some n) =
              sym (got_other (slice_set order its_place None) from p (Some number) away) ∙ is in
              let before : slice_get order p ≡ Some (Some n) = sym (got_other order its_place p None (no_gap p n first)) ∙ first in
              let held = standing.back p n before in
              let apart : n ≡ number → ⊥ = λ equal. no_gap p n first (sym held.1 ∙ ap (λ m. slice_index_or places m 0) equal) in
              let not_last : n ≡ length left → ⊥ =
              λ equal. away (sym held.1 ∙ ap (λ m. slice_index_or places m 0) equal ∙ sym moved) in
              let small : n < length left = before_last n held.0 not_last in
              (small, same n apart small ∙ held.1)
            where
              before_last : (m : ℕ) → m < length places → (m ≡ length left → ⊥) → m < length left
              before_last m held apart = by (cases_lt m (length left))
                where
                  by : (m < length left) ⊎ (length left ≤ m) → m < length left
                  by (inl smaller) = smaller
                  by (inr greater) = absurd (apart (omega (arith, greater, held, shorter)))

      pub rest_moved : present (slice_set (slice_set order its_place None) from (Some number)) ≡ without_number number (present order)
      rest_moved =
          let last : length left ≡ length (present order) - 1 = omega (arith, standing.count, shorter) in
          ap present (set_is_renamed (slice_set order its_place None) from (length left) number still_from only_from)
          ∙ present_mapped (renamed (length left) number) (slice_set order its_place None)
          ∙ ap (map (renamed (length left) number)) (present_without order its_place number at_place only_there)
          ∙ ap (λ l. map (renamed l number) (filter (λ n. not (n == number)) (present order))) last

-- Something comes behind all

present_behind : {A : Type 0} (order : List (Option A)) (item : A) → present (order ++ Some item ∷ []) ≡ present order ++ item ∷ []
present_behind [] item = refl
present_behind (None ∷ order) item = present_behind order item
present_behind (Some first ∷ order) item = ap (λ rest. first ∷ rest) (present_behind order item)

pub got_in_front : {A : Type 0} (items : List A) (place : ℕ) (item last : A) → slice_get items place ≡ Some item
    → slice_get (items ++ last ∷ []) place ≡ Some item
got_in_front [] place item last is = absurd (none-some _ is)
got_in_front (first ∷ items) zero item last is = is
got_in_front (first ∷ items) (suc place) item last is = got_in_front items place item last is

pub got_last : {A : Type 0} (items : List A) (last : A) → slice_get (items ++ last ∷ []) (length items) ≡ Some last
got_last [] last = refl
got_last (first ∷ items) last = got_last items last

got_by : {A : Type 0} (items : List A) (place : ℕ) (item last : A) → slice_get (items ++ last ∷ []) place ≡ Some item
    → (slice_get items place ≡ Some item) ⊎ ((place ≡ length items) × (last ≡ item))
got_by [] zero item last is = inr (refl, same_Some _ _ is)
got_by [] (suc place) item last is = absurd (none-some _ is)
got_by (first ∷ items) zero item last is = inl is
got_by (first ∷ items) (suc place) item last is = by (got_by items place item last is)
  where
    by : (slice_get items place ≡ Some item) ⊎ ((place ≡ length items) × (last ≡ item))
        → (slice_get items place ≡ Some item) ⊎ ((suc place ≡ suc (length items)) × (last ≡ item))
    by (inl found) = inl found
    by (inr end) = inr (ap suc end.0, end.1)

-- a number more stands behind all
pub stands_behind : (places : List ℕ) (order : List (Option ℕ)) → IsStanding places order
    → IsStanding (places ++ length order ∷ []) (order ++ Some (length places) ∷ [])
stands_behind places order standing = record {
  count = ap length (present_behind order (length places)) ∙ one_more (present order) (length places) ∙ ap suc standing.count
      ∙ sym (one_more places (length order));
  there = λ number less. there_by number (cases_lt number (length places)) (subst (λ n. number < n) (one_more places (length order)) less);
  back = λ place number is. back_by place number (got_by order place (Some number) (Some (length places)) is);
}
  where
    one_more : {A : Type 0} (items : List A) (last : A) → length (items ++ last ∷ []) ≡ suc (length items)
    one_more [] last = refl
    one_more (first ∷ items) last = ap suc (one_more items last)

    there_by : (number : ℕ) → (number < length places) ⊎ (length places ≤ number) → number < suc (length places)
        → slice_get (order ++ Some (length places) ∷ []) (slice_index_or (places ++ length order ∷ []) number 0) ≡ Some (Some number)
    there_by number (inl before) less =
        let kept : slice_index_or (places ++ length order ∷ []) number 0 ≡ slice_index_or places number 0 =
        get_or_from_slice_get (places ++ length order ∷ []) number _ 0
        (got_in_front places number _ (length order) (slice_get-get_or places number 0 before)) in
        subst (λ p. slice_get (order ++ Some (length places) ∷ []) p ≡ Some (Some number)) (sym kept)
        (got_in_front order (slice_index_or places number 0) (Some number) (Some (length places)) (standing.there number before))
    there_by number (inr end) less =
        let named : length places ≡ number = omega (arith, end, less) in
        let kept : slice_index_or (places ++ length order ∷ []) number 0 ≡ length order =
        get_or_from_slice_get (places ++ length order ∷ []) number (length order) 0
        (ap (slice_get (places ++ length order ∷ [])) (sym named) ∙ got_last places (length order)) in
        subst (λ p. slice_get (order ++ Some (length places) ∷ []) p ≡ Some (Some number)) (sym kept)
        (got_last order (Some (length places)) ∙ ap (λ (n : ℕ). Some (Some n)) named)

    back_by : (place number : ℕ) → (slice_get order place ≡ Some (Some number)) ⊎ ((place ≡ length order) × (Some (length places) ≡ Some number))
        → (number < length (places ++ length order ∷ [])) × (slice_index_or (places ++ length order ∷ []) number 0 ≡ place)
    back_by place number (inl found) =
        let held = standing.back place number found in (
          omega (arith, held.0, one_more places (length order)),
          get_or_from_slice_get (places ++ length order ∷ []) number _ 0
              (got_in_front places number _ (length order) (slice_get-get_or places number 0 held.0)) ∙ held.1,
        )
    back_by place number (inr end) =
        let named : length places ≡ number = same_Some _ _ end.1 in (
          omega (arith, named, one_more places (length order)),
          get_or_from_slice_get (places ++ length order ∷ []) number (length order) 0
              (ap (slice_get (places ++ length order ∷ [])) (sym named) ∙ got_last places (length order)) ∙ sym end.0,
        )

-- and is the last in the order
pub added_behind : (places : List ℕ) (order : List (Option ℕ)) → IsStanding places order
    → present (order ++ Some (length places) ∷ []) ≡ present order ++ length (present order) ∷ []
added_behind places order standing =
    present_behind order (length places) ∙ ap (λ n. present order ++ n ∷ []) (sym standing.count)
