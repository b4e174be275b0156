-- The places of a row, as what is not marked is given back.
use Rattle.std.specs.Prelude.{not}
use Rattle.std.proofs.Common.{◌≡◌, ◌∙◌, refl, sym, ap, subst, ℕ, zero, suc, ◌+◌, ◌-◌, Bool, true, false, Option, Some, List, [], ◌∷◌, length, map, filter, slice_get, if◌then◌else◌, arith, ◌<◌, ◌≤◌, ◌++◌, take, drop, set, get_or, ◌⊎◌, inl, inr, nat_lt}
use Rattle.std.specs.List.{All}
use Rattle.std.proofs.lemmas.List.{length-map, set-get_or}
use Rattle.std.proofs.lemmas.List.Elements.{All-head, All-tail}
use Rattle.icn_structs.specs.declared.row.OnShelf.{OnShelf}
use Rattle.icn_structs.specs.PlacedThings.{IsNumbered, IsRow, found_marked, held_places, is_marked, kept_number, marked_places, memory_at, memory_of, merged, must_go, remembered, renumbered, row_seen, unmarked}
use Rattle.icn_structs.specs.Shelves.{all_unset, view_given, view_unmarked}
use Rattle.icn_structs.proofs.PlacedSteps.{from_none, held_length, marks_length, numbered_order, renumbered_length, same_unset, same_view}

module _ {X : Type 0} (all : List (OnShelf X)) where
  -- those that follow are these, from one number on
  abbrev pub Follow : ℕ → List (OnShelf X) → Type 0
  Follow from there = (j : ℕ) → slice_get all (from + j) ≡ slice_get there j

  first_found : (from n : ℕ) (kept : OnShelf X) (there : List (OnShelf X)) → Follow from (kept ∷ there) → n ≡ from → slice_get all n ≡ Some kept
  first_found from n kept there follow same =
      let place : n ≡ from + 0 = omega (arith, same) in
      ap (slice_get all) place ∙ follow 0

  others_follow : (from : ℕ) (kept : OnShelf X) (there : List (OnShelf X)) → Follow from (kept ∷ there) → Follow (suc from) there
  others_follow from kept there follow j =
      let place : suc from + j ≡ from + suc j = omega arith in
      ap (slice_get all) place ∙ follow (suc j)

  others_numbered : (from n : ℕ) (kept : OnShelf X) (there : List (OnShelf X)) (numbers : List ℕ)
      → IsNumbered from (from + length (kept ∷ there)) (suc n ∷ numbers)
      → IsNumbered (suc from) (suc from + length there) numbers
  others_numbered from n kept there numbers are =
      let more : from + suc (length there) ≡ suc from + length there = omega arith in
      subst (λ (to : ℕ). IsNumbered (suc from) to numbers) more are.1

  none_left : (from n : ℕ) (numbers : List ℕ) → IsNumbered from (from + 0) (suc n ∷ numbers) → ⊥
  none_left from n numbers are = let order = numbered_order (suc from) (from + 0) numbers are.1 in omega (arith, order)

  -- the things are the same
  pub given_things : (was : List X) (numbers : List ℕ) (there : List (OnShelf X)) (from anew : ℕ) → Follow from there
      → IsNumbered from (from + length there) numbers
      → merged (remembered was numbers all) (renumbered anew (map (kept_number all) numbers)) (filter is_marked there) ≡ merged was numbers there
  given_things [] numbers there from anew follow are = refl
  given_things (x ∷ was) [] there from anew follow are = ap (λ xs. x ∷ xs) (given_rest was there)
    where
      given_rest : (some : List X) (left : List (OnShelf X)) → merged (remembered some [] all) [] (filter is_marked left) ≡ merged some [] left
      given_rest [] left = refl
      given_rest (y ∷ some) left = ap (λ xs. y ∷ xs) (given_rest some left)
  given_things (x ∷ was) (zero ∷ numbers) there from anew follow are = ap (λ xs. x ∷ xs) (given_things was numbers there from anew follow are)
  given_things (x ∷ was) (suc n ∷ numbers) [] from anew follow are = absurd (none_left from n numbers are)
  given_things (x ∷ was) (suc n ∷ numbers) (kept ∷ there) from anew follow are =
      let found : slice_get all n ≡ Some kept = first_found from n kept there follow are.0 in
      let rest : IsNumbered (suc from) (suc from + length there) numbers = others_numbered from n kept there numbers are in
      subst (λ (o : Option (OnShelf X)).
      merged (memory_of o x ∷ remembered was numbers all) (renumbered anew ((if found_marked o then suc n else zero) ∷ map (kept_number all) numbers))
      (filter is_marked (kept ∷ there)) ≡ kept.thing ∷ merged was numbers there) (sym found)
      (by_mark kept.marked refl (λ k. given_things was numbers there (suc from) k (others_follow from kept there follow) rest))
    where
      by_mark : (b : Bool) → kept.marked ≡ b
          → ((k : ℕ) → merged (remembered was numbers all) (renumbered k (map (kept_number all) numbers)) (filter is_marked there) ≡ merged was numbers there)
          → merged ((if kept.marked then x else kept.thing) ∷ remembered was numbers all)
          (renumbered anew ((if kept.marked then suc n else zero) ∷ map (kept_number all) numbers))
          (if kept.marked then kept ∷ filter is_marked there else filter is_marked there)
          ≡ kept.thing ∷ merged was numbers there
      by_mark true is same = rw is (ap (λ xs. kept.thing ∷ xs) (same (suc anew)))
      by_mark false is same = rw is (ap (λ xs. kept.thing ∷ xs) (same anew))

  -- there is what was marked
  pub given_held : (was : List X) (numbers : List ℕ) (there : List (OnShelf X)) (from anew : ℕ) → Follow from there
      → IsNumbered from (from + length there) numbers
      → held_places (remembered was numbers all) (renumbered anew (map (kept_number all) numbers)) ≡ marked_places was numbers there
  given_held [] numbers there from anew follow are = refl
  given_held (x ∷ was) [] there from anew follow are = ap (λ flags. false ∷ flags) (held_rest was there)
    where
      held_rest : (some : List X) (left : List (OnShelf X)) → held_places (remembered some [] all) [] ≡ marked_places some [] left
      held_rest [] left = refl
      held_rest (y ∷ some) left = ap (λ flags. false ∷ flags) (held_rest some left)
  given_held (x ∷ was) (zero ∷ numbers) there from anew follow are = ap (λ flags. false ∷ flags) (given_held was numbers there from anew follow are)
  given_held (x ∷ was) (suc n ∷ numbers) [] from anew follow are = absurd (none_left from n numbers are)
  given_held (x ∷ was) (suc n ∷ numbers) (kept ∷ there) from anew follow are =
      let found : slice_get all n ≡ Some kept = first_found from n kept there follow are.0 in
      let rest : IsNumbered (suc from) (suc from + length there) numbers = others_numbered from n kept there numbers are in
      subst (λ (o : Option (OnShelf X)).
      held_places (memory_of o x ∷ remembered was numbers all) (renumbered anew ((if found_marked o then suc n else zero) ∷ map (kept_number all) numbers))
      ≡ kept.marked ∷ marked_places was numbers there) (sym found)
      (by_mark kept.marked refl (λ k. given_held was numbers there (suc from) k (others_follow from kept there follow) rest))
    where
      by_mark : (b : Bool) → kept.marked ≡ b
          → ((k : ℕ) → held_places (remembered was numbers all) (renumbered k (map (kept_number all) numbers)) ≡ marked_places was numbers there)
          → held_places ((if kept.marked then x else kept.thing) ∷ remembered was numbers all)
          (renumbered anew ((if kept.marked then suc n else zero) ∷ map (kept_number all) numbers))
          ≡ kept.marked ∷ marked_places was numbers there
      by_mark true is same = rw is (ap (λ flags. true ∷ flags) (same (suc anew)))
      by_mark false is same = rw is (ap (λ flags. false ∷ flags) (same anew))

  -- the numbers go up by one again
  pub given_numbered : (numbers : List ℕ) (there : List (OnShelf X)) (from anew : ℕ) → Follow from there → IsNumbered from (from + length there) numbers
      → IsNumbered anew (anew + length (filter is_marked there)) (renumbered anew (map (kept_number all) numbers))
  given_numbered [] [] from anew follow are = omega arith
  given_numbered [] (kept ∷ there) from anew follow are = absurd (omega (arith, are))
  given_numbered (zero ∷ numbers) there from anew follow are = given_numbered numbers there from anew follow are
  given_numbered (suc n ∷ numbers) [] from anew follow are = absurd (none_left from n numbers are)
  given_numbered (suc n ∷ numbers) (kept ∷ there) from anew follow are =
      let found : slice_get all n ≡ Some kept = first_found from n kept there follow are.0 in
      let rest : IsNumbered (suc from) (suc from + length there) numbers = others_numbered from n kept there numbers are in
      subst (λ (o : Option (OnShelf X)). IsNumbered anew (anew + length (filter is_marked (kept ∷ there)))
      (renumbered anew ((if found_marked o then suc n else zero) ∷ map (kept_number all) numbers))) (sym found)
      (by_mark kept.marked refl (λ k. given_numbered numbers there (suc from) k (others_follow from kept there follow) rest))
    where
      one_more : (k m : ℕ) → suc k + m ≡ k + suc m
      one_more k m = omega arith

      by_mark : (b : Bool) → kept.marked ≡ b
          → ((k : ℕ) → IsNumbered k (k + length (filter is_marked there)) (renumbered k (map (kept_number all) numbers)))
          → IsNumbered anew (anew + length (if kept.marked then kept ∷ filter is_marked there else filter is_marked there))
          (renumbered anew ((if kept.marked then suc n else zero) ∷ map (kept_number all) numbers))
      by_mark true is same =
          rw is (
            refl,
            subst (λ (to : ℕ). IsNumbered (suc anew) to (renumbered (suc anew) (map (kept_number all) numbers)))
                (one_more anew (length (filter is_marked there))) (same (suc anew)),
          )
      by_mark false is same = rw is (same anew)

-- Marks that are taken away

pub things_unmarked : {X : Type 0} (was : List X) (numbers : List ℕ) (there : List (OnShelf X))
    → merged was numbers (map unmarked there) ≡ merged was numbers there
things_unmarked [] numbers there = refl
things_unmarked (x ∷ was) [] there = ap (λ xs. x ∷ xs) (things_unmarked was [] there)
things_unmarked (x ∷ was) (zero ∷ numbers) there = ap (λ xs. x ∷ xs) (things_unmarked was numbers there)
things_unmarked (x ∷ was) (suc n ∷ numbers) [] = ap (λ xs. x ∷ xs) (things_unmarked was numbers [])
things_unmarked (x ∷ was) (suc n ∷ numbers) (kept ∷ there) = ap (λ xs. kept.thing ∷ xs) (things_unmarked was numbers there)

pub marks_unmarked : {X : Type 0} (was : List X) (numbers : List ℕ) (there : List (OnShelf X))
    → marked_places was numbers (map unmarked there) ≡ all_unset (held_places was numbers)
marks_unmarked [] numbers there = refl
marks_unmarked (x ∷ was) [] there = ap (λ flags. false ∷ flags) (marks_unmarked was [] there)
marks_unmarked (x ∷ was) (zero ∷ numbers) there = ap (λ flags. false ∷ flags) (marks_unmarked was numbers there)
marks_unmarked (x ∷ was) (suc n ∷ numbers) [] = ap (λ flags. false ∷ flags) (marks_unmarked was numbers [])
marks_unmarked (x ∷ was) (suc n ∷ numbers) (kept ∷ there) = ap (λ flags. false ∷ flags) (marks_unmarked was numbers there)

-- What is remembered, place by place

take_none : (i : ℕ) → take {A = ℕ} i [] ≡ []
take_none zero = refl
take_none (suc i) = refl

module _ {X : Type 0} (all : List (OnShelf X)) where
  none_numbered : (xs : List X) (i : ℕ) → remembered (take i xs) [] all ++ drop i xs ≡ xs
  none_numbered [] zero = refl
  none_numbered [] (suc i) = refl
  none_numbered (x ∷ xs) zero = refl
  none_numbered (x ∷ xs) (suc i) = ap (λ ys. x ∷ ys) (none_numbered xs i)

  -- what stands at the place that is next is as it was
  memory_as_was : (was : List X) (numbers : List ℕ) (i : ℕ) (d : X)
      → get_or (remembered (take i was) (take i numbers) all ++ drop i was) i d ≡ get_or was i d
  memory_as_was [] numbers zero d = refl
  memory_as_was [] numbers (suc i) d = refl
  memory_as_was (x ∷ was) numbers zero d = refl
  memory_as_was (x ∷ was) [] (suc i) d = ap (λ xs. get_or xs (suc i) d) (none_numbered (x ∷ was) (suc i))
  memory_as_was (x ∷ was) (zero ∷ numbers) (suc i) d = memory_as_was was numbers i d
  memory_as_was (x ∷ was) (suc n ∷ numbers) (suc i) d = memory_as_was was numbers i d

  -- one more
  memory_set : (was : List X) (numbers : List ℕ) (i : ℕ) (y d : X) → i < length was → y ≡ memory_at all (get_or numbers i 0) (get_or was i d)
      → set (remembered (take i was) (take i numbers) all ++ drop i was) i y
      ≡ remembered (take (suc i) was) (take (suc i) numbers) all ++ drop (suc i) was
  memory_set [] numbers i y d within is = absurd (omega (arith, within))
  memory_set (x ∷ was) [] i y d within is =
      ap (λ ns. set (remembered (take i (x ∷ was)) ns all ++ drop i (x ∷ was)) i y) (take_none i)
      ∙ (ap (λ xs. set xs i y) (none_numbered (x ∷ was) i)
      ∙ (ap (λ z. set (x ∷ was) i z) is ∙ (set-get_or (x ∷ was) i d ∙ sym (none_numbered (x ∷ was) (suc i)))))
  memory_set (x ∷ was) (zero ∷ numbers) zero y d within is = ap (λ z. z ∷ was) is
  memory_set (x ∷ was) (suc n ∷ numbers) zero y d within is = ap (λ z. z ∷ was) is
  memory_set (x ∷ was) (zero ∷ numbers) (suc i) y d within is = ap (λ xs. x ∷ xs) (memory_set was numbers i y d (omega (arith, within)) is)
  memory_set (x ∷ was) (suc n ∷ numbers) (suc i) y d within is =
      ap (λ xs. memory_of (slice_get all n) x ∷ xs) (memory_set was numbers i y d (omega (arith, within)) is)

  pub one_more_remembered : (was now : List X) (numbers : List ℕ) (i : ℕ) (old new : X) → i < length was
      → now ≡ remembered (take i was) (take i numbers) all ++ drop i was → old ≡ get_or now i old → new ≡ memory_at all (get_or numbers i 0) old
      → set now i new ≡ remembered (take (i + 1) was) (take (i + 1) numbers) all ++ drop (i + 1) was
  one_more_remembered was now numbers i old new within so_far found is =
      let next : suc i ≡ i + 1 = omega arith in
      let before : old ≡ get_or was i old = found ∙ (ap (λ xs. get_or xs i old) so_far ∙ memory_as_was was numbers i old) in
      ap (λ xs. set xs i new) so_far
      ∙ (memory_set was numbers i new old within (is ∙ ap (memory_at all (get_or numbers i 0)) before)
      ∙ ap (λ n. remembered (take n was) (take n numbers) all ++ drop n was) next)

  -- all that is remembered
  pub memory_all : (was : List X) (numbers : List ℕ) (n : ℕ) → length numbers ≤ n
      → remembered (take n was) (take n numbers) all ++ drop n was ≡ remembered was numbers all
  memory_all [] numbers zero long = refl
  memory_all [] numbers (suc n) long = refl
  memory_all (x ∷ was) [] n long =
      ap (λ ns. remembered (take n (x ∷ was)) ns all ++ drop n (x ∷ was)) (take_none n)
      ∙ (none_numbered (x ∷ was) n ∙ sym (as_was (x ∷ was)))
    where
      as_was : (xs : List X) → remembered xs [] all ≡ xs
      as_was [] = refl
      as_was (y ∷ ys) = ap (λ zs. y ∷ zs) (as_was ys)
  memory_all (x ∷ was) (m ∷ numbers) zero long = absurd (omega (arith, long))
  memory_all (x ∷ was) (zero ∷ numbers) (suc n) long = ap (λ xs. x ∷ xs) (memory_all was numbers n (omega (arith, long)))
  memory_all (x ∷ was) (suc m ∷ numbers) (suc n) long =
      ap (λ xs. memory_of (slice_get all m) x ∷ xs) (memory_all was numbers n (omega (arith, long)))

  pub remembered_length : (was : List X) (numbers : List ℕ) → length (remembered was numbers all) ≡ length was
  remembered_length [] numbers = refl
  remembered_length (x ∷ was) [] = ap suc (remembered_length was [])
  remembered_length (x ∷ was) (zero ∷ numbers) = ap suc (remembered_length was numbers)
  remembered_length (x ∷ was) (suc n ∷ numbers) = ap suc (remembered_length was numbers)

  -- One number

  pub goes_is : (n : ℕ) (kept : OnShelf X) → 0 < n → n ≤ length all → kept ≡ get_or all (n - 1) kept → not kept.marked ≡ must_go all n
  goes_is zero kept some within is = absurd (omega (arith, some))
  goes_is (suc n) kept some within is =
      let place : suc n - 1 ≡ n = omega arith in
      goes_at all n (omega (arith, within)) (is ∙ ap (λ i. get_or all i kept) place)
    where
      goes_at : (some_of : List (OnShelf X)) (i : ℕ) → i < length some_of → kept ≡ get_or some_of i kept
          → not kept.marked ≡ not (found_marked (slice_get some_of i))
      goes_at [] i low same = absurd (omega (arith, low))
      goes_at (one ∷ others) zero low same = ap (λ (k : OnShelf X). not k.marked) same
      goes_at (one ∷ others) (suc i) low same = goes_at others i (omega (arith, low)) same

  pub none_goes : (n : ℕ) → n ≤ 0 → nat_lt 0 n ≡ must_go all n
  none_goes zero none = refl
  none_goes (suc n) none = absurd (omega (arith, none))

-- Where all that is there is marked, the marks are what is there

none_marked : {X : Type 0} (was : List X) (there : List (OnShelf X)) → marked_places was [] there ≡ held_places was []
none_marked [] there = refl
none_marked (x ∷ was) there = ap (λ flags. false ∷ flags) (none_marked was there)

pub marks_are_held : {X : Type 0} (was : List X) (numbers : List ℕ) (there : List (OnShelf X)) (from : ℕ) → IsNumbered from (from + length there) numbers
    → All (λ kept. is_marked kept ≡ true) there
    → marked_places was numbers there ≡ held_places was numbers
marks_are_held [] numbers there from numbered are = refl
marks_are_held (x ∷ was) [] there from numbered are = ap (λ flags. false ∷ flags) (none_marked was there)
marks_are_held (x ∷ was) (zero ∷ numbers) there from numbered are = ap (λ flags. false ∷ flags) (marks_are_held was numbers there from numbered are)
marks_are_held (x ∷ was) (suc n ∷ numbers) [] from numbered are =
    absurd (let order = numbered_order (suc from) (from + 0) numbers numbered.1 in omega (arith, order))
marks_are_held (x ∷ was) (suc n ∷ numbers) (kept ∷ there) from numbered are =
    let more : from + suc (length there) ≡ suc from + length there = omega arith in
    let rest : IsNumbered (suc from) (suc from + length there) numbers = subst (λ (to : ℕ). IsNumbered (suc from) to numbers) more numbered.1 in
    let first : kept.marked ≡ true = All-head (λ (some : OnShelf _). is_marked some ≡ true) kept there are in
    ap (λ flag. flag ∷ marked_places was numbers there) first
    ∙ ap (λ flags. true ∷ flags)
    (marks_are_held was numbers there (suc from) rest (All-tail (λ (some : OnShelf _). is_marked some ≡ true) kept there are))

-- Where nothing is there, no numbers tell the same

pub none_there : {X : Type 0} (was : List X) (numbers : List ℕ) → merged was numbers [] ≡ was
none_there [] numbers = refl
none_there (x ∷ was) [] = ap (λ xs. x ∷ xs) (none_there was [])
none_there (x ∷ was) (zero ∷ numbers) = ap (λ xs. x ∷ xs) (none_there was numbers)
none_there (x ∷ was) (suc n ∷ numbers) = ap (λ xs. x ∷ xs) (none_there was numbers)

pub none_held : {X : Type 0} (was : List X) (numbers : List ℕ) (from : ℕ) → IsNumbered from from numbers → held_places was numbers ≡ held_places was []
none_held [] numbers from are = refl
none_held (x ∷ was) [] from are = refl
none_held (x ∷ was) (zero ∷ numbers) from are = ap (λ flags. false ∷ flags) (none_held was numbers from are)
none_held (x ∷ was) (suc n ∷ numbers) from are = absurd (let order = numbered_order (suc from) from numbers are.1 in omega (arith, order))

-- Rows without marks

pub row_kept : {X : Type 0} (all : ℕ) (numbers : List ℕ) (there kept : List (OnShelf X)) → kept ≡ map unmarked there → IsRow all (length there) numbers
    → IsRow all (length kept) numbers
row_kept all numbers there kept is row = subst (λ (n : ℕ). IsRow all n numbers) (sym (ap length is ∙ length-map there unmarked)) row

pub row_unmarked : {X : Type 0} (was : List X) (numbers : List ℕ) (there : List (OnShelf X))
    → row_seen was numbers (map unmarked there) ≡ view_unmarked (row_seen was numbers there)
row_unmarked was numbers there =
    same_view (merged was numbers (map unmarked there)) (merged was numbers there) (held_places was numbers) (held_places was numbers)
    (marked_places was numbers (map unmarked there)) (all_unset (held_places was numbers))
    (things_unmarked was numbers there) refl (marks_unmarked was numbers there)

pub row_given : {X : Type 0} (was new : List X) (numbers others : List ℕ) (there kept : List (OnShelf X)) → merged new others kept ≡ merged was numbers there
    → held_places new others ≡ marked_places was numbers there
    → row_seen new others (map unmarked kept) ≡ view_given (row_seen was numbers there)
row_given was new numbers others there kept things held =
    same_view (merged new others (map unmarked kept)) (merged was numbers there) (held_places new others) (marked_places was numbers there)
    (marked_places new others (map unmarked kept)) (all_unset (held_places was numbers))
    (things_unmarked new others kept ∙ things) held
    (marks_unmarked new others kept
    ∙ (ap all_unset held
    ∙ same_unset (marked_places was numbers there) (held_places was numbers) (marks_length was numbers there ∙ sym (held_length was numbers))))

-- What is left of a row as what is not marked is given back

follow_all : {X : Type 0} (all : List (OnShelf X)) (j : ℕ) → slice_get all (0 + j) ≡ slice_get all j
follow_all all j = ap (slice_get all) (let same : 0 + j ≡ j = omega arith in same)

module _ {X : Type 0} (was : List X) (numbers : List ℕ) (there : List (OnShelf X)) (are : IsNumbered 0 (length there) numbers) where
  left_things : merged (remembered was numbers there) (renumbered 0 (map (kept_number there) numbers)) (filter is_marked there) ≡ merged was numbers there
  left_things = given_things there was numbers there 0 0 (follow_all there) (from_none numbers (length there) are)

  left_held : held_places (remembered was numbers there) (renumbered 0 (map (kept_number there) numbers)) ≡ marked_places was numbers there
  left_held = given_held there was numbers there 0 0 (follow_all there) (from_none numbers (length there) are)

left_numbered : {X : Type 0} (numbers : List ℕ) (there : List (OnShelf X)) → IsNumbered 0 (length there) numbers
    → IsNumbered 0 (length (filter is_marked there)) (renumbered 0 (map (kept_number there) numbers))
left_numbered numbers there are =
    subst (λ (n : ℕ). IsNumbered 0 n (renumbered 0 (map (kept_number there) numbers)))
    (let same : 0 + length (filter is_marked there) ≡ length (filter is_marked there) = omega arith in same)
    (given_numbered there numbers there 0 0 (follow_all there) (from_none numbers (length there) are))

pub left_row : {X : Type 0} (all : ℕ) (numbers : List ℕ) (there : List (OnShelf X)) → IsRow all (length there) numbers
    → IsRow all (length (filter is_marked there)) (renumbered 0 (map (kept_number there) numbers))
left_row all numbers there row =
    let long = renumbered_length (map (kept_number there) numbers) 0 ∙ length-map numbers (kept_number there) in
    record {
      numbered = left_numbered numbers there row.numbered;
      long = either_long (length numbers) (length (renumbered 0 (map (kept_number there) numbers))) long row.long;
      few = row.few;
    }
  where
    either_long : (m n : ℕ) → n ≡ m → (m ≡ all) ⊎ ((m ≡ 0) × (all ≡ 128)) → (n ≡ all) ⊎ ((n ≡ 0) × (all ≡ 128))
    either_long m n same (inl full) = inl (same ∙ full)
    either_long m n same (inr none) = inr (same ∙ none.0, none.1)

-- where nothing is there, no numbers tell the same
dropped_things : {X : Type 0} (was : List X) (numbers others : List ℕ) (there : List (OnShelf X)) (n : ℕ) → n ≡ length there
    → (others ≡ numbers) ⊎ ((n ≡ 0) × (others ≡ []))
    → merged was others there ≡ merged was numbers there
dropped_things was numbers others there n long (inl same) = ap (λ ns. merged was ns there) same
dropped_things was numbers others [] n long (inr none) = none_there was others ∙ sym (none_there was numbers)
dropped_things was numbers others (kept ∷ there) n long (inr none) = absurd (let some = none.0 in omega (arith, some, long))

dropped_held : {X : Type 0} (was : List X) (numbers others : List ℕ) (there : List (OnShelf X)) (n : ℕ) → n ≡ length there
    → IsNumbered 0 (length there) numbers → (others ≡ numbers) ⊎ ((n ≡ 0) × (others ≡ []))
    → held_places was others ≡ held_places was numbers
dropped_held was numbers others there n long are (inl same) = ap (held_places was) same
dropped_held was numbers others [] n long are (inr none) = ap (held_places was) none.1 ∙ sym (none_held was numbers 0 are)
dropped_held was numbers others (kept ∷ there) n long are (inr none) = absurd (let some = none.0 in omega (arith, some, long))

-- all that is done to a row
module _ {X : Type 0} (was new : List X) (numbers others last : List ℕ) (there kept : List (OnShelf X)) (n : ℕ) where
  pub given_row_things : IsNumbered 0 (length there) numbers → new ≡ remembered was numbers there → others ≡ renumbered 0 (map (kept_number there) numbers)
      → kept ≡ filter is_marked there → n ≡ length kept → (last ≡ others) ⊎ ((n ≡ 0) × (last ≡ []))
      → merged new last kept ≡ merged was numbers there
  given_row_things are new_is others_are kept_are long dropped =
      dropped_things new others last kept n long dropped
      ∙ (ap (λ (xs : List X). merged xs others kept) new_is
      ∙ (ap (λ (ns : List ℕ). merged (remembered was numbers there) ns kept) others_are
      ∙ (ap (merged (remembered was numbers there) (renumbered 0 (map (kept_number there) numbers))) kept_are ∙ left_things was numbers there are)))

  pub given_row_held : IsNumbered 0 (length there) numbers → new ≡ remembered was numbers there → others ≡ renumbered 0 (map (kept_number there) numbers)
      → kept ≡ filter is_marked there → n ≡ length kept → (last ≡ others) ⊎ ((n ≡ 0) × (last ≡ []))
      → held_places new last ≡ marked_places was numbers there
  given_row_held are new_is others_are kept_are long dropped =
      dropped_held new others last kept n long
      (subst (λ (ns : List ℕ). IsNumbered 0 (length kept) ns) (sym others_are)
      (subst (λ (some : List (OnShelf X)). IsNumbered 0 (length some) (renumbered 0 (map (kept_number there) numbers))) (sym kept_are)
      (left_numbered numbers there are))) dropped
      ∙ (ap (λ (xs : List X). held_places xs others) new_is
      ∙ (ap (held_places (remembered was numbers there)) others_are ∙ left_held was numbers there are))

-- where all things are marked
pub all_marked_held : {X : Type 0} (was : List X) (numbers : List ℕ) (there : List (OnShelf X)) → IsNumbered 0 (length there) numbers
    → All (λ kept. is_marked kept ≡ true) there
    → held_places was numbers ≡ marked_places was numbers there
all_marked_held was numbers there are marked = sym (marks_are_held was numbers there 0 (from_none numbers (length there) are) marked)
