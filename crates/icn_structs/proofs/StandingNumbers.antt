-- Numbers that stand each at its place of a list with gaps.
use Rattle.std.proofs.Common.{arith, ◌≡◌, ◌<◌, ◌-◌, ℕ, zero, suc, refl, sym, ap, subst, ◌∙◌, List, [], ◌∷◌, length, take, map, filter, not, ◌==◌, if◌then◌else◌, slice_get, slice_set, slice_index_or, Bool, true, false, Option, Some, None, option_map}
use Rattle.std.proofs.lemmas.Bool.{eq-eqb, ne_eqb}
use Rattle.std.proofs.lemmas.Option.{none-some, same_Some}
use Rattle.icn_structs.specs.GapLists.{present}
use Rattle.icn_structs.specs.Turns.{IsNumbering, IsStanding, renamed}
use Rattle.icn_structs.proofs.GapSums.{present_at}

-- where a thing that is there stands in the list with gaps
pub record StandsAt (A : Type 0) (items : List (Option A)) (place : ℕ) (item : A) : Type 0 where
  pub index : ℕ
  pub is : slice_get items index ≡ Some (Some item)
  pub rank : length (present (take index items)) ≡ place

pub stands_at : {A : Type 0} (items : List (Option A)) (place : ℕ) (item : A) → slice_get (present items) place ≡ Some item → StandsAt A items place item
stands_at [] place item is = absurd (none-some _ is)
stands_at (None ∷ items) place item is =
    let later = stands_at items place item is in
    record { index = suc later.index; is = later.is; rank = later.rank }
stands_at {A = A} (Some first ∷ items) zero item is = record { index = zero; is = ap (λ (x : Option A). Some x) is; rank = refl }
stands_at (Some first ∷ items) (suc place) item is =
    let later = stands_at items place item is in
    record { index = suc later.index; is = later.is; rank = ap suc later.rank }

module _ (places : List ℕ) (order : List (Option ℕ)) (standing : IsStanding places order) where
  -- the numbers that stand there are those from 0 on, each once
  pub standing_numbers : IsNumbering (present order)
  standing_numbers = record {
    small = λ place number is.
        let at = stands_at order place number is in
        omega (arith, (standing.back at.index number at.is).0, standing.count);
    once = λ one other number first second.
        let at = stands_at order one number first in
        let same = stands_at order other number second in
        sym at.rank ∙ ap (λ index. length (present (take index order))) (sym (standing.back at.index number at.is).1
        ∙ (standing.back same.index number same.is).1) ∙ same.rank;
    all = λ number less.
        (_, present_at order _ number (standing.there number (omega (arith, less, standing.count))));
  }

-- what a test lets through and what not
pub passed_over : {A : Type 0} (p : A → Bool) (x : A) (xs : List A) → p x ≡ false → filter p (x ∷ xs) ≡ filter p xs
passed_over p x xs fails = rw fails refl

pub let_through : {A : Type 0} (p : A → Bool) (x : A) (xs : List A) → p x ≡ true → filter p (x ∷ xs) ≡ x ∷ filter p xs
let_through p x xs holds = rw holds refl

-- a number that stands nowhere is not missed
none_left : (order : List (Option ℕ)) (number : ℕ) → ((other : ℕ) → slice_get order other ≡ Some (Some number) → ⊥)
    → filter (λ n. not (n == number)) (present order) ≡ present order
none_left [] number none = refl
none_left (None ∷ order) number none = none_left order number (λ other is. none (suc other) is)
none_left (Some n ∷ order) number none =
    let_through (λ n. not (n == number)) n (present order) (ap not (ne_eqb n number (λ same. none 0 (ap (λ m. Some (Some m)) same))))
    ∙ ap (λ rest. n ∷ rest) (none_left order number (λ other is. none (suc other) is))

-- what is left where one that stands once goes
pub present_without : (order : List (Option ℕ)) (place number : ℕ) → slice_get order place ≡ Some (Some number)
    → ((other : ℕ) → slice_get order other ≡ Some (Some number) → other ≡ place)
    → present (slice_set order place None) ≡ filter (λ n. not (n == number)) (present order)
present_without [] place number is once = absurd (none-some _ is)
present_without (None ∷ order) zero number is once = absurd (none-some _ (same_Some _ _ is))
present_without (None ∷ order) (suc place) number is once =
    present_without order place number is (λ other there. omega (arith, once (suc other) there))
present_without (Some n ∷ order) zero number is once =
    sym (passed_over (λ n. not (n == number)) n (present order) (ap not (eq-eqb n number (same_Some _ _ (same_Some _ _ is))))
    ∙ none_left order number (λ other there. absurd (omega (arith, once (suc other) there))))
present_without (Some n ∷ order) (suc place) number is once =
    ap (λ rest. n ∷ rest) (present_without order place number is (λ other there. omega (arith, once (suc other) there)))
    ∙ sym (let_through (λ n. not (n == number)) n (present order)
    (ap not (ne_eqb n number (λ same. absurd (omega (arith, once 0 (ap (λ m. Some (Some m)) same)))))))

-- where a number stands nowhere, nothing is renamed
none_renamed : (order : List (Option ℕ)) (last number : ℕ) → ((other : ℕ) → slice_get order other ≡ Some (Some last) → ⊥)
    → order ≡ map (option_map (renamed last number)) order
none_renamed [] last number none = refl
none_renamed (None ∷ order) last number none = ap (λ rest. None ∷ rest) (none_renamed order last number (λ other is. none (suc other) is))
none_renamed (Some n ∷ order) last number none =
    let same : n ≡ renamed last number n =
    sym (ap (λ b. if b then number else n) (ne_eqb n last (λ same. none 0 (ap (λ m. Some (Some m)) same)))) in
    ap (λ (m : ℕ). Some m ∷ order) same
    ∙ ap (λ rest. Some (renamed last number n) ∷ rest) (none_renamed order last number (λ other is. none (suc other) is))

-- a list whose one number is exchanged is one in which each such number is
pub set_is_renamed : (order : List (Option ℕ)) (place last number : ℕ) → slice_get order place ≡ Some (Some last)
    → ((other : ℕ) → slice_get order other ≡ Some (Some last) → other ≡ place)
    → slice_set order place (Some number) ≡ map (option_map (renamed last number)) order
set_is_renamed [] place last number is once = absurd (none-some _ is)
set_is_renamed (None ∷ order) zero last number is once = absurd (none-some _ (same_Some _ _ is))
set_is_renamed (None ∷ order) (suc place) last number is once =
    ap (λ rest. None ∷ rest) (set_is_renamed order place last number is (λ other there. omega (arith, once (suc other) there)))
set_is_renamed (Some n ∷ order) zero last number is once =
    let same : number ≡ renamed last number n =
    sym (ap (λ b. if b then number else n) (eq-eqb n last (same_Some _ _ (same_Some _ _ is)))) in
    ap (λ (m : ℕ). Some m ∷ order) same
    ∙ ap (λ rest. Some (renamed last number n) ∷ rest)
    (none_renamed order last number (λ other there. absurd (omega (arith, once (suc other) there))))
set_is_renamed (Some n ∷ order) (suc place) last number is once =
    let same : n ≡ renamed last number n =
    sym (ap (λ b. if b then number else n) (ne_eqb n last (λ same. absurd (omega (arith, once 0 (ap (λ m. Some (Some m)) same)))))) in
    ap (λ (m : ℕ). Some m ∷ slice_set order place (Some number)) same
    ∙ ap (λ rest. Some (renamed last number n) ∷ rest)
    (set_is_renamed order place last number is (λ other there. omega (arith, once (suc other) there)))

pub present_mapped : {A B : Type 0} (f : A → B) (items : List (Option A)) → present (map (option_map f) items) ≡ map f (present items)
present_mapped f [] = refl
present_mapped f (None ∷ items) = present_mapped f items
present_mapped f (Some item ∷ items) = ap (λ rest. f item ∷ rest) (present_mapped f items)

-- a list without gaps
pub present_all : {A : Type 0} (items : List A) → present (map Some items) ≡ items
present_all [] = refl
present_all (item ∷ items) = ap (λ rest. item ∷ rest) (present_all items)

-- what stands at a place of one
there_in : {A : Type 0} (items : List A) (place : ℕ) (item : A) → slice_get items place ≡ Some item → slice_get (map Some items) place ≡ Some (Some item)
there_in [] place item is = absurd (none-some _ is)
there_in {A = A} (first ∷ items) zero item is = ap (λ (x : Option A). Some x) is
there_in (first ∷ items) (suc place) item is = there_in items place item is

from_there : {A : Type 0} (items : List A) (place : ℕ) (item : A) → slice_get (map Some items) place ≡ Some (Some item) → slice_get items place ≡ Some item
from_there [] place item is = absurd (none-some _ is)
from_there (first ∷ items) zero item is = same_Some _ _ is
from_there (first ∷ items) (suc place) item is = from_there items place item is

within_list : {A : Type 0} (items : List A) (one other : ℕ) (item : A) → slice_get items one ≡ Some item → slice_get items other ≡ None → one < other
within_list [] one other item is past = absurd (none-some _ is)
within_list (first ∷ items) one zero item is past = absurd (none-some _ (sym past))
within_list (first ∷ items) zero (suc other) item is past = omega arith
within_list (first ∷ items) (suc one) (suc other) item is past = omega (arith, within_list items one other item is past)

-- numbers that were each noted at its place in a list without gaps
pub noted : (places numbers : List ℕ) (end : ℕ) → IsNumbering numbers → length numbers ≡ length places → slice_get numbers end ≡ None
    → ((place number : ℕ) → place < end → slice_get numbers place ≡ Some number → slice_index_or places number 0 ≡ place)
    → IsStanding places (map Some numbers)
noted places numbers end numbering count past done = record {
  count = ap length (present_all numbers) ∙ count;
  there = λ number less.
      let at = numbering.all number (omega (arith, less, count)) in
      subst (λ place. slice_get (map Some numbers) place ≡ Some (Some number))
      (sym (done at.0 number (within_list numbers at.0 end number at.1 past) at.1)) (there_in numbers at.0 number at.1);
  back = λ place number is.
      let at : slice_get numbers place ≡ Some number = from_there numbers place number is in
      (omega (arith, numbering.small place number at, count), done place number (within_list numbers place end number at past) at);
}

-- closing the gaps changes nothing of what is there
pub present_closed : {A : Type 0} (order closed : List (Option A)) → closed ≡ map Some (present order) → present closed ≡ present order
present_closed order closed is = ap present is ∙ present_all (present order)

-- what stands in a list in which one thing was exchanged
pub got_set : {A : Type 0} (items : List A) (place : ℕ) (new old : A) → slice_get items place ≡ Some old
    → slice_get (slice_set items place new) place ≡ Some new
got_set [] place new old is = absurd (none-some _ is)
got_set (first ∷ items) zero new old is = refl
got_set (first ∷ items) (suc place) new old is = got_set items place new old is

pub got_other : {A : Type 0} (items : List A) (place other : ℕ) (new : A) → (other ≡ place → ⊥)
    → slice_get (slice_set items place new) other ≡ slice_get items other
got_other [] place other new apart = refl
got_other (first ∷ items) zero zero new apart = absurd (apart refl)
got_other (first ∷ items) zero (suc other) new apart = refl
got_other (first ∷ items) (suc place) zero new apart = refl
got_other (first ∷ items) (suc place) (suc other) new apart = got_other items place other new (λ same. apart (ap suc same))

-- a gap is one thing less, an exchange none
pub gap_counts : {A : Type 0} (order : List (Option A)) (place : ℕ) (item : A) → slice_get order place ≡ Some (Some item)
    → suc (length (present (slice_set order place None))) ≡ length (present order)
gap_counts [] place item is = absurd (none-some _ is)
gap_counts (None ∷ order) zero item is = absurd (none-some _ (same_Some _ _ is))
gap_counts (None ∷ order) (suc place) item is = gap_counts order place item is
gap_counts (Some first ∷ order) zero item is = refl
gap_counts (Some first ∷ order) (suc place) item is = ap suc (gap_counts order place item is)

pub set_counts : {A : Type 0} (order : List (Option A)) (place : ℕ) (item other : A) → slice_get order place ≡ Some (Some item)
    → length (present (slice_set order place (Some other))) ≡ length (present order)
set_counts [] place item other is = absurd (none-some _ is)
set_counts (None ∷ order) zero item other is = absurd (none-some _ (same_Some _ _ is))
set_counts (None ∷ order) (suc place) item other is = set_counts order place item other is
set_counts (Some first ∷ order) zero item other is = refl
set_counts (Some first ∷ order) (suc place) item other is = ap suc (set_counts order place item other is)
