-- Pairs in the order in which their numbers stand.
use Rattle.std.proofs.Common.{arith, ◌≡◌, ◌<◌, ◌+◌, ◌-◌, ◌⊎◌, ◌++◌, ◌==◌, ℕ, zero, suc, refl, sym, ap, ◌∙◌, List, [], ◌∷◌, length, filter, not, Bool, true, false, if◌then◌else◌, slice_get, option_to_list, Option, Some, None, inl, inr}
use Rattle.std.proofs.lemmas.Bool.{eq-eqb, ne_eqb}
use Rattle.std.proofs.lemmas.Option.{none-some, same_Some}
use Rattle.std.proofs.lemmas.List.{append_assoc}
use Rattle.std.specs.Map.{lookup, remove_entry}
use Rattle.icn_structs.specs.Turns.{in_order, renamed}
use Rattle.icn_structs.proofs.StandingNumbers.{let_through, passed_over}
use Rattle.icn_structs.proofs.MovedNumbers.{same_or_not}

-- What stands at a number

-- a thing of a list by its number
record Held (A : Type 0) (things : List A) (number : ℕ) : Type 0 where
  thing : A
  is : slice_get things number ≡ Some thing

held_at : {A : Type 0} (things : List A) (number : ℕ) → number < length things → Held A things number
held_at [] number less = absurd (omega (arith, less))
held_at (first ∷ things) zero less = record { thing = first; is = refl }
held_at (first ∷ things) (suc number) less =
    let later = held_at things number (omega (arith, less)) in
    record { thing = later.thing; is = later.is }

-- where a number is not, no one goes
pub all_kept : (numbers : List ℕ) (number : ℕ) → ((place : ℕ) → slice_get numbers place ≡ Some number → ⊥) → filter (λ n. not (n == number)) numbers ≡ numbers
all_kept [] number none = refl
all_kept (n ∷ numbers) number none =
    let_through (λ m. not (m == number)) n numbers (ap not (ne_eqb n number (λ same. none 0 (ap (λ (m : ℕ). Some m) same))))
    ∙ ap (λ rest. n ∷ rest) (all_kept numbers number (λ place is. none (suc place) is))

-- in order, one after the other
pub step_some : {A : Type 0} (things : List A) (number : ℕ) (numbers : List ℕ) (thing : A) → slice_get things number ≡ Some thing
    → in_order things (number ∷ numbers) ≡ thing ∷ in_order things numbers
step_some things number numbers thing is = ap (λ held. option_to_list held ++ in_order things numbers) is

pub step_none : {A : Type 0} (things : List A) (number : ℕ) (numbers : List ℕ) → slice_get things number ≡ None
    → in_order things (number ∷ numbers) ≡ in_order things numbers
step_none things number numbers is = ap (λ held. option_to_list held ++ in_order things numbers) is

-- the same things in the same order
pub same_order : {A : Type 0} (things others : List A) (numbers renumbered : List ℕ) → length numbers ≡ length renumbered
    → ((place number renamed : ℕ) → slice_get numbers place ≡ Some number → slice_get renumbered place ≡ Some renamed
    → slice_get things number ≡ slice_get others renamed)
    → in_order things numbers ≡ in_order others renumbered
same_order things others [] [] same holds = refl
same_order things others [] (n ∷ renumbered) same holds = absurd (omega (arith, same))
same_order things others (n ∷ numbers) [] same holds = absurd (omega (arith, same))
same_order things others (n ∷ numbers) (m ∷ renumbered) same holds =
    ap (λ held. option_to_list held ++ in_order things numbers) (holds 0 n m refl refl)
    ∙ ap (λ rest. option_to_list (slice_get others m) ++ rest)
    (same_order things others numbers renumbered (omega (arith, same)) (λ place number renamed one other. holds (suc place) number renamed one other))

-- what stands at the places of such a list
pub in_order_at : {A : Type 0} (things : List A) (numbers : List ℕ) → ((place number : ℕ) → slice_get numbers place ≡ Some number → number < length things)
    → (place number : ℕ) (thing : A) → slice_get numbers place ≡ Some number → slice_get things number ≡ Some thing
    → slice_get (in_order things numbers) place ≡ Some thing
in_order_at things [] small place number thing is held = absurd (none-some _ is)
in_order_at things (n ∷ numbers) small zero number thing is held =
    ap (λ list. slice_get list 0) (step_some things n numbers thing (ap (slice_get things) (same_Some _ _ is) ∙ held))
in_order_at {A = A} things (n ∷ numbers) small (suc place) number thing is held =
    let first : Held A things n = held_at things n (small 0 n refl) in
    ap (λ list. slice_get list (suc place)) (step_some things n numbers first.thing first.is)
    ∙ in_order_at things numbers (λ p m at. small (suc p) m at) place number thing is held

pub in_order_length : {A : Type 0} (things : List A) (numbers : List ℕ) → ((place number : ℕ) → slice_get numbers place ≡ Some number → number < length things)
    → length (in_order things numbers) ≡ length numbers
in_order_length things [] small = refl
in_order_length {A = A} things (n ∷ numbers) small =
    let first : Held A things n = held_at things n (small 0 n refl) in
    ap length (step_some things n numbers first.thing first.is) ∙ ap suc (in_order_length things numbers (λ p m at. small (suc p) m at))

pub in_order_append : {A : Type 0} (things : List A) (numbers more : List ℕ)
    → in_order things (numbers ++ more) ≡ in_order things numbers ++ in_order things more
in_order_append things [] more = refl
in_order_append things (n ∷ numbers) more =
    ap (λ rest. option_to_list (slice_get things n) ++ rest) (in_order_append things numbers more)
    ∙ sym (append_assoc (option_to_list (slice_get things n)) (in_order things numbers) (in_order things more))

-- Looking up

module _ {K V : Type 0} (test : K → Bool) where
  -- only the pair of one number passes the test
  abbrev pub Once : List (K × V) → ℕ → Type 0
  Once pairs number = (other : ℕ) (pair : K × V) → slice_get pairs other ≡ Some pair → test pair.0 ≡ true → other ≡ number

  pub found_first : (pair : K × V) (pairs : List (K × V)) → test pair.0 ≡ true → lookup test (pair ∷ pairs) ≡ Some pair.1
  found_first pair pairs is = ap (λ b. if b then Some pair.1 else lookup test pairs) is

  pub found_later : (pair : K × V) (pairs : List (K × V)) → test pair.0 ≡ false → lookup test (pair ∷ pairs) ≡ lookup test pairs
  found_later pair pairs is = ap (λ b. if b then Some pair.1 else lookup test pairs) is

  -- where nothing is found, no key passes
  pub none_passes : (pairs : List (K × V)) → lookup test pairs ≡ None → (number : ℕ) (pair : K × V) → slice_get pairs number ≡ Some pair → test pair.0 ≡ false
  none_passes [] none number pair is = absurd (none-some _ is)
  none_passes (first ∷ pairs) none number pair is = by (test first.0) refl (λ later n at. none_passes pairs later n pair at) number is
    where
      by : (b : Bool) → test first.0 ≡ b → (lookup test pairs ≡ None → (n : ℕ) → slice_get pairs n ≡ Some pair → test pair.0 ≡ false)
          → (n : ℕ) → slice_get (first ∷ pairs) n ≡ Some pair → test pair.0 ≡ false
      by true passes later n at = absurd (none-some _ (sym none ∙ found_first first pairs passes))
      by false fails later zero at = ap (λ (x : K × V). test x.0) (sym (same_Some _ _ at)) ∙ fails
      by false fails later (suc n) at = later (sym (found_later first pairs fails) ∙ none) n at

  -- nothing is found in any order where no key passes
  pub nowhere : (pairs : List (K × V)) (numbers : List ℕ)
      → ((number : ℕ) (pair : K × V) → slice_get pairs number ≡ Some pair → test pair.0 ≡ false) → lookup test (in_order pairs numbers) ≡ None
  nowhere pairs [] fails = refl
  nowhere pairs (n ∷ numbers) fails = by (slice_get pairs n) refl (nowhere pairs numbers fails)
    where
      by : (held : Option (K × V)) → slice_get pairs n ≡ held → lookup test (in_order pairs numbers) ≡ None → lookup test (in_order pairs (n ∷ numbers)) ≡ None
      by None is later = ap (lookup test) (step_none pairs n numbers is) ∙ later
      by (Some pair) is later =
          ap (lookup test) (step_some pairs n numbers pair is) ∙ found_later pair (in_order pairs numbers) (fails n pair is) ∙ later

  module _ (pairs : List (K × V)) (number : ℕ) (pair : K × V) (held : slice_get pairs number ≡ Some pair) (passes : test pair.0 ≡ true)
      (once : Once pairs number) where
    -- the pair of another number fails
    pub other_fails : (n : ℕ) (other : K × V) → slice_get pairs n ≡ Some other → (n ≡ number → ⊥) → test other.0 ≡ false
    other_fails n other is apart = by (test other.0) refl
      where
        by : (b : Bool) → test other.0 ≡ b → test other.0 ≡ false
        by true t = absurd (apart (once n other is t))
        by false f = f

    -- it is found in any order in which its number stands
    pub found_in_order : (numbers : List ℕ) (place : ℕ) → slice_get numbers place ≡ Some number → lookup test (in_order pairs numbers) ≡ Some pair.1
    found_in_order [] place is = absurd (none-some _ is)
    found_in_order (n ∷ numbers) place is = by (same_or_not n number) place is (λ p at. found_in_order numbers p at)
      where
        by : (n ≡ number) ⊎ (n ≡ number → ⊥) → (p : ℕ) → slice_get (n ∷ numbers) p ≡ Some number
            → ((q : ℕ) → slice_get numbers q ≡ Some number → lookup test (in_order pairs numbers) ≡ Some pair.1)
            → lookup test (in_order pairs (n ∷ numbers)) ≡ Some pair.1
        by (inl same) p at later =
            ap (lookup test) (step_some pairs n numbers pair (ap (slice_get pairs) same ∙ held)) ∙ found_first pair (in_order pairs numbers) passes
        by (inr apart) zero at later = absurd (apart (same_Some _ _ at))
        by (inr apart) (suc p) at later = passed (slice_get pairs n) refl (later p at)
          where
            passed : (other : Option (K × V)) → slice_get pairs n ≡ other → lookup test (in_order pairs numbers) ≡ Some pair.1
                → lookup test (in_order pairs (n ∷ numbers)) ≡ Some pair.1
            passed None is rest = ap (lookup test) (step_none pairs n numbers is) ∙ rest
            passed (Some other) is rest =
                ap (lookup test) (step_some pairs n numbers other is) ∙ found_later other (in_order pairs numbers) (other_fails n other is apart) ∙ rest

    -- it goes from an order as its number does
    pub removed_in_order : (numbers : List ℕ) (place : ℕ) → slice_get numbers place ≡ Some number
        → ((other : ℕ) → slice_get numbers other ≡ Some number → other ≡ place)
        → in_order pairs (filter (λ n. not (n == number)) numbers) ≡ remove_entry test (in_order pairs numbers)
    removed_in_order [] place is only = absurd (none-some _ is)
    removed_in_order (n ∷ numbers) place is only = by (same_or_not n number) place is only (λ p at o. removed_in_order numbers p at o)
      where
        kept : ℕ → Bool
        kept m = not (m == number)

        gone : (xs : List (K × V)) → test pair.0 ≡ true → remove_entry test (pair ∷ xs) ≡ xs
        gone xs t = ap (λ b. if b then xs else pair ∷ remove_entry test xs) t

        stays : (other : K × V) (xs : List (K × V)) → test other.0 ≡ false → remove_entry test (other ∷ xs) ≡ other ∷ remove_entry test xs
        stays other xs f = ap (λ b. if b then xs else other ∷ remove_entry test xs) f

        by : (n ≡ number) ⊎ (n ≡ number → ⊥) → (p : ℕ) → slice_get (n ∷ numbers) p ≡ Some number
            → ((other : ℕ) → slice_get (n ∷ numbers) other ≡ Some number → other ≡ p)
            → ((q : ℕ) → slice_get numbers q ≡ Some number → ((other : ℕ) → slice_get numbers other ≡ Some number → other ≡ q)
            → in_order pairs (filter (λ m. not (m == number)) numbers) ≡ remove_entry test (in_order pairs numbers))
            → in_order pairs (filter (λ m. not (m == number)) (n ∷ numbers)) ≡ remove_entry test (in_order pairs (n ∷ numbers))
        by (inl same) p at o later =
            ap (in_order pairs) (passed_over (λ m. not (m == number)) n numbers (ap not (eq-eqb n number same))
            ∙ all_kept numbers number (λ q there. absurd (omega (arith, o (suc q) there, o 0 (ap (λ (m : ℕ). Some m) same)))))
            ∙ sym (ap (remove_entry test) (step_some pairs n numbers pair (ap (slice_get pairs) same ∙ held)) ∙ gone (in_order pairs numbers) passes)
        by (inr apart) zero at o later = absurd (apart (same_Some _ _ at))
        by (inr apart) (suc p) at o later =
            ap (in_order pairs) (let_through (λ m. not (m == number)) n numbers (ap not (ne_eqb n number apart)))
            ∙ passed (slice_get pairs n) refl (later p at (λ q there. omega (arith, o (suc q) there)))
          where
            passed : (other : Option (K × V)) → slice_get pairs n ≡ other
                → in_order pairs (filter (λ m. not (m == number)) numbers) ≡ remove_entry test (in_order pairs numbers)
                → in_order pairs (n ∷ filter (λ m. not (m == number)) numbers) ≡ remove_entry test (in_order pairs (n ∷ numbers))
            passed None is rest =
                step_none pairs n (filter (λ m. not (m == number)) numbers) is ∙ rest ∙ sym (ap (remove_entry test) (step_none pairs n numbers is))
            passed (Some other) is rest =
                step_some pairs n (filter (λ m. not (m == number)) numbers) other is ∙ ap (λ xs. other ∷ xs) rest
                ∙ sym (ap (remove_entry test) (step_some pairs n numbers other is) ∙ stays other (in_order pairs numbers) (other_fails n other is apart))
