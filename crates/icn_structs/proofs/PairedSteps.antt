-- What calls find and leave of pairs that stand in the order of their numbers.
use Rattle.std.proofs.Common.{arith, ◌≡◌, ◌<◌, ◌≤◌, ◌+◌, ◌-◌, ◌++◌, ◌==◌, ℕ, zero, suc, refl, sym, ap, subst, ◌∙◌, List, [], ◌∷◌, length, filter, not, Bool, true, false, if◌then◌else◌, is_some, take, drop, option_to_list, slice_get, slice_index_or, slice_set, swap_remove, position, Option, Some, None, true≢false}
use Rattle.std.proofs.lemmas.Bool.{eq-eqb, ne_eqb}
use Rattle.std.proofs.lemmas.Option.{none-some, same_Some, slice_get_past, slice_get_within, slice_get-get_or, get_or_from_slice_get}
use Rattle.std.proofs.lemmas.List.Quantifiers.{position-Some}
use Rattle.std.proofs.lemmas.Map.Entries.{place_from_lookup}
use Rattle.std.specs.Cmp.{IsEquivalence}
use Rattle.std.specs.Map.{keys_of, lookup, remove_entry}
use Rattle.indexmap.specs.IndexMap.{insert_entry}
use Rattle.icn_structs.specs.PairLists.{value_of, with_value_of, without, KeysDiffer}
use Rattle.icn_structs.specs.TurnedPairs.{ArePaired}
use Rattle.icn_structs.specs.Turns.{in_order, without_number, renamed}
use Rattle.icn_structs.proofs.StandingNumbers.{let_through, passed_over}
use Rattle.icn_structs.proofs.OrderedPairs.{none_passes, nowhere, found_in_order, removed_in_order, in_order_at, in_order_length, all_kept}
use Rattle.icn_structs.proofs.ChangedPairs.{once_key, stored_at, changes_in_order, renumbered_order, differ_in_order, length_mapped, mapped_at}

-- nothing goes where nothing is found
none_removed : {K V : Type 0} (test : K → Bool) (pairs : List (K × V)) → lookup test pairs ≡ None → remove_entry test pairs ≡ pairs
none_removed test [] none = refl
none_removed test (first ∷ pairs) none = by (test first.0) refl (none_removed test pairs)
  where
    by : (b : Bool) → test first.0 ≡ b → (lookup test pairs ≡ None → remove_entry test pairs ≡ pairs) → remove_entry test (first ∷ pairs) ≡ first ∷ pairs
    by true passes later = absurd (none-some _ (sym none ∙ ap (λ b. if b then Some first.1 else lookup test pairs) passes))
    by false fails later =
        ap (λ b. if b then pairs else first ∷ remove_entry test pairs) fails
        ∙ ap (λ rest. first ∷ rest) (later (sym (ap (λ b. if b then Some first.1 else lookup test pairs) fails) ∙ none))

-- one that stands once is one less
kept_count : (numbers : List ℕ) (place number : ℕ) → slice_get numbers place ≡ Some number
    → ((other : ℕ) → slice_get numbers other ≡ Some number → other ≡ place) → suc (length (filter (λ n. not (n == number)) numbers)) ≡ length numbers
kept_count [] place number is only = absurd (none-some _ is)
kept_count (n ∷ numbers) zero number is only =
    ap (λ xs. suc (length xs)) (passed_over (λ m. not (m == number)) n numbers (ap not (eq-eqb n number (same_Some _ _ is)))
    ∙ all_kept numbers number (λ place there. absurd (omega (arith, only (suc place) there))))
kept_count (n ∷ numbers) (suc place) number is only =
    ap (λ xs. suc (length xs)) (let_through (λ m. not (m == number)) n numbers
    (ap not (ne_eqb n number (λ same. absurd (omega (arith, only 0 (ap (λ (m : ℕ). Some m) same)))))))
    ∙ ap suc (kept_count numbers place number is (λ other there. omega (arith, only (suc other) there)))

-- the pair of a number, whose key passes
pub record IsPassing {K V : Type 0} (test : K → Bool) (pairs : List (K × V)) (number : ℕ) : Type 0 where
  pub pair : K × V
  pub held : slice_get pairs number ≡ Some pair
  pub passes : test pair.0 ≡ true

pub position_at : {K V : Type 0} (test : K → Bool) (pairs : List (K × V)) (number : ℕ) → position test (keys_of pairs) ≡ Some number
    → IsPassing test pairs number
position_at test [] number is = absurd (none-some _ is)
position_at {K = K} {V = V} test (first ∷ pairs) number is =
    let facts = position-Some test (keys_of (first ∷ pairs)) number first.0 is in
    let less : number < length (first ∷ pairs) = subst (λ n. number < n) (sym (length_mapped (λ (e : K × V). e.0) (first ∷ pairs))) facts.0 in
    let held : slice_get (first ∷ pairs) number ≡ Some (slice_index_or (first ∷ pairs) number first) = slice_get-get_or (first ∷ pairs) number first less in
    record {
      pair = slice_index_or (first ∷ pairs) number first;
      held = held;
      passes = ap test (sym (get_or_from_slice_get (keys_of (first ∷ pairs)) number (slice_index_or (first ∷ pairs) number first).0 first.0
          (mapped_at (λ (e : K × V). e.0) (first ∷ pairs) number (slice_index_or (first ∷ pairs) number first) held))) ∙ facts.1;
    }

module _ {K V : Type 0} (eq : K → K → Bool) (laws : IsEquivalence eq) (pairs : List (K × V)) (numbers : List ℕ) (paired : ArePaired eq pairs numbers) where
  small : (place number : ℕ) → slice_get numbers place ≡ Some number → number < length pairs
  small place number is = omega (arith, paired.turns.numbering.small place number is, paired.turns.count)

  place_of : (number : ℕ) → number < length pairs → (place : ℕ) × (slice_get numbers place ≡ Some number)
  place_of number less = paired.turns.numbering.all number (omega (arith, less, paired.turns.count))

  only_at : (place number : ℕ) → slice_get numbers place ≡ Some number → (other : ℕ) → slice_get numbers other ≡ Some number → other ≡ place
  only_at place number is other there = paired.turns.numbering.once other place number there is

  -- a key's value
  pub looked : (key : K) → lookup (eq key) pairs ≡ value_of eq (in_order pairs numbers) key
  looked key = by (lookup (eq key) pairs) refl
    where
      by : (found : Option V) → lookup (eq key) pairs ≡ found → lookup (eq key) pairs ≡ value_of eq (in_order pairs numbers) key
      by None none = none ∙ sym (nowhere (eq key) pairs numbers (none_passes (eq key) pairs none))
      by (Some value) some =
          let at = place_from_lookup (eq key) pairs value some in
          let place = place_of at.0 (slice_get_within pairs at.0 (at.1, value) at.2) in
          some ∙ sym (found_in_order (eq key) pairs at.0 (at.1, value) at.2 at.3
          (once_key eq laws key pairs paired.differ at.0 (at.1, value) at.2 at.3) numbers place.0 place.1)

  -- a key that is there goes
  pub gone : (key : K) (number : ℕ) (default : K × V) → position (eq key) (keys_of pairs) ≡ Some number
      → in_order (swap_remove pairs number default) (without_number number numbers) ≡ without eq (in_order pairs numbers) key
  gone key number default is =
      let at = position_at (eq key) pairs number is in
      let less = slice_get_within pairs number at.pair at.held in
      let place = place_of number less in
      renumbered_order pairs numbers paired.turns number less default
      ∙ removed_in_order (eq key) pairs number at.pair at.held at.passes (once_key eq laws key pairs paired.differ number at.pair at.held at.passes)
      numbers place.0 place.1 (only_at place.0 number place.1)

  pub one_less : (number : ℕ) → number < length pairs → suc (length (without_number number numbers)) ≡ length numbers
  one_less number less =
      let place = place_of number less in
      ap suc (sym (length_mapped (renamed (length numbers - 1) number) (filter (λ n. not (n == number)) numbers)))
      ∙ kept_count numbers place.0 number place.1 (only_at place.0 number place.1)

  -- a key that is not there goes from nowhere
  pub not_there : (key : K) → lookup (eq key) pairs ≡ None → in_order pairs numbers ≡ without eq (in_order pairs numbers) key
  not_there key none = sym (none_removed (eq key) (in_order pairs numbers) (sym (looked key) ∙ none))

  -- a key that is there is stored again
  pub stored_again : (key : K) (value old : V) → lookup (eq key) pairs ≡ Some old
      → in_order (with_value_of eq pairs key value) numbers ≡ with_value_of eq (in_order pairs numbers) key value
  stored_again key value old some =
      let at = place_from_lookup (eq key) pairs old some in
      let once = once_key eq laws key pairs paired.differ at.0 (at.1, old) at.2 at.3 in
      let stored = stored_at eq key value pairs at.0 (at.1, old) at.2 at.3 once in
      let place = place_of at.0 (slice_get_within pairs at.0 (at.1, old) at.2) in
      changes_in_order eq key value pairs (with_value_of eq pairs key value) at.0 (at.1, old) at.2 at.3 once stored.at stored.others
      numbers place.0 place.1 (only_at place.0 at.0 place.1)

  pub keys_differ : KeysDiffer eq (in_order pairs numbers)
  keys_differ = differ_in_order eq laws pairs paired.differ numbers paired.turns.numbering.once

  pub pair_there : (place number : ℕ) (pair : K × V) → slice_get numbers place ≡ Some number → slice_get pairs number ≡ Some pair
      → slice_get (in_order pairs numbers) place ≡ Some pair
  pair_there place number pair is held = in_order_at pairs numbers small place number pair is held

  pub as_many : length (in_order pairs numbers) ≡ length numbers
  as_many = in_order_length pairs numbers small

-- what is no something is nothing
pub none_is : {A : Type 0} (held : Option A) → is_some held ≡ false → held ≡ None
none_is None no_one = refl
none_is (Some x) no_one = absurd (true≢false no_one)

taken_length : {A : Type 0} (things : List A) (n : ℕ) → n ≤ length things → length (take n things) ≡ n
taken_length things zero most = refl
taken_length [] (suc n) most = absurd (omega (arith, most))
taken_length (first ∷ things) (suc n) most = ap suc (taken_length things n (omega (arith, most)))

set_length : {A : Type 0} (things : List A) (number : ℕ) (thing : A) → length (slice_set things number thing) ≡ length things
set_length [] number thing = refl
set_length (first ∷ things) zero thing = refl
set_length (first ∷ things) (suc number) thing = ap suc (set_length things number thing)

-- where the last thing takes another's place, one is gone
pub moved_length : {A : Type 0} (things : List A) (number : ℕ) (default : A) → length (swap_remove things number default) ≡ length things - 1
moved_length things number default =
    taken_length (slice_set things number (slice_index_or things (length things - 1) default)) (length things - 1)
    (omega (arith, set_length things number (slice_index_or things (length things - 1) default)))

past_of : {A : Type 0} (things : List A) (place : ℕ) → slice_get things place ≡ None → length things ≤ place
past_of [] place none = omega arith
past_of (first ∷ things) zero none = absurd (none-some _ (sym none))
past_of (first ∷ things) (suc place) none = omega (arith, past_of things place none)

-- where the order ends, so do the pairs
pub no_pair : {K V : Type 0} (eq : K → K → Bool) (laws : IsEquivalence eq) (pairs : List (K × V)) (numbers : List ℕ) → ArePaired eq pairs numbers
    → (place : ℕ) → slice_get numbers place ≡ None → slice_get (in_order pairs numbers) place ≡ None
no_pair eq laws pairs numbers paired place none =
    slice_get_past (in_order pairs numbers) place (omega (arith, as_many eq laws pairs numbers paired, past_of numbers place none))

-- the map's word for a pair that is stored is ours
pub inserted : {K V : Type 0} (eq : K → K → Bool) (pairs : List (K × V)) (key : K) (value : V)
    → insert_entry eq pairs key value ≡ with_value_of eq pairs key value
inserted eq [] key value = refl
inserted eq (first ∷ pairs) key value =
    ap (λ rest. if eq key first.0 then (first.0, value) ∷ pairs else first ∷ rest) (inserted eq pairs key value)

-- what is something, by name
pub some_is : {A : Type 0} (held : Option A) → is_some held ≡ true → (x : A) × (held ≡ Some x)
some_is None no_one = absurd (true≢false (sym no_one))
some_is (Some x) some = (x, refl)

-- a list without its last thing
one_last : {A : Type 0} (things others : List A) (last other : A) → things ++ last ∷ [] ≡ others ++ other ∷ [] → others ≡ things
one_last [] [] last other same = refl
one_last [] (o ∷ []) last other same = absurd (omega (arith, ap length same))
one_last [] (o ∷ p ∷ others) last other same = absurd (omega (arith, ap length same))
one_last (t ∷ []) [] last other same = absurd (omega (arith, ap length same))
one_last (t ∷ u ∷ things) [] last other same = absurd (omega (arith, ap length same))
one_last (t ∷ things) (o ∷ others) last other same =
    ap (λ (x : _). x ∷ others) (ap (λ list. slice_index_or list 0 o) (sym same)) ∙ ap (λ rest. t ∷ rest) (one_last things others last other (ap (drop 1) same))

pub last_gone : {A : Type 0} (things others : List A) (last : A) (taken : Option A) → is_some taken ≡ true
    → things ++ last ∷ [] ≡ others ++ option_to_list taken → others ≡ things
last_gone things others last None no_one same = absurd (true≢false (sym no_one))
last_gone things others last (Some other) some same = one_last things others last other same

pub longer : {A : Type 0} (things : List A) (last : A) → length (things ++ last ∷ []) ≡ suc (length things)
longer [] last = refl
longer (first ∷ things) last = ap suc (longer things last)
