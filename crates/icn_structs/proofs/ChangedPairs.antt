-- Pairs that come, change and go, in the order of their numbers.
use Rattle.std.proofs.Common.{arith, ◌≡◌, ◌<◌, ◌≤◌, ◌+◌, ◌-◌, ◌⊎◌, ◌++◌, ◌==◌, ℕ, zero, suc, refl, sym, ap, subst, ◌∙◌, List, [], ◌∷◌, length, map, filter, take, not, Bool, true, false, if◌then◌else◌, slice_get, slice_set, slice_index_or, swap_remove, Option, Some, None, true≢false, inl, inr}
use Rattle.std.proofs.lemmas.Bool.{cases_lt, eq-eqb, ne_eqb}
use Rattle.std.proofs.lemmas.Option.{none-some, same_Some, slice_get-get_or}
use Rattle.std.proofs.lemmas.Map.Keys.{IsDistinct-head, IsDistinct-tail, IsDistinct-cons}
use Rattle.std.specs.Cmp.{IsEquivalence}
use Rattle.std.specs.List.{IsDistinct, AllByRecursion}
use Rattle.std.specs.Map.{keys_of, lookup}
use Rattle.icn_structs.specs.PairLists.{with_value_of, without, KeysDiffer}
use Rattle.icn_structs.specs.Turns.{in_order, HasTurns, renamed, without_number}
use Rattle.icn_structs.proofs.StandingNumbers.{got_set, got_other, let_through, passed_over}
use Rattle.icn_structs.proofs.MovedNumbers.{got_in_front, got_last, same_or_not}
use Rattle.icn_structs.proofs.OrderedPairs.{Once, found_later, other_fails, step_some, step_none, same_order, in_order_append, none_passes, nowhere}

module _ {K V : Type 0} (eq : K → K → Bool) (key : K) (value : V) where
  stored_first : (pair : K × V) (pairs : List (K × V)) → eq key pair.0 ≡ true → with_value_of eq (pair ∷ pairs) key value ≡ (pair.0, value) ∷ pairs
  stored_first pair pairs is = ap (λ b. if b then (pair.0, value) ∷ pairs else pair ∷ with_value_of eq pairs key value) is

  stored_later : (pair : K × V) (pairs : List (K × V)) → eq key pair.0 ≡ false
      → with_value_of eq (pair ∷ pairs) key value ≡ pair ∷ with_value_of eq pairs key value
  stored_later pair pairs is = ap (λ b. if b then (pair.0, value) ∷ pairs else pair ∷ with_value_of eq pairs key value) is

  -- a key that is not there goes last
  pub stored_last : (pairs : List (K × V)) → lookup (eq key) pairs ≡ None → with_value_of eq pairs key value ≡ pairs ++ (key, value) ∷ []
  stored_last [] none = refl
  stored_last (first ∷ pairs) none =
      let fails = none_passes (eq key) (first ∷ pairs) none 0 first refl in
      stored_later first pairs fails ∙ ap (λ rest. first ∷ rest) (stored_last pairs (sym (found_later (eq key) first pairs fails) ∙ none))

  -- a pair that comes last, in the order
  pub comes_in_order : (pairs : List (K × V)) (numbers : List ℕ) → HasTurns (K × V) pairs numbers → lookup (eq key) pairs ≡ None
      → in_order (pairs ++ (key, value) ∷ []) (numbers ++ length numbers ∷ []) ≡ with_value_of eq (in_order pairs numbers) key value
  comes_in_order pairs numbers turns none =
      in_order_append (pairs ++ (key, value) ∷ []) numbers (length numbers ∷ [])
      ∙ ap (λ rest. in_order (pairs ++ (key, value) ∷ []) numbers ++ rest)
      (step_some (pairs ++ (key, value) ∷ []) (length numbers) [] (key, value)
      (ap (slice_get (pairs ++ (key, value) ∷ [])) (sym turns.count) ∙ got_last pairs (key, value)))
      ∙ ap (λ xs. xs ++ (key, value) ∷ []) (sym kept)
      ∙ sym (stored_last (in_order pairs numbers) (nowhere (eq key) pairs numbers (none_passes (eq key) pairs none)))
    where
      kept : in_order pairs numbers ≡ in_order (pairs ++ (key, value) ∷ []) numbers
      kept = same_order pairs (pairs ++ (key, value) ∷ []) numbers numbers refl (λ place number other is also.
          let same : number ≡ other = same_Some _ _ (sym is ∙ also) in
          let less : number < length pairs = omega (arith, turns.numbering.small place number is, turns.count) in
          slice_get-get_or pairs number (key, value) less
          ∙ sym (ap (slice_get (pairs ++ (key, value) ∷ [])) (sym same)
          ∙ got_in_front pairs number _ (key, value) (slice_get-get_or pairs number (key, value) less)))

  module _ (number : ℕ) where
    -- what stands where once a key that is there is stored again
    pub record IsStoredAt (pairs : List (K × V)) (pair : K × V) : Type 0 where
      pub at : slice_get (with_value_of eq pairs key value) number ≡ Some (pair.0, value)
      pub others : (other : ℕ) → (other ≡ number → ⊥) → slice_get (with_value_of eq pairs key value) other ≡ slice_get pairs other

  pub stored_at : (pairs : List (K × V)) (number : ℕ) (pair : K × V) → slice_get pairs number ≡ Some pair → eq key pair.0 ≡ true → Once (eq key) pairs number
      → IsStoredAt number pairs pair
  stored_at [] number pair held passes once = absurd (none-some _ held)
  stored_at (first ∷ pairs) zero pair held passes once =
      let same : first ≡ pair = same_Some _ _ held in
      let stored = stored_first first pairs (ap (λ (x : K × V). eq key x.0) same ∙ passes) in
      record {
        at = ap (λ list. slice_get list 0) stored ∙ ap (λ (x : K × V). Some (x.0, value)) same;
        others = λ other apart. behind stored other apart;
      }
    where
      behind : with_value_of eq (first ∷ pairs) key value ≡ (first.0, value) ∷ pairs → (other : ℕ) → (other ≡ 0 → ⊥)
          → slice_get (with_value_of eq (first ∷ pairs) key value) other ≡ slice_get (first ∷ pairs) other
      behind stored zero apart = absurd (apart refl)
      behind stored (suc other) apart = ap (λ list. slice_get list (suc other)) stored
  stored_at (first ∷ pairs) (suc number) pair held passes once =
      let fails : eq key first.0
      ≡ false = other_fails (eq key) (first ∷ pairs) (suc number) pair held passes once 0 first refl (λ same. absurd (omega (arith, same))) in
      let stored = stored_later first pairs fails in
      let later = stored_at pairs number pair held passes (λ other x is t. omega (arith, once (suc other) x is t)) in
      record {
        at = ap (λ list. slice_get list (suc number)) stored ∙ later.at;
        others = λ other apart. by stored (λ n a. later.others n a) other apart;
      }
    where
      by : with_value_of eq (first ∷ pairs) key value ≡ first ∷ with_value_of eq pairs key value
          → ((n : ℕ) → (n ≡ number → ⊥) → slice_get (with_value_of eq pairs key value) n ≡ slice_get pairs n) → (other : ℕ) → (other ≡ suc number → ⊥)
          → slice_get (with_value_of eq (first ∷ pairs) key value) other ≡ slice_get (first ∷ pairs) other
      by stored later zero apart = ap (λ list. slice_get list 0) stored
      by stored later (suc other) apart = ap (λ list. slice_get list (suc other)) stored ∙ later other (λ same. apart (ap suc same))

  -- a key that is there is stored again, in the order
  pub changes_in_order : (pairs changed : List (K × V)) (number : ℕ) (pair : K × V) → slice_get pairs number ≡ Some pair → eq key pair.0 ≡ true
      → Once (eq key) pairs number → slice_get changed number ≡ Some (pair.0, value)
      → ((other : ℕ) → (other ≡ number → ⊥) → slice_get changed other ≡ slice_get pairs other)
      → (numbers : List ℕ) (place : ℕ) → slice_get numbers place ≡ Some number
      → ((other : ℕ) → slice_get numbers other ≡ Some number → other ≡ place)
      → in_order changed numbers ≡ with_value_of eq (in_order pairs numbers) key value
  changes_in_order pairs changed number pair held passes once at others [] place is only = absurd (none-some _ is)
  changes_in_order pairs changed number pair held passes once at others (n ∷ numbers) place is only =
      by (same_or_not n number) place is only (λ p there o. changes_in_order pairs changed number pair held passes once at others numbers p there o)
    where
      by : (n ≡ number) ⊎ (n ≡ number → ⊥) → (p : ℕ) → slice_get (n ∷ numbers) p ≡ Some number
          → ((other : ℕ) → slice_get (n ∷ numbers) other ≡ Some number → other ≡ p)
          → ((q : ℕ) → slice_get numbers q ≡ Some number → ((other : ℕ) → slice_get numbers other ≡ Some number → other ≡ q)
          → in_order changed numbers ≡ with_value_of eq (in_order pairs numbers) key value)
          → in_order changed (n ∷ numbers) ≡ with_value_of eq (in_order pairs (n ∷ numbers)) key value
      by (inl same) p there o later =
          step_some changed n numbers (pair.0, value) (ap (slice_get changed) same ∙ at)
          ∙ ap (λ rest. (pair.0, value) ∷ rest) (same_order changed pairs numbers numbers refl (λ q m other one also.
          let equal : m ≡ other = same_Some _ _ (sym one ∙ also) in
          others m (λ hit. absurd (omega (arith, o (suc q) (one ∙ ap (λ (x : ℕ). Some x) hit), o 0 (ap (λ (x : ℕ). Some x) same))))
          ∙ ap (slice_get pairs) equal))
          ∙ sym (ap (λ xs. with_value_of eq xs key value) (step_some pairs n numbers pair (ap (slice_get pairs) same ∙ held))
          ∙ stored_first pair (in_order pairs numbers) passes)
      by (inr apart) zero there o later = absurd (apart (same_Some _ _ there))
      by (inr apart) (suc p) there o later = passed (slice_get pairs n) refl (later p there (λ q hit. omega (arith, o (suc q) hit)))
        where
          passed : (other : Option (K × V)) → slice_get pairs n ≡ other → in_order changed numbers ≡ with_value_of eq (in_order pairs numbers) key value
              → in_order changed (n ∷ numbers) ≡ with_value_of eq (in_order pairs (n ∷ numbers)) key value
          passed None none rest =
              step_none changed n numbers (others n apart ∙ none) ∙ rest
              ∙ sym (ap (λ xs. with_value_of eq xs key value) (step_none pairs n numbers none))
          passed (Some other) some rest =
              step_some changed n numbers other (others n apart ∙ some) ∙ ap (λ xs. other ∷ xs) rest
              ∙ sym (ap (λ xs. with_value_of eq xs key value) (step_some pairs n numbers other some)
              ∙ stored_later other (in_order pairs numbers) (other_fails (eq key) pairs number pair held passes once n other some apart))

-- A pair goes, and the last one takes its number

got_taken : {A : Type 0} (things : List A) (n place : ℕ) → place < n → slice_get (take n things) place ≡ slice_get things place
got_taken [] zero place less = absurd (omega (arith, less))
got_taken [] (suc n) place less = refl
got_taken (first ∷ things) zero place less = absurd (omega (arith, less))
got_taken (first ∷ things) (suc n) zero less = refl
got_taken (first ∷ things) (suc n) (suc place) less = got_taken things n place (omega (arith, less))

-- what stands where once the last thing took the place of another
pub moved_last : {A : Type 0} (things : List A) (number : ℕ) (default : A) → number < length things - 1
    → slice_get (swap_remove things number default) number ≡ slice_get things (length things - 1)
moved_last things number default less =
    let last : slice_get things (length things - 1) ≡ Some (slice_index_or things (length things - 1) default) =
    slice_get-get_or things (length things - 1) default (omega (arith, less)) in
    got_taken (slice_set things number (slice_index_or things (length things - 1) default)) (length things - 1) number less
    ∙ got_set things number (slice_index_or things (length things - 1) default) _ (slice_get-get_or things number default (omega (arith, less)))
    ∙ sym last

pub moved_none : {A : Type 0} (things : List A) (number other : ℕ) (default : A) → (other ≡ number → ⊥) → other < length things - 1
    → slice_get (swap_remove things number default) other ≡ slice_get things other
moved_none things number other default apart less =
    got_taken (slice_set things number (slice_index_or things (length things - 1) default)) (length things - 1) other less
    ∙ got_other things number other (slice_index_or things (length things - 1) default) apart

pub mapped_at : {A B : Type 0} (f : A → B) (xs : List A) (place : ℕ) (x : A) → slice_get xs place ≡ Some x → slice_get (map f xs) place ≡ Some (f x)
mapped_at f [] place x is = absurd (none-some _ is)
mapped_at {B = B} f (first ∷ xs) zero x is = ap (λ y. Some (f y)) (same_Some _ _ is)
mapped_at f (first ∷ xs) (suc place) x is = mapped_at f xs place x is

-- what a filter lets through
record IsLetThrough (numbers : List ℕ) (number kept : ℕ) : Type 0 where
  place : ℕ
  is : slice_get numbers place ≡ Some kept
  apart : kept ≡ number → ⊥

let_through_at : (numbers : List ℕ) (number place kept : ℕ) → slice_get (filter (λ n. not (n == number)) numbers) place ≡ Some kept
    → IsLetThrough numbers number kept
let_through_at [] number place kept is = absurd (none-some _ is)
let_through_at (n ∷ numbers) number place kept is =
    by (same_or_not n number) place is (λ p at. let_through_at numbers number p kept at)
  where
    behind : IsLetThrough numbers number kept → IsLetThrough (n ∷ numbers) number kept
    behind later = record { place = suc later.place; is = later.is; apart = later.apart }

    by : (n ≡ number) ⊎ (n ≡ number → ⊥) → (p : ℕ) → slice_get (filter (λ m. not (m == number)) (n ∷ numbers)) p ≡ Some kept
        → ((q : ℕ) → slice_get (filter (λ m. not (m == number)) numbers) q ≡ Some kept → IsLetThrough numbers number kept)
        → IsLetThrough (n ∷ numbers) number kept
    by (inl same) p at later =
        behind (later p (sym (ap (λ xs. slice_get xs p) (passed_over (λ m. not (m == number)) n numbers (ap not (eq-eqb n number same)))) ∙ at))
    by (inr apart) p at later =
        first p (sym (ap (λ xs. slice_get xs p) (let_through (λ m. not (m == number)) n numbers (ap not (ne_eqb n number apart)))) ∙ at)
      where
        first : (q : ℕ) → slice_get (n ∷ filter (λ m. not (m == number)) numbers) q ≡ Some kept → IsLetThrough (n ∷ numbers) number kept
        first zero there =
            let same : n ≡ kept = same_Some _ _ there in
            record { place = 0; is = there; apart = λ equal. apart (same ∙ equal) }
        first (suc q) there = behind (later q there)

pub length_mapped : {A B : Type 0} (f : A → B) (xs : List A) → length xs ≡ length (map f xs)
length_mapped f [] = refl
length_mapped f (x ∷ xs) = ap suc (length_mapped f xs)

strictly : (m n : ℕ) → m ≤ n → (m ≡ n → ⊥) → m < n
strictly m n most apart = choose (cases_lt m n)
  where
    choose : (m < n) ⊎ (n ≤ m) → m < n
    choose (inl smaller) = smaller
    choose (inr greater) = absurd (apart (omega (arith, most, greater)))

module _ {A : Type 0} (things : List A) (numbers : List ℕ) (turns : HasTurns A things numbers) (number : ℕ) (less : number < length things) (default : A) where
  -- the order without one number, over the things with the last one in its place
  pub renumbered_order : in_order (swap_remove things number default) (without_number number numbers)
      ≡ in_order things (filter (λ n. not (n == number)) numbers)
  renumbered_order =
      sym (same_order things (swap_remove things number default) (filter (λ n. not (n == number)) numbers) (without_number number numbers)
      (length_mapped (renamed (length numbers - 1) number) (filter (λ n. not (n == number)) numbers))
      (λ place one other is also. by place one other is also))
    where
      last : ℕ
      last = length numbers - 1

      by : (place one other : ℕ) → slice_get (filter (λ n. not (n == number)) numbers) place ≡ Some one
          → slice_get (map (renamed (length numbers - 1) number) (filter (λ n. not (n == number)) numbers)) place ≡ Some other
          → slice_get things one ≡ slice_get (swap_remove things number default) other
      by place one other is also =
          let kept = let_through_at numbers number place one is in
          let named : renamed (length numbers - 1) number one ≡ other =
          same_Some _ _ (sym (mapped_at (renamed (length numbers - 1) number) (filter (λ n. not (n == number)) numbers) place one is) ∙ also) in
          at kept.place kept.is kept.apart named (same_or_not one (length numbers - 1))
        where
          at : (q : ℕ) → slice_get numbers q ≡ Some one → (one ≡ number → ⊥) → renamed (length numbers - 1) number one ≡ other
              → (one ≡ length numbers - 1) ⊎ (one ≡ length numbers - 1 → ⊥) → slice_get things one ≡ slice_get (swap_remove things number default) other
          at q held apart named (inl same) =
              let to : number ≡ other = sym (ap (λ b. if b then number else one) (eq-eqb one (length numbers - 1) same)) ∙ named in
              let before : number < length things - 1 = strictly number (length things - 1) (omega (arith, less))
              (λ hit. apart (same ∙ ap (λ n. n - 1) (sym turns.count) ∙ sym hit)) in
              ap (slice_get things) (same ∙ ap (λ n. n - 1) (sym turns.count)) ∙ sym (moved_last things number default before)
              ∙ ap (slice_get (swap_remove things number default)) to
          at q held apart named (inr away) =
              let to : one ≡ other = sym (ap (λ b. if b then number else one) (ne_eqb one (length numbers - 1) away)) ∙ named in
              let small : one < length numbers = turns.numbering.small q one held in
              let before : one < length things - 1 =
              strictly one (length things - 1) (omega (arith, small, turns.count)) (λ hit. away (hit ∙ ap (λ n. n - 1) turns.count)) in
              sym (moved_none things number one default apart before) ∙ ap (slice_get (swap_remove things number default)) to

-- Keys that differ

-- what holds of all keys holds of that of a pair
key_at : {K V : Type 0} (P : K → Type 0) (pairs : List (K × V)) → AllByRecursion P (keys_of pairs) → (number : ℕ) (pair : K × V)
    → slice_get pairs number ≡ Some pair → P pair.0
key_at P [] all number pair is = absurd (none-some _ is)
key_at {K = K} {V = V} P (first ∷ pairs) all zero pair is = subst (λ (x : K × V). P x.0) (same_Some _ _ is) all.0
key_at P (first ∷ pairs) all (suc number) pair is = key_at P pairs all.1 number pair is

module _ {K V : Type 0} (eq : K → K → Bool) (laws : IsEquivalence eq) where
  -- of keys that differ one alone is equal to a key
  pub once_key : (key : K) (pairs : List (K × V)) → KeysDiffer eq pairs → (number : ℕ) (pair : K × V) → slice_get pairs number ≡ Some pair
      → eq key pair.0 ≡ true → Once (eq key) pairs number
  once_key key [] differ number pair held passes other x is t = absurd (none-some _ held)
  once_key key (first ∷ pairs) differ zero pair held passes zero x is t = refl
  once_key key (first ∷ pairs) differ zero pair held passes (suc other) x is t =
      let apart : eq first.0 x.0 ≡ false = key_at (λ y. eq first.0 y ≡ false) pairs (IsDistinct-head eq first.0 (keys_of pairs) differ) other x is in
      let same : first ≡ pair = same_Some _ _ held in
      absurd (true≢false (sym t ∙ laws.congr key first.0 x.0 (ap (λ (y : K × V). eq key y.0) same ∙ passes) ∙ apart))
  once_key key (first ∷ pairs) differ (suc number) pair held passes zero x is t =
      let apart : eq first.0 pair.0 ≡ false = key_at (λ y. eq first.0 y ≡ false) pairs (IsDistinct-head eq first.0 (keys_of pairs) differ) number pair held in
      let same : first ≡ x = same_Some _ _ is in
      absurd (true≢false (sym passes ∙ laws.congr key first.0 pair.0 (ap (λ (y : K × V). eq key y.0) same ∙ t) ∙ apart))
  once_key key (first ∷ pairs) differ (suc number) pair held passes (suc other) x is t =
      ap suc (once_key key pairs (IsDistinct-tail eq first.0 (keys_of pairs) differ) number pair held passes other x is t)

  none_differ : (pairs : List (K × V)) → KeysDiffer eq pairs → IsDistinct eq []
  none_differ [] differ = differ
  none_differ (first ∷ pairs) differ = none_differ pairs (IsDistinct-tail eq first.0 (keys_of pairs) differ)

  -- in any order of the numbers keys differ
  module _ (pairs : List (K × V)) (differ : KeysDiffer eq pairs) where
    apart_from : (number : ℕ) (pair : K × V) → slice_get pairs number ≡ Some pair → (numbers : List ℕ)
        → ((place : ℕ) → slice_get numbers place ≡ Some number → ⊥) → AllByRecursion (λ y. eq pair.0 y ≡ false) (keys_of (in_order pairs numbers))
    apart_from number pair held [] none = tt
    apart_from number pair held (n ∷ numbers) none =
        by (slice_get pairs n) refl (apart_from number pair held numbers (λ place is. none (suc place) is))
      where
        by : (other : Option (K × V)) → slice_get pairs n ≡ other → AllByRecursion (λ y. eq pair.0 y ≡ false) (keys_of (in_order pairs numbers))
            → AllByRecursion (λ y. eq pair.0 y ≡ false) (keys_of (in_order pairs (n ∷ numbers)))
        by None is later = subst (λ xs. AllByRecursion (λ y. eq pair.0 y ≡ false) (keys_of xs)) (sym (step_none pairs n numbers is)) later
        by (Some other) is later =
            subst (λ xs. AllByRecursion (λ y. eq pair.0 y ≡ false) (keys_of xs)) (sym (step_some pairs n numbers other is)) (
              other_fails (eq pair.0) pairs number pair held (laws.refl pair.0) (once_key pair.0 pairs differ number pair held (laws.refl pair.0)) n other is
                  (λ same. none 0 (ap (λ (m : ℕ). Some m) same)),
              later,
            )

    pub differ_in_order : (numbers : List ℕ)
        → ((one other number : ℕ) → slice_get numbers one ≡ Some number → slice_get numbers other ≡ Some number → one ≡ other)
        → KeysDiffer eq (in_order pairs numbers)
    differ_in_order [] once = none_differ pairs differ
    differ_in_order (n ∷ numbers) once =
        by (slice_get pairs n) refl (differ_in_order numbers (λ one other number a b. omega (arith, once (suc one) (suc other) number a b)))
      where
        by : (held : Option (K × V)) → slice_get pairs n ≡ held → KeysDiffer eq (in_order pairs numbers) → KeysDiffer eq (in_order pairs (n ∷ numbers))
        by None is later = subst (KeysDiffer eq) (sym (step_none pairs n numbers is)) later
        by (Some pair) is later =
            subst (KeysDiffer eq) (sym (step_some pairs n numbers pair is))
            (IsDistinct-cons eq pair.0 (keys_of (in_order pairs numbers))
            (apart_from n pair is numbers (λ place there. absurd (omega (arith, once 0 (suc place) n refl there)))) later)
