-- Values stay at their keys.
use Rattle.std.proofs.Common.{◌≡◌, Bool, true, false, List, [], ◌∷◌, Option, None, Some, if◌then◌else◌, refl, ap, sym, ◌∙◌, true≢false}
use Rattle.std.proofs.lemmas.Map.{lookup-remove_entry}
use Rattle.std.specs.Cmp.{IsEquivalence}
use Rattle.icn_structs.specs.PairLists.{value_of, with_value_of, without, KeysDiffer}

-- at the pair of the key that is stored, which other keys are equal to as they are to the key itself
here : {X : Type 0} (asked found : Bool) (new old rest : X) → found ≡ asked
    → (if found then new else rest) ≡ (if asked then new else (if found then old else rest))
here true true new old rest same = refl
here true false new old rest same = absurd (true≢false (sym same))
here false true new old rest same = absurd (true≢false same)
here false false new old rest same = refl

-- at the pair of another key, which no key is equal to that is equal to the stored one
elsewhere : {X : Type 0} (asked found : Bool) (new old rest : X) → (asked ≡ true → found ≡ false)
    → (if found then old else (if asked then new else rest)) ≡ (if asked then new else (if found then old else rest))
elsewhere true true new old rest apart = absurd (true≢false (apart refl))
elsewhere true false new old rest apart = refl
elsewhere false found new old rest apart = refl

module _ {K V : Type 0} (eq : K → K → Bool) (laws : IsEquivalence eq) (key other : K) where
  -- the value at the other key once the first pair's key was looked at
  step : (pair : K × V) (pairs : List (K × V)) (value : V) (b : Bool) → eq key pair.0 ≡ b
      → value_of eq (with_value_of eq pairs key value) other ≡ (if eq key other then Some value else value_of eq pairs other)
      → value_of eq (if b then (pair.0, value) ∷ pairs else pair ∷ with_value_of eq pairs key value) other
      ≡ (if eq key other then Some value else value_of eq (pair ∷ pairs) other)
  step pair pairs value true e later =
      here (eq key other) (eq other pair.0) (Some value) (Some pair.1) (value_of eq pairs other)
      (laws.symm other pair.0 ∙ sym (laws.congr key pair.0 other e))
  step pair pairs value false e later =
      ap (λ (rest : Option V). if eq other pair.0 then Some pair.1 else rest) later
      ∙ elsewhere (eq key other) (eq other pair.0) (Some value) (Some pair.1) (value_of eq pairs other)
      (λ same. sym (laws.congr key other pair.0 same) ∙ e)

  pub value_of-stored : (pairs : List (K × V)) (value : V)
      → value_of eq (with_value_of eq pairs key value) other ≡ (if eq key other then Some value else value_of eq pairs other)
  value_of-stored [] value = ap (λ (b : Bool). if b then Some value else None) (laws.symm other key)
  value_of-stored (pair ∷ pairs) value = step pair pairs value (eq key pair.0) refl (value_of-stored pairs value)

  pub value_of-without : (pairs : List (K × V)) → KeysDiffer eq pairs
      → value_of eq (without eq pairs key) other ≡ (if eq key other then None else value_of eq pairs other)
  value_of-without pairs differ = lookup-remove_entry laws (eq key) (λ x y. laws.congr key x y) other pairs differ
