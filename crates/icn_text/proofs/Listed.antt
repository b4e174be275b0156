-- A list of all values of a type, each at the place of its number: what a test says of the list holds of each.
use Rattle.std.proofs.Common.{◌≡◌, ◌≢◌, ◌≤◌, ◌<◌, ◌+◌, ◌-◌, ◌⊎◌, inl, inr, zero, suc, ℕ, Bool, true, false, eqb, List, [], ◌∷◌, length, Option, Some, None, sym, ap, subst, ◌∙◌, get_or, arith}
use Rattle.std.specs.List.{list_all}
use Rattle.std.specs.Option.{option_map_or}
use Rattle.std.specs.Str.{bytes_eq}
use Rattle.std.proofs.lemmas.Bool.{and_parts, cases_lt, eqb-true}
use Rattle.std.proofs.lemmas.Slice.Eq.{bytes_eq-Decides}

-- a test that all of a list pass is passed by what stands at any index
passed_at : {X : Type 0} (test : X → Bool) (xs : List X) (index : ℕ) (other : X) → test other ≡ true → list_all test xs ≡ true
    → test (get_or xs index other) ≡ true
passed_at test [] index other is all = is
passed_at test (x ∷ xs) zero other is all = (and_parts (test x) (list_all test xs) all).0
passed_at test (x ∷ xs) (suc index) other is all = passed_at test xs index other is (and_parts (test x) (list_all test xs) all).1

-- the first of a list with something in it passes too
passed_first : {X : Type 0} (test : X → Bool) (xs : List X) (other : X) → 0 < length xs → list_all test xs ≡ true
    → test (get_or xs 0 other) ≡ true
passed_first test [] other some all = let none : ⊥ = omega (arith, some) in absurd none
passed_first test (x ∷ xs) other some all = (and_parts (test x) (list_all test xs) all).0

no_name : (found name : List ℕ) → bytes_eq found name ≡ false → found ≢ name
no_name found name differs same = let clash : false ≡ true = sym differs ∙ (bytes_eq-Decides found name).1 same in cc

module _ {X : Type 0} (number : X → ℕ) (all : List X) (some : 0 < length all)
    (listed : (any default : X) → get_or all (number any - 1) default ≡ any) where
  -- what all of the list pass is passed by each value
  pub each_passes : (test : X → Bool) → list_all test all ≡ true → (any : X) → test any ≡ true
  each_passes test is any =
      subst (λ x. test x ≡ true) (listed any (get_or all 0 any))
      (passed_at test all (number any - 1) (get_or all 0 any) (passed_first test all any some is) is)

  -- numbers tell values apart
  pub one_number : (a b : X) → number a ≡ number b → a ≡ b
  one_number a b same =
      sym (listed a a) ∙ ap (λ n. get_or all (n - 1) a) same ∙ listed b a

  -- what is found under the number of a value is this value
  pub found_again : (found : Option X) (any : X) → option_map_or (λ x. eqb (number x) (number any)) found false ≡ true → found ≡ Some any
  found_again None any is = let clash : false ≡ true = is in cc
  found_again (Some x) any is = ap (λ (one : X). let o : Option X = Some one in o) (one_number x any (eqb-true (number x) (number any) is))

  next_is : (any default : X) (index : ℕ) → index < number any → number any ≤ index + 1 → get_or all index default ≡ any
  next_is any default index above below =
      let here : index ≡ number any - 1 = omega arith in
      ap (λ place. get_or all place default) here ∙ listed any default

  -- one more is looked at, which has another name
  pub no_more : (name_of : X → List ℕ) (index : ℕ) (default : X) (name found : List ℕ)
      → found ≡ name_of (get_or all index default) → bytes_eq found name ≡ false
      → ((any : X) → number any ≤ index → name_of any ≢ name) → (any : X) → number any ≤ index + 1 → name_of any ≢ name
  no_more name_of index default name found is differs before any within = cases (cases_lt index (number any))
    where
      cases : (index < number any) ⊎ (number any ≤ index) → name_of any ≢ name
      cases (inl above) = λ same. no_name found name differs (is ∙ ap name_of (next_is any default index above within) ∙ same)
      cases (inr below) = before any below
