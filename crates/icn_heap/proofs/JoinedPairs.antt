-- Members and pairs that join others under their keys.
use Rattle.std.proofs.Common.{◌≡◌, ◌∙◌, refl, sym, ap, ℕ, ◌+◌, ◌<◌, Bool, true, false, is_some, List, [], ◌∷◌, ◌++◌, map, filter, fold, take, length, get_or, true≢false, if◌then◌else◌}
use mathlib.Core.Bool.{beq}
use Rattle.std.specs.List.{All}
use Rattle.std.proofs.lemmas.List.{map-append, map_more}
use Rattle.std.proofs.lemmas.List.Elements.{All-push, filter-append}
use Rattle.std.proofs.lemmas.List.Sums.{fold-append}
use Rattle.icn_structs.specs.PairLists.{value_of, with_value_of}
use Rattle.icn_value.specs.declared.val.Val.{Val}
use Rattle.icn_value.specs.Values.{Value}
use Rattle.icn_value.specs.Sameness.{has_value, with_member}
use Rattle.icn_value.proofs.SameValues.{same_self}
use Rattle.icn_heap.specs.declared.key.Key.{Key}
use Rattle.icn_heap.specs.declared.entries.Entry.{Entry}
use Rattle.icn_heap.specs.Extents.{Extent, IsLive, AreLive, value_in, values_in}
use Rattle.icn_heap.specs.Keys.{key_value, IsKey}
use Rattle.icn_heap.specs.KeyTests.{key_eq}
use Rattle.icn_heap.specs.MadeStructures.{stands, with_stored}
use Rattle.icn_heap.specs.HeapParts.{member_in, set_in, pair_in, with_entry, IsSoundMember, IsSoundPair}
use Rattle.icn_heap.proofs.PairViews.{stored_new, member_found, pair_stored, stored_sound}

module _ (all : Extent) (key : Key) (formed : IsKey key) (val : Val) (live : IsLive all val) (alike : key_value key ≡ value_in all val)
    (members : List (Key × Val)) (are : All (IsSoundMember all) members) where
  pub joins : set_in (with_entry members key val) ≡ with_member (set_in members) (value_in all val)
  joins =
      by_test (is_some (value_of key_eq members key)) (has_value (set_in members) (value_in all val))
      (member_found all key formed members are ∙ ap (λ v. has_value (set_in members) v) alike) (stored_new key_eq members key val)
    where
      by_test : (b c : Bool) → b ≡ c → (b ≡ false → with_value_of key_eq members key val ≡ members ++ (key, val) ∷ [])
          → set_in (if b then members else with_value_of key_eq members key val) ≡ (if c then set_in members else set_in members ++ value_in all val ∷ [])
      by_test true true same new = refl
      by_test false false same new =
          ap set_in (new refl) ∙ (map-append member_in members ((key, val) ∷ []) ∙ ap (λ (v : Value). set_in members ++ v ∷ []) alike)
      by_test true false same new = absurd (true≢false same)
      by_test false true same new = absurd (true≢false (sym same))

  pub joins_soundly : All (IsSoundMember all) (with_entry members key val)
  joins_soundly = by_test (is_some (value_of key_eq members key)) (stored_new key_eq members key val)
    where
      by_test : (b : Bool) → (b ≡ false → with_value_of key_eq members key val ≡ members ++ (key, val) ∷ [])
          → All (IsSoundMember all) (if b then members else with_value_of key_eq members key val)
      by_test true new = are
      by_test false new =
          rw (new refl)
          (All-push (IsSoundMember all) members (key, val) are (record { live = live; formed = formed; alike = rw alike (same_self (value_in all val)) }))

-- one step more of a fold over what is made of each element
pub fold_more : {X Y Z : Type 0} (step : Z → Y → Z) (start : Z) (f : X → Y) (xs : List X) (i : ℕ) (d : X) → i < length xs
    → fold step start (map f (take (i + 1) xs)) ≡ step (fold step start (map f (take i xs))) (f (get_or xs i d))
fold_more step start f xs i d there =
    ap (fold step start) (map_more f xs i d there) ∙ fold-append step start (map f (take i xs)) (f (get_or xs i d) ∷ [])

-- a pair that is stored behind others
pub stores_more : (all : Extent) (key : Key) (formed : IsKey key) (pair : Val × Val) → AreLive all pair → key_value key ≡ value_in all pair.0
    → (pairs : List (Key × Entry)) → All (IsSoundPair all) pairs
    → (map (pair_in all) (with_value_of key_eq pairs key (record { key = pair.0; value = pair.1 }))
    ≡ with_stored (map (pair_in all) pairs) (values_in all pair))
    × All (IsSoundPair all) (with_value_of key_eq pairs key (record { key = pair.0; value = pair.1 }))
stores_more all key formed pair live alike pairs are =
    let entry : Entry = record { key = pair.0; value = pair.1 } in (
      pair_stored all key formed pairs are entry ∙ ap (λ k. with_stored (map (pair_in all) pairs) (k, value_in all pair.1)) alike,
      stored_sound all key formed pairs are entry live.first live.second alike,
    )

-- whether the next value passes the test
pub filters_more : {X : Type 0} (f : X → Value) (test : Value → Bool) (xs : List X) (i : ℕ) (d : X) → i < length xs
    → filter test (map f (take (i + 1) xs)) ≡ filter test (map f (take i xs)) ++ filter test (f (get_or xs i d) ∷ [])
filters_more f test xs i d there = ap (filter test) (map_more f xs i d there) ∙ filter-append test (map f (take i xs)) (f (get_or xs i d) ∷ [])

pub passes : (inside found : Bool) (others : List Value) (value : Value) → found ≡ has_value others value → beq found inside ≡ true
    → filter (stands inside others) (value ∷ []) ≡ value ∷ []
passes true true others value is same = rw (sym is) refl
passes true false others value is same = absurd (true≢false (sym same))
passes false true others value is same = absurd (true≢false (sym same))
passes false false others value is same = rw (sym is) refl

pub fails : (inside found : Bool) (others : List Value) (value : Value) → found ≡ has_value others value → beq found inside ≡ false
    → filter (stands inside others) (value ∷ []) ≡ []
fails true true others value is other = absurd (true≢false other)
fails true false others value is other = rw (sym is) refl
fails false true others value is other = rw (sym is) refl
fails false false others value is other = absurd (true≢false other)
