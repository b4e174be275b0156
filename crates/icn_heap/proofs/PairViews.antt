-- Look-ups by keys find what look-ups by values find.
use Rattle.std.proofs.Common.{◌≡◌, ◌∙◌, refl, sym, ap, Bool, true, false, not, cond, ◌||◌, is_some, IfSome, List, [], ◌∷◌, ◌++◌, map, filter, Some, true≢false, if◌then◌else◌}
use Rattle.std.specs.List.{All, AllByRecursion, list_any}
use Rattle.std.specs.Map.{keys_of, remove_entry}
use Rattle.std.specs.Option.{option_map}
use Rattle.std.proofs.lemmas.List.Elements.{All-cons, All-head, All-tail}
use Rattle.std.proofs.lemmas.Map.Keys.{IsDistinct-head, IsDistinct-tail}
use Rattle.icn_structs.specs.PairLists.{value_of, with_value_of, without, KeysDiffer}
use Rattle.icn_value.specs.declared.val.Val.{Val}
use Rattle.icn_value.specs.Values.{Value}
use Rattle.icn_value.specs.Sameness.{same}
use Rattle.icn_value.proofs.SameValues.{same_is, same_self}
use Rattle.icn_heap.specs.declared.key.Key.{Key}
use Rattle.icn_heap.specs.declared.entries.Entry.{Entry}
use Rattle.icn_heap.specs.Extents.{Extent, IsLive, value_in}
use Rattle.icn_heap.specs.Keys.{key_value, IsKey}
use Rattle.icn_heap.specs.KeyTests.{key_eq}
use Rattle.icn_heap.specs.HeapParts.{member_in, pair_in, entry_value, IsSoundMember, IsSoundPair}
use Rattle.icn_heap.proofs.KeyValues.{same_keys}

-- a pair goes behind the others where its key is not there
pub stored_new : {K V : Type 0} (eq : K → K → Bool) (pairs : List (K × V)) (key : K) (value : V) → is_some (value_of eq pairs key) ≡ false
    → with_value_of eq pairs key value ≡ pairs ++ (key, value) ∷ []
stored_new eq [] key value none = refl
stored_new {K} {V} eq (pair ∷ pairs) key value none = by_test (eq key pair.0) none (stored_new eq pairs key value)
  where
    by_test : (b : Bool) → is_some (cond b (Some pair.1) (value_of eq pairs key)) ≡ false
        → (is_some (value_of eq pairs key) ≡ false → with_value_of eq pairs key value ≡ pairs ++ (key, value) ∷ [])
        → (if b then (pair.0, value) ∷ pairs else pair ∷ with_value_of eq pairs key value) ≡ pair ∷ (pairs ++ (key, value) ∷ [])
    by_test true none later = absurd (true≢false none)
    by_test false none later = ap (λ (rest : List (K × V)). pair ∷ rest) (later none)

-- what holds of all pairs holds of those that are left
pub all_without : {K V : Type 0} (P : K × V → Type 0) (test : K → Bool) (pairs : List (K × V)) → All P pairs → All P (remove_entry test pairs)
all_without P test [] are = are
all_without {K} {V} P test (pair ∷ pairs) are = by_test (test pair.0) (all_without P test pairs (All-tail P pair pairs are))
  where
    by_test : (b : Bool) → All P (remove_entry test pairs) → All P (cond b pairs (pair ∷ remove_entry test pairs))
    by_test true later = All-tail P pair pairs are
    by_test false later = All-cons P pair (remove_entry test pairs) (All-head P pair pairs are) later

filter_all : {X : Type 0} (test : X → Bool) (xs : List X) → All (λ x. test x ≡ true) xs → filter test xs ≡ xs
filter_all test [] are = refl
filter_all test (x ∷ xs) are = rw (All-head (λ x. test x ≡ true) x xs are, filter_all test xs (All-tail (λ x. test x ≡ true) x xs are)) refl

-- Sets

module _ (all : Extent) (key : Key) (is : IsKey key) where
  pub member_found : (set : List (Key × Val)) → All (IsSoundMember all) set
      → is_some (value_of key_eq set key) ≡ list_any (same (key_value key)) (map member_in set)
  member_found [] are = refl
  member_found (member ∷ set) are =
      let first : IsSoundMember all member = All-head (IsSoundMember all) member set are in
      by_test (key_eq key member.0) _ (same_keys key member.0 is first.formed) (member_found set (All-tail (IsSoundMember all) member set are))
    where
      by_test : (b c : Bool) → c ≡ b → is_some (value_of key_eq set key) ≡ list_any (same (key_value key)) (map member_in set)
          → is_some (cond b (Some member.1) (value_of key_eq set key)) ≡ (c || list_any (same (key_value key)) (map member_in set))
      by_test true true alike later = refl
      by_test false false alike later = later
      by_test true false alike later = absurd (true≢false (sym alike))
      by_test false true alike later = absurd (true≢false alike)

  apart : (k : Key) → IsKey k → same (key_value key) (key_value k) ≡ true → (set : List (Key × Val)) → All (IsSoundMember all) set
      → AllByRecursion (λ other. key_eq k other ≡ false) (keys_of set)
      → filter (λ member. not (same (key_value key) member)) (map member_in set) ≡ map member_in set
  apart k is' alike [] are differ = refl
  apart k is' alike (member ∷ set) are differ =
      let first : IsSoundMember all member = All-head (IsSoundMember all) member set are in
      let one : key_value key ≡ key_value k = same_is (key_value key) (key_value k) alike in
      let other : same (key_value key) (key_value member.0) ≡ false = ap (λ v. same v (key_value member.0)) one
      ∙ (same_keys k member.0 is' first.formed ∙ differ.0) in
      rw other (ap (λ rest. key_value member.0 ∷ rest) (apart k is' alike set (All-tail (IsSoundMember all) member set are) differ.1))

  pub member_removed : (set : List (Key × Val)) → All (IsSoundMember all) set → KeysDiffer key_eq set
      → map member_in (without key_eq set key) ≡ filter (λ member. not (same (key_value key) member)) (map member_in set)
  member_removed [] are differ = refl
  member_removed (member ∷ set) are differ =
      let first : IsSoundMember all member = All-head (IsSoundMember all) member set are in
      let rest : All (IsSoundMember all) set = All-tail (IsSoundMember all) member set are in
      by_test (key_eq key member.0) (same (key_value key) (key_value member.0)) (same_keys key member.0 is first.formed)
      (λ alike. apart member.0 first.formed alike set rest (IsDistinct-head key_eq member.0 (keys_of set) differ))
      (member_removed set rest (IsDistinct-tail key_eq member.0 (keys_of set) differ))
    where
      by_test : (b c : Bool) → c ≡ b
          → (c ≡ true → filter (λ member. not (same (key_value key) member)) (map member_in set) ≡ map member_in set)
          → map member_in (without key_eq set key) ≡ filter (λ member. not (same (key_value key) member)) (map member_in set)
          → map member_in (cond b set (member ∷ without key_eq set key))
          ≡ cond (not c) (key_value member.0 ∷ filter (λ member. not (same (key_value key) member)) (map member_in set))
          (filter (λ member. not (same (key_value key) member)) (map member_in set))
      by_test true true alike none later = sym (none refl)
      by_test false false alike none later = ap (λ rest. key_value member.0 ∷ rest) later
      by_test true false alike none later = absurd (true≢false (sym alike))
      by_test false true alike none later = absurd (true≢false alike)

-- Tables

module _ (all : Extent) (key : Key) (is : IsKey key) where
  pub value_found : (pairs : List (Key × Entry)) → All (IsSoundPair all) pairs
      → option_map (value_in all) (option_map entry_value (value_of key_eq pairs key)) ≡ value_of same (map (pair_in all) pairs) (key_value key)
  value_found [] are = refl
  value_found (pair ∷ pairs) are =
      let first : IsSoundPair all pair = All-head (IsSoundPair all) pair pairs are in
      by_test (key_eq key pair.0) _ (same_keys key pair.0 is first.formed) (value_found pairs (All-tail (IsSoundPair all) pair pairs are))
    where
      by_test : (b c : Bool) → c ≡ b
          → option_map (value_in all) (option_map entry_value (value_of key_eq pairs key)) ≡ value_of same (map (pair_in all) pairs) (key_value key)
          → option_map (value_in all) (option_map entry_value (cond b (Some pair.1) (value_of key_eq pairs key)))
          ≡ cond c (Some (value_in all pair.1.value)) (value_of same (map (pair_in all) pairs) (key_value key))
      by_test true true alike later = refl
      by_test false false alike later = later
      by_test true false alike later = absurd (true≢false (sym alike))
      by_test false true alike later = absurd (true≢false alike)

  pub found_live : (pairs : List (Key × Entry)) → All (IsSoundPair all) pairs → IfSome (option_map entry_value (value_of key_eq pairs key)) (IsLive all)
  found_live [] are = tt
  found_live (pair ∷ pairs) are =
      let first : IsSoundPair all pair = All-head (IsSoundPair all) pair pairs are in
      by_test (key_eq key pair.0) first.value (found_live pairs (All-tail (IsSoundPair all) pair pairs are))
    where
      by_test : (b : Bool) → IsLive all pair.1.value → IfSome (option_map entry_value (value_of key_eq pairs key)) (IsLive all)
          → IfSome (option_map entry_value (cond b (Some pair.1) (value_of key_eq pairs key))) (IsLive all)
      by_test true here later = here
      by_test false here later = later

  pub pair_stored : (pairs : List (Key × Entry)) → All (IsSoundPair all) pairs → (entry : Entry)
      → map (pair_in all) (with_value_of key_eq pairs key entry) ≡ with_value_of same (map (pair_in all) pairs) (key_value key) (value_in all entry.value)
  pair_stored [] are entry = refl
  pair_stored (pair ∷ pairs) are entry =
      let first : IsSoundPair all pair = All-head (IsSoundPair all) pair pairs are in
      by_test (key_eq key pair.0) _ (same_keys key pair.0 is first.formed) (pair_stored pairs (All-tail (IsSoundPair all) pair pairs are) entry)
    where
      by_test : (b c : Bool) → c ≡ b
          → map (pair_in all) (with_value_of key_eq pairs key entry) ≡ with_value_of same (map (pair_in all) pairs) (key_value key) (value_in all entry.value)
          → map (pair_in all) (if b then (pair.0, entry) ∷ pairs else pair ∷ with_value_of key_eq pairs key entry)
          ≡ (if c then (key_value pair.0, value_in all entry.value) ∷ map (pair_in all) pairs
          else pair_in all pair ∷ with_value_of same (map (pair_in all) pairs) (key_value key) (value_in all entry.value))
      by_test true true alike later = refl
      by_test false false alike later = ap (λ (rest : List (Value × Value)). pair_in all pair ∷ rest) later
      by_test true false alike later = absurd (true≢false (sym alike))
      by_test false true alike later = absurd (true≢false alike)

  pub pair_removed : (pairs : List (Key × Entry)) → All (IsSoundPair all) pairs
      → map (pair_in all) (without key_eq pairs key) ≡ without same (map (pair_in all) pairs) (key_value key)
  pair_removed [] are = refl
  pair_removed (pair ∷ pairs) are =
      let first : IsSoundPair all pair = All-head (IsSoundPair all) pair pairs are in
      by_test (key_eq key pair.0) _ (same_keys key pair.0 is first.formed) (pair_removed pairs (All-tail (IsSoundPair all) pair pairs are))
    where
      by_test : (b c : Bool) → c ≡ b → map (pair_in all) (without key_eq pairs key) ≡ without same (map (pair_in all) pairs) (key_value key)
          → map (pair_in all) (cond b pairs (pair ∷ without key_eq pairs key))
          ≡ cond c (map (pair_in all) pairs) (pair_in all pair ∷ without same (map (pair_in all) pairs) (key_value key))
      by_test true true alike later = refl
      by_test false false alike later = ap (λ (rest : List (Value × Value)). pair_in all pair ∷ rest) later
      by_test true false alike later = absurd (true≢false (sym alike))
      by_test false true alike later = absurd (true≢false alike)

  pub stored_sound : (pairs : List (Key × Entry)) → All (IsSoundPair all) pairs → (entry : Entry) → IsLive all entry.key → IsLive all entry.value
      → key_value key ≡ value_in all entry.key
      → All (IsSoundPair all) (with_value_of key_eq pairs key entry)
  stored_sound [] are entry live live' alike =
      All-cons (IsSoundPair all) (key, entry) [] (record { key = live; value = live'; formed = is; alike = rw alike (same_self (value_in all entry.key)) }) are
  stored_sound (pair ∷ pairs) are entry live live' alike =
      let first : IsSoundPair all pair = All-head (IsSoundPair all) pair pairs are in
      by_test (key_eq key pair.0) (same_keys key pair.0 is first.formed) first
      (stored_sound pairs (All-tail (IsSoundPair all) pair pairs are) entry live live' alike)
    where
      by_test : (b : Bool) → same (key_value key) (key_value pair.0) ≡ b → IsSoundPair all pair → All (IsSoundPair all) (with_value_of key_eq pairs key entry)
          → All (IsSoundPair all) (if b then (pair.0, entry) ∷ pairs else pair ∷ with_value_of key_eq pairs key entry)
      by_test true here first later =
          let one : key_value pair.0 ≡ value_in all entry.key = sym (same_is (key_value key) (key_value pair.0) here) ∙ alike in
          All-cons (IsSoundPair all) (pair.0, entry) pairs
          (record { key = live; value = live'; formed = first.formed; alike = rw one (same_self (value_in all entry.key)) })
          (All-tail (IsSoundPair all) pair pairs are)
      by_test false here first later = All-cons (IsSoundPair all) pair (with_value_of key_eq pairs key entry) first later
