-- No two members of a set, and no two keys of a table, are the same.
use Rattle.std.proofs.Common.{◌≡◌, ◌∙◌, false, List, [], ◌∷◌, map}
use Rattle.std.specs.List.{All, AllByRecursion, IsDistinct}
use Rattle.std.specs.Map.{keys_of}
use Rattle.std.proofs.lemmas.List.Elements.{All-head, All-tail}
use Rattle.std.proofs.lemmas.Map.Keys.{IsDistinct-cons, IsDistinct-head, IsDistinct-tail}
use Rattle.icn_structs.specs.PairLists.{KeysDiffer}
use Rattle.icn_value.specs.declared.val.Val.{Val}
use Rattle.icn_value.specs.Sameness.{same}
use Rattle.icn_heap.specs.declared.key.Key.{Key}
use Rattle.icn_heap.specs.declared.entries.Entry.{Entry}
use Rattle.icn_heap.specs.Extents.{Extent}
use Rattle.icn_heap.specs.Keys.{key_value, IsKey}
use Rattle.icn_heap.specs.KeyTests.{key_eq}
use Rattle.icn_heap.specs.HeapParts.{member_in, pair_in, IsSoundMember, IsSoundPair}
use Rattle.icn_heap.proofs.KeyValues.{same_keys}

module _ (all : Extent) where
  no_member : (key : Key) → IsKey key → (set : List (Key × Val)) → All (IsSoundMember all) set
      → AllByRecursion (λ other. key_eq key other ≡ false) (keys_of set)
      → AllByRecursion (λ other. same (key_value key) other ≡ false) (map member_in set)
  no_member key is [] are apart = tt
  no_member key is (member ∷ set) are apart =
      let first : IsSoundMember all member = All-head (IsSoundMember all) member set are in
      (same_keys key member.0 is first.formed ∙ apart.0, no_member key is set (All-tail (IsSoundMember all) member set are) apart.1)

  pub members_apart : (set : List (Key × Val)) → All (IsSoundMember all) set → KeysDiffer key_eq set → IsDistinct same (map member_in set)
  unfolding IsDistinct
  members_apart [] are differ = tt
  members_apart (member ∷ set) are differ =
      let first : IsSoundMember all member = All-head (IsSoundMember all) member set are in
      let rest : All (IsSoundMember all) set = All-tail (IsSoundMember all) member set are in
      IsDistinct-cons same (member_in member) (map member_in set)
      (no_member member.0 first.formed set rest (IsDistinct-head key_eq member.0 (keys_of set) differ))
      (members_apart set rest (IsDistinct-tail key_eq member.0 (keys_of set) differ))

  no_key : (key : Key) → IsKey key → (pairs : List (Key × Entry)) → All (IsSoundPair all) pairs
      → AllByRecursion (λ other. key_eq key other ≡ false) (keys_of pairs)
      → AllByRecursion (λ other. same (key_value key) other ≡ false) (keys_of (map (pair_in all) pairs))
  no_key key is [] are apart = tt
  no_key key is (pair ∷ pairs) are apart =
      let first : IsSoundPair all pair = All-head (IsSoundPair all) pair pairs are in
      (same_keys key pair.0 is first.formed ∙ apart.0, no_key key is pairs (All-tail (IsSoundPair all) pair pairs are) apart.1)

  pub keys_apart : (pairs : List (Key × Entry)) → All (IsSoundPair all) pairs → KeysDiffer key_eq pairs → KeysDiffer same (map (pair_in all) pairs)
  unfolding IsDistinct
  keys_apart [] are differ = tt
  keys_apart (pair ∷ pairs) are differ =
      let first : IsSoundPair all pair = All-head (IsSoundPair all) pair pairs are in
      let rest : All (IsSoundPair all) pairs = All-tail (IsSoundPair all) pair pairs are in
      IsDistinct-cons same (key_value pair.0) (keys_of (map (pair_in all) pairs))
      (no_key pair.0 first.formed pairs rest (IsDistinct-head key_eq pair.0 (keys_of pairs) differ))
      (keys_apart pairs rest (IsDistinct-tail key_eq pair.0 (keys_of pairs) differ))
