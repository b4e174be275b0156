-- Values that have names, and those of an empty heap.
use Rattle.std.proofs.Common.{◌≡◌, refl, ap, ℕ, zero, suc, List, [], ◌∷◌, ◌++◌, map, Option, Some, None}
use Rattle.std.specs.Prelude.{slice_index_or}
use Rattle.std.specs.List.{All}
use Rattle.std.specs.Option.{option_map}
use Rattle.std.proofs.lemmas.List.{map-append}
use Rattle.std.proofs.lemmas.List.Elements.{All-nil, All-push, All-head, All-tail}
use Rattle.icn_value.specs.Limited.{Bounds}
use Rattle.icn_value.specs.declared.val.Val.{Val}
use Rattle.icn_value.specs.declared.val.Val.TheVariants.{Null}
use Rattle.icn_value.specs.Values.{Value}
use Rattle.icn_value.specs.Store.{KeptError, Names}
use Rattle.icn_heap.specs.Extents.{Extent, IsLive, KeepsValues, value_in}
use Rattle.icn_heap.specs.Heaps.{empty_heap}
use Rattle.law_names.specs.NamedSettings.{HeapNamed, KeptNamed, ListNamed, RecordNamed, SetNamed, TableNamed, ValueNamed}
use Rattle.icn_vars.specs.declared.words.HeldError.{HeldError}
use Rattle.icn_vars.specs.Worlds.{kept_in}

pub empty_named : (names : Names) (bounds : Bounds) → HeapNamed names (empty_heap bounds)
empty_named names bounds =
    record { lists = All-nil (ListNamed names); sets = All-nil (SetNamed names); tables = All-nil (TableNamed names); records = All-nil (RecordNamed names) }

pub values_more : (names : Names) (all : Extent) (vals items : List Val) (val : Val) → All (ValueNamed names) (map (value_in all) vals)
    → ValueNamed names (value_in all val) → items ≡ vals ++ val ∷ []
    → All (ValueNamed names) (map (value_in all) items)
values_more names all vals items val are is same =
    rw same (rw (map-append (value_in all) vals (val ∷ [])) (All-push (ValueNamed names) (map (value_in all) vals) (value_in all val) are is))

-- The error that is kept

value_same : (old new : Extent) (value : Option Val) → KeepsValues old new → ((val : Val) → value ≡ Some val → IsLive old val)
    → option_map (value_in new) value ≡ option_map (value_in old) value
value_same old new None keeps live = refl
value_same old new (Some val) keeps live = ap Some (keeps.value val (live val refl))

kept_same : (old new : Extent) (kept : Option HeldError) → KeepsValues old new
    → ((error : HeldError) (val : Val) → kept ≡ Some error → error.value ≡ Some val → IsLive old val) → kept_in new kept ≡ kept_in old kept
kept_same old new None keeps live = refl
kept_same old new (Some error) keeps live =
    ap (λ (about : Option Value). let one : Option KeptError = Some (record { number = error.number; value = about }) in one)
    (value_same old new error.value keeps (λ val is. live error val refl is))

-- its value keeps its name as the heap grows
pub kept_named : (names : Names) (old new : Extent) (kept : Option HeldError) → KeepsValues old new
    → ((error : HeldError) (val : Val) → kept ≡ Some error → error.value ≡ Some val → IsLive old val)
    → KeptNamed names (kept_in old kept) → KeptNamed names (kept_in new kept)
kept_named names old new kept keeps live is = rw (kept_same old new kept keeps live) is

-- A value by its place

live_at : (all : Extent) (vals : List Val) (k : ℕ) → All (IsLive all) vals → IsLive all (slice_index_or vals k Null)
live_at all [] k are = record { live = tt }
live_at all (val ∷ vals) zero are = All-head (IsLive all) val vals are
live_at all (val ∷ vals) (suc k) are = live_at all vals k (All-tail (IsLive all) val vals are)

named_at : (names : Names) (all : Extent) (vals : List Val) (k : ℕ) → All (ValueNamed names) (map (value_in all) vals)
    → ValueNamed names (value_in all (slice_index_or vals k Null))
named_at names all [] k are = tt
named_at names all (val ∷ vals) zero are = All-head (ValueNamed names) (value_in all val) (map (value_in all) vals) are
named_at names all (val ∷ vals) (suc k) are = named_at names all vals k (All-tail (ValueNamed names) (value_in all val) (map (value_in all) vals) are)

pub got_live : (all : Extent) (vals slice : List Val) (k : ℕ) (val : Val) → slice ≡ vals → val ≡ slice_index_or slice k Null → All (IsLive all) vals
    → IsLive all val
got_live all vals slice k val same is are = rw is (rw same (live_at all vals k are))

pub got_named : (names : Names) (all : Extent) (vals slice : List Val) (k : ℕ) (val : Val) → slice ≡ vals → val ≡ slice_index_or slice k Null
    → All (ValueNamed names) (map (value_in all) vals)
    → ValueNamed names (value_in all val)
got_named names all vals slice k val same is are = rw is (rw same (named_at names all vals k are))
