-- The items of a list of a heap, by their numbers.
use Rattle.std.proofs.Common.{◌≡◌, ◌∙◌, sym, ap, ℕ, ℤ, pos, negsuc, ◌-ℤ◌, IfSome, slice_index_or}
use Rattle.std.specs.Option.{option_map}
use Rattle.icn_structs.specs.Numbered.{NumberedList, item_at, item_numbered}
use Rattle.icn_structs.specs.Shelves.{IsSet}
use Rattle.icn_value.specs.Values.{Value}
use Rattle.icn_value.specs.Store.{list_at}
use Rattle.icn_heap.specs.Extents.{IsLive, value_in}
use Rattle.icn_heap.specs.HeapParts.{Parts, heap_over, extent_in, no_vals, IsSoundHeap}
use Rattle.icn_heap.proofs.ListChanges.{item_in, get_live, list_sound, list_view}

module _ (parts : Parts) (is : IsSoundHeap parts) (id : ℕ) (there : IsSet parts.lists.held id) (n : ℤ) where
  pub item_is : option_map (value_in (extent_in parts)) (item_numbered (slice_index_or parts.lists.things id no_vals) n)
      ≡ item_numbered (list_at (heap_over (extent_in parts) parts) id) n
  item_is =
      sym (item_in (extent_in parts) (slice_index_or parts.lists.things id no_vals) n)
      ∙ ap (λ (list : NumberedList Value). item_numbered list n) (sym (list_view (extent_in parts) parts id))

  pub item_live : IfSome (item_numbered (slice_index_or parts.lists.things id no_vals) n) (IsLive (extent_in parts))
  item_live = at_place (n -ℤ (slice_index_or parts.lists.things id no_vals).number)
    where
      at_place : (place : ℤ) → IfSome (item_at (slice_index_or parts.lists.things id no_vals).items place) (IsLive (extent_in parts))
      at_place (pos place) = get_live _ _ place (list_sound parts is id there).live
      at_place (negsuc place) = tt
