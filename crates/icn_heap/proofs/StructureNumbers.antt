-- The numbers of structures are below how many were ever made.
use Rattle.std.proofs.Common.{ℕ, ◌<◌, length, arith}
use Rattle.std.proofs.lemmas.List.{length-map}
use Rattle.icn_structs.proofs.ShelvedThings.{set_below}
use Rattle.icn_value.specs.declared.val.Val.TheVariants.{Rec as RecVal, List as ListVal}
use Rattle.icn_heap.specs.declared.heap.Heap.{Heap}
use Rattle.icn_heap.specs.Extents.{IsLive, IsMade}
use Rattle.icn_heap.specs.Heaps.{extent_of, heap_of}

-- of a record that was made
pub made_record_below : (heap : Heap) (id : ℕ) → IsMade (extent_of heap) (RecVal id) → id < length (heap_of heap).records
unfolding extent_of heap_of
made_record_below heap id is =
    let below : id < length heap.records.shelf.held = is.made in
    let long = heap.sound.structures.made_records.long in
    rw length-map (omega (arith, below, long))

-- of a record that is there
pub record_below : (heap : Heap) (id : ℕ) → IsLive (extent_of heap) (RecVal id) → id < length (heap_of heap).records
unfolding extent_of heap_of
record_below heap id is =
    let below = set_below heap.records.shelf.held id is.live in
    let long = heap.sound.structures.made_records.long in
    rw length-map (omega (arith, below, long))

-- and of a list
pub list_below : (heap : Heap) (id : ℕ) → IsLive (extent_of heap) (ListVal id) → id < length (heap_of heap).lists
unfolding extent_of heap_of
list_below heap id is =
    let below = set_below heap.lists.shelf.held id is.live in
    let long = heap.sound.structures.made_lists.long in
    rw length-map (omega (arith, below, long))

-- records that were made before one that is there were made
pub record_before : (heap : Heap) (id other : ℕ) → other < id → IsLive (extent_of heap) (RecVal id) → IsMade (extent_of heap) (RecVal other)
unfolding extent_of
record_before heap id other before is =
    let below = set_below heap.records.shelf.held id is.live in
    record { made = omega (arith, before, below) }
