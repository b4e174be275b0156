-- A record of a heap has a name.
use Rattle.std.proofs.Common.{ℕ, ◌<◌, length, subst, sym, []}
use Rattle.std.proofs.lemmas.List.Elements.{All-get_or}
use Rattle.std.proofs.lemmas.Option.{unwrap_or-slice_get}
use Rattle.icn_value.specs.Store.{Names, Record, record_at}
use Rattle.icn_value.specs.declared.val.Val.TheVariants.{Rec}
use Rattle.icn_heap.specs.declared.heap.Heap.{Heap}
use Rattle.icn_heap.specs.Extents.{IsLive}
use Rattle.icn_heap.specs.Heaps.{extent_of, heap_of}
use Rattle.icn_heap.proofs.StructureNumbers.{record_below}
use Rattle.icn_convert.specs.ProgramNames.{AreRecordsNamed}

pub kind_named : (names : Names) (heap : Heap) (id : ℕ) → AreRecordsNamed names (heap_of heap) → IsLive (extent_of heap) (Rec id)
    → (record_at (heap_of heap) id).kind < length names.records
kind_named names heap id named live =
    let within : id < length (heap_of heap).records = record_below heap id live in
    let is_named : Record → Type 0 = λ (structure : Record). structure.kind < length names.records in
    let nothing : Record = record { kind = 0; fields = [] } in
    subst is_named (sym (unwrap_or-slice_get (heap_of heap).records id nothing)) (All-get_or is_named (heap_of heap).records id nothing within named.kinds)
