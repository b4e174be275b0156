-- What a heap stands for, by the parts that it holds.
use Rattle.std.proofs.Common.{◌≡◌, ◌∙◌, sym, ap, subst, ℕ, List, Ok, Result, ◌<◌, ◌++◌, length, slice_set, slice_index_or, OnOk, OnErr, Err}
use Rattle.icn_structs.specs.Numbered.{NumberedList}
use Rattle.icn_structs.specs.Shelves.{Shelved}
use Rattle.icn_value.specs.declared.full.Full.{Full}
use Rattle.icn_value.specs.declared.val.Val.{Val}
use Rattle.icn_value.specs.Store.{Heap, OpenedFile, no_file}
use Rattle.icn_value.specs.Changes.{and_then}
use Rattle.icn_heap.specs.declared.entries.Entries.{Entries}
use Rattle.icn_heap.specs.declared.heap.Heap.{Heap as HeldHeap}
use Rattle.icn_heap.specs.declared.key.Key.{Key}
use Rattle.icn_heap.specs.Extents.{KeepsValues}
use Rattle.icn_heap.specs.Records.{HeldRecord}
use Rattle.icn_heap.specs.HeapParts.{Parts, parts, extent_in, heap_over, IsSoundHeap}
use Rattle.icn_heap.specs.Heaps.{parts_of}
use Rattle.icn_heap.proofs.GrowingHeaps.{Becomes}
use Rattle.icn_heap.proofs.FileChanges.{file_grows}

-- parts that differ in one list, and perhaps in the cells

module _ (heap : HeldHeap) (sum : ℕ) where
  -- parts that have equal lists, of which the same are there, and agree in all else are equal
  pub with_lists : {a b : Shelved (NumberedList Val)} → a ≡ b
      → parts heap.strings a heap.sets.shelf heap.tables.shelf heap.records.shelf heap.coexps.items heap.files.items sum heap.limits
      ≡ parts heap.strings b heap.sets.shelf heap.tables.shelf heap.records.shelf heap.coexps.items heap.files.items sum heap.limits
  with_lists same = ap (λ x. parts heap.strings x heap.sets.shelf heap.tables.shelf heap.records.shelf heap.coexps.items heap.files.items sum heap.limits) same

  -- the same of sets
  pub with_sets : {a b : Shelved (List (Key × Val))} → a ≡ b
      → parts heap.strings heap.lists.shelf a heap.tables.shelf heap.records.shelf heap.coexps.items heap.files.items sum heap.limits
      ≡ parts heap.strings heap.lists.shelf b heap.tables.shelf heap.records.shelf heap.coexps.items heap.files.items sum heap.limits
  with_sets same = ap (λ x. parts heap.strings heap.lists.shelf x heap.tables.shelf heap.records.shelf heap.coexps.items heap.files.items sum heap.limits) same

  -- the same of tables
  pub with_tables : {a b : Shelved Entries} → a ≡ b
      → parts heap.strings heap.lists.shelf heap.sets.shelf a heap.records.shelf heap.coexps.items heap.files.items sum heap.limits
      ≡ parts heap.strings heap.lists.shelf heap.sets.shelf b heap.records.shelf heap.coexps.items heap.files.items sum heap.limits
  with_tables same = ap (λ x. parts heap.strings heap.lists.shelf heap.sets.shelf x heap.records.shelf heap.coexps.items heap.files.items sum heap.limits) same

  pub with_records : {a b : Shelved HeldRecord} → a ≡ b
      → parts heap.strings heap.lists.shelf heap.sets.shelf heap.tables.shelf a heap.coexps.items heap.files.items sum heap.limits
      ≡ parts heap.strings heap.lists.shelf heap.sets.shelf heap.tables.shelf b heap.coexps.items heap.files.items sum heap.limits
  with_records same = ap (λ x. parts heap.strings heap.lists.shelf heap.sets.shelf heap.tables.shelf x heap.coexps.items heap.files.items sum heap.limits) same

  pub with_coexps : {a b : List ℕ} → a ≡ b
      → parts heap.strings heap.lists.shelf heap.sets.shelf heap.tables.shelf heap.records.shelf a heap.files.items sum heap.limits
      ≡ parts heap.strings heap.lists.shelf heap.sets.shelf heap.tables.shelf heap.records.shelf b heap.files.items sum heap.limits
  with_coexps same = ap (λ x. parts heap.strings heap.lists.shelf heap.sets.shelf heap.tables.shelf heap.records.shelf x heap.files.items sum heap.limits) same

  pub with_files : {a b : List OpenedFile} → a ≡ b
      → parts heap.strings heap.lists.shelf heap.sets.shelf heap.tables.shelf heap.records.shelf heap.coexps.items a sum heap.limits
      ≡ parts heap.strings heap.lists.shelf heap.sets.shelf heap.tables.shelf heap.records.shelf heap.coexps.items b sum heap.limits
  with_files same = ap (λ x. parts heap.strings heap.lists.shelf heap.sets.shelf heap.tables.shelf heap.records.shelf heap.coexps.items x sum heap.limits) same

-- What becomes of the parts holds of a heap that has them

-- the parts after a change are sound
pub sound_as : {old new now : Parts} {heap : Heap} → now ≡ new → Becomes old new heap → IsSoundHeap now
sound_as same done = subst IsSoundHeap (sym same) done.sound

-- a change keeps what the values before it stand for
pub keeps_as : {old new now : Parts} {heap : Heap} → now ≡ new → Becomes old new heap → KeepsValues (extent_in old) (extent_in now)
keeps_as {old} same done = subst (λ parts. KeepsValues (extent_in old) (extent_in parts)) (sym same) done.keeps

-- the parts after a change stand for the heap that it leaves
pub stands_as : {old new now : Parts} {heap : Heap} → now ≡ new → Becomes old new heap → heap_over (extent_in now) now ≡ heap
stands_as same done = ap (λ parts. heap_over (extent_in parts) parts) same ∙ done.stands

-- a change that is charged, and is made of the heap that paid for it
pub steps_as : {old new now : Parts} {paid : Heap} (charge : Result Heap Full) (change : Heap → Heap) → charge ≡ Ok paid → now ≡ new
    → Becomes old new (change paid)
    → and_then charge (λ heap. let r : Result Heap Full = Ok (change heap) in r) ≡ Ok (heap_over (extent_in now) now)
steps_as {old} {new} {now} {paid} charge change is same done =
    ap (λ c. and_then c (λ heap. let r : Result Heap Full = Ok (change heap) in r)) is ∙ ap Ok (sym (stands_as same done))

-- bytes are added behind an opened file, or memory is wanting and all files are as they were
pub added_sound : {A E : Type 0} (heap : HeldHeap) (number : ℕ) (bytes : List ℕ) → IsSoundHeap (parts_of heap) → number < length heap.files.items
    → (files : List OpenedFile) (result : Result A E)
    → OnOk result (files ≡ slice_set heap.files.items number (record (slice_index_or heap.files.items number no_file) {
      content = (slice_index_or heap.files.items number no_file).content ++ bytes;
    }))
    → OnErr result (files ≡ heap.files.items) → IsSoundHeap (record (parts_of heap) { files = files })
added_sound heap number bytes sound there files (Ok done) grown kept =
    sound_as (with_files heap heap.cells grown) (file_grows (parts_of heap) sound number there bytes)
added_sound heap number bytes sound there files (Err why) grown kept = subst IsSoundHeap (with_files heap heap.cells (sym kept)) sound
