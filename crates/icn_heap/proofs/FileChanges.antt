-- Opened files that join a heap and change in it.
use Rattle.std.proofs.Common.{◌≡◌, refl, sym, ℕ, ◌+◌, ◌<◌, ◌≤◌, true, List, [], ◌∷◌, ◌++◌, length, slice_set, slice_index_or, arith, length-append, subst}
use Rattle.std.proofs.Math.Nat.{le_refl}
use Rattle.std.proofs.lemmas.Option.{unwrap_or-slice_get}
use Rattle.std.proofs.lemmas.List.{length-set}
use Rattle.std.proofs.lemmas.List.Elements.{All-push, All-set}
use Rattle.icn_structs.specs.Shelves.{things_there}
use Rattle.icn_structs.proofs.ShelvedThings.{same_set}
use Rattle.icn_value.specs.Store.{OpenedFile, file_at, no_file, with_opened}
use Rattle.icn_value.specs.Changes.{added_to, having_file, shut}
use Rattle.icn_heap.specs.Extents.{Extent}
use Rattle.icn_heap.specs.HeapParts.{Parts, heap_over, extent_in, IsSoundFile, IsCharged, IsSoundHeap}
use Rattle.icn_heap.specs.Heaps.{with_cells}
use Rattle.icn_heap.proofs.GrowingHeaps.{lists_later, Becomes, becomes}
use Rattle.icn_heap.proofs.ListChanges.{texts_stay}

-- an opened file by its number
pub file_view : (all : Extent) (parts : Parts) (number : ℕ) → file_at (heap_over all parts) number ≡ slice_index_or parts.files number no_file
file_view all parts number = unwrap_or-slice_get parts.files number no_file

-- a file is opened
pub file_joins : (parts : Parts) → IsSoundHeap parts → {sum : ℕ} → parts.cells + 1 ≤ sum → sum ≤ parts.limits.cells → (file : OpenedFile)
    → IsSoundFile file
    → Becomes parts (record parts { files = parts.files ++ file ∷ []; cells = sum }) (having_file file (with_cells sum (heap_over (extent_in parts) parts)))
file_joins parts is {sum} paid within file sound =
    let more : parts.cells ≤ sum = omega arith in
    let size : length (parts.files ++ file ∷ []) ≡ length parts.files + 1 = length-append parts.files (file ∷ []) in
    let charged : IsCharged parts = is.charged in
    becomes (record {
      texts = texts_stay parts.strings;
      lists = same_set _;
      sets = same_set _;
      tables = same_set _;
      records = same_set _;
      coexps = le_refl _;
      files = omega arith;
    })
    (record {
      lists = lists_later (extent_in parts) parts.cells sum more (things_there parts.lists) is.structures.lists;
      sets = is.structures.sets;
      tables = is.structures.tables;
      records = is.structures.records;
      made_lists = is.structures.made_lists;
      made_sets = is.structures.made_sets;
      made_tables = is.structures.made_tables;
      made_records = is.structures.made_records;
      coexps = is.structures.coexps;
      files = All-push IsSoundFile parts.files file is.structures.files sound;
    })
    (record { limit = charged.limit; within = within; counted = (let few = charged.counted in omega arith); main = charged.main })
    refl

-- an opened file becomes another
file_changes : (parts : Parts) → IsSoundHeap parts → (number : ℕ) (file : OpenedFile) → IsSoundFile file
    → Becomes parts (record parts { files = slice_set parts.files number file }) (with_opened number file (heap_over (extent_in parts) parts))
file_changes parts is number file sound =
    let size : length (slice_set parts.files number file) ≡ length parts.files = length-set parts.files number file in
    let charged : IsCharged parts = is.charged in
    becomes (record {
      texts = texts_stay parts.strings;
      lists = same_set _;
      sets = same_set _;
      tables = same_set _;
      records = same_set _;
      coexps = le_refl _;
      files = omega arith;
    })
    (record {
      lists = is.structures.lists;
      sets = is.structures.sets;
      tables = is.structures.tables;
      records = is.structures.records;
      made_lists = is.structures.made_lists;
      made_sets = is.structures.made_sets;
      made_tables = is.structures.made_tables;
      made_records = is.structures.made_records;
      coexps = is.structures.coexps;
      files = All-set IsSoundFile parts.files number file sound is.structures.files;
    })
    (record { limit = charged.limit; within = charged.within; counted = (let few = charged.counted in omega arith); main = charged.main })
    refl

-- the changes of a file that definitions name

abbrev as_grown : List ℕ → OpenedFile → OpenedFile
as_grown bytes file = record file { content = file.content ++ bytes }

abbrev as_read_to : ℕ → OpenedFile → OpenedFile
as_read_to place file = record file { place = place }

abbrev as_closed : OpenedFile → OpenedFile
as_closed file = record file { content = []; place = 0; closed = true }

abbrev held_file : Parts → ℕ → OpenedFile
held_file parts number = slice_index_or parts.files number no_file

module _ (parts : Parts) (is : IsSoundHeap parts) (number : ℕ) (there : number < length parts.files) where
  view : held_file parts number ≡ file_at (heap_over (extent_in parts) parts) number
  view = sym (file_view (extent_in parts) parts number)

  held_within : (held_file parts number).place ≤ length (held_file parts number).content
  held_within = (is.structures.files number no_file there).within

  -- no more of it was read than it holds
  pub file_within : (file_at (heap_over (extent_in parts) parts) number).place ≤ length (file_at (heap_over (extent_in parts) parts) number).content
  file_within = subst (λ (file : OpenedFile). file.place ≤ length file.content) view held_within

  as_seen : (change : OpenedFile → OpenedFile) → IsSoundFile (change (held_file parts number))
      → Becomes parts (record parts { files = slice_set parts.files number (change (held_file parts number)) })
      (with_opened number (change (file_at (heap_over (extent_in parts) parts) number)) (heap_over (extent_in parts) parts))
  as_seen change sound =
      subst (λ (file : OpenedFile). Becomes parts (record parts { files = slice_set parts.files number (change (held_file parts number)) })
      (with_opened number (change file) (heap_over (extent_in parts) parts))) view
      (file_changes parts is number (change (held_file parts number)) sound)

  -- bytes go behind what it holds
  pub file_grows : (bytes : List ℕ)
      → Becomes parts (record parts { files = slice_set parts.files number (as_grown bytes (held_file parts number)) })
      (added_to number bytes (heap_over (extent_in parts) parts))
  file_grows bytes = as_seen (as_grown bytes) (record { within = rw length-append (let few = held_within in omega arith) })

  -- so many of its bytes are read
  pub file_reads : (place : ℕ) → place ≤ length (file_at (heap_over (extent_in parts) parts) number).content
      → Becomes parts (record parts { files = slice_set parts.files number (as_read_to place (held_file parts number)) })
      (with_opened number (as_read_to place (file_at (heap_over (extent_in parts) parts) number)) (heap_over (extent_in parts) parts))
  file_reads place few = as_seen (as_read_to place) (record { within = subst (λ (file : OpenedFile). place ≤ length file.content) (sym view) few })

  -- it is closed, and holds nothing any more
  pub file_shuts : Becomes parts (record parts { files = slice_set parts.files number (as_closed (held_file parts number)) })
      (shut number (heap_over (extent_in parts) parts))
  file_shuts = as_seen as_closed (record { within = le_refl 0 })
