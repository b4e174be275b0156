-- Worlds whose heap changed while its records kept their fields.
use Rattle.std.proofs.Common.{◌≡◌, refl, ℕ, ◌<◌, length, None}
use Rattle.icn_value.specs.declared.val.Val.{Val}
use Rattle.icn_value.specs.declared.val.Val.TheVariants.{Null as NullVal, Integer as IntegerVal, Text as TextVal, Chars as CharsVal, Std as StdVal, Proc as ProcVal, Rec as RecVal, List as ListVal, Set as SetVal, Table as TableVal, Coexp as CoexpVal}
use Rattle.icn_defs.specs.Arguments.{list_of, table_of}
use Rattle.icn_heap.specs.declared.heap.Heap.{Heap as HeldHeap}
use Rattle.icn_heap.specs.Extents.{Extent, IsLive, value_in}
use Rattle.icn_heap.specs.Heaps.{extent_of, heap_of}
use Rattle.icn_heap.proofs.StructureNumbers.{list_below}

-- a list of a heap is there
pub list_there : (heap : HeldHeap) (id : ℕ) → IsLive (extent_of heap) (ListVal id) → id < length (heap_of heap).lists
list_there heap id is = list_below heap id is

-- a value that is no list
pub no_list : (all : Extent) (val : Val) → ((id : ℕ) → val ≡ ListVal id → ⊥) → list_of (value_in all val) ≡ None
no_list all NullVal none = refl
no_list all (IntegerVal n) none = refl
no_list all (TextVal span) none = refl
no_list all (CharsVal cset) none = refl
no_list all (StdVal file) none = refl
no_list all (ProcVal number) none = refl
no_list all (RecVal id) none = refl
no_list all (ListVal id) none = absurd (none id refl)
no_list all (SetVal id) none = refl
no_list all (TableVal id) none = refl
no_list all (CoexpVal id) none = refl

-- a value that is no table
pub no_table : (all : Extent) (val : Val) → ((id : ℕ) → val ≡ TableVal id → ⊥) → table_of (value_in all val) ≡ None
no_table all NullVal none = refl
no_table all (IntegerVal n) none = refl
no_table all (TextVal span) none = refl
no_table all (CharsVal cset) none = refl
no_table all (StdVal file) none = refl
no_table all (ProcVal number) none = refl
no_table all (RecVal id) none = refl
no_table all (ListVal id) none = refl
no_table all (SetVal id) none = refl
no_table all (TableVal id) none = absurd (none id refl)
no_table all (CoexpVal id) none = refl
