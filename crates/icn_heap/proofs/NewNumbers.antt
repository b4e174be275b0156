-- Structures that are made have numbers of their own.
use Rattle.std.proofs.Common.{◌≡◌, ◌≢◌, ◌∙◌, ap, ℕ, ◌+◌, Bool, true, false, nat_le, List, [], ◌∷◌, length, Ok, Err, arith, length-append, if◌then◌else◌}
use Rattle.icn_value.specs.declared.full.Full.TheVariants.{Cells}
use Rattle.icn_value.specs.Values.{Value, ARecord, AList, ASet, ATable}
use Rattle.icn_value.specs.Store.{Heap, new_list}
use Rattle.icn_value.specs.Changes.{ChangedHeap, and_then, charged_cells, having_list, having_set, having_table, having_record, made_list, made_set, made_table, made_record, next_list, next_set, next_table, next_record}
use Rattle.icn_heap.specs.Heaps.{with_cells}

number_in : Value → ℕ
number_in (ARecord n) = n
number_in (AList n) = n
number_in (ASet n) = n
number_in (ATable n) = n
number_in value = 0

-- what is made is the change of the heap that paid for it
paid_for : (heap : Heap) (count : ℕ) (change : Heap → Heap) {made : Heap}
    → and_then (charged_cells heap count) (λ paid. let r : ChangedHeap = Ok (change paid) in r) ≡ Ok made
    → made ≡ change (with_cells (heap.cells + count) heap)
unfolding charged_cells
paid_for heap count change {made} done = by_test (nat_le (heap.cells + count) heap.bounds.cells) done
  where
    by_test : (b : Bool)
        → and_then (if b then (let r : ChangedHeap = Ok (with_cells (heap.cells + count) heap) in r)
        else Err (Cells heap.cells heap.bounds.cells)) (λ paid. let r : ChangedHeap = Ok (change paid) in r) ≡ Ok made
        → made ≡ change (with_cells (heap.cells + count) heap)
    by_test true done = cc
    by_test false done = cc

one_more : {n m : ℕ} → m ≡ n + 1 → m ≢ n
one_more more same = omega arith

pub lists_differ : (heap made : Heap) (items : List Value) → made_list heap items ≡ Ok made → next_list made ≢ next_list heap
unfolding number_in
lists_differ heap made items done same =
    one_more (ap (λ (h : Heap). length h.lists) (paid_for heap (1 + length items) (having_list items) done) ∙ length-append heap.lists (new_list items ∷ []))
    (ap number_in same)

pub sets_differ : (heap made : Heap) → made_set heap ≡ Ok made → next_set made ≢ next_set heap
unfolding number_in
sets_differ heap made done same =
    one_more (ap (λ (h : Heap). length h.sets) (paid_for heap 1 having_set done) ∙ length-append heap.sets ([] ∷ [])) (ap number_in same)

pub tables_differ : (heap made : Heap) (default : Value) → made_table heap default ≡ Ok made → next_table made ≢ next_table heap
unfolding number_in
tables_differ heap made default done same =
    one_more (ap (λ (h : Heap). length h.tables) (paid_for heap 1 (having_table default) done)
    ∙ length-append heap.tables (record { default = default; pairs = [] } ∷ [])) (ap number_in same)

pub records_differ : (heap made : Heap) (kind : ℕ) (fields : List Value) → made_record heap kind fields ≡ Ok made → next_record made ≢ next_record heap
unfolding number_in
records_differ heap made kind fields done same =
    one_more (ap (λ (h : Heap). length h.records) (paid_for heap (1 + length fields) (having_record kind fields) done)
    ∙ length-append heap.records (record { kind = kind; fields = fields } ∷ [])) (ap number_in same)
