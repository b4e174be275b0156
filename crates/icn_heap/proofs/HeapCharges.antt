-- Charges that fit, and those that do not.
use Rattle.std.proofs.Common.{◌≡◌, refl, ℕ, ◌+◌, ◌<◌, ◌≤◌, Result, Ok, Err, arith}
use Rattle.std.proofs.lemmas.Bool.{le-leb, lt-leb}
use Rattle.icn_value.specs.declared.full.Full.{Full}
use Rattle.icn_value.specs.declared.full.Full.TheVariants.{Strings, Cells}
use Rattle.icn_value.specs.Store.{Heap}
use Rattle.icn_value.specs.Changes.{charged_strings, charged_cells, LimitsFirst}
use Rattle.icn_heap.specs.Heaps.{with_cells}

pub charge_fits : (heap : Heap) (count sum : ℕ) → sum ≡ heap.cells + count → sum ≤ heap.bounds.cells → charged_cells heap count ≡ Ok (with_cells sum heap)
unfolding charged_cells
charge_fits heap count sum is fits = rw (le-leb (heap.cells + count) heap.bounds.cells (omega arith), is) refl

pub charge_full : (heap : Heap) (count : ℕ) → heap.bounds.cells < heap.cells + count → charged_cells heap count ≡ Err (Cells heap.cells heap.bounds.cells)
unfolding charged_cells
charge_full heap count full = rw (lt-leb (heap.cells + count) heap.bounds.cells full) refl

pub strings_fit : (heap : Heap) (count sum : ℕ) → sum ≡ heap.strings + count → sum ≤ heap.bounds.strings
    → charged_strings heap count ≡ (let result : Result Heap Full = Ok (record heap { strings = sum }) in result)
unfolding charged_strings
strings_fit heap count sum is fits = rw (le-leb (heap.strings + count) heap.bounds.strings (omega arith), is) refl

pub strings_full_is : (heap : Heap) (count : ℕ) → heap.bounds.strings < heap.strings + count
    → charged_strings heap count ≡ Err (Strings heap.strings heap.bounds.strings)
unfolding charged_strings
strings_full_is heap count full = rw (lt-leb (heap.strings + count) heap.bounds.strings full) refl

-- a change that is made is not refused, and one that is refused gives its answer
pub limits_ok : {A B : Type 0} {change : Result A Full} {made : A} {result : Result B Full} → change ≡ Ok made → LimitsFirst change result
limits_ok done full refused = cc

pub limits_err : {A B : Type 0} {change : Result A Full} {why : Full} {result : Result B Full} → change ≡ Err why → result ≡ Err why → LimitsFirst change result
limits_err refused answer full refused' = cc
