-- What a call over a world says of a change of its heap.
use Rattle.std.proofs.Common.{◌≡◌, ◌∙◌, ℕ, ◌+◌, ◌<◌, List, None, sym, ap}
use Rattle.std.specs.Prelude.{IsErrAnd, Result, Ok, Err}
use Rattle.std.specs.List.{All}
use Rattle.icn_value.specs.declared.full.Full.{Full}
use Rattle.icn_value.specs.declared.full.Full.TheVariants.{Strings}
use Rattle.icn_value.specs.declared.item.Pair.{Pair}
use Rattle.icn_value.specs.declared.val.Val.{Val}
use Rattle.icn_value.specs.Store.{Heap, Outside}
use Rattle.icn_value.specs.Changes.{ChangedHeap, LimitsFirst, Refuses, charged_strings}
use Rattle.icn_defs.specs.Rows.{Row}
use Rattle.icn_heap.specs.declared.heap.Heap.{Heap as HeldHeap}
use Rattle.icn_heap.specs.Extents.{IsLive, KeepsValues}
use Rattle.icn_heap.specs.Heaps.{extent_of, heap_of}
use Rattle.icn_heap.proofs.HeapCharges.{strings_full_is}
use Rattle.icn_vars.specs.declared.words.Words.{Words}
use Rattle.icn_vars.specs.declared.stop.Stop.{Stop}
use Rattle.icn_vars.specs.declared.stop.Stop.TheVariants.{Error}
use Rattle.icn_vars.specs.WorldFacts.{IsSoundWorld}
use Rattle.icn_vars.specs.Stops.{stop_of}
use Rattle.icn_vars.proofs.HeapChanges.{IsChange, change_stops}
use Rattle.icn_vars.proofs.GrowingWorlds.{setting_over}
use Rattle.icn_args.specs.RowWords.{IsPassed}
use Rattle.icn_args.proofs.RowAnswers.{passed_stops}

-- a change that is refused
pub charge_stops : {B : Type 0} (old new : HeldHeap) (pair : Pair) (words : Words)
    (globals statics locals : List Val) {part : Row → Row} {change : Heap → ChangedHeap} (full : Full) (result : Result B Stop)
    → KeepsValues (extent_of old) (extent_of new) → IsSoundWorld (extent_of old) pair words globals statics → All (IsLive (extent_of old)) locals
    → IsChange part change → heap_of new ≡ heap_of old
    → Refuses (change (heap_of old)) full → IsErrAnd result (λ stop. stop ≡ stop_of full) → (outside : Outside)
    → IsPassed (extent_of new) part (setting_over outside old pair words globals statics locals)
    (setting_over outside new pair words globals statics locals) result
charge_stops old new pair words globals statics locals {part} full result keeps sound live is same why err outside =
    passed_stops (extent_of new) part (setting_over outside old pair words globals statics locals) (setting_over outside new pair words globals statics locals)
    (stop_of full) result err
    (change_stops old new pair words globals statics locals keeps sound live is same full why (extent_of new) outside)

-- Where the limit of strings would be passed

no_heap : (heap : Heap) (full : Full) → (let refused : ChangedHeap = Err full in refused ≡ Ok heap) → ⊥
no_heap heap full is = cc

-- nothing is charged
pub none_charged : (heap new : Heap) (count : ℕ) → heap.bounds.strings < heap.strings + count → charged_strings heap count ≡ Ok new → ⊥
none_charged heap new count over done =
    no_heap new (Strings heap.strings heap.bounds.strings) (sym (strings_full_is heap count over) ∙ done)

same_full : {A : Type 0} (full other : Full) → (let one : Result A Full = Err full in one ≡ Err other) → full ≡ other
same_full full other is = cc

stopped_by : {B : Type 0} (result : Result B Stop) (stop : Stop) → IsErrAnd result (λ other. other ≡ stop) → result ≡ Err stop
stopped_by (Ok value) stop is = absurd is
stopped_by (Err other) stop is = ap Err is

-- and the answer is its error
pub limit_passed : {A B : Type 0} (heap : Heap) (count : ℕ) (full : Full) (result : Result B Stop) → heap.bounds.strings < heap.strings + count
    → (let refused : Result A Full = Err full in LimitsFirst (charged_strings heap count) refused) → IsErrAnd result (λ stop. stop ≡ stop_of full)
    → result ≡ Err (Error 306 None)
limit_passed {A} heap count full result over first err =
    let limit : Full = Strings heap.strings heap.bounds.strings in
    let is : full ≡ limit = same_full {A = A} full limit (first limit (strings_full_is heap count over)) in
    stopped_by result (stop_of full) err ∙ ap (λ why. Err (stop_of why)) is
