-- Changes that are paid for are not refused by a limit.
use Rattle.std.proofs.Common.{◌≡◌, ap, Result, Ok}
use Rattle.icn_value.specs.declared.full.Full.{Full}
use Rattle.icn_value.specs.Store.{Heap}
use Rattle.icn_value.specs.Changes.{and_then, LimitsFirst}
use Rattle.icn_heap.proofs.HeapCharges.{limits_ok}

pub limits_paid : {B : Type 0} {paid : Heap} {result : Result B Full} (charge : Result Heap Full) (change : Heap → Heap) → charge ≡ Ok paid
    → LimitsFirst (and_then charge (λ heap. let r : Result Heap Full = Ok (change heap) in r)) result
limits_paid charge change is = limits_ok (ap (λ c. and_then c (λ heap. let r : Result Heap Full = Ok (change heap) in r)) is)
