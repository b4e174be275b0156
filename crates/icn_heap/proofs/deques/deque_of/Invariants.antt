use Rattle.std.proofs.Common.{◌≡◌, pos, take}
use Rattle.icn_heap.proofs.deques.deque_of.Given as goal

abbrev pub invariant-loop-item : goal.invariant-loop-item
invariant-loop-item l = record { items : l.list.items ≡ take l.item-index l.items; number : l.list.number ≡ pos 1 }
