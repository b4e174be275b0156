use Rattle.std.proofs.Common.{◌≡◌, pos, replicate}
use Rattle.icn_heap.proofs.deques.deque_of_copies.Given as goal

abbrev pub invariant-loop-i : goal.invariant-loop-i
invariant-loop-i l = record { items : l.list.items ≡ replicate l.i l.fill; number : l.list.number ≡ pos 1 }
