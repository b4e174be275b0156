use Rattle.icn_heap.proofs.heap.Heap.remove.Goals as goal

pub returns-in-Set-clause-step : goal.returns-in-Set-clause-step
returns-in-Set-clause-step c = rw c.in-Set.is (rw c.in_ok-held.ensures.value at c.remove_member.ensures.step)
