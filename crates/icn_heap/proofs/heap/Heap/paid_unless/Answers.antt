use Rattle.std.proofs.Common.{ap}
use Rattle.icn_value.specs.Changes.{charged_unless}
use Rattle.icn_heap.specs.Heaps.{heap_of}
use Rattle.icn_heap.proofs.heap.Heap.paid_unless.Goals as goal

pub returns-then-nothing-clause-ok : goal.returns-then-nothing-clause-ok
unfolding heap_of
returns-then-nothing-clause-ok c = ap (λ b. charged_unless b (heap_of c.args.self.now)) c.if-nothing.true
