use Rattle.icn_heap.specs.Heaps.{extent_of}
use Rattle.test_rows.proofs.operations.operands.operand.Goals as goal

pub returns-in_default-clause-live : goal.returns-in_default-clause-live
returns-in_default-clause-live c = c.plain.ensures.live (extent_of c.args.w.now.heap)
