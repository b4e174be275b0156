use Rattle.std.proofs.Common.{◌∙◌}
use Rattle.icn_heap.specs.Heaps.{heap_of, parts_of}
use Rattle.icn_heap.proofs.OtherChanges.{members_count}
use Rattle.icn_heap.proofs.heap.Heap.member_count.Goals as goal

pub returns-clause-count : goal.returns-clause-count
unfolding heap_of
returns-clause-count c = c.count_at.ensures.count ∙ members_count (parts_of c.args.self.now) c.args.id
