use Rattle.std.proofs.Common.{◌∙◌}
use Rattle.icn_heap.proofs.OtherChanges.{items_count}
use Rattle.icn_heap.proofs.heap.Heap.item_count.Goals as goal

pub returns-clause-count : goal.returns-clause-count
returns-clause-count c = c.len.ensures.count ∙ items_count _ _ c.list.ensures.items
