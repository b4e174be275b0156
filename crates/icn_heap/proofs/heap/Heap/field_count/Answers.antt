use Rattle.std.proofs.Common.{◌∙◌, ap, length}
use Rattle.icn_heap.specs.Records.{HeldRecord}
use Rattle.icn_heap.specs.Heaps.{extent_of, heap_of, parts_of}
use Rattle.icn_heap.proofs.OtherChanges.{field_count}
use Rattle.icn_heap.proofs.heap.Heap.field_count.Goals as goal

pub returns-clause-count : goal.returns-clause-count
unfolding extent_of heap_of
returns-clause-count c = c.len.ensures.count ∙ (ap (λ (held : HeldRecord). length held.values) c.at.ensures
    ∙ field_count (parts_of c.args.self.now) c.args.self.now.sound c.args.id c.requires.live)
