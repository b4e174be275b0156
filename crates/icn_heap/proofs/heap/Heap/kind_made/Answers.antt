use Rattle.std.proofs.Common.{◌∙◌, ap, sym}
use Rattle.icn_value.specs.Store.{Record}
use Rattle.icn_heap.specs.Heaps.{extent_of, heap_of, parts_of}
use Rattle.icn_heap.proofs.OtherChanges.{record_view}
use Rattle.icn_heap.proofs.heap.Heap.kind_made.Goals as goal

pub returns : goal.returns
unfolding extent_of heap_of
returns c =
    c.kind.ensures
    ∙ sym (ap (λ (structure : Record). structure.kind) (record_view (extent_of c.args.self.now) (parts_of c.args.self.now) c.args.rec))
