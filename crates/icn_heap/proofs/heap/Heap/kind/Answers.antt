use Rattle.std.proofs.Common.{◌∙◌, ap}
use Rattle.icn_heap.specs.Records.{HeldRecord}
use Rattle.icn_heap.specs.Heaps.{extent_of, heap_of, parts_of}
use Rattle.icn_heap.proofs.OtherChanges.{kind_is}
use Rattle.icn_heap.proofs.heap.Heap.kind.Goals as goal

pub returns : goal.returns
unfolding extent_of heap_of
returns c = c.kind.ensures
    ∙ (ap (λ (held : HeldRecord). held.kind) c.at.ensures ∙ kind_is (parts_of c.args.self.now) c.args.self.now.sound c.args.rec c.requires.live)
