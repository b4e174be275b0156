use Rattle.std.proofs.Common.{◌∙◌}
use Rattle.icn_heap.specs.Heaps.{extent_of, heap_of, parts_of}
use Rattle.icn_heap.proofs.OtherChanges.{has_key_is}
use Rattle.icn_heap.proofs.heap.Heap.has_member.Goals as goal

pub returns : goal.returns
unfolding extent_of heap_of
returns c = c.has_at.ensures ∙ has_key_is (parts_of c.args.self.now) c.args.self.now.sound c.args.set c.requires.set.live c.args.key.now c.requires.formed
