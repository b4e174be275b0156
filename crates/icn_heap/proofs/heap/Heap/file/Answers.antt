use Rattle.std.proofs.Common.{◌∙◌, sym}
use Rattle.icn_heap.specs.Heaps.{extent_of, heap_of, parts_of}
use Rattle.icn_heap.proofs.FileChanges.{file_view, file_within}
use Rattle.icn_heap.proofs.heap.Heap.file.Goals as goal

pub returns-clause-file : goal.returns-clause-file
unfolding extent_of heap_of
returns-clause-file c = c.file_ref.ensures ∙ sym (file_view (extent_of c.args.self.now) (parts_of c.args.self.now) c.args.number)

pub returns-clause-within : goal.returns-clause-within
unfolding extent_of heap_of
returns-clause-within c = file_within (parts_of c.args.self.now) c.args.self.now.sound c.args.number c.requires.live
