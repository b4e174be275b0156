use Rattle.icn_heap.specs.Heaps.{extent_of, heap_of, parts_of}
use Rattle.icn_heap.proofs.FileChanges.{file_shuts}
use Rattle.icn_heap.proofs.ChangedParts.{with_files, sound_as, stands_as}
use Rattle.icn_heap.proofs.heap.Heap.shut.Goals as goal

pub invariant_of-self : goal.invariant_of-self
unfolding extent_of
invariant_of-self c = record {
  sound = sound_as (with_files c.args.self.now _ c.shut_at.ensures)
      (file_shuts (parts_of c.args.self.now) c.args.self.now.sound c.args.number c.requires.live);
}

pub returns-clause-step : goal.returns-clause-step
unfolding extent_of heap_of
returns-clause-step c =
    stands_as (with_files c.args.self.now _ c.shut_at.ensures)
    (file_shuts (parts_of c.args.self.now) c.args.self.now.sound c.args.number c.requires.live)
