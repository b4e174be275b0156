use Rattle.icn_heap.specs.Heaps.{extent_of, heap_of, parts_of}
use Rattle.icn_heap.proofs.FileChanges.{file_grows}
use Rattle.icn_heap.proofs.ChangedParts.{added_sound, with_files, keeps_as, stands_as}
use Rattle.icn_heap.proofs.heap.Heap.add_to_file.Goals as goal

pub invariant_of-self : goal.invariant_of-self
unfolding extent_of
invariant_of-self c = record {
  sound = added_sound c.args.self.now c.args.number c.args.bytes.now c.args.self.now.sound c.requires.live c.added_at.new.files.items c.added_at.result
      c.added_at.ensures.ok c.added_at.ensures.err;
}

pub returns-clause-step : goal.returns-clause-step
unfolding extent_of heap_of
returns-clause-step c =
    stands_as (with_files c.args.self.now _ c.in_ok-added_at.ensures.ok)
    (file_grows (parts_of c.args.self.now) c.args.self.now.sound c.args.number c.requires.live c.args.bytes.now)

pub returns-clause-kept : goal.returns-clause-kept
unfolding extent_of
returns-clause-kept c =
    keeps_as (with_files c.args.self.now _ c.in_ok-added_at.ensures.ok)
    (file_grows (parts_of c.args.self.now) c.args.self.now.sound c.args.number c.requires.live c.args.bytes.now)
