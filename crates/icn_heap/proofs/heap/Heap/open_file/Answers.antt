use Rattle.std.proofs.Common.{arith}
use Rattle.std.specs.Prelude.{string_bytes}
use Rattle.icn_value.specs.Changes.{having_file, new_file}
use Rattle.icn_heap.specs.Heaps.{extent_of, heap_of, parts_of}
use Rattle.icn_heap.proofs.FileChanges.{file_joins}
use Rattle.icn_heap.proofs.ChangedParts.{with_files, sound_as, keeps_as, steps_as}
use Rattle.icn_heap.proofs.heap.Heap.open_file.Goals as goal

pub invariant_of-self-2 : goal.invariant_of-self-2
unfolding extent_of
invariant_of-self-2 c = record {
  sound = sound_as (with_files c.args.self.now _ c.in_ok-add_file.ensures.ok)
      (file_joins (parts_of c.args.self.now) c.args.self.now.sound (omega (arith, c.in_ok-sum.ensures.sum)) c.in_ok-sum.ensures.within
      (new_file (string_bytes c.args.name) c.args.mode c.args.content.items) (record { within = omega arith }));
}

pub returns-clause-step : goal.returns-clause-step
unfolding extent_of heap_of
returns-clause-step c =
    steps_as _ (having_file (new_file (string_bytes c.args.name) c.args.mode c.args.content.items))
    c.in_ok-sum.ensures.ok (with_files c.args.self.now _ c.in_ok-add_file.ensures.ok)
    (file_joins (parts_of c.args.self.now) c.args.self.now.sound (omega (arith, c.in_ok-sum.ensures.sum)) c.in_ok-sum.ensures.within
    (new_file (string_bytes c.args.name) c.args.mode c.args.content.items) (record { within = omega arith }))

pub returns-clause-kept : goal.returns-clause-kept
unfolding extent_of
returns-clause-kept c =
    keeps_as (with_files c.args.self.now _ c.in_ok-add_file.ensures.ok)
    (file_joins (parts_of c.args.self.now) c.args.self.now.sound (omega (arith, c.in_ok-sum.ensures.sum)) c.in_ok-sum.ensures.within
    (new_file (string_bytes c.args.name) c.args.mode c.args.content.items) (record { within = omega arith }))
