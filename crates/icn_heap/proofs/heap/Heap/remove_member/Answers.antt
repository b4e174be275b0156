use Rattle.std.proofs.Common.{◌∙◌}
use Rattle.icn_heap.specs.Heaps.{extent_of, heap_of, parts_of}
use Rattle.icn_heap.proofs.OtherChanges.{has_key_is, member_leaves}
use Rattle.icn_heap.proofs.ChangedParts.{with_sets, sound_as, stands_as}
use Rattle.icn_heap.proofs.heap.Heap.remove_member.Goals as goal

pub invariant_of-self : goal.invariant_of-self
unfolding extent_of
invariant_of-self c = record {
  sound = sound_as (with_sets c.args.self.now _ c.member_removed_at.ensures.members)
      (member_leaves (parts_of c.args.self.now) c.args.self.now.sound c.args.set c.requires.set.live c.args.key.now c.requires.formed
      c.keys_of_members_differ.ensures);
}

pub returns-clause-found : goal.returns-clause-found
unfolding extent_of heap_of
returns-clause-found c =
    c.member_removed_at.ensures.found
    ∙ has_key_is (parts_of c.args.self.now) c.args.self.now.sound c.args.set c.requires.set.live c.args.key.now c.requires.formed

pub returns-clause-step : goal.returns-clause-step
unfolding extent_of heap_of
returns-clause-step c =
    stands_as (with_sets c.args.self.now _ c.member_removed_at.ensures.members)
    (member_leaves (parts_of c.args.self.now) c.args.self.now.sound c.args.set c.requires.set.live c.args.key.now c.requires.formed
    c.keys_of_members_differ.ensures)
