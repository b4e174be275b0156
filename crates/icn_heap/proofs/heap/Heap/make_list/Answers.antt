use Rattle.std.proofs.Common.{replicate}
use Rattle.std.proofs.lemmas.List.{length-replicate}
use Rattle.icn_value.specs.Changes.{having_list}
use Rattle.icn_heap.specs.Extents.{value_in}
use Rattle.icn_heap.specs.Heaps.{extent_of, heap_of, parts_of}
use Rattle.icn_heap.proofs.ListChanges.{list_repeats}
use Rattle.icn_heap.proofs.ChangedParts.{with_lists, sound_as, keeps_as, steps_as}
use Rattle.icn_structs.proofs.ShelvedThings.{newly_there}
use Rattle.icn_heap.proofs.heap.Heap.make_list.Goals as goal

pub invariant_of-self-2 : goal.invariant_of-self-2
unfolding extent_of
invariant_of-self-2 c = record {
  sound = sound_as (with_lists c.args.self.now _ c.in_ok-add_list.ensures.ok)
      (list_repeats (parts_of c.args.self.now) c.args.self.now.sound c.args.n c.args.fill c.in_ok-sum.ensures.sum c.in_ok-sum.ensures.within
      c.in_ok-list.ensures.items c.in_ok-list.ensures.number c.requires);
}

pub returns-clause-step : goal.returns-clause-step
unfolding extent_of heap_of
returns-clause-step c =
    rw length-replicate
    (steps_as _ (having_list (replicate c.args.n (value_in (extent_of c.args.self.now) c.args.fill)))
    c.in_ok-sum.ensures.ok (with_lists c.args.self.now _ c.in_ok-add_list.ensures.ok)
    (list_repeats (parts_of c.args.self.now) c.args.self.now.sound c.args.n c.args.fill c.in_ok-sum.ensures.sum c.in_ok-sum.ensures.within
    c.in_ok-list.ensures.items c.in_ok-list.ensures.number c.requires))

pub returns-clause-kept : goal.returns-clause-kept
unfolding extent_of
returns-clause-kept c =
    keeps_as (with_lists c.args.self.now _ c.in_ok-add_list.ensures.ok)
    (list_repeats (parts_of c.args.self.now) c.args.self.now.sound c.args.n c.args.fill c.in_ok-sum.ensures.sum c.in_ok-sum.ensures.within
    c.in_ok-list.ensures.items c.in_ok-list.ensures.number c.requires)

pub returns-clause-live : goal.returns-clause-live
unfolding extent_of
returns-clause-live c = record {
  live = newly_there _ _ _ c.in_ok-add_list.ensures.ok c.args.self.now.sound.structures.made_lists.long c.len-id.ensures.count;
}
