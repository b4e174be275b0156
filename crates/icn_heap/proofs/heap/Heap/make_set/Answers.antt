use Rattle.std.proofs.Common.{refl, arith}
use Rattle.icn_value.specs.Changes.{having_set}
use Rattle.icn_heap.specs.Heaps.{extent_of, heap_of, parts_of}
use Rattle.icn_heap.proofs.OtherChanges.{set_joins}
use Rattle.icn_heap.proofs.ChangedParts.{with_sets, sound_as, keeps_as, steps_as}
use Rattle.std.proofs.Common.{[]}
use Rattle.std.proofs.lemmas.List.Elements.{All-nil}
use Rattle.icn_heap.specs.HeapParts.{IsSoundMember}
use Rattle.icn_structs.proofs.ShelvedThings.{newly_there}
use Rattle.icn_heap.proofs.heap.Heap.make_set.Goals as goal

pub invariant_of-self-2 : goal.invariant_of-self-2
unfolding extent_of
invariant_of-self-2 c = record {
  sound = sound_as (with_sets c.args.self.now _ c.in_ok-add_set.ensures.ok)
      (set_joins (parts_of c.args.self.now) c.args.self.now.sound (omega (arith, c.in_ok-sum.ensures.sum)) c.in_ok-sum.ensures.within []
      (omega (arith, c.in_ok-sum.ensures.sum)) (All-nil (IsSoundMember (extent_of c.args.self.now))) refl);
}

pub returns-clause-step : goal.returns-clause-step
unfolding extent_of heap_of
returns-clause-step c =
    (steps_as _ having_set
    c.in_ok-sum.ensures.ok (with_sets c.args.self.now _ c.in_ok-add_set.ensures.ok)
    (set_joins (parts_of c.args.self.now) c.args.self.now.sound (omega (arith, c.in_ok-sum.ensures.sum)) c.in_ok-sum.ensures.within []
    (omega (arith, c.in_ok-sum.ensures.sum)) (All-nil (IsSoundMember (extent_of c.args.self.now))) refl))

pub returns-clause-kept : goal.returns-clause-kept
unfolding extent_of
returns-clause-kept c =
    keeps_as (with_sets c.args.self.now _ c.in_ok-add_set.ensures.ok)
    (set_joins (parts_of c.args.self.now) c.args.self.now.sound (omega (arith, c.in_ok-sum.ensures.sum)) c.in_ok-sum.ensures.within []
    (omega (arith, c.in_ok-sum.ensures.sum)) (All-nil (IsSoundMember (extent_of c.args.self.now))) refl)

pub returns-clause-live : goal.returns-clause-live
unfolding extent_of
returns-clause-live c = record {
  live = newly_there _ _ _ c.in_ok-add_set.ensures.ok c.args.self.now.sound.structures.made_sets.long c.len-id.ensures.count;
}
