use Rattle.std.proofs.Common.{◌∙◌, ap, sym, [], ◌+◌, map, fold, length, arith}
use Rattle.std.proofs.lemmas.List.{length-map}
use Rattle.icn_value.specs.Sameness.{with_member}
use Rattle.icn_value.specs.Changes.{charged_cells}
use Rattle.icn_heap.specs.Extents.{value_in}
use Rattle.icn_heap.specs.HeapParts.{member_in}
use Rattle.icn_heap.specs.MadeStructures.{having_members}
use Rattle.icn_heap.specs.Heaps.{extent_of, heap_of, parts_of}
use Rattle.icn_heap.proofs.OtherChanges.{set_joins}
use Rattle.icn_heap.proofs.ChangedParts.{with_sets, sound_as, keeps_as, steps_as}
use Rattle.icn_structs.proofs.ShelvedThings.{newly_there}
use Rattle.icn_heap.proofs.heap.Heap.set_from.Goals as goal

pub invariant_of-self-2 : goal.invariant_of-self-2
unfolding extent_of heap_of
invariant_of-self-2 c = record {
  sound = sound_as (with_sets c.args.self.now _ c.in_ok-add_members.ensures.ok)
      (set_joins (parts_of c.args.self.now) c.args.self.now.sound (omega (arith, c.in_ok-sum.ensures.sum)) c.in_ok-sum.ensures.within
      _ (omega (arith, c.in_ok-sum.ensures.sum)) c.in_ok-members.ensures.sound c.in_ok-members.ensures.members);
}

pub returns-clause-step : goal.returns-clause-step
unfolding extent_of heap_of
returns-clause-step c =
    steps_as _ (having_members (fold with_member [] (map (value_in (extent_of c.args.self.now)) c.args.vals.now)))
    (ap (λ n. charged_cells (heap_of c.args.self.now) (1 + n)) (sym (c.len.ensures.count ∙ (sym (length-map c.in_ok-members.members member_in)
    ∙ ap length c.in_ok-members.ensures.members))) ∙ c.in_ok-sum.ensures.ok) (with_sets c.args.self.now _ c.in_ok-add_members.ensures.ok)
    (set_joins (parts_of c.args.self.now) c.args.self.now.sound (omega (arith, c.in_ok-sum.ensures.sum)) c.in_ok-sum.ensures.within
    _ (omega (arith, c.in_ok-sum.ensures.sum)) c.in_ok-members.ensures.sound c.in_ok-members.ensures.members)

pub returns-clause-kept : goal.returns-clause-kept
unfolding extent_of heap_of
returns-clause-kept c =
    keeps_as (with_sets c.args.self.now _ c.in_ok-add_members.ensures.ok)
    (set_joins (parts_of c.args.self.now) c.args.self.now.sound (omega (arith, c.in_ok-sum.ensures.sum)) c.in_ok-sum.ensures.within
    _ (omega (arith, c.in_ok-sum.ensures.sum)) c.in_ok-members.ensures.sound c.in_ok-members.ensures.members)

pub returns-clause-live : goal.returns-clause-live
unfolding extent_of
returns-clause-live c = record {
  live = newly_there _ _ _ c.in_ok-add_members.ensures.ok c.args.self.now.sound.structures.made_sets.long c.len-id.ensures.count;
}
