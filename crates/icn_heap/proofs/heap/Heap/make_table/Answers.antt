use Rattle.std.proofs.Common.{refl, arith}
use Rattle.icn_value.specs.Changes.{having_table}
use Rattle.icn_heap.specs.Extents.{value_in}
use Rattle.icn_heap.specs.Heaps.{extent_of, heap_of, parts_of}
use Rattle.icn_heap.proofs.OtherChanges.{table_joins}
use Rattle.icn_heap.proofs.ChangedParts.{with_tables, sound_as, keeps_as, steps_as}
use Rattle.std.proofs.lemmas.List.Elements.{All-nil}
use Rattle.icn_heap.specs.HeapParts.{IsSoundPair}
use Rattle.icn_structs.proofs.ShelvedThings.{newly_there}
use Rattle.icn_heap.proofs.heap.Heap.make_table.Goals as goal

pub invariant_of-self-2 : goal.invariant_of-self-2
unfolding extent_of
invariant_of-self-2 c = record {
  sound = sound_as (with_tables c.args.self.now _ c.in_ok-add_table.ensures.ok)
      (table_joins (parts_of c.args.self.now) c.args.self.now.sound (omega (arith, c.in_ok-sum.ensures.sum)) c.in_ok-sum.ensures.within
      (omega (arith, c.in_ok-sum.ensures.sum)) (record { default = c.requires; pairs = All-nil (IsSoundPair (extent_of c.args.self.now)) }) refl);
}

pub returns-clause-step : goal.returns-clause-step
unfolding extent_of heap_of
returns-clause-step c =
    (steps_as _ (having_table (value_in (extent_of c.args.self.now) c.args.default))
    c.in_ok-sum.ensures.ok (with_tables c.args.self.now _ c.in_ok-add_table.ensures.ok)
    (table_joins (parts_of c.args.self.now) c.args.self.now.sound (omega (arith, c.in_ok-sum.ensures.sum)) c.in_ok-sum.ensures.within
    (omega (arith, c.in_ok-sum.ensures.sum)) (record { default = c.requires; pairs = All-nil (IsSoundPair (extent_of c.args.self.now)) }) refl))

pub returns-clause-kept : goal.returns-clause-kept
unfolding extent_of
returns-clause-kept c =
    keeps_as (with_tables c.args.self.now _ c.in_ok-add_table.ensures.ok)
    (table_joins (parts_of c.args.self.now) c.args.self.now.sound (omega (arith, c.in_ok-sum.ensures.sum)) c.in_ok-sum.ensures.within
    (omega (arith, c.in_ok-sum.ensures.sum)) (record { default = c.requires; pairs = All-nil (IsSoundPair (extent_of c.args.self.now)) }) refl)

pub returns-clause-live : goal.returns-clause-live
unfolding extent_of
returns-clause-live c = record {
  live = newly_there _ _ _ c.in_ok-add_table.ensures.ok c.args.self.now.sound.structures.made_tables.long c.len-id.ensures.count;
}
