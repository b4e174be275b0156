use Rattle.std.proofs.Common.{◌∙◌}
use Rattle.icn_heap.specs.Heaps.{extent_of, heap_of, parts_of}
use Rattle.icn_heap.proofs.OtherChanges.{looked_found, pair_leaves}
use Rattle.icn_heap.proofs.ChangedParts.{with_tables, sound_as, stands_as}
use Rattle.icn_heap.proofs.heap.Heap.remove_pair.Goals as goal

pub invariant_of-self : goal.invariant_of-self
unfolding extent_of
invariant_of-self c = record {
  sound = sound_as (with_tables c.args.self.now _ c.entry_removed_at.ensures.pairs)
      (pair_leaves (parts_of c.args.self.now) c.args.self.now.sound c.args.table c.requires.table.live c.args.key.now c.requires.formed);
}

pub returns-clause-found : goal.returns-clause-found
unfolding extent_of heap_of
returns-clause-found c = c.entry_removed_at.ensures.found
    ∙ looked_found (parts_of c.args.self.now) c.args.self.now.sound c.args.table c.requires.table.live c.args.key.now c.requires.formed

pub returns-clause-step : goal.returns-clause-step
unfolding extent_of heap_of
returns-clause-step c =
    stands_as (with_tables c.args.self.now _ c.entry_removed_at.ensures.pairs)
    (pair_leaves (parts_of c.args.self.now) c.args.self.now.sound c.args.table c.requires.table.live c.args.key.now c.requires.formed)
