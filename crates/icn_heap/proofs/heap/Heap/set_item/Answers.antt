use Rattle.std.proofs.Common.{rules, FitsSigned, w64}
use Rattle.std.proofs.lemmas.Int.{to_z-of_z}
use Rattle.icn_heap.specs.Heaps.{extent_of, heap_of, parts_of}
use Rattle.icn_heap.proofs.ListChanges.{list_sets, numbered_is}
use Rattle.icn_heap.proofs.ChangedParts.{with_lists, sound_as, stands_as}
use Rattle.icn_heap.proofs.heap.Heap.set_item.Goals as goal

pub invariant_of-self : goal.invariant_of-self
unfolding extent_of
invariant_of-self c =
    let fits : FitsSigned w64 c.args.n = search rules in
    record {
      sound = sound_as (with_lists c.args.self.now _ (rw (to_z-of_z w64 c.args.n fits) at c.set_at.ensures.items))
          (list_sets (parts_of c.args.self.now) c.args.self.now.sound c.args.list c.requires.list.live c.args.n c.args.val c.requires.live);
    }

pub returns-clause-found : goal.returns-clause-found
unfolding extent_of heap_of
returns-clause-found c =
    let fits : FitsSigned w64 c.args.n = search rules in
    rw (c.set_at.ensures.found, to_z-of_z w64 c.args.n fits)
    (numbered_is (parts_of c.args.self.now) c.args.self.now.sound c.args.list c.requires.list.live c.args.n)

pub returns-clause-step : goal.returns-clause-step
unfolding extent_of heap_of
returns-clause-step c =
    let fits : FitsSigned w64 c.args.n = search rules in
    stands_as (with_lists c.args.self.now _ (rw (to_z-of_z w64 c.args.n fits) at c.set_at.ensures.items))
    (list_sets (parts_of c.args.self.now) c.args.self.now.sound c.args.list c.requires.list.live c.args.n c.args.val c.requires.live)
