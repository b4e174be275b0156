use Rattle.std.proofs.Common.{◌≤◌, slice_index_or, rules}
use Rattle.icn_structs.specs.Numbered.{with_left}
use Rattle.icn_value.specs.Store.{list_at, with_list}
use Rattle.icn_heap.specs.Extents.{value_in}
use Rattle.icn_heap.specs.HeapParts.{extent_in, no_vals}
use Rattle.icn_heap.specs.Heaps.{extent_of, heap_of, parts_of}
use Rattle.icn_heap.proofs.ListChanges.{list_pushes, list_sound, push_fits}
use Rattle.icn_heap.proofs.ChangedParts.{with_lists, sound_as, steps_as}
use Rattle.icn_heap.proofs.heap.Heap.push.Goals as goal

pub invariant_of-self-2 : goal.invariant_of-self-2
unfolding extent_of
invariant_of-self-2 c = record {
  sound = sound_as (with_lists c.args.self.now _ c.in_ok-push_at.ensures.ok)
      (list_pushes (parts_of c.args.self.now) c.args.self.now.sound c.args.list c.requires.list.live c.in_ok-sum.ensures.sum c.in_ok-sum.ensures.within
      c.args.val c.requires.live);
}

pub returns-clause-step : goal.returns-clause-step
unfolding extent_of heap_of
returns-clause-step c =
    steps_as _ (λ heap. with_list c.args.list (with_left (list_at heap c.args.list) (value_in (extent_of c.args.self.now) c.args.val)) heap)
    c.in_ok-sum.ensures.ok (with_lists c.args.self.now _ c.in_ok-push_at.ensures.ok)
    (list_pushes (parts_of c.args.self.now) c.args.self.now.sound c.args.list c.requires.list.live c.in_ok-sum.ensures.sum c.in_ok-sum.ensures.within c.args.val
    c.requires.live)

pub push_at-requires-clause-numbers_fit : goal.push_at-requires-clause-numbers_fit
unfolding extent_of
push_at-requires-clause-numbers_fit c =
    let old = c.args.self.now in
    let few : old.cells ≤ 4294967295 = search rules in
    push_fits (extent_in (parts_of old)) old.cells (slice_index_or old.lists.shelf.things c.args.list no_vals)
    (list_sound (parts_of old) old.sound c.args.list c.requires.list.live) few
