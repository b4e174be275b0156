use Rattle.std.proofs.Common.{◌∙◌, ap}
use Rattle.std.specs.Option.{option_map}
use Rattle.icn_heap.specs.Extents.{value_in}
use Rattle.icn_heap.specs.Heaps.{extent_of, heap_of, parts_of}
use Rattle.icn_heap.proofs.ListChanges.{list_pulls, last_live, last_is, item_kept, item_stays}
use Rattle.icn_heap.proofs.ChangedParts.{with_lists, sound_as, keeps_as, stands_as}
use Rattle.icn_heap.proofs.heap.Heap.pull.Goals as goal

pub invariant_of-self : goal.invariant_of-self
unfolding extent_of
invariant_of-self c = record {
  sound = sound_as (with_lists c.args.self.now _ c.pull_at.ensures.rest)
      (list_pulls (parts_of c.args.self.now) c.args.self.now.sound c.args.list c.requires.live);
}

pub returns-clause-step : goal.returns-clause-step
unfolding extent_of heap_of
returns-clause-step c =
    stands_as (with_lists c.args.self.now _ c.pull_at.ensures.rest) (list_pulls (parts_of c.args.self.now) c.args.self.now.sound c.args.list c.requires.live)

pub returns-clause-item : goal.returns-clause-item
unfolding extent_of heap_of
returns-clause-item c =
    ap (option_map (value_in _)) c.pull_at.ensures.item
    ∙ item_kept _ (keeps_as (with_lists c.args.self.now _ c.pull_at.ensures.rest)
    (list_pulls (parts_of c.args.self.now) c.args.self.now.sound c.args.list c.requires.live))
    (last_live (parts_of c.args.self.now) c.args.self.now.sound c.args.list c.requires.live)
    (last_is (parts_of c.args.self.now) c.args.self.now.sound c.args.list c.requires.live)

pub returns-clause-live : goal.returns-clause-live
unfolding extent_of
returns-clause-live c =
    rw c.pull_at.ensures.item (item_stays _ (keeps_as (with_lists c.args.self.now _ c.pull_at.ensures.rest)
    (list_pulls (parts_of c.args.self.now) c.args.self.now.sound c.args.list c.requires.live))
    (last_live (parts_of c.args.self.now) c.args.self.now.sound c.args.list c.requires.live))
