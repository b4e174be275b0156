use Rattle.std.proofs.Common.{ap, refl}
use Rattle.std.proofs.lemmas.Int.{to_z-of_z}
use Rattle.std.proofs.lemmas.List.Elements.{All-nil}
use Rattle.std.specs.Int.{w64}
use Rattle.icn_value.specs.Store.{Heap}
use Rattle.icn_heap.specs.Extents.{IsLive, value_in}
use Rattle.icn_heap.specs.Heaps.{extent_of, heap_of}
use Rattle.icn_vars.specs.Worlds.{field_counts}
use Rattle.icn_vars.proofs.KeptItems.{same_fields}
use Rattle.icn_vars.proofs.RootChanges.{element_assigned}
use Rattle.icn_machine.proofs.assignments_in_place.put_element.Goals as goal

pub set_item-requires-clause-list : goal.set_item-requires-clause-list
set_item-requires-clause-list c = c.requires.live.1.live

pub returns-clause-puts : goal.returns-clause-puts
returns-clause-puts c outside locals live refused next =
    let same = to_z-of_z w64 c.args.number c.ranges.number in
    let w = c.args.world.now in
    element_assigned outside w.heap c.set_item.new.self w.pair w.words w.globals.items w.statics.items
    locals c.set_item.ensures.kept w.sound live c.args.list c.args.number (value_in (extent_of w.heap) c.args.val)
    c.requires.there (rw same at c.set_item.ensures.step) refused next

pub returns-clause-kept : goal.returns-clause-kept
returns-clause-kept c = record {
  locals = All-nil (IsLive (extent_of c.set_item.new.self));
  items = record {
    extent = c.set_item.ensures.kept;
    fields = same_fields (field_counts (heap_of c.args.world.now.heap)) (field_counts (heap_of c.set_item.new.self)) (ap field_counts c.set_item.ensures.step);
    globals = refl;
    statics = refl;
    locals = refl;
  };
}

pub returns-clause-counts : goal.returns-clause-counts
returns-clause-counts c = record {
  bounds = ap (λ (h : Heap). h.bounds) c.set_item.ensures.step;
  coexps = ap (λ (h : Heap). h.coexps) c.set_item.ensures.step;
}
