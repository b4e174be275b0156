use Rattle.std.proofs.Common.{◌∙◌, ap}
use Rattle.std.specs.Option.{option_map}
use Rattle.icn_heap.specs.Extents.{values_in}
use Rattle.icn_heap.specs.HeapParts.{entry_vals}
use Rattle.icn_heap.specs.Heaps.{extent_of, heap_of, parts_of}
use Rattle.icn_heap.proofs.OtherChanges.{pair_is, key_live, value_live}
use Rattle.icn_heap.proofs.heap.Heap.pair_at.Goals as goal

pub returns-clause-pair : goal.returns-clause-pair
unfolding extent_of heap_of
returns-clause-pair c =
    ap (option_map (values_in (extent_of c.args.self.now))) (c.vals_found.ensures ∙ ap (option_map entry_vals) c.pair_at.ensures)
    ∙ pair_is (parts_of c.args.self.now) c.args.self.now.sound c.args.table c.requires.live c.args.place

pub returns-clause-live_key : goal.returns-clause-live_key
unfolding extent_of
returns-clause-live_key c =
    rw (c.vals_found.ensures, c.pair_at.ensures) (key_live (parts_of c.args.self.now) c.args.self.now.sound c.args.table c.requires.live c.args.place)

pub returns-clause-live_value : goal.returns-clause-live_value
unfolding extent_of
returns-clause-live_value c =
    rw (c.vals_found.ensures, c.pair_at.ensures) (value_live (parts_of c.args.self.now) c.args.self.now.sound c.args.table c.requires.live c.args.place)
