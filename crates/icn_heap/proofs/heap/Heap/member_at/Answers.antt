use Rattle.std.proofs.Common.{◌∙◌, ap}
use Rattle.std.specs.Option.{option_map}
use Rattle.icn_heap.specs.Extents.{value_in}
use Rattle.icn_heap.specs.Heaps.{extent_of, heap_of, parts_of}
use Rattle.icn_heap.proofs.OtherChanges.{member_is, member_live}
use Rattle.icn_heap.proofs.heap.Heap.member_at.Goals as goal

pub returns-clause-member : goal.returns-clause-member
unfolding extent_of heap_of
returns-clause-member c = ap (option_map (value_in (extent_of c.args.self.now))) c.member_at.ensures
    ∙ member_is (parts_of c.args.self.now) c.args.self.now.sound c.args.set c.requires.live c.args.place

pub returns-clause-live : goal.returns-clause-live
unfolding extent_of
returns-clause-live c = rw c.member_at.ensures (member_live (parts_of c.args.self.now) c.args.self.now.sound c.args.set c.requires.live c.args.place)
