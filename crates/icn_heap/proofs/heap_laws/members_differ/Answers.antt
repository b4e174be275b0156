use Rattle.std.proofs.Common.{sym, subst}
use Rattle.std.specs.List.{IsDistinct}
use Rattle.icn_value.specs.Sameness.{same}
use Rattle.icn_heap.specs.Heaps.{extent_of, heap_of, parts_of}
use Rattle.icn_heap.proofs.DistinctKeys.{members_apart}
use Rattle.icn_heap.proofs.OtherChanges.{set_view, members_sound}
use Rattle.icn_heap.proofs.heap_laws.members_differ.Goals as goal

pub returns : goal.returns
unfolding extent_of heap_of
returns c =
    subst (IsDistinct same) (sym (set_view (extent_of c.args.heap.now) (parts_of c.args.heap.now) c.args.set))
    (members_apart (extent_of c.args.heap.now) _ (members_sound (parts_of c.args.heap.now) c.args.heap.now.sound c.args.set c.requires.live)
    c.keys_of_members_differ.ensures)
