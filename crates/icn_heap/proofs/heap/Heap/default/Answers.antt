use Rattle.std.proofs.Common.{◌∙◌, ap, subst, sym}
use Rattle.icn_heap.specs.Extents.{IsLive, value_in}
use Rattle.icn_heap.specs.Heaps.{extent_of, heap_of, parts_of}
use Rattle.icn_heap.proofs.OtherChanges.{default_is, table_sound}
use Rattle.icn_heap.proofs.heap.Heap.default.Goals as goal

pub returns-clause-value : goal.returns-clause-value
unfolding extent_of heap_of
returns-clause-value c =
    ap (value_in (extent_of c.args.self.now)) c.default_of.ensures ∙ default_is (parts_of c.args.self.now) c.args.self.now.sound c.args.table c.requires.live

pub returns-clause-live : goal.returns-clause-live
unfolding extent_of
returns-clause-live c =
    subst (IsLive (extent_of c.args.self.now)) (sym c.default_of.ensures)
    (table_sound (parts_of c.args.self.now) c.args.self.now.sound c.args.table c.requires.live).default
