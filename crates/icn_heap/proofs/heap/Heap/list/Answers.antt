use Rattle.std.proofs.Common.{◌∙◌, ap, subst, sym}
use Rattle.std.specs.List.{All}
use Rattle.icn_structs.specs.Numbered.{NumberedList}
use Rattle.icn_value.specs.declared.val.Val.{Val}
use Rattle.icn_heap.specs.Extents.{IsLive}
use Rattle.icn_heap.specs.HeapParts.{list_in}
use Rattle.icn_heap.specs.Heaps.{extent_of, heap_of, parts_of}
use Rattle.icn_heap.proofs.ListChanges.{list_sound, list_view}
use Rattle.icn_heap.proofs.heap.Heap.list.Goals as goal

pub returns-clause-live : goal.returns-clause-live
unfolding extent_of heap_of
returns-clause-live c =
    let old = c.args.self.now in
    subst (λ (list : NumberedList Val). All (IsLive (extent_of old)) list.items) (sym c.list_ref.ensures)
    (list_sound (parts_of old) old.sound c.args.id c.requires.live).live

pub returns-clause-items : goal.returns-clause-items
unfolding extent_of heap_of
returns-clause-items c =
    ap (list_in (extent_of c.args.self.now)) c.list_ref.ensures ∙ sym (list_view (extent_of c.args.self.now) (parts_of c.args.self.now) c.args.id)
