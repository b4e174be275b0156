use Rattle.std.proofs.Common.{◌∙◌, ap}
use Rattle.std.proofs.lemmas.Int.{to_z-of_z}
use Rattle.std.specs.Int.{w64}
use Rattle.icn_structs.specs.Numbered.{item_numbered}
use Rattle.icn_value.specs.Store.{list_at}
use Rattle.icn_heap.specs.Heaps.{extent_of, heap_of}
use Rattle.icn_vars.proofs.ReadValues.{element_read}
use Rattle.icn_vars.proofs.reading.element.Goals as goal

pub returns-clause-item : goal.returns-clause-item
returns-clause-item c =
    element_read (extent_of c.args.w.now.heap) c.list.result.now
    (list_at (heap_of c.args.w.now.heap) c.args.list) c.args.number c.by_number.result c.list.ensures.items
    (c.by_number.ensures.item ∙ ap (item_numbered c.list.result.now) (to_z-of_z w64 c.args.number c.ranges.number))
