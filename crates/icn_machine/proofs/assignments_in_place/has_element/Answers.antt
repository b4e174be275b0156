use Rattle.std.proofs.Common.{◌∙◌, ℤ, ap}
use Rattle.std.proofs.lemmas.Int.{to_z-of_z}
use Rattle.std.specs.Int.{w64}
use Rattle.icn_structs.specs.Numbered.{item_numbered}
use Rattle.icn_value.specs.Store.{list_at}
use Rattle.icn_heap.specs.Heaps.{extent_of, heap_of}
use Rattle.icn_machine.proofs.AssignmentSteps.{element_found}
use Rattle.icn_machine.proofs.assignments_in_place.has_element.Goals as goal

pub item-requires : goal.item-requires
item-requires c = c.requires.1.live

pub returns : goal.returns
returns c q =
    let h = heap_of c.args.world.now.heap in
    element_found (extent_of c.args.world.now.heap) c.item.result _ c.is_some.result c.is_some.ensures
    (c.item.ensures.item ∙ ap (λ (i : ℤ). item_numbered (list_at h c.args.list) i) (to_z-of_z w64 c.args.number c.ranges.number)) q
