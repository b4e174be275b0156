use Rattle.std.proofs.Common.{◌∙◌, ℤ, FitsSigned, ap, rules}
use Rattle.std.proofs.lemmas.Int.{to_z-of_z}
use Rattle.std.specs.Int.{w64}
use Rattle.icn_structs.specs.Numbered.{item_numbered}
use Rattle.icn_value.specs.declared.item.Item.TheVariants as Items
use Rattle.icn_value.specs.declared.item.Root.TheVariants as Roots
use Rattle.icn_value.specs.declared.item.VarRef.TheVariants as VarRefs
use Rattle.icn_value.specs.Store.{list_at}
use Rattle.icn_heap.specs.Heaps.{heap_of}
use Rattle.icn_frames.specs.Slots.{plain_operand}
use Rattle.icn_machine.proofs.HeldValueSteps.{element_below, element_live}
use Rattle.icn_machine.proofs.held_values.value_held.Goals as goal

pub item-requires : goal.item-requires
item-requires g c =
    element_live c.requires.live.0 c.args.world.now c.args.frames.now.flat c.args.count c.in-VarElement.list c.in-VarElement.number c.slot_below.result
    c.requires.live.1 c.requires.operand c.slot_below.ensures (ap plain_operand c.in-VarElement.is)

pub returns-in-VarElement-clause-found : goal.returns-in-VarElement-clause-found
returns-in-VarElement-clause-found g c =
    let w = c.args.world.now in
    let list = c.in-VarElement.list in
    let number : ℤ = c.in-VarElement.number in
    let fits : FitsSigned w64 number = search rules in
    element_below w c.args.frames.now.flat c.args.count list number c.slot_below.result c.item.result
    c.slot_below.ensures (ap plain_operand c.in-VarElement.is)
    (c.item.ensures.item ∙ ap (λ (i : ℤ). item_numbered (list_at (heap_of w.heap) list) i) (to_z-of_z w64 number fits))
