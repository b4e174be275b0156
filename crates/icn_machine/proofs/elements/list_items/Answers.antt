use Rattle.std.proofs.Common.{ap, ◌∙◌, map}
use Rattle.icn_value.specs.declared.item.Item.TheVariants as Items
use Rattle.icn_value.specs.declared.val.Val.TheVariants as Vals
use Rattle.icn_heap.specs.Heaps.{extent_of}
use Rattle.std.proofs.Common.{refl}
use Rattle.icn_machine.proofs.ElementSteps.{list_elements, list_items_named, all_live}
use Rattle.icn_machine.proofs.elements.list_items.Goals as goal

pub returns-in-Ok-put_values-clause-elements : goal.returns-in-Ok-put_values-clause-elements
returns-in-Ok-put_values-clause-elements c =
    list_elements c.args.world.now (Vals.List c.args.list) c.args.list c.in-Ok.vals.items c.put_values.new.items.items refl c.in-Ok.ensures.items
    (c.in-Ok-put_values.ensures ∙ ap (map Items.Val) c.deref.ensures.value)

pub returns-in-Ok-put_values-clause-live : goal.returns-in-Ok-put_values-clause-live
returns-in-Ok-put_values-clause-live c reach e =
    all_live (extent_of c.args.world.now.heap) c.in-Ok.vals.items c.put_values.new.items.items reach e
    (c.in-Ok-put_values.ensures ∙ ap (map Items.Val) c.deref.ensures.value) c.in-Ok.ensures.live

pub returns-in-Ok-put_values-clause-named : goal.returns-in-Ok-put_values-clause-named
returns-in-Ok-put_values-clause-named c names h =
    list_items_named names c.args.world.now c.args.list c.in-Ok.vals.items c.put_values.new.items.items c.in-Ok.ensures.items
    (c.in-Ok-put_values.ensures ∙ ap (map Items.Val) c.deref.ensures.value) h
