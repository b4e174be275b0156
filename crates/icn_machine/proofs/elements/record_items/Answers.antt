use Rattle.std.proofs.Common.{◌≡◌, ◌≤◌, ◌^◌, length, arith, refl}
use Rattle.icn_value.specs.declared.val.Val.TheVariants as Vals
use Rattle.icn_heap.specs.Heaps.{extent_of}
use Rattle.icn_machine.proofs.ElementSteps.{all_live, as_many, record_elements, record_items_named}
use Rattle.icn_machine.proofs.elements.record_items.Goals as goal

pub returns-in-Ok-clause-elements : goal.returns-in-Ok-clause-elements
returns-in-Ok-clause-elements c =
    record_elements c.args.world.now (Vals.Rec c.args.rec) c.args.rec c.fields.result.now c.put_values.new.items.items refl c.fields.ensures.fields
    c.in-Ok.ensures

pub returns-in-Ok-clause-live : goal.returns-in-Ok-clause-live
returns-in-Ok-clause-live c reach e =
    all_live (extent_of c.args.world.now.heap) c.fields.result.now c.put_values.new.items.items reach e c.in-Ok.ensures c.fields.ensures.live

pub returns-in-Ok-clause-named : goal.returns-in-Ok-clause-named
returns-in-Ok-clause-named c names h =
    record_items_named names c.args.world.now c.args.rec c.fields.result.now c.put_values.new.items.items c.fields.ensures.fields c.in-Ok.ensures h

pub returns-in-Ok-clause-few : goal.returns-in-Ok-clause-few
returns-in-Ok-clause-few c =
    let same : length c.put_values.new.items.items ≡ length c.fields.result.now = as_many c.fields.result.now c.put_values.new.items.items c.in-Ok.ensures in
    let few : length c.fields.result.now ≤ 2 ^ 16 = c.fields.ensures.few in
    omega (arith, same, few)
