use Rattle.std.proofs.Common.{◌∙◌, sym}
use Rattle.std.specs.Int.{w64}
use Rattle.std.proofs.lemmas.Int.{to_z-of_z}
use Rattle.icn_heap.specs.Extents.{value_in}
use Rattle.icn_heap.specs.Heaps.{extent_of}
use Rattle.icn_vars.proofs.RootChanges.{element_assigned, element_missing}
use Rattle.icn_vars.proofs.roots.assign_element.Goals as goal

pub returns-then-set_item-clause-assigned : goal.returns-then-set_item-clause-assigned
returns-then-set_item-clause-assigned g c = λ outside.
    let same = to_z-of_z w64 c.args.number c.ranges.number in
    element_assigned outside c.args.w.now.heap c.set_item.new.self c.args.w.now.pair c.args.w.now.words c.args.w.now.globals.items c.args.w.now.statics.items
    (g.L.Locals.items c.args.l.now) c.set_item.ensures.kept c.args.w.now.sound c.requires.locals c.args.list c.args.number
    (value_in (extent_of c.args.w.now.heap) c.args.val)
    (rw same at (sym c.set_item.ensures.found ∙ c.if-set_item.true)) (rw same at c.set_item.ensures.step)

pub returns-else-set_item-clause-assigned : goal.returns-else-set_item-clause-assigned
returns-else-set_item-clause-assigned g c = λ outside.
    let same = to_z-of_z w64 c.args.number c.ranges.number in
    element_missing outside c.args.w.now.heap c.set_item.new.self c.args.w.now.pair c.args.w.now.words c.args.w.now.globals.items c.args.w.now.statics.items
    (g.L.Locals.items c.args.l.now) c.set_item.ensures.kept c.args.w.now.sound c.requires.locals c.args.list (extent_of c.set_item.new.self) c.args.number
    (value_in (extent_of c.args.w.now.heap) c.args.val)
    (rw same at (sym c.set_item.ensures.found ∙ c.if-set_item.false)) (rw same at c.set_item.ensures.step)
