use Rattle.std.proofs.Common.{◌+◌, IsSome, Option, refl, sym, subst}
use Rattle.icn_value.specs.declared.item.Item.{Item}
use Rattle.icn_value.specs.declared.residual.Residual.{Residual}
use Rattle.icn_value.specs.declared.residual.Residual.TheVariants as Residuals
use Rattle.icn_heap.specs.Heaps.{extent_of}
use Rattle.icn_machine.specs.ElementsInPlace.{element_variable, items_outcome}
use Rattle.icn_machine.proofs.ElementsOnce.{items_past, items_there}
use Rattle.icn_machine.proofs.GiveSteps.{fails_given, suspends_given, suspends_live, suspends_named}
use Rattle.icn_machine.proofs.elements_in_place.give_items.Goals as goal

pub returns-then-place-size-clause-gives : goal.returns-then-place-size-clause-gives
returns-then-place-size-clause-gives g c =
    fails_given (items_outcome c.args.world.now c.args.list c.args.place) c.args.frames.now.flat
    (items_past c.args.world.now c.args.list c.args.place c.element_count-size.result c.element_count-size.ensures.count c.if-place-size.true)

pub returns-clause-gives : goal.returns-clause-gives
returns-clause-gives g c =
    let w = c.args.world.now in
    let item : Item = element_variable w c.args.list c.args.place in
    let rest : Residual = Residuals.ListItems c.args.list (c.args.place + 1) in
    suspends_given (items_outcome w c.args.list c.args.place) item rest c.args.frames.now.flat c.suspend_row.new.self.flat
    (items_there w c.args.list c.args.place c.element_count-size.result c.element_count-size.ensures.count c.if-place-size.false)
    (c.in_ok-suspend_row.ensures.ok item c.element_slot-slot.ensures)

pub returns-clause-live : goal.returns-clause-live
returns-clause-live g c t reach l i =
    let w = c.args.world.now in
    let item : Item = element_variable w c.args.list c.args.place in
    let rest : Residual = Residuals.ListItems c.args.list (c.args.place + 1) in
    suspends_live t reach (items_outcome w c.args.list c.args.place) item rest c.args.frames.now.flat c.suspend_row.new.self.flat
    (items_there w c.args.list c.args.place c.element_count-size.result c.element_count-size.ensures.count c.if-place-size.false)
    (c.in_ok-suspend_row.ensures.ok item c.element_slot-slot.ensures) l i

pub returns-clause-named : goal.returns-clause-named
returns-clause-named g c names seen h o =
    let w = c.args.world.now in
    let item : Item = element_variable w c.args.list c.args.place in
    let rest : Residual = Residuals.ListItems c.args.list (c.args.place + 1) in
    suspends_named names (extent_of w.heap) seen (items_outcome w c.args.list c.args.place) item rest c.args.frames.now.flat c.suspend_row.new.self.flat
    (items_there w c.args.list c.args.place c.element_count-size.result c.element_count-size.ensures.count c.if-place-size.false)
    (c.in_ok-suspend_row.ensures.ok item c.element_slot-slot.ensures) h o

pub suspend_row-requires : goal.suspend_row-requires
suspend_row-requires g c = record { plain = subst (λ (o : Option Item). IsSome o) (sym c.element_slot-slot.ensures) refl }
