use Rattle.std.proofs.Common.{ℕ, refl, ap, ◌∙◌, w64, FitsSigned, rules, arith}
use Rattle.std.proofs.lemmas.Int.{to_z-of_z}
use Rattle.icn_frames.specs.declared.layout.Registers.{Registers}
use Rattle.icn_frames.specs.declared.layout.Cell.TheVariants.{Suspension}
use Rattle.icn_frames.specs.declared.slots.CountRange.{CountRange}
use Rattle.icn_frames.specs.Slots.{control_at, why_counting}
use Rattle.icn_frames.proofs.Beside.{placed_beside, saved_there, shown_is, within}
use Rattle.icn_frames.proofs.cells.Cells.set_counting.Goals as goal

pub get-requires : goal.get-requires
get-requires g c = within _ _ _ _ (rw (← c.self.view_is) at c.requires)

pub put_range-requires : goal.put_range-requires
put_range-requires g c = omega (arith, within _ _ _ _ (rw (← c.self.view_is) at c.requires))

pub set-requires : goal.set-requires
set-requires g c = within _ _ _ _ (rw (← c.self.view_is) at c.requires)

pub returns-clause-cells : goal.returns-clause-cells
returns-clause-cells g c why saved address e =
    let r = (rw (← c.self.view_is) at c.requires) in
    let was = (rw (← c.self.view_is) at e) in
    let given : FitsSigned w64 c.args.count.given = search rules in
    let last : FitsSigned w64 c.args.count.last = search rules in
    let step : FitsSigned w64 c.args.count.step = search rules in
    let range = rw (to_z-of_z w64 c.args.count.last last, to_z-of_z w64 c.args.count.step step) at c.put_range.ensures.range in
    let kept : Registers = (control_at c.put_range.new.controls.items c.args.i).saved in
    let place = c.address_of-address.result in
    let goes = c.address_of-address.ensures _ _ why saved address (shown_is _ _ _ _ _ _ r c.get.ensures was) in
    let held = c.put_range.ensures.saved
    ∙ saved_there c.self.inside.controls.items c.self.inside.extras.items _ _ (Suspension why saved address) saved r was refl in
    let slots = rw (to_z-of_z w64 c.args.count.given given) at c.set.ensures.cells in
    rw (← c.self.view_is)
    (placed_beside c.self.inside.controls.items c.put_range.new.controls.items c.self.inside.extras.items _ _ _ _ _ (within _ _ _ _ r) slots
    c.put_range.ensures.others
    (ap (λ (w : CountRange). Suspension (why_counting c.args.count.given w.last w.step) kept place) range
    ∙ ap (λ (w : Registers). Suspension (why_counting c.args.count.given c.args.count.last c.args.count.step) w place) held
    ∙ ap (λ (w : ℕ). Suspension (why_counting c.args.count.given c.args.count.last c.args.count.step) saved w) goes))
