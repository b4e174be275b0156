use Rattle.std.proofs.Common.{length, refl, ap, ◌∙◌, w64, FitsSigned, rules}
use Rattle.std.proofs.lemmas.Int.{to_z-of_z}
use Rattle.icn_frames.specs.declared.layout.Registers.{Registers}
use Rattle.icn_frames.specs.declared.layout.Cell.TheVariants.{Suspension}
use Rattle.icn_frames.specs.declared.slots.CountRange.{CountRange}
use Rattle.icn_frames.specs.Slots.{control_at, why_counting}
use Rattle.icn_frames.proofs.Beside.{pushed}
use Rattle.icn_frames.proofs.cells.Cells.push_count.Goals as goal

pub returns-clause-cells : goal.returns-clause-cells
returns-clause-cells g c =
    let n = c.len-at.ensures in
    let given : FitsSigned w64 c.args.count.given = search rules in
    let last : FitsSigned w64 c.args.count.last = search rules in
    let step : FitsSigned w64 c.args.count.step = search rules in
    let kept = rw n at c.put_counted.ensures.range in
    let range = rw (to_z-of_z w64 c.args.count.last last, to_z-of_z w64 c.args.count.step step) at kept in
    let saved = rw n at c.put_counted.ensures.saved in
    let was : Registers = (control_at c.put_counted.new.controls.items (length (g.K.Stack.cells c.self.inside.slots))).saved in
    let slots = rw (to_z-of_z w64 c.args.count.given given) at c.push.ensures.cells in
    rw (← c.self.view_is)
    (pushed c.self.inside.controls.items _ c.self.inside.extras.items c.self.inside.extras.items _ _ _ _ slots
    (rw n at c.put_counted.ensures.others) (λ i d. refl)
    (ap (λ (w : CountRange). Suspension (why_counting c.args.count.given w.last w.step) was c.args.address) range
    ∙ ap (λ (w : Registers). Suspension (why_counting c.args.count.given c.args.count.last c.args.count.step) w c.args.address) saved))
