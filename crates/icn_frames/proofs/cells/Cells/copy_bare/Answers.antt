use Rattle.std.proofs.Common.{refl, ◌∙◌}
use Rattle.std.proofs.lemmas.Bool.{OnFalse_at}
use Rattle.icn_frames.specs.Slots.{IsFree}
use Rattle.icn_frames.proofs.Beside.{within, shown_is, pushed}
use Rattle.icn_frames.proofs.cells.Cells.copy_bare.Goals as goal

pub get-slot-requires : goal.get-slot-requires
get-slot-requires g c = within _ _ _ _ (rw (← c.self.view_is) at c.requires.there)

pub returns-clause-cells : goal.returns-clause-cells
returns-clause-cells g c = λ q cell e. (
    let r = rw (← c.self.view_is) at c.requires.there in
    let free : IsFree c.get-slot.result = OnFalse_at c.if-is_sided.false c.is_sided.ensures in
    rw (← c.self.view_is) (pushed c.self.inside.controls.items c.self.inside.controls.items c.self.inside.extras.items c.self.inside.extras.items _ _ _ cell
    c.push.ensures.cells (λ i d. refl) (λ i d. refl)
    (free _ _ _ _ ∙ shown_is c.self.inside.controls.items c.self.inside.extras.items _ _ _ cell r c.get-slot.ensures (rw (← c.self.view_is) at e))))
