use Rattle.std.proofs.Common.{◌≡◌, Some, slice_get, subst, sym}
use Rattle.icn_frames.specs.Stacks.{FlatStack, locals}
use Rattle.icn_frames.specs.StackInvariant.{SeenStack}
use Rattle.icn_frames.proofs.HeightsRead.{local_within}
use Rattle.icn_frames.proofs.Locals.{holds_locals}
use Rattle.icn_frames.proofs.calls.Frames.local_slot.Goals as goal

pub slot_above-requires : goal.slot_above-requires
slot_above-requires g c = local_within _ _ _ c.self.invariant (rw (← c.self.view_is) at c.requires)

pub returns : goal.returns
returns g c v e w k =
    let m : FlatStack = record { cells = c.self.inside.cells.cells; registers = c.self.inside.registers; address = c.self.inside.address } in
    let q = subst (λ (s : SeenStack). slice_get (locals s.flat) c.args.index ≡ Some v) (sym c.self.view_is) e in
    c.slot_above.ensures v w (holds_locals m c.self.invariant c.args.index v q) k
