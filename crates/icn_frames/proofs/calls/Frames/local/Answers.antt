use Rattle.std.proofs.Common.{◌≡◌, Some, sym, ap, ◌∙◌}
use Rattle.icn_value.specs.declared.val.Val.{Val}
use Rattle.icn_frames.specs.declared.layout.Cell.TheVariants.{Local}
use Rattle.icn_frames.specs.Stacks.{FlatStack}
use Rattle.icn_frames.proofs.Locals.{local_is}
use Rattle.icn_frames.proofs.HeightsRead.{local_there, local_within}
use Rattle.icn_frames.proofs.calls.Frames.local.Goals as goal

pub local_at-requires : goal.local_at-requires
local_at-requires g c = local_within _ _ _ c.self.invariant (rw (← c.self.view_is) at c.requires)

pub returns : goal.returns
returns g c =
    let m : FlatStack = record { cells = c.self.inside.cells.cells; registers = c.self.inside.registers; address = c.self.inside.address } in
    let r = rw (← c.self.view_is) at c.requires in
    let w = local_there m.cells m.registers c.args.index c.self.invariant r in
    let e : c.local_at.result ≡ w.0 = c.local_at.ensures w.0 w.1 in
    rw (← c.self.view_is) (local_is m c.args.index c.local_at.result c.self.invariant r (w.1 ∙ ap (λ (v : Val). Some (Local v)) (sym e)))
