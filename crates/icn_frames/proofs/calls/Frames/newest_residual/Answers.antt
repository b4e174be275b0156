use Rattle.icn_frames.specs.Stacks.{FlatStack}
use Rattle.icn_frames.proofs.CellFacts.{newest_at}
use Rattle.icn_frames.proofs.HeightsRead.{below_length}
use Rattle.icn_frames.proofs.NewestRead.{newest_there, held_there, residual_is}
use Rattle.icn_frames.proofs.calls.Frames.newest_residual.Goals as goal

pub residual_held_at-requires : goal.residual_held_at-requires
residual_held_at-requires g c =
    let k = newest_at _ _ _ c.self.invariant c.in-Some.is in
    below_length _ _ k.from k.to

pub returns-in-Some : goal.returns-in-Some
returns-in-Some g c =
    let m : FlatStack = record { cells = c.self.inside.cells.cells; registers = c.self.inside.registers; address = c.self.inside.address } in
    let w = newest_there _ _ _ c.self.invariant c.in-Some.is in
    rw (← c.self.view_is)
    (residual_is _ _ m (c.residual_held_at.ensures w.0 w.1 w.2 w.3) (_, held_there m _ w.0 w.1 w.2 c.self.invariant c.in-Some.is w.3))
