use Rattle.std.proofs.Common.{◌≡◌, ◌≤◌, is_some, subst, arith}
use Rattle.icn_frames.specs.Stacks.{FlatStack, pop}
use Rattle.icn_frames.specs.StackInvariant.{SeenStack}
use Rattle.icn_frames.proofs.HeightsRead.{has_top, not_empty}
use Rattle.icn_frames.proofs.calls.Frames.has_operand.Goals as goal

pub overflow_sub-len : goal.overflow_sub-len
overflow_sub-len g c = let p = not_empty _ _ c.self.invariant in omega (arith, p, c.len.ensures.is)

pub returns : goal.returns
returns g c =
    let m : FlatStack = record { cells = c.self.inside.cells.cells; registers = c.self.inside.registers; address = c.self.inside.address } in
    let p = not_empty _ _ c.self.invariant in
    let q : 1 ≤ c.len.result = omega (arith, p, c.len.ensures.is) in
    subst (λ (v : SeenStack). c.is_operand_at.result ≡ is_some (pop v.flat)) c.self.view_is (has_top m _ _ c.len.ensures.is q c.is_operand_at.ensures)
