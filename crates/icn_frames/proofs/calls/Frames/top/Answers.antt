use Rattle.std.proofs.Common.{◌≡◌, ◌≤◌, Some, subst, sym, arith}
use Rattle.icn_frames.specs.Stacks.{FlatStack, pop}
use Rattle.icn_frames.specs.StackInvariant.{SeenStack}
use Rattle.icn_frames.proofs.HeightsRead.{top_at, not_empty}
use Rattle.icn_frames.proofs.calls.Frames.top.Goals as goal

pub overflow_sub-len : goal.overflow_sub-len
overflow_sub-len g c = let p = not_empty _ _ c.self.invariant in omega (arith, p, c.len.ensures.is)

pub slot_at-requires : goal.slot_at-requires
slot_at-requires g c = let p = not_empty _ _ c.self.invariant in omega (arith, p, c.len.ensures.is)

pub returns : goal.returns
returns g c x rest e y k =
    let m : FlatStack = record { cells = c.self.inside.cells.cells; registers = c.self.inside.registers; address = c.self.inside.address } in
    let q = subst (λ (v : SeenStack). pop v.flat ≡ Some (x, rest)) (sym c.self.view_is) e in
    let p = not_empty _ _ c.self.invariant in
    let n : 1 ≤ c.len.result = omega (arith, p, c.len.ensures.is) in
    c.slot_at.ensures x y (top_at m c.len.result x rest c.len.ensures.is n q) k
