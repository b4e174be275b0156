use Rattle.std.proofs.Common.{IsSome, subst, sym}
use Rattle.icn_frames.proofs.SoundStacks.{sound_pop}
use Rattle.icn_frames.specs.Stacks.{FlatStack, pop}
use Rattle.icn_frames.specs.StackInvariant.{SeenStack}
use Rattle.icn_frames.proofs.HeightsRead.{operand_popped}
use Rattle.icn_frames.proofs.RunningProcs.{runs_off}
use Rattle.icn_frames.proofs.calls.Frames.pop.Goals as goal

pub pop_operand-requires : goal.pop_operand-requires
pop_operand-requires g c =
    let m : FlatStack = record { cells = c.self.inside.cells.cells; registers = c.self.inside.registers; address = c.self.inside.address } in
    operand_popped m m.cells (subst (λ (v : SeenStack). IsSome (pop v.flat)) (sym c.self.view_is) c.requires)

pub invariant_of-self : goal.invariant_of-self
invariant_of-self g c = sound_pop c.pop_operand.result _ _ _ c.pop_operand.ensures.cells c.self.invariant

pub invariant_of-self-inside : goal.invariant_of-self-inside
invariant_of-self-inside g c =
    let below = sound_pop c.pop_operand.result _ _ _ c.pop_operand.ensures.cells c.self.invariant in
    (runs_off _ _ _ c.self.inside.registers _ c.pop_operand.ensures.cells below c.self.inside.runs, tt)
