use Rattle.std.proofs.Common.{List, ◌∷◌, ap, ◌∙◌}
use Rattle.icn_frames.specs.declared.layout.Cell.{Cell}
use Rattle.icn_frames.specs.declared.layout.Cell.TheVariants.{Operand}
use Rattle.icn_frames.specs.Stacks.{FlatStack}
use Rattle.icn_frames.proofs.SoundStacks.{sound_push}
use Rattle.icn_frames.proofs.HeightsRead.{some_is}
use Rattle.icn_frames.proofs.RunningProcs.{base_there, runs_on}
use Rattle.icn_frames.proofs.calls.Frames.push_plain.Goals as goal

pub invariant_of-self-2 : goal.invariant_of-self-2
invariant_of-self-2 g c =
    let y = some_is _ c.requires in
    rw (c.push_plain.ensures.cells y.0 y.1, c.in_ok-reserve_one.ensures.cells) (sound_push _ _ _ c.self.invariant)

pub invariant_of-self-inside-2 : goal.invariant_of-self-inside-2
invariant_of-self-inside-2 g c =
    let y = some_is _ c.requires in (
      rw (c.push_plain.ensures.cells y.0 y.1, c.in_ok-reserve_one.ensures.cells)
          (runs_on _ c.self.inside.cells.cells c.self.inside.registers.base _ (base_there _ _ c.self.invariant) c.self.inside.runs),
      tt,
    )

pub returns-clause-ok : goal.returns-clause-ok
returns-clause-ok g c =
    let F : List Cell → FlatStack = λ w. record { cells = w; registers = c.self.inside.registers; address = c.self.inside.address } in
    rw (← c.self.view_is) (λ x e. ap F (c.push_plain.ensures.cells x e ∙ ap (λ (w : List Cell). Operand x ∷ w) c.in_ok-reserve_one.ensures.cells))
