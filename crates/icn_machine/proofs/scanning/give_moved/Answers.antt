use Rattle.std.proofs.Common.{◌≤◌, ◌+◌, Option, IfSome, length, refl, subst, sym, ℕ}
use Rattle.icn_control.specs.declared.machine.RunState.TheVariants as RunStates
use Rattle.icn_scanfn.specs.InSubject.{subject_of}
use Rattle.icn_machine.specs.PlainScans.{MovesAs}
use Rattle.icn_machine.proofs.scanning.give_moved.Goals as goal

pub move_over-requires-clause-low : goal.move_over-requires-clause-low
move_over-requires-clause-low g c = subst (λ (found : Option ℕ). IfSome found (λ place. 1 ≤ place)) c.in-Some.is c.requires.low

pub move_over-requires-clause-high : goal.move_over-requires-clause-high
move_over-requires-clause-high g c =
    subst (λ (found : Option ℕ). IfSome found (λ place. place ≤ length (subject_of c.args.world.now) + 1)) c.in-Some.is c.requires.high

pub returns-in_ok-move_over-in-Some : goal.returns-in_ok-move_over-in-Some
returns-in_ok-move_over-in-Some g c =
    subst (λ (found : Option ℕ). MovesAs found c.args.world.now c.args.frames.now.flat c.move_over.new.world c.move_over.new.frames.flat RunStates.Running)
    (sym c.in-Some.is) (refl, c.in_ok-move_over-in-Some.ensures)

pub returns-in-None : goal.returns-in-None
returns-in-None g c =
    subst (λ (found : Option ℕ). MovesAs found c.args.world.now c.args.frames.now.flat c.args.world.now c.args.frames.now.flat RunStates.Failing)
    (sym c.in-None.is) (refl, (refl, refl))
