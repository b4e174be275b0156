-- What was read of the newest suspension.
use Rattle.std.proofs.Common.{◌≡◌, ℕ, ◌+◌, ◌-◌, List, Option, Some, None, IfSome, subst, sym, ap, ◌∙◌, refl}
use Rattle.icn_value.specs.declared.residual.Residual.{Residual}
use Rattle.icn_frames.specs.Heights.{cut, cell_at}
use Rattle.icn_frames.specs.declared.layout.Registers.{Registers}
use Rattle.icn_frames.specs.declared.layout.Count.{Count}
use Rattle.icn_frames.specs.declared.layout.NewestKind.{NewestKind}
use Rattle.icn_frames.specs.declared.layout.NewestKind.TheVariants as NewestKinds
use Rattle.icn_frames.specs.declared.layout.Why.{Why}
use Rattle.icn_frames.specs.declared.layout.Why.TheVariants as Whys
use Rattle.icn_frames.specs.declared.layout.Cell.{Cell}
use Rattle.icn_frames.specs.declared.layout.Cell.TheVariants.{Suspension}
use Rattle.icn_frames.specs.Slots.{why_counting, TellsWhy}
use Rattle.icn_frames.specs.Stacks.{FlatStack, resume}
use Rattle.icn_frames.specs.StackInvariant.{IsSuspended, Sound}
use Rattle.icn_frames.specs.Newest.{IsCounting, IsHeldBy, IsNewest}
use Rattle.icn_frames.proofs.CellFacts.{kind_of_cell, newest_at, resume_is, suspension_is, within_cells}
use Rattle.icn_frames.proofs.HeightsRead.{cell_there}

-- the suspension at the height of the newest one
pub newest_there : (s : List Cell) (r : Registers) (h : ℕ) → Sound s r → r.newest ≡ Some h
    → (why : Why) × (saved : Registers) × (place : ℕ) × (cell_at (h - 1 + 1) s ≡ Some (Suspension why saved place))
newest_there s r h t n =
    let k = newest_at s r h t n in
    let w = cell_there s h k.from k.to in
    let c = suspension_is w.0 (kind_of_cell IsSuspended s h w.0 k w.1) in
    (c.0, c.1, c.2, w.1 ∙ ap (λ (x : Cell). Some x) c.3)

-- what comes back of it
pub held_there : (m : FlatStack) (h : ℕ) (why : Why) (saved : Registers) (place : ℕ) → Sound m.cells m.registers
    → m.registers.newest ≡ Some h
    → cell_at (h - 1 + 1) m.cells ≡ Some (Suspension why saved place)
    → resume m ≡ Some (why, record { cells = cut (h - 1) m.cells; registers = saved; address = place })
held_there m h why saved place t n e =
    let k = newest_at m.cells m.registers h t n in
    resume_is m h why saved place (cut (h - 1) m.cells) n k.from (within_cells m.cells h k.to) e refl

-- what its kind says
pub newest_is : (kind : NewestKind) (why : Why) (m : FlatStack) → TellsWhy kind why → IsHeldBy why m → IsNewest kind m
newest_is NewestKinds.Nothing why m t h = absurd t
newest_is NewestKinds.Alt why m t h = subst (λ (w : Why). IsHeldBy w m) t h
newest_is NewestKinds.Count why m t h = (t.0, t.1, t.2, subst (λ (w : Why). IsHeldBy w m) t.3 h)
newest_is NewestKinds.Escan why m t h = subst (λ (w : Why). IsHeldBy w m) t h
newest_is NewestKinds.Proc why m t h = subst (λ (w : Why). IsHeldBy w m) t h
newest_is NewestKinds.Other why m t h = (why, h)

-- what its count says
pub counting_is : (o : Option Count) (why : Why) (m : FlatStack)
    → IfSome o (λ (count : Count). why ≡ why_counting count.given count.last count.step) → IsHeldBy why m
    → IfSome o (λ (count : Count). IsCounting count m)
counting_is None why m t h = tt
counting_is (Some count) why m t h = subst (λ (w : Why). IsHeldBy w m) t h

-- what its residual says
pub residual_is : (o : Option Residual) (why : Why) (m : FlatStack) → IfSome o (λ (rest : Residual). why ≡ Whys.Op rest) → IsHeldBy why m
    → IfSome o (λ (rest : Residual). IsHeldBy (Whys.Op rest) m)
residual_is None why m t h = tt
residual_is (Some rest) why m t h = subst (λ (w : Why). IsHeldBy w m) t h

-- what comes back is one stack

abbrev rest_of : FlatStack → Option (Why × FlatStack) → FlatStack
rest_of m (Some held) = held.1
rest_of m None = m

pub one_rest : (m n rest : FlatStack) (v w : Why) → resume m ≡ Some (v, n) → resume m ≡ Some (w, rest) → n ≡ rest
one_rest m n rest v w e k = ap (rest_of m) (sym e ∙ k)
