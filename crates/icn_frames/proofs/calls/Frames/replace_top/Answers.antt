use Rattle.std.proofs.Common.{◌≡◌, List, ◌∷◌, Some, IsSome, subst, sym, ap, ◌∙◌, arith}
use Rattle.icn_frames.specs.declared.layout.Cell.{Cell}
use Rattle.icn_frames.specs.declared.layout.Cell.TheVariants.{Operand}
use Rattle.icn_frames.specs.Stacks.{FlatStack, pop}
use Rattle.icn_frames.specs.StackInvariant.{SeenStack}
use Rattle.icn_frames.proofs.SoundStacks.{sound_push, sound_pop}
use Rattle.icn_frames.proofs.HeightsRead.{some_is, popped_is, not_empty}
use Rattle.icn_frames.proofs.RunningProcs.{base_there, runs_off, runs_on}
use Rattle.icn_frames.proofs.calls.Frames.replace_top.Goals as goal

pub drop_top-requires : goal.drop_top-requires
drop_top-requires g c = let p = not_empty _ _ c.self.invariant in omega (arith, p)

pub invariant_of-self : goal.invariant_of-self
invariant_of-self g c =
    let m : FlatStack = record { cells = c.self.inside.cells.cells; registers = c.self.inside.registers; address = c.self.inside.address } in
    let r = subst (λ (v : SeenStack). IsSome (pop v.flat)) (sym c.self.view_is) c.requires.there in
    let o = some_is (pop m) r in
    let w = popped_is m m.cells o.0.0 o.0.1 o.1 in
    let n = c.drop_top.ensures.cells (Operand o.0.0) w.0 w.1 in
    let y = some_is _ c.requires.plain in
    rw (c.push_plain.ensures.cells y.0 y.1)
    (sound_push y.0 _ m.registers (sound_pop o.0.0 m.cells _ m.registers (w.1 ∙ ap (λ (s : List Cell). Operand o.0.0 ∷ s) (sym n)) c.self.invariant))

pub invariant_of-self-inside : goal.invariant_of-self-inside
invariant_of-self-inside g c =
    let m : FlatStack = record { cells = c.self.inside.cells.cells; registers = c.self.inside.registers; address = c.self.inside.address } in
    let r = subst (λ (v : SeenStack). IsSome (pop v.flat)) (sym c.self.view_is) c.requires.there in
    let o = some_is (pop m) r in
    let w = popped_is m m.cells o.0.0 o.0.1 o.1 in
    let n = c.drop_top.ensures.cells (Operand o.0.0) w.0 w.1 in
    let top = w.1 ∙ ap (λ (s : List Cell). Operand o.0.0 ∷ s) (sym n) in
    let below = sound_pop o.0.0 m.cells _ m.registers top c.self.invariant in
    let y = some_is _ c.requires.plain in (
      rw (c.push_plain.ensures.cells y.0 y.1)
          (runs_on _ _ m.registers.base _ (base_there _ m.registers below) (runs_off _ m.cells _ m.registers _ top below c.self.inside.runs)),
      tt,
    )

pub returns-clause-flat : goal.returns-clause-flat
returns-clause-flat g c x y rest e k =
    let m : FlatStack = record { cells = c.self.inside.cells.cells; registers = c.self.inside.registers; address = c.self.inside.address } in
    let F : List Cell → FlatStack = λ w. record { cells = w; registers = c.self.inside.registers; address = c.self.inside.address } in
    let q = subst (λ (v : SeenStack). pop v.flat ≡ Some (x, rest)) (sym c.self.view_is) e in
    let w = popped_is m m.cells x rest q in
    let G : FlatStack → FlatStack = λ s. record s { cells = Operand y ∷ s.cells } in
    ap F (c.push_plain.ensures.cells y k ∙ ap (λ (s : List Cell). Operand y ∷ s) (c.drop_top.ensures.cells (Operand x) w.0 w.1)) ∙ ap G (sym w.2)
