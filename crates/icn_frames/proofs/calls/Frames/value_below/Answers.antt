use Rattle.std.proofs.Common.{◌≡◌, ◌+◌, ◌∷◌, arith, subst, sym}
use Rattle.icn_frames.specs.CalledWith.{HasOperands, operands_above}
use Rattle.icn_frames.specs.StackInvariant.{SeenStack}
use Rattle.icn_frames.specs.declared.layout.Cell.TheVariants.{Operand}
use Rattle.icn_frames.proofs.CalledWithFacts.{below_cell, operands_within}
use Rattle.icn_frames.proofs.calls.Frames.value_below.Goals as goal

pub overflow_sub-len : goal.overflow_sub-len
overflow_sub-len g c =
    let there = subst (λ (v : SeenStack). HasOperands (c.args.count + 1) v.flat.cells) (sym c.self.view_is) c.requires in
    let p = operands_within (c.args.count + 1) c.self.inside.cells.cells there in
    omega (arith, p, c.len.ensures.is)

pub overflow_sub-len-2 : goal.overflow_sub-len-2
overflow_sub-len-2 g c =
    let there = subst (λ (v : SeenStack). HasOperands (c.args.count + 1) v.flat.cells) (sym c.self.view_is) c.requires in
    let p = operands_within (c.args.count + 1) c.self.inside.cells.cells there in
    omega (arith, p, c.len.ensures.is)

pub value_above-requires : goal.value_above-requires
value_above-requires g c =
    let there = subst (λ (v : SeenStack). HasOperands (c.args.count + 1) v.flat.cells) (sym c.self.view_is) c.requires in
    let p = operands_within (c.args.count + 1) c.self.inside.cells.cells there in
    omega (arith, p, c.len.ensures.is)

pub returns : goal.returns
returns g c x items rest is many =
    let at = subst (λ (v : SeenStack). v.flat.cells ≡ operands_above items (Operand x ∷ rest)) (sym c.self.view_is) is in
    c.value_above.ensures x (below_cell items x rest c.self.inside.cells.cells c.len.result c.args.count at many c.len.ensures.is)
