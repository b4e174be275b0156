use Rattle.std.proofs.Common.{◌+◌, arith, subst, sym}
use Rattle.icn_frames.specs.CalledWith.{HasOperands}
use Rattle.icn_frames.specs.StackInvariant.{SeenStack}
use Rattle.icn_frames.specs.Stacks.{FlatStack}
use Rattle.icn_frames.proofs.CalledWithFacts.{dropped_with, operands_within}
use Rattle.icn_frames.proofs.RunningProcs.{runs_dropped}
use Rattle.icn_frames.proofs.calls.Frames.drop_with.Goals as goal

pub overflow_sub-len : goal.overflow_sub-len
overflow_sub-len g c =
    let there = subst (λ (v : SeenStack). HasOperands (c.args.count + 1) v.flat.cells) (sym c.self.view_is) c.requires in
    let p = operands_within (c.args.count + 1) c.self.inside.cells.cells there in
    omega (arith, p, c.len.ensures.is)

pub overflow_sub-len-2 : goal.overflow_sub-len-2
overflow_sub-len-2 g c =
    let there = subst (λ (v : SeenStack). HasOperands (c.args.count + 1) v.flat.cells) (sym c.self.view_is) c.requires in
    let p = operands_within (c.args.count + 1) c.self.inside.cells.cells there in
    omega (arith, p, c.len.ensures.is)

pub cut-requires : goal.cut-requires
cut-requires g c =
    let there = subst (λ (v : SeenStack). HasOperands (c.args.count + 1) v.flat.cells) (sym c.self.view_is) c.requires in
    let p = operands_within (c.args.count + 1) c.self.inside.cells.cells there in
    omega (arith, p, c.len.ensures.is)

pub invariant_of-self : goal.invariant_of-self
invariant_of-self g c =
    let m : FlatStack = record { cells = c.self.inside.cells.cells; registers = c.self.inside.registers; address = c.self.inside.address } in
    let there = subst (λ (v : SeenStack). HasOperands (c.args.count + 1) v.flat.cells) (sym c.self.view_is) c.requires in
    (dropped_with c.args.count c.len.result m _ c.self.invariant there c.len.ensures.is c.cut.ensures.cells).sound

pub invariant_of-self-inside : goal.invariant_of-self-inside
invariant_of-self-inside g c =
    let m : FlatStack = record { cells = c.self.inside.cells.cells; registers = c.self.inside.registers; address = c.self.inside.address } in
    let there = subst (λ (v : SeenStack). HasOperands (c.args.count + 1) v.flat.cells) (sym c.self.view_is) c.requires in
    let left = dropped_with c.args.count c.len.result m _ c.self.invariant there c.len.ensures.is c.cut.ensures.cells in
    (runs_dropped c.args.count m _ _ left.drops left.sound c.self.inside.runs, tt)

pub returns-clause-drops : goal.returns-clause-drops
returns-clause-drops g c =
    let m : FlatStack = record { cells = c.self.inside.cells.cells; registers = c.self.inside.registers; address = c.self.inside.address } in
    let there = subst (λ (v : SeenStack). HasOperands (c.args.count + 1) v.flat.cells) (sym c.self.view_is) c.requires in
    rw (← c.self.view_is) (dropped_with c.args.count c.len.result m _ c.self.invariant there c.len.ensures.is c.cut.ensures.cells).drops

pub returns-clause-spare : goal.returns-clause-spare
returns-clause-spare g c =
    let there = subst (λ (v : SeenStack). HasOperands (c.args.count + 1) v.flat.cells) (sym c.self.view_is) c.requires in
    let p = operands_within (c.args.count + 1) c.self.inside.cells.cells there in
    rw (← c.self.view_is) (omega (arith, p, c.len.ensures.is, c.cut.ensures.spare))
