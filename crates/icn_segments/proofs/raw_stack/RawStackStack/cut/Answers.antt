use Rattle.std.proofs.Common.{◌≤◌, arith}
use Rattle.icn_segments.proofs.Segmented.{segmented, filled_of, few_values, length_to, segmented_less, cut_to}
use Rattle.icn_segments.proofs.raw_stack.RawStackStack.cut.Goals as goal

pub invariant_of-self : goal.invariant_of-self
invariant_of-self g c =
    let s = c.args.self.now in
    let n = c.args.len in
    let t = segmented s.segments.items s.len s.whole s.filled s.within s.few in
    let p : n ≤ s.len = omega (arith, c.requires, length_to s.segments.items s.len t.filled) in
    let u = segmented_less s.segments.items s.len n t p in
    record { whole = u.whole; filled = filled_of _ _ u; within = u.within; few = u.few; small = few_values _ n u.within u.few }

pub returns-clause-cells : goal.returns-clause-cells
returns-clause-cells g c =
    let s = c.args.self.now in
    let t = segmented s.segments.items s.len s.whole s.filled s.within s.few in
    let p : c.args.len ≤ s.len = omega (arith, c.requires, length_to s.segments.items s.len t.filled) in
    cut_to s.segments.items s.len c.args.len t p

pub returns-clause-spare : goal.returns-clause-spare
returns-clause-spare g c =
    let s = c.args.self.now in
    let t = segmented s.segments.items s.len s.whole s.filled s.within s.few in
    let l = length_to s.segments.items s.len t.filled in
    omega (arith, c.requires, l, s.within)
