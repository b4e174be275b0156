use Rattle.std.proofs.Common.{◌<◌, ◌+◌, ◌*◌, ◌≤◌, List, length, Option, ap, ◌∙◌, sym, subst, arith}
use Rattle.icn_segments.specs.Segmented.{values_to}
use Rattle.icn_segments.proofs.Segmented.{IsSegmented, segmented, filled_of, few_values, segmented_put, below_next, pushed}
use Rattle.icn_segments.proofs.raw_stack.RawStackStack.push.Goals as goal

pub invariant_of-self : goal.invariant_of-self
invariant_of-self g c =
    let s = c.args.self.now in
    let n = s.len in
    let t = segmented s.segments.items n s.whole s.filled s.within s.few in
    let p : n < 256 * length s.segments.items = omega (arith, c.requires) in
    let q : n + 1 ≤ 256 * length s.segments.items = omega arith in
    let u : IsSegmented c.put.new.segments.items (n + 1) = subst (λ (w : List (List (Option g.row.T.Denot))). IsSegmented w (n + 1)) (sym c.put.ensures)
    (segmented_put s.segments.items n (n + 1) n c.args.v t p q (λ j r d. below_next j n r d)) in
    record { whole = u.whole; filled = filled_of _ _ u; within = u.within; few = u.few; small = few_values _ (n + 1) u.within u.few }

pub returns-clause-cells : goal.returns-clause-cells
returns-clause-cells g c =
    let s = c.args.self.now in
    let n = s.len in
    let t = segmented s.segments.items n s.whole s.filled s.within s.few in
    let p : n < 256 * length s.segments.items = omega (arith, c.requires) in
    ap (λ (w : List (List (Option g.row.T.Denot))). values_to w (n + 1)) c.put.ensures ∙ pushed s.segments.items n c.args.v t p
