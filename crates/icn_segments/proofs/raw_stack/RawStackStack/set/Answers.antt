use Rattle.std.proofs.Common.{◌<◌, ◌*◌, List, length, Option, ap, ◌∙◌, sym, subst, arith}
use Rattle.icn_segments.specs.Segmented.{values_to}
use Rattle.icn_segments.proofs.Segmented.{IsSegmented, segmented, filled_of, few_values, length_to, put_within, segmented_put, value_set}
use Rattle.icn_segments.proofs.raw_stack.RawStackStack.set.Goals as goal

pub put-requires-clause-within : goal.put-requires-clause-within
put-requires-clause-within g c =
    let s = c.args.self.now in
    let t = segmented s.segments.items s.len s.whole s.filled s.within s.few in
    (put_within s.segments.items s.len c.args.i t (omega (arith, c.requires, s.within, length_to s.segments.items s.len t.filled))).0

pub put-requires-clause-whole : goal.put-requires-clause-whole
put-requires-clause-whole g c =
    let s = c.args.self.now in
    let t = segmented s.segments.items s.len s.whole s.filled s.within s.few in
    (put_within s.segments.items s.len c.args.i t (omega (arith, c.requires, s.within, length_to s.segments.items s.len t.filled))).1

pub invariant_of-self : goal.invariant_of-self
invariant_of-self g c =
    let s = c.args.self.now in
    let n = s.len in
    let t = segmented s.segments.items n s.whole s.filled s.within s.few in
    let i : c.args.i < n = omega (arith, c.requires, length_to s.segments.items n t.filled) in
    let p : c.args.i < 256 * length s.segments.items = omega (arith, s.within) in
    let u : IsSegmented c.put.new.segments.items n = subst (λ (w : List (List (Option g.row.T.Denot))). IsSegmented w n) (sym c.put.ensures)
    (segmented_put s.segments.items n n c.args.i c.args.v t p s.within (λ j r d. r)) in
    record { whole = u.whole; filled = filled_of _ _ u; within = u.within; few = u.few; small = few_values _ n u.within u.few }

pub returns-clause-cells : goal.returns-clause-cells
returns-clause-cells g c =
    let s = c.args.self.now in
    let n = s.len in
    let t = segmented s.segments.items n s.whole s.filled s.within s.few in
    let i : c.args.i < n = omega (arith, c.requires, length_to s.segments.items n t.filled) in
    ap (λ (w : List (List (Option g.row.T.Denot))). values_to w n) c.put.ensures ∙ value_set s.segments.items n c.args.i c.args.v t i
