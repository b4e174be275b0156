use Rattle.std.proofs.Common.{◌≡◌, ◌<◌, ◌+◌, ◌^◌, List, [], ◌∷◌, ◌++◌, length, Option, None, ap, ◌∙◌, sym, subst, arith}
use Rattle.std.proofs.lemmas.List.{length-replicate}
use Rattle.icn_segments.specs.Segmented.{values_to}
use Rattle.icn_segments.proofs.Segmented.{IsSegmented, segmented, filled_of, few_values, segmented_more, values_more}
use Rattle.icn_segments.proofs.raw_stack.RawStack.take_segment.Goals as goal

pub invariant_of-self-2 : goal.invariant_of-self-2
invariant_of-self-2 g c =
    let s = c.args.self.now in
    let old : List (List (Option g.row.T.Denot)) = s.segments.items in
    let segment : List (Option g.row.T.Denot) = c.in_ok-segment.segment in
    let t = segmented old s.len s.whole s.filled s.within s.few in
    let is : c.push_reserved.new.self.items ≡ old ++ segment ∷ [] = c.push_reserved.ensures.items
    ∙ ap (λ (w : List (List (Option g.row.T.Denot))). w ++ segment ∷ []) c.reserve.ensures.items in
    let none : Option g.row.T.Denot = None in
    let long : length segment ≡ 256 = ap length c.in_ok-segment.ensures ∙ length-replicate 256 none in
    let few : length old + 1 < 2 ^ 24 = omega (arith, c.if-len-ge16777215.false, c.len.ensures) in
    let u : IsSegmented c.push_reserved.new.self.items s.len
    = subst (λ (w : List (List (Option g.row.T.Denot))). IsSegmented w s.len) (sym is) (segmented_more old segment s.len t long few) in
    record { whole = u.whole; filled = filled_of _ _ u; within = u.within; few = u.few; small = few_values _ s.len u.within u.few }

pub returns-clause-values : goal.returns-clause-values
returns-clause-values g c =
    let s = c.args.self.now in
    let old : List (List (Option g.row.T.Denot)) = s.segments.items in
    let segment : List (Option g.row.T.Denot) = c.in_ok-segment.segment in
    let t = segmented old s.len s.whole s.filled s.within s.few in
    let is : c.push_reserved.new.self.items ≡ old ++ segment ∷ [] = c.push_reserved.ensures.items
    ∙ ap (λ (w : List (List (Option g.row.T.Denot))). w ++ segment ∷ []) c.reserve.ensures.items in
    ap (λ (w : List (List (Option g.row.T.Denot))). values_to w s.len) is ∙ values_more old segment s.len t
