use Rattle.std.proofs.Common.{arith, ℕ, List, Option, ap, sym, length, ◌∙◌, ◌≡◌}
use Rattle.icn_structs.specs.Counts.{count_at}
use Rattle.icn_structs.specs.GapLists.{present}
use Rattle.icn_structs.proofs.GapSums.{any_default, root_counts}
use Rattle.icn_structs.proofs.gaps.Gaps.count.Goals as goal

pub returns-else-self-eq0-clause-count : goal.returns-else-self-eq0-clause-count
returns-else-self-eq0-clause-count c =
    c.index.ensures ∙ any_default c.self.inside.counts.items 1 c.index.result.now 0 (omega (arith, c.self.invariant.counted.length, c.if-self-eq0.false))
    ∙ root_counts c.self.inside.items.items c.self.inside.counts.items c.self.inside.width c.self.invariant
    ∙ ap (λ (items : List (Option ℕ)). length (present items)) c.self.view_is

pub returns-else-self-eq0-clause-small : goal.returns-else-self-eq0-clause-small
returns-else-self-eq0-clause-small c =
    let all : length (present c.args.self.now) ≡ length (present c.self.inside.items.items) =
    ap (λ (items : List (Option ℕ)). length (present items)) (sym c.self.view_is) in
    let root : count_at c.self.inside.counts.items 1 ≡ length (present c.self.inside.items.items) =
    root_counts c.self.inside.items.items c.self.inside.counts.items c.self.inside.width c.self.invariant in
    omega (arith, all, root, c.self.invariant.counted.small 1, c.self.inside.items.ok, c.self.inside.items.small)
