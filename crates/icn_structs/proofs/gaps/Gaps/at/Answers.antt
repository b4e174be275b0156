use Rattle.std.proofs.Common.{arith, ℕ, List, Option, ap, subst, sym, length, slice_get, ◌∙◌, ◌≡◌, ◌<◌}
use Rattle.icn_structs.specs.Counts.{count_at}
use Rattle.icn_structs.specs.GapLists.{present, IsCounted}
use Rattle.icn_structs.proofs.GapSums.{found_there, no_gaps, root_counts}
use Rattle.icn_structs.proofs.gaps.Gaps.at.Goals as goal

pub returns-then-count-len : goal.returns-then-count-len
returns-then-count-len c =
    let all : length (present c.args.self.now) ≡ length (present c.self.inside.items.items) =
    ap (λ (items : List (Option ℕ)). length (present items)) (sym c.self.view_is) in
    let full : length (present c.self.inside.items.items) ≡ length c.self.inside.items.items =
    omega (arith, all, c.count-2.ensures.count, c.if-count-len.true, c.len.ensures, c.self.inside.items.ok) in
    let less : c.args.place < length c.self.inside.items.items =
    omega (arith, all, full, c.count.ensures.count, c.if-place-count.false) in
    record {
      item = c.index.ensures ∙ no_gaps c.self.inside.items.items full c.args.place c.index.result.now less
          ∙ ap (λ (items : List (Option ℕ)). slice_get (present items) c.args.place) c.self.view_is;
    }

pub leaf_of-requires-clause-counted : goal.leaf_of-requires-clause-counted
leaf_of-requires-clause-counted c =
    let counted : IsCounted ℕ c.self.inside.items.items c.deref.result.now c.self.inside.width =
    subst (λ counts. IsCounted ℕ c.self.inside.items.items counts c.self.inside.width) (sym c.deref.ensures.value) c.self.invariant in
    let all : length (present c.args.self.now) ≡ length (present c.self.inside.items.items) =
    ap (λ (items : List (Option ℕ)). length (present items)) (sym c.self.view_is) in
    let root : count_at c.deref.result.now 1 ≡ length (present c.self.inside.items.items) =
    root_counts c.self.inside.items.items c.deref.result.now c.self.inside.width counted in
    omega (arith, c.if-place-count.false, c.count.ensures.count, all, root)

pub returns : goal.returns
returns c =
    let counted : IsCounted ℕ c.self.inside.items.items c.deref.result.now c.self.inside.width =
    subst (λ counts. IsCounted ℕ c.self.inside.items.items counts c.self.inside.width) (sym c.deref.ensures.value) c.self.invariant in
    record {
      item = c.index-2.ensures
          ∙ found_there c.self.inside.items.items c.deref.result.now c.self.inside.width counted c.args.place
          c.leaf_of.result c.index-2.result.now c.leaf_of.ensures.leaf c.leaf_of.ensures.before c.leaf_of.ensures.within
          ∙ ap (λ (items : List (Option ℕ)). slice_get (present items) c.args.place) c.self.view_is;
    }
