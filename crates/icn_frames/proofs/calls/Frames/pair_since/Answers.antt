use Rattle.std.proofs.Common.{Option, Some, ℕ, map, subst, sym, ap, ◌∙◌}
use Rattle.icn_frames.specs.Stacks.{pair_at}
use Rattle.icn_frames.specs.StackInvariant.{SeenStack, shape, IsScan, KindAt, MayBeAt}
use Rattle.icn_frames.proofs.HeightsRead.{below_length, pair_read}
use Rattle.icn_frames.proofs.calls.Frames.pair_since.Goals as goal

pub pair_at-requires : goal.pair_at-requires
pair_at-requires g c =
    let s = c.self.inside.cells.cells in
    let t = subst (λ (v : SeenStack). MayBeAt IsScan (map shape v.flat.cells) c.oldest.result) (sym c.self.view_is) c.oldest.ensures.there in
    let k : KindAt IsScan (map shape s) c.in-Some.height = subst (λ (w : Option ℕ). MayBeAt IsScan (map shape s) w) c.in-Some.is t in
    below_length s c.in-Some.height k.from k.to

pub returns-in-Some : goal.returns-in-Some
returns-in-Some g c =
    let s = c.self.inside.cells.cells in
    let t = subst (λ (v : SeenStack). MayBeAt IsScan (map shape v.flat.cells) c.oldest.result) (sym c.self.view_is) c.oldest.ensures.there in
    let k : KindAt IsScan (map shape s) c.in-Some.height = subst (λ (w : Option ℕ). MayBeAt IsScan (map shape s) w) c.in-Some.is t in
    pair_read s c.in-Some.height c.pair_at.result k c.pair_at.ensures
    ∙ ap (λ (v : SeenStack). pair_at v.flat.cells (Some c.in-Some.height)) c.self.view_is
    ∙ ap (pair_at c.args.self.now.flat.cells) (sym c.in-Some.is ∙ c.oldest.ensures.value)
