use Rattle.std.proofs.Common.{◌∙◌, sym, ap, subst, List}
use Rattle.std.specs.List.{AllPairs, list_any}
use Rattle.icn_strings.specs.declared.chunk.Chunk.{Chunk}
use Rattle.icn_strings.specs.Parts.{EndsBefore, RegionPart, holds}
use Rattle.icn_strings.specs.Chunks.{parts_of_chunks}
use Rattle.icn_strings.proofs.ClosedParts.{any_behind, any_front, pairs_behind, pairs_front}
use Rattle.icn_strings.proofs.closed.Closed.has.Goals as goal

pub has-requires-clause-order : goal.has-requires-clause-order
has-requires-clause-order c =
    pairs_front EndsBefore c.self.inside.packed (parts_of_chunks c.self.inside.chunks.items)
    (subst (λ (parts : List RegionPart). AllPairs EndsBefore parts) (sym c.self.view_is) c.requires.order)

pub has_range-requires-clause-order : goal.has_range-requires-clause-order
has_range-requires-clause-order c =
    subst (λ (cs : List Chunk). AllPairs EndsBefore (parts_of_chunks cs)) (sym c.deref.ensures.value)
    (pairs_behind EndsBefore c.self.inside.packed (parts_of_chunks c.self.inside.chunks.items)
    (subst (λ (parts : List RegionPart). AllPairs EndsBefore parts) (sym c.self.view_is) c.requires.order))

pub returns-then-has : goal.returns-then-has
returns-then-has c =
    any_front (holds c.args.range) c.self.inside.packed (parts_of_chunks c.self.inside.chunks.items) (sym c.has.ensures ∙ c.if-has.true)
    ∙ ap (λ (parts : List RegionPart). list_any (holds c.args.range) parts) c.self.view_is

pub returns : goal.returns
returns c =
    c.has_range.ensures
    ∙ (ap (λ (cs : List Chunk). list_any (holds c.args.range) (parts_of_chunks cs)) c.deref.ensures.value
    ∙ (any_behind (holds c.args.range) c.self.inside.packed (parts_of_chunks c.self.inside.chunks.items) (sym c.has.ensures ∙ c.if-has.false)
    ∙ ap (λ (parts : List RegionPart). list_any (holds c.args.range) parts) c.self.view_is))
