use Rattle.std.proofs.Common.{◌≡◌, ◌∙◌, ◌++◌, sym, ap, subst, true, List}
use Rattle.std.specs.List.{All, AllPairs, list_any}
use Rattle.icn_strings.specs.declared.chunk.Chunk.{Chunk}
use Rattle.icn_strings.specs.Parts.{EndsBefore, HasItsPart, RegionPart, holds}
use Rattle.icn_strings.specs.Chunks.{parts_of_chunks}
use Rattle.icn_strings.proofs.ClosedParts.{all_behind, all_front, found_front, pairs_behind, pairs_front}
use Rattle.icn_strings.proofs.closed.Closed.part.Goals as goal

pub is_in_chunk-requires-clause-order : goal.is_in_chunk-requires-clause-order
is_in_chunk-requires-clause-order c =
    subst (λ (cs : List Chunk). AllPairs EndsBefore (parts_of_chunks cs)) (sym c.deref.ensures.value)
    (pairs_behind EndsBefore c.self.inside.packed (parts_of_chunks c.self.inside.chunks.items)
    (subst (λ (parts : List RegionPart). AllPairs EndsBefore parts) (sym c.self.view_is) c.requires.order))

pub is_in_chunk-requires-clause-held : goal.is_in_chunk-requires-clause-held
is_in_chunk-requires-clause-held c =
    subst (λ (cs : List Chunk). list_any (holds c.args.range) (c.self.inside.packed ++ parts_of_chunks cs) ≡ true) (sym c.deref.ensures.value)
    (subst (λ (parts : List RegionPart). list_any (holds c.args.range) parts ≡ true) (sym c.self.view_is) c.requires.held)

pub bytes_in-requires-clause-order : goal.bytes_in-requires-clause-order
bytes_in-requires-clause-order c =
    subst (λ (cs : List Chunk). AllPairs EndsBefore (parts_of_chunks cs)) (sym c.deref-then-is_in_chunk.ensures.value)
    (pairs_behind EndsBefore c.self.inside.packed (parts_of_chunks c.self.inside.chunks.items)
    (subst (λ (parts : List RegionPart). AllPairs EndsBefore parts) (sym c.self.view_is) c.requires.order))

pub bytes_in-requires-clause-held : goal.bytes_in-requires-clause-held
bytes_in-requires-clause-held c =
    subst (λ (cs : List Chunk). list_any (holds c.args.range) (parts_of_chunks cs) ≡ true) (c.deref.ensures.value ∙ sym c.deref-then-is_in_chunk.ensures.value)
    (sym c.is_in_chunk.ensures ∙ c.if-is_in_chunk.true)

pub returns-then-is_in_chunk-clause-bytes : goal.returns-then-is_in_chunk-clause-bytes
returns-then-is_in_chunk-clause-bytes c all are =
    c.bytes_in.ensures.bytes all
    (subst (λ (cs : List Chunk). All (HasItsPart all) (parts_of_chunks cs)) (sym c.deref-then-is_in_chunk.ensures.value)
    (all_behind (HasItsPart all) c.self.inside.packed (parts_of_chunks c.self.inside.chunks.items)
    (subst (λ (parts : List RegionPart). All (HasItsPart all) parts) (sym c.self.view_is) are)))

pub part-requires-clause-order : goal.part-requires-clause-order
part-requires-clause-order c =
    pairs_front EndsBefore c.self.inside.packed (parts_of_chunks c.self.inside.chunks.items)
    (subst (λ (parts : List RegionPart). AllPairs EndsBefore parts) (sym c.self.view_is) c.requires.order)

pub part-requires-clause-held : goal.part-requires-clause-held
part-requires-clause-held c =
    found_front (holds c.args.range) c.self.inside.packed (parts_of_chunks c.self.inside.chunks.items)
    (subst (λ (parts : List RegionPart). list_any (holds c.args.range) parts ≡ true) (sym c.self.view_is) c.requires.held)
    (sym (c.is_in_chunk.ensures ∙ ap (λ (cs : List Chunk). list_any (holds c.args.range) (parts_of_chunks cs)) c.deref.ensures.value)
    ∙ c.if-is_in_chunk.false)

pub returns-clause-bytes : goal.returns-clause-bytes
returns-clause-bytes c all are =
    c.part.ensures.bytes all
    (all_front (HasItsPart all) c.self.inside.packed (parts_of_chunks c.self.inside.chunks.items)
    (subst (λ (parts : List RegionPart). All (HasItsPart all) parts) (sym c.self.view_is) are))
