use Rattle.std.proofs.Common.{◌≡◌, ◌∙◌, ◌++◌, ◌∷◌, [], List, ap}
use Rattle.icn_strings.specs.declared.chunk.Chunk.{Chunk}
use Rattle.icn_strings.specs.Parts.{RegionPart}
use Rattle.icn_strings.specs.Chunks.{part_of_chunk, parts_of_chunks}
use Rattle.icn_strings.proofs.ClosedParts.{refused, with_chunk}
use Rattle.icn_strings.proofs.closed.Closed.add.Goals as goal

pub returns-clause-added : goal.returns-clause-added
returns-clause-added c =
    let packed = c.self.inside.packed in
    let chunks = c.self.inside.chunks.items in
    let last = c.args.last.now in
    let items : c.push_reserved.new.self.items ≡ chunks ++ last ∷ [] =
    c.push_reserved.ensures.items
    ∙ (ap (λ (cs : List Chunk). cs ++ c.replace-before.result ∷ []) c.in_ok-reserve.ensures.items
    ∙ ap (λ (chunk : Chunk). chunks ++ chunk ∷ []) c.replace-before.ensures.value) in
    ap (λ (cs : List Chunk). packed ++ parts_of_chunks cs) items
    ∙ (with_chunk packed chunks last ∙ ap (λ (parts : List RegionPart). parts ++ part_of_chunk last ∷ []) c.self.view_is)

pub returns-in_err-reserve-clause-unchanged : goal.returns-in_err-reserve-clause-unchanged
returns-in_err-reserve-clause-unchanged c =
    refused c.from_residual.result
    (ap (λ (cs : List Chunk). c.self.inside.packed ++ parts_of_chunks cs) c.in_err-reserve.ensures.items ∙ c.self.view_is)
