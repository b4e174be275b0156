use Rattle.std.proofs.Common.{◌≡◌, ◌∙◌, true, List, ℕ, length, sym, ap, subst}
use Rattle.icn_strings.specs.declared.chunk.Chunk.{Chunk}
use Rattle.icn_strings.specs.Parts.{holds, HasItsPart}
use Rattle.icn_strings.specs.Chunks.{part_of_chunk}
use Rattle.icn_strings.proofs.HeldRanges.{part_length}
use Rattle.icn_strings.proofs.AddedBytes.{part_is}
use Rattle.icn_strings.proofs.ChunkParts.{chunk_has}
use Rattle.icn_strings.proofs.lookup.bytes_in.Goals as goal

pub part-requires : goal.part-requires
part-requires c =
    let chunk = c.index-chunks-index.result in
    subst (λ (x : Chunk). holds c.args.range (part_of_chunk x) ≡ true) (sym c.index-chunks-index.is) (c.index_of-index.ensures.held chunk)

pub returns-clause-bytes : goal.returns-clause-bytes
returns-clause-bytes c all are =
    let chunk = c.index-chunks-index.result in
    let part : HasItsPart all (part_of_chunk chunk) =
    subst (λ (x : Chunk). HasItsPart all (part_of_chunk x)) (sym c.index-chunks-index.is)
    (chunk_has (HasItsPart all) c.args.chunks.now c.index_of-index.result chunk c.index_of-index.ensures.within are) in
    let here : holds c.args.range (part_of_chunk chunk) ≡ true =
    subst (λ (x : Chunk). holds c.args.range (part_of_chunk x) ≡ true) (sym c.index-chunks-index.is) (c.index_of-index.ensures.held chunk) in
    c.part.ensures ∙ part_is all (part_of_chunk chunk) c.args.range part here

pub returns-clause-len : goal.returns-clause-len
returns-clause-len c =
    let chunk = c.index-chunks-index.result in
    let here : holds c.args.range (part_of_chunk chunk) ≡ true =
    subst (λ (x : Chunk). holds c.args.range (part_of_chunk x) ≡ true) (sym c.index-chunks-index.is) (c.index_of-index.ensures.held chunk) in
    ap (λ (ys : List ℕ). length ys) c.part.ensures ∙ part_length c.args.range (part_of_chunk chunk) here
