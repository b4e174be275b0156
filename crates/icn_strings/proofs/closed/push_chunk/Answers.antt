use Rattle.std.proofs.Common.{◌∙◌, ◌++◌, ◌∷◌, [], List, ℕ, ap}
use Rattle.std.proofs.lemmas.List.{map_push}
use Rattle.icn_strings.specs.declared.chunk.Chunk.{Chunk}
use Rattle.icn_strings.specs.Parts.{part}
use Rattle.icn_strings.specs.Chunks.{part_of_chunk, parts_of_chunks}
use Rattle.icn_strings.proofs.closed.push_chunk.Goals as goal

pub returns : goal.returns
returns c =
    let had = c.args.chunks.now.items in
    let new : Chunk = record { first = c.args.first; bytes = c.in_ok-bytes.bytes } in
    ap (λ (chunks : List Chunk). parts_of_chunks chunks) c.in_ok-push.ensures.items
    ∙ (map_push part_of_chunk had new ∙ ap (λ (ys : List ℕ). parts_of_chunks had ++ part c.args.first ys ∷ []) c.in_ok-bytes.ensures.items)
