use Rattle.std.proofs.Common.{◌∙◌, ◌++◌, List, ap}
use Rattle.icn_strings.specs.declared.chunk.Chunk.{Chunk}
use Rattle.icn_strings.specs.Parts.{RegionPart}
use Rattle.icn_strings.specs.Chunks.{parts_of_chunks}
use Rattle.icn_strings.proofs.closed.Closed.nothing.Goals as goal

pub returns : goal.returns
returns c =
    ap (λ (parts : List RegionPart). parts ++ parts_of_chunks c.new.result.items) c.nothing.ensures
    ∙ ap (λ (chunks : List Chunk). parts_of_chunks chunks) c.new.ensures.items
