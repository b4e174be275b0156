use Rattle.std.proofs.Common.{◌≡◌, ◌++◌, true, List, sym, subst}
use Rattle.std.specs.List.{list_any}
use Rattle.icn_strings.specs.Parts.{RegionPart, holds}
use Rattle.icn_strings.specs.Chunks.{parts_of_chunks}
use Rattle.icn_strings.proofs.closed.is_in_chunk.Goals as goal

pub returns-then-is_empty : goal.returns-then-is_empty
returns-then-is_empty c =
    let behind = parts_of_chunks c.args.chunks.now in
    sym (subst (λ (parts : List RegionPart). list_any (holds c.args.range) (parts ++ behind) ≡ true) (c.is_empty.ensures c.if-is_empty.true) c.requires.held)
