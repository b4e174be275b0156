use Rattle.std.proofs.Common.{◌∙◌, ◌++◌, List, sym, ap, arith, append-nil}
use Rattle.icn_strings.specs.declared.chunk.Chunk.{Chunk}
use Rattle.icn_strings.specs.Chunks.{parts_of_chunks}
use Rattle.icn_strings.proofs.PackedBytes.{no_items}
use Rattle.icn_strings.proofs.closed.Closed.is_empty.Goals as goal

pub returns-then-len-eq0 : goal.returns-then-len-eq0
returns-then-len-eq0 c = λ is.
    sym c.self.view_is
    ∙ (ap (λ (chunks : List Chunk). c.self.inside.packed ++ parts_of_chunks chunks)
    (no_items c.self.inside.chunks.items (omega (arith, c.if-len-eq0.true, c.len.ensures, c.self.inside.chunks.ok)))
    ∙ (append-nil c.self.inside.packed ∙ c.is_empty.ensures is))
