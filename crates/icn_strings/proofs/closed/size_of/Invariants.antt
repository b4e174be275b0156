use Rattle.std.proofs.Common.{◌≡◌, take}
use Rattle.icn_strings.specs.Chunks.{chunk_sizes}
use Rattle.icn_strings.proofs.closed.size_of.Given as goal

-- the bytes of the chunks so far
abbrev pub invariant-loop-chunk : goal.invariant-loop-chunk
invariant-loop-chunk l = l.sum ≡ chunk_sizes (take l.chunk-index l.chunks)
