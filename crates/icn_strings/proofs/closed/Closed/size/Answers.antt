use Rattle.std.proofs.Common.{◌≡◌, ◌+◌, ◌++◌, List, ap, arith}
use Rattle.icn_strings.specs.declared.chunk.Chunk.{Chunk}
use Rattle.icn_strings.specs.Parts.{RegionPart, sizes}
use Rattle.icn_strings.specs.Chunks.{chunk_sizes, parts_of_chunks}
use Rattle.icn_strings.proofs.ChunkSizes.{sizes_of_both}
use Rattle.icn_strings.proofs.closed.Closed.size.Goals as goal

-- the parts and the chunks behind them have as many bytes as the list
same_size : (packed now : List RegionPart) (chunks given : List Chunk) → packed ++ parts_of_chunks chunks ≡ now → given ≡ chunks
    → sizes packed + chunk_sizes given ≡ sizes now
same_size packed now chunks given view same =
    let both = sizes_of_both packed chunks in
    let all = ap (λ (parts : List RegionPart). sizes parts) view in
    let few = ap (λ (cs : List Chunk). chunk_sizes cs) same in
    omega (arith, both, all, few)

pub size_of-requires : goal.size_of-requires
size_of-requires c =
    let same = same_size c.self.inside.packed c.args.self.now c.self.inside.chunks.items c.deref.result.now c.self.view_is c.deref.ensures.value in
    omega (arith, same, c.requires)

pub overflow_add-result : goal.overflow_add-result
overflow_add-result c =
    let same = same_size c.self.inside.packed c.args.self.now c.self.inside.chunks.items c.deref.result.now c.self.view_is c.deref.ensures.value in
    let front = c.size.ensures in
    let behind = c.size_of.ensures in
    omega (arith, same, front, behind, c.requires)

pub returns : goal.returns
returns c =
    let same = same_size c.self.inside.packed c.args.self.now c.self.inside.chunks.items c.deref.result.now c.self.view_is c.deref.ensures.value in
    let front = c.size.ensures in
    let behind = c.size_of.ensures in
    omega (arith, same, front, behind)
