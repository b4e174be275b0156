use Rattle.std.proofs.Common.{leb, leb-true, leb-false, rules}
use Rattle.std.proofs.lemmas.List.Sorted.{IsPartitionPoint-from_clause, IsPartitionedBy-leb}
use Rattle.icn_strings.specs.declared.chunk.Chunk.{Chunk}
use Rattle.icn_strings.proofs.ChunkParts.{chunks_rise}
use Rattle.icn_strings.proofs.lookup.begun_by.Goals as goal

pub returns-clause-before : goal.returns-clause-before
returns-clause-before c =
    let parted = IsPartitionedBy-leb (λ (chunk : Chunk). chunk.first) _ c.args.start (chunks_rise _ c.requires) in
    let point = IsPartitionPoint-from_clause (λ (chunk : Chunk). leb chunk.first c.args.start) _ _
    c.partition_point.ensures.partitioned parted (λ a r q k. search rules) in
    λ k d from to. leb-true _ _ (point.0 k d from to)

pub returns-clause-behind : goal.returns-clause-behind
returns-clause-behind c =
    let parted = IsPartitionedBy-leb (λ (chunk : Chunk). chunk.first) _ c.args.start (chunks_rise _ c.requires) in
    let point = IsPartitionPoint-from_clause (λ (chunk : Chunk). leb chunk.first c.args.start) _ _
    c.partition_point.ensures.partitioned parted (λ a r q k. search rules) in
    λ k d from to. leb-false _ _ (point.1 k d from to)
