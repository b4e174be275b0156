use Rattle.std.proofs.Common.{◌∙◌, ◌+◌, ◌<◌, ◌^◌, refl, ap, arith}
use Rattle.std.proofs.lemmas.List.{take_all}
use Rattle.icn_strings.specs.Chunks.{chunk_sizes}
use Rattle.icn_strings.proofs.ChunkSizes.{size_fits, size_next}
use Rattle.icn_strings.proofs.closed.size_of.Goals as goal

pub loop-chunk-init : goal.loop-chunk-init
loop-chunk-init c = refl

pub overflow_add-sum : goal.overflow_add-sum
overflow_add-sum c =
    let few : c.loop-chunk.sum + c.len.result < 2 ^ 64 =
    size_fits c.args.chunks.now c.loop-chunk.chunk-index c.chunk-item.result c.loop-chunk.sum c.len.result c.loop-chunk-test.true
    c.loop-chunk.invariant c.chunk-item.is c.len.ensures (2 ^ 64) c.requires in
    omega (arith, few)

pub loop-chunk-preserved : goal.loop-chunk-preserved
loop-chunk-preserved c =
    size_next c.args.chunks.now c.loop-chunk.chunk-index c.chunk-item.result c.loop-chunk.sum c.len.result c.loop-chunk-test.true
    c.loop-chunk.invariant c.chunk-item.is c.len.ensures

pub returns : goal.returns
returns c =
    c.loop-chunk.invariant ∙ ap (λ cs. chunk_sizes cs) (take_all c.loop-chunk.chunk-index c.args.chunks.now c.loop-chunk-test.false)
