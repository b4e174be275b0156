use Rattle.std.proofs.Common.{arith}
use Rattle.icn_strings.specs.Regions.{held_by}
use Rattle.icn_strings.proofs.ChunkSizes.{held_within}
use Rattle.icn_strings.proofs.region.Region.held_bytes.Goals as goal

pub overflow_add-result : goal.overflow_add-result
overflow_add-result c =
    let region = c.args.self.now in
    omega (arith, region.counted, held_within region, region.sound.short, c.len.ensures, region.last.bytes.ok)

pub returns : goal.returns
unfolding held_by
returns c =
    let region = c.args.self.now in
    omega (arith, region.counted, c.len.ensures, region.last.bytes.ok)
