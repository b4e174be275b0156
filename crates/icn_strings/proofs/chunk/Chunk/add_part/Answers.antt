use Rattle.std.proofs.Common.{arith}
use Rattle.icn_strings.specs.Chunks.{part_of_chunk}
use Rattle.icn_strings.proofs.HeldRanges.{lies}
use Rattle.icn_strings.proofs.chunk.Chunk.add_part.Goals as goal

pub add_again-requires-clause-within : goal.add_again-requires-clause-within
add_again-requires-clause-within c =
    let lay = lies c.args.range (part_of_chunk c.args.self.now) c.requires.holds in
    omega (arith, lay.from, lay.to)
