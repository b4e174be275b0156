use Rattle.std.proofs.Common.{arith}
use Rattle.icn_strings.proofs.ChunkParts.{chunk_there, found_there, within_there}
use Rattle.icn_strings.proofs.lookup.index_of.Goals as goal

pub overflow_sub-result : goal.overflow_sub-result
overflow_sub-result c =
    let begun = c.begun_by.ensures in
    let found =
    found_there c.args.range c.args.chunks.now c.begun_by.result c.requires.order c.requires.some begun.few begun.before begun.behind c.requires.held in
    let some = found.some in
    omega (arith, some)

pub returns-clause-within : goal.returns-clause-within
returns-clause-within c =
    let begun = c.begun_by.ensures in
    within_there c.args.range c.args.chunks.now c.begun_by.result c.requires.order c.requires.some begun.few begun.before begun.behind c.requires.held

pub returns-clause-held : goal.returns-clause-held
returns-clause-held c =
    let begun = c.begun_by.ensures in
    chunk_there c.args.range c.args.chunks.now c.begun_by.result c.requires.order c.requires.some begun.few begun.before begun.behind c.requires.held
