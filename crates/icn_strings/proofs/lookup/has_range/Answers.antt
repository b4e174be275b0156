use Rattle.std.proofs.Common.{◌∙◌, arith}
use Rattle.icn_strings.proofs.ChunkParts.{held_there, none_there}
use Rattle.icn_strings.proofs.lookup.has_range.Goals as goal

pub returns-then-begun-eq0 : goal.returns-then-begun-eq0
returns-then-begun-eq0 c =
    let begun = c.begun_by-begun.ensures in
    none_there c.args.range c.args.chunks.now c.begun_by-begun.result c.requires.order c.requires.some begun.few begun.before begun.behind
    c.if-begun-eq0.true

pub returns : goal.returns
returns c =
    let begun = c.begun_by-begun.ensures in
    let chunk = c.index-chunks-last.result in
    c.holds.ensures
    ∙ held_there c.args.range c.args.chunks.now c.begun_by-begun.result c.requires.order c.requires.some begun.few begun.before begun.behind chunk
    (omega (arith, c.if-begun-eq0.false)) c.index-chunks-last.is
