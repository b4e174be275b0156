use Rattle.std.proofs.Common.{◌∙◌, sym, arith}
use Rattle.icn_strings.specs.Chunks.{part_of_chunk}
use Rattle.icn_strings.specs.Regions.{IsHeld, bytes_of}
use Rattle.icn_strings.proofs.HeldRanges.{not_first}
use Rattle.icn_strings.proofs.AddedBytes.{part_is, last_agrees}
use Rattle.icn_strings.proofs.region.Region.bytes.Goals as goal

pub returns-then-holds : goal.returns-then-holds
unfolding bytes_of
returns-then-holds c =
    let region = c.args.self.now in
    c.part.ensures
    ∙ part_is region.written.bytes (part_of_chunk region.last) c.args.range (last_agrees region.written.bytes region.last region.sound.ends)
    (sym c.holds.ensures ∙ c.if-holds.true)

pub part-requires-2-clause-order : goal.part-requires-2-clause-order
part-requires-2-clause-order c = c.args.self.now.sound.order

pub part-requires-2-clause-held : goal.part-requires-2-clause-held
unfolding IsHeld
part-requires-2-clause-held c = not_first _ _ (sym c.holds.ensures ∙ c.if-holds.false) (c.requires.held (omega (arith, c.if-range-eq0.false)))

pub returns : goal.returns
unfolding bytes_of
returns c = c.part-2.ensures.bytes c.args.self.now.written.bytes c.args.self.now.sound.agree
