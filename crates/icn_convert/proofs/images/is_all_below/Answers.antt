use Rattle.std.proofs.Common.{arith, ◌∙◌}
use Rattle.icn_convert.proofs.Ranges.{other_length, other_byte, first_bytes}
use Rattle.icn_convert.proofs.images.is_all_below.Goals as goal

pub returns-then-bytes-count : goal.returns-then-bytes-count
returns-then-bytes-count c = other_length c.args.bytes.now c.args.count c.if-bytes-count.true

pub returns-then-from-place : goal.returns-then-from-place
returns-then-from-place c = other_byte c.args.bytes.now c.args.count c.loop-place.place c.if-bytes-count.false c.loop-place-test.true
    (λ same. c.if-from-place.true (c.from.ensures ∙ same))

pub returns : goal.returns
returns c = first_bytes c.args.bytes.now c.args.count c.if-bytes-count.false (λ k within. c.loop-place.invariant k (omega (arith, c.loop-place-test.false)))
