use Rattle.std.proofs.lemmas.Int.{to_z-of_z}
use Rattle.std.specs.Int.{w64}
use Rattle.icn_text.proofs.Powers.{even_inverse, odd_inverse}
use Rattle.icn_text.proofs.arithmetic.power.Goals as goal

pub returns-then-exponent-eq0 : goal.returns-then-exponent-eq0
returns-then-exponent-eq0 c =
    even_inverse c.args.base c.args.exponent c.ranges.base c.in-Err-minus1.is-1
    (rw (to_z-of_z w64 c.args.exponent c.ranges.exponent) at c.in-Err-minus1.ensures) c.ranges.exponent
    (rw (to_z-of_z w64 c.args.exponent c.ranges.exponent) at c.if-exponent-eq0.true)

pub returns-else-exponent-eq0 : goal.returns-else-exponent-eq0
returns-else-exponent-eq0 c =
    odd_inverse c.args.base c.args.exponent c.ranges.base c.in-Err-minus1.is-1
    (rw (to_z-of_z w64 c.args.exponent c.ranges.exponent) at c.in-Err-minus1.ensures) c.ranges.exponent
    (rw (to_z-of_z w64 c.args.exponent c.ranges.exponent) at c.if-exponent-eq0.false)
