use Rattle.std.proofs.Common.{arith}
use Rattle.icn_prep.proofs.DigitValues.{has_room, digit_within}
use Rattle.icn_prep.proofs.operand.number_of.Goals as goal

pub overflow_mul-value : goal.overflow_mul-value
overflow_mul-value c = omega (arith, has_room c.loop-digit.value c.loop-digit.digit-index c.loop-digit.invariant.1 (omega arith))

pub overflow_add-value : goal.overflow_add-value
overflow_add-value c =
    let digit = digit_within c.args.digits.now c.loop-digit.digit-index c.requires.digits c.loop-digit-test.true in
    omega (arith, has_room c.loop-digit.value c.loop-digit.digit-index c.loop-digit.invariant.1 (omega arith), digit.1, c.from.ensures)
