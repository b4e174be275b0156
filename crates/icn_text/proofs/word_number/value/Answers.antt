use Rattle.icn_text.proofs.GrowingDigits.{too_large}
use Rattle.icn_text.proofs.word_number.value.Goals as goal

pub returns-in_default-with_digit : goal.returns-in_default-with_digit
returns-in_default-with_digit c =
    too_large c.loop-byte.value c.in-Some.byte.now c.args.text.now c.loop-byte.rest.now c.in-Some.others.now c.in-Some.ensures.cases.0
    c.in_default-with_digit.ensures c.loop-byte.invariant
