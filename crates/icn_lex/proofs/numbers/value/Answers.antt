use Rattle.std.proofs.Common.{sym, ◌∙◌, refl, get_or}
use Rattle.icn_lex.proofs.DigitValues.{stays_large}
use Rattle.icn_lex.proofs.numbers.value.Goals as goal

pub returns-in_err-value-clause-found : goal.returns-in_err-value-clause-found
returns-in_err-value-clause-found c =
    let is = c.loop-digit.invariant.read in
    c.from_residual.ensures ∙ stays_large c.args.radix c.loop-digit.value c.args.digits.now c.loop-digit.digit-index
    (get_or c.args.digits.now c.loop-digit.digit-index 0) c.requires c.loop-digit-test.true
    is refl (sym (c.in_err-value.was) ∙ c.with_digit.ensures)
