use Rattle.std.proofs.Common.{sym, ◌∙◌}
use Rattle.icn_unit.proofs.Decimals.{stays_large}
use Rattle.icn_unit.proofs.operand.value.Goals as goal

pub returns-in_err-value-clause-found : goal.returns-in_err-value-clause-found
returns-in_err-value-clause-found c =
    c.from_residual.ensures ∙ stays_large c.loop-byte.value c.args.text.now c.loop-byte.byte-index c.loop-byte-test.true c.loop-byte.invariant.read
    (sym c.in_err-value.was ∙ c.with_digit.ensures)
