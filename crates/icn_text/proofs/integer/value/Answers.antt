use Rattle.std.proofs.Common.{◌+◌, drop, sym, ◌∙◌, refl, arith}
use Rattle.icn_text.proofs.DigitSteps.{value_step, some_held, stays_out, whole}
use Rattle.icn_text.proofs.integer.value.Goals as goal

pub loop-digit-preserved : goal.loop-digit-preserved
loop-digit-preserved c =
    let h = some_held _ _ c.in_ok-value.ensures in
    (value_step c.args.radix c.args.digits.now c.loop-digit.digit-index c.loop-digit.value _ _ c.loop-digit-test.true c.loop-digit.invariant.0 h.0, h.1)

pub returns-in_err-value : goal.returns-in_err-value
returns-in_err-value c =
    c.from_residual.ensures ∙ sym (stays_out c.args.radix _ _ (drop (c.loop-digit.digit-index + 1) c.args.digits.now) (omega (arith, c.requires))
    (value_step c.args.radix c.args.digits.now c.loop-digit.digit-index c.loop-digit.value _ _ c.loop-digit-test.true c.loop-digit.invariant.0 refl)
    (sym c.in_err-value.ensures))

pub returns : goal.returns
returns c =
    whole c.args.radix c.loop-digit.value c.loop-digit.digit-index _ c.args.digits.now c.loop-digit-test.false c.loop-digit.invariant.0 c.loop-digit.invariant.1
