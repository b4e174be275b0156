use Rattle.std.proofs.Common.{sym, ◌∙◌}
use Rattle.icn_text.proofs.Powers.{half_overflows, square_overflows, even_power, odd_power}
use Rattle.icn_text.proofs.arithmetic.+magnitude_power.Goals as goal

pub returns-in_err-half : goal.returns-in_err-half
returns-in_err-half t c = c.from_residual.ensures ∙ sym (half_overflows c.args.base c.args.exponent (sym c.in_err-half.ensures))

pub returns-in_err-square : goal.returns-in_err-square
returns-in_err-square t c =
    c.from_residual-in_err-square.ensures ∙ sym (square_overflows c.args.base c.args.exponent c.in_ok-half.half c.in_ok-half.ensures c.in_err-square.ensures)

pub returns-then-exponent-eq0-2 : goal.returns-then-exponent-eq0-2
returns-then-exponent-eq0-2 t c =
    even_power c.args.base c.args.exponent c.in_ok-half.half c.in_ok-square.square c.if-exponent-eq0-2.true c.in_ok-half.ensures
    c.in_ok-square.ensures.1 c.in_ok-square.ensures.0

pub returns-else-exponent-eq0-2 : goal.returns-else-exponent-eq0-2
returns-else-exponent-eq0-2 t c =
    odd_power c.args.base c.args.exponent c.in_ok-half.half c.in_ok-square.square _ c.if-exponent-eq0-2.false c.in_ok-half.ensures
    c.in_ok-square.ensures.1 c.checked_mul-else-exponent-eq0-2.ensures
