use Rattle.std.proofs.Common.{arith}
use Rattle.icn_tree.specs.Characters.{is_digit}
use Rattle.icn_prep.proofs.TrimmedEnds.{front_passes}
use Rattle.icn_prep.proofs.operand.line_operand.Goals as goal

pub number_of-requires-clause-digits : goal.number_of-requires-clause-digits
number_of-requires-clause-digits c =
    rw c.split_at.ensures.front (front_passes is_digit c.args.operand.now c.digits_len-count.result (omega (arith, c.digits_len-count.ensures.counted)))
