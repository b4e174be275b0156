use Rattle.std.proofs.Common.{arith}
use Rattle.icn_image.proofs.InstrNumbers.{no_instr}
use Rattle.icn_image.proofs.operand.instr_of.Goals as goal

pub returns-in_default : goal.returns-in_default
returns-in_default c = no_instr c.args.number c.args.operand (λ low high. omega arith)
