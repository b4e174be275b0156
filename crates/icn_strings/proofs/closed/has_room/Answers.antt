use Rattle.std.proofs.Common.{arith}
use Rattle.icn_strings.proofs.PackedBytes.{no_items}
use Rattle.icn_strings.proofs.closed.has_room.Goals as goal

pub returns-clause-none : goal.returns-clause-none
returns-clause-none c = λ _. no_items c.args.chunks.now (omega (arith, c.if-chunks-gt0.false))
