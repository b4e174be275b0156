use Rattle.std.proofs.Common.{sym, arith}
use Rattle.test_rows.proofs.Named.{past}
use Rattle.test_rows.proofs.apply.worlds.value_at.Goals as goal

pub returns-else-place-vals : goal.returns-else-place-vals
returns-else-place-vals c = sym (past c.args.vals.now c.args.place (omega (arith, c.if-place-vals.false)))
