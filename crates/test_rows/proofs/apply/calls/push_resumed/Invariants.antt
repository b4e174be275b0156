use Rattle.test_rows.specs.Ready.{IsReadyAnswer}
use Rattle.test_rows.proofs.apply.calls.push_resumed.Given as goal

abbrev pub invariant-loop : goal.invariant-loop
invariant-loop g l = IsReadyAnswer (g.N.Names.known l.names) l.w l.l.vals.items l.answer
