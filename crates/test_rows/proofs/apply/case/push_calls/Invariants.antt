use Rattle.test_rows.specs.Ready.{IsReadySetting}
use Rattle.test_rows.proofs.apply.case.push_calls.Given as goal

abbrev pub invariant-loop-call : goal.invariant-loop-call
invariant-loop-call g l = IsReadySetting (g.N.Names.known l.names) l.w l.l.vals.items
