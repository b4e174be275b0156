use Rattle.test_rows.specs.Naming.{AllNamed}
use Rattle.test_rows.proofs.structures.case.outcome.Given as goal

abbrev pub invariant-loop-call : goal.invariant-loop-call
invariant-loop-call l = AllNamed l.w l.l.vals.items
