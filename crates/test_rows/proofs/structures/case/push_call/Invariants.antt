use Rattle.test_rows.specs.Naming.{AllNamed}
use Rattle.test_rows.proofs.structures.case.push_call.Given as goal

abbrev pub invariant-loop-word : goal.invariant-loop-word
invariant-loop-word l = AllNamed l.w l.l.vals.items
