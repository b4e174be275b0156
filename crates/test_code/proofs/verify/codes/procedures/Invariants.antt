use Rattle.icn_code.specs.Codes.{procs_of}
use Rattle.test_code.specs.Known.{AreKnown}
use Rattle.test_code.proofs.verify.codes.procedures.Given as goal

abbrev pub invariant-loop-body : goal.invariant-loop-body
invariant-loop-body l = AreKnown (procs_of l.procs.items)
