use Rattle.std.proofs.Common.{◌≡◌, ℕ, ◌<◌, Some, slice_get}
use Rattle.icn_code.specs.Codes.{Proc, procs_of}
use Rattle.icn_verify.specs.Faults.{IsSound}
use Rattle.icn_verify.proofs.check.check_procs.Given as goal

abbrev pub invariant-loop-number : goal.invariant-loop-number
invariant-loop-number l = (earlier : ℕ) (proc : Proc) → earlier < l.number → slice_get (procs_of l.procs) earlier ≡ Some proc → IsSound proc.instrs
