use Rattle.std.proofs.Common.{List, Bor, refl}
use Rattle.std.specs.List.{sum_by}
use Rattle.icn_unit.specs.declared.unit.ProcCode.{ProcCode}
use Rattle.icn_link.specs.LinkFaults.{size_of}
use Rattle.icn_link.specs.Views.{procs_seen}
use Rattle.icn_link.proofs.ToldCounts.{told_all}
use Rattle.icn_link.proofs.sizes.instrs_in.Goals as goal

pub returns : goal.returns
returns c =
    told_all (λ (procs : List (Bor ProcCode)). sum_by size_of (procs_seen procs)) c.args.procs.now c.loop-proc.proc-index c.loop-proc.count _ refl
    c.loop-proc-test.false c.loop-proc.invariant.fits c.loop-proc.invariant.sum
