use Rattle.std.proofs.Common.{List, Bor, refl}
use Rattle.icn_unit.specs.declared.unit.ProcCode.{ProcCode}
use Rattle.icn_link.specs.LinkFaults.{all_statics}
use Rattle.icn_link.specs.Views.{procs_seen, texts_seen}
use Rattle.icn_link.proofs.ToldCounts.{told_all}
use Rattle.icn_link.proofs.sizes.all_statics.Goals as goal

pub returns : goal.returns
returns c =
    told_all (λ (procs : List (Bor ProcCode)). all_statics (texts_seen c.args.globals.now.keys) (procs_seen procs)) c.args.procs.now c.loop-proc.proc-index
    c.loop-proc.count _ refl c.loop-proc-test.false c.loop-proc.invariant.fits c.loop-proc.invariant.sum
