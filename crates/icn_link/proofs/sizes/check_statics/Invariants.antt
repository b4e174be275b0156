use Rattle.std.proofs.Common.{◌≡◌, drop}
use Rattle.icn_link.specs.LinkFaults.{over, static_counts}
use Rattle.icn_link.specs.Views.{procs_seen, texts_seen}
use Rattle.icn_link.proofs.sizes.check_statics.Given as goal

abbrev pub invariant-loop-proc : goal.invariant-loop-proc
invariant-loop-proc l = over 65535 (static_counts (texts_seen l.globals.keys) (procs_seen (drop l.proc-index l.procs)))
    ≡ over 65535 (static_counts (texts_seen l.globals.keys) (procs_seen l.procs))
