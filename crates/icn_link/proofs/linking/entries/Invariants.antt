use Rattle.std.proofs.Common.{◌≡◌, ◌++◌, drop, map}
use Rattle.icn_code.specs.Codes.{procs_of}
use Rattle.icn_link.specs.Joined.{proc_entry}
use Rattle.icn_link.specs.Views.{procs_seen, gathered_seen}
use Rattle.icn_link.proofs.linking.entries.Given as goal

abbrev pub invariant-loop-proc : goal.invariant-loop-proc
invariant-loop-proc l = procs_of l.entries.items ++ map (proc_entry (gathered_seen l.tables)) (procs_seen (drop l.proc-index l.procs))
    ≡ map (proc_entry (gathered_seen l.tables)) (procs_seen l.procs)
