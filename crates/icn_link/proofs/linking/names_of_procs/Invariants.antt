use Rattle.std.proofs.Common.{◌≡◌, ◌++◌, drop}
use Rattle.icn_unit.specs.PlainUnits.{proc_names}
use Rattle.icn_link.specs.Views.{procs_seen, texts_seen}
use Rattle.icn_link.proofs.linking.names_of_procs.Given as goal

abbrev pub invariant-loop-proc : goal.invariant-loop-proc
invariant-loop-proc l = texts_seen l.names.items ++ proc_names (procs_seen (drop l.proc-index l.procs)) ≡ proc_names (procs_seen l.procs)
