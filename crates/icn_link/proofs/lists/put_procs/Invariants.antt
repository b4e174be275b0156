use Rattle.std.proofs.Common.{◌≡◌, ◌++◌, drop, map}
use Rattle.icn_unit.specs.UnitViews.{proc_seen}
use Rattle.icn_link.specs.Views.{procs_seen}
use Rattle.icn_link.proofs.lists.put_procs.Given as goal

abbrev pub invariant-loop-proc : goal.invariant-loop-proc
invariant-loop-proc l = procs_seen l.procs.items ++ map proc_seen (drop l.proc-index l.more) ≡ procs_seen l.initial.procs.items ++ map proc_seen l.more
