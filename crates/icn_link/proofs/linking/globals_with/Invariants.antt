use Rattle.std.proofs.Common.{◌≡◌, ◌++◌, drop, map}
use Rattle.icn_link.specs.Joined.{global_with}
use Rattle.icn_link.specs.Views.{texts_seen, gathered_seen, entry_in}
use Rattle.icn_link.proofs.linking.globals_with.Given as goal

abbrev pub invariant-loop-name : goal.invariant-loop-name
invariant-loop-name l =
    l.globals.items ++ map (global_with (gathered_seen l.tables) (entry_in l.procs) (entry_in l.records)) (texts_seen (drop l.name-index l.names))
    ≡ map (global_with (gathered_seen l.tables) (entry_in l.procs) (entry_in l.records)) (texts_seen l.names)
