use Rattle.std.proofs.Common.{◌≡◌, ◌-◌}
use Rattle.icn_image.specs.Versions.{width_of}
use Rattle.icn_tree.specs.NameSets.{has, none_met}
use Rattle.icn_image.specs.Reading.{globals_from}
use Rattle.icn_image.proofs.EntryLoop.{with_front}
use Rattle.icn_image.proofs.global.so_many_globals.Given as goal

abbrev pub invariant-loop : goal.invariant-loop
invariant-loop l = with_front l.globals.items (globals_from (width_of l.version) l.strings l.records (has l.met) (l.count - l.counter) l.rest)
    ≡ globals_from (width_of l.version) l.strings l.records none_met l.count l.bytes
