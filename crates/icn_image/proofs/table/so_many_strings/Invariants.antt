use Rattle.std.proofs.Common.{◌≡◌, ◌-◌}
use Rattle.icn_image.specs.Versions.{width_of}
use Rattle.icn_image.specs.Readers.{times}
use Rattle.icn_image.specs.Reading.{string_at}
use Rattle.icn_image.proofs.EntryLoop.{with_front}
use Rattle.icn_image.proofs.table.so_many_strings.Given as goal

abbrev pub invariant-loop : goal.invariant-loop
invariant-loop l = with_front (l.strings.items) (times (string_at (width_of l.version)) (l.count - l.counter) l.rest) ≡ times (string_at (width_of l.version)) l.count l.bytes
