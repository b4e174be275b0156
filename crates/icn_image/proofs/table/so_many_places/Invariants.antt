use Rattle.std.proofs.Common.{◌≡◌, ◌-◌}
use Rattle.icn_image.specs.Versions.{width_of}
use Rattle.icn_image.specs.Readers.{times, index_at}
use Rattle.icn_image.proofs.EntryLoop.{with_front}
use Rattle.icn_image.proofs.table.so_many_places.Given as goal

abbrev pub invariant-loop : goal.invariant-loop
invariant-loop l = with_front (l.places.items) (times (index_at (width_of l.version) l.among) (l.count - l.counter) l.rest) ≡ times (index_at (width_of l.version) l.among) l.count l.bytes
