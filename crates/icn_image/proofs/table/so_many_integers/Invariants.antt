use Rattle.std.proofs.Common.{◌≡◌, ◌-◌}
use Rattle.icn_image.specs.Readers.{times}
use Rattle.icn_image.specs.Reading.{integer_at}
use Rattle.icn_image.proofs.EntryLoop.{with_front}
use Rattle.icn_image.proofs.table.so_many_integers.Given as goal

abbrev pub invariant-loop : goal.invariant-loop
invariant-loop l = with_front (l.integers.items) (times (integer_at) (l.count - l.counter) l.rest) ≡ times (integer_at) l.count l.bytes
