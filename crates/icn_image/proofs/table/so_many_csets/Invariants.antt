use Rattle.std.proofs.Common.{◌≡◌, ◌-◌}
use Rattle.icn_image.specs.Readers.{times}
use Rattle.icn_image.specs.Reading.{cset_at}
use Rattle.icn_image.proofs.EntryLoop.{with_front}
use Rattle.icn_image.proofs.table.so_many_csets.Given as goal

abbrev pub invariant-loop : goal.invariant-loop
invariant-loop l = with_front (l.csets.items) (times (cset_at) (l.count - l.counter) l.rest) ≡ times (cset_at) l.count l.bytes
