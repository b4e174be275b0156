use Rattle.std.proofs.Common.{◌≡◌, ◌-◌}
use Rattle.icn_save.specs.Readers.{times}
use Rattle.icn_save.specs.Reading.{call_at}
use Rattle.icn_save.specs.Slices.{calls_in}
use Rattle.icn_save.proofs.EntryLoop.{with_front}
use Rattle.icn_save.proofs.calls.so_many_calls.Given as goal

abbrev pub invariant-loop : goal.invariant-loop
invariant-loop l = with_front (calls_in l.calls.items) (times call_at (l.count - l.counter) l.rest) ≡ times call_at l.count l.bytes
