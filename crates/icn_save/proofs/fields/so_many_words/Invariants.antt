use Rattle.std.proofs.Common.{◌≡◌, ◌-◌}
use Rattle.icn_save.specs.Readers.{times}
use Rattle.std.specs.Int.{w32}
use Rattle.icn_save.specs.Readers.{string_at}
use Rattle.icn_save.specs.Slices.{texts_in}
use Rattle.icn_save.proofs.EntryLoop.{with_front}
use Rattle.icn_save.proofs.fields.so_many_words.Given as goal

abbrev pub invariant-loop : goal.invariant-loop
invariant-loop l = with_front (texts_in l.words.items) (times (string_at w32) (l.count - l.counter) l.rest) ≡ times (string_at w32) l.count l.bytes
