use Rattle.std.proofs.Common.{◌≡◌, ◌-◌}
use Rattle.icn_image.specs.Versions.{width_of}
use Rattle.icn_image.specs.Readers.{times}
use Rattle.icn_image.specs.Reading.{record_at}
use Rattle.icn_code.specs.Codes.{records_of}
use Rattle.icn_image.proofs.EntryLoop.{with_front}
use Rattle.icn_image.proofs.table.so_many_records.Given as goal

abbrev pub invariant-loop : goal.invariant-loop
invariant-loop l = with_front (records_of l.records.items) (times (record_at (width_of l.version) l.strings l.fields) (l.count - l.counter) l.rest)
    ≡ times (record_at (width_of l.version) l.strings l.fields) l.count l.bytes
