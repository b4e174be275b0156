use Rattle.std.proofs.Common.{◌≡◌, ◌-◌}
use Rattle.icn_image.specs.Versions.{width_of}
use Rattle.icn_image.specs.Readers.{times}
use Rattle.icn_image.specs.Reading.{instr_at}
use Rattle.icn_image.proofs.EntryLoop.{with_front}
use Rattle.icn_image.proofs.procs.instrs_at.Given as goal

abbrev pub invariant-loop : goal.invariant-loop
invariant-loop l = with_front (l.instrs.items) (times (instr_at (width_of l.version) l.scope) (l.count - l.counter) l.rest) ≡ times (instr_at (width_of l.version) l.scope) l.count l.bytes
