use Rattle.std.proofs.Common.{◌≡◌, [], length}
use Rattle.icn_ucode.specs.UnitReading.{Heading, each_line, procs_line}
use Rattle.icn_ucode.specs.UnitViews.{reading_seen}
use Rattle.icn_ucode.proofs.proc_reader.read_procs.Given as goal

abbrev pub invariant-loop-rest : goal.invariant-loop-rest
invariant-loop-rest l = each_line procs_line (record { procs = []; stage = Heading }) [] l.text ≡ each_line procs_line (reading_seen l.reading) [] l.rest

abbrev pub decreases-loop-rest : goal.decreases-loop-rest
decreases-loop-rest l = length l.rest
