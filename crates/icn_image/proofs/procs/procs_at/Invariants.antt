use Rattle.std.proofs.Common.{◌≡◌, drop}
use Rattle.icn_image.specs.Versions.{width_of}
use Rattle.icn_code.specs.Codes.{procs_of}
use Rattle.icn_image.specs.Fronts.{tables_in}
use Rattle.icn_image.specs.Reading.{procs_at}
use Rattle.icn_image.proofs.EntryLoop.{with_front}
use Rattle.icn_image.proofs.procs.procs_at.Given as goal

abbrev pub invariant-loop-head : goal.invariant-loop-head
invariant-loop-head l =
    with_front (procs_of l.procs.items) (procs_at (width_of l.version) (tables_in l.front) (drop l.head-index l.heads) l.rest) ≡ procs_at (width_of l.version) (tables_in l.front) l.heads l.bytes
