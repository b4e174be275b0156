use Rattle.std.proofs.Common.{◌≡◌, [], length, map}
use Rattle.icn_unit.specs.PlainUnits.{proc_names}
use Rattle.icn_unit.specs.UnitViews.{proc_seen}
use Rattle.icn_ucode.specs.UnitReading.{DeclHeading, each_line, decls_line}
use Rattle.icn_ucode.specs.DeclViews.{reading_seen}
use Rattle.icn_ucode.proofs.decl_reader.read_decls.Given as goal

abbrev pub invariant-loop-rest : goal.invariant-loop-rest
invariant-loop-rest l = each_line (decls_line (proc_names (map proc_seen l.procs.procs.items))) (record { decls = []; stage = DeclHeading }) [] l.text
    ≡ each_line (decls_line (proc_names (map proc_seen l.procs.procs.items))) (reading_seen l.reading) [] l.rest

abbrev pub decreases-loop-rest : goal.decreases-loop-rest
decreases-loop-rest l = length l.rest
