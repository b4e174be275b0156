use Rattle.std.proofs.Common.{◌≡◌, drop, map}
use Rattle.icn_unit.specs.UnitViews.{decl_seen, proc_seen}
use Rattle.icn_unit.specs.UnitRules.{same_names}
use Rattle.icn_ucode.proofs.reader.same_names.Given as goal

abbrev pub invariant-loop-decl : goal.invariant-loop-decl
invariant-loop-decl l =
    same_names (map proc_seen l.rest) (map decl_seen (drop l.decl-index l.decls)) ≡ same_names (map proc_seen l.procs) (map decl_seen l.decls)
