use Rattle.std.proofs.Common.{◌≡◌, drop, map}
use Rattle.icn_unit.specs.UnitViews.{decl_seen}
use Rattle.icn_link.specs.LinkFaults.{unknown_in}
use Rattle.icn_link.specs.Views.{texts_seen}
use Rattle.icn_link.proofs.invocables.check_unit.Given as goal

abbrev pub invariant-loop-decl : goal.invariant-loop-decl
invariant-loop-decl l = unknown_in (texts_seen l.owned.keys) (map decl_seen (drop l.decl-index l.decls))
    ≡ unknown_in (texts_seen l.owned.keys) (map decl_seen l.decls)
