use Rattle.std.proofs.Common.{◌≡◌, ◌++◌, drop, map}
use Rattle.icn_unit.specs.UnitViews.{decl_seen}
use Rattle.icn_link.specs.LinkFaults.{owners_in}
use Rattle.icn_link.specs.Views.{owner_seen}
use Rattle.icn_link.proofs.repeats.put_owners.Given as goal

abbrev pub invariant-loop-place : goal.invariant-loop-place
invariant-loop-place l = map owner_seen l.owners.items ++ owners_in l.unit l.place (map decl_seen (drop l.place l.decls))
    ≡ map owner_seen l.initial.owners.items ++ owners_in l.unit 0 (map decl_seen l.decls)
