use Rattle.std.proofs.Common.{◌≡◌, ◌++◌, drop, map}
use Rattle.icn_unit.specs.UnitViews.{decl_seen}
use Rattle.icn_link.specs.Views.{decls_seen}
use Rattle.icn_link.proofs.lists.put_decls.Given as goal

abbrev pub invariant-loop-decl : goal.invariant-loop-decl
invariant-loop-decl l = decls_seen l.decls.items ++ map decl_seen (drop l.decl-index l.more) ≡ decls_seen l.initial.decls.items ++ map decl_seen l.more
