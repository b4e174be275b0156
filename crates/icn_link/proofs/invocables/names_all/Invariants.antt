use Rattle.std.proofs.Common.{◌≡◌, drop}
use Rattle.std.specs.Prelude.{codes}
use Rattle.std.specs.List.{flat_map, list_any}
use Rattle.std.specs.Str.{bytes_eq}
use Rattle.icn_link.specs.Mentions.{invocable_in}
use Rattle.icn_link.specs.Views.{decls_seen}
use Rattle.icn_link.proofs.invocables.names_all.Given as goal

abbrev pub invariant-loop-decl : goal.invariant-loop-decl
invariant-loop-decl l = list_any (bytes_eq (codes "all")) (flat_map invocable_in (decls_seen (drop l.decl-index l.decls)))
    ≡ list_any (bytes_eq (codes "all")) (flat_map invocable_in (decls_seen l.decls))
