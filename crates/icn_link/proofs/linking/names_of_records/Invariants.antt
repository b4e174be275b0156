use Rattle.std.proofs.Common.{◌≡◌, ◌++◌, drop}
use Rattle.icn_link.specs.Mentions.{record_names}
use Rattle.icn_link.specs.Views.{decls_seen, texts_seen}
use Rattle.icn_link.proofs.linking.names_of_records.Given as goal

abbrev pub invariant-loop-decl : goal.invariant-loop-decl
invariant-loop-decl l = texts_seen l.names.items ++ record_names (decls_seen (drop l.decl-index l.decls)) ≡ record_names (decls_seen l.decls)
