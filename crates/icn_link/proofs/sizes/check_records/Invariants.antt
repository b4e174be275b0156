use Rattle.std.proofs.Common.{◌≡◌, drop}
use Rattle.icn_link.specs.LinkFaults.{over, record_sizes}
use Rattle.icn_link.specs.Views.{decls_seen}
use Rattle.icn_link.proofs.sizes.check_records.Given as goal

abbrev pub invariant-loop-decl : goal.invariant-loop-decl
invariant-loop-decl l = over 65535 (record_sizes (decls_seen (drop l.decl-index l.decls))) ≡ over 65535 (record_sizes (decls_seen l.decls))
