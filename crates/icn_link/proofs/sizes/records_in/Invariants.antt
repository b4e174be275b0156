use Rattle.std.proofs.Common.{◌≡◌, ◌≤◌, ◌+◌, drop, length}
use Rattle.icn_link.specs.LinkFaults.{record_sizes}
use Rattle.icn_link.specs.Views.{decls_seen}
use Rattle.icn_link.proofs.sizes.records_in.Given as goal

abbrev pub invariant-loop-decl : goal.invariant-loop-decl
invariant-loop-decl l = record {
  count : l.count + length (record_sizes (decls_seen (drop l.decl-index l.decls))) ≡ length (record_sizes (decls_seen l.decls));
  few : l.count ≤ l.decl-index;
}
