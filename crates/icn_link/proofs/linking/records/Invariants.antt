use Rattle.std.proofs.Common.{◌≡◌, ◌++◌, drop}
use Rattle.std.specs.List.{flat_map}
use Rattle.icn_code.specs.Codes.{records_of}
use Rattle.icn_link.specs.Joined.{records_in}
use Rattle.icn_link.specs.Views.{decls_seen, gathered_seen}
use Rattle.icn_link.proofs.linking.records.Given as goal

abbrev pub invariant-loop-decl : goal.invariant-loop-decl
invariant-loop-decl l = records_of l.records.items ++ flat_map (records_in (gathered_seen l.tables)) (decls_seen (drop l.decl-index l.decls))
    ≡ flat_map (records_in (gathered_seen l.tables)) (decls_seen l.decls)
