use Rattle.std.proofs.Common.{◌≡◌, ◌++◌, drop, map}
use Rattle.icn_code.specs.CodeTables.{tables_of}
use Rattle.icn_code.specs.Codes.{records_of}
use Rattle.icn_prune.specs.PrunedCode.{record_left}
use Rattle.icn_prune.specs.PlaceViews.{survivors_seen}
use Rattle.icn_prune.proofs.leaving.records_left.Given as goal

abbrev pub invariant-loop-kind : goal.invariant-loop-kind
invariant-loop-kind l = records_of l.records.items ++ map (record_left (survivors_seen l.left)) (records_of (drop l.kind-index l.code.records.items))
    ≡ map (record_left (survivors_seen l.left)) (tables_of l.code).records
