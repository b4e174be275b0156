use Rattle.std.proofs.Common.{◌≡◌, ◌++◌, drop, map}
use Rattle.icn_prune.specs.PrunedCode.{new_place}
use Rattle.icn_prune.proofs.leaving.record_left.Given as goal

abbrev pub invariant-loop-field : goal.invariant-loop-field
invariant-loop-field l = l.fields.items ++ map (new_place l.left.fields.left.items) (drop l.field-index l.kind.fields.items)
    ≡ map (new_place l.left.fields.left.items) l.kind.fields.items
