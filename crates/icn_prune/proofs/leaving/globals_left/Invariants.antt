use Rattle.std.proofs.Common.{◌≡◌, ◌++◌, drop, map}
use Rattle.icn_code.specs.CodeTables.{tables_of}
use Rattle.icn_prune.specs.PrunedCode.{global_at, global_left}
use Rattle.icn_prune.specs.PlaceViews.{survivors_seen}
use Rattle.icn_prune.proofs.leaving.globals_left.Given as goal

abbrev pub invariant-loop-place : goal.invariant-loop-place
invariant-loop-place l =
    l.globals.items ++ map (λ place. global_left (survivors_seen l.left) (global_at (tables_of l.code) place)) (drop l.place-index l.left.globals.left.items)
    ≡ map (λ place. global_left (survivors_seen l.left) (global_at (tables_of l.code) place)) l.left.globals.left.items
