use Rattle.std.proofs.Common.{◌≡◌, ◌++◌, drop}
use Rattle.std.specs.List.{flat_map}
use Rattle.icn_prune.specs.PlaceViews.{taken_from}
use Rattle.icn_prune.proofs.entries.push_taken_by.Given as goal

abbrev pub invariant-loop-instr : goal.invariant-loop-instr
invariant-loop-instr l = l.places.items ++ flat_map (taken_from l.table) (drop l.instr-index l.instrs)
    ≡ l.initial.places.items ++ flat_map (taken_from l.table) l.instrs
