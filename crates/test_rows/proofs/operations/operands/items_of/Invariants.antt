use Rattle.std.specs.List.{All}
use Rattle.icn_vars.specs.Worlds.{IsLiveItem, reach_of}
use Rattle.test_rows.proofs.operations.operands.items_of.Given as goal

abbrev pub invariant-loop-field : goal.invariant-loop-field
invariant-loop-field l = All (IsLiveItem (reach_of l.w l.vals)) l.items.items
