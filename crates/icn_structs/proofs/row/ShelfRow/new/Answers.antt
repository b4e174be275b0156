use Rattle.std.proofs.Common.{ap, List}
use Rattle.std.specs.declared.snapshot.Snapshot.{Snapshot}
use Rattle.icn_structs.specs.PlacedThings.{memories, row_seen}
use Rattle.icn_structs.proofs.PlacedSteps.{row_of_none}
use Rattle.icn_structs.proofs.row.ShelfRow.new.Goals as goal

pub invariant_of-result : goal.invariant_of-result
invariant_of-result g c = row_of_none _ _ _ c.new-3.ensures.items c.new-2.ensures.items c.new.ensures.items

pub returns : goal.returns
returns g c = ap (λ (was : List (Snapshot g.row.T.Denot)). row_seen (memories was) c.new.result.items c.new-2.result.items) c.new-3.ensures.items
