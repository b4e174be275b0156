use Rattle.std.proofs.Common.{ap, List}
use Rattle.icn_structs.specs.PlacedThings.{shelf_seen}
use Rattle.icn_structs.specs.Shelves.{ShelfView}
use Rattle.icn_structs.proofs.ShelfRows.{no_rows}
use Rattle.icn_structs.proofs.shelf.Shelf.new.Goals as goal

pub invariant_of-result : goal.invariant_of-result
invariant_of-result g c = no_rows c.new.result.items c.new.ensures.items

pub returns : goal.returns
returns g c = ap (λ (rows : List (ShelfView g.row.T.Denot)). (shelf_seen rows).shelf) c.new.ensures.items
