use Rattle.std.proofs.Common.{◌∙◌, ap, List}
use Rattle.icn_structs.specs.declared.row.OnShelf.{OnShelf}
use Rattle.icn_structs.specs.PlacedThings.{memories, row_seen}
use Rattle.icn_structs.specs.Shelves.{view_unmarked}
use Rattle.icn_structs.proofs.GivenPlaces.{row_kept, row_unmarked}
use Rattle.icn_structs.proofs.row.ShelfRow.unmark.Goals as goal

pub invariant_of-self : goal.invariant_of-self
invariant_of-self g c = row_kept _ _ _ _ c.unmark_all.ensures c.self.invariant

pub returns : goal.returns
returns g c =
    let row = c.self.inside in
    ap (λ (there : List (OnShelf g.row.T.Denot)). row_seen (memories row.was.items) row.places.items there) c.unmark_all.ensures
    ∙ (row_unmarked (memories row.was.items) row.places.items row.there.items ∙ ap view_unmarked c.self.view_is)
