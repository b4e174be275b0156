use Rattle.std.proofs.Common.{◌∙◌, sym, ap, subst, List}
use Rattle.icn_structs.specs.PlacedThings.{AreInRows, shelf_seen}
use Rattle.icn_structs.specs.Shelves.{ShelfView, all_unset, empty_view}
use Rattle.icn_structs.proofs.ShelfRows.{rows_unmarked, seen_unmarked}
use Rattle.icn_structs.proofs.shelf.Shelf.unmark.Goals as goal

pub invariant_of-self : goal.invariant_of-self
invariant_of-self g c =
    subst (λ (rows : List (ShelfView g.row.T.Denot)). AreInRows c.self.inside.len rows) (sym c.unmark_rows.ensures)
    (rows_unmarked c.self.inside.len c.self.inside.rows.items empty_view c.self.invariant)

pub returns-clause-shelf : goal.returns-clause-shelf
returns-clause-shelf g c =
    ap (λ (rows : List (ShelfView g.row.T.Denot)). (shelf_seen rows).shelf) c.unmark_rows.ensures
    ∙ (ap (λ (view : ShelfView g.row.T.Denot). view.shelf) (seen_unmarked c.self.inside.rows.items)
    ∙ ap (λ (view : ShelfView g.row.T.Denot). view.shelf) c.self.view_is)

pub returns-clause-marks : goal.returns-clause-marks
returns-clause-marks g c =
    ap (λ (rows : List (ShelfView g.row.T.Denot)). (shelf_seen rows).marks) c.unmark_rows.ensures
    ∙ (ap (λ (view : ShelfView g.row.T.Denot). view.marks) (seen_unmarked c.self.inside.rows.items)
    ∙ ap (λ (view : ShelfView g.row.T.Denot). all_unset view.shelf.held) c.self.view_is)
