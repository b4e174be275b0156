use Rattle.std.proofs.Common.{◌∙◌, sym, ap, subst, List}
use Rattle.icn_structs.specs.PlacedThings.{AreInRows, shelf_seen}
use Rattle.icn_structs.specs.Shelves.{ShelfView, empty_view, with_held}
use Rattle.icn_structs.proofs.ShelfRows.{rows_given, seen_given}
use Rattle.icn_structs.proofs.shelf.Shelf.give_back.Goals as goal

pub invariant_of-self : goal.invariant_of-self
invariant_of-self g c =
    subst (λ (rows : List (ShelfView g.row.T.Denot)). AreInRows c.self.inside.len rows) (sym c.give_rows_back.ensures)
    (rows_given c.self.inside.len c.self.inside.rows.items empty_view c.self.invariant)

pub returns : goal.returns
returns g c =
    ap (λ (rows : List (ShelfView g.row.T.Denot)). (shelf_seen rows).shelf) c.give_rows_back.ensures
    ∙ (ap (λ (view : ShelfView g.row.T.Denot). view.shelf) (seen_given c.self.inside.rows.items)
    ∙ ap (λ (view : ShelfView g.row.T.Denot). with_held view.shelf view.marks) c.self.view_is)
