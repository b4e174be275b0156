use Rattle.std.proofs.Common.{◌∙◌, ap, List}
use Rattle.icn_structs.specs.declared.row.OnShelf.{OnShelf}
use Rattle.icn_structs.specs.PlacedThings.{memories, row_seen}
use Rattle.icn_structs.specs.Shelves.{view_given}
use Rattle.icn_structs.proofs.GivenPlaces.{row_given, row_kept}
use Rattle.icn_structs.proofs.row.ShelfRow.give_back.Goals as goal

pub give_unmarked-requires : goal.give_unmarked-requires
give_unmarked-requires g c = record { row = c.self.invariant }

pub invariant_of-self : goal.invariant_of-self
invariant_of-self g c = row_kept _ _ _ _ c.unmark_all.ensures c.give_unmarked.ensures.row

pub returns : goal.returns
returns g c =
    let row = c.self.inside in
    ap (λ (there : List (OnShelf g.row.T.Denot)). row_seen (memories c.give_unmarked.new.was.items) c.give_unmarked.new.places.items there)
    c.unmark_all.ensures
    ∙ (row_given (memories row.was.items) (memories c.give_unmarked.new.was.items) row.places.items c.give_unmarked.new.places.items
    row.there.items c.give_unmarked.new.there.items c.give_unmarked.ensures.things c.give_unmarked.ensures.held
    ∙ ap view_given c.self.view_is)
