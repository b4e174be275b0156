use Rattle.std.proofs.Common.{◌∙◌, ap, length}
use Rattle.icn_structs.specs.Shelves.{ShelfView}
use Rattle.icn_structs.proofs.shelf.Shelf.len.Goals as goal

pub returns-clause-count : goal.returns-clause-count
returns-clause-count g c = c.self.invariant.count ∙ ap (λ (view : ShelfView g.row.T.Denot). length view.shelf.things) c.self.view_is

pub returns-clause-small : goal.returns-clause-small
returns-clause-small g c = c.self.invariant.few
