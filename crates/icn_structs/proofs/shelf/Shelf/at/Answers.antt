use Rattle.std.proofs.Common.{◌/◌, ◌%◌, ◌∙◌, sym, ap, subst, false, get_or, flat_map, arith}
use Rattle.std.proofs.lemmas.List.{get_or_read}
use Rattle.icn_structs.specs.Shelves.{IsSet, ShelfView, empty_view}
use Rattle.icn_structs.proofs.ShelfRows.{held_of, held_there, set_within, stands, thing_there}
use Rattle.icn_structs.proofs.shelf.Shelf.at.Goals as goal

pub index-requires : goal.index-requires
index-requires g c =
    let rows = c.self.inside.rows.items in
    let is : IsSet (flat_map held_of rows) c.args.number =
    subst (λ (view : ShelfView g.row.T.Denot). IsSet view.shelf.held c.args.number) (sym c.self.view_is) c.requires in
    let within = set_within c.self.inside.len rows empty_view c.self.invariant c.args.number is in
    let at = stands c.self.inside.len rows empty_view c.self.invariant c.args.number within in
    let low = at.0 in
    omega (arith, low, c.self.inside.rows.ok)

pub at-requires : goal.at-requires
at-requires g c =
    let rows = c.self.inside.rows.items in
    let is : IsSet (flat_map held_of rows) c.args.number =
    subst (λ (view : ShelfView g.row.T.Denot). IsSet view.shelf.held c.args.number) (sym c.self.view_is) c.requires in
    let within = set_within c.self.inside.len rows empty_view c.self.invariant c.args.number is in
    let at = stands c.self.inside.len rows empty_view c.self.invariant c.args.number within in
    let found = get_or_read rows (c.args.number / 128) c.index.result.now at.0 c.index.ensures empty_view in
    ap (λ (row : ShelfView g.row.T.Denot). get_or row.shelf.held (c.args.number % 128) false) found
    ∙ (sym (held_there c.self.inside.len rows empty_view c.self.invariant c.args.number within) ∙ is)

pub returns : goal.returns
returns g c = λ d.
    let rows = c.self.inside.rows.items in
    let is : IsSet (flat_map held_of rows) c.args.number =
    subst (λ (view : ShelfView g.row.T.Denot). IsSet view.shelf.held c.args.number) (sym c.self.view_is) c.requires in
    let within = set_within c.self.inside.len rows empty_view c.self.invariant c.args.number is in
    let at = stands c.self.inside.len rows empty_view c.self.invariant c.args.number within in
    let found = get_or_read rows (c.args.number / 128) c.index.result.now at.0 c.index.ensures empty_view in
    c.at.ensures d
    ∙ (ap (λ (row : ShelfView g.row.T.Denot). get_or row.shelf.things (c.args.number % 128) d) found
    ∙ (sym (thing_there c.self.inside.len rows empty_view c.self.invariant c.args.number d within)
    ∙ ap (λ (view : ShelfView g.row.T.Denot). get_or view.shelf.things c.args.number d) c.self.view_is))
