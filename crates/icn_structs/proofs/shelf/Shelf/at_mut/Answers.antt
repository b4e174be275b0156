use Rattle.std.proofs.Common.{◌/◌, ◌%◌, ◌∙◌, refl, sym, ap, subst, false, get_or, flat_map, arith}
use Rattle.std.proofs.lemmas.List.{get_or_read}
use Rattle.icn_structs.specs.Shelves.{IsSet, ShelfView, empty_view}
use Rattle.icn_structs.proofs.PlacedSteps.{lent_view}
use Rattle.icn_structs.proofs.ShelfRows.{held_of, held_there, lent_rows, lent_shelf, set_within, stands, thing_there}
use Rattle.icn_structs.proofs.shelf.Shelf.at_mut.Goals as goal

pub index_mut-row-requires : goal.index_mut-row-requires
index_mut-row-requires g c =
    let rows = c.self.inside.rows.items in
    let is : IsSet (flat_map held_of rows) c.args.number =
    subst (λ (view : ShelfView g.row.T.Denot). IsSet view.shelf.held c.args.number) (sym c.self.view_is) c.requires in
    let within = set_within c.self.inside.len rows empty_view c.self.invariant c.args.number is in
    let at = stands c.self.inside.len rows empty_view c.self.invariant c.args.number within in
    let low = at.0 in
    omega (arith, low, c.self.inside.rows.ok)

pub at_mut-requires : goal.at_mut-requires
at_mut-requires g c =
    let rows = c.self.inside.rows.items in
    let is : IsSet (flat_map held_of rows) c.args.number =
    subst (λ (view : ShelfView g.row.T.Denot). IsSet view.shelf.held c.args.number) (sym c.self.view_is) c.requires in
    let within = set_within c.self.inside.len rows empty_view c.self.invariant c.args.number is in
    let at = stands c.self.inside.len rows empty_view c.self.invariant c.args.number within in
    let found = get_or_read rows (c.args.number / 128) c.index_mut-row.result.now at.0 c.index_mut-row.ensures.value empty_view in
    ap (λ (row : ShelfView g.row.T.Denot). get_or row.shelf.held (c.args.number % 128) false) found
    ∙ (sym (held_there c.self.inside.len rows empty_view c.self.invariant c.args.number within) ∙ is)

pub invariant_of-self-lent : goal.invariant_of-self-lent
invariant_of-self-lent g c = λ w.
    let rows = c.self.inside.rows.items in
    let is : IsSet (flat_map held_of rows) c.args.number =
    subst (λ (view : ShelfView g.row.T.Denot). IsSet view.shelf.held c.args.number) (sym c.self.view_is) c.requires in
    let within = set_within c.self.inside.len rows empty_view c.self.invariant c.args.number is in
    let at = stands c.self.inside.len rows empty_view c.self.invariant c.args.number within in
    let found = get_or_read rows (c.args.number / 128) c.index_mut-row.result.now at.0 c.index_mut-row.ensures.value empty_view in
    lent_rows c.self.inside.len rows empty_view c.self.invariant c.args.number w within c.index_mut-row.result.now found

pub returns : goal.returns
returns g c =
    let rows = c.self.inside.rows.items in
    let is : IsSet (flat_map held_of rows) c.args.number =
    subst (λ (view : ShelfView g.row.T.Denot). IsSet view.shelf.held c.args.number) (sym c.self.view_is) c.requires in
    let within = set_within c.self.inside.len rows empty_view c.self.invariant c.args.number is in
    let at = stands c.self.inside.len rows empty_view c.self.invariant c.args.number within in
    let found = get_or_read rows (c.args.number / 128) c.index_mut-row.result.now at.0 c.index_mut-row.ensures.value empty_view in (
      (
        refl,
        λ w.
            lent_shelf c.self.inside.len rows empty_view c.self.invariant c.args.number w within c.index_mut-row.result.now found
            ∙ ap (λ (view : ShelfView g.row.T.Denot). lent_view view c.args.number w) c.self.view_is,
      ),
      record {
        writes_back = tt;
        thing = λ d.
            c.at_mut.ensures.thing d
            ∙ (ap (λ (row : ShelfView g.row.T.Denot). get_or row.shelf.things (c.args.number % 128) d) found
            ∙ (sym (thing_there c.self.inside.len rows empty_view c.self.invariant c.args.number d within)
            ∙ ap (λ (view : ShelfView g.row.T.Denot). get_or view.shelf.things c.args.number d) c.self.view_is));
      },
    )
