use Rattle.std.proofs.Common.{◌≡◌, ◌∙◌, sym, ap, subst, get_or, arith}
use Rattle.std.proofs.lemmas.List.{get_or_read}
use Rattle.icn_structs.specs.declared.row.OnShelf.{OnShelf}
use Rattle.icn_structs.specs.PlacedThings.{held_places, memories}
use Rattle.icn_structs.specs.Shelves.{IsSet, ShelfView}
use Rattle.icn_structs.proofs.PlacedSteps.{found_place, thing_by_number}
use Rattle.icn_structs.proofs.row.ShelfRow.at.Goals as goal

pub index-requires : goal.index-requires
index-requires g c =
    let row = c.self.inside in
    let is : IsSet (held_places (memories row.was.items) row.places.items) c.args.place =
    subst (λ (view : ShelfView g.row.T.Denot). IsSet view.shelf.held c.args.place) (sym c.self.view_is) c.requires in
    let at = found_place (memories row.was.items) row.places.items _ c.args.place c.self.invariant.numbered is in
    let within = at.0 in
    omega (arith, within, row.places.ok)

pub overflow_sub-number : goal.overflow_sub-number
overflow_sub-number g c =
    let row = c.self.inside in
    let is : IsSet (held_places (memories row.was.items) row.places.items) c.args.place =
    subst (λ (view : ShelfView g.row.T.Denot). IsSet view.shelf.held c.args.place) (sym c.self.view_is) c.requires in
    let at = found_place (memories row.was.items) row.places.items _ c.args.place c.self.invariant.numbered is in
    let same : c.index.result.now ≡ get_or row.places.items c.args.place 0 =
    get_or_read row.places.items c.args.place c.index.result.now at.0 c.index.ensures 0 in
    let some = at.1.0 in
    omega (arith, same, some)

pub index-requires-2 : goal.index-requires-2
index-requires-2 g c =
    let row = c.self.inside in
    let is : IsSet (held_places (memories row.was.items) row.places.items) c.args.place =
    subst (λ (view : ShelfView g.row.T.Denot). IsSet view.shelf.held c.args.place) (sym c.self.view_is) c.requires in
    let at = found_place (memories row.was.items) row.places.items _ c.args.place c.self.invariant.numbered is in
    let same : c.index.result.now ≡ get_or row.places.items c.args.place 0 =
    get_or_read row.places.items c.args.place c.index.result.now at.0 c.index.ensures 0 in
    let some = at.1.0 in
    let most = at.1.1 in
    omega (arith, same, some, most, row.there.ok)

pub returns : goal.returns
returns g c = λ d.
    let row = c.self.inside in
    let is : IsSet (held_places (memories row.was.items) row.places.items) c.args.place =
    subst (λ (view : ShelfView g.row.T.Denot). IsSet view.shelf.held c.args.place) (sym c.self.view_is) c.requires in
    let at = found_place (memories row.was.items) row.places.items _ c.args.place c.self.invariant.numbered is in
    let same : c.index.result.now ≡ get_or row.places.items c.args.place 0 =
    get_or_read row.places.items c.args.place c.index.result.now at.0 c.index.ensures 0 in
    ap (λ (kept : OnShelf g.row.T.Denot). kept.thing) c.index-2.ensures
    ∙ (sym (thing_by_number (memories row.was.items) row.places.items row.there.items c.args.place c.index.result.now d c.index-2.result.now
    c.self.invariant.numbered is same)
    ∙ ap (λ (view : ShelfView g.row.T.Denot). get_or view.shelf.things c.args.place d) c.self.view_is)
