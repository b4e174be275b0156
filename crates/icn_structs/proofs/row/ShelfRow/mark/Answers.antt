use Rattle.std.proofs.Common.{◌≡◌, ◌∙◌, sym, ap, subst, not, ◌&&◌, false, get_or, arith}
use Rattle.std.proofs.lemmas.List.{get_or_read}
use Rattle.icn_structs.specs.PlacedThings.{held_places, memories}
use Rattle.icn_structs.specs.Shelves.{IsSet, ShelfView, view_marked}
use Rattle.icn_structs.proofs.PlacedSteps.{found_place, fresh_mark, marked_row, never_fresh, row_set, unmarked_stays}
use Rattle.icn_structs.proofs.row.ShelfRow.mark.Goals as goal

pub returns-then-not-is_held-clause-marked : goal.returns-then-not-is_held-clause-marked
returns-then-not-is_held-clause-marked g c = unmarked_stays c.args.self.now c.args.place (sym c.is_held.ensures ∙ c.if-not-is_held.true)

pub returns-then-not-is_held-clause-fresh : goal.returns-then-not-is_held-clause-fresh
returns-then-not-is_held-clause-fresh g c =
    never_fresh c.args.self.now.shelf.held c.args.self.now.marks c.args.place (sym c.is_held.ensures ∙ c.if-not-is_held.true)

pub index-requires : goal.index-requires
index-requires g c =
    let row = c.self.inside in
    let is : IsSet (held_places (memories row.was.items) row.places.items) c.args.place =
    subst (λ (view : ShelfView g.row.T.Denot). IsSet view.shelf.held c.args.place) (sym c.self.view_is)
    (sym c.is_held.ensures ∙ c.if-not-is_held.false) in
    let at = found_place (memories row.was.items) row.places.items _ c.args.place c.self.invariant.numbered is in
    let within = at.0 in
    omega (arith, within, row.places.ok)

pub overflow_sub-number : goal.overflow_sub-number
overflow_sub-number g c =
    let row = c.self.inside in
    let is : IsSet (held_places (memories row.was.items) row.places.items) c.args.place =
    subst (λ (view : ShelfView g.row.T.Denot). IsSet view.shelf.held c.args.place) (sym c.self.view_is)
    (sym c.is_held.ensures ∙ c.if-not-is_held.false) in
    let at = found_place (memories row.was.items) row.places.items _ c.args.place c.self.invariant.numbered is in
    let same : c.index.result.now ≡ get_or row.places.items c.args.place 0 =
    get_or_read row.places.items c.args.place c.index.result.now at.0 c.index.ensures 0 in
    let some = at.1.0 in
    omega (arith, same, some)

pub index_mut-found-requires : goal.index_mut-found-requires
index_mut-found-requires g c =
    let row = c.self.inside in
    let is : IsSet (held_places (memories row.was.items) row.places.items) c.args.place =
    subst (λ (view : ShelfView g.row.T.Denot). IsSet view.shelf.held c.args.place) (sym c.self.view_is)
    (sym c.is_held.ensures ∙ c.if-not-is_held.false) in
    let at = found_place (memories row.was.items) row.places.items _ c.args.place c.self.invariant.numbered is in
    let same : c.index.result.now ≡ get_or row.places.items c.args.place 0 =
    get_or_read row.places.items c.args.place c.index.result.now at.0 c.index.ensures 0 in
    let some = at.1.0 in
    let most = at.1.1 in
    omega (arith, same, some, most, row.there.ok)

pub invariant_of-self : goal.invariant_of-self
invariant_of-self g c = row_set _ _ c.self.inside.there.items _ _ c.self.invariant

pub returns-clause-marked : goal.returns-clause-marked
returns-clause-marked g c =
    let row = c.self.inside in
    let is : IsSet (held_places (memories row.was.items) row.places.items) c.args.place =
    subst (λ (view : ShelfView g.row.T.Denot). IsSet view.shelf.held c.args.place) (sym c.self.view_is)
    (sym c.is_held.ensures ∙ c.if-not-is_held.false) in
    let at = found_place (memories row.was.items) row.places.items _ c.args.place c.self.invariant.numbered is in
    let same : c.index.result.now ≡ get_or row.places.items c.args.place 0 =
    get_or_read row.places.items c.args.place c.index.result.now at.0 c.index.ensures 0 in
    marked_row (memories row.was.items) row.places.items row.there.items c.args.place c.index.result.now c.index_mut-found.result.now
    c.self.invariant.numbered is same c.index_mut-found.ensures.value
    ∙ ap (λ (view : ShelfView g.row.T.Denot). view_marked view c.args.place) c.self.view_is

pub returns-clause-fresh : goal.returns-clause-fresh
returns-clause-fresh g c =
    let row = c.self.inside in
    let is : IsSet (held_places (memories row.was.items) row.places.items) c.args.place =
    subst (λ (view : ShelfView g.row.T.Denot). IsSet view.shelf.held c.args.place) (sym c.self.view_is)
    (sym c.is_held.ensures ∙ c.if-not-is_held.false) in
    let at = found_place (memories row.was.items) row.places.items _ c.args.place c.self.invariant.numbered is in
    let same : c.index.result.now ≡ get_or row.places.items c.args.place 0 =
    get_or_read row.places.items c.args.place c.index.result.now at.0 c.index.ensures 0 in
    fresh_mark (memories row.was.items) row.places.items row.there.items c.args.place c.index.result.now c.index_mut-found.result.now
    c.self.invariant.numbered is same c.index_mut-found.ensures.value
    ∙ ap (λ (view : ShelfView g.row.T.Denot). get_or view.shelf.held c.args.place false && not (get_or view.marks c.args.place false)) c.self.view_is
