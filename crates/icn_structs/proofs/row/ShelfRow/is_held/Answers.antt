use Rattle.std.proofs.Common.{◌≡◌, ◌≤◌, ◌∙◌, sym, ap, subst, ℕ, List, false, get_or, length, arith}
use Rattle.std.proofs.lemmas.Bool.{ltb-true}
use Rattle.std.proofs.lemmas.List.{get_or_read, length-map}
use Rattle.icn_structs.specs.PlacedThings.{memories}
use Rattle.icn_structs.specs.Shelves.{ShelfView}
use Rattle.icn_structs.proofs.PlacedSteps.{flag_at, flag_past, numbers_few}
use Rattle.icn_structs.proofs.row.ShelfRow.is_held.Goals as goal

pub returns-in-Some : goal.returns-in-Some
returns-in-Some g c =
    let row = c.self.inside in
    let few = numbers_few _ _ row.places.items c.self.invariant in
    let all : length (memories row.was.items) ≡ length row.was.items = length-map row.was.items _ in
    let found = get_or_read c.deref.result.now c.args.place c.in-Some.number.now (ltb-true c.args.place _ (sym c.in-Some.ensures.lookup.0))
    c.in-Some.ensures.lookup.1 0 in
    flag_at (memories row.was.items) row.places.items c.args.place c.in-Some.number.now (omega (arith, few, all))
    (found ∙ ap (λ (numbers : List ℕ). get_or numbers c.args.place 0) c.deref.ensures.value)
    ∙ ap (λ (view : ShelfView g.row.T.Denot). get_or view.shelf.held c.args.place false) c.self.view_is

pub returns-in-None : goal.returns-in-None
returns-in-None g c =
    let row = c.self.inside in
    let past : length row.places.items ≤ c.args.place =
    subst (λ (numbers : List ℕ). length numbers ≤ c.args.place) c.deref.ensures.value c.in-None.ensures.lookup.3 in
    flag_past (memories row.was.items) row.places.items c.args.place past
    ∙ ap (λ (view : ShelfView g.row.T.Denot). get_or view.shelf.held c.args.place false) c.self.view_is
