use Rattle.std.proofs.Common.{◌/◌, ◌<◌, ◌∙◌, sym, ap, false, not, ◌&&◌, get_or, arith}
use Rattle.std.proofs.lemmas.List.{get_or_read}
use Rattle.icn_structs.specs.Shelves.{ShelfView, empty_view, view_marked}
use Rattle.icn_structs.proofs.PlacedSteps.{never_fresh, unmarked_stays}
use Rattle.icn_structs.proofs.ShelfRows.{fresh_shelf, gone_past, marked_rows, marked_shelf, stands}
use Rattle.icn_structs.proofs.shelf.Shelf.mark.Goals as goal

pub returns-then-number-self-clause-marks : goal.returns-then-number-self-clause-marks
returns-then-number-self-clause-marks g c =
    let gone = gone_past c.self.inside.len c.self.inside.rows.items empty_view c.self.invariant c.args.number c.if-number-self.true in
    ap (λ (view : ShelfView g.row.T.Denot). view.marks) (unmarked_stays c.args.self.now c.args.number
    (ap (λ (view : ShelfView g.row.T.Denot). get_or view.shelf.held c.args.number false) (sym c.self.view_is) ∙ gone))

pub returns-then-number-self-clause-fresh : goal.returns-then-number-self-clause-fresh
returns-then-number-self-clause-fresh g c =
    let gone = gone_past c.self.inside.len c.self.inside.rows.items empty_view c.self.invariant c.args.number c.if-number-self.true in
    never_fresh c.args.self.now.shelf.held c.args.self.now.marks c.args.number
    (ap (λ (view : ShelfView g.row.T.Denot). get_or view.shelf.held c.args.number false) (sym c.self.view_is) ∙ gone)

pub index_mut-requires : goal.index_mut-requires
index_mut-requires g c =
    let rows = c.self.inside.rows.items in
    let within : c.args.number < c.self.inside.len = omega (arith, c.if-number-self.false) in
    let at = stands c.self.inside.len rows empty_view c.self.invariant c.args.number within in
    let low = at.0 in
    omega (arith, low, c.self.inside.rows.ok)

pub invariant_of-self : goal.invariant_of-self
invariant_of-self g c =
    let rows = c.self.inside.rows.items in
    let within : c.args.number < c.self.inside.len = omega (arith, c.if-number-self.false) in
    let at = stands c.self.inside.len rows empty_view c.self.invariant c.args.number within in
    let found = get_or_read rows (c.args.number / 128) c.index_mut.result.now at.0 c.index_mut.ensures.value empty_view in
    marked_rows c.self.inside.len rows empty_view c.self.invariant c.args.number within c.index_mut.result.now c.mark.new.self found c.mark.ensures.marked

pub returns-clause-shelf : goal.returns-clause-shelf
returns-clause-shelf g c =
    let rows = c.self.inside.rows.items in
    let within : c.args.number < c.self.inside.len = omega (arith, c.if-number-self.false) in
    let at = stands c.self.inside.len rows empty_view c.self.invariant c.args.number within in
    let found = get_or_read rows (c.args.number / 128) c.index_mut.result.now at.0 c.index_mut.ensures.value empty_view in
    ap (λ (view : ShelfView g.row.T.Denot). view.shelf)
    (marked_shelf c.self.inside.len rows empty_view c.self.invariant c.args.number within c.index_mut.result.now c.mark.new.self found c.mark.ensures.marked
    ∙ ap (λ (view : ShelfView g.row.T.Denot). view_marked view c.args.number) c.self.view_is)

pub returns-clause-marks : goal.returns-clause-marks
returns-clause-marks g c =
    let rows = c.self.inside.rows.items in
    let within : c.args.number < c.self.inside.len = omega (arith, c.if-number-self.false) in
    let at = stands c.self.inside.len rows empty_view c.self.invariant c.args.number within in
    let found = get_or_read rows (c.args.number / 128) c.index_mut.result.now at.0 c.index_mut.ensures.value empty_view in
    ap (λ (view : ShelfView g.row.T.Denot). view.marks)
    (marked_shelf c.self.inside.len rows empty_view c.self.invariant c.args.number within c.index_mut.result.now c.mark.new.self found c.mark.ensures.marked
    ∙ ap (λ (view : ShelfView g.row.T.Denot). view_marked view c.args.number) c.self.view_is)

pub returns-clause-fresh : goal.returns-clause-fresh
returns-clause-fresh g c =
    let rows = c.self.inside.rows.items in
    let within : c.args.number < c.self.inside.len = omega (arith, c.if-number-self.false) in
    let at = stands c.self.inside.len rows empty_view c.self.invariant c.args.number within in
    let found = get_or_read rows (c.args.number / 128) c.index_mut.result.now at.0 c.index_mut.ensures.value empty_view in
    c.mark.ensures.fresh
    ∙ (fresh_shelf c.self.inside.len rows empty_view c.self.invariant c.args.number within c.index_mut.result.now found
    ∙ ap (λ (view : ShelfView g.row.T.Denot). get_or view.shelf.held c.args.number false && not (get_or view.marks c.args.number false)) c.self.view_is)
