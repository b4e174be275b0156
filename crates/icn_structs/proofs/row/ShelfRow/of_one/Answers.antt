use Rattle.std.proofs.Common.{◌≡◌, ◌∙◌, ap, length, arith}
use Rattle.icn_structs.specs.Shelves.{ShelfView, view_with}
use Rattle.icn_structs.proofs.row.ShelfRow.of_one.Goals as goal

pub push-requires : goal.push-requires
push-requires g c =
    let none : length c.new-row.result.shelf.things ≡ 0 = ap (λ (row : ShelfView g.row.T.Denot). length row.shelf.things) c.new-row.ensures in
    omega (arith, none)

pub returns : goal.returns
returns g c = c.in_ok-push.ensures.added ∙ ap (λ (row : ShelfView g.row.T.Denot). view_with row c.args.thing) c.new-row.ensures
