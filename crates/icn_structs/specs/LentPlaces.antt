-- What a row ends as, once a `&mut` to one of its things has ended.
use Rattle.std.specs.Prelude.{ℕ}
use Rattle.std.specs.Borrow.{Fml, RattleType, MutBor, Lends}
use Rattle.icn_structs.specs.Shelves.{ShelfView, with_other}
use Rattle.icn_structs.specs.contracts.row.ShelfRow.{the_row}

-- the thing at this place is the last one written through r
abbrev pub lends_place : (T : RattleType) → MutBor (ShelfView T.Denot) → ℕ → MutBor T.Denot → Fml
lends_place T row place r =
    Lends (the_row T) T row r (λ x. record row.now { shelf = with_other row.now.shelf place x })
