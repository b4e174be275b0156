-- What a shelf ends as, once a `&mut` to one of its things has ended.
use Rattle.std.specs.Prelude.{ℕ}
use Rattle.std.specs.Borrow.{Fml, RattleType, MutBor, Lends}
use Rattle.icn_structs.specs.Shelves.{ShelfView, with_other}
use Rattle.icn_structs.specs.contracts.shelf.Shelf.{the_row}

-- the thing of this number is the last one written through r
abbrev pub lends_thing : (T : RattleType) → MutBor (ShelfView T.Denot) → ℕ → MutBor T.Denot → Fml
lends_thing T shelf number r =
    Lends (the_row T) T shelf r (λ x. record shelf.now { shelf = with_other shelf.now.shelf number x })
