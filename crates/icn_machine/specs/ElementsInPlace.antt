-- Elements of a list that are given one after the other, done at once.
use Rattle.std.specs.Prelude.{ℕ, ◌+◌, Bool, true, false, nat_lt, pos, ◌+ℤ◌, length}
use Rattle.icn_value.specs.declared.item.Item.{Item}
use Rattle.icn_value.specs.declared.item.Item.TheVariants as Items
use Rattle.icn_value.specs.declared.item.Root.TheVariants as Roots
use Rattle.icn_value.specs.declared.item.VarRef.TheVariants as VarRefs
use Rattle.icn_value.specs.declared.residual.Residual.TheVariants.{ListItems}
use Rattle.icn_value.specs.Store.{list_at}
use Rattle.icn_heap.specs.Heaps.{heap_of}
use Rattle.icn_vars.specs.declared.outcome.Outcome.{Outcome}
use Rattle.icn_vars.specs.declared.outcome.Outcome.TheVariants.{Fails, Suspends}
use Rattle.icn_vars.specs.declared.world.World.{World}

-- the variable that is the element of a list at a place, from 0 on
abbrev pub element_variable : World → ℕ → ℕ → Item
element_variable w list place = Items.Var (VarRefs.Whole (Roots.Element list
    ((list_at (heap_of w.heap) list).number +ℤ pos place)))

-- an element is given, over those behind it; or it fails
abbrev pub items_if : Bool → Item → ℕ → ℕ → Outcome
items_if true item list place = Suspends item (ListItems list (place + 1))
items_if false item list place = Fails

-- what comes of the elements of a list from a place on
abbrev pub items_outcome : World → ℕ → ℕ → Outcome
items_outcome w list place =
    items_if (nat_lt place (length (list_at (heap_of w.heap) list).items))
    (element_variable w list place) list place
