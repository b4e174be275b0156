-- Old values of variables, as undoing wants them.
use Rattle.std.proofs.Common.{◌≡◌, ◌∙◌, ap, subst, true}
use Rattle.icn_value.specs.declared.item.Item.{Item as HeldItem}
use Rattle.icn_value.specs.declared.item.Item.TheVariants.{Var as VarItem}
use Rattle.icn_value.specs.declared.item.VarRef.{VarRef}
use Rattle.icn_value.specs.Values.{Value, Variable, Var}
use Rattle.icn_value.specs.Store.{Setting}
use Rattle.icn_defs.specs.Calls.{GoesOn}
use Rattle.icn_defs.specs.RowFacts.{can_hold}
use Rattle.icn_defs.specs.ReadAndAssign.{the_value}
use Rattle.icn_defs.specs.Rows.{Mover, Suspends, UndoAssign, UndoExchange}
use Rattle.icn_heap.specs.Extents.{Extent}
use Rattle.icn_vars.specs.Worlds.{item_in, variable_in}
use Rattle.icn_vars.proofs.HeldValues.{read_holds}

-- the variable that an item is can hold the value that the item was read to have
item_holds : (all : Extent) (item : HeldItem) (variable : VarRef) (value : Value) (s : Setting) → item ≡ VarItem variable
    → GoesOn (the_value (item_in all item)) s value s
    → can_hold (variable_in all variable) value ≡ true
item_holds all item variable value s same is =
    read_holds (variable_in all variable) value s (subst (λ one. GoesOn (the_value (item_in all one)) s value s) same is)

-- so can what the variable became
pub still_holds : (all : Extent) (item : HeldItem) (variable : VarRef) (now : Variable) (value later : Value) (s : Setting) → item ≡ VarItem variable
    → GoesOn (the_value (item_in all item)) s value s
    → ((value : Value) → can_hold now value ≡ can_hold (variable_in all variable) value) → later ≡ value → can_hold now later ≡ true
still_holds all item variable now value later s same is holds kept =
    holds later ∙ (ap (can_hold (variable_in all variable)) kept ∙ item_holds all item variable value s same is)

-- what is given stands for the same
pub same_undo : (now : Variable) (old later : Value) (s : Setting) → later ≡ old
    → Suspends (Var now) (UndoAssign now old) s ≡ Suspends (Var now) (UndoAssign now later) s
same_undo now old later s same = cc

pub same_exchange : (mover mover' : Mover) (left right : Variable) (v v' w w' : Value) (s : Setting) → mover' ≡ mover → v' ≡ v → w' ≡ w
    → Suspends (Var left) (UndoExchange mover left right v w) s ≡ Suspends (Var left) (UndoExchange mover' left right v' w') s
same_exchange mover mover' left right v v' w w' s a b c = cc
