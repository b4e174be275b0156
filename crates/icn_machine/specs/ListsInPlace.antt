-- Functions that add an element to a list or take one, done in the world at once.
use Rattle.std.specs.Prelude.{◌≡◌, ℕ, Bool, true, false, List, [], ◌∷◌, Option, Some, None, IfSome}
use Rattle.std.specs.List.{All}
use Rattle.icn_text.specs.declared.func.Func.{Func}
use Rattle.icn_text.specs.declared.func.Func.TheVariants.{Get, Pop, Pull, Push, Put}
use Rattle.icn_value.specs.declared.val.Val.{Val}
use Rattle.icn_value.specs.declared.val.Val.TheVariants as Vals
use Rattle.icn_value.specs.Store.{Names, Outside}
use Rattle.icn_defs.specs.Applying.{function_of}
use Rattle.icn_heap.specs.Extents.{IsLive, value_in}
use Rattle.icn_heap.specs.Heaps.{extent_of}
use Rattle.icn_vars.specs.declared.outcome.Outcome.TheVariants.{Gives}
use Rattle.icn_vars.specs.declared.outcome.ValueOutcome.{ValueOutcome}
use Rattle.icn_vars.specs.declared.outcome.ValueOutcome.TheVariants as ValueOutcomes
use Rattle.icn_value.specs.declared.item.Item.TheVariants as Items
use Rattle.icn_vars.specs.declared.world.World.{World}
use Rattle.icn_vars.specs.Outcomes.{outcome_in, outcome_of}
use Rattle.icn_vars.specs.Worlds.{KeepsItems, reach_of, setting_of}
use Rattle.icn_control.specs.TakenOperands.{KeepsCounts}

-- a function that adds an element to a list
abbrev pub is_adding : Func → Bool
is_adding Put = true
is_adding Push = true
is_adding func = false

-- a function that takes an element of a list
abbrev pub is_taking : Func → Bool
is_taking Get = true
is_taking Pop = true
is_taking Pull = true
is_taking func = false

-- The function, called with a list and a value, adds the value to the list, which it gives. All that is of the world stays
-- what it was.
pub record AddsTo (func : Func) (w : World) (list : ℕ) (val : Val) (v : World) : Type 0 where
  pub comes : (names : Names) (outside : Outside) (locals : List Val)
      → All (IsLive (extent_of w.heap)) locals
      → function_of names func
      (value_in (extent_of w.heap) (Vals.List list) ∷ value_in (extent_of w.heap) val ∷ [])
      (setting_of outside w locals)
      ≡ outcome_in (extent_of v.heap) (Gives (Items.Val (Vals.List list))) (setting_of outside v locals)
  pub live : IsLive (extent_of v.heap) (Vals.List list)
  pub kept : KeepsItems (reach_of w []) (reach_of v [])
  pub counts : KeepsCounts w v

-- an element that was taken, as what a row gives; it fails where there was none
abbrev pub taken_outcome : Option Val → ValueOutcome
taken_outcome (Some v) = ValueOutcomes.Gives v
taken_outcome None = ValueOutcomes.Fails

-- The function, called with a list, takes an element of it, which it gives, or fails where there is none.
pub record TakesFrom (func : Func) (w : World) (list : ℕ) (taken : Option Val) (v : World) : Type 0 where
  pub comes : (names : Names) (outside : Outside) (locals : List Val)
      → All (IsLive (extent_of w.heap)) locals
      → function_of names func (value_in (extent_of w.heap) (Vals.List list) ∷ [])
      (setting_of outside w locals)
      ≡ outcome_in (extent_of v.heap) (outcome_of (taken_outcome taken)) (setting_of outside v locals)
  pub live : IfSome taken (IsLive (extent_of v.heap))
  pub kept : KeepsItems (reach_of w []) (reach_of v [])
  pub counts : KeepsCounts w v
