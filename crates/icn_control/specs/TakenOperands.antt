-- Operands that are taken together, and values that are found or made of them.
use Rattle.std.specs.Prelude.{◌≡◌, ℕ, zero, suc, List, [], ◌∷◌, map, Option, Some, Result, Ok, Err, MatchResult, ⊤}
use Rattle.std.specs.Option.{option_and_then}
use Rattle.icn_value.specs.declared.val.Val.{Val}
use Rattle.icn_value.specs.declared.item.Item.{Item}
use Rattle.icn_value.specs.Values.{Value}
use Rattle.icn_defs.specs.Rows.{Row}
use Rattle.icn_heap.specs.Extents.{value_in}
use Rattle.icn_heap.specs.Heaps.{extent_of, heap_of}
use Rattle.icn_vars.specs.declared.stop.Stop.{Stop}
use Rattle.icn_vars.specs.declared.stop.Stop.TheVariants as Stops
use Rattle.icn_vars.specs.declared.world.World.{World}
use Rattle.icn_vars.specs.Stops.{halt_of}
use Rattle.icn_vars.specs.Worlds.{item_in, world_of}
use Rattle.icn_frames.specs.Stacks.{FlatStack, pop}
use Rattle.icn_run.specs.Stacks.{Frames, flat}
use Rattle.icn_run.specs.Rows.{Val as ItemVal}
use Rattle.icn_run.specs.Step.{State, Store, here, list_made, with_made, push_item, with_values, with_world}
use Rattle.icn_control.specs.StackAndWorld.{HaltsWith}
use Rattle.icn_control.specs.StackViews.{stack_in}

-- so many operands from the top down, in front of others, and the stack without them
abbrev pub taken_onto : ℕ → FlatStack → List Item → Option (List Item × FlatStack)
taken_onto zero m items = Some (items, m)
taken_onto (suc n) m items =
    option_and_then (λ (popped : Item × FlatStack). taken_onto n popped.1 (popped.0 ∷ items)) (pop m)

-- so many operands, the top one last, and the stack without them
abbrev pub take_operands : ℕ → FlatStack → Option (List Item × FlatStack)
take_operands n m = taken_onto n m []

-- what comes of the values of items
abbrev pub with_values_in : World → FlatStack → List Item → Store Frames → (List Value → State Frames Frames)
    → State Frames Frames
with_values_in w m items st next =
    with_values flat (map (item_in (extent_of w.heap)) items) (stack_in (extent_of w.heap) m) st next

-- the values of items, or why one of them has none
abbrev pub FindsValues : {A : Type 0} → World → FlatStack → List Item → List Val → Result A Stop → Type 0
FindsValues w m items vals result =
    (st : Store Frames) (next : List Value → State Frames Frames) → st.world ≡ world_of w
    → MatchResult result
    (λ _. with_values_in w m items st next ≡ next (map (value_in (extent_of w.heap)) vals))
    (λ stop. HaltsWith (with_values_in w m items st next) st w (stack_in (extent_of w.heap) m) (halt_of stop))

-- what comes of a row that makes a value
abbrev pub made_in : Row → World → FlatStack → Store Frames
    → (Value → Frames → Store Frames → State Frames Frames) → State Frames Frames
made_in row w m st next = with_made flat (row (here flat (stack_in (extent_of w.heap) m) st))
    (stack_in (extent_of w.heap) m) st next

-- A row gives a value in the world after it, where the stack is the same, or why it gives none.
abbrev pub MakesValue : Row → World → FlatStack → World → Result Val Stop → Type 0
MakesValue row w m v result =
    (st : Store Frames) (next : Value → Frames → Store Frames → State Frames Frames) → st.world ≡ world_of w
    → MatchResult result (λ val. made_in row w m st next
    ≡ next (value_in (extent_of v.heap) val) (stack_in (extent_of v.heap) m) (with_world (world_of v) st))
    (λ stop. HaltsWith (made_in row w m st next) st v (stack_in (extent_of v.heap) m) (halt_of stop))

-- the limits stay, and so do the counts of results
pub record KeepsCounts (w v : World) : Type 0 where
  pub bounds : (heap_of v.heap).bounds ≡ (heap_of w.heap).bounds
  pub coexps : (heap_of v.heap).coexps ≡ (heap_of w.heap).coexps

-- it holds where something is answered, or an error, but not where memory was wanting
abbrev pub UnlessNoMemory : {A : Type 0} → Result A Stop → Type 0 → Type 0
UnlessNoMemory (Ok a) P = P
UnlessNoMemory (Err (Stops.Error number offending)) P = P
UnlessNoMemory (Err Stops.NoMemory) P = ⊤

-- what comes of a list that is made of the values of items, and pushed
abbrev pub push_list : World → FlatStack → List Item → Store Frames → State Frames Frames
push_list w m items st = with_values_in w m items st (λ values. list_made flat values
    (stack_in (extent_of w.heap) m) st (λ list a after. push_item flat (ItemVal list) a after))
