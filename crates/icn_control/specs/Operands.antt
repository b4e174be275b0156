-- Operands that are taken for their values.
use Rattle.std.specs.Prelude.{◌≡◌, ℕ, Option, Some, None, Result, MatchResult}
use Rattle.icn_value.specs.declared.val.Val.{Val}
use Rattle.icn_value.specs.declared.val.Val.TheVariants as Vals
use Rattle.icn_value.specs.Changes.{with_result}
use Rattle.icn_value.specs.Store.{World as StoreWorld}
use Rattle.icn_value.specs.Values.{Value}
use Rattle.icn_heap.specs.Extents.{value_in}
use Rattle.icn_heap.specs.Heaps.{extent_of}
use Rattle.icn_vars.specs.declared.stop.Stop.{Stop}
use Rattle.icn_vars.specs.declared.world.World.{World}
use Rattle.icn_vars.specs.Stops.{halt_of}
use Rattle.icn_vars.specs.Worlds.{world_of}
use Rattle.icn_frames.specs.Stacks.{FlatStack}
use Rattle.icn_run.specs.Stacks.{Frames, flat}
use Rattle.icn_run.specs.Step.{State, Store, with_popped, with_value}
use Rattle.icn_control.specs.StackAndWorld.{HaltsWith}
use Rattle.icn_control.specs.StackViews.{stack_in}

-- the value of the top operand, with the stack below it
abbrev pub with_top : Frames → Store Frames → (Value → Frames → State Frames Frames) → State Frames Frames
with_top m st next = with_popped flat m (λ item m. with_value flat item m st (λ value. next value m))

-- the values of the two top operands, that of the lower one first, with the stack below them
abbrev pub with_two : Frames → Store Frames → (Value → Value → Frames → State Frames Frames)
    → State Frames Frames
with_two m st next = with_popped flat m (λ upper m. with_popped flat m (λ lower m.
    with_value flat lower m st (λ first. with_value flat upper m st (λ second. next first second m))))

-- The values, with the stack that is left, or why one of them has none.

-- the top operand is taken for its value, or has none for this reason
abbrev pub TakesTop : World → FlatStack → FlatStack → Result Val Stop → Type 0
TakesTop w m n result =
    (st : Store Frames) (next : Value → Frames → State Frames Frames) → st.world ≡ world_of w
    → MatchResult result
    (λ val. with_top (stack_in (extent_of w.heap) m) st next
    ≡ next (value_in (extent_of w.heap) val) (stack_in (extent_of w.heap) n))
    (λ stop. HaltsWith (with_top (stack_in (extent_of w.heap) m) st next) st w (stack_in (extent_of w.heap) n)
    (halt_of stop))

-- the two top operands are taken for their values, or one has none for this reason
abbrev pub TakesTwo : World → FlatStack → FlatStack → Result (Val × Val) Stop → Type 0
TakesTwo w m n result =
    (st : Store Frames) (next : Value → Value → Frames → State Frames Frames) → st.world ≡ world_of w
    → MatchResult result
    (λ two. with_two (stack_in (extent_of w.heap) m) st next ≡ next (value_in (extent_of w.heap) two.0)
    (value_in (extent_of w.heap) two.1) (stack_in (extent_of w.heap) n))
    (λ stop. HaltsWith (with_two (stack_in (extent_of w.heap) m) st next) st w (stack_in (extent_of w.heap) n)
    (halt_of stop))

-- the number of a co-expression
abbrev pub coexp_number : Val → Option ℕ
coexp_number (Vals.Coexp number) = Some number
coexp_number Vals.Null = None
coexp_number (Vals.Integer n) = None
coexp_number (Vals.Text span) = None
coexp_number (Vals.Chars cset) = None
coexp_number (Vals.Std file) = None
coexp_number (Vals.Proc number) = None
coexp_number (Vals.Rec id) = None
coexp_number (Vals.List id) = None
coexp_number (Vals.Set id) = None
coexp_number (Vals.Table id) = None

-- the same world, where a co-expression gave one result more
abbrev pub having_result : ℕ → StoreWorld → StoreWorld
having_result number world = record world { heap = with_result number world.heap }
