-- The values of operands, as the instructions see them.
use Rattle.std.proofs.Common.{◌≡◌, ℕ, zero, suc, ◌+◌, ◌-◌, List, [], ◌∷◌, length, drop, Result, Ok, Err, MatchResult, sym, ap, ◌∙◌, subst}
use Rattle.std.specs.List.{All}
use Rattle.std.proofs.lemmas.List.Elements.{All-cons, All-nil}
use Rattle.icn_value.specs.declared.val.Val.{Val}
use Rattle.icn_value.specs.declared.item.Item.{Item as HeldItem}
use Rattle.icn_value.specs.Store.{Outside, Setting, World as StoreWorld}
use Rattle.icn_value.specs.Values.{Value}
use Rattle.icn_defs.specs.Calls.{GoesOn}
use Rattle.icn_defs.specs.ReadAndAssign.{the_value}
use Rattle.icn_defs.specs.Rows.{gives_value}
use Rattle.icn_heap.specs.Extents.{IsLive, value_in}
use Rattle.icn_heap.specs.Heaps.{extent_of}
use Rattle.icn_vars.specs.declared.world.World.{World}
use Rattle.icn_vars.specs.declared.stop.Stop.{Stop}
use Rattle.icn_vars.specs.declared.stop.Stop.TheVariants.{Error as StopError, NoMemory as StopNoMemory}
use Rattle.icn_vars.specs.Stops.{StopsFinding}
use Rattle.icn_vars.specs.Worlds.{Reach, setting_of, world_of, item_in}
use Rattle.icn_frames.specs.declared.layout.Cell.{Cell}
use Rattle.icn_frames.specs.declared.layout.Cell.TheVariants.{Base, Call, Local, Mark, Limit, Suspension, Operand}
use Rattle.icn_frames.specs.Stacks as held
use Rattle.icn_frames.specs.Stacks.{FlatStack, locals_down}
use Rattle.law_frames.proofs.CallsRead.{locals_read}
use Rattle.icn_code.specs.Codes.{Tables}
use Rattle.icn_run.specs.Stacks.{Frames, flat}
use Rattle.icn_run.specs.Step.{Store, here}
use Rattle.icn_control.specs.LiveStacks.{IsLivePair, IsLiveStack, AreLive, locals_at}
use Rattle.icn_control.specs.StackAndWorld.{FindsValue}
use Rattle.icn_control.specs.StackViews.{stack_in, reading_of}

-- the locals of the activation that runs are of the world

live_drop : (t : Tables) (reach : Reach) (k n : ℕ) (s : List Cell) → AreLive t reach n s → (other : ℕ) × AreLive t reach other (drop k s)
live_drop t reach zero n s l = (n, l)
live_drop t reach (suc k) n [] l = (n, l)
live_drop t reach (suc k) n (Operand item ∷ s) l = live_drop t reach k n s l.1
live_drop t reach (suc k) n (Local value ∷ s) l = live_drop t reach k n s l.1
live_drop t reach (suc k) n (Base proc locals ∷ s) l = live_drop t reach k 0 s l.1
live_drop t reach (suc k) n (Call proc locals level r place ∷ s) l = live_drop t reach k (locals_at r s) s l.1.1.1
live_drop t reach (suc k) n (Mark label changed r ∷ s) l = live_drop t reach k (locals_at r s) s l.1
live_drop t reach (suc k) n (Limit count r ∷ s) l = live_drop t reach k (locals_at r s) s l.1.1
live_drop t reach (suc k) n (Suspension why r place ∷ s) l = live_drop t reach k (locals_at r s) s l.1.1

live_down : (t : Tables) (reach : Reach) (c n : ℕ) (s : List Cell) (values : List Val) → AreLive t reach n s → All (IsLive reach.extent) values
    → All (IsLive reach.extent) (locals_down c s values)
live_down t reach zero n s values l a = a
live_down t reach (suc c) n [] values l a = a
live_down t reach (suc c) n (Local value ∷ s) values l a = live_down t reach c n s (value ∷ values) l.1 (All-cons (IsLive reach.extent) value values l.0 a)
live_down t reach (suc c) n (Operand item ∷ s) values l a = a
live_down t reach (suc c) n (Base proc locals ∷ s) values l a = a
live_down t reach (suc c) n (Call proc locals level r place ∷ s) values l a = a
live_down t reach (suc c) n (Mark label changed r ∷ s) values l a = a
live_down t reach (suc c) n (Limit count r ∷ s) values l a = a
live_down t reach (suc c) n (Suspension why r place ∷ s) values l a = a

-- the locals of the running activation are values of the world
pub live_locals : (t : Tables) (reach : Reach) (m : FlatStack) → IsLiveStack t reach m → All (IsLive reach.extent) (held.locals m)
live_locals t reach m k =
    let count : ℕ = held.locals_of (held.frame m) in
    let l = live_drop t reach (length m.cells - (m.registers.base + count)) (locals_at m.registers m.cells) m.cells k.cells in
    live_down t reach count l.0 (drop (length m.cells - (m.registers.base + count)) m.cells) [] l.1 (All-nil (IsLive reach.extent))

-- what an instruction sees is the setting of the world and the locals
pub here_is : (w : World) (m : FlatStack) (st : Store Frames) → st.world ≡ world_of w
    → here flat (stack_in (extent_of w.heap) m) st ≡ setting_of st.outside w (held.locals m)
here_is w m st e =
    let F : StoreWorld → List Value → Setting = λ x y. record { world = x; locals = y; outside = st.outside } in
    ap (λ (x : StoreWorld). F x (flat.locals (stack_in (extent_of w.heap) m))) e ∙ ap (F (world_of w)) (locals_read (reading_of (extent_of w.heap)) m)

pub value_found : (w : World) (m : FlatStack) (item : HeldItem) (result : Result Val Stop)
    → ((outside : Outside) → MatchResult result (λ val. GoesOn (the_value (item_in (extent_of w.heap) item)) (setting_of outside w (held.locals m))
    (value_in (extent_of w.heap) val) (setting_of outside w (held.locals m))) (StopsFinding (extent_of w.heap) (the_value (item_in (extent_of w.heap) item))
    (setting_of outside w (held.locals m)) (setting_of outside w (held.locals m))))
    → (st : Store Frames) → st.world ≡ world_of w
    → FindsValue (extent_of w.heap) (item_in (extent_of w.heap) item) (here flat (stack_in (extent_of w.heap) m) st) result
value_found w m item (Ok val) h st e =
    subst (λ (x : Setting). FindsValue (extent_of w.heap) (item_in (extent_of w.heap) item) x (Ok val)) (sym (here_is w m st e)) (h st.outside gives_value)
value_found w m item (Err (StopError number offending)) h st e =
    subst (λ (x : Setting). FindsValue (extent_of w.heap) (item_in (extent_of w.heap) item) x (Err (StopError number offending))) (sym (here_is w m st e))
    (h st.outside gives_value)
value_found w m item (Err StopNoMemory) h st e = tt

-- the pair of a world is of it
pub present_live : (w : World) → IsLivePair (extent_of w.heap) w.pair
present_live w = record { subject = w.sound.subject; low = w.sound.low; high = w.sound.high }
