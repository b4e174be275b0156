-- Leaving a scan.
use Rattle.std.proofs.Common.{◌≡◌, ℕ, false, List, [], ◌∷◌, Option, Some, IsSome, sym, ap, ◌∙◌, subst}
use Rattle.std.specs.Option.{option_map}
use Rattle.std.proofs.lemmas.Option.{same_Some}
use Rattle.icn_value.specs.declared.item.Item.{Item}
use Rattle.icn_value.specs.Store.{World as StoreWorld}
use Rattle.icn_heap.specs.declared.heap.Heap.{Heap as HeldHeap}
use Rattle.icn_heap.specs.Extents.{Extent}
use Rattle.icn_heap.specs.Heaps.{extent_of}
use Rattle.icn_vars.specs.declared.world.World.{World}
use Rattle.icn_vars.specs.Worlds.{Reach, IsLiveItem, reach_of, world_of, item_in}
use Rattle.icn_frames.specs.declared.layout.Registers.{Registers}
use Rattle.icn_frames.specs.declared.layout.Why.TheVariants.{Escan}
use Rattle.icn_frames.specs.declared.layout.Cell.{Cell}
use Rattle.icn_frames.specs.declared.layout.Cell.TheVariants.{Base, Call, Local, Mark, Limit, Suspension, Operand}
use Rattle.icn_frames.specs.Stacks as held
use Rattle.icn_frames.specs.Stacks.{FlatStack}
use Rattle.law_frames.specs.ReadStacks.{swapped_read}
use Rattle.law_frames.proofs.ScansRead.{swap_newest_read, suspend_read}
use Rattle.icn_code.specs.declared.instr.Instr.TheVariants as Instrs
use Rattle.icn_code.specs.Codes.{Tables}
use Rattle.icn_run.specs.Rows as rows
use Rattle.icn_run.specs.Calls as calls
use Rattle.icn_run.specs.Stacks.{Frames, flat}
use Rattle.icn_run.specs.Step.{State, Store, running, with_world, pair_now, with_exchange, push_item}
use Rattle.icn_control.specs.LiveStacks.{with_locals, IsLiveStack}
use Rattle.icn_control.specs.StackViews.{instruction_state, stack_in, reading_of, pair_in}
use Rattle.icn_control.specs.Pairs.{world_with_pair}
use Rattle.icn_control.specs.StackAndWorld.{RunsWith}
use Rattle.icn_control.proofs.LiveCalls.{own_locals, live_pop, live_push, live_suspend, suspend_owner}
use Rattle.icn_control.proofs.LiveFrames.{live_swap}
use Rattle.icn_control.proofs.OperandValues.{present_live}
use Rattle.icn_control.proofs.StackSteps.{popped_runs}
use Rattle.icn_control.proofs.ReturnSteps.{present_pair}

-- taking an operand keeps the registers
pub pop_registers : (m n : FlatStack) (item : Item) → held.pop m ≡ Some (item, n) → m.registers ≡ n.registers
pop_registers m n item e = by_cells m.cells e
  where
    by_cells : (s : List Cell) → held.pop_from m s ≡ Some (item, n) → m.registers ≡ n.registers
    by_cells (Operand x ∷ s) q = ap (λ (w : Item × FlatStack). w.1.registers) (same_Some _ _ q)
    by_cells [] q = cc
    by_cells (Local value ∷ s) q = cc
    by_cells (Base proc locals ∷ s) q = cc
    by_cells (Call proc locals level r place ∷ s) q = cc
    by_cells (Mark label changed r ∷ s) q = cc
    by_cells (Limit count r ∷ s) q = cc
    by_cells (Suspension why r place ∷ s) q = cc

pub open_after : (m n : FlatStack) (item : Item) → held.pop m ≡ Some (item, n) → IsSome m.registers.scan → IsSome n.registers.scan
open_after m n item e k = subst (λ (r : Registers). IsSome r.scan) (pop_registers m n item e) k

pub escan_runs : (w v : World) (m k l n : FlatStack) (item : Item) → held.pop m ≡ Some (item, k) → held.swap_by false w.pair k ≡ Some (v.pair, l)
    → world_of v ≡ world_with_pair (pair_in (extent_of w.heap) v.pair) (world_of w) → v.heap ≡ w.heap
    → held.given_to (Some item) (held.suspend_by Escan l) ≡ Some n → (tables : Tables) (st : Store Frames) → st.world ≡ world_of w
    → RunsWith (instruction_state (extent_of w.heap) tables Instrs.Escan m st) st v n
escan_runs w v m k l n item e f back heap g tables st same =
    let all : Extent = extent_of w.heap in
    let x : rows.Item = item_in all item in
    let next : Frames → Store Frames → State Frames Frames = λ a. push_item flat x (flat.suspend calls.Escan a) in
    let F : HeldHeap → State Frames Frames = λ y. running (stack_in (extent_of y) n) (with_world (world_of v) st) in
    popped_runs m k item e all (λ y a. with_exchange (flat.swap_newest (pair_now st) a) (λ b. push_item flat y (flat.suspend calls.Escan b)) st)
    ∙ ap (λ (p : calls.Pair). with_exchange (flat.swap_newest p (stack_in all k)) next st) (present_pair w st same)
    ∙ ap (λ (o : Option (calls.Pair × Frames)). with_exchange o next st)
    (swap_newest_read (reading_of all) w.pair k ∙ ap (option_map (swapped_read (reading_of all))) f)
    ∙ ap (λ (s : StoreWorld). next (stack_in all l) (with_world (world_with_pair (pair_in all v.pair) s) st)) same
    ∙ ap (λ (s : StoreWorld). next (stack_in all l) (with_world s st)) (sym back)
    ∙ ap (λ (a : Frames). push_item flat x a (with_world (world_of v) st)) (suspend_read (reading_of all) Escan l)
    ∙ ap (λ (y : FlatStack). running (stack_in all y) (with_world (world_of v) st)) (same_Some _ _ g)
    ∙ ap F (sym heap)

pub escan_live : (t : Tables) (w v : World) (m k l n : FlatStack) (item : Item) → held.pop m ≡ Some (item, k) → held.swap_by false w.pair k ≡ Some (v.pair, l)
    → held.given_to (Some item) (held.suspend_by Escan l) ≡ Some n
    → reach_of v [] ≡ reach_of w [] → IsLiveStack t (reach_of w []) m → IsLiveStack t (reach_of v []) n
escan_live t w v m k l n item e f g r live =
    let reach : Reach = reach_of w [] in
    let popped = live_pop t reach m k item e live in
    let swapped = live_swap t reach k l false w.pair v.pair f (present_live w) popped.rest in
    let left : IsLiveStack t reach (held.suspend Escan l) = live_suspend t reach l Escan swapped.rest tt in
    let here : IsLiveItem (with_locals (own_locals (held.suspend Escan l)) reach) item
    = subst (λ (c : ℕ). IsLiveItem (with_locals c reach) item) (sym (suspend_owner l Escan swapped.rest.root ∙ swapped.same)) popped.item_live in
    let on : IsLiveStack t reach n = subst (λ (x : FlatStack). IsLiveStack t reach x) (same_Some _ _ g)
    (live_push t reach (held.suspend Escan l) item left here) in
    subst (λ (x : Reach). IsLiveStack t x n) (sym r) on
