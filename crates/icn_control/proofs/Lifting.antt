-- What is said of a stack and a world, said of a machine.
use Rattle.std.proofs.Common.{◌≡◌, ℕ, zero, suc, Bool, true, false, ◌&&◌, not, if◌then◌else◌, Option, Some, refl, sym, ap, ◌∙◌, subst}
use Rattle.icn_value.specs.Store.{Outside}
use Rattle.icn_heap.specs.declared.heap.Heap.{Heap as HeldHeap}
use Rattle.icn_heap.specs.Extents.{Extent}
use Rattle.icn_heap.specs.Heaps.{extent_of}
use Rattle.icn_vars.specs.declared.world.World.{World}
use Rattle.icn_vars.specs.Worlds.{world_of}
use Rattle.icn_frames.specs.Stacks as held
use Rattle.icn_frames.specs.Stacks.{FlatStack}
use Rattle.law_frames.proofs.CallsRead.{is_base_read}
use Rattle.icn_coexp.specs.Transfers.{CoexpTable}
use Rattle.icn_code.specs.Codes.{Tables}
use Rattle.icn_run.specs.Rows.{Done}
use Rattle.icn_run.specs.Stacks.{Frames, flat}
use Rattle.icn_run.specs.Step.{State, Store, running, failing, over_with, stuck, all_names, exhaust_active, is_main, proc_fails, without_mark}
use Rattle.icn_control.specs.Machines.{store_in, running_of, StandsAt}
use Rattle.icn_control.specs.declared.machine.Machine.{Machine}
use Rattle.icn_control.specs.declared.machine.RunState.{RunState}
use Rattle.icn_control.specs.declared.machine.RunState.TheVariants as RunStates
use Rattle.icn_control.specs.StackAndWorld.{StandsWith}
use Rattle.icn_control.specs.StackViews.{stack_in, reading_of}

-- the store of a machine before an instruction, with its turns and what it began
abbrev pub store_before : {K : Type 0} → Tables → Outside → World → CoexpTable → Machine K → Store Frames
store_before tables outside w table m = store_in (all_names tables) outside (world_of w) m.turns m.begun.items (extent_of w.heap) table

-- a stack that stands is that of a machine, whose heap is the same
moved : {K : Type 0} (m : Machine K) (tables : Tables) (outside : Outside) (w : World) (table : CoexpTable) (n : FlatStack)
    (F : Frames → Store Frames → State Frames Frames) → m.stacks.table ≡ record table { running = Some n } → m.world.heap ≡ w.heap
    → F (stack_in (extent_of m.world.heap) n) (store_in (all_names tables) outside (world_of m.world) m.turns m.begun.items (extent_of w.heap) table)
    ≡ F (stack_in (extent_of m.world.heap) (running_of m.stacks.table.running))
    (store_in (all_names tables) outside (world_of m.world) m.turns m.begun.items (extent_of m.world.heap) m.stacks.table)
moved m tables outside w table n F t heap =
    let G : HeldHeap → State Frames Frames = λ h.
    F (stack_in (extent_of m.world.heap) n) (store_in (all_names tables) outside (world_of m.world) m.turns m.begun.items (extent_of h) table) in
    let H : CoexpTable → State Frames Frames = λ x. F (stack_in (extent_of m.world.heap) (running_of x.running))
    (store_in (all_names tables) outside (world_of m.world) m.turns m.begun.items (extent_of m.world.heap) x) in
    ap G (sym heap) ∙ ap H (sym t)

pub stands_at : {K : Type 0} (m : Machine K) (tables : Tables) (outside : Outside) (w : World) (table : CoexpTable) (n : FlatStack)
    (state : State Frames Frames)
    (stage : RunState) → m.stacks.table ≡ record table { running = Some n } → m.world.heap ≡ w.heap
    → StandsWith state (store_before tables outside w table m) m.world n stage → (stage ≡ RunStates.Over → table.active ≡ 0)
    → StandsAt tables outside state m stage
stands_at m tables outside w table n state RunStates.Running t heap h o = h ∙ moved m tables outside w table n running t heap
stands_at m tables outside w table n state RunStates.Failing t heap h o = h ∙ moved m tables outside w table n failing t heap
stands_at m tables outside w table n state RunStates.Hopping t heap h o = absurd h
stands_at m tables outside w table n state RunStates.Over t heap h o =
    let F : Bool → State Frames Frames = λ x. if x then over_with Done (world_of m.world) outside else stuck in
    h ∙ ap F (ap is_main (o refl))
stands_at m tables outside w table n state RunStates.AtBound t heap h o = absurd h

-- Ends

main_is : (n : ℕ) → is_main n ≡ true → n ≡ 0
main_is zero e = refl
main_is (suc n) e = cc

-- where the run is over and is not stuck, `&main` is active
pub over_is_main : (active : ℕ) (end state : State Frames Frames) → state ≡ (if (is_main active) then end else stuck)
    → (state ≡ stuck → ⊥) → active ≡ 0
over_is_main active end state e d = by_main (is_main active) refl
  where
    F : Bool → State Frames Frames
    F x = if x then end else stuck

    by_main : (b : Bool) → is_main active ≡ b → active ≡ 0
    by_main true q = main_is active q
    by_main false q = absurd (d (e ∙ ap F q))

above_main : (n : ℕ) → (n ≡ 0 → ⊥) → is_main n ≡ false
above_main zero d = absurd (d refl)
above_main (suc n) d = refl

pub ends_body : (all : Extent) (tables : Tables) (m : FlatStack) (st : Store Frames) → (st.active ≡ 0 → ⊥) → held.is_base m ≡ true
    → without_mark flat tables (stack_in all m) st ≡ exhaust_active flat tables (stack_in all m) st
ends_body all tables m st d e =
    let F : Bool → State Frames Frames = λ x. if x then exhaust_active flat tables (stack_in all m) st else proc_fails flat (stack_in all m) st in
    ap (λ (x : Bool). F (x && not (is_main st.active))) (is_base_read (reading_of all) m ∙ e) ∙ ap (λ (x : Bool). F (true && not x)) (above_main st.active d)

pub ends_call : (all : Extent) (tables : Tables) (m : FlatStack) (st : Store Frames) → held.is_base m ≡ false
    → without_mark flat tables (stack_in all m) st ≡ proc_fails flat (stack_in all m) st
ends_call all tables m st e =
    let F : Bool → State Frames Frames = λ x. if x then exhaust_active flat tables (stack_in all m) st else proc_fails flat (stack_in all m) st in
    ap (λ (x : Bool). F (x && not (is_main st.active))) (is_base_read (reading_of all) m ∙ e)

pub ends_main : (all : Extent) (tables : Tables) (m : FlatStack) (st : Store Frames) → st.active ≡ 0
    → without_mark flat tables (stack_in all m) st ≡ proc_fails flat (stack_in all m) st
ends_main all tables m st e = by_base (flat.is_base (stack_in all m)) refl
  where
    F : Bool → State Frames Frames
    F x = if x then exhaust_active flat tables (stack_in all m) st else proc_fails flat (stack_in all m) st

    by_base : (b : Bool) → flat.is_base (stack_in all m) ≡ b
        → F (flat.is_base (stack_in all m) && not (is_main st.active)) ≡ proc_fails flat (stack_in all m) st
    by_base true q = ap (λ (x : Bool). F (x && not (is_main st.active))) q ∙ ap (λ (n : ℕ). F (true && not (is_main n))) e
    by_base false q = ap (λ (x : Bool). F (x && not (is_main st.active))) q

-- a procedure that ends and fails, on a machine
pub ends_at : {K : Type 0} (m : Machine K) (other tables : Tables) (elsewhere outside : Outside) (w : World) (table : CoexpTable) (k n : FlatStack)
    (stage : RunState)
    → table.running ≡ Some k → m.stacks.table ≡ record table { running = Some n } → m.world.heap ≡ w.heap
    → ((any : Tables) (st : Store Frames) → st.active ≡ table.active
    → without_mark flat any (stack_in (extent_of w.heap) k) st ≡ proc_fails flat (stack_in (extent_of w.heap) k) st)
    → ((st : Store Frames) → st.world ≡ world_of w → StandsWith (proc_fails flat (stack_in (extent_of w.heap) k) st) st m.world n stage)
    → (without_mark flat other (stack_in (extent_of w.heap) (running_of table.running)) (store_before other elsewhere w table m) ≡ stuck → ⊥)
    → StandsAt tables outside
    (without_mark flat tables (stack_in (extent_of w.heap) (running_of table.running)) (store_before tables outside w table m)) m stage
ends_at m other tables elsewhere outside w table k n stage r t heap same h d =
    let there : Store Frames = store_before other elsewhere w table m in
    let here : Store Frames = store_before tables outside w table m in
    let is_there : without_mark flat other (stack_in (extent_of w.heap) (running_of table.running)) there
    ≡ proc_fails flat (stack_in (extent_of w.heap) k) there
    = ap (λ (o : Option FlatStack). without_mark flat other (stack_in (extent_of w.heap) (running_of o)) there) r ∙ same other there refl in
    let is_here : without_mark flat tables (stack_in (extent_of w.heap) (running_of table.running)) here ≡ proc_fails flat (stack_in (extent_of w.heap) k) here
    = ap (λ (o : Option FlatStack). without_mark flat tables (stack_in (extent_of w.heap) (running_of o)) here) r ∙ same tables here refl in
    let main : stage ≡ RunStates.Over → table.active ≡ 0
    = λ e. over_is_main table.active (over_with Done (world_of m.world) elsewhere) (proc_fails flat (stack_in (extent_of w.heap) k) there)
    (subst (λ (z : RunState). StandsWith (proc_fails flat (stack_in (extent_of w.heap) k) there) there m.world n z) e (h there refl)) (λ q. d (is_there ∙ q)) in
    subst (λ (x : State Frames Frames). StandsAt tables outside x m stage) (sym is_here)
    (stands_at m tables outside w table n (proc_fails flat (stack_in (extent_of w.heap) k) here) stage t heap (h here refl) main)
