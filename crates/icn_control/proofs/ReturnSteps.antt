-- Returning from a procedure, suspending it, and leaving it as it fails.
use Rattle.std.proofs.Common.{◌≡◌, ℕ, zero, suc, ◌-◌, true, false, List, [], ◌∷◌, length, drop, slice_get, Option, Some, None, is_some, Result, Ok, Err, MatchResult, refl, sym, ap, ◌∙◌, subst}
use Rattle.std.specs.Option.{option_map}
use Rattle.std.specs.Prelude.{IsErrAnd}
use Rattle.std.proofs.lemmas.Option.{same_Some}
use Rattle.icn_frames.specs.Heights.{cell_at}
use Rattle.icn_value.specs.declared.val.Val.{Val}
use Rattle.icn_value.specs.declared.item.Root.TheVariants as Roots
use Rattle.icn_value.specs.declared.item.VarRef.TheVariants.{Whole, Part}
use Rattle.icn_value.specs.declared.item.Item.{Item}
use Rattle.icn_value.specs.declared.item.Item.TheVariants.{Val as HeldVal, Var as HeldVar}
use Rattle.icn_value.specs.declared.item.Pair.{Pair as HeldPair}
use Rattle.icn_value.specs.Store.{World as StoreWorld}
use Rattle.icn_heap.specs.declared.heap.Heap.{Heap as HeldHeap}
use Rattle.icn_heap.specs.Extents.{Extent}
use Rattle.icn_heap.specs.Heaps.{extent_of}
use Rattle.icn_vars.specs.declared.world.World.{World}
use Rattle.icn_vars.specs.declared.stop.Stop.{Stop}
use Rattle.icn_vars.specs.declared.outcome.Halt.{Halt}
use Rattle.icn_vars.specs.Stops.{halt_of}
use Rattle.icn_vars.specs.Worlds.{Reach, IsLiveItem, world_of, item_in}
use Rattle.icn_frames.specs.declared.layout.Why.TheVariants.{Alt, Op, Scan, Escan, Proc}
use Rattle.icn_frames.specs.declared.layout.Cell.{Cell}
use Rattle.icn_frames.specs.declared.layout.Cell.TheVariants.{Base, Call, Local, Mark, Limit, Suspension, Operand}
use Rattle.icn_frames.specs.Stacks as held
use Rattle.icn_frames.specs.Stacks.{FlatStack}
use Rattle.law_frames.specs.ReadStacks.{swapped_read}
use Rattle.law_frames.proofs.ScansRead.{swap_oldest_read, leave_read, suspend_proc_read}
use Rattle.icn_code.specs.declared.instr.Instr.TheVariants as Instrs
use Rattle.icn_code.specs.Codes.{Tables}
use Rattle.icn_run.specs.Rows as rows
use Rattle.icn_run.specs.Calls as calls
use Rattle.icn_run.specs.Stacks.{Frames, flat}
use Rattle.icn_run.specs.Step.{State, Store, running, failing, with_value, with_world, with_result, here, scans_left, push_item, pair_now, maybe_exchanged, swapped_back, all_left, return_to, finish_run, proc_fails}
use Rattle.icn_control.specs.declared.machine.RunState.{RunState}
use Rattle.icn_control.specs.LiveStacks.{with_locals, IsLiveStack}
use Rattle.icn_control.specs.StackViews.{instruction_state, stack_in, reading_of, maybe_pair_in, pair_in}
use Rattle.icn_control.specs.Pairs.{world_with_pair, maybe_paired}
use Rattle.icn_control.specs.StackAndWorld.{RunsWith, FailsWith, StandsWith, HaltsWith, FindsValue}
use Rattle.icn_control.specs.Results.{is_local_item}
use Rattle.icn_control.proofs.StackSteps.{popped_runs, pushed_back}
use Rattle.icn_control.proofs.LiveCalls.{own_locals, live_push}
use Rattle.icn_control.proofs.LiveFrames.{live_suspend_proc}
use Rattle.icn_control.proofs.StackAndWorldSteps.{value_goes, value_halts, left_world, match_halt, same_world}

-- Results

pub local_result : (all : Extent) (item : Item) → is_local_item item ≡ true → (m : Frames) (st : Store Frames) (next : rows.Item → State Frames Frames)
    → with_result flat (item_in all item) m st next ≡ with_value flat (item_in all item) m st (λ value. next (rows.Val value))
local_result all (HeldVal val) e m st next = cc
local_result all (HeldVar (Whole (Roots.Local place))) e m st next = refl
local_result all (HeldVar (Whole (Roots.Global place))) e m st next = cc
local_result all (HeldVar (Whole (Roots.Static place))) e m st next = cc
local_result all (HeldVar (Whole (Roots.Element list number))) e m st next = cc
local_result all (HeldVar (Whole (Roots.Field rec place))) e m st next = cc
local_result all (HeldVar (Whole (Roots.Key table key))) e m st next = cc
local_result all (HeldVar (Whole (Roots.Keyword word))) e m st next = cc
local_result all (HeldVar (Part (Roots.Local place) from len)) e m st next = refl
local_result all (HeldVar (Part (Roots.Global place) from len)) e m st next = cc
local_result all (HeldVar (Part (Roots.Static place) from len)) e m st next = cc
local_result all (HeldVar (Part (Roots.Element list number) from len)) e m st next = cc
local_result all (HeldVar (Part (Roots.Field rec place) from len)) e m st next = cc
local_result all (HeldVar (Part (Roots.Key table key) from len)) e m st next = cc
local_result all (HeldVar (Part (Roots.Keyword word) from len)) e m st next = cc

pub result_value : (w : World) (m : FlatStack) (item : Item) (val : Val) → is_local_item item ≡ true
    → ((st : Store Frames) → st.world ≡ world_of w
    → FindsValue (extent_of w.heap) (item_in (extent_of w.heap) item) (here flat (stack_in (extent_of w.heap) m) st) (Ok val)) → (st : Store Frames)
    (next : rows.Item → State Frames Frames) → st.world ≡ world_of w
    → with_result flat (item_in (extent_of w.heap) item) (stack_in (extent_of w.heap) m) st next ≡ next (item_in (extent_of w.heap) (HeldVal val))
result_value w m item val e h st next same =
    local_result (extent_of w.heap) item e (stack_in (extent_of w.heap) m) st next
    ∙ value_goes (extent_of w.heap) (item_in (extent_of w.heap) item) (stack_in (extent_of w.heap) m) st val (λ value. next (rows.Val value)) (h st same)

pub result_err : (result : Result Item Stop) (w : World) (m : FlatStack) (item : Item) (stop : Stop) → IsErrAnd result (λ s. s ≡ stop)
    → is_local_item item ≡ true
    → ((st : Store Frames) → st.world ≡ world_of w
    → FindsValue (extent_of w.heap) (item_in (extent_of w.heap) item) (here flat (stack_in (extent_of w.heap) m) st) (Err stop)) → (st : Store Frames)
    (next : rows.Item → State Frames Frames) → st.world ≡ world_of w
    → MatchResult result (λ x. with_result flat (item_in (extent_of w.heap) item) (stack_in (extent_of w.heap) m) st next ≡ next (item_in (extent_of w.heap) x))
    (λ s. HaltsWith (with_result flat (item_in (extent_of w.heap) item) (stack_in (extent_of w.heap) m) st next) st w
    (stack_in (extent_of w.heap) m) (halt_of s))
result_err (Ok x) w m item stop r e h st next same = absurd r
result_err (Err s) w m item stop r e h st next same =
    let all : Extent = extent_of w.heap in
    subst (λ (x : Stop). HaltsWith (with_result flat (item_in all item) (stack_in all m) st next) st w (stack_in all m) (halt_of x)) (sym r)
    (subst (λ (x : State Frames Frames). HaltsWith x st w (stack_in all m) (halt_of stop)) (sym (local_result all item e (stack_in all m) st next))
    (value_halts w (item_in all item) (stack_in all m) st stop (λ value. next (rows.Val value)) same (h st same)))

-- Scans that are left

-- the pair of a world is the present one
pub present_pair : (w : World) (st : Store Frames) → st.world ≡ world_of w → pair_now st ≡ pair_in (extent_of w.heap) w.pair
present_pair w st e =
    let F : StoreWorld → calls.Pair = λ x. record { subject = x.subject; position = x.position } in
    ap F e

left_by : (all : Extent) (m : FlatStack) (pair : HeldPair) (scan : Option ℕ) (st : Store Frames)
    → swapped_back (option_map (swapped_read (reading_of all)) (held.swap_at pair m scan)) st ≡ scans_left (maybe_pair_in all (held.pair_at m.cells scan)) st
left_by all m pair None st = refl
left_by all m pair (Some h) st = by_cell (cell_at h m.cells)
  where
    by_cell : (cell : Option Cell)
        → swapped_back (option_map (swapped_read (reading_of all)) (held.with_pair pair h m cell)) st ≡ scans_left (maybe_pair_in all (held.pair_of cell)) st
    by_cell (Some (Suspension (Scan old) r place)) = refl
    by_cell (Some (Suspension Alt r place)) = refl
    by_cell (Some (Suspension (Op residual) r place)) = refl
    by_cell (Some (Suspension Escan r place)) = refl
    by_cell (Some (Suspension Proc r place)) = refl
    by_cell None = refl
    by_cell (Some (Base proc locals)) = refl
    by_cell (Some (Call proc locals level r place)) = refl
    by_cell (Some (Local value)) = refl
    by_cell (Some (Mark label changed r)) = refl
    by_cell (Some (Limit count r)) = refl
    by_cell (Some (Operand item)) = refl

pub all_left_is : (w v : World) (m : FlatStack) (pair : Option HeldPair) → pair ≡ held.pair_at m.cells (held.oldest None m)
    → world_of v ≡ maybe_paired (maybe_pair_in (extent_of w.heap) pair) (world_of w) → (st : Store Frames)
    → st.world ≡ world_of w → all_left flat (stack_in (extent_of w.heap) m) st ≡ with_world (world_of v) st
all_left_is w v m pair e back st same =
    let all : Extent = extent_of w.heap in
    ap (λ (p : calls.Pair). swapped_back (flat.swap_oldest p (stack_in all m)) st) (present_pair w st same)
    ∙ ap (λ (o : Option (calls.Pair × Frames)). swapped_back o st) (swap_oldest_read (reading_of all) w.pair m)
    ∙ left_by all m w.pair (held.oldest None m) st
    ∙ ap (λ (p : Option HeldPair). scans_left (maybe_pair_in all p) st) (sym e)
    ∙ left_world w v pair st same back

-- The pairs are exchanged, where a scan is open.

pub swapped_on : (w v : World) (m n : FlatStack) → held.swap_by true w.pair m ≡ Some (v.pair, n)
    → world_of v ≡ world_with_pair (pair_in (extent_of w.heap) v.pair) (world_of w) → v.heap ≡ w.heap → (st : Store Frames)
    (next : Frames → Store Frames → State Frames Frames) → st.world ≡ world_of w
    → maybe_exchanged (flat.swap_oldest (pair_now st) (stack_in (extent_of w.heap) m)) (stack_in (extent_of w.heap) m) st next
    ≡ next (stack_in (extent_of v.heap) n) (with_world (world_of v) st)
swapped_on w v m n e back heap st next same =
    let all : Extent = extent_of w.heap in
    let F : HeldHeap → State Frames Frames = λ x. next (stack_in (extent_of x) n) (with_world (world_of v) st) in
    ap (λ (p : calls.Pair). maybe_exchanged (flat.swap_oldest p (stack_in all m)) (stack_in all m) st next) (present_pair w st same)
    ∙ ap (λ (o : Option (calls.Pair × Frames)). maybe_exchanged o (stack_in all m) st next)
    (swap_oldest_read (reading_of all) w.pair m ∙ ap (option_map (swapped_read (reading_of all))) e)
    ∙ ap (λ (x : StoreWorld). next (stack_in all n) (with_world (world_with_pair (pair_in all v.pair) x) st)) same
    ∙ ap (λ (x : StoreWorld). next (stack_in all n) (with_world x st)) (sym back)
    ∙ ap F (sym heap)

no_scan : (m : FlatStack) (pair : HeldPair) → m.registers.scan ≡ None → held.swap_oldest pair m ≡ None
no_scan m pair e = by_scan m.registers.scan e
  where
    by_scan : (scan : Option ℕ) → scan ≡ None
        → held.swap_at pair m (elim (held.is_same scan None) as (λ x. Option ℕ) [ true ↦ None | false ↦ held.oldest_from (length m.cells) m.cells None scan ])
        ≡ None
    by_scan None q = refl
    by_scan (Some h) q = cc

-- where no scan is open nothing is exchanged
pub swaps_none : (w : World) (m : FlatStack) → is_some m.registers.scan ≡ false → (st : Store Frames) (next : Frames → Store Frames → State Frames Frames)
    → st.world ≡ world_of w
    → maybe_exchanged (flat.swap_oldest (pair_now st) (stack_in (extent_of w.heap) m)) (stack_in (extent_of w.heap) m) st next
    ≡ next (stack_in (extent_of w.heap) m) (with_world (world_of w) st)
swaps_none w m none st next same =
    let all : Extent = extent_of w.heap in
    ap (λ (p : calls.Pair). maybe_exchanged (flat.swap_oldest p (stack_in all m)) (stack_in all m) st next) (present_pair w st same)
    ∙ ap (λ (o : Option (calls.Pair × Frames)). maybe_exchanged o (stack_in all m) st next)
    (swap_oldest_read (reading_of all) w.pair m ∙ ap (option_map (swapped_read (reading_of all))) (no_scan m w.pair (no_some m.registers.scan none)))
    ∙ ap (next (stack_in all m)) (same_world w st same)
  where
    no_some : (o : Option ℕ) → is_some o ≡ false → o ≡ None
    no_some None e = refl
    no_some (Some h) e = cc

-- Leaving

drop_get : (s : List Cell) (i : ℕ) (x : Cell) → slice_get s i ≡ Some x → drop i s ≡ x ∷ drop (suc i) s
drop_get [] i x e = cc
drop_get (y ∷ s) zero x e = ap (λ (w : Cell). w ∷ s) (same_Some _ _ e)
drop_get (y ∷ s) (suc i) x e = drop_get s i x e

base_cell : (cell : Option Cell) → held.is_base_cell cell ≡ true → (proc : ℕ) × ((locals : ℕ) × (cell ≡ Some (Base proc locals)))
base_cell (Some (Base proc locals)) e = (proc, (locals, refl))
base_cell None e = cc
base_cell (Some (Call proc locals level r place)) e = cc
base_cell (Some (Local value)) e = cc
base_cell (Some (Mark label changed r)) e = cc
base_cell (Some (Limit count r)) e = cc
base_cell (Some (Suspension why r place)) e = cc
base_cell (Some (Operand item)) e = cc

pub leave_none : (m : FlatStack) → held.is_base m ≡ true → held.leave m ≡ None
leave_none m e =
    let b = base_cell (held.frame m) e in
    ap held.leave_from (drop_get m.cells (length m.cells - m.registers.base) (Base b.0 b.1.0) b.1.1)

pub suspend_none : (m : FlatStack) → held.is_base m ≡ true → held.suspend_proc m ≡ None
suspend_none m e =
    let b = base_cell (held.frame m) e in
    ap (held.suspend_proc_from m) (drop_get m.cells (length m.cells - m.registers.base) (Base b.0 b.1.0) b.1.1)

pub leaves_none : (all : Extent) (m : FlatStack) → held.is_base m ≡ true → (next : Frames → Store Frames → State Frames Frames) (st : Store Frames)
    → return_to (flat.leave (stack_in all m)) next st ≡ finish_run st
leaves_none all m e next st =
    ap (λ (o : Option Frames). return_to o next st) (leave_read (reading_of all) m ∙ ap (option_map (stack_in all)) (leave_none m e))

pub leaves_some : (all : Extent) (m n : FlatStack) → held.leave m ≡ Some n → (next : Frames → Store Frames → State Frames Frames) (st : Store Frames)
    → return_to (flat.leave (stack_in all m)) next st ≡ next (stack_in all n) st
leaves_some all m n e next st =
    ap (λ (o : Option Frames). return_to o next st) (leave_read (reading_of all) m ∙ ap (option_map (stack_in all)) e)

pub fails_over : (w v : World) (m : FlatStack) (pair : Option HeldPair) → pair ≡ held.pair_at m.cells (held.oldest None m)
    → world_of v ≡ maybe_paired (maybe_pair_in (extent_of w.heap) pair) (world_of w)
    → held.is_base m ≡ true → (st : Store Frames) → st.world ≡ world_of w
    → proc_fails flat (stack_in (extent_of w.heap) m) st ≡ finish_run (with_world (world_of v) st)
fails_over w v m pair e back b st same =
    let all : Extent = extent_of w.heap in
    ap (λ (x : Store Frames). return_to (flat.leave (stack_in all m)) failing x) (all_left_is w v m pair e back st same)
    ∙ leaves_none all m b failing (with_world (world_of v) st)

pub fails_on : (w v : World) (m n : FlatStack) (pair : Option HeldPair) → pair ≡ held.pair_at m.cells (held.oldest None m)
    → world_of v ≡ maybe_paired (maybe_pair_in (extent_of w.heap) pair) (world_of w) → v.heap ≡ w.heap
    → held.leave m ≡ Some n → (st : Store Frames) → st.world ≡ world_of w → FailsWith (proc_fails flat (stack_in (extent_of w.heap) m) st) st v n
fails_on w v m n pair e back heap b st same =
    let all : Extent = extent_of w.heap in
    let F : HeldHeap → State Frames Frames = λ x. failing (stack_in (extent_of x) n) (with_world (world_of v) st) in
    ap (λ (x : Store Frames). return_to (flat.leave (stack_in all m)) failing x) (all_left_is w v m pair e back st same)
    ∙ leaves_some all m n b failing (with_world (world_of v) st)
    ∙ ap F (sym heap)

-- Returning

-- a result of an operand, for all that follows
abbrev pub Finds : World → FlatStack → Item → Item → Type 0
Finds w m item x = (st : Store Frames) (next : rows.Item → State Frames Frames) → st.world ≡ world_of w
    → with_result flat (item_in (extent_of w.heap) item) (stack_in (extent_of w.heap) m) st next ≡ next (item_in (extent_of w.heap) x)

abbrev pub Stops : World → FlatStack → Item → Stop → Type 0
Stops w m item stop = (st : Store Frames) (next : rows.Item → State Frames Frames) → st.world ≡ world_of w
    → HaltsWith (with_result flat (item_in (extent_of w.heap) item) (stack_in (extent_of w.heap) m) st next) st w (stack_in (extent_of w.heap) m)
    (halt_of stop)

pret_goes : (w v : World) (m k l : FlatStack) (item x : Item) (pair : Option HeldPair) → held.pop m ≡ Some (item, k) → Finds w k item x → l ≡ k
    → pair ≡ held.pair_at l.cells (held.oldest None l)
    → world_of v ≡ maybe_paired (maybe_pair_in (extent_of w.heap) pair) (world_of w) → (tables : Tables) (st : Store Frames) → st.world ≡ world_of w
    → instruction_state (extent_of w.heap) tables Instrs.Pret m st
    ≡ return_to (flat.leave (stack_in (extent_of w.heap) l)) (push_item flat (item_in (extent_of w.heap) x)) (with_world (world_of v) st)
pret_goes w v m k l item x pair e h p q back tables st same =
    let all : Extent = extent_of w.heap in
    popped_runs m k item e all (λ y n. with_result flat y n st (λ result. return_to (flat.leave n) (push_item flat result) (all_left flat n st)))
    ∙ h st (λ result. return_to (flat.leave (stack_in all k)) (push_item flat result) (all_left flat (stack_in all k) st)) same
    ∙ ap (λ (n : FlatStack). return_to (flat.leave (stack_in all n)) (push_item flat (item_in all x)) (all_left flat (stack_in all n) st)) (sym p)
    ∙ ap (return_to (flat.leave (stack_in all l)) (push_item flat (item_in all x))) (all_left_is w v l pair q back st same)

pub pret_over : (w v : World) (m k l : FlatStack) (item x : Item) (pair : Option HeldPair) → held.pop m ≡ Some (item, k) → Finds w k item x → l ≡ k
    → pair ≡ held.pair_at l.cells (held.oldest None l)
    → world_of v ≡ maybe_paired (maybe_pair_in (extent_of w.heap) pair) (world_of w) → held.is_base l ≡ true → (tables : Tables) (st : Store Frames)
    → st.world ≡ world_of w
    → instruction_state (extent_of w.heap) tables Instrs.Pret m st ≡ finish_run (with_world (world_of v) st)
pret_over w v m k l item x pair e h p q back b tables st same =
    pret_goes w v m k l item x pair e h p q back tables st same
    ∙ leaves_none (extent_of w.heap) l b (push_item flat (item_in (extent_of w.heap) x)) (with_world (world_of v) st)

pub pret_runs : (w v : World) (m k l o n : FlatStack) (item x : Item) (pair : Option HeldPair) → held.pop m ≡ Some (item, k) → Finds w k item x → l ≡ k
    → pair ≡ held.pair_at l.cells (held.oldest None l)
    → world_of v ≡ maybe_paired (maybe_pair_in (extent_of w.heap) pair) (world_of w) → v.heap ≡ w.heap → held.leave l ≡ Some o → n ≡ held.push x o
    → (tables : Tables) (st : Store Frames) → st.world ≡ world_of w
    → RunsWith (instruction_state (extent_of w.heap) tables Instrs.Pret m st) st v n
pret_runs w v m k l o n item x pair e h p q back heap b r tables st same =
    let all : Extent = extent_of w.heap in
    let F : HeldHeap → State Frames Frames = λ y. running (stack_in (extent_of y) n) (with_world (world_of v) st) in
    pret_goes w v m k l item x pair e h p q back tables st same
    ∙ leaves_some all l o b (push_item flat (item_in all x)) (with_world (world_of v) st)
    ∙ ap (λ (y : FlatStack). running (stack_in all y) (with_world (world_of v) st)) (sym r)
    ∙ ap F (sym heap)

pub pret_err : (result : Result RunState Halt) (w : World) (m k n : FlatStack) (item : Item) (stop : Stop) → IsErrAnd result (λ h. h ≡ halt_of stop)
    → held.pop m ≡ Some (item, k) → n ≡ k → Stops w k item stop → (tables : Tables)
    (st : Store Frames) → st.world ≡ world_of w
    → MatchResult result (StandsWith (instruction_state (extent_of w.heap) tables Instrs.Pret m st) st w n)
    (HaltsWith (instruction_state (extent_of w.heap) tables Instrs.Pret m st) st w (stack_in (extent_of w.heap) n))
pret_err result w m k n item stop err e p h tables st same =
    let all : Extent = extent_of w.heap in
    let next : rows.Item
    → State Frames Frames = λ result. return_to (flat.leave (stack_in all k)) (push_item flat result) (all_left flat (stack_in all k) st) in
    match_halt result (halt_of stop) (StandsWith (instruction_state all tables Instrs.Pret m st) st w n)
    (HaltsWith (instruction_state all tables Instrs.Pret m st) st w (stack_in all n)) err
    (subst (λ (x : FlatStack). HaltsWith (instruction_state all tables Instrs.Pret m st) st w (stack_in all x) (halt_of stop)) (sym p)
    (subst (λ (s : State Frames Frames). HaltsWith s st w (stack_in all k) (halt_of stop)) (sym (popped_runs m k item e all
    (λ y n. with_result flat y n st (λ result. return_to (flat.leave n) (push_item flat result) (all_left flat n st))))) (h st next same)))

-- Suspending

abbrev pub Swaps : World → FlatStack → World → FlatStack → Type 0
Swaps w m v n = (st : Store Frames) (next : Frames → Store Frames → State Frames Frames) → st.world ≡ world_of w
    → maybe_exchanged (flat.swap_oldest (pair_now st) (stack_in (extent_of w.heap) m)) (stack_in (extent_of w.heap) m) st next
    ≡ next (stack_in (extent_of v.heap) n) (with_world (world_of v) st)

psusp_goes : (w v : World) (m k a l o : FlatStack) (item x : Item) → held.pop m ≡ Some (item, k) → a ≡ held.push item k → Finds w a item x → l ≡ a
    → Swaps w l v o → v.heap ≡ w.heap → (tables : Tables) (st : Store Frames)
    → st.world ≡ world_of w
    → instruction_state (extent_of w.heap) tables Instrs.Psusp m st
    ≡ return_to (flat.suspend_proc (stack_in (extent_of v.heap) o)) (push_item flat (item_in (extent_of v.heap) x)) (with_world (world_of v) st)
psusp_goes w v m k a l o item x e b h p s heap tables st same =
    let all : Extent = extent_of w.heap in
    let back : a ≡ m = b ∙ pushed_back m k item e in
    let next : rows.Item → Frames → Store Frames → State Frames Frames = λ result n. return_to (flat.suspend_proc n) (push_item flat result) in
    let after : rows.Item
    → State Frames Frames = λ result. maybe_exchanged (flat.swap_oldest (pair_now st) (stack_in all m)) (stack_in all m) st (next result) in
    let found : Finds w m item x = subst (λ (y : FlatStack). Finds w y item x) back h in
    let F : HeldHeap → State Frames Frames = λ y. return_to (flat.suspend_proc (stack_in (extent_of v.heap) o)) (push_item flat (item_in (extent_of y) x))
    (with_world (world_of v) st) in
    popped_runs m k item e all (λ y n. with_result flat y (stack_in all m) st after)
    ∙ found st after same
    ∙ ap (λ (n : FlatStack). maybe_exchanged (flat.swap_oldest (pair_now st) (stack_in all n)) (stack_in all n) st (next (item_in all x))) (sym (p ∙ back))
    ∙ s st (next (item_in all x)) same
    ∙ ap F (sym heap)

pub psusp_over : (w v : World) (m k a l o : FlatStack) (item x : Item) → held.pop m ≡ Some (item, k) → a ≡ held.push item k → Finds w a item x → l ≡ a
    → Swaps w l v o → v.heap ≡ w.heap → held.is_base o ≡ true → (tables : Tables) (st : Store Frames)
    → st.world ≡ world_of w → instruction_state (extent_of w.heap) tables Instrs.Psusp m st ≡ finish_run (with_world (world_of v) st)
psusp_over w v m k a l o item x e c h p s heap b tables st same =
    psusp_goes w v m k a l o item x e c h p s heap tables st same
    ∙ ap (λ (y : Option Frames). return_to y (push_item flat (item_in (extent_of v.heap) x)) (with_world (world_of v) st))
    (suspend_proc_read (reading_of (extent_of v.heap)) o ∙ ap (option_map (stack_in (extent_of v.heap))) (suspend_none o b))

given_split : (item : Item) (left : Option FlatStack) (n : FlatStack) → held.given_to (Some item) left ≡ Some n
    → (k : FlatStack) × ((left ≡ Some k) × (held.push item k ≡ n))
given_split item (Some k) n e = (k, (refl, same_Some _ _ e))
given_split item None n e = cc

pub psusp_runs : (w v : World) (m k a l o n : FlatStack) (item x : Item) → held.pop m ≡ Some (item, k) → a ≡ held.push item k → Finds w a item x → l ≡ a
    → Swaps w l v o → v.heap ≡ w.heap → held.given_to (Some x) (held.suspend_proc o) ≡ Some n
    → (tables : Tables) (st : Store Frames) → st.world ≡ world_of w → RunsWith (instruction_state (extent_of w.heap) tables Instrs.Psusp m st) st v n
psusp_runs w v m k a l o n item x e c h p s heap b tables st same =
    let all : Extent = extent_of v.heap in
    let split = given_split x (held.suspend_proc o) n b in
    psusp_goes w v m k a l o item x e c h p s heap tables st same
    ∙ ap (λ (y : Option Frames). return_to y (push_item flat (item_in all x)) (with_world (world_of v) st))
    (suspend_proc_read (reading_of all) o ∙ ap (option_map (stack_in all)) split.1.0)
    ∙ ap (λ (y : FlatStack). running (stack_in all y) (with_world (world_of v) st)) split.1.1

pub psusp_err : (result : Result RunState Halt) (w : World) (m k a n : FlatStack) (item : Item) (stop : Stop) → IsErrAnd result (λ h. h ≡ halt_of stop)
    → held.pop m ≡ Some (item, k) → a ≡ held.push item k → n ≡ a → Stops w a item stop
    → (tables : Tables) (st : Store Frames) → st.world ≡ world_of w
    → MatchResult result (StandsWith (instruction_state (extent_of w.heap) tables Instrs.Psusp m st) st w n)
    (HaltsWith (instruction_state (extent_of w.heap) tables Instrs.Psusp m st) st w (stack_in (extent_of w.heap) n))
psusp_err result w m k a n item stop err e b p h tables st same =
    let all : Extent = extent_of w.heap in
    let back : a ≡ m = b ∙ pushed_back m k item e in
    let next : rows.Item → Frames → Store Frames → State Frames Frames = λ result n. return_to (flat.suspend_proc n) (push_item flat result) in
    let after : rows.Item
    → State Frames Frames = λ result. maybe_exchanged (flat.swap_oldest (pair_now st) (stack_in all m)) (stack_in all m) st (next result) in
    let found : Stops w m item stop = subst (λ (y : FlatStack). Stops w y item stop) back h in
    match_halt result (halt_of stop) (StandsWith (instruction_state all tables Instrs.Psusp m st) st w n)
    (HaltsWith (instruction_state all tables Instrs.Psusp m st) st w (stack_in all n)) err
    (subst (λ (x : FlatStack). HaltsWith (instruction_state all tables Instrs.Psusp m st) st w (stack_in all x) (halt_of stop)) (sym (p ∙ back))
    (subst (λ (s : State Frames Frames). HaltsWith s st w (stack_in all m) (halt_of stop))
    (sym (popped_runs m k item e all (λ y n. with_result flat y (stack_in all m) st after))) (found st after same)))

-- an item that is put where the procedure is left or suspended
pub given_free : (t : Tables) (reach : Reach) (m n : FlatStack) (x : Item) → n ≡ held.push x m → IsLiveStack t reach m
    → ((c : ℕ) → IsLiveItem (with_locals c reach) x) → IsLiveStack t reach n
given_free t reach m n x e k l = subst (λ (y : FlatStack). IsLiveStack t reach y) (sym e) (live_push t reach m x k (l (own_locals m)))

pub suspended_free : (t : Tables) (reach : Reach) (m n : FlatStack) (x : Item) → held.given_to (Some x) (held.suspend_proc m) ≡ Some n → IsLiveStack t reach m
    → ((c : ℕ) → IsLiveItem (with_locals c reach) x) → IsLiveStack t reach n
suspended_free t reach m n x e k l =
    let split = given_split x (held.suspend_proc m) n e in
    given_free t reach split.0 n x (sym split.1.1) (live_suspend_proc t reach m split.0 split.1.0 k) l
