-- Steps of failing.
use Rattle.std.proofs.Common.{◌≡◌, ◌≢◌, ℕ, Bool, true, false, Option, Some, None, is_none, IsSome, refl, sym, ap, ◌∙◌, subst}
use Rattle.std.specs.Option.{option_map, option_and_then}
use Rattle.icn_frames.specs.Heights.{cut}
use Rattle.icn_value.specs.declared.item.Pair.{Pair as HeldPair}
use Rattle.icn_value.specs.declared.residual.Residual.{Residual as HeldResidual}
use Rattle.icn_value.specs.Store.{World as StoreWorld}
use Rattle.icn_heap.specs.declared.heap.Heap.{Heap as HeldHeap}
use Rattle.icn_heap.specs.Extents.{Extent}
use Rattle.icn_heap.specs.Heaps.{extent_of}
use Rattle.icn_vars.specs.declared.world.World.{World}
use Rattle.icn_vars.specs.Worlds.{world_of}
use Rattle.icn_vars.specs.Outcomes.{residual_in}
use Rattle.icn_frames.specs.declared.layout.Why.{Why}
use Rattle.icn_frames.specs.declared.layout.Why.TheVariants.{Alt, Op, Scan, Escan, Proc}
use Rattle.icn_frames.specs.Newest.{IsHeldBy}
use Rattle.icn_frames.specs.Stacks as held
use Rattle.icn_frames.specs.Stacks.{FlatStack}
use Rattle.law_frames.specs.ReadStacks.{why_read, resumed_read, swapped_read}
use Rattle.law_frames.specs.Agreement.{drop_by}
use Rattle.law_frames.proofs.ScansRead.{resume_read, swap_newest_read}
use Rattle.law_frames.proofs.DropsRead.{drop_read, drop_none_read}
use Rattle.icn_code.specs.Codes.{Tables}
use Rattle.icn_run.specs.Calls as calls
use Rattle.icn_run.specs.Stacks.{Frames, flat, swap_at}
use Rattle.icn_run.specs.Step.{State, Store, running, failing, stuck, with_world, pair_now, with_exchange, turn, fails, resume_by, resumed_or_dropped, mark_dropped}
use Rattle.icn_control.specs.declared.failing.AfterFailure.{AfterFailure}
use Rattle.icn_control.specs.declared.failing.AfterFailure.TheVariants as AfterFailures
use Rattle.icn_control.specs.StackViews.{stack_in, reading_of, pair_in}
use Rattle.icn_control.specs.Pairs.{world_with_pair}
use Rattle.icn_control.specs.FailingStacks.{IsDue, FallsTo, DropsTo}
use Rattle.icn_control.proofs.StackAndWorldSteps.{same_world}
use Rattle.icn_control.proofs.ReturnSteps.{present_pair}

-- The mark is dropped.

none_is : {A : Type 0} (o : Option A) → is_none o ≡ true → o ≡ None
none_is None e = refl
none_is (Some x) e = cc

pub drops_leaving : (m : FlatStack) → is_none (held.unmark m) ≡ true → DropsTo m m AfterFailures.Leaving
drops_leaving m e all tables st = ap (mark_dropped flat tables (stack_in all m) st) (drop_none_read (reading_of all) m (none_is (held.unmark m) e))

dropped : (m n : FlatStack) (pair : Option HeldPair) (label : Option ℕ) (again : Bool) → held.unmark m ≡ Some (n, pair) → label ≡ held.label m
    → again ≡ held.is_relabelled m → (all : Extent) (tables : Tables) (st : Store Frames)
    → mark_dropped flat tables (stack_in all m) st (flat.drop_mark (stack_in all m))
    ≡ mark_dropped flat tables (stack_in all m) st (drop_by (reading_of all) label again n)
dropped m n pair label again e l a all tables st =
    ap (mark_dropped flat tables (stack_in all m) st) (drop_read (reading_of all) m n pair e)
    ∙ ap (λ (x : Option ℕ). mark_dropped flat tables (stack_in all m) st (drop_by (reading_of all) x (held.is_relabelled m) n)) (sym l)
    ∙ ap (λ (x : Bool). mark_dropped flat tables (stack_in all m) st (drop_by (reading_of all) label x n)) (sym a)

pub drops_failing : (m n : FlatStack) (pair : Option HeldPair) (label : Option ℕ) (again : Bool) → held.unmark m ≡ Some (n, pair) → label ≡ held.label m
    → again ≡ held.is_relabelled m → label ≡ None → DropsTo m n AfterFailures.Failing
drops_failing m n pair label again e l a z all tables st =
    dropped m n pair None again e (sym z ∙ l) a all tables st

pub drops_running : (m n k : FlatStack) (pair : Option HeldPair) (label : Option ℕ) (again : Bool) (place : ℕ) → held.unmark m ≡ Some (n, pair)
    → label ≡ held.label m → again ≡ held.is_relabelled m → label ≡ Some place → again ≡ false
    → k ≡ held.go place n → DropsTo m k AfterFailures.Running
drops_running m n k pair label again place e l a z b p all tables st =
    dropped m n pair (Some place) false e (sym z ∙ l) (sym b ∙ a) all tables st ∙ ap (λ (x : FlatStack). running (stack_in all x) st) (sym p)

pub drops_beginning : (m n k : FlatStack) (pair : Option HeldPair) (label : Option ℕ) (again : Bool) (place : ℕ) → held.unmark m ≡ Some (n, pair)
    → label ≡ held.label m → again ≡ held.is_relabelled m → label ≡ Some place → again ≡ true
    → k ≡ held.go place n → DropsTo m k AfterFailures.Beginning
drops_beginning m n k pair label again place e l a z b p all tables st =
    dropped m n pair (Some place) true e (sym z ∙ l) (sym b ∙ a) all tables st ∙ ap (λ (x : FlatStack). turn tables st (running (stack_in all x))) (sym p)

-- A suspension comes back.

pair_up : (why reason : Why) (n : FlatStack) → why ≡ reason → (let a : Why × FlatStack = (why, n) in let b : Why × FlatStack = (reason, n) in Some a ≡ Some b)
pair_up why reason n r =
    let F : Why → Option (Why × FlatStack) = λ x. Some (x, n) in
    ap F r

pub resumed_as : (m n : FlatStack) (why reason : Why) → held.resume m ≡ Some (why, n) → why ≡ reason → held.resume m ≡ Some (reason, n)
resumed_as m n why reason e r = e ∙ pair_up why reason n r

-- a suspension that is resumed without its reason
pub came_back : (m n : FlatStack) (why : Why) → IsHeldBy why m → ((reason : Why) (rest : FlatStack) → held.resume m ≡ Some (reason, rest) → n ≡ rest)
    → held.resume m ≡ Some (why, n)
came_back m n why by back =
    let F : FlatStack → Option (Why × FlatStack) = λ x. Some (why, x) in
    by.1 ∙ ap F (sym (back why by.0 by.1))

pub falls_by : (all : Extent) (m n : FlatStack) (why : Why) → held.resume m ≡ Some (why, n) → (tables : Tables) (st : Store Frames)
    → fails flat tables (stack_in all m) st ≡ resume_by flat tables (why_read (reading_of all) why) (stack_in all n) st
falls_by all m n why e tables st =
    ap (resumed_or_dropped flat tables (stack_in all m) st) (resume_read (reading_of all) m ∙ ap (option_map (resumed_read (reading_of all))) e)

none_newest : (m : FlatStack) → m.registers.newest ≡ None → held.resume m ≡ None
none_newest m e = ap (option_and_then (λ height. held.resume_from (cut height m.cells))) e

falls_none : (all : Extent) (m : FlatStack) → m.registers.newest ≡ None → (tables : Tables) (st : Store Frames)
    → fails flat tables (stack_in all m) st ≡ mark_dropped flat tables (stack_in all m) st (flat.drop_mark (stack_in all m))
falls_none all m e tables st =
    ap (resumed_or_dropped flat tables (stack_in all m) st) (resume_read (reading_of all) m ∙ ap (option_map (resumed_read (reading_of all))) (none_newest m e))

pub fall_alt : (w : World) (m n : FlatStack) → held.resume m ≡ Some (Alt, n) → (tables : Tables) (st : Store Frames) → st.world ≡ world_of w
    → FallsTo tables (fails flat tables (stack_in (extent_of w.heap) m) st) st w n AfterFailures.Failing
fall_alt w m n e tables st same = falls_by (extent_of w.heap) m n Alt e tables st ∙ ap (failing (stack_in (extent_of w.heap) n)) (same_world w st same)

pub fall_op : (w : World) (m n : FlatStack) (rest : HeldResidual) → held.resume m ≡ Some (Op rest, n) → (tables : Tables) (st : Store Frames)
    → st.world ≡ world_of w
    → FallsTo tables (fails flat tables (stack_in (extent_of w.heap) m) st) st w n (AfterFailures.Resuming rest)
fall_op w m n rest e tables st same =
    falls_by (extent_of w.heap) m n (Op rest) e tables st
    ∙ ap (resume_by flat tables (calls.Op (residual_in (extent_of w.heap) rest)) (stack_in (extent_of w.heap) n)) (same_world w st same)

pub fall_proc : (w : World) (m n : FlatStack) → held.resume m ≡ Some (Proc, n) → (tables : Tables) (st : Store Frames) → st.world ≡ world_of w
    → FallsTo tables (fails flat tables (stack_in (extent_of w.heap) m) st) st w n AfterFailures.Reentering
fall_proc w m n e tables st same =
    falls_by (extent_of w.heap) m n Proc e tables st ∙ ap (resume_by flat tables calls.Proc (stack_in (extent_of w.heap) n)) (same_world w st same)

pub fall_scan : (w v : World) (m n : FlatStack) (pair : HeldPair) → held.resume m ≡ Some (Scan pair, n)
    → world_of v ≡ world_with_pair (pair_in (extent_of w.heap) pair) (world_of w) → v.heap ≡ w.heap → (tables : Tables) (st : Store Frames)
    → st.world ≡ world_of w → FallsTo tables (fails flat tables (stack_in (extent_of w.heap) m) st) st v n AfterFailures.Failing
fall_scan w v m n pair e back heap tables st same =
    let all : Extent = extent_of w.heap in
    let F : HeldHeap → State Frames Frames = λ x. failing (stack_in (extent_of x) n) (with_world (world_of v) st) in
    falls_by all m n (Scan pair) e tables st
    ∙ ap (λ (x : StoreWorld). failing (stack_in all n) (with_world (world_with_pair (pair_in all pair) x) st)) same
    ∙ ap (λ (x : StoreWorld). failing (stack_in all n) (with_world x st)) (sym back)
    ∙ ap F (sym heap)

pub fall_escan : (w v : World) (m k n : FlatStack) → held.resume m ≡ Some (Escan, k) → held.swap_by false w.pair k ≡ Some (v.pair, n)
    → world_of v ≡ world_with_pair (pair_in (extent_of w.heap) v.pair) (world_of w) → v.heap ≡ w.heap
    → (tables : Tables) (st : Store Frames) → st.world ≡ world_of w
    → FallsTo tables (fails flat tables (stack_in (extent_of w.heap) m) st) st v n AfterFailures.Failing
fall_escan w v m k n e f back heap tables st same =
    let all : Extent = extent_of w.heap in
    let F : HeldHeap → State Frames Frames = λ x. failing (stack_in (extent_of x) n) (with_world (world_of v) st) in
    falls_by all m k Escan e tables st
    ∙ ap (λ (p : calls.Pair). with_exchange (flat.swap_newest p (stack_in all k)) failing st) (present_pair w st same)
    ∙ ap (λ (o : Option (calls.Pair × Frames)). with_exchange o failing st)
    (swap_newest_read (reading_of all) w.pair k ∙ ap (option_map (swapped_read (reading_of all))) f)
    ∙ ap (λ (x : StoreWorld). failing (stack_in all n) (with_world (world_with_pair (pair_in all v.pair) x) st)) same
    ∙ ap (λ (x : StoreWorld). failing (stack_in all n) (with_world x st)) (sym back)
    ∙ ap F (sym heap)

lacking : (all : Extent) (m k : FlatStack) → held.resume m ≡ Some (Escan, k) → (tables : Tables) (st : Store Frames) → k.registers.scan ≡ None
    → fails flat tables (stack_in all m) st ≡ stuck
lacking all m k e tables st q =
    falls_by all m k Escan e tables st
    ∙ ap (λ (scan : Option ℕ). with_exchange (swap_at (pair_now st) (stack_in all k) scan) failing st) q

-- a scan is open where one that was left is resumed, as else the step lacks it
pub escan_open : (all : Extent) (m k : FlatStack) → held.resume m ≡ Some (Escan, k) → (tables : Tables) (st : Store Frames)
    → fails flat tables (stack_in all m) st ≢ stuck → IsSome k.registers.scan
escan_open all m k e tables st d = by_scan k.registers.scan refl
  where
    by_scan : (scan : Option ℕ) → k.registers.scan ≡ scan → IsSome scan
    by_scan (Some h) q = refl
    by_scan None q = absurd (d (lacking all m k e tables st q))

pub fall_none : (w : World) (m n k : FlatStack) (due : AfterFailure) → m.registers.newest ≡ None → n ≡ m → DropsTo n k due
    → (tables : Tables) (st : Store Frames)
    → st.world ≡ world_of w
    → FallsTo tables (fails flat tables (stack_in (extent_of w.heap) m) st) st w k due
fall_none w m n k due e p h tables st same =
    let all : Extent = extent_of w.heap in
    let there : DropsTo m k due = subst (λ (x : FlatStack). DropsTo x k due) p h in
    let at : IsDue all tables (fails flat tables (stack_in all m) st) st k due
    = subst (λ (s : State Frames Frames). IsDue all tables s st k due) (sym (falls_none all m e tables st)) (there all tables st) in
    subst (λ (x : Store Frames). IsDue all tables (fails flat tables (stack_in all m) st) x k due) (same_world w st same) at
