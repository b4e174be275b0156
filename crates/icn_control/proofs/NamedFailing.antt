-- What names only what has a name does so after a step of failing.
use Rattle.std.proofs.Common.{◌≡◌, ℕ, Bool, List, Option, Some, false, sym, ap, ◌∙◌, subst}
use Rattle.std.specs.Option.{option_map}
use Rattle.icn_value.specs.declared.item.Pair.{Pair as HeldPair}
use Rattle.icn_value.specs.declared.residual.Residual.{Residual as HeldResidual}
use Rattle.icn_value.specs.Store.{Names, Outside, World as StoreWorld}
use Rattle.icn_heap.specs.declared.heap.Heap.{Heap as HeldHeap}
use Rattle.icn_heap.specs.Extents.{Extent}
use Rattle.icn_heap.specs.Heaps.{extent_of}
use Rattle.icn_vars.specs.declared.world.World.{World}
use Rattle.icn_vars.specs.Worlds.{world_of}
use Rattle.icn_frames.specs.declared.layout.Why.{Why}
use Rattle.icn_frames.specs.declared.layout.Why.TheVariants.{Alt, Op, Scan, Escan, Proc}
use Rattle.icn_frames.specs.Stacks as held
use Rattle.icn_frames.specs.Stacks.{FlatStack}
use Rattle.law_frames.specs.ReadStacks.{why_read, resumed_read, swapped_read, unmarked_read}
use Rattle.law_frames.proofs.ScansRead.{resume_read, swap_newest_read, unmark_read}
use Rattle.icn_run.specs.Calls.{Pair}
use Rattle.law_names.specs.NamedSettings.{WorldNamed}
use Rattle.law_steps.specs.StateNames.{StackNamed, StoreNamed, WhyNamed}
use Rattle.icn_code.specs.Codes.{Tables}
use Rattle.icn_coexp.specs.Transfers.{CoexpTable}
use Rattle.icn_run.specs.Step.{all_names}
use Rattle.law_steps.proofs.CallsNamed as C
use Rattle.law_steps.proofs.CallsNamed.{IfThere}
use Rattle.icn_control.specs.declared.failing.AfterFailure.{AfterFailure}
use Rattle.icn_control.specs.declared.failing.AfterFailure.TheVariants as AfterFailures
use Rattle.icn_control.specs.StackViews.{stack_in, reading_of, pair_in}
use Rattle.icn_control.specs.Pairs.{world_with_pair}
use Rattle.icn_control.specs.FailingStacks.{DueNamed, FallsNamed}
use Rattle.icn_control.specs.Machines.{running_of, store_in}

-- The mark is dropped.

pub unmark_named : (names : Names) (all : Extent) (m n : FlatStack) (pair : Option HeldPair) → held.unmark m ≡ Some (n, pair)
    → StackNamed names (stack_in all m) → StackNamed names (stack_in all n)
unmark_named names all m n pair e k =
    let same = unmark_read (reading_of all) m ∙ ap (option_map (unmarked_read (reading_of all))) e in
    let left = subst (IfThere (C.Left names)) same (C.unmark names (stack_in all m) (C.stack_in names (stack_in all m) k)) in
    C.stack_out names (stack_in all n) left

pub unmark_falls : (all : Extent) (m n : FlatStack) (pair : Option HeldPair) → held.unmark m ≡ Some (n, pair) → FallsNamed all m n AfterFailures.Failing
unmark_falls all m n pair e names k = (unmark_named names all m n pair e k, tt)

gone_named : (names : Names) (all : Extent) (m n k : FlatStack) (pair : Option HeldPair) (place : ℕ) → held.unmark m ≡ Some (n, pair) → k ≡ held.go place n
    → StackNamed names (stack_in all m) → StackNamed names (stack_in all k)
gone_named names all m n k pair place e p h =
    subst (λ (x : FlatStack). StackNamed names (stack_in all x)) (sym p) (record { cells = (unmark_named names all m n pair e h).cells })

pub goes_falls : (all : Extent) (m n k : FlatStack) (pair : Option HeldPair) (place : ℕ) → held.unmark m ≡ Some (n, pair) → k ≡ held.go place n
    → FallsNamed all m k AfterFailures.Running
goes_falls all m n k pair place e p names h = (gone_named names all m n k pair place e p h, tt)

pub repeats_falls : (all : Extent) (m n k : FlatStack) (pair : Option HeldPair) (place : ℕ) → held.unmark m ≡ Some (n, pair) → k ≡ held.go place n
    → FallsNamed all m k AfterFailures.Beginning
repeats_falls all m n k pair place e p names h = (gone_named names all m n k pair place e p h, tt)

-- A suspension comes back.

resume_named : (names : Names) (all : Extent) (m n : FlatStack) (why : Why) → held.resume m ≡ Some (why, n)
    → StackNamed names (stack_in all m) → StackNamed names (stack_in all n) × WhyNamed names (why_read (reading_of all) why)
resume_named names all m n why e k =
    let same = resume_read (reading_of all) m ∙ ap (option_map (resumed_read (reading_of all))) e in
    let back = subst (IfThere (C.NamedAndStack names (WhyNamed names))) same (C.resume names (stack_in all m) (C.stack_in names (stack_in all m) k)) in
    (C.stack_out names (stack_in all n) back.1, back.0)

pub alt_falls : (all : Extent) (m n : FlatStack) → held.resume m ≡ Some (Alt, n) → FallsNamed all m n AfterFailures.Failing
alt_falls all m n e names k = ((resume_named names all m n Alt e k).0, tt)

pub op_falls : (all : Extent) (m n : FlatStack) (rest : HeldResidual) → held.resume m ≡ Some (Op rest, n) → FallsNamed all m n (AfterFailures.Resuming rest)
op_falls all m n rest e names k = resume_named names all m n (Op rest) e k

pub scan_falls : (all : Extent) (m n : FlatStack) (pair : HeldPair) → held.resume m ≡ Some (Scan pair, n) → FallsNamed all m n AfterFailures.Failing
scan_falls all m n pair e names k = ((resume_named names all m n (Scan pair) e k).0, tt)

pub proc_falls : (all : Extent) (m n : FlatStack) → held.resume m ≡ Some (Proc, n) → FallsNamed all m n AfterFailures.Reentering
proc_falls all m n e names k = ((resume_named names all m n Proc e k).0, tt)

pub escan_falls : (all : Extent) (m k n : FlatStack) (pair old : HeldPair) → held.resume m ≡ Some (Escan, k) → held.swap_by false pair k ≡ Some (old, n)
    → FallsNamed all m n AfterFailures.Failing
escan_falls all m k n pair old e f names h =
    let back = (resume_named names all m k Escan e h).0 in
    let same = swap_newest_read (reading_of all) pair k ∙ ap (option_map (swapped_read (reading_of all))) f in
    let swapped = subst (IfThere (C.Swapped names)) same (C.swap_newest names (pair_in all pair) (stack_in all k) (C.stack_in names (stack_in all k) back)) in
    (C.stack_out names (stack_in all n) swapped, tt)

-- where the mark was dropped of a stack that is the same
pub none_falls : (all : Extent) (m n k : FlatStack) (due : AfterFailure) → n ≡ m → FallsNamed all n k due → FallsNamed all m k due
none_falls all m n k due p h = subst (λ (x : FlatStack). FallsNamed all x k due) p h

-- Worlds

-- another pair in a world names nothing
pub pair_named : (names : Names) (w v : World) (pair : Pair) → world_of v ≡ world_with_pair pair (world_of w) → WorldNamed names (world_of w)
    → WorldNamed names (world_of v)
pair_named names w v pair e k =
    subst (λ (x : StoreWorld). WorldNamed names x) (sym e) (record { heap = k.heap; globals = k.globals; statics = k.statics; kept = k.kept })

-- Machines

-- on the stack that runs, in a world with the same heap
pub stack_falls : (w v : World) (running : Option FlatStack) (m n : FlatStack) (due : AfterFailure) → running ≡ Some m → v.heap ≡ w.heap
    → FallsNamed (extent_of w.heap) m n due → (names : Names)
    → StackNamed names (stack_in (extent_of w.heap) (running_of running))
    → StackNamed names (stack_in (extent_of v.heap) n) × DueNamed names (extent_of v.heap) due
stack_falls w v running m n due e heap h names k =
    let from : StackNamed names (stack_in (extent_of w.heap) m) =
    subst (λ (o : Option FlatStack). StackNamed names (stack_in (extent_of w.heap) (running_of o))) e k in
    subst (λ (x : HeldHeap). StackNamed names (stack_in (extent_of x) n) × DueNamed names (extent_of x) due) (sym heap) (h names from)

pub store_falls : (w v : World) (turns : ℕ) (begun : List Bool) (table : CoexpTable) (n : FlatStack) → v.heap ≡ w.heap
    → ((names : Names) → WorldNamed names (world_of w) → WorldNamed names (world_of v)) → (names : Names) (tables : Tables) (outside : Outside)
    → StoreNamed names (store_in (all_names tables) outside (world_of w) turns begun (extent_of w.heap) table)
    → StoreNamed names (store_in (all_names tables) outside (world_of v) turns begun (extent_of v.heap) (record table { running = Some n }))
store_falls w v turns begun table n heap h names tables outside k =
    let same : StoreNamed names (store_in (all_names tables) outside (world_of v) turns begun (extent_of w.heap) (record table { running = Some n }))
    = record { world = h names k.world; coexps = k.coexps } in
    subst (λ (x : HeldHeap). StoreNamed names (store_in (all_names tables) outside (world_of v) turns begun (extent_of x) (record table { running = Some n })))
    (sym heap) same
