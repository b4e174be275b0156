-- A procedure that was suspended goes on.
use Rattle.std.proofs.Common.{◌≡◌, ℕ, suc, Bool, true, nat_lt, List, Option, Some, refl, sym, ap, ◌∙◌}
use Rattle.icn_value.specs.Store.{Outside, Names}
use Rattle.icn_heap.specs.declared.heap.Heap.{Heap as HeldHeap}
use Rattle.icn_heap.specs.Heaps.{extent_of, heap_of}
use Rattle.icn_vars.specs.declared.world.World.{World}
use Rattle.icn_vars.specs.Worlds.{world_of}
use Rattle.icn_frames.specs.Stacks.{FlatStack}
use Rattle.icn_coexp.specs.Transfers.{CoexpTable}
use Rattle.icn_code.specs.Codes.{Tables}
use Rattle.icn_run.specs.Calls.{Proc}
use Rattle.icn_run.specs.Stacks.{Frames, flat}
use Rattle.icn_run.specs.Step.{State, Store, running, turn_if, resume_by, maybe_exchanged, pair_now}
use Rattle.icn_control.specs.Machines.{store_in, running_of}
use Rattle.icn_control.specs.StackViews.{stack_in}
use Rattle.icn_control.proofs.ReturnSteps.{Swaps}

pub reenters : (names : Names) (outside : Outside) (tables : Tables) (w v : World) (turns : ℕ) (begun : List Bool) (table : CoexpTable) (m n : FlatStack)
    → table.running ≡ Some m → nat_lt turns (heap_of w.heap).bounds.turns ≡ true
    → Swaps w m v n → v.heap ≡ w.heap
    → resume_by flat tables Proc (stack_in (extent_of w.heap) (running_of table.running))
    (store_in names outside (world_of w) turns begun (extent_of w.heap) table)
    ≡ running (stack_in (extent_of v.heap) n) (store_in names outside (world_of v) (suc turns) begun (extent_of v.heap) (record table { running = Some n }))
reenters names outside tables w v turns begun table m n e b s heap =
    let st : Store Frames = store_in names outside (world_of w) turns begun (extent_of w.heap) table in
    let next : Store Frames = store_in names outside (world_of w) (suc turns) begun (extent_of w.heap) table in
    let event : Store Frames → State Frames Frames = λ x. maybe_exchanged (flat.swap_oldest (pair_now x) (stack_in (extent_of w.heap) m))
    (stack_in (extent_of w.heap) m) x (λ a y. running a y) in
    let F : HeldHeap → State Frames Frames = λ h.
    running (stack_in (extent_of v.heap) n) (store_in names outside (world_of v) (suc turns) begun (extent_of h) (record table { running = Some n })) in
    ap (λ (o : Option FlatStack). resume_by flat tables Proc (stack_in (extent_of w.heap) (running_of o)) st) e
    ∙ ap (λ (x : Bool). turn_if x st event) b
    ∙ s next (λ a y. running a y) refl
    ∙ ap F (sym heap)
