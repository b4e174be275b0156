-- A step of failing on a machine.
use Rattle.std.proofs.Common.{◌≡◌, ℕ, Bool, List, Option, Some, refl, sym, subst}
use Rattle.icn_value.specs.Store.{Outside, Names}
use Rattle.icn_heap.specs.declared.heap.Heap.{Heap as HeldHeap}
use Rattle.icn_heap.specs.Heaps.{extent_of}
use Rattle.icn_vars.specs.declared.world.World.{World}
use Rattle.icn_vars.specs.Worlds.{world_of}
use Rattle.icn_frames.specs.Stacks.{FlatStack}
use Rattle.icn_coexp.specs.Transfers.{CoexpTable}
use Rattle.icn_code.specs.Codes.{Tables}
use Rattle.icn_run.specs.Stacks.{Frames, flat}
use Rattle.icn_run.specs.Step.{Store, fails}
use Rattle.icn_control.specs.declared.failing.AfterFailure.{AfterFailure}
use Rattle.icn_control.specs.FailingStacks.{IsDue, FallsTo}
use Rattle.icn_control.specs.Machines.{store_in, running_of}
use Rattle.icn_control.specs.StackViews.{stack_in}

pub due_at : (names : Names) (outside : Outside) (tables : Tables) (w v : World) (turns : ℕ) (begun : List Bool) (table : CoexpTable) (m n : FlatStack)
    (due : AfterFailure)
    → table.running ≡ Some m → v.heap ≡ w.heap
    → ((st : Store Frames) → st.world ≡ world_of w → FallsTo tables (fails flat tables (stack_in (extent_of w.heap) m) st) st v n due)
    → IsDue (extent_of v.heap) tables
    (fails flat tables (stack_in (extent_of w.heap) (running_of table.running)) (store_in names outside (world_of w) turns begun (extent_of w.heap) table))
    (store_in names outside (world_of v) turns begun (extent_of v.heap) (record table { running = Some n })) n due
due_at names outside tables w v turns begun table m n due e heap h =
    let st : Store Frames = store_in names outside (world_of w) turns begun (extent_of w.heap) table in
    let here = h st refl in
    let moved : IsDue (extent_of v.heap) tables (fails flat tables (stack_in (extent_of w.heap) m) st)
    (store_in names outside (world_of v) turns begun (extent_of v.heap) (record table { running = Some n })) n due
    = subst (λ (x : HeldHeap). IsDue (extent_of v.heap) tables (fails flat tables (stack_in (extent_of w.heap) m) st)
    (store_in names outside (world_of v) turns begun (extent_of x) (record table { running = Some n })) n due) (sym heap) here in
    subst (λ (o : Option FlatStack). IsDue (extent_of v.heap) tables (fails flat tables (stack_in (extent_of w.heap) (running_of o)) st)
    (store_in names outside (world_of v) turns begun (extent_of v.heap) (record table { running = Some n })) n due) (sym e) moved
