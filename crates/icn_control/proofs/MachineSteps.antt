-- What a machine stands for once its stack, its pair or its turns changed.
use Rattle.std.proofs.Common.{◌≡◌, ℕ, Bool, List, Option, Some, None, sym, ap, ◌∙◌, subst}
use Rattle.icn_value.specs.declared.item.Pair.{Pair as HeldPair}
use Rattle.icn_value.specs.Store.{Outside, World as StoreWorld, Names}
use Rattle.icn_heap.specs.declared.heap.Heap.{Heap as HeldHeap}
use Rattle.icn_heap.specs.Heaps.{extent_of}
use Rattle.icn_vars.specs.declared.world.World.{World}
use Rattle.icn_vars.specs.Worlds.{Reach, world_of}
use Rattle.icn_frames.specs.Stacks.{FlatStack}
use Rattle.icn_coexp.specs.Transfers.{CoexpTable}
use Rattle.icn_code.specs.declared.instr.Instr.{Instr}
use Rattle.icn_code.specs.Codes.{Tables}
use Rattle.icn_run.specs.Stacks.{Frames, flat}
use Rattle.icn_run.specs.Step.{State, Store, running, instruction, scans_left, all_names}
use Rattle.icn_control.specs.LiveStacks.{IsLiveStack}
use Rattle.icn_control.specs.StackViews.{stack_in, maybe_pair_in, GoesOnLeaving}
use Rattle.icn_control.specs.Pairs.{maybe_paired}
use Rattle.icn_control.specs.Machines.{store_in, running_of, IsLiveRunning, AreLiveStacks}

-- another stack runs, which is of the world
pub stacks_on : (tables : Tables) (reach : Reach) (table : CoexpTable) (m n : FlatStack) → table.running ≡ Some m
    → (IsLiveStack tables reach m → IsLiveStack tables reach n) → AreLiveStacks tables reach table
    → AreLiveStacks tables reach (record table { running = Some n })
stacks_on tables reach table m n e f k = record { runs = f (subst (λ (w : Option FlatStack). IsLiveRunning tables reach w) e k.runs); coexps = k.coexps }

-- a pair came back
pub restored : (names : Names) (outside : Outside) (w v : World) (turns : ℕ) (begun : List Bool) (table : CoexpTable) (pair : Option HeldPair)
    → world_of v ≡ maybe_paired (maybe_pair_in (extent_of w.heap) pair) (world_of w)
    → scans_left (maybe_pair_in (extent_of w.heap) pair) (store_in names outside (world_of w) turns begun (extent_of w.heap) table)
    ≡ store_in names outside (world_of v) turns begun (extent_of w.heap) table
restored names outside w v turns begun table None e = ap (λ (x : StoreWorld). store_in names outside x turns begun (extent_of w.heap) table) (sym e)
restored names outside w v turns begun table (Some pair) e = ap (λ (x : StoreWorld). store_in names outside x turns begun (extent_of w.heap) table) (sym e)

pub leaves_on : (instr : Instr) (tables : Tables) (outside : Outside) (w v : World) (turns : ℕ) (begun : List Bool) (table : CoexpTable) (m n : FlatStack)
    (pair : Option HeldPair) → table.running ≡ Some m → GoesOnLeaving instr m pair n
    → v.heap ≡ w.heap → world_of v ≡ maybe_paired (maybe_pair_in (extent_of w.heap) pair) (world_of w)
    → instruction flat tables instr (stack_in (extent_of w.heap) (running_of table.running))
    (store_in (all_names tables) outside (world_of w) turns begun (extent_of w.heap) table)
    ≡ running (stack_in (extent_of v.heap) n)
    (store_in (all_names tables) outside (world_of v) turns begun (extent_of v.heap) (record table { running = Some n }))
leaves_on instr tables outside w v turns begun table m n pair e h same back =
    let st : Store Frames = store_in (all_names tables) outside (world_of w) turns begun (extent_of w.heap) table in
    let F : HeldHeap → State Frames Frames = λ x.
    running (stack_in (extent_of x) n) (store_in (all_names tables) outside (world_of v) turns begun (extent_of x) (record table { running = Some n })) in
    ap (λ (o : Option FlatStack). instruction flat tables instr (stack_in (extent_of w.heap) (running_of o)) st) e
    ∙ h (extent_of w.heap) tables st
    ∙ ap (running (stack_in (extent_of w.heap) n)) (restored (all_names tables) outside w v turns begun table pair back)
    ∙ ap F (sym same)
