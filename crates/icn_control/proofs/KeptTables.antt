-- A table over a heap that grew stands for the same, and stays of the world.
use Rattle.std.proofs.Common.{◌≡◌, ℕ, List, Option, Some, None, ap}
use Rattle.icn_value.specs.Store.{Names, Outside, World as StoreWorld}
use Rattle.icn_heap.proofs.GrowingHeaps.{live_kept}
use Rattle.icn_vars.specs.Worlds.{Reach, KeepsItems}
use Rattle.icn_frames.specs.Stacks.{FlatStack}
use Rattle.icn_coexp.specs.Transfers.{Coexp, CoexpTable}
use Rattle.icn_code.specs.Codes.{Tables}
use Rattle.icn_run.specs.Stacks.{Frames}
use Rattle.icn_run.specs.Step as code
use Rattle.icn_run.specs.Step.{Store, Status, Fresh, Active, Waiting, Exhausted}
use Rattle.icn_control.specs.Machines.{store_in, IsLiveStatus, IsLiveRunning, AreLiveStacks}
use Rattle.icn_control.proofs.KeptItems.{stack_stays}
use Rattle.icn_control.proofs.LiveTables.{AllLive}
use Rattle.icn_control.proofs.SameReadings.{coexps_same}

pub store_same : (names : Names) (outside : Outside) (world : StoreWorld) (turns : ℕ) (begun : List _) (t : Tables) (old new : Reach) (table : CoexpTable)
    → KeepsItems old new → AllLive t old table.coexps
    → store_in names outside world turns begun new.extent table ≡ store_in names outside world turns begun old.extent table
store_same names outside world turns begun t old new table k l =
    let F : List (code.Coexp Frames)
    → Store Frames = λ w. record { world = world; outside = outside; turns = turns; begun = begun; coexps = w; active = table.active; names = names } in
    ap F (coexps_same old new.extent k.extent.value k.extent.bytes t table.coexps l)

status_stays : (t : Tables) (old new : Reach) (s : Status FlatStack) → KeepsItems old new → IsLiveStatus t old s → IsLiveStatus t new s
status_stays t old new Fresh k l = tt
status_stays t old new Active k l = tt
status_stays t old new (Waiting m) k l = stack_stays t old new m k l
status_stays t old new Exhausted k l = tt

pub coexps_stay : (t : Tables) (old new : Reach) (cs : List Coexp) → KeepsItems old new → AllLive t old cs → AllLive t new cs
coexps_stay t old new cs k l n c e =
    let was = l n c e in
    record { status = status_stays t old new c.status k was.status; values = live_kept k.extent c.values was.values; count = was.count }

runs_on : (t : Tables) (old new : Reach) (o : Option FlatStack) → KeepsItems old new → IsLiveRunning t old o → IsLiveRunning t new o
runs_on t old new None k l = tt
runs_on t old new (Some m) k l = stack_stays t old new m k l

pub stacks_stay : (t : Tables) (old new : Reach) (table : CoexpTable) → KeepsItems old new → AreLiveStacks t old table → AreLiveStacks t new table
stacks_stay t old new table k l = record { runs = runs_on t old new table.running k l.runs; coexps = coexps_stay t old new table.coexps k l.coexps }
