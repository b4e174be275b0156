-- What transfers between co-expressions come to, once tables and stacks are read.
use Rattle.std.specs.Prelude.{◌≡◌, ℕ, Bool, true, false, List, Option, None, Some}
use Rattle.icn_value.specs.declared.val.Val.{Val}
use Rattle.icn_value.specs.Store.{Names, Outside, World}
use Rattle.icn_heap.specs.Extents.{Extent, value_in}
use Rattle.icn_frames.specs.Stacks.{FlatStack}
use Rattle.icn_coexp.specs.declared.table.AfterTransfer.{AfterTransfer}
use Rattle.icn_coexp.specs.declared.table.AfterTransfer.TheVariants as AfterTransfers
use Rattle.icn_coexp.specs.Transfers.{CoexpTable, enter_other, exhaust, give}
use Rattle.icn_run.specs.Stacks.{Frames, flat}
use Rattle.icn_run.specs.Step.{State, Store, Waiting, Exhausted, running, failing, hopping, activator_of, entered_by, passed_failure, passed_value, with_status}
use Rattle.icn_control.specs.Machines.{store_in}
use Rattle.icn_control.specs.StackViews.{stack_in}

-- whether another co-expression is active after a transfer
abbrev pub is_moved : AfterTransfer → Bool
is_moved AfterTransfers.Moved = true
is_moved (AfterTransfers.Same value) = false
is_moved AfterTransfers.Exhausted = false

-- what a store has beside its co-expressions, and the texts by which they are read
pub record Beside : Type 0 where
  pub names : Names
  pub outside : Outside
  pub world : World
  pub turns : ℕ
  pub begun : List Bool
  pub all : Extent

-- the store of a table
abbrev pub store_with : Beside → CoexpTable → Store Frames
store_with beside table =
    store_in beside.names beside.outside beside.world beside.turns beside.begun beside.all table

-- the stack that is taken up goes on; where none is, a hop is due
abbrev pub land : Beside → (Frames → Store Frames → State Frames Frames) → Frames → CoexpTable
    → Option FlatStack
    → State Frames Frames
land beside next m table (Some n) = next (stack_in beside.all n) (store_with beside table)
land beside next m table None = hopping m (store_with beside table)

-- A transfer of the table, read, is the transfer of the store: another one is entered with a value, its activator is given a value, or failure is
-- passed on to it.
pub record TransfersAreRead (beside : Beside) (t u : CoexpTable) (m : Frames) : Type 0 where
  pub exhausts : exhaust t ≡ Some u
      → passed_failure flat (activator_of t.active (store_with beside t)) m
      (with_status t.active Exhausted (store_with beside t)) ≡ land beside failing m u u.running
  pub gives : (value : Val) (n : FlatStack) → t.running ≡ Some n → give value t ≡ Some u
      → passed_value flat (activator_of t.active (store_with beside t)) (value_in beside.all value) m
      (with_status t.active (Waiting (stack_in beside.all n)) (store_with beside t))
      ≡ land beside running m u u.running
  pub enters : (k : ℕ) (value : Val) (n : FlatStack) → t.running ≡ Some n → enter_other k value t ≡ Some u
      → entered_by flat k (value_in beside.all value) (stack_in beside.all n) (store_with beside t)
      ≡ land beside running (stack_in beside.all n) u u.running
