-- What is due on a machine after a step of failing.
use Rattle.icn_value.specs.Store.{Names, Outside}
use Rattle.icn_code.specs.Codes.{Tables}
use Rattle.icn_run.specs.Stacks.{Frames}
use Rattle.icn_run.specs.Step.{State}
use Rattle.law_steps.specs.StateNames.{StackNamed, StoreNamed}
use Rattle.icn_control.specs.FailingStacks.{DueNamed, IsDue}
use Rattle.icn_control.specs.Machines.{extent, stack_of, stack_seen, store_seen}
use Rattle.icn_control.specs.declared.failing.AfterFailure.{AfterFailure}
use Rattle.icn_control.specs.declared.machine.Machine.{Machine}

-- the same of the stack and the store of a machine
abbrev pub DueAt : {K : Type 0} → Tables → Outside → State Frames Frames → Machine K → AfterFailure → Type 0
DueAt tables outside state m due =
    IsDue (extent m) tables state (store_seen tables outside m) (stack_of m) due

-- Where what the stack and the store of a machine name has a name, so it is after it failed, and so is what is to be resumed.
pub record FailsNamed {K : Type 0} (before after : Machine K) (due : AfterFailure) : Type 0 where
  pub stack : (names : Names) → StackNamed names (stack_seen before)
      → StackNamed names (stack_seen after) × DueNamed names (extent after) due
  pub store : (names : Names) (tables : Tables) (outside : Outside)
      → StoreNamed names (store_seen tables outside before)
      → StoreNamed names (store_seen tables outside after)
