-- What a machine keeps as memory is given back.
use Rattle.std.specs.Prelude.{◌≡◌}
use Rattle.icn_value.specs.Store.{Outside}
use Rattle.icn_code.specs.Codes.{Tables}
use Rattle.icn_control.specs.Machines.{IsSoundMachine, stack_seen, store_seen}
use Rattle.icn_control.specs.declared.machine.Machine.{Machine}

-- The machine stands for the same, and is sound where it was; it has the same co-expressions and stacks, turns and limits.
pub record StandsForSame {K : Type 0} (before after : Machine K) : Type 0 where
  pub stack : stack_seen after ≡ stack_seen before
  pub store : (tables : Tables) (outside : Outside)
      → store_seen tables outside after ≡ store_seen tables outside before
  pub sound : (tables : Tables) → IsSoundMachine tables before → IsSoundMachine tables after
  pub table : after.stacks.table ≡ before.stacks.table
  pub turns : after.turns ≡ before.turns
  pub limits : after.limits ≡ before.limits
