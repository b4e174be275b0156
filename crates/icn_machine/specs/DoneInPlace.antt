-- Instructions that are done on the stack alone, on a machine.
use Rattle.std.specs.Prelude.{◌≡◌, suc, Option, None, Some, Ok, IfSome}
use Rattle.icn_value.specs.Store.{Outside}
use Rattle.icn_code.specs.declared.instr.Instr.{Instr}
use Rattle.icn_code.specs.Codes.{Tables}
use Rattle.icn_frames.specs.Stacks as held
use Rattle.icn_frames.specs.Stacks.{FlatStack}
use Rattle.icn_control.specs.Machines.{ComesTo, HasStack, IsSoundMachine, does}
use Rattle.icn_control.specs.declared.machine.Machine.{Machine}
use Rattle.icn_control.specs.declared.machine.RunState.{RunState}

-- Nothing of a machine has changed but the room of its stack.
pub record StaysSame {K : Type 0} (m n : Machine K) : Type 0 where
  pub world : n.world ≡ m.world
  pub table : n.stacks.table ≡ m.stacks.table
  pub turns : n.turns ≡ m.turns
  pub begun : n.begun.items ≡ m.begun.items
  pub limits : n.limits ≡ m.limits

-- The machine is as it was, but that the stack that runs stands at the next address.
pub record IsPast {K : Type 0} (m n : Machine K) : Type 0 where
  pub was : FlatStack
  pub runs : m.stacks.table.running ≡ Some was
  pub world : n.world ≡ m.world
  pub turns : n.turns ≡ m.turns
  pub begun : n.begun.items ≡ m.begun.items
  pub limits : n.limits ≡ m.limits
  pub table : n.stacks.table ≡ record m.stacks.table { running = Some (held.go (suc was.address) was) }

-- The instruction was done, whatever the outside is, or nothing has changed.
pub record DoneInPlace {K : Type 0} (tables : Tables) (instr : Instr) (m n : Machine K)
    (result : Option RunState) : Type 0 where
  pub done : IfSome result (λ stage.
      (outside : Outside) → ComesTo tables outside (does tables outside instr m) n (Ok stage))
  pub sound : IfSome result (λ stage. IsSoundMachine tables m → IsSoundMachine tables n)
  pub stack : IfSome result (HasStack n)
  pub limits : n.limits ≡ m.limits
  pub not_done : result ≡ None → StaysSame m n
