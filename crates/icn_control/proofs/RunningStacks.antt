-- Whether a stack runs after a transfer.
use Rattle.std.proofs.Common.{◌≡◌, true, false, Option, Some, None, IsSome, refl, sym, ap, subst}
use Rattle.icn_vars.specs.declared.world.World.{World}
use Rattle.icn_frames.specs.Stacks.{FlatStack}
use Rattle.icn_coexp.specs.declared.table.AfterTransfer.{AfterTransfer}
use Rattle.icn_coexp.specs.Transfers.{CoexpTable, went_by}
use Rattle.icn_run.specs.Stacks.{Frames}
use Rattle.icn_run.specs.Step.{State, Store}
use Rattle.icn_control.specs.Creations.{copy_entry, copied_on, create_entry, created_on}
use Rattle.icn_control.specs.TransfersRead.{is_moved}
use Rattle.icn_control.specs.Machines.{HasStack}
use Rattle.icn_control.specs.StackAndWorld.{StandsWith}
use Rattle.icn_control.specs.declared.machine.Machine.{Machine}
use Rattle.icn_control.specs.declared.machine.RunState.{RunState}
use Rattle.icn_control.specs.declared.machine.RunState.TheVariants as RunStates

pub moved_runs : (running : Option FlatStack) (went : AfterTransfer) → went ≡ went_by running → is_moved went ≡ true → IsSome running
moved_runs (Some m) went e f = refl
moved_runs None went e f = let stays : is_moved went ≡ false = ap is_moved e in cc

pub not_moved_waits : (running : Option FlatStack) (went : AfterTransfer) → went ≡ went_by running → is_moved went ≡ false → running ≡ None
not_moved_waits None went e f = refl
not_moved_waits (Some m) went e f = let moves : is_moved went ≡ true = ap is_moved e in cc

pub created_runs : (label : _) (t u : CoexpTable) → IsSome t.running → u ≡ create_entry label t → IsSome u.running
created_runs label t u r e = subst (λ (x : CoexpTable). IsSome x.running) (sym e) (by_running t.running r)
  where
    by_running : (o : Option FlatStack) → IsSome o → IsSome (created_on label t o).running
    by_running (Some m) q = refl
    by_running None q = cc

pub copied_runs : (id : _) (t u : CoexpTable) → IsSome t.running → u ≡ copy_entry id t → IsSome u.running
copied_runs id t u r e = subst (λ (x : CoexpTable). IsSome x.running) (sym e) (by_running t.running r)
  where
    by_running : (o : Option FlatStack) → IsSome o → IsSome (copied_on id t o).running
    by_running (Some m) q = refl
    by_running None q = cc

-- what touches a stack and a world alone leaves no hop due
pub stands_has_stack : {K : Type 0} (m : Machine K) (state : State Frames Frames) (st : Store Frames) (w : World) (n : FlatStack) (stage : RunState)
    → StandsWith state st w n stage → IsSome m.stacks.table.running → HasStack m stage
stands_has_stack m state st w n RunStates.Running h r = r
stands_has_stack m state st w n RunStates.Failing h r = r
stands_has_stack m state st w n RunStates.Hopping h r = absurd h
stands_has_stack m state st w n RunStates.Over h r = tt
stands_has_stack m state st w n RunStates.AtBound h r = tt
