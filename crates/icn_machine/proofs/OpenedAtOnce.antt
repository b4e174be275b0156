-- A scan that is opened at once.
use Rattle.std.proofs.Common.{◌≡◌, ◌≢◌, ◌∙◌, Some, ap, false, refl, subst, sym, true}
use Rattle.icn_heap.specs.Heaps.{heap_of}
use Rattle.icn_vars.specs.declared.world.World.{World}
use Rattle.icn_frames.specs.Stacks.{FlatStack}
use Rattle.icn_frames.specs.StackInvariant.{SeenStack}
use Rattle.icn_code.specs.Codes.{Tables}
use Rattle.icn_code.specs.declared.instr.Instr.{Instr}
use Rattle.icn_code.specs.declared.instr.Instr.TheVariants as Instrs
use Rattle.icn_control.specs.Machines.{extent}
use Rattle.icn_control.specs.StackAndWorld.{RunsWith}
use Rattle.icn_control.specs.StackViews.{instruction_state}
use Rattle.icn_control.specs.declared.machine.Machine.{Machine}
use Rattle.icn_instructions.specs.Groups.{group_of}
use Rattle.icn_instructions.specs.declared.groups.InstrGroup.TheVariants as Groups
use Rattle.icn_instructions.proofs.LiftSteps.{reach_keeps}
use Rattle.law_steps.specs.KeepingNames.{MayCall, StepsKeepNames}
use Rattle.law_steps.specs.KeepingSizes.{StepsKeepSizes}
use Rattle.icn_machine.specs.AnsweredAtOnce.{DoneAtOnce}
use Rattle.icn_machine.specs.declared.at_once.AtOnce.{AtOnce}
use Rattle.icn_machine.specs.declared.at_once.AtOnce.TheVariants as AtOnces
use Rattle.icn_machine.specs.PlainScans.{OpensScan}
use Rattle.icn_machine.specs.Stepping.{IsDoing, is_whole}
use Rattle.icn_machine.proofs.AtOnceAnswers.{lacks_memory}
use Rattle.icn_machine.proofs.TurnSteps.{same_turned}
use Rattle.icn_machine.proofs.WorldAtOnce.{grown_done, in_both}

in_world : Groups.World ≢ Groups.Stack
in_world e = cc

module _ {K : Type 0} (tables : Tables) (names : StepsKeepNames) (sizes : StepsKeepSizes) (m : Machine K) (v : World) (s : SeenStack) (instr : Instr)
    (f : FlatStack) (runs : m.stacks.table.running ≡ Some f) (is : instr ≡ Instrs.Bscan) (calls : MayCall instr → ⊥) (doing : IsDoing tables m instr) where
  pub opened_done : (done : AtOnce) → OpensScan m.world f v s.flat done → DoneAtOnce tables instr m (in_both m v s) done
  opened_done AtOnces.Running o =
      grown_done tables names sizes m v s instr f runs calls doing (reach_keeps m.world v o.same.reach) (ap heap_of o.same.heap)
      (λ st e. subst (λ (i : Instr). RunsWith (instruction_state (extent m) tables i f st) st v s.flat) (sym is) (o.step tables st e)) (λ l. o.live tables l)
  opened_done AtOnces.Failing o = absurd o
  opened_done AtOnces.Hopping o = absurd o
  opened_done AtOnces.Over o = absurd o
  opened_done AtOnces.AtBound o = absurd o
  opened_done AtOnces.NoMemory o =
      lacks_memory tables m (in_both m v s) instr (λ w. let bad : true ≡ false = sym w ∙ ap is_whole is in absurd (cc)) refl
  opened_done AtOnces.Not o = same_turned tables m v s instr f runs (λ q. in_world (sym (ap group_of is) ∙ q)) o
