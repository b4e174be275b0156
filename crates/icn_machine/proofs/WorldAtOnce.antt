-- Instructions that are done at once on a stack in a world, said of a machine.
use Rattle.std.proofs.Common.{◌≡◌, [], length, Option, Some, None, Ok, refl, ap, ◌∙◌}
use Rattle.icn_value.specs.Store.{bare_outside}
use Rattle.icn_heap.specs.Heaps.{heap_of}
use Rattle.icn_vars.specs.declared.world.World.{World}
use Rattle.icn_vars.specs.Worlds.{KeepsItems, reach_of}
use Rattle.icn_frames.specs.Stacks.{FlatStack}
use Rattle.icn_frames.specs.StackInvariant.{SeenStack}
use Rattle.icn_coexp.specs.Transfers.{with_stack}
use Rattle.icn_code.specs.Codes.{Tables}
use Rattle.icn_code.specs.declared.instr.Instr.{Instr}
use Rattle.icn_control.specs.Machines.{store_seen}
use Rattle.icn_control.specs.declared.machine.Machine.{Machine}
use Rattle.icn_control.specs.LiveStacks.{IsLiveStack}
use Rattle.icn_control.specs.declared.machine.RunState.{RunState}
use Rattle.icn_control.specs.declared.machine.RunState.TheVariants as RunStates
use Rattle.icn_control.proofs.CountedSteps.{list_counts}
use Rattle.icn_control.proofs.GrowthSteps.{stacks_grow}
use Rattle.icn_control.proofs.LiteralSteps.{running_live}
use Rattle.icn_instructions.specs.InstructionEffects.{ComesIn, DoesAtOnce}
use Rattle.icn_instructions.proofs.LiftSteps.{heap_keeps, reach_keeps, seen_keeps, world_comes, world_stack}
use Rattle.law_steps.specs.KeepingNames.{MayCall, StepsKeepNames}
use Rattle.law_steps.specs.KeepingSizes.{StepsKeepSizes}
use Rattle.icn_machine.specs.AnsweredAtOnce.{DoneAtOnce}
use Rattle.icn_machine.specs.declared.at_once.AtOnce.TheVariants as AtOnces
use Rattle.icn_machine.specs.DoneInPlace.{DoneInPlace}
use Rattle.icn_machine.specs.Stepping.{IsDoing}
use Rattle.icn_machine.proofs.AtOnceAnswers.{stands_done}
use Rattle.icn_machine.proofs.InPlaceSteps.{stays_on}

-- the machine with this world and this stack
abbrev pub in_both : {K : Type 0} → Machine K → World → SeenStack → Machine K
in_both m v s = record { world = v; stacks = with_stack m.stacks s; turns = m.turns; begun = m.begun; limits = m.limits }

pub world_placed : {K : Type 0} (tables : Tables) (m : Machine K) (v : World) (s : SeenStack) (instr : Instr) (f : FlatStack) (r : Option RunState)
    → m.stacks.table.running ≡ Some f → IsDoing tables m instr → DoesAtOnce tables instr m.world f v s.flat r
    → DoneInPlace tables instr m (in_both m v s) r
world_placed tables m v s instr f (Some stage) runs doing d =
    let after = in_both m v s in
    let kept : KeepsItems (reach_of m.world []) (reach_of v []) = reach_keeps m.world v d.same.reach in
    let counts = heap_keeps m.world v d.same.heap in
    record {
      done = λ outside. world_comes after tables bare_outside outside m.world m.stacks.table f s.flat instr (Ok stage) refl kept doing.sound.stacks runs d.step
          (doing.always bare_outside []).goes_on;
      sound = λ k. record {
        stacks = stacks_grow tables m.world v m.stacks.table s.flat kept
            (d.live (running_live tables (reach_of m.world []) m.stacks.table f runs k.stacks)) k.stacks;
        bounds = counts.bounds ∙ k.bounds;
        counts = ap length counts.coexps ∙ k.counts;
        counted = record {
          results = list_counts m.turns m.stacks.table.active (heap_of m.world.heap).coexps (heap_of v.heap).coexps counts.coexps k.counted.results;
          activators = k.counted.activators;
        };
      };
      stack = world_stack after tables instr m.world f v s.flat (Ok stage) (store_seen tables bare_outside m) refl refl d.step;
      limits = refl;
      not_done = λ q. absurd (cc);
    }
world_placed tables m v s instr f None runs doing d =
    let same = d.not_done refl in
    let on = stays_on m s f runs same.0 in
    record {
      done = tt;
      sound = tt;
      stack = tt;
      limits = refl;
      not_done = λ q. record { world = same.1; table = on.table; turns = refl; begun = refl; limits = refl };
    }

-- one that was done on a stack in a world whose heap may have grown, where no structure of it has changed
pub grown_done : {K : Type 0} (tables : Tables) → StepsKeepNames → StepsKeepSizes → (m : Machine K) (v : World) (s : SeenStack) (instr : Instr) (f : FlatStack)
    → m.stacks.table.running ≡ Some f → (MayCall instr → ⊥) → IsDoing tables m instr → KeepsItems (reach_of m.world []) (reach_of v [])
    → heap_of v.heap ≡ heap_of m.world.heap → ComesIn tables instr m.world f v s.flat (Ok RunStates.Running)
    → (IsLiveStack tables (reach_of m.world []) f → IsLiveStack tables (reach_of v []) s.flat) → DoneAtOnce tables instr m (in_both m v s) AtOnces.Running
grown_done tables names sizes m v s instr f runs calls doing kept heap step live =
    let after = in_both m v s in
    let counts = seen_keeps m.world v heap in
    stands_done tables names sizes m after instr AtOnces.Running RunStates.Running refl calls doing
    (λ outside. world_comes after tables bare_outside outside m.world m.stacks.table f s.flat instr (Ok RunStates.Running) refl kept doing.sound.stacks runs
    step (doing.always bare_outside []).goes_on)
    (record {
      stacks = stacks_grow tables m.world v m.stacks.table s.flat kept
          (live (running_live tables (reach_of m.world []) m.stacks.table f runs doing.sound.stacks)) doing.sound.stacks;
      bounds = counts.bounds ∙ doing.sound.bounds;
      counts = ap length counts.coexps ∙ doing.sound.counts;
      counted = record {
        results = list_counts m.turns m.stacks.table.active (heap_of m.world.heap).coexps (heap_of v.heap).coexps counts.coexps doing.sound.counted.results;
        activators = doing.sound.counted.activators;
      };
    })
    refl refl
