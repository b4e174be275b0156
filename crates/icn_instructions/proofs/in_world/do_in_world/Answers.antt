use Rattle.std.proofs.Common.{[], Ok, Err, refl, rules}
use Rattle.icn_heap.specs.Heaps.{extent_of}
use Rattle.icn_vars.specs.Worlds.{reach_of}
use Rattle.icn_vars.proofs.KeptItems.{keeps_items_refl}
use Rattle.icn_code.specs.declared.instr.Instr.TheVariants as Instrs
use Rattle.icn_code.specs.CodeTables.{tables_of}
use Rattle.icn_control.specs.LiveStacks.{IsLiveStack}
use Rattle.icn_control.specs.TakenOperands.{KeepsCounts}
use Rattle.icn_control.specs.declared.machine.RunState.{RunState}
use Rattle.icn_control.specs.declared.machine.RunState.TheVariants as RunStates
use Rattle.icn_control.proofs.Halts.{unless_ended, unless_handed}
use Rattle.icn_instructions.proofs.ArmSteps.{lacks_as, may_take, ok_has_memory, comes_as}
use Rattle.icn_instructions.proofs.GroupSteps.{no_other_world}
use Rattle.icn_instructions.proofs.LackSteps.{pop_there, escan_scan, string_lacks}
use Rattle.icn_instructions.proofs.LiftSteps.{heap_keeps, reach_keeps, seen_keeps}
use Rattle.icn_instructions.proofs.in_world.do_in_world.Goals as goal

pub push_string-requires-clause-index : goal.push_string-requires-clause-index
push_string-requires-clause-index g c =
    string_lacks (extent_of c.args.world.now.heap) (tables_of c.args.code.now) c.args.frames.now.flat c.in-Str.place c.requires.goes_on.0
    (lacks_as (extent_of c.args.world.now.heap) (tables_of c.args.code.now) c.args.instr
    (Instrs.Str c.in-Str.place) c.args.frames.now.flat c.requires.goes_on.0 c.in-Str.is c.requires.goes_on.1.1)

pub push_string-requires-clause-live : goal.push_string-requires-clause-live
push_string-requires-clause-live g c =
    ((tables_of c.args.code.now), c.requires.live)

pub give_out-requires-clause-live : goal.give_out-requires-clause-live
give_out-requires-clause-live g c =
    ((tables_of c.args.code.now), c.requires.live)

pub limit-requires-clause-live : goal.limit-requires-clause-live
limit-requires-clause-live g c =
    ((tables_of c.args.code.now), c.requires.live)

pub open_scan-requires-clause-live : goal.open_scan-requires-clause-live
open_scan-requires-clause-live g c =
    ((tables_of c.args.code.now), c.requires.live)

pub leave_scan-requires-clause-live : goal.leave_scan-requires-clause-live
leave_scan-requires-clause-live g c =
    ((tables_of c.args.code.now), c.requires.live)

pub suspend_with-requires-clause-live : goal.suspend_with-requires-clause-live
suspend_with-requires-clause-live g c =
    ((tables_of c.args.code.now), c.requires.live)

pub give_back-requires-clause-live : goal.give_back-requires-clause-live
give_back-requires-clause-live g c =
    ((tables_of c.args.code.now), c.requires.live)

pub give_out-requires-clause-goes_on : goal.give_out-requires-clause-goes_on
give_out-requires-clause-goes_on g c = (
  (tables_of c.args.code.now),
  (
    c.requires.goes_on.0,
    (
      c.requires.goes_on.1.0,
      lacks_as (extent_of c.args.world.now.heap)
          (tables_of c.args.code.now) c.args.instr Instrs.Eret c.args.frames.now.flat c.requires.goes_on.0 c.in-Eret.is c.requires.goes_on.1.1,
    ),
  ),
)

pub limit-requires-clause-operand : goal.limit-requires-clause-operand
limit-requires-clause-operand g c =
    pop_there (extent_of c.args.world.now.heap) c.args.frames.now.flat _
    (lacks_as (extent_of c.args.world.now.heap)
    (tables_of c.args.code.now) c.args.instr Instrs.Limit c.args.frames.now.flat c.requires.goes_on.0 c.in-Limit.is c.requires.goes_on.1.1)

pub open_scan-requires-clause-operand : goal.open_scan-requires-clause-operand
open_scan-requires-clause-operand g c =
    pop_there (extent_of c.args.world.now.heap) c.args.frames.now.flat _
    (lacks_as (extent_of c.args.world.now.heap)
    (tables_of c.args.code.now) c.args.instr Instrs.Bscan c.args.frames.now.flat c.requires.goes_on.0 c.in-Bscan.is c.requires.goes_on.1.1)

pub leave_scan-requires-clause-operand : goal.leave_scan-requires-clause-operand
leave_scan-requires-clause-operand g c =
    pop_there (extent_of c.args.world.now.heap) c.args.frames.now.flat _
    (lacks_as (extent_of c.args.world.now.heap)
    (tables_of c.args.code.now) c.args.instr Instrs.Escan c.args.frames.now.flat c.requires.goes_on.0 c.in-Escan.is c.requires.goes_on.1.1)

pub suspend_with-requires-clause-operand : goal.suspend_with-requires-clause-operand
suspend_with-requires-clause-operand g c =
    pop_there (extent_of c.args.world.now.heap) c.args.frames.now.flat _
    (lacks_as (extent_of c.args.world.now.heap)
    (tables_of c.args.code.now) c.args.instr Instrs.Psusp c.args.frames.now.flat c.requires.goes_on.0 c.in-Psusp.is c.requires.goes_on.1.1)

pub give_back-requires-clause-operand : goal.give_back-requires-clause-operand
give_back-requires-clause-operand g c =
    pop_there (extent_of c.args.world.now.heap) c.args.frames.now.flat _
    (lacks_as (extent_of c.args.world.now.heap)
    (tables_of c.args.code.now) c.args.instr Instrs.Pret c.args.frames.now.flat c.requires.goes_on.0 c.in-Pret.is c.requires.goes_on.1.1)

pub leave_scan-requires-clause-scan : goal.leave_scan-requires-clause-scan
leave_scan-requires-clause-scan g c =
    escan_scan (extent_of c.args.world.now.heap) (tables_of c.args.code.now) c.args.frames.now.flat c.requires.goes_on.0
    (lacks_as (extent_of c.args.world.now.heap)
    (tables_of c.args.code.now) c.args.instr Instrs.Escan c.args.frames.now.flat c.requires.goes_on.0 c.in-Escan.is c.requires.goes_on.1.1)

pub fail_procedure-requires : goal.fail_procedure-requires
fail_procedure-requires g c =
    record { live = ((tables_of c.args.code.now), c.requires.live) }

pub unreachable-requires : goal.unreachable-requires
unreachable-requires g c =
    no_other_world c.args.instr c.requires.group c.in_default.not-Str c.in_default.not-Eret c.in_default.not-Limit c.in_default.not-Bscan
    c.in_default.not-Escan c.in_default.not-Psusp c.in_default.not-Pret c.in_default.not-Pfail

pub returns-in-Ok-clause-step : goal.returns-in-Ok-clause-step
returns-in-Ok-clause-step g c =
    comes_as (tables_of c.args.code.now) c.args.instr (Instrs.Str c.in-Str.place) c.args.world.now c.args.frames.now.flat c.push_string.new.world
    c.push_string.new.frames.flat (Ok RunStates.Running) c.in-Str.is (λ st e. c.in-Ok.ensures.step st e)

pub returns-in-Ok-clause-live : goal.returns-in-Ok-clause-live
returns-in-Ok-clause-live g c =
    c.in-Ok.ensures.live (tables_of c.args.code.now) c.requires.live

pub returns-in-Ok-clause-leaves : goal.returns-in-Ok-clause-leaves
returns-in-Ok-clause-leaves g c = record {
  kept = c.push_string.ensures.kept;
  counts = seen_keeps c.args.world.now c.push_string.new.world c.push_string.ensures.heap;
  halt = search rules;
}

pub returns-in-Ok-clause-no_memory : goal.returns-in-Ok-clause-no_memory
returns-in-Ok-clause-no_memory g c =
    λ e. ok_has_memory RunStates.Running

pub returns-in-Err-clause-leaves : goal.returns-in-Err-clause-leaves
returns-in-Err-clause-leaves g c = record {
  kept = c.push_string.ensures.kept;
  counts = search rules;
  halt = search rules;
}

pub returns-in-Err-clause-no_memory : goal.returns-in-Err-clause-no_memory
returns-in-Err-clause-no_memory g c =
    λ e. absurd (may_take c.args.instr (Instrs.Str c.in-Str.place) c.in-Str.is refl e)

pub returns-in-Ok-give_out-clause-step : goal.returns-in-Ok-give_out-clause-step
returns-in-Ok-give_out-clause-step g c =
    comes_as (tables_of c.args.code.now) c.args.instr Instrs.Eret c.args.world.now c.args.frames.now.flat c.give_out.new.world c.give_out.new.frames.flat
    (Ok RunStates.Running) c.in-Eret.is (λ st e. c.in-Ok-give_out.ensures.step (tables_of c.args.code.now) st e)

pub returns-in-Ok-give_out-clause-live : goal.returns-in-Ok-give_out-clause-live
returns-in-Ok-give_out-clause-live g c =
    c.in-Ok-give_out.ensures.live (tables_of c.args.code.now) c.requires.live

pub returns-in-Ok-give_out-clause-leaves : goal.returns-in-Ok-give_out-clause-leaves
returns-in-Ok-give_out-clause-leaves g c = record {
  kept = reach_keeps c.args.world.now c.give_out.new.world c.give_out.ensures.same.reach;
  counts = heap_keeps c.args.world.now c.give_out.new.world c.give_out.ensures.same.heap;
  halt = search rules;
}

pub returns-in-Ok-give_out-clause-no_memory : goal.returns-in-Ok-give_out-clause-no_memory
returns-in-Ok-give_out-clause-no_memory g c =
    λ e. ok_has_memory RunStates.Running

pub returns-in-Err-give_out-clause-leaves : goal.returns-in-Err-give_out-clause-leaves
returns-in-Err-give_out-clause-leaves g c = record {
  kept = reach_keeps c.args.world.now c.give_out.new.world c.give_out.ensures.same.reach;
  counts = unless_ended {A = RunState} (Err c.in-Err-give_out.halt) (KeepsCounts c.args.world.now c.give_out.new.world)
      (heap_keeps c.args.world.now c.give_out.new.world c.give_out.ensures.same.heap);
  halt = c.in-Err-give_out.ensures.halt;
}

pub returns-in-Err-give_out-clause-live : goal.returns-in-Err-give_out-clause-live
returns-in-Err-give_out-clause-live g c =
    unless_handed (Unit {0}) RunState c.in-Err-give_out.halt
    (IsLiveStack (tables_of c.args.code.now) (reach_of c.give_out.new.world []) c.give_out.new.frames.flat)
    (c.in-Err-give_out.ensures.live (tables_of c.args.code.now) c.requires.live)

pub returns-in-Err-give_out-clause-no_memory : goal.returns-in-Err-give_out-clause-no_memory
returns-in-Err-give_out-clause-no_memory g c =
    λ e. absurd (may_take c.args.instr Instrs.Eret c.in-Eret.is refl e)

pub returns-in-Err-give_out-clause-step : goal.returns-in-Err-give_out-clause-step
returns-in-Err-give_out-clause-step g c =
    comes_as (tables_of c.args.code.now) c.args.instr Instrs.Eret c.args.world.now c.args.frames.now.flat c.give_out.new.world c.give_out.new.frames.flat
    (Err c.in-Err-give_out.halt) c.in-Eret.is (λ st e. c.in-Err-give_out.ensures.step (tables_of c.args.code.now) st e)

pub returns-in-Ok-open_scan-clause-step : goal.returns-in-Ok-open_scan-clause-step
returns-in-Ok-open_scan-clause-step g c =
    comes_as (tables_of c.args.code.now) c.args.instr Instrs.Bscan c.args.world.now c.args.frames.now.flat c.open_scan.new.world c.open_scan.new.frames.flat
    (Ok RunStates.Running) c.in-Bscan.is (λ st e. c.in-Ok-open_scan.ensures.step (tables_of c.args.code.now) st e)

pub returns-in-Ok-open_scan-clause-live : goal.returns-in-Ok-open_scan-clause-live
returns-in-Ok-open_scan-clause-live g c =
    c.in-Ok-open_scan.ensures.live (tables_of c.args.code.now) c.requires.live

pub returns-in-Ok-open_scan-clause-leaves : goal.returns-in-Ok-open_scan-clause-leaves
returns-in-Ok-open_scan-clause-leaves g c = record {
  kept = c.open_scan.ensures.leaves.kept;
  counts = c.in-Ok-open_scan.ensures.leaves.counts;
  halt = search rules;
}

pub returns-in-Ok-open_scan-clause-no_memory : goal.returns-in-Ok-open_scan-clause-no_memory
returns-in-Ok-open_scan-clause-no_memory g c =
    λ e. ok_has_memory RunStates.Running

pub returns-in-Err-open_scan-clause-leaves : goal.returns-in-Err-open_scan-clause-leaves
returns-in-Err-open_scan-clause-leaves g c = record {
  kept = c.open_scan.ensures.leaves.kept;
  counts = unless_handed (Unit {0}) RunState c.in-Err-open_scan.halt (KeepsCounts c.args.world.now c.open_scan.new.world)
      c.in-Err-open_scan.ensures.leaves.counts;
  halt = c.in-Err-open_scan.ensures.leaves.halt;
}

pub returns-in-Err-open_scan-clause-live : goal.returns-in-Err-open_scan-clause-live
returns-in-Err-open_scan-clause-live g c =
    unless_handed (Unit {0}) RunState c.in-Err-open_scan.halt
    (IsLiveStack (tables_of c.args.code.now) (reach_of c.open_scan.new.world []) c.open_scan.new.frames.flat)
    (c.in-Err-open_scan.ensures.live (tables_of c.args.code.now) c.requires.live)

pub returns-in-Err-open_scan-clause-no_memory : goal.returns-in-Err-open_scan-clause-no_memory
returns-in-Err-open_scan-clause-no_memory g c =
    λ e. absurd (may_take c.args.instr Instrs.Bscan c.in-Bscan.is refl e)

pub returns-in-Err-open_scan-clause-step : goal.returns-in-Err-open_scan-clause-step
returns-in-Err-open_scan-clause-step g c =
    comes_as (tables_of c.args.code.now) c.args.instr Instrs.Bscan c.args.world.now c.args.frames.now.flat c.open_scan.new.world c.open_scan.new.frames.flat
    (Err c.in-Err-open_scan.halt) c.in-Bscan.is (λ st e. c.in-Err-open_scan.ensures.step (tables_of c.args.code.now) st e)

pub returns-in-Ok-leave_scan-clause-step : goal.returns-in-Ok-leave_scan-clause-step
returns-in-Ok-leave_scan-clause-step g c =
    comes_as (tables_of c.args.code.now) c.args.instr Instrs.Escan c.args.world.now c.args.frames.now.flat c.leave_scan.new.world
    c.leave_scan.new.frames.flat (Ok RunStates.Running) c.in-Escan.is (λ st e. c.in-Ok-leave_scan.ensures.step (tables_of c.args.code.now) st e)

pub returns-in-Ok-leave_scan-clause-live : goal.returns-in-Ok-leave_scan-clause-live
returns-in-Ok-leave_scan-clause-live g c =
    c.in-Ok-leave_scan.ensures.live (tables_of c.args.code.now) c.requires.live

pub returns-in-Ok-leave_scan-clause-leaves : goal.returns-in-Ok-leave_scan-clause-leaves
returns-in-Ok-leave_scan-clause-leaves g c = record {
  kept = reach_keeps c.args.world.now c.leave_scan.new.world c.leave_scan.ensures.same.reach;
  counts = heap_keeps c.args.world.now c.leave_scan.new.world c.leave_scan.ensures.same.heap;
  halt = search rules;
}

pub returns-in-Ok-leave_scan-clause-no_memory : goal.returns-in-Ok-leave_scan-clause-no_memory
returns-in-Ok-leave_scan-clause-no_memory g c =
    λ e. ok_has_memory RunStates.Running

pub returns-in-Err-leave_scan-clause-leaves : goal.returns-in-Err-leave_scan-clause-leaves
returns-in-Err-leave_scan-clause-leaves g c = record {
  kept = reach_keeps c.args.world.now c.leave_scan.new.world c.leave_scan.ensures.same.reach;
  counts = search rules;
  halt = search rules;
}

pub returns-in-Err-leave_scan-clause-no_memory : goal.returns-in-Err-leave_scan-clause-no_memory
returns-in-Err-leave_scan-clause-no_memory g c =
    λ e. absurd (may_take c.args.instr Instrs.Escan c.in-Escan.is refl e)

pub returns-in-Limit-clause-step : goal.returns-in-Limit-clause-step
returns-in-Limit-clause-step g c =
    comes_as (tables_of c.args.code.now) c.args.instr Instrs.Limit c.args.world.now c.args.frames.now.flat c.args.world.now c.limit.new.frames.flat
    c.limit.result c.in-Limit.is (λ st e. c.limit.ensures.step (tables_of c.args.code.now) st e)

pub returns-in-Limit-clause-live : goal.returns-in-Limit-clause-live
returns-in-Limit-clause-live g c =
    c.limit.ensures.live (tables_of c.args.code.now) c.requires.live

pub returns-in-Limit-clause-leaves : goal.returns-in-Limit-clause-leaves
returns-in-Limit-clause-leaves g c = record {
  kept = keeps_items_refl (reach_of c.args.world.now []);
  counts = unless_ended c.limit.result (KeepsCounts c.args.world.now c.args.world.now) (record { bounds = refl; coexps = refl });
  halt = c.limit.ensures.halt;
}

pub returns-in-Limit-clause-no_memory : goal.returns-in-Limit-clause-no_memory
returns-in-Limit-clause-no_memory g c =
    λ e. absurd (may_take c.args.instr Instrs.Limit c.in-Limit.is refl e)

pub returns-in-Psusp-clause-step : goal.returns-in-Psusp-clause-step
returns-in-Psusp-clause-step g c =
    comes_as (tables_of c.args.code.now) c.args.instr Instrs.Psusp c.args.world.now c.args.frames.now.flat c.suspend_with.new.world
    c.suspend_with.new.frames.flat c.suspend_with.result c.in-Psusp.is (λ st e. c.suspend_with.ensures.step (tables_of c.args.code.now) st e)

pub returns-in-Psusp-clause-live : goal.returns-in-Psusp-clause-live
returns-in-Psusp-clause-live g c =
    c.suspend_with.ensures.live (tables_of c.args.code.now) c.requires.live

pub returns-in-Psusp-clause-leaves : goal.returns-in-Psusp-clause-leaves
returns-in-Psusp-clause-leaves g c = record {
  kept = reach_keeps c.args.world.now c.suspend_with.new.world c.suspend_with.ensures.same.reach;
  counts = (
      unless_ended c.suspend_with.result (KeepsCounts c.args.world.now c.suspend_with.new.world)
      (heap_keeps c.args.world.now c.suspend_with.new.world c.suspend_with.ensures.same.heap));
  halt = c.suspend_with.ensures.halt;
}

pub returns-in-Psusp-clause-no_memory : goal.returns-in-Psusp-clause-no_memory
returns-in-Psusp-clause-no_memory g c =
    λ e. absurd (may_take c.args.instr Instrs.Psusp c.in-Psusp.is refl e)

pub returns-in-Pret-clause-step : goal.returns-in-Pret-clause-step
returns-in-Pret-clause-step g c =
    comes_as (tables_of c.args.code.now) c.args.instr Instrs.Pret c.args.world.now c.args.frames.now.flat c.give_back.new.world c.give_back.new.frames.flat
    c.give_back.result c.in-Pret.is (λ st e. c.give_back.ensures.step (tables_of c.args.code.now) st e)

pub returns-in-Pret-clause-live : goal.returns-in-Pret-clause-live
returns-in-Pret-clause-live g c =
    c.give_back.ensures.live (tables_of c.args.code.now) c.requires.live

pub returns-in-Pret-clause-leaves : goal.returns-in-Pret-clause-leaves
returns-in-Pret-clause-leaves g c = record {
  kept = reach_keeps c.args.world.now c.give_back.new.world c.give_back.ensures.same.reach;
  counts = (
      unless_ended c.give_back.result (KeepsCounts c.args.world.now c.give_back.new.world)
      (heap_keeps c.args.world.now c.give_back.new.world c.give_back.ensures.same.heap));
  halt = c.give_back.ensures.halt;
}

pub returns-in-Pret-clause-no_memory : goal.returns-in-Pret-clause-no_memory
returns-in-Pret-clause-no_memory g c =
    λ e. absurd (may_take c.args.instr Instrs.Pret c.in-Pret.is refl e)

pub returns-in-Pfail-clause-step : goal.returns-in-Pfail-clause-step
returns-in-Pfail-clause-step g c =
    comes_as (tables_of c.args.code.now) c.args.instr Instrs.Pfail c.args.world.now c.args.frames.now.flat c.fail_procedure.new.world
    c.fail_procedure.new.frames.flat (Ok c.fail_procedure.result) c.in-Pfail.is (λ st e. c.fail_procedure.ensures.step (tables_of c.args.code.now) st e)

pub returns-in-Pfail-clause-live : goal.returns-in-Pfail-clause-live
returns-in-Pfail-clause-live g c =
    c.fail_procedure.ensures.live (tables_of c.args.code.now) c.requires.live

pub returns-in-Pfail-clause-leaves : goal.returns-in-Pfail-clause-leaves
returns-in-Pfail-clause-leaves g c = record {
  kept = reach_keeps c.args.world.now c.fail_procedure.new.world c.fail_procedure.ensures.same.reach;
  counts = heap_keeps c.args.world.now c.fail_procedure.new.world c.fail_procedure.ensures.same.heap;
  halt = search rules;
}

pub returns-in-Pfail-clause-no_memory : goal.returns-in-Pfail-clause-no_memory
returns-in-Pfail-clause-no_memory g c =
    λ e. ok_has_memory c.fail_procedure.result
