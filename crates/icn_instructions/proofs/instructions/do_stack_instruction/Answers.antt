use Rattle.std.proofs.Common.{refl, subst}
use Rattle.icn_vars.specs.Worlds.{world_of}
use Rattle.icn_frames.specs.Stacks as held
use Rattle.icn_frames.specs.Stacks.{FlatStack}
use Rattle.icn_code.specs.CodeTables.{tables_of}
use Rattle.icn_run.specs.Step.{all_names}
use Rattle.icn_control.specs.Machines.{extent, store_seen, world_reach}
use Rattle.icn_control.specs.StackViews.{stack_in}
use Rattle.icn_control.proofs.LiteralSteps.{running_live}
use Rattle.icn_control.proofs.MachineSteps.{stacks_on}
use Rattle.icn_run.specs.InstructionNeeds.{HasCaseMark}
use Rattle.icn_instructions.specs.Ranges.{IsInRange}
use Rattle.icn_instructions.proofs.ArmSteps.{error_is_not_ok}
use Rattle.icn_instructions.proofs.LiftSteps.{done_lacks, runs_as, stack_runs}
use Rattle.icn_instructions.proofs.RangeSteps.{may_name}
use Rattle.icn_instructions.proofs.instructions.do_stack_instruction.Goals as goal

pub frames-requires : goal.frames-requires
frames-requires g c =
    c.requires.runs

pub do_on_stack-requires-clause-group : goal.do_on_stack-requires-clause-group
do_on_stack-requires-clause-group g c = c.requires.group

pub do_on_stack-requires-clause-firsts : goal.do_on_stack-requires-clause-firsts
do_on_stack-requires-clause-firsts g c = c.requires.firsts

pub do_on_stack-requires-clause-goes_on : goal.do_on_stack-requires-clause-goes_on
do_on_stack-requires-clause-goes_on g c = (
  (extent c.args.m.now),
  (
    (store_seen (tables_of c.args.code.now) c.requires.goes_on.0 c.args.m.now),
    done_lacks (tables_of c.args.code.now)
        (extent c.args.m.now) c.args.m.now.stacks.table c.frames.result.now.flat c.args.instr
        (store_seen (tables_of c.args.code.now) c.requires.goes_on.0 c.args.m.now) c.frames.ensures.running c.requires.goes_on.1,
  ),
)

pub do_on_stack-requires-clause-in_range : goal.do_on_stack-requires-clause-in_range
do_on_stack-requires-clause-in_range g c =
    subst (λ (x : FlatStack). IsInRange (tables_of c.args.code.now) (held.proc x) c.args.instr)
    (runs_as c.args.m.now.stacks.table c.frames.result.now.flat c.frames.ensures.running) c.requires.in_range

pub do_on_stack-requires-clause-case_mark : goal.do_on_stack-requires-clause-case_mark
do_on_stack-requires-clause-case_mark g c = (
  (extent c.args.m.now),
  subst (λ (x : FlatStack). HasCaseMark c.args.instr (stack_in (extent c.args.m.now) x))
      (runs_as c.args.m.now.stacks.table c.frames.result.now.flat c.frames.ensures.running) c.requires.case_mark,
)

pub do_on_stack-requires-clause-live : goal.do_on_stack-requires-clause-live
do_on_stack-requires-clause-live g c = (
  world_reach c.args.m.now,
  (
    may_name (tables_of c.args.code.now) c.requires.variables.0 c.args.m.now c.requires.variables.1,
    running_live
        (tables_of c.args.code.now) (world_reach c.args.m.now) c.args.m.now.stacks.table c.frames.result.now.flat c.frames.ensures.running
        c.requires.sound.stacks,
  ),
)

pub returns-in-Ok-clause-step : goal.returns-in-Ok-clause-step
returns-in-Ok-clause-step g c =
    λ outside. stack_runs (tables_of c.args.code.now) (all_names (tables_of c.args.code.now)) outside (world_of c.args.m.now.world) c.args.m.now.turns
    c.args.m.now.begun.items (extent c.args.m.now) c.args.m.now.stacks.table c.frames.result.now.flat c.do_on_stack.new.frames.flat c.args.instr
    c.frames.ensures.running c.in-Ok.ensures.step

pub returns-in-Ok-clause-sound : goal.returns-in-Ok-clause-sound
returns-in-Ok-clause-sound g c =
    let k = c.requires.sound in
    record {
      stacks = stacks_on (tables_of c.args.code.now) (world_reach c.args.m.now) c.args.m.now.stacks.table c.frames.result.now.flat
          c.do_on_stack.new.frames.flat c.frames.ensures.running
          (λ l. c.in-Ok.ensures.live (world_reach c.args.m.now) (may_name
          (tables_of c.args.code.now) c.requires.variables.0 c.args.m.now c.requires.variables.1) l) k.stacks;
      bounds = k.bounds;
      counts = k.counts;
      counted = record { results = k.counted.results; activators = k.counted.activators };
    }

pub returns-in-Err-clause-no_memory : goal.returns-in-Err-clause-no_memory
returns-in-Err-clause-no_memory g c =
    λ e. absurd (error_is_not_ok (Unit {0}) c.in-Err.lack (c.in-Err.ensures.no_memory e))

pub returns-in-Ok-clause-stack : goal.returns-in-Ok-clause-stack
returns-in-Ok-clause-stack g c = refl
