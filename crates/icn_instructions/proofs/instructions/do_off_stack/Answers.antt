use Rattle.std.proofs.Common.{[], length, refl, sym, ap, ◌∙◌}
use Rattle.icn_heap.specs.Heaps.{heap_of}
use Rattle.icn_vars.specs.Worlds.{reach_of}
use Rattle.icn_frames.specs.Stacks as held
use Rattle.icn_coexp.specs.Transfers.{with_stack}
use Rattle.icn_code.specs.CodeTables.{tables_of}
use Rattle.icn_control.specs.LiveStacks.{IsLiveStack}
use Rattle.icn_control.specs.Machines.{IsSoundMachine, extent, store_seen, world_reach}
use Rattle.icn_control.specs.TakenOperands.{KeepsCounts}
use Rattle.icn_control.specs.declared.machine.Machine.{Machine}
use Rattle.icn_control.proofs.CountedSteps.{list_counts}
use Rattle.icn_control.proofs.GrowthSteps.{stacks_grow}
use Rattle.icn_control.proofs.LiteralSteps.{running_live}
use Rattle.icn_instructions.proofs.ArmSteps.{unless_both}
use Rattle.icn_instructions.proofs.LiftSteps.{done_lacks, world_comes, world_stack}
use Rattle.icn_instructions.proofs.instructions.do_off_stack.Goals as goal

pub frames-requires : goal.frames-requires
frames-requires g c =
    c.requires.runs

pub do_in_world-requires-clause-group : goal.do_in_world-requires-clause-group
do_in_world-requires-clause-group g c =
    sym c.group_of.ensures ∙ c.in-World.is

pub do_in_world-requires-clause-goes_on : goal.do_in_world-requires-clause-goes_on
do_in_world-requires-clause-goes_on g c = (
  (store_seen (tables_of c.args.code.now) c.requires.goes_on.0 c.args.m.now),
  (
    refl,
    done_lacks (tables_of c.args.code.now) (extent c.args.m.now) c.args.m.now.stacks.table c.frames.result.now.flat c.args.instr
        (store_seen (tables_of c.args.code.now) c.requires.goes_on.0 c.args.m.now) c.frames.ensures.running c.requires.goes_on.1,
  ),
)

pub do_in_world-requires-clause-live : goal.do_in_world-requires-clause-live
do_in_world-requires-clause-live g c =
    running_live (tables_of c.args.code.now) (world_reach c.args.m.now) c.args.m.now.stacks.table c.frames.result.now.flat
    c.frames.ensures.running c.requires.sound.stacks

pub do_on_machine-requires-clause-group : goal.do_on_machine-requires-clause-group
do_on_machine-requires-clause-group g c =
    sym c.group_of.ensures ∙ c.in-Machine.is

pub do_with_coexpressions-requires-clause-group : goal.do_with_coexpressions-requires-clause-group
do_with_coexpressions-requires-clause-group g c =
    sym c.group_of.ensures ∙ c.in-Coexpression.is

pub do_on_machine-requires-clause-runs : goal.do_on_machine-requires-clause-runs
do_on_machine-requires-clause-runs g c =
    c.requires.runs

pub do_on_machine-requires-clause-sound : goal.do_on_machine-requires-clause-sound
do_on_machine-requires-clause-sound g c =
    c.requires.sound

pub do_on_machine-requires-clause-goes_on : goal.do_on_machine-requires-clause-goes_on
do_on_machine-requires-clause-goes_on g c =
    c.requires.goes_on

pub do_on_machine-requires-clause-in_range : goal.do_on_machine-requires-clause-in_range
do_on_machine-requires-clause-in_range g c =
    c.requires.in_range

pub do_on_machine-requires-clause-variables : goal.do_on_machine-requires-clause-variables
do_on_machine-requires-clause-variables g c =
    c.requires.variables

pub do_with_coexpressions-requires-clause-runs : goal.do_with_coexpressions-requires-clause-runs
do_with_coexpressions-requires-clause-runs g c =
    c.requires.runs

pub do_with_coexpressions-requires-clause-sound : goal.do_with_coexpressions-requires-clause-sound
do_with_coexpressions-requires-clause-sound g c =
    c.requires.sound

pub do_with_coexpressions-requires-clause-goes_on : goal.do_with_coexpressions-requires-clause-goes_on
do_with_coexpressions-requires-clause-goes_on g c =
    c.requires.goes_on

pub unreachable-requires : goal.unreachable-requires
unreachable-requires g c =
    c.requires.off_stack (sym c.group_of.ensures ∙ c.in-Stack.is)

pub unreachable-requires-in-Application : goal.unreachable-requires-in-Application
unreachable-requires-in-Application g c =
    c.requires.kind (sym c.group_of.ensures ∙ c.in-Application.is)

pub returns-in-World-clause-step : goal.returns-in-World-clause-step
returns-in-World-clause-step g c =
    let after : Machine g.row.K.Denot
    = record {
      world = c.do_in_world.new.world;
      stacks = with_stack c.args.m.now.stacks c.do_in_world.new.frames;
      turns = c.args.m.now.turns;
      begun = c.args.m.now.begun;
      limits = c.args.m.now.limits;
    } in
    λ outside. world_comes after (tables_of c.args.code.now) c.requires.goes_on.0 outside c.args.m.now.world c.args.m.now.stacks.table
    c.frames.result.now.flat c.do_in_world.new.frames.flat c.args.instr c.do_in_world.result refl c.do_in_world.ensures.leaves.kept
    c.requires.sound.stacks c.frames.ensures.running c.do_in_world.ensures.step c.requires.goes_on.1

pub returns-in-World-clause-sound : goal.returns-in-World-clause-sound
returns-in-World-clause-sound g c =
    let k = c.requires.sound in
    let m = c.args.m.now in
    let v = c.do_in_world.new.world in
    let after : Machine g.row.K.Denot
    = record { world = v; stacks = with_stack m.stacks c.do_in_world.new.frames; turns = m.turns; begun = m.begun; limits = m.limits } in
    unless_both c.do_in_world.result (IsLiveStack (tables_of c.args.code.now) (reach_of v []) c.do_in_world.new.frames.flat) (KeepsCounts m.world v)
    (IsSoundMachine (tables_of c.args.code.now) after)
    (λ live counts. record {
      stacks = stacks_grow (tables_of c.args.code.now) m.world v m.stacks.table c.do_in_world.new.frames.flat c.do_in_world.ensures.leaves.kept live k.stacks;
      bounds = counts.bounds ∙ k.bounds;
      counts = ap length counts.coexps ∙ k.counts;
      counted = record {
        results = list_counts m.turns m.stacks.table.active (heap_of m.world.heap).coexps
            (heap_of v.heap).coexps counts.coexps k.counted.results;
        activators = k.counted.activators;
      };
    }) c.do_in_world.ensures.live c.do_in_world.ensures.leaves.counts

pub returns-in-World-clause-halt : goal.returns-in-World-clause-halt
returns-in-World-clause-halt g c =
    c.do_in_world.ensures.leaves.halt

pub returns-in-World-clause-no_memory : goal.returns-in-World-clause-no_memory
returns-in-World-clause-no_memory g c =
    c.do_in_world.ensures.no_memory

pub returns-in-Machine-clause-step : goal.returns-in-Machine-clause-step
returns-in-Machine-clause-step g c =
    c.do_on_machine.ensures.step

pub returns-in-Machine-clause-sound : goal.returns-in-Machine-clause-sound
returns-in-Machine-clause-sound g c =
    c.do_on_machine.ensures.sound

pub returns-in-Machine-clause-halt : goal.returns-in-Machine-clause-halt
returns-in-Machine-clause-halt g c =
    c.do_on_machine.ensures.halt

pub returns-in-Machine-clause-limits : goal.returns-in-Machine-clause-limits
returns-in-Machine-clause-limits g c =
    c.do_on_machine.ensures.limits

pub returns-in-Machine-clause-no_memory : goal.returns-in-Machine-clause-no_memory
returns-in-Machine-clause-no_memory g c =
    c.do_on_machine.ensures.no_memory

pub returns-in-Coexpression-clause-step : goal.returns-in-Coexpression-clause-step
returns-in-Coexpression-clause-step g c =
    c.do_with_coexpressions.ensures.step

pub returns-in-Coexpression-clause-sound : goal.returns-in-Coexpression-clause-sound
returns-in-Coexpression-clause-sound g c =
    c.do_with_coexpressions.ensures.sound

pub returns-in-Coexpression-clause-halt : goal.returns-in-Coexpression-clause-halt
returns-in-Coexpression-clause-halt g c =
    c.do_with_coexpressions.ensures.halt

pub returns-in-Coexpression-clause-limits : goal.returns-in-Coexpression-clause-limits
returns-in-Coexpression-clause-limits g c =
    c.do_with_coexpressions.ensures.limits

pub returns-in-Coexpression-clause-no_memory : goal.returns-in-Coexpression-clause-no_memory
returns-in-Coexpression-clause-no_memory g c =
    c.do_with_coexpressions.ensures.no_memory

pub returns-in-Machine-clause-stack : goal.returns-in-Machine-clause-stack
returns-in-Machine-clause-stack g c = c.do_on_machine.ensures.stack

pub returns-in-Coexpression-clause-stack : goal.returns-in-Coexpression-clause-stack
returns-in-Coexpression-clause-stack g c = c.do_with_coexpressions.ensures.stack

pub returns-in-World-clause-stack : goal.returns-in-World-clause-stack
returns-in-World-clause-stack g c =
    let m = c.args.m.now in
    let after : Machine g.row.K.Denot
    = record { world = c.do_in_world.new.world; stacks = with_stack m.stacks c.do_in_world.new.frames; turns = m.turns; begun = m.begun; limits = m.limits } in
    world_stack after (tables_of c.args.code.now) c.args.instr m.world c.frames.result.now.flat c.do_in_world.new.world
    c.do_in_world.new.frames.flat c.do_in_world.result (store_seen (tables_of c.args.code.now) c.requires.goes_on.0 m) refl refl c.do_in_world.ensures.step
