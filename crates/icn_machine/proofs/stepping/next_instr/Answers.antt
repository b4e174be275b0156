use Rattle.std.proofs.Common.{◌≢◌, ap, subst, refl, Option, Some}
use Rattle.icn_value.specs.Store.{Outside, bare_outside}
use Rattle.icn_code.specs.Codes.{Tables}
use Rattle.icn_code.specs.CodeTables.{tables_of}
use Rattle.icn_frames.specs.Stacks.{FlatStack}
use Rattle.icn_heap.specs.Heaps.{extent_of}
use Rattle.icn_run.specs.Stacks.{flat}
use Rattle.icn_run.specs.Step.{running, step, stuck}
use Rattle.icn_control.specs.StackViews.{stack_in}
use Rattle.icn_control.specs.Machines.{running_of, store_seen}
use Rattle.icn_coexp.specs.Transfers.{with_stack}
use Rattle.icn_control.specs.declared.machine.Machine.{Machine}
use Rattle.icn_machine.proofs.DoingSteps.{Moves, doing_here, instr_here, step_here}
use Rattle.icn_machine.proofs.NextSteps.{instr_within, never_running}
use Rattle.icn_machine.proofs.stepping.next_instr.Goals as goal

pub frames-requires : goal.frames-requires
frames-requires g c = c.requires.ready.stack

pub take_instr-requires : goal.take_instr-requires
take_instr-requires g c =
    let tables : Tables = (tables_of c.args.code.now) in
    let o : Outside = bare_outside in
    let d = never_running tables c.args.m.now c.requires.ready.kept o in
    record {
      there = instr_within tables _ c.frames.result.now.flat (store_seen tables o c.args.m.now) (subst (λ (x : Option FlatStack). step flat
          tables (running (stack_in (extent_of c.args.m.now.world.heap) (running_of x)) (store_seen tables o c.args.m.now))
          ≢ stuck) c.frames.ensures.running d);
    }

pub returns-clause-instr : goal.returns-clause-instr
returns-clause-instr g c =
    let m = c.args.m.now in
    let after : Machine g.row.K.Denot
    = record { world = m.world; stacks = with_stack m.stacks c.take_instr.new.frames; turns = m.turns; begun = m.begun; limits = m.limits } in
    let moves : Moves m after c.frames.result.now.flat
    = record {
      runs = c.frames.ensures.running;
      world = refl;
      turns = refl;
      begun = refl;
      limits = refl;
      table = ap (λ (x : FlatStack). record m.stacks.table { running = Some x }) c.take_instr.ensures.flat;
    } in
    instr_here m after c.frames.result.now.flat moves (tables_of c.args.code.now) c.take_instr.result c.take_instr.ensures.instr

pub returns-clause-step : goal.returns-clause-step
returns-clause-step g c outside =
    let m = c.args.m.now in
    let after : Machine g.row.K.Denot
    = record { world = m.world; stacks = with_stack m.stacks c.take_instr.new.frames; turns = m.turns; begun = m.begun; limits = m.limits } in
    let moves : Moves m after c.frames.result.now.flat
    = record {
      runs = c.frames.ensures.running;
      world = refl;
      turns = refl;
      begun = refl;
      limits = refl;
      table = ap (λ (x : FlatStack). record m.stacks.table { running = Some x }) c.take_instr.ensures.flat;
    } in
    step_here m after c.frames.result.now.flat moves (tables_of c.args.code.now) c.take_instr.result c.take_instr.ensures.instr outside

pub returns-clause-doing : goal.returns-clause-doing
returns-clause-doing g c =
    let m = c.args.m.now in
    let after : Machine g.row.K.Denot
    = record { world = m.world; stacks = with_stack m.stacks c.take_instr.new.frames; turns = m.turns; begun = m.begun; limits = m.limits } in
    let moves : Moves m after c.frames.result.now.flat
    = record {
      runs = c.frames.ensures.running;
      world = refl;
      turns = refl;
      begun = refl;
      limits = refl;
      table = ap (λ (x : FlatStack). record m.stacks.table { running = Some x }) c.take_instr.ensures.flat;
    } in
    doing_here m after c.frames.result.now.flat moves (tables_of c.args.code.now) c.take_instr.result c.take_instr.ensures.instr c.args.code.now.rules
    c.requires.ready

pub returns-clause-limits : goal.returns-clause-limits
returns-clause-limits g c = refl

pub returns-clause-past : goal.returns-clause-past
returns-clause-past g c =
    let m = c.args.m.now in
    let f : FlatStack = c.frames.result.now.flat in
    record {
      was = f;
      runs = c.frames.ensures.running;
      world = refl;
      turns = refl;
      begun = refl;
      limits = refl;
      table = ap (λ (x : FlatStack). record m.stacks.table { running = Some x }) c.take_instr.ensures.flat;
    }
