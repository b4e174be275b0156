use Rattle.std.proofs.Common.{rules}
use Rattle.std.specs.Prelude.{[], map}
use Rattle.icn_value.specs.Store.{bare_outside}
use Rattle.icn_heap.specs.Extents.{value_in}
use Rattle.icn_heap.specs.Heaps.{extent_of}
use Rattle.icn_vars.specs.Outcomes.{outcome_of}
use Rattle.icn_vars.specs.Worlds.{reach_of, setting_of}
use Rattle.icn_frames.specs.Stacks as flat
use Rattle.law_steps.proofs.RowCounts.{rows_keep_counts}
use Rattle.icn_control.proofs.Halts.{unless_ended}
use Rattle.icn_machine.proofs.PerformSteps.{counts_after, counts_halted, given_row, halt_live, halted_row, kept_after, named_with, names_halted, outcome_live, performs_lack, sizes_halted, stack_live}
use Rattle.icn_machine.proofs.performing.perform_once.Goals as goal

pub returns-in_err-outcome-clause-row : goal.returns-in_err-outcome-clause-row
returns-in_err-outcome-clause-row g c =
    halted_row c.requires.here.stack.0 c.from_residual.result c.args.world.now c.answer_in.new.world c.args.frames.now.flat c.answer_in.new.frames.flat _ _ _
    c.in_err-outcome.field-0.0 c.from_residual.ensures.1 c.in_err-outcome.ensures.applies c.in_err-outcome.ensures.stack c.requires.here.stack.1

pub returns-in_err-outcome-clause-live : goal.returns-in_err-outcome-clause-live
returns-in_err-outcome-clause-live g c tables live =
    unless_ended c.from_residual.result _
    (stack_live tables c.args.world.now c.answer_in.new.world c.args.frames.now.flat c.answer_in.new.frames.flat _ _ _ _ c.in_err-outcome.ensures.applies
    c.in_err-outcome.ensures.stack live)

pub returns-in_err-outcome-clause-leaves : goal.returns-in_err-outcome-clause-leaves
returns-in_err-outcome-clause-leaves g c = record {
  kept = kept_after c.args.world.now c.answer_in.new.world c.args.frames.now.flat c.answer_in.new.frames.flat _ _ _ _ c.in_err-outcome.ensures.applies;
  counts =
      counts_halted c.from_residual.result c.args.world.now c.answer_in.new.world c.args.frames.now.flat c.answer_in.new.frames.flat _ _ _
      c.in_err-outcome.field-0.0 c.from_residual.ensures.1
      (rows_keep_counts.functions (g.N.Names.known c.args.names.now) c.args.func (map (value_in (extent_of c.args.world.now.heap)) c.args.vals.now))
      c.in_err-outcome.ensures.applies;
  halt = (
      halt_live c.from_residual.result c.args.world.now c.answer_in.new.world c.args.frames.now.flat c.answer_in.new.frames.flat _ _ _
      c.in_err-outcome.field-0.0 c.from_residual.ensures.1 c.in_err-outcome.ensures.applies);
}

pub returns-in_err-outcome-clause-sized : goal.returns-in_err-outcome-clause-sized
returns-in_err-outcome-clause-sized g c =
    sizes_halted c.from_residual.result c.args.world.now c.answer_in.new.world c.in_err-outcome.field-0.0 c.from_residual.ensures.1
    c.in_err-outcome.ensures.sized

pub returns-in_err-outcome-clause-named : goal.returns-in_err-outcome-clause-named
returns-in_err-outcome-clause-named g c =
    names_halted c.requires.here.stack.0 c.from_residual.result (g.N.Names.known c.args.names.now) c.args.world.now c.answer_in.new.world
    c.args.frames.now.flat c.answer_in.new.frames.flat _ _ _ c.in_err-outcome.field-0.0 c.from_residual.ensures.1 c.in_err-outcome.ensures.applies
    c.in_err-outcome.ensures.stack c.requires.here.stack.1 c.requires.here.stack_named c.in_err-outcome.ensures.named

pub returns-in-Ok-clause-row : goal.returns-in-Ok-clause-row
returns-in-Ok-clause-row g c =
    let w = c.args.world.now in
    let v = c.answer_in.new.world in
    let m = c.args.frames.now.flat in
    let k = c.answer_in.new.frames.flat in
    given_row c.requires.here.stack.0 w v m k c.give_value.new.frames.flat _ _ _ (outcome_of c.in_ok-outcome.outcome) c.in-Ok.stage c.in_ok-outcome.ensures.applies
    c.in_ok-outcome.ensures.stack c.requires.here.stack.1 c.in-Ok.ensures.gives

pub returns-in-Ok-clause-live : goal.returns-in-Ok-clause-live
returns-in-Ok-clause-live g c tables live =
    let w = c.args.world.now in
    let v = c.answer_in.new.world in
    let m = c.args.frames.now.flat in
    let k = c.answer_in.new.frames.flat in
    c.in-Ok.ensures.live tables (reach_of v []) (stack_live tables w v m k _ _ _ _ c.in_ok-outcome.ensures.applies c.in_ok-outcome.ensures.stack live)
    (outcome_live w v m k _ _ _ (outcome_of c.in_ok-outcome.outcome) c.local_count.result c.in_ok-outcome.ensures.applies c.local_count.ensures.count
    c.local_count.ensures.all)

pub returns-in-Ok-clause-leaves : goal.returns-in-Ok-clause-leaves
returns-in-Ok-clause-leaves g c = record {
  kept = kept_after c.args.world.now c.answer_in.new.world c.args.frames.now.flat c.answer_in.new.frames.flat _ _ _ _ c.in_ok-outcome.ensures.applies;
  counts = (
      counts_after c.args.world.now c.answer_in.new.world c.args.frames.now.flat c.answer_in.new.frames.flat _ _ _ (outcome_of c.in_ok-outcome.outcome)
      (rows_keep_counts.functions (g.N.Names.known c.args.names.now) c.args.func (map (value_in (extent_of c.args.world.now.heap)) c.args.vals.now))
      c.in_ok-outcome.ensures.applies);
  halt = search rules;
}

pub returns-in-Ok-clause-named : goal.returns-in-Ok-clause-named
returns-in-Ok-clause-named g c =
    let names = g.N.Names.known c.args.names.now in
    let v = c.answer_in.new.world in
    let k = c.answer_in.new.frames.flat in
    let there =
    named_with c.requires.here.stack.0 names c.args.world.now v c.args.frames.now.flat k _ _ _ (outcome_of c.in_ok-outcome.outcome) c.in_ok-outcome.ensures.applies
    c.in_ok-outcome.ensures.stack c.requires.here.stack.1 c.requires.here.stack_named c.in_ok-outcome.ensures.named
    in
    (c.in-Ok.ensures.named names (extent_of v.heap) (setting_of bare_outside v (flat.locals k)) there.stack there.outcome, there.world)

pub returns-in-Err-clause-row : goal.returns-in-Err-clause-row
returns-in-Err-clause-row g c =
    performs_lack c.args.world.now c.answer_in.new.world c.args.frames.now.flat c.answer_in.new.frames.flat c.give_value.new.frames.flat _ _ _
    (outcome_of c.in_ok-outcome.outcome) c.in_ok-outcome.ensures.applies

pub returns-in-Err-clause-leaves : goal.returns-in-Err-clause-leaves
returns-in-Err-clause-leaves g c = record {
  kept = kept_after c.args.world.now c.answer_in.new.world c.args.frames.now.flat c.answer_in.new.frames.flat _ _ _ _ c.in_ok-outcome.ensures.applies;
  counts = search rules;
  halt = search rules;
}
