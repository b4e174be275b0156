use Rattle.std.proofs.Common.{◌≡◌, ◌+◌, [], add-one, ap, false, nat_lt, refl, true, ◌∙◌, rules}
use Rattle.icn_value.specs.Limited.{Bounds}
use Rattle.icn_defs.specs.Applying as rows
use Rattle.icn_heap.specs.Heaps.{extent_of, heap_of}
use Rattle.icn_vars.specs.Outcomes.{residual_in}
use Rattle.icn_vars.specs.Worlds.{reach_of}
use Rattle.icn_coexp.specs.Transfers.{with_stack}
use Rattle.icn_control.specs.Machines.{store_seen}
use Rattle.icn_control.specs.declared.machine.Machine.{Machine}
use Rattle.icn_control.proofs.ExhaustSteps.{nat_lt_true}
use Rattle.icn_control.proofs.ListSteps.{nat_lt_false, turn_bound}
use Rattle.icn_control.proofs.LiteralSteps.{running_live}
use Rattle.icn_machine.proofs.PerformEvents.{unless_both}
use Rattle.icn_machine.proofs.OperateSteps.{has_stack, named_running, performs_on, performs_still, rest_running, resumes, sound_after}
use Rattle.icn_machine.proofs.operations.resume.Goals as goal

pub returns-then-m-clause-step : goal.returns-then-m-clause-step
returns-then-m-clause-step g c tables =
    let m = c.args.m.now in
    let none : nat_lt m.turns (heap_of m.world.heap).bounds.turns ≡ false
    = ap (λ (x : Bounds). nat_lt m.turns x.turns) c.requires.stands.sound.1.bounds ∙ nat_lt_false m.turns m.limits.turns c.if-m.true in
    performs_still _ _ _ _ (λ was. turn_bound tables (store_seen tables was m) (store_seen tables was m) _ none refl)

pub returns-then-m-clause-keeps : goal.returns-then-m-clause-keeps
returns-then-m-clause-keeps g c = record {
  sound = λ tables s. s;
  halt = search rules;
  limits = refl;
  stack = search rules;
}

pub returns-then-m-clause-named : goal.returns-then-m-clause-named
returns-then-m-clause-named g c = (c.requires.named.stack_named, c.requires.named.world_named)

pub perform_again-requires-clause-here : goal.perform_again-requires-clause-here
perform_again-requires-clause-here g c = record {
  stack = (
      let m = c.args.m.now in
      let t = c.requires.stands.sound.0 in
      (t, running_live t (reach_of m.world []) m.stacks.table c.frames.result.now.flat c.frames.ensures.running c.requires.stands.sound.1.stacks));
  stack_named = (
      let m = c.args.m.now in
      named_running (g.N.Names.known c.args.names.now) (extent_of m.world.heap) m.stacks.table c.frames.result.now.flat c.frames.ensures.running
      c.requires.named.stack_named);
  world_named = search rules;
}

pub perform_again-requires-clause-rest : goal.perform_again-requires-clause-rest
perform_again-requires-clause-rest g c =
    let m = c.args.m.now in
    rest_running (reach_of m.world []) m.stacks.table c.frames.result.now.flat c.args.rest c.frames.ensures.running c.requires.rest

pub returns-clause-step : goal.returns-clause-step
returns-clause-step g c tables =
    let m = c.args.m.now in
    let row = rows.again (residual_in (extent_of m.world.heap) c.args.rest) in
    let f = c.frames.result.now.flat in
    let more : nat_lt m.turns (heap_of m.world.heap).bounds.turns ≡ true
    = ap (λ (x : Bounds). nat_lt m.turns x.turns) c.requires.stands.sound.1.bounds ∙ nat_lt_true m.turns m.limits.turns c.if-m.false in
    let after : Machine g.row.K.Denot
    = record {
      world = c.perform_again.new.world;
      stacks = with_stack m.stacks c.perform_again.new.frames;
      turns = m.turns + 1;
      begun = m.begun;
      limits = m.limits;
    } in
    performs_on after c.requires.stands.sound.0 tables m.world m.turns m.stacks.table f c.perform_again.new.frames.flat row _ _ _ c.perform_again.result
    c.perform_again.ensures.leaves.kept c.requires.stands.sound.1.stacks refl (add-one m.turns)
    (λ was. resumes tables m.world m.stacks.table f (residual_in (extent_of m.world.heap) c.args.rest) after m.turns was c.frames.ensures.running more)
    c.perform_again.ensures.row

pub returns-clause-keeps : goal.returns-clause-keeps
returns-clause-keeps g c = record {
  sound = λ tables s. (
      let m = c.args.m.now in
      let after : Machine g.row.K.Denot
      = record {
        world = c.perform_again.new.world;
        stacks = with_stack m.stacks c.perform_again.new.frames;
        turns = m.turns + 1;
        begun = m.begun;
        limits = m.limits;
      } in
      let live = running_live tables (reach_of m.world []) m.stacks.table c.frames.result.now.flat c.frames.ensures.running s.stacks in
      unless_both c.perform_again.result _ _ _ (c.perform_again.ensures.live tables live) c.perform_again.ensures.leaves.counts
      (λ l counts. sound_after m after tables c.perform_again.new.frames.flat c.perform_again.ensures.leaves.kept refl refl refl s l counts));
  halt = search rules;
  limits = refl;
  stack = (
      let m = c.args.m.now in
      let row = rows.again (residual_in (extent_of m.world.heap) c.args.rest) in
      let after : Machine g.row.K.Denot
      = record {
        world = c.perform_again.new.world;
        stacks = with_stack m.stacks c.perform_again.new.frames;
        turns = m.turns + 1;
        begun = m.begun;
        limits = m.limits;
      } in
      has_stack after m.world c.frames.result.now.flat c.perform_again.new.frames.flat row _ _ c.perform_again.result refl c.perform_again.ensures.row);
}
