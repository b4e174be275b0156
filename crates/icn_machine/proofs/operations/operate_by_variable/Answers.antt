use Rattle.std.proofs.Common.{◌≡◌, ◌+◌, [], ◌∷◌, add-one, ap, nat_lt, refl, true, ◌∙◌, rules}
use Rattle.std.specs.Prelude.{map}
use Rattle.icn_value.specs.Limited.{Bounds}
use Rattle.icn_text.specs.declared.op.Op.TheVariants as Ops
use Rattle.icn_defs.specs.StepRows as rows
use Rattle.law_rows.proofs.EachOfList.{all_of}
use Rattle.icn_heap.specs.Heaps.{extent_of, heap_of}
use Rattle.law_names.specs.NamedSettings.{ItemNamed}
use Rattle.icn_vars.specs.Worlds.{item_in, reach_of}
use Rattle.icn_coexp.specs.Transfers.{with_stack}
use Rattle.law_steps.proofs.CallsNamed as named
use Rattle.icn_control.specs.StackViews.{stack_in}
use Rattle.icn_control.specs.declared.machine.Machine.{Machine}
use Rattle.icn_control.proofs.ExhaustSteps.{nat_lt_true}
use Rattle.icn_control.proofs.LiteralSteps.{running_live}
use Rattle.icn_control.proofs.TakenOperandSteps.{live_taken}
use Rattle.icn_machine.proofs.PerformEvents.{unless_both}
use Rattle.icn_machine.proofs.OperateSteps.{has_stack, named_running, named_taken, operates, performs_on, sound_after, taken_as}
use Rattle.icn_machine.proofs.operations.operate_by_variable.Goals as goal

pub perform_assignment-requires-clause-here : goal.perform_assignment-requires-clause-here
perform_assignment-requires-clause-here g c = record {
  stack = (
      let m = c.args.m.now in
      let two = c.take_two-two in
      let t = c.requires.stands.sound.0 in
      let reach = reach_of m.world [] in
      let f = c.frames.result.now.flat in
      let k = c.frames-2.result.now.flat in
      let items = (two.result.0 ∷ two.result.1 ∷ []) in
      let taken = taken_as 2 2 f two.new.frames.flat k items items two.ensures.taken refl
      c.frames-2.ensures.running refl in (
        t,
        (live_taken t reach 2 f k items taken
            (running_live t reach m.stacks.table f c.frames.ensures.running c.requires.stands.sound.1.stacks)).rest,
      ));
  stack_named = (
      let m = c.args.m.now in
      let two = c.take_two-two in
      let names = g.N.Names.known c.args.names.now in
      let all = extent_of m.world.heap in
      let f = c.frames.result.now.flat in
      let k = c.frames-2.result.now.flat in
      let items = (two.result.0 ∷ two.result.1 ∷ []) in
      let taken = taken_as 2 2 f two.new.frames.flat k items items two.ensures.taken refl
      c.frames-2.ensures.running refl in
      let there = named_taken names all 2 f k items taken
      (named_running names all m.stacks.table f c.frames.ensures.running c.requires.named.stack_named) in
      named.stack_out names (stack_in all k) there.rest);
  world_named = search rules;
}

pub perform_assignment-requires-clause-given : goal.perform_assignment-requires-clause-given
perform_assignment-requires-clause-given g c = record {
  items = (
      let m = c.args.m.now in
      let two = c.take_two-two in
      let t = c.requires.stands.sound.0 in
      let reach = reach_of m.world [] in
      let f = c.frames.result.now.flat in
      let k = c.frames-2.result.now.flat in
      let xs = (two.result.0 ∷ two.result.1 ∷ []) in
      let taken = taken_as 2 2 f two.new.frames.flat k (two.result.0 ∷ two.result.1 ∷ []) xs two.ensures.taken
      refl c.frames-2.ensures.running refl in
      (live_taken t reach 2 f k xs taken
      (running_live t reach m.stacks.table f c.frames.ensures.running c.requires.stands.sound.1.stacks)).items_live);
  items_named = (
      let m = c.args.m.now in
      let two = c.take_two-two in
      let names = g.N.Names.known c.args.names.now in
      let all = extent_of m.world.heap in
      let f = c.frames.result.now.flat in
      let k = two.new.frames.flat in
      let xs = (two.result.0 ∷ two.result.1 ∷ []) in
      let taken = taken_as 2 2 f k k (two.result.0 ∷ two.result.1 ∷ []) xs two.ensures.taken refl refl refl in
      let there = named_taken names all 2 f k xs taken
      (named_running names all m.stacks.table f c.frames.ensures.running c.requires.named.stack_named) in
      all_of (ItemNamed names) (map (item_in all) xs) there.items_named);
}

pub returns-clause-step : goal.returns-clause-step
returns-clause-step g c tables names =
    let m = c.args.m.now in
    let p = c.perform_assignment in
    let two = c.take_two-two in
    let row = rows.apply (g.N.Names.known c.args.names.now) (rows.Operation Ops.Assign)
    (map (item_in (extent_of m.world.heap)) (two.result.0 ∷ two.result.1 ∷ [])) in
    let f = c.frames.result.now.flat in
    let k = c.frames-2.result.now.flat in
    let xs = (two.result.0 ∷ two.result.1 ∷ []) in
    let taken = taken_as 2 2 f two.new.frames.flat k (two.result.0 ∷ two.result.1 ∷ []) xs two.ensures.taken
    refl c.frames-2.ensures.running refl in
    let more : nat_lt m.turns (heap_of m.world.heap).bounds.turns ≡ true
    = ap (λ (x : Bounds). nat_lt m.turns x.turns) c.requires.stands.sound.1.bounds ∙ nat_lt_true m.turns m.limits.turns c.requires.turn in
    let after : Machine g.row.K.Denot
    = record { world = p.new.world; stacks = with_stack m.stacks p.new.frames; turns = m.turns + 1; begun = m.begun; limits = m.limits } in
    performs_on after c.requires.stands.sound.0 tables m.world m.turns m.stacks.table k p.new.frames.flat row _ _ _ p.result
    p.ensures.leaves.kept c.requires.stands.sound.1.stacks refl (add-one m.turns)
    (λ was. operates tables (g.N.Names.known c.args.names.now) m.world m.stacks.table f k xs Ops.Assign after m.turns was (λ q. cc)
    c.frames.ensures.running taken more names)
    p.ensures.row

pub returns-clause-keeps : goal.returns-clause-keeps
returns-clause-keeps g c = record {
  sound = λ tables s. (
      let m = c.args.m.now in
      let p = c.perform_assignment in
      let two = c.take_two-two in
      let reach = reach_of m.world [] in
      let f = c.frames.result.now.flat in
      let k = c.frames-2.result.now.flat in
      let items = (two.result.0 ∷ two.result.1 ∷ []) in
      let taken = taken_as 2 2 f two.new.frames.flat k items items two.ensures.taken refl
      c.frames-2.ensures.running refl in
      let live = (live_taken tables reach 2 f k items taken (running_live tables reach m.stacks.table f c.frames.ensures.running s.stacks)).rest in
      let after : Machine g.row.K.Denot
      = record { world = p.new.world; stacks = with_stack m.stacks p.new.frames; turns = m.turns + 1; begun = m.begun; limits = m.limits } in
      unless_both p.result _ _ _ (p.ensures.live tables live) p.ensures.leaves.counts
      (λ l counts. sound_after m after tables p.new.frames.flat p.ensures.leaves.kept refl refl refl s l counts));
  halt = search rules;
  limits = refl;
  stack = (
      let m = c.args.m.now in
      let p = c.perform_assignment in
      let two = c.take_two-two in
      let row = rows.apply (g.N.Names.known c.args.names.now) (rows.Operation Ops.Assign)
      (map (item_in (extent_of m.world.heap)) (two.result.0 ∷ two.result.1 ∷ [])) in
      let after : Machine g.row.K.Denot
      = record { world = p.new.world; stacks = with_stack m.stacks p.new.frames; turns = m.turns + 1; begun = m.begun; limits = m.limits } in
      has_stack after m.world c.frames-2.result.now.flat p.new.frames.flat row _ _ p.result refl p.ensures.row);
}
