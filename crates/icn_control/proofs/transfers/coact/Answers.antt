use Rattle.std.proofs.Common.{◌≡◌, ◌<◌, ℕ, suc, ◌+◌, true, false, nat_lt, [], Option, IsSome, refl, sym, ap, ◌∙◌, subst, add-one, rules, Some}
use Rattle.std.specs.Prelude.{IfSome}
use Rattle.std.specs.Option.{option_map}
use Rattle.icn_value.specs.Limited.{Bounds}
use Rattle.icn_value.specs.declared.val.Val.{Val}
use Rattle.icn_value.specs.declared.val.Val.TheVariants as Vals
use Rattle.icn_heap.specs.Extents.{IsLive, value_in}
use Rattle.icn_heap.specs.Heaps.{extent_of, heap_of}
use Rattle.icn_vars.specs.Stops.{halt_of}
use Rattle.icn_vars.specs.Worlds.{reach_of, world_of}
use Rattle.icn_frames.specs.Stacks as held
use Rattle.icn_frames.specs.Stacks.{FlatStack}
use Rattle.icn_coexp.specs.Transfers.{with_stack}
use Rattle.icn_run.specs.Rows.{ACoexp}
use Rattle.icn_run.specs.Stacks.{Frames, flat}
use Rattle.icn_run.specs.Step.{State, Store, activation, all_names, errs}
use Rattle.icn_control.specs.declared.machine.Machine.{Machine}
use Rattle.icn_control.specs.Machines.{IsLiveRunning, IsSoundMachine, StandsAt, running_of, store_in}
use Rattle.icn_control.specs.Operands.{with_two}
use Rattle.icn_control.specs.StackViews.{stack_in}
use Rattle.icn_control.proofs.ActivationSteps.{coact_bound, coact_goes, nat_lt_false}
use Rattle.icn_control.proofs.CountedSteps.{turn_had, turn_more}
use Rattle.icn_control.proofs.ExhaustSteps.{nat_lt_true}
use Rattle.icn_control.proofs.Halts.{halt_has_stack, match_stopped, unless_ended, value_of_some, value_error}
use Rattle.icn_control.proofs.MachineSteps.{stacks_on}
use Rattle.icn_control.proofs.OperandSteps.{not_activated, number_is, second_there}
use Rattle.icn_control.proofs.transfers.coact.Goals as goal

pub returns-then-m-clause-step : goal.returns-then-m-clause-step
returns-then-m-clause-step g c tables outside =
    let m = c.args.m.now in
    let t = m.stacks.table in
    let runs = value_of_some t.running c.requires.stands.runs in
    let upper = value_of_some (held.pop runs.0) (subst (λ (x : FlatStack). IsSome (held.pop x)) (ap running_of runs.1) c.requires.upper) in
    let lower = second_there runs.0 upper.0.1 upper.0.0 upper.1
    (subst (λ (x : FlatStack). IfSome (held.pop x) (λ popped. IsSome (held.pop popped.1))) (ap running_of runs.1) c.requires.lower) in
    let none : nat_lt m.turns (heap_of m.world.heap).bounds.turns ≡ false
    = ap (λ (x : Bounds). nat_lt m.turns x.turns) c.requires.stands.sound.1.bounds ∙ nat_lt_false m.turns m.limits.turns c.if-m.true in
    coact_bound tables (all_names tables) outside m.world m.turns m.begun.items t runs.0 upper.0.1 lower.0.1 upper.0.0 lower.0.0 runs.1 none upper.1 lower.1

pub take_two_values-requires-clause-upper : goal.take_two_values-requires-clause-upper
take_two_values-requires-clause-upper g c = subst (λ (x : FlatStack). IsSome (held.pop x)) (ap running_of c.frames.ensures.running) c.requires.upper

pub take_two_values-requires-clause-lower : goal.take_two_values-requires-clause-lower
take_two_values-requires-clause-lower g c =
    subst (λ (x : FlatStack). IfSome (held.pop x) (λ popped. IsSome (held.pop popped.1))) (ap running_of c.frames.ensures.running) c.requires.lower

pub take_two_values-requires-clause-stack : goal.take_two_values-requires-clause-stack
take_two_values-requires-clause-stack g c = (
  c.requires.stands.sound.0,
  subst (λ (o : Option FlatStack). IsLiveRunning c.requires.stands.sound.0 (reach_of c.args.m.now.world []) o) c.frames.ensures.running
      c.requires.stands.sound.1.stacks.runs,
)

pub returns-in_err-two-clause-step : goal.returns-in_err-two-clause-step
returns-in_err-two-clause-step g c tables outside =
    let m = c.args.m.now in
    let w = m.world in
    let f : FlatStack = c.frames.result.now.flat in
    let n : FlatStack = c.take_two_values.new.frames.flat in
    let at : ℕ → Store Frames = λ k. store_in (all_names tables) outside (world_of w) k m.begun.items (extent_of w.heap) m.stacks.table in
    let st : Store Frames = at (suc m.turns) in
    let more : nat_lt m.turns (heap_of w.heap).bounds.turns ≡ true
    = ap (λ (x : Bounds). nat_lt m.turns x.turns) c.requires.stands.sound.1.bounds ∙ nat_lt_true m.turns m.limits.turns c.if-m.false in
    let state : State Frames Frames = with_two (stack_in (extent_of w.heap) f) st (λ first second n. activation flat first second n st) in
    match_stopped c.from_residual.result c.in_err-two.field-0.0 _ _ c.from_residual.ensures.1 tt
    (λ number offending e.
    coact_goes tables (all_names tables) outside w m.turns m.begun.items m.stacks.table f c.frames.ensures.running more
    ∙ value_error state st w (stack_in (extent_of w.heap) n) c.in_err-two.field-0.0 number offending
    (c.in_err-two.ensures.step st (λ first second n. activation flat first second n st) refl) e
    ∙ ap (λ (k : ℕ). errs number (option_map (value_in (extent_of w.heap)) offending) (stack_in (extent_of w.heap) n) (at k)) (sym (add-one m.turns)))

pub returns-in_err-two-clause-keeps : goal.returns-in_err-two-clause-keeps
returns-in_err-two-clause-keeps g c = record {
  sound = λ tables k. (
      let m = c.args.m.now in
      let after : Machine g.row.K.Denot = record {
        world = m.world;
        stacks = with_stack m.stacks c.take_two_values.new.frames;
        turns = m.turns + 1;
        begun = m.begun;
        limits = m.limits;
      } in
      unless_ended c.from_residual.result (IsSoundMachine tables after) (record {
        stacks = stacks_on tables (reach_of m.world []) m.stacks.table c.frames.result.now.flat c.take_two_values.new.frames.flat c.frames.ensures.running
            (λ l. c.take_two_values.ensures.live tables l) k.stacks;
        bounds = k.bounds;
        counts = k.counts;
        counted =
            record { results = turn_more m.turns m.stacks.table.active (heap_of m.world.heap).coexps k.counted.results; activators = k.counted.activators };
      }));
  halt = search rules;
  limits = refl;
  stack = (
      let m = c.args.m.now in
      let after : Machine g.row.K.Denot = record {
        world = m.world;
        stacks = with_stack m.stacks c.take_two_values.new.frames;
        turns = m.turns + 1;
        begun = m.begun;
        limits = m.limits;
      } in
      halt_has_stack after c.from_residual.result (halt_of c.in_err-two.field-0.0) c.from_residual.ensures.1 refl);
}

pub returns-in_default-clause-step : goal.returns-in_default-clause-step
returns-in_default-clause-step g c tables outside =
    let m = c.args.m.now in
    let w = m.world in
    let f : FlatStack = c.frames.result.now.flat in
    let n : FlatStack = c.take_two_values.new.frames.flat in
    let at : ℕ → Store Frames = λ k. store_in (all_names tables) outside (world_of w) k m.begun.items (extent_of w.heap) m.stacks.table in
    let st : Store Frames = at (suc m.turns) in
    let more : nat_lt m.turns (heap_of w.heap).bounds.turns ≡ true
    = ap (λ (x : Bounds). nat_lt m.turns x.turns) c.requires.stands.sound.1.bounds ∙ nat_lt_true m.turns m.limits.turns c.if-m.false in
    coact_goes tables (all_names tables) outside w m.turns m.begun.items m.stacks.table f c.frames.ensures.running more
    ∙ c.in_ok-two.ensures.step st (λ first second n. activation flat first second n st) refl
    ∙ not_activated (extent_of w.heap) (value_in (extent_of w.heap) c.in_ok-two.two.0) c.in_ok-two.two.1 (stack_in (extent_of w.heap) n) st
    (sym c.in_default.is ∙ c.coexp_of.ensures)
    ∙ ap (λ (k : ℕ). errs 118 (Some (value_in (extent_of w.heap) c.in_ok-two.two.1)) (stack_in (extent_of w.heap) n) (at k)) (sym (add-one m.turns))

pub returns-in_default-clause-keeps : goal.returns-in_default-clause-keeps
returns-in_default-clause-keeps g c = record {
  sound = λ tables k. (
      let m = c.args.m.now in
      record {
        stacks = stacks_on tables (reach_of m.world []) m.stacks.table c.frames.result.now.flat c.take_two_values.new.frames.flat c.frames.ensures.running
            (λ l. c.take_two_values.ensures.live tables l) k.stacks;
        bounds = k.bounds;
        counts = k.counts;
        counted =
            record { results = turn_more m.turns m.stacks.table.active (heap_of m.world.heap).coexps k.counted.results; activators = k.counted.activators };
      });
  halt = search rules;
  limits = refl;
  stack = search rules;
}

pub activate-requires-clause-there : goal.activate-requires-clause-there
activate-requires-clause-there g c =
    let is : c.in_ok-two.two.1 ≡ Vals.Coexp c.in-Some.id = number_is c.in_ok-two.two.1 c.in-Some.id (sym c.in-Some.is ∙ c.coexp_of.ensures) in
    subst (λ (n : ℕ). c.in-Some.id < n) c.requires.stands.sound.1.counts
    (c.live_numbers.ensures.coexps c.in-Some.id (subst (λ (x : Val). IsLive (extent_of c.args.m.now.world.heap) x) is c.in_ok-two.ensures.upper))

pub returns-clause-step : goal.returns-clause-step
returns-clause-step g c tables outside =
    let m = c.args.m.now in
    let w = m.world in
    let f : FlatStack = c.frames.result.now.flat in
    let n : FlatStack = c.take_two_values.new.frames.flat in
    let at : ℕ → Store Frames = λ k. store_in (all_names tables) outside (world_of w) k m.begun.items (extent_of w.heap) m.stacks.table in
    let st : Store Frames = at (suc m.turns) in
    let more : nat_lt m.turns (heap_of w.heap).bounds.turns ≡ true
    = ap (λ (x : Bounds). nat_lt m.turns x.turns) c.requires.stands.sound.1.bounds ∙ nat_lt_true m.turns m.limits.turns c.if-m.false in
    let value = value_in (extent_of w.heap) c.in_ok-two.two.0 in
    let is : c.in_ok-two.two.1 ≡ Vals.Coexp c.in-Some.id = number_is c.in_ok-two.two.1 c.in-Some.id (sym c.in-Some.is ∙ c.coexp_of.ensures) in
    subst (λ (s : State Frames Frames). StandsAt tables outside s c.activate.new.m c.activate.result)
    (sym (
    coact_goes tables (all_names tables) outside w m.turns m.begun.items m.stacks.table f c.frames.ensures.running more
    ∙ c.in_ok-two.ensures.step st (λ first second n. activation flat first second n st) refl
    ∙ ap (λ (x : Val). activation flat value (value_in (extent_of w.heap) x) (stack_in (extent_of w.heap) n) st) is
    ∙ ap (λ (k : ℕ). activation flat value (ACoexp c.in-Some.id) (stack_in (extent_of w.heap) n) (at k)) (sym (add-one m.turns))
    ))
    (c.activate.ensures.step tables outside)

pub returns-clause-keeps : goal.returns-clause-keeps
returns-clause-keeps g c = record {
  sound = λ tables k. (
      let m = c.args.m.now in
      let cs = (heap_of m.world.heap).coexps in
      c.activate.ensures.sound tables (record { results = turn_had m.turns m.stacks.table.active cs k.counted.results; activators = k.counted.activators })
      (record {
        stacks = stacks_on tables (reach_of m.world []) m.stacks.table c.frames.result.now.flat c.take_two_values.new.frames.flat c.frames.ensures.running
            (λ l. c.take_two_values.ensures.live tables l) k.stacks;
        bounds = k.bounds;
        counts = k.counts;
        counted = record { results = turn_more m.turns m.stacks.table.active cs k.counted.results; activators = k.counted.activators };
      }));
  halt = search rules;
  limits = c.activate.ensures.limits;
  stack = search rules;
}
