use Rattle.std.proofs.Common.{◌≡◌, ◌<◌, ◌≤◌, ◌+◌, ℕ, suc, true, false, nat_lt, [], List, Option, Some, IsSome, Fits, w64, rules, length, slice_index, slice_set, refl, sym, ap, ◌∙◌, subst, add-one, arith}
use Rattle.std.proofs.lemmas.List.{length-set}
use Rattle.std.specs.Option.{option_map}
use Rattle.icn_value.specs.Limited.{Bounds}
use Rattle.icn_value.specs.declared.val.Val.TheVariants as Vals
use Rattle.icn_value.specs.Store.{Heap}
use Rattle.icn_heap.specs.Extents.{IsLive, value_in}
use Rattle.icn_heap.specs.Heaps.{extent_of, heap_of}
use Rattle.icn_vars.specs.Stops.{halt_of}
use Rattle.icn_vars.specs.Worlds.{reach_of, world_of}
use Rattle.icn_frames.specs.Stacks as held
use Rattle.icn_frames.specs.Stacks.{FlatStack}
use Rattle.icn_coexp.specs.Transfers.{CoexpTable, source, with_stack}
use Rattle.icn_run.specs.Stacks.{Frames, flat}
use Rattle.icn_run.specs.Step.{State, Store, all_names, hopping, result_given, running, errs}
use Rattle.icn_control.specs.ResultCounts.{FitTurns}
use Rattle.icn_control.specs.declared.machine.Machine.{Machine}
use Rattle.icn_control.specs.Machines.{AreLiveStacks, IsLiveRunning, IsSoundMachine, running_of, store_in}
use Rattle.icn_control.specs.Operands.{having_result, with_top}
use Rattle.icn_control.specs.StackViews.{stack_in}
use Rattle.icn_control.proofs.ActivationSteps.{active_there, coret_bound, coret_goes, lands_hops, lands_runs, nat_lt_false, result_passes}
use Rattle.icn_control.proofs.CountedSteps.{count_fits, give_active, give_others, result_fits, turn_more}
use Rattle.icn_control.proofs.CreateSteps.{beside_in}
use Rattle.icn_control.proofs.ExhaustSteps.{nat_lt_true}
use Rattle.icn_control.proofs.Halts.{halt_has_stack, match_stopped, unless_ended, value_of_some, value_error}
use Rattle.icn_control.proofs.KeptTables.{stacks_stay}
use Rattle.icn_control.proofs.LiveTransfers.{coexp_is_live, give_length, give_live}
use Rattle.icn_control.proofs.MachineSteps.{stacks_on}
use Rattle.icn_control.proofs.RunningStacks.{moved_runs, not_moved_waits}
use Rattle.icn_control.proofs.transfers.coret.Goals as goal

pub returns-then-m-clause-step : goal.returns-then-m-clause-step
returns-then-m-clause-step g c tables outside =
    let m = c.args.m.now in
    let t = m.stacks.table in
    let runs = value_of_some t.running c.requires.stands.runs in
    let top = value_of_some (held.pop runs.0) (subst (λ (x : FlatStack). IsSome (held.pop x)) (ap running_of runs.1) c.requires.operand) in
    let none : nat_lt m.turns (heap_of m.world.heap).bounds.turns ≡ false
    = ap (λ (x : Bounds). nat_lt m.turns x.turns) c.requires.stands.sound.1.bounds ∙ nat_lt_false m.turns m.limits.turns c.if-m.true in
    coret_bound tables (all_names tables) outside m.world m.turns m.begun.items t runs.0 top.0.1 top.0.0 runs.1 none top.1
    (sym (ap held.is_base (ap running_of runs.1)) ∙ c.requires.base) c.requires.other

pub take_value-requires-clause-operand : goal.take_value-requires-clause-operand
take_value-requires-clause-operand g c = subst (λ (x : FlatStack). IsSome (held.pop x)) (ap running_of c.frames.ensures.running) c.requires.operand

pub take_value-requires-clause-stack : goal.take_value-requires-clause-stack
take_value-requires-clause-stack g c = (
  c.requires.stands.sound.0,
  subst (λ (o : Option FlatStack). IsLiveRunning c.requires.stands.sound.0 (reach_of c.args.m.now.world []) o) c.frames.ensures.running
      c.requires.stands.sound.1.stacks.runs,
)

pub returns-in_err-v-clause-step : goal.returns-in_err-v-clause-step
returns-in_err-v-clause-step g c tables outside =
    let m = c.args.m.now in
    let w = m.world in
    let f : FlatStack = c.frames.result.now.flat in
    let n : FlatStack = c.take_value.new.frames.flat in
    let at : ℕ → Store Frames = λ k. store_in (all_names tables) outside (world_of w) k m.begun.items (extent_of w.heap) m.stacks.table in
    let st : Store Frames = at (suc m.turns) in
    let more : nat_lt m.turns (heap_of w.heap).bounds.turns ≡ true
    = ap (λ (x : Bounds). nat_lt m.turns x.turns) c.requires.stands.sound.1.bounds ∙ nat_lt_true m.turns m.limits.turns c.if-m.false in
    let state : State Frames Frames = with_top (stack_in (extent_of w.heap) f) st (λ value n. result_given flat value n st) in
    match_stopped c.from_residual.result c.in_err-v.field-0.0 _ _ c.from_residual.ensures.1 tt
    (λ number offending e.
    coret_goes tables (all_names tables) outside w m.turns m.begun.items m.stacks.table f c.frames.ensures.running more
    (sym (ap held.is_base (ap running_of c.frames.ensures.running)) ∙ c.requires.base) c.requires.other
    ∙ value_error state st w (stack_in (extent_of w.heap) n) c.in_err-v.field-0.0 number offending
    (c.in_err-v.ensures.step st (λ value n. result_given flat value n st) refl) e
    ∙ ap (λ (k : ℕ). errs number (option_map (value_in (extent_of w.heap)) offending) (stack_in (extent_of w.heap) n) (at k)) (sym (add-one m.turns)))

pub returns-in_err-v-clause-keeps : goal.returns-in_err-v-clause-keeps
returns-in_err-v-clause-keeps g c = record {
  sound = λ tables k. (
      let m = c.args.m.now in
      let after : Machine g.row.K.Denot = record {
        world = m.world;
        stacks = with_stack m.stacks c.take_value.new.frames;
        turns = m.turns + 1;
        begun = m.begun;
        limits = m.limits;
      } in
      unless_ended c.from_residual.result (IsSoundMachine tables after) (record {
        stacks = stacks_on tables (reach_of m.world []) m.stacks.table c.frames.result.now.flat c.take_value.new.frames.flat c.frames.ensures.running
            (λ l. c.take_value.ensures.live tables l) k.stacks;
        bounds = k.bounds;
        counts = k.counts;
        counted =
            record { results = turn_more m.turns m.stacks.table.active (heap_of m.world.heap).coexps k.counted.results; activators = k.counted.activators };
      }));
  halt = search rules;
  limits = refl;
  stack = (
      let m = c.args.m.now in
      let after : Machine g.row.K.Denot = record {
        world = m.world;
        stacks = with_stack m.stacks c.take_value.new.frames;
        turns = m.turns + 1;
        begun = m.begun;
        limits = m.limits;
      } in
      halt_has_stack after c.from_residual.result (halt_of c.in_err-v.field-0.0) c.from_residual.ensures.1 refl);
}

pub count_result-requires-clause-live : goal.count_result-requires-clause-live
count_result-requires-clause-live g c =
    let m = c.args.m.now in
    let a : ℕ = m.stacks.table.active in
    subst (λ (n : ℕ). IsLive (extent_of m.world.heap) (Vals.Coexp n)) (sym c.active-from.ensures.number)
    (coexp_is_live m.world.heap a
    (subst (λ (n : ℕ). a < n) (sym c.requires.stands.sound.1.counts) (active_there m.stacks.table.coexps a c.active-from.ensures.one.here)))

pub count_result-requires-clause-few : goal.count_result-requires-clause-few
count_result-requires-clause-few g c =
    let m = c.args.m.now in
    let cs = (heap_of m.world.heap).coexps in
    let fits : Fits w64 c.args.m.now.limits.turns = search rules in
    let most : m.limits.turns ≤ 18446744073709551615 = omega (arith, fits) in
    subst (λ (n : ℕ). slice_index cs n < 9223372036854775807) (sym c.active-from.ensures.number)
    (count_fits m.turns m.stacks.table.active m.limits.turns cs c.requires.other c.if-m.false most c.requires.stands.sound.1.counted.results)

pub returns-then-is_moved-clause-step : goal.returns-then-is_moved-clause-step
returns-then-is_moved-clause-step g c tables outside =
    let m = c.args.m.now in
    let w = m.world in
    let v = c.count_result.new.world in
    let f : FlatStack = c.frames.result.now.flat in
    let n : FlatStack = c.take_value.new.frames.flat in
    let table : CoexpTable = record m.stacks.table { running = Some n } in
    let u : CoexpTable = c.give-went.new.self.table in
    let t = c.requires.stands.sound.0 in
    let sound = c.requires.stands.sound.1 in
    let on : AreLiveStacks t (reach_of w []) table = stacks_on t (reach_of w []) m.stacks.table f n c.frames.ensures.running
    (λ l. c.take_value.ensures.live t l) sound.stacks in
    let st : Store Frames = store_in (all_names tables) outside (world_of w) (suc m.turns) m.begun.items (extent_of w.heap) m.stacks.table in
    let F : ℕ → State Frames Frames = λ k. running (stack_in (extent_of v.heap) (running_of u.running))
    (store_in (all_names tables) outside (world_of v) k m.begun.items (extent_of v.heap) u) in
    let more : nat_lt m.turns (heap_of w.heap).bounds.turns ≡ true
    = ap (λ (x : Bounds). nat_lt m.turns x.turns) sound.bounds ∙ nat_lt_true m.turns m.limits.turns c.if-m.false in
    coret_goes tables (all_names tables) outside w m.turns m.begun.items m.stacks.table f c.frames.ensures.running more
    (sym (ap held.is_base (ap running_of c.frames.ensures.running)) ∙ c.requires.base) c.requires.other
    ∙ c.in_ok-v.ensures.step st (λ value n. result_given flat value n st) refl
    ∙ result_passes t (all_names tables) outside w v
    (suc m.turns) m.begun.items table u n c.in_ok-v.v refl c.give-went.ensures.table c.count_result.ensures.kept
    (c.count_result.ensures.world ∙ ap (λ (k : ℕ). having_result k (world_of w)) c.active-from.ensures.number) c.in_ok-v.ensures.value on.runs on.coexps
    ∙ lands_runs (beside_in (all_names tables) outside v (suc m.turns) m.begun.items v)
    (stack_in (extent_of v.heap) n) u c.give-went.result c.give-went.ensures.went (sym c.is_moved.ensures ∙ c.if-is_moved.true)
    ∙ ap F (sym (add-one m.turns))

pub returns-then-is_moved-clause-keeps : goal.returns-then-is_moved-clause-keeps
returns-then-is_moved-clause-keeps g c = record {
  sound = λ tables k. (
      let m = c.args.m.now in
      let w = m.world in
      let v = c.count_result.new.world in
      let f : FlatStack = c.frames.result.now.flat in
      let n : FlatStack = c.take_value.new.frames.flat in
      let table : CoexpTable = record m.stacks.table { running = Some n } in
      let u : CoexpTable = c.give-went.new.self.table in
      let heap = c.count_result.ensures.heap in
      let on : AreLiveStacks tables (reach_of w []) table = stacks_on tables (reach_of w []) m.stacks.table f n c.frames.ensures.running
      (λ l. c.take_value.ensures.live tables l) k.stacks in
      let a : ℕ = m.stacks.table.active in
      let cs : List ℕ = (heap_of m.world.heap).coexps in
      let F : ℕ → List ℕ = λ n. slice_set cs n (slice_index cs n + 1) in
      let fits : FitTurns (m.turns + 1) (source table) (F a) = result_fits m.turns a (source table) cs c.requires.other
      (k.counted.activators a c.requires.other) k.counted.results in
      record {
        stacks = give_live tables (reach_of v []) c.in_ok-v.v table u c.give-went.ensures.table c.active-from.ensures.begun
            (c.count_result.ensures.kept.extent.live c.in_ok-v.v c.in_ok-v.ensures.value)
            (stacks_stay tables (reach_of w []) (reach_of v []) table c.count_result.ensures.kept on);
        bounds = ap (λ (h : Heap). h.bounds) heap ∙ k.bounds;
        counts = ap (λ (h : Heap). length h.coexps) heap
            ∙ length-set (heap_of w.heap).coexps c.active-from.result (slice_index (heap_of w.heap).coexps c.active-from.result + 1) ∙ k.counts
            ∙ sym (give_length c.in_ok-v.v table u c.give-went.ensures.table);
        counted = record {
          results = subst (λ (n : ℕ). FitTurns (m.turns + 1) n (heap_of c.count_result.new.world.heap).coexps)
              (sym (give_active c.in_ok-v.v table u c.give-went.ensures.table))
              (subst (λ (ds : List ℕ). FitTurns (m.turns + 1) (source table) ds)
              (sym (ap (λ (h : Heap). h.coexps) c.count_result.ensures.heap ∙ ap F c.active-from.ensures.number)) fits);
          activators = give_others c.in_ok-v.v table u c.give-went.ensures.table k.counted.activators;
        };
      });
  halt = search rules;
  limits = refl;
  stack = moved_runs c.give-went.new.self.table.running c.give-went.result c.give-went.ensures.went (sym c.is_moved.ensures ∙ c.if-is_moved.true);
}

pub returns-else-is_moved-clause-step : goal.returns-else-is_moved-clause-step
returns-else-is_moved-clause-step g c tables outside =
    let m = c.args.m.now in
    let w = m.world in
    let v = c.count_result.new.world in
    let f : FlatStack = c.frames.result.now.flat in
    let n : FlatStack = c.take_value.new.frames.flat in
    let table : CoexpTable = record m.stacks.table { running = Some n } in
    let u : CoexpTable = c.give-went.new.self.table in
    let t = c.requires.stands.sound.0 in
    let sound = c.requires.stands.sound.1 in
    let on : AreLiveStacks t (reach_of w []) table = stacks_on t (reach_of w []) m.stacks.table f n c.frames.ensures.running
    (λ l. c.take_value.ensures.live t l) sound.stacks in
    let st : Store Frames = store_in (all_names tables) outside (world_of w) (suc m.turns) m.begun.items (extent_of w.heap) m.stacks.table in
    let old : Frames = stack_in (extent_of v.heap) n in
    let F : ℕ → State Frames Frames = λ k. hopping old (store_in (all_names tables) outside (world_of v) k m.begun.items (extent_of v.heap) u) in
    let more : nat_lt m.turns (heap_of w.heap).bounds.turns ≡ true
    = ap (λ (x : Bounds). nat_lt m.turns x.turns) sound.bounds ∙ nat_lt_true m.turns m.limits.turns c.if-m.false in (
      old,
      coret_goes tables (all_names tables) outside w m.turns m.begun.items m.stacks.table f c.frames.ensures.running more
          (sym (ap held.is_base (ap running_of c.frames.ensures.running)) ∙ c.requires.base) c.requires.other
          ∙ c.in_ok-v.ensures.step st (λ value n. result_given flat value n st) refl
          ∙ result_passes t (all_names tables) outside w v
          (suc m.turns) m.begun.items table u n c.in_ok-v.v refl c.give-went.ensures.table c.count_result.ensures.kept
          (c.count_result.ensures.world ∙ ap (λ (k : ℕ). having_result k (world_of w)) c.active-from.ensures.number) c.in_ok-v.ensures.value on.runs on.coexps
          ∙ lands_hops (beside_in (all_names tables) outside v (suc m.turns) m.begun.items v) old u c.give-went.result c.give-went.ensures.went
          (sym c.is_moved.ensures ∙ c.if-is_moved.false)
          ∙ ap F (sym (add-one m.turns)),
    )

pub returns-else-is_moved-clause-keeps : goal.returns-else-is_moved-clause-keeps
returns-else-is_moved-clause-keeps g c = record {
  sound = λ tables k. (
      let m = c.args.m.now in
      let w = m.world in
      let v = c.count_result.new.world in
      let f : FlatStack = c.frames.result.now.flat in
      let n : FlatStack = c.take_value.new.frames.flat in
      let table : CoexpTable = record m.stacks.table { running = Some n } in
      let u : CoexpTable = c.give-went.new.self.table in
      let heap = c.count_result.ensures.heap in
      let on : AreLiveStacks tables (reach_of w []) table = stacks_on tables (reach_of w []) m.stacks.table f n c.frames.ensures.running
      (λ l. c.take_value.ensures.live tables l) k.stacks in
      let a : ℕ = m.stacks.table.active in
      let cs : List ℕ = (heap_of m.world.heap).coexps in
      let F : ℕ → List ℕ = λ n. slice_set cs n (slice_index cs n + 1) in
      let fits : FitTurns (m.turns + 1) (source table) (F a) = result_fits m.turns a (source table) cs c.requires.other
      (k.counted.activators a c.requires.other) k.counted.results in
      record {
        stacks = give_live tables (reach_of v []) c.in_ok-v.v table u c.give-went.ensures.table c.active-from.ensures.begun
            (c.count_result.ensures.kept.extent.live c.in_ok-v.v c.in_ok-v.ensures.value)
            (stacks_stay tables (reach_of w []) (reach_of v []) table c.count_result.ensures.kept on);
        bounds = ap (λ (h : Heap). h.bounds) heap ∙ k.bounds;
        counts = ap (λ (h : Heap). length h.coexps) heap
            ∙ length-set (heap_of w.heap).coexps c.active-from.result (slice_index (heap_of w.heap).coexps c.active-from.result + 1) ∙ k.counts
            ∙ sym (give_length c.in_ok-v.v table u c.give-went.ensures.table);
        counted = record {
          results = subst (λ (n : ℕ). FitTurns (m.turns + 1) n (heap_of c.count_result.new.world.heap).coexps)
              (sym (give_active c.in_ok-v.v table u c.give-went.ensures.table))
              (subst (λ (ds : List ℕ). FitTurns (m.turns + 1) (source table) ds)
              (sym (ap (λ (h : Heap). h.coexps) c.count_result.ensures.heap ∙ ap F c.active-from.ensures.number)) fits);
          activators = give_others c.in_ok-v.v table u c.give-went.ensures.table k.counted.activators;
        };
      });
  halt = search rules;
  limits = refl;
  stack = not_moved_waits c.give-went.new.self.table.running c.give-went.result c.give-went.ensures.went (sym c.is_moved.ensures ∙ c.if-is_moved.false);
}
