use Rattle.std.proofs.Common.{◌≡◌, ℕ, true, nat_lt, [], sym, ap, ◌∙◌, add-one, refl}
use Rattle.icn_value.specs.Limited.{Bounds}
use Rattle.icn_heap.specs.Heaps.{extent_of, heap_of}
use Rattle.icn_vars.specs.Worlds.{reach_of, world_of}
use Rattle.icn_coexp.specs.Transfers.{CoexpTable}
use Rattle.icn_run.specs.Stacks.{Frames}
use Rattle.icn_run.specs.Step.{State, failing, hopping, all_names}
use Rattle.icn_control.specs.Machines.{running_of, store_in}
use Rattle.icn_control.specs.StackViews.{stack_in}
use Rattle.icn_control.specs.TransfersRead.{Beside}
use Rattle.icn_control.proofs.ExhaustSteps.{exhausts, lands_failing, lands_hopping, turned, nat_lt_true}
use Rattle.icn_control.proofs.CountedSteps.{exhaust_others, turn_fits}
use Rattle.icn_control.proofs.LiveTables.{exhaust_live, exhaust_length}
use Rattle.icn_control.proofs.RunningStacks.{moved_runs, not_moved_waits}
use Rattle.icn_control.proofs.hops.pass_failure.Goals as goal

pub returns-then-is_moved-clause-step : goal.returns-then-is_moved-clause-step
returns-then-is_moved-clause-step g c tables outside old =
    let m = c.args.m.now in
    let u : CoexpTable = c.exhaust-went.new.self.table in
    let beside : Beside =
    record { names = all_names tables; outside = outside; world = world_of m.world; turns = m.turns; begun = m.begun.items; all = extent_of m.world.heap } in
    let more : nat_lt m.turns (heap_of m.world.heap).bounds.turns ≡ true
    = ap (λ (x : Bounds). nat_lt m.turns x.turns) c.requires.bounds ∙ nat_lt_true m.turns m.limits.turns c.if-m.false in
    let F : ℕ → State Frames Frames = λ n. failing (stack_in (extent_of m.world.heap) (running_of u.running))
    (store_in (all_names tables) outside (world_of m.world) n m.begun.items (extent_of m.world.heap) u) in
    exhausts beside tables m.stacks.table u old more c.exhaust-went.ensures.table
    ∙ lands_failing (turned beside) old u c.exhaust-went.result c.exhaust-went.ensures.went (sym c.is_moved.ensures ∙ c.if-is_moved.true)
    ∙ ap F (sym (add-one m.turns))

pub returns-then-is_moved-clause-keeps : goal.returns-then-is_moved-clause-keeps
returns-then-is_moved-clause-keeps g c = record {
  sound = λ tables k. (
      let m = c.args.m.now in
      let u : CoexpTable = c.exhaust-went.new.self.table in
      record {
        stacks = exhaust_live tables
            (reach_of c.args.m.now.world []) c.args.m.now.stacks.table c.exhaust-went.new.self.table c.exhaust-went.ensures.table k.stacks;
        bounds = k.bounds;
        counts = k.counts ∙ sym (exhaust_length c.args.m.now.stacks.table c.exhaust-went.new.self.table c.exhaust-went.ensures.table);
        counted = record {
          results = turn_fits m.turns m.stacks.table.active u.active (heap_of m.world.heap).coexps k.counted.results;
          activators = exhaust_others m.stacks.table u c.exhaust-went.ensures.table k.counted.activators;
        };
      });
  limits = refl;
  stack = moved_runs c.exhaust-went.new.self.table.running c.exhaust-went.result c.exhaust-went.ensures.went (sym c.is_moved.ensures ∙ c.if-is_moved.true);
}

pub returns-else-is_moved-clause-step : goal.returns-else-is_moved-clause-step
returns-else-is_moved-clause-step g c tables outside old =
    let m = c.args.m.now in
    let u : CoexpTable = c.exhaust-went.new.self.table in
    let beside : Beside =
    record { names = all_names tables; outside = outside; world = world_of m.world; turns = m.turns; begun = m.begun.items; all = extent_of m.world.heap } in
    let more : nat_lt m.turns (heap_of m.world.heap).bounds.turns ≡ true
    = ap (λ (x : Bounds). nat_lt m.turns x.turns) c.requires.bounds ∙ nat_lt_true m.turns m.limits.turns c.if-m.false in
    let F : ℕ → State Frames Frames = λ n. hopping old (store_in (all_names tables) outside (world_of m.world) n m.begun.items (extent_of m.world.heap) u) in (
      old,
      exhausts beside tables m.stacks.table u old more c.exhaust-went.ensures.table
          ∙ lands_hopping (turned beside) old u c.exhaust-went.result c.exhaust-went.ensures.went (sym c.is_moved.ensures ∙ c.if-is_moved.false)
          ∙ ap F (sym (add-one m.turns)),
    )

pub returns-else-is_moved-clause-keeps : goal.returns-else-is_moved-clause-keeps
returns-else-is_moved-clause-keeps g c = record {
  sound = λ tables k. (
      let m = c.args.m.now in
      let u : CoexpTable = c.exhaust-went.new.self.table in
      record {
        stacks = exhaust_live tables
            (reach_of c.args.m.now.world []) c.args.m.now.stacks.table c.exhaust-went.new.self.table c.exhaust-went.ensures.table k.stacks;
        bounds = k.bounds;
        counts = k.counts ∙ sym (exhaust_length c.args.m.now.stacks.table c.exhaust-went.new.self.table c.exhaust-went.ensures.table);
        counted = record {
          results = turn_fits m.turns m.stacks.table.active u.active (heap_of m.world.heap).coexps k.counted.results;
          activators = exhaust_others m.stacks.table u c.exhaust-went.ensures.table k.counted.activators;
        };
      });
  limits = refl;
  stack = not_moved_waits c.exhaust-went.new.self.table.running c.exhaust-went.result c.exhaust-went.ensures.went (sym c.is_moved.ensures
      ∙ c.if-is_moved.false);
}
