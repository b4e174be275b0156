use Rattle.std.proofs.Common.{inl, inr, ◌∙◌, sym, ap, subst, ℕ, List, [], ◌++◌, map, length, arith}
use Rattle.std.specs.List.{Contains}
use Rattle.std.proofs.lemmas.List.Elements.{Contains-append_cases, Contains-append_left, Contains-append_right}
use Rattle.std.proofs.lemmas.Result.{on_ok_weaker}
use Rattle.icn_value.specs.declared.val.Val.{Val}
use Rattle.icn_value.specs.Store.{World as StoreWorld}
use Rattle.icn_heap.specs.Heaps.{extent_of}
use Rattle.icn_heap.specs.NeededValues.{needed_structures}
use Rattle.icn_heap.proofs.CollectedHeaps.{leaves_more}
use Rattle.icn_heap.proofs.MarkedStructures.{in_none}
use Rattle.icn_vars.specs.NeededItems.{world_vals}
use Rattle.icn_vars.specs.Worlds.{Reach, world_of}
use Rattle.icn_run.specs.Stacks.{Frames}
use Rattle.icn_run.specs.Step as runs
use Rattle.icn_run.specs.Step.{Store, all_names}
use Rattle.icn_control.specs.Machines.{AreLiveStacks, coexp_in, world_reach}
use Rattle.icn_control.specs.NeededStacks.{stacks_vals}
use Rattle.icn_control.specs.ResultCounts.{FitTurns}
use Rattle.icn_control.proofs.CollectedStacks.{stacks_live, text_means, value_means}
use Rattle.icn_control.proofs.SameReadings.{coexps_same, running_same}
use Rattle.icn_control.proofs.StackValues.{stacks_held}
use Rattle.icn_control.proofs.machine.Machine.collect.Goals as goal

pub collect-requires : goal.collect-requires
collect-requires g c =
    let old = c.args.self.now in
    c.in_ok-add_stacks.ensures.of_heap (extent_of old.world.heap)
    (stacks_held (world_reach old) c.requires.0 old.stacks.table c.requires.1.stacks)
    (c.new-needed.ensures.of_heap (extent_of old.world.heap))

pub returns-clause-stack : goal.returns-clause-stack
returns-clause-stack g c =
    let old = c.args.self.now in
    let all = extent_of c.collect.new.self.heap in
    let means = c.collect.ensures.means in
    running_same (world_reach old) all (value_means (extent_of old.world.heap) all means) (text_means (extent_of old.world.heap) all means)
    c.requires.0 old.stacks.table.running c.requires.1.stacks.runs

pub returns-clause-store : goal.returns-clause-store
returns-clause-store g c = λ tables outside.
    let old = c.args.self.now in
    let all = extent_of c.collect.new.self.heap in
    let means = c.collect.ensures.means in
    let F : StoreWorld → List (runs.Coexp Frames)
    → Store Frames = λ w cs. record {
      world = w;
      outside = outside;
      turns = old.turns;
      begun = old.begun.items;
      coexps = cs;
      active = old.stacks.table.active;
      names = all_names tables;
    } in
    ap (λ (w : StoreWorld). F w (map (coexp_in all) old.stacks.table.coexps)) c.collect.ensures.world
    ∙ ap (F (world_of old.world))
    (coexps_same (world_reach old) all (value_means (extent_of old.world.heap) all means) (text_means (extent_of old.world.heap) all means)
    c.requires.0 old.stacks.table.coexps c.requires.1.stacks.coexps)

pub returns-clause-sound : goal.returns-clause-sound
returns-clause-sound g c = λ tables is.
    let old = c.args.self.now in
    let all = extent_of c.collect.new.self.heap in
    let same = c.collect.ensures.world in
    record {
      stacks =
          subst (λ (r : Reach). AreLiveStacks tables r old.stacks.table) (sym (c.collect.ensures.reach []))
          (stacks_live (world_reach old) all c.add_stacks.new.needed c.collect.ensures.means c.collect.ensures.live tables
          old.stacks.table is.stacks c.in_ok-add_stacks.ensures.each);
      bounds = ap (λ (w : StoreWorld). w.heap.bounds) same ∙ is.bounds;
      counts = ap (λ (w : StoreWorld). length w.heap.coexps) same ∙ is.counts;
      counted = record {
        results =
            subst (λ (counts : List ℕ). FitTurns old.turns old.stacks.table.active counts)
            (sym (ap (λ (w : StoreWorld). w.heap.coexps) same)) is.counted.results;
        activators = is.counted.activators;
      };
    }

pub returns-clause-reached : goal.returns-clause-reached
returns-clause-reached g c =
    let old = c.args.self.now in
    let stacks : List Val = stacks_vals old.stacks.table in
    let world : List Val = world_vals old.world in
    let added : List Val = needed_structures c.add_stacks.new.needed in
    on_ok_weaker c.collect.result
    (leaves_more old.world.heap c.collect.new.self.heap (added ++ world) (stacks ++ world)
    (λ val is. elim (Contains-append_cases added world val is) [
      | inl among ↦ elim (c.in_ok-add_stacks.ensures.only val among) [
        | inl was ↦ absurd (in_none val (subst (λ (vals : List Val). Contains vals val) c.new-needed.ensures.none was))
        | inr one ↦ Contains-append_left stacks world val one
      ]
      | inr one ↦ Contains-append_right stacks world val one
    ])) c.collect.ensures.reached

pub returns-clause-few : goal.returns-clause-few
returns-clause-few g c =
    on_ok_weaker c.collect.result (λ few. omega (arith, few, c.new-needed.ensures.bytes, c.in_ok-add_stacks.ensures.bytes)) c.collect.ensures.few
