use Rattle.std.proofs.Common.{◌≡◌, [], Some, IsSome, length, sym, ap, ◌∙◌, subst}
use Rattle.icn_value.specs.declared.item.Item.TheVariants.{Val as HeldVal}
use Rattle.icn_value.specs.declared.val.Val.{Val}
use Rattle.icn_heap.specs.Extents.{IsLive}
use Rattle.icn_heap.specs.Heaps.{extent_of, heap_of}
use Rattle.icn_vars.specs.Worlds.{Reach, reach_of, world_of}
use Rattle.icn_frames.specs.Stacks.{FlatStack}
use Rattle.icn_coexp.specs.Transfers.{CoexpTable, active_status}
use Rattle.icn_run.specs.Step.{all_names}
use Rattle.icn_control.specs.ResultCounts.{EnterOthers}
use Rattle.icn_control.specs.TransfersRead.{Beside}
use Rattle.icn_control.specs.LiveStacks.{IsLiveStack}
use Rattle.icn_control.specs.Machines.{AreLiveStacks}
use Rattle.icn_control.proofs.ActivationSteps.{activates_exhausted, activates_other, activates_same}
use Rattle.icn_control.proofs.CountedSteps.{entered_others, turn_used}
use Rattle.icn_control.proofs.Halts.{value_of_some}
use Rattle.icn_control.proofs.LiveCalls.{live_push, own_locals}
use Rattle.icn_control.proofs.LiveTransfers.{enter_length, enter_live, live_value}
use Rattle.icn_control.proofs.MachineSteps.{stacks_on}
use Rattle.icn_coexp.proofs.OthersKept.{entered_runs}
use Rattle.icn_control.proofs.transfers.activate.Goals as goal

pub returns-in-Same-clause-step : goal.returns-in-Same-clause-step
returns-in-Same-clause-step g c tables outside =
    let m = c.args.m.now in
    let t : CoexpTable = m.stacks.table in
    let beside : Beside =
    record { names = all_names tables; outside = outside; world = world_of m.world; turns = m.turns; begun = m.begun.items; all = extent_of m.world.heap } in
    let runs : t.running ≡ Some c.frames.result.now.flat = ap (λ (x : CoexpTable). x.running) (sym c.in-Same.ensures.went.2) ∙ c.frames.ensures.running in
    activates_same beside t c.activate.new.self.table c.frames.result.now.flat c.put.new.frames.flat c.args.id c.args.v c.in-Same.v runs
    (c.active.ensures.one.here ∙ ap active_status runs)
    c.in-Same.ensures.went.0 c.in-Same.ensures.went.1 c.in-Same.ensures.went.2 c.put.ensures.flat

pub returns-in-Same-clause-sound : goal.returns-in-Same-clause-sound
returns-in-Same-clause-sound g c tables h k =
    let m = c.args.m.now in
    let reach : Reach = reach_of m.world [] in
    let u : CoexpTable = c.activate.new.self.table in
    let same : u ≡ m.stacks.table = c.in-Same.ensures.went.2 in
    let f : FlatStack = c.frames.result.now.flat in
    let value = subst (λ (x : Val). IsLive reach.extent x) (sym c.in-Same.ensures.went.1) c.requires.value in
    record {
      stacks = stacks_on tables reach u f c.put.new.frames.flat c.frames.ensures.running
          (λ live. subst (λ (x : FlatStack). IsLiveStack tables reach x) (sym c.put.ensures.flat)
          (live_push tables reach f (HeldVal c.in-Same.v) live (live_value reach (own_locals f) c.in-Same.v value)))
          (subst (λ (x : CoexpTable). AreLiveStacks tables reach x) (sym same) k.stacks);
      bounds = k.bounds;
      counts = k.counts ∙ ap (λ (x : CoexpTable). length x.coexps) (sym same);
      counted = record {
        results = turn_used m.turns u.active (heap_of m.world.heap).coexps h.results;
        activators = subst (λ (x : CoexpTable). EnterOthers x.coexps) (sym c.in-Same.ensures.went.2) h.activators;
      };
    }

pub returns-in-Moved-clause-step : goal.returns-in-Moved-clause-step
returns-in-Moved-clause-step g c tables outside =
    let m = c.args.m.now in
    let t : CoexpTable = m.stacks.table in
    let beside : Beside =
    record { names = all_names tables; outside = outside; world = world_of m.world; turns = m.turns; begun = m.begun.items; all = extent_of m.world.heap } in
    let runs = value_of_some t.running c.requires.runs in
    activates_other beside t c.activate.new.self.table runs.0 c.args.id c.args.v runs.1 c.in-Moved.ensures.went.0 c.in-Moved.ensures.went.1
    c.in-Moved.ensures.went.2

pub returns-in-Moved-clause-sound : goal.returns-in-Moved-clause-sound
returns-in-Moved-clause-sound g c tables h k =
    let m = c.args.m.now in
    let t : CoexpTable = m.stacks.table in
    let u : CoexpTable = c.activate.new.self.table in
    record {
      stacks = enter_live tables (reach_of m.world []) c.args.id c.args.v t u c.in-Moved.ensures.went.2 c.active.ensures.begun c.requires.value k.stacks;
      bounds = k.bounds;
      counts = k.counts ∙ sym (enter_length c.args.id c.args.v t u c.in-Moved.ensures.went.2);
      counted = record {
        results = turn_used m.turns u.active (heap_of m.world.heap).coexps h.results;
        activators = entered_others c.args.id c.args.v m.stacks.table u c.in-Moved.ensures.went.2 c.in-Moved.ensures.went.0 h.activators;
      };
    }

pub returns-in-Exhausted-clause-step : goal.returns-in-Exhausted-clause-step
returns-in-Exhausted-clause-step g c tables outside =
    let m = c.args.m.now in
    let beside : Beside =
    record { names = all_names tables; outside = outside; world = world_of m.world; turns = m.turns; begun = m.begun.items; all = extent_of m.world.heap } in
    activates_exhausted beside m.stacks.table c.activate.new.self.table c.args.id c.args.v c.in-Exhausted.ensures.went.0 c.in-Exhausted.ensures.went.1

pub returns-in-Exhausted-clause-sound : goal.returns-in-Exhausted-clause-sound
returns-in-Exhausted-clause-sound g c tables h k =
    let m = c.args.m.now in
    let same : c.activate.new.self.table ≡ m.stacks.table = c.in-Exhausted.ensures.went.1 in
    let u : CoexpTable = c.activate.new.self.table in
    record {
      stacks = subst (λ (x : CoexpTable). AreLiveStacks tables (reach_of m.world []) x) (sym same) k.stacks;
      bounds = k.bounds;
      counts = k.counts ∙ ap (λ (x : CoexpTable). length x.coexps) (sym same);
      counted = record {
        results = turn_used m.turns u.active (heap_of m.world.heap).coexps h.results;
        activators = subst (λ (x : CoexpTable). EnterOthers x.coexps) (sym c.in-Exhausted.ensures.went.1) h.activators;
      };
    }

pub returns-in-Moved-clause-stack : goal.returns-in-Moved-clause-stack
returns-in-Moved-clause-stack g c =
    entered_runs c.args.id c.args.v c.args.m.now.stacks.table c.activate.new.self.table c.in-Moved.ensures.went.2 c.in-Moved.ensures.went.0
    c.in-Moved.ensures.went.1

pub returns-in-Exhausted-clause-stack : goal.returns-in-Exhausted-clause-stack
returns-in-Exhausted-clause-stack g c = subst (λ (x : CoexpTable). IsSome x.running) (sym c.in-Exhausted.ensures.went.1) c.requires.runs
