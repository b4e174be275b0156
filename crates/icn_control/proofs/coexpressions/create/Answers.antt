use Rattle.std.proofs.Common.{◌≡◌, ◌<◌, ◌^◌, ℕ, suc, ◌+◌, true, nat_lt, [], Some, length, refl, sym, ap, ◌∙◌, subst, add-one, rules}
use Rattle.icn_value.specs.Limited.{Bounds}
use Rattle.icn_value.specs.declared.val.Val.TheVariants.{Coexp as HeldCoexp}
use Rattle.icn_value.specs.Store.{Heap}
use Rattle.std.specs.Prelude.{slice_index}
use Rattle.icn_heap.specs.Extents.{IsLive}
use Rattle.icn_heap.specs.Heaps.{extent_of, heap_of}
use Rattle.icn_vars.specs.Stops.{halt_of}
use Rattle.icn_vars.specs.Worlds.{reach_of}
use Rattle.icn_frames.specs.Stacks as held
use Rattle.icn_frames.specs.Stacks.{FlatStack}
use Rattle.icn_coexp.specs.Transfers.{CoexpTable, with_stack}
use Rattle.icn_run.specs.Step.{all_names}
use Rattle.icn_control.specs.declared.machine.Machine.{Machine}
use Rattle.icn_control.specs.LiveStacks.{IsLiveStack}
use Rattle.icn_control.specs.Machines.{IsSoundMachine}
use Rattle.icn_control.specs.ResultCounts.{EnterOthers}
use Rattle.icn_control.proofs.CountedSteps.{new_others, same_counts, turn_more}
use Rattle.icn_control.proofs.CreateSteps.{create_errs, create_runs}
use Rattle.icn_control.proofs.OperandValues.{live_locals}
use Rattle.icn_control.proofs.ExhaustSteps.{nat_lt_true}
use Rattle.icn_control.proofs.Halts.{halt_has_stack, match_stopped, running_live, unless_ended}
use Rattle.icn_control.proofs.KeptTables.{stacks_stay}
use Rattle.icn_control.proofs.LiveTransfers.{created_length, created_live}
use Rattle.icn_control.proofs.MachineSteps.{stacks_on}
use Rattle.icn_control.proofs.RunningStacks.{created_runs}
use Rattle.icn_control.specs.StackViews.{stack_in}
use Rattle.icn_control.proofs.coexpressions.create.Goals as goal

pub returns-in_err-charge_coexp-clause-step : goal.returns-in_err-charge_coexp-clause-step
returns-in_err-charge_coexp-clause-step g c tables outside =
    let m = c.args.m.now in
    let w = m.world in
    let v = c.charge_coexp.new.world in
    let f : FlatStack = c.frames.result.now.flat in
    let t = c.requires.stands.sound.0 in
    let sound = c.requires.stands.sound.1 in
    let live : IsLiveStack t (reach_of w []) f = running_live t (reach_of w []) m.stacks.table f c.frames.ensures.running sound.stacks in
    let more : nat_lt m.turns (heap_of w.heap).bounds.turns ≡ true
    = ap (λ (x : Bounds). nat_lt m.turns x.turns) sound.bounds ∙ nat_lt_true m.turns m.limits.turns c.if-m.false in
    match_stopped c.from_residual.result c.in_err-charge_coexp.field-0.0 _ _ c.from_residual.ensures.1 tt
    (λ number offending e.
    create_errs t tables w v f c.args.label c.local_count-count.result number offending c.in_err-charge_coexp.field-0.0 (all_names tables) outside m.turns
    (m.turns + 1) m.begun.items m.stacks.table
    (record m.stacks.table { running = Some f }) (stack_in (extent_of v.heap) f) c.frames.ensures.running more
    c.charge_coexp.ensures.kept live sound.stacks.coexps
    c.local_count-count.ensures.all
    (c.in_err-charge_coexp.ensures.row outside (held.locals f) (live_locals t (reach_of w []) f live)) e)

pub returns-in_err-charge_coexp-clause-keeps : goal.returns-in_err-charge_coexp-clause-keeps
returns-in_err-charge_coexp-clause-keeps g c = record {
  sound = λ tables k. (
      let m = c.args.m.now in
      let v = c.charge_coexp.new.world in
      let f : FlatStack = c.frames.result.now.flat in
      let cs = (heap_of m.world.heap).coexps in
      let ds = (heap_of v.heap).coexps in
      let heap : heap_of v.heap ≡ heap_of m.world.heap = c.in_err-charge_coexp.ensures.unchanged in
      let same : (n : ℕ) → slice_index ds n ≡ slice_index cs n = λ n. ap (λ (h : Heap). slice_index h.coexps n) heap in
      let after : Machine g.row.K.Denot = record {
        world = v;
        stacks = with_stack m.stacks c.frames.result.now;
        turns = m.turns + 1;
        begun = m.begun;
        limits = m.limits;
      } in
      unless_ended c.from_residual.result (IsSoundMachine tables after) (record {
        stacks = stacks_stay tables (reach_of m.world []) (reach_of v []) (record m.stacks.table { running = Some f }) c.charge_coexp.ensures.kept
            (stacks_on tables (reach_of m.world []) m.stacks.table f f c.frames.ensures.running (λ l. l) k.stacks);
        bounds = ap (λ (h : Heap). h.bounds) heap ∙ k.bounds;
        counts = ap (λ (h : Heap). length h.coexps) heap ∙ k.counts;
        counted = record {
          results = same_counts (m.turns + 1) m.stacks.table.active m.stacks.table.active cs ds same refl
              (turn_more m.turns m.stacks.table.active cs k.counted.results);
          activators = k.counted.activators;
        };
      }));
  halt = search rules;
  limits = refl;
  stack = (
      let m = c.args.m.now in
      let after : Machine g.row.K.Denot = record {
        world = c.charge_coexp.new.world;
        stacks = with_stack m.stacks c.frames.result.now;
        turns = m.turns + 1;
        begun = m.begun;
        limits = m.limits;
      } in
      halt_has_stack after c.from_residual.result (halt_of c.in_err-charge_coexp.field-0.0) c.from_residual.ensures.1 refl);
}

pub add_here-requires-clause-few : goal.add_here-requires-clause-few
add_here-requires-clause-few g c = subst (λ (n : ℕ). n < 2 ^ 32) c.requires.stands.sound.1.counts c.in_ok-charge_coexp.ensures.few

pub returns-in-Ok-clause-step : goal.returns-in-Ok-clause-step
returns-in-Ok-clause-step g c tables outside =
    let m = c.args.m.now in
    let w = m.world in
    let v = c.charge_coexp.new.world in
    let f : FlatStack = c.frames.result.now.flat in
    let t = c.requires.stands.sound.0 in
    let sound = c.requires.stands.sound.1 in
    let live : IsLiveStack t (reach_of w []) f = running_live t (reach_of w []) m.stacks.table f c.frames.ensures.running sound.stacks in
    let more : nat_lt m.turns (heap_of w.heap).bounds.turns ≡ true
    = ap (λ (x : Bounds). nat_lt m.turns x.turns) sound.bounds ∙ nat_lt_true m.turns m.limits.turns c.if-m.false in
    create_runs t tables w v f c.args.label c.local_count-count.result (length (heap_of w.heap).coexps) (all_names tables) outside m.turns
    (m.turns + 1) m.begun.items m.stacks.table c.add_here.new.stacks.table
    c.frames.ensures.running more c.charge_coexp.ensures.kept live sound.stacks.coexps c.local_count-count.ensures.same c.local_count-count.ensures.all
    (c.in_ok-charge_coexp.ensures.row outside (held.locals f) (live_locals t (reach_of w []) f live)) sound.counts c.in-Ok.ensures (add-one m.turns)

pub returns-in-Ok-clause-keeps : goal.returns-in-Ok-clause-keeps
returns-in-Ok-clause-keeps g c = record {
  sound = λ tables k. (
      let m = c.args.m.now in
      let w = m.world in
      let v = c.charge_coexp.new.world in
      let f : FlatStack = c.frames.result.now.flat in
      let table : CoexpTable = record m.stacks.table { running = Some f } in
      let u : CoexpTable = c.add_here.new.stacks.table in
      let cs = (heap_of m.world.heap).coexps in
      let ds = (heap_of c.charge_coexp.new.world.heap).coexps in
      record {
        stacks = created_live tables (reach_of w [])
            (reach_of v []) table c.add_here.new.stacks.table f c.args.label refl c.in-Ok.ensures c.charge_coexp.ensures.kept
            (sym c.local_count-count.ensures.count ∙ c.local_count-count.ensures.all)
            (subst (λ (n : ℕ). IsLive (extent_of v.heap) (HeldCoexp n)) k.counts c.in_ok-charge_coexp.ensures.live)
            (stacks_on tables (reach_of w []) m.stacks.table f f c.frames.ensures.running (λ l. l) k.stacks);
        bounds = c.in_ok-charge_coexp.ensures.bounds ∙ k.bounds;
        counts = c.in_ok-charge_coexp.ensures.more ∙ ap (λ (n : ℕ). suc n) k.counts
            ∙ sym (created_length table c.add_here.new.stacks.table f c.args.label refl c.in-Ok.ensures);
        counted = record {
          results = same_counts (m.turns + 1) m.stacks.table.active u.active cs ds c.in_ok-charge_coexp.ensures.counts
              (ap (λ (x : CoexpTable). x.active) c.in-Ok.ensures) (turn_more m.turns m.stacks.table.active cs k.counted.results);
          activators = subst (λ (x : CoexpTable). EnterOthers x.coexps) (sym c.in-Ok.ensures)
              (new_others m.stacks.table (held.locals f) (held.proc f) f.address k.counted.activators);
        };
      });
  halt = search rules;
  limits = refl;
  stack = created_runs c.args.label
      (record c.args.m.now.stacks.table { running = Some c.frames.result.now.flat }) c.add_here.new.stacks.table refl c.in-Ok.ensures;
}
