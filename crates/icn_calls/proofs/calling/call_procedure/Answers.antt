use Rattle.std.proofs.Common.{◌≡◌, ◌∙◌, ◌+◌, ◌<◌, ◌^◌, ◌≤◌, ◌++◌, ℕ, suc, true, nat_le, [], Option, Some, length, map, replicate, sym, ap, subst, arith, rules}
use Rattle.std.specs.Option.{option_map_or}
use Rattle.std.proofs.lemmas.Option.{same_Some}
use Rattle.icn_value.specs.Limited.{Bounds}
use Rattle.icn_value.specs.declared.val.Val.TheVariants.{Null}
use Rattle.icn_heap.specs.Extents.{value_in}
use Rattle.icn_heap.specs.Heaps.{extent_of, heap_of}
use Rattle.icn_vars.specs.Stops.{halt_of}
use Rattle.icn_vars.specs.Worlds.{Reach, reach_of, world_of}
use Rattle.icn_run.specs.Stacks.{flat}
use Rattle.icn_run.specs.Step.{call_procedure, running, with_world}
use Rattle.icn_control.specs.StackAndWorld.{HaltsWith}
use Rattle.icn_control.specs.StackViews.{stack_in}
use Rattle.icn_frames.specs.Stacks as held
use Rattle.icn_frames.specs.Stacks.{FlatStack}
use Rattle.icn_code.specs.Codes.{Proc, proc_of}
use Rattle.icn_code.specs.CodeTables.{tables_of}
use Rattle.icn_control.specs.LiveStacks.{IsLiveStack, variable_count, variables_of}
use Rattle.icn_control.specs.TakenOperands.{KeepsCounts}
use Rattle.icn_control.proofs.Halts.{unless_ended, unless_stopped}
use Rattle.icn_control.proofs.KeptItems.{stack_stays}
use Rattle.icn_control.proofs.LiveFrames.{live_enter}
use Rattle.icn_control.proofs.StackAndWorldSteps.{match_halt}
use Rattle.icn_calls.proofs.CallSteps.{entry_at, may_call}
use Rattle.icn_calls.proofs.ParameterSteps.{called_halts, called_runs, length_with_nulls, live_with_nulls}
use Rattle.icn_calls.proofs.RuleSteps.{collects_one}
use Rattle.icn_calls.proofs.calling.call_procedure.Goals as goal

pub take_parameters-requires-clause-count : goal.take_parameters-requires-clause-count
take_parameters-requires-clause-count g c q =
    collects_one (tables_of c.args.code.now) c.args.number (proc_of c.index-entry.result.now) c.args.code.now.rules
    (entry_at proc_of c.args.code.now.procs.items c.args.number c.index-entry.result.now c.requires.there c.index-entry.ensures) q

-- the limit of levels has 32 bits
pub enter-requires : goal.enter-requires
enter-requires g c =
    let m = c.args.frames.now.flat in
    let deep : held.level m + 1 < 2 ^ 64 = omega (arith, c.level.ensures, c.if-level-limits.false, c.args.limits.now.few_levels) in
    subst (λ (x : FlatStack). held.level x + 1 < 2 ^ 64) (sym c.take_parameters.ensures.same) deep

pub returns-in_err-take_parameters-clause-step : goal.returns-in_err-take_parameters-clause-step
returns-in_err-take_parameters-clause-step g c entry at st same =
    let w = c.args.world.now in
    let v = c.take_parameters.new.world in
    let m = c.args.frames.now.flat in
    let k = c.take_parameters.new.frames.flat in
    let stop = c.in_err-take_parameters.field-0.0 in
    let here : Some (proc_of c.index-entry.result.now) ≡ Some entry
    = sym (entry_at proc_of c.args.code.now.procs.items c.args.number c.index-entry.result.now c.requires.there c.index-entry.ensures) ∙ at in
    let more : nat_le (suc (held.level m)) (heap_of w.heap).bounds.levels ≡ true
    = ap (λ (x : Bounds). nat_le (suc (held.level m)) x.levels) c.requires.bounds
    ∙ may_call (held.level m) c.args.limits.now.levels c.level.result c.level.ensures c.if-level-limits.false in
    match_halt c.from_residual.result (halt_of stop) _ _ c.from_residual.ensures.1
    (subst
    (λ (e : Proc). HaltsWith (call_procedure flat c.args.number e (map (value_in (extent_of w.heap)) c.args.vals.now.items) (stack_in (extent_of w.heap) m) st)
    st v (stack_in (extent_of v.heap) k) (halt_of stop))
    (same_Some _ _ here)
    (called_halts w v m k c.args.number (proc_of c.index-entry.result.now) c.args.vals.now.items stop more c.in_err-take_parameters.ensures.step
    c.take_parameters.ensures.same st same))

pub returns-in_err-take_parameters-clause-live : goal.returns-in_err-take_parameters-clause-live
returns-in_err-take_parameters-clause-live g c k =
    let t = tables_of c.args.code.now in
    let old : Reach = reach_of c.args.world.now [] in
    let new : Reach = reach_of c.take_parameters.new.world [] in
    unless_ended c.from_residual.result (IsLiveStack t new c.take_parameters.new.frames.flat)
    (subst (λ (x : FlatStack). IsLiveStack t new x) (sym c.take_parameters.ensures.same)
    (stack_stays t old new c.args.frames.now.flat c.take_parameters.ensures.kept k))

pub returns-in_err-take_parameters-clause-leaves : goal.returns-in_err-take_parameters-clause-leaves
returns-in_err-take_parameters-clause-leaves g c = record {
  kept = c.take_parameters.ensures.kept;
  counts = unless_stopped (Unit {0}) c.from_residual.result c.in_err-take_parameters.field-0.0 (KeepsCounts c.args.world.now c.take_parameters.new.world)
      c.from_residual.ensures.1 c.in_err-take_parameters.ensures.counts;
  halt = search rules;
}

pub returns-in-Ok-clause-step : goal.returns-in-Ok-clause-step
returns-in-Ok-clause-step g c entry at st same =
    let w = c.args.world.now in
    let v = c.take_parameters.new.world in
    let m = c.args.frames.now.flat in
    let n = c.enter.new.frames.flat in
    let here : Some (proc_of c.index-entry.result.now) ≡ Some entry
    = sym (entry_at proc_of c.args.code.now.procs.items c.args.number c.index-entry.result.now c.requires.there c.index-entry.ensures) ∙ at in
    let more : nat_le (suc (held.level m)) (heap_of w.heap).bounds.levels ≡ true
    = ap (λ (x : Bounds). nat_le (suc (held.level m)) x.levels) c.requires.bounds
    ∙ may_call (held.level m) c.args.limits.now.levels c.level.result c.level.ensures c.if-level-limits.false in
    subst (λ (e : Proc). call_procedure flat c.args.number e (map (value_in (extent_of w.heap)) c.args.vals.now.items) (stack_in (extent_of w.heap) m) st
    ≡ running (stack_in (extent_of v.heap) n) (with_world (world_of v) st))
    (same_Some _ _ here)
    (called_runs w v m c.take_parameters.new.frames.flat n c.args.number (proc_of c.index-entry.result.now) c.args.vals.now.items
    c.take_parameters.new.vals.items more c.in_ok-take_parameters.ensures.step c.take_parameters.ensures.same c.in-Ok.ensures st same)

pub returns-in-Ok-clause-live : goal.returns-in-Ok-clause-live
returns-in-Ok-clause-live g c k =
    let t = tables_of c.args.code.now in
    let v = c.take_parameters.new.world in
    let m = c.args.frames.now.flat in
    let e = c.index-entry.result.now in
    let parameters = c.take_parameters.new.vals.items in
    let values = parameters ++ replicate e.locals Null in
    let at = entry_at proc_of c.args.code.now.procs.items c.args.number e c.requires.there c.index-entry.ensures in
    let count : length values ≡ variable_count t c.args.number
    = length_with_nulls e.locals parameters ∙ ap (λ (n : ℕ). n + e.locals) c.in_ok-take_parameters.ensures.count
    ∙ sym (ap (λ (o : Option Proc). option_map_or variables_of o 0) at) in
    let deep : suc (held.level m) ≤ 4294967295 = omega (arith, c.level.ensures, c.if-level-limits.false, c.args.limits.now.few_levels) in
    let stays : IsLiveStack t (reach_of v []) m = stack_stays t (reach_of c.args.world.now []) (reach_of v []) m c.take_parameters.ensures.kept k in
    let entered = live_enter t (reach_of v []) m c.args.number values 0 count deep
    (live_with_nulls (extent_of v.heap) e.locals parameters c.in_ok-take_parameters.ensures.live) stays in
    subst (λ (x : FlatStack). IsLiveStack t (reach_of v []) x)
    (sym (c.in-Ok.ensures ∙ ap (held.enter c.args.number values 0) c.take_parameters.ensures.same)) entered
