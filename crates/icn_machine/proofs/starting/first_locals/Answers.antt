use Rattle.std.proofs.Common.{◌+◌, ℕ, List, [], Ok, Err, length, sym, ap, ◌∙◌, subst}
use Rattle.std.proofs.lemmas.List.Elements.{All-cons, All-nil, All-same}
use Rattle.icn_value.specs.declared.val.Val.{Val}
use Rattle.icn_heap.specs.Extents.{IsLive}
use Rattle.icn_heap.specs.Heaps.{extent_of}
use Rattle.icn_vars.specs.declared.stop.Stop.TheVariants as Stops
use Rattle.icn_vars.specs.Worlds.{reach_of}
use Rattle.icn_frames.specs.Stacks.{FlatStack}
use Rattle.icn_code.specs.Codes.{proc_of}
use Rattle.icn_control.specs.LiveStacks.{IsLiveStack}
use Rattle.icn_calls.proofs.ParameterSteps.{length_with_nulls, live_with_nulls}
use Rattle.icn_machine.proofs.StartSteps.{any_tables, bare_live, begins_err, begins_runs, enough_levels, list_stops, makes_of, parameters_stop}
use Rattle.icn_machine.proofs.starting.first_locals.Goals as goal

pub returns-in_err-frames-clause-step : goal.returns-in_err-frames-clause-step
returns-in_err-frames-clause-step g c =
    begins_err c.from_residual.result (proc_of c.args.proc.now) c.args.world.now c.args.world.now c.args.vals.now.items c.args.vals.now.items Stops.NoMemory
    c.from_residual.ensures.1 tt

pub list_of-requires-clause-stack : goal.list_of-requires-clause-stack
list_of-requires-clause-stack g c = (
  any_tables,
  subst (λ (x : FlatStack). IsLiveStack any_tables (reach_of c.args.world.now []) x) (sym c.in_ok-frames.ensures)
      (bare_live (reach_of c.args.world.now [])),
)

pub list_of-requires-clause-vals : goal.list_of-requires-clause-vals
list_of-requires-clause-vals g c = All-same (IsLive (extent_of c.args.world.now.heap)) _ _ c.deref.ensures.value c.requires.vals

pub returns-in_err-list-clause-step : goal.returns-in_err-list-clause-step
returns-in_err-list-clause-step g c =
    begins_err c.from_residual-in_err-list.result (proc_of c.args.proc.now) c.args.world.now c.list_of.new.world c.args.vals.now.items c.args.vals.now.items
    c.in_err-list.field-0.0 c.from_residual-in_err-list.ensures.1
    (list_stops (proc_of c.args.proc.now) c.args.world.now c.list_of.new.world c.in_ok-frames.frames.flat c.args.vals.now.items c.args.vals.now.items
    c.in_err-list.field-0.0 c.in_ok-frames.ensures
    (makes_of c.args.world.now c.list_of.new.world c.in_ok-frames.frames.flat c.deref.result.now c.args.vals.now.items (Err c.in_err-list.field-0.0)
    c.deref.ensures.value c.in_err-list.ensures.made))

pub returns-in_err-keep_one-clause-step : goal.returns-in_err-keep_one-clause-step
returns-in_err-keep_one-clause-step g c =
    begins_err c.from_residual-in_err-keep_one.result (proc_of c.args.proc.now) c.args.world.now c.list_of.new.world c.args.vals.now.items
    c.keep_one.new.vals.items Stops.NoMemory c.from_residual-in_err-keep_one.ensures.1 tt

pub take_parameters-requires-clause-count : goal.take_parameters-requires-clause-count
take_parameters-requires-clause-count g c = c.requires.collects

pub take_parameters-requires-clause-stack : goal.take_parameters-requires-clause-stack
take_parameters-requires-clause-stack g c = (
  any_tables,
  subst (λ (x : FlatStack). IsLiveStack any_tables (reach_of c.list_of.new.world []) x)
      (sym (c.list_of.ensures.same ∙ c.in_ok-frames.ensures)) (bare_live (reach_of c.list_of.new.world [])),
)

pub take_parameters-requires-clause-vals : goal.take_parameters-requires-clause-vals
take_parameters-requires-clause-vals g c =
    let all = extent_of c.list_of.new.world.heap in
    All-same (IsLive all) _ _ c.in_ok-keep_one.ensures (All-cons (IsLive all) c.in_ok-list.list [] c.in_ok-list.ensures.live (All-nil (IsLive all)))

pub returns-in_err-take_parameters-clause-step : goal.returns-in_err-take_parameters-clause-step
returns-in_err-take_parameters-clause-step g c =
    let w = c.args.world.now in
    let v = c.list_of.new.world in
    let u = c.take_parameters.new.world in
    begins_err c.from_residual-in_err-take_parameters.result (proc_of c.args.proc.now) w u c.args.vals.now.items c.take_parameters.new.vals.items
    c.in_err-take_parameters.field-0.0 c.from_residual-in_err-take_parameters.ensures.1
    (parameters_stop (proc_of c.args.proc.now) w v u c.in_ok-frames.frames.flat c.list_of.new.frames.flat c.args.vals.now.items
    c.keep_one.new.vals.items c.take_parameters.new.vals.items c.take_parameters.new.vals.items
    c.in_ok-list.list c.in_err-take_parameters.field-0.0 c.in_ok-frames.ensures c.list_of.ensures.same c.in_ok-keep_one.ensures
    (makes_of w v c.in_ok-frames.frames.flat c.deref.result.now c.args.vals.now.items (Ok c.in_ok-list.list) c.deref.ensures.value c.in_ok-list.ensures.made)
    c.in_err-take_parameters.ensures.step
    (enough_levels w v c.in_ok-list.ensures.counts c.requires.levels))

pub returns-in_err-add_nulls-clause-step : goal.returns-in_err-add_nulls-clause-step
returns-in_err-add_nulls-clause-step g c =
    begins_err c.from_residual-in_err-add_nulls.result (proc_of c.args.proc.now) c.args.world.now c.take_parameters.new.world c.args.vals.now.items
    c.add_nulls.new.vals.items Stops.NoMemory c.from_residual-in_err-add_nulls.ensures.1 tt

pub returns-clause-step : goal.returns-clause-step
returns-clause-step g c =
    let w = c.args.world.now in
    let v = c.list_of.new.world in
    let u = c.take_parameters.new.world in
    begins_runs (proc_of c.args.proc.now) w v u c.in_ok-frames.frames.flat c.list_of.new.frames.flat c.args.vals.now.items c.keep_one.new.vals.items
    c.take_parameters.new.vals.items c.add_nulls.new.vals.items c.in_ok-list.list
    c.in_ok-frames.ensures c.list_of.ensures.same c.in_ok-keep_one.ensures
    (makes_of w v c.in_ok-frames.frames.flat c.deref.result.now c.args.vals.now.items (Ok c.in_ok-list.list) c.deref.ensures.value c.in_ok-list.ensures.made)
    c.in_ok-take_parameters.ensures.step c.in_ok-add_nulls.ensures
    (enough_levels w v c.in_ok-list.ensures.counts c.requires.levels)

pub returns-clause-live : goal.returns-clause-live
returns-clause-live g c =
    let all = extent_of c.take_parameters.new.world.heap in
    All-same (IsLive all) _ _ c.in_ok-add_nulls.ensures
    (live_with_nulls all c.args.proc.now.locals c.take_parameters.new.vals.items c.in_ok-take_parameters.ensures.live)

pub returns-clause-count : goal.returns-clause-count
returns-clause-count g c =
    ap (λ (xs : List Val). length xs) c.in_ok-add_nulls.ensures ∙ length_with_nulls c.args.proc.now.locals c.take_parameters.new.vals.items
    ∙ ap (λ (n : ℕ). n + c.args.proc.now.locals) c.in_ok-take_parameters.ensures.count

pub returns-clause-counts : goal.returns-clause-counts
returns-clause-counts g c =
    record {
      bounds = c.in_ok-take_parameters.ensures.counts.bounds ∙ c.in_ok-list.ensures.counts.bounds;
      coexps = c.in_ok-take_parameters.ensures.counts.coexps ∙ c.in_ok-list.ensures.counts.coexps;
    }
