use Rattle.std.proofs.Common.{◌∙◌, Bool, [], length, sym, ap, subst}
use Rattle.std.proofs.lemmas.List.Elements.{All-same}
use Rattle.icn_heap.specs.Extents.{IsLive}
use Rattle.icn_heap.specs.Heaps.{extent_of}
use Rattle.icn_vars.specs.declared.stop.Stop.TheVariants.{NoMemory}
use Rattle.icn_vars.specs.Worlds.{reach_of}
use Rattle.icn_vars.proofs.KeptItems.{keeps_items_refl}
use Rattle.icn_control.proofs.OpenedScans.{match_stop}
use Rattle.icn_calls.specs.Calling.{FindsParameters}
use Rattle.icn_calls.proofs.ParameterSteps.{length_values_for, live_values_for, plain_result, unless_lacking}
use Rattle.icn_calls.proofs.calling.take_parameters.Goals as goal

pub returns-then-collects-clause-step : goal.returns-then-collects-clause-step
returns-then-collects-clause-step g c =
    subst (λ (b : Bool). FindsParameters b c.args.count c.args.world.now c.args.frames.now.flat c.args.vals.now.items c.collect.new.world
    c.collect.new.vals.items c.collect.result)
    (sym c.if-collects.true) c.collect.ensures.step

pub returns-in_err-fit-clause-step : goal.returns-in_err-fit-clause-step
returns-in_err-fit-clause-step g c st next same = match_stop c.from_residual.result NoMemory _ _ c.from_residual.ensures.1 tt

pub returns-in_err-fit-clause-counts : goal.returns-in_err-fit-clause-counts
returns-in_err-fit-clause-counts g c = unless_lacking c.from_residual.result _ c.from_residual.ensures.1

pub returns-in_err-fit-clause-kept : goal.returns-in_err-fit-clause-kept
returns-in_err-fit-clause-kept g c = keeps_items_refl (reach_of c.args.world.now [])

pub returns-clause-live : goal.returns-clause-live
returns-clause-live g c =
    let all = extent_of c.args.world.now.heap in
    All-same (IsLive all) _ _ c.in_ok-fit.ensures (live_values_for all c.args.count c.args.vals.now.items c.requires.vals)

pub returns-clause-count : goal.returns-clause-count
returns-clause-count g c = ap length c.in_ok-fit.ensures ∙ length_values_for c.args.count c.args.vals.now.items

pub returns-clause-kept : goal.returns-clause-kept
returns-clause-kept g c = keeps_items_refl (reach_of c.args.world.now [])

pub returns-clause-step : goal.returns-clause-step
returns-clause-step g c =
    plain_result c.args.collects c.args.world.now c.args.frames.now.flat c.args.count c.args.vals.now.items c.fit.new.vals.items c.if-collects.false
    c.in_ok-fit.ensures
