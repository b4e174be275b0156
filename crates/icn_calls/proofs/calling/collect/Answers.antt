use Rattle.std.proofs.Common.{◌≡◌, ◌∙◌, ◌+◌, ◌-◌, ◌∷◌, [], List, Ok, Err, length, drop, map, ap, subst, arith}
use Rattle.std.proofs.lemmas.List.{length-append}
use Rattle.std.proofs.lemmas.List.Elements.{All-push, All-same}
use Rattle.icn_value.specs.declared.val.Val.{Val}
use Rattle.icn_defs.specs.StepRows.{list_row}
use Rattle.icn_heap.specs.Extents.{IsLive, value_in}
use Rattle.icn_heap.specs.Heaps.{extent_of}
use Rattle.icn_vars.specs.declared.stop.Stop.TheVariants.{NoMemory}
use Rattle.icn_vars.proofs.GrowingWorlds.{locals_grow}
use Rattle.icn_control.specs.TakenOperands.{KeepsCounts, MakesValue}
use Rattle.icn_control.proofs.OpenedScans.{match_stop}
use Rattle.icn_calls.proofs.ParameterSteps.{collects, collects_not, length_values_for, live_drop, live_values_for, unless_lacking, unless_passed_on}
use Rattle.icn_calls.proofs.calling.collect.Goals as goal

pub list_of-requires-clause-vals : goal.list_of-requires-clause-vals
list_of-requires-clause-vals g c =
    let all = extent_of c.args.world.now.heap in
    All-same (IsLive all) _ _ (c.from_place.ensures ∙ ap (drop (c.args.count - 1)) c.deref.ensures.value)
    (live_drop all (c.args.count - 1) c.args.vals.now.items c.requires.vals)

pub returns-in_err-list-clause-step : goal.returns-in_err-list-clause-step
returns-in_err-list-clause-step g c st next same =
    let w = c.args.world.now in
    let v = c.list_of.new.world in
    let made_so = subst (λ (xs : List Val). MakesValue (list_row (map (value_in (extent_of w.heap)) xs)) w c.args.frames.now.flat v
    (Err c.in_err-list.field-0.0))
    (c.from_place.ensures ∙ ap (drop (c.args.count - 1)) c.deref.ensures.value) c.in_err-list.ensures.made in
    match_stop c.from_residual.result c.in_err-list.field-0.0 _ _ c.from_residual.ensures.1
    (collects_not w v c.args.frames.now.flat c.args.count c.args.vals.now.items c.in_err-list.field-0.0 made_so st next same)

pub returns-in_err-list-clause-counts : goal.returns-in_err-list-clause-counts
returns-in_err-list-clause-counts g c =
    unless_passed_on Val c.from_residual.result c.in_err-list.field-0.0 (KeepsCounts c.args.world.now c.list_of.new.world)
    c.from_residual.ensures.1 c.in_err-list.ensures.counts

pub returns-in_err-fit-clause-step : goal.returns-in_err-fit-clause-step
returns-in_err-fit-clause-step g c st next same = match_stop c.from_residual-in_err-fit.result NoMemory _ _ c.from_residual-in_err-fit.ensures.1 tt

pub returns-in_err-fit-clause-counts : goal.returns-in_err-fit-clause-counts
returns-in_err-fit-clause-counts g c = unless_lacking c.from_residual-in_err-fit.result _ c.from_residual-in_err-fit.ensures.1

pub returns-in_err-add-clause-step : goal.returns-in_err-add-clause-step
returns-in_err-add-clause-step g c st next same = match_stop c.from_residual-in_err-add.result NoMemory _ _ c.from_residual-in_err-add.ensures.1 tt

pub returns-in_err-add-clause-counts : goal.returns-in_err-add-clause-counts
returns-in_err-add-clause-counts g c = unless_lacking c.from_residual-in_err-add.result _ c.from_residual-in_err-add.ensures.1

pub returns-clause-live : goal.returns-clause-live
returns-clause-live g c =
    let old = extent_of c.args.world.now.heap in
    let new = extent_of c.list_of.new.world.heap in
    let grown = locals_grow old new c.args.vals.now.items c.list_of.ensures.kept.extent c.requires.vals in
    All-same (IsLive new) _ _ c.in_ok-add.ensures
    (All-push (IsLive new) _ _ (All-same (IsLive new) _ _ c.in_ok-fit.ensures (live_values_for new (c.args.count - 1) c.args.vals.now.items grown))
    c.in_ok-list.ensures.live)

pub returns-clause-count : goal.returns-clause-count
returns-clause-count g c =
    let cut : length c.fit.new.vals.items ≡ c.args.count - 1 = ap length c.in_ok-fit.ensures ∙ length_values_for (c.args.count - 1) c.args.vals.now.items in
    let all : length c.add.new.vals.items ≡ length c.fit.new.vals.items + 1 = ap length c.in_ok-add.ensures
    ∙ length-append c.fit.new.vals.items (c.in_ok-list.list ∷ []) in
    omega (arith, cut, all, c.requires.count)

pub returns-clause-step : goal.returns-clause-step
returns-clause-step g c =
    let w = c.args.world.now in
    let v = c.list_of.new.world in
    let made_so = subst (λ (xs : List Val). MakesValue (list_row (map (value_in (extent_of w.heap)) xs)) w c.args.frames.now.flat v (Ok c.in_ok-list.list))
    (c.from_place.ensures ∙ ap (drop (c.args.count - 1)) c.deref.ensures.value) c.in_ok-list.ensures.made in
    collects w v c.args.frames.now.flat c.args.count c.args.vals.now.items c.fit.new.vals.items c.add.new.vals.items c.in_ok-list.list made_so
    c.in_ok-fit.ensures c.in_ok-add.ensures c.list_of.ensures.kept.extent c.requires.vals
