use Rattle.std.proofs.lemmas.Int.{to_z-of_z}
use Rattle.std.proofs.Common.{◌∙◌, ℤ, FitsSigned, map, rules, sym, ap, w64}
use Rattle.icn_defs.specs.Running.{number_of}
use Rattle.icn_heap.specs.Extents.{value_in}
use Rattle.icn_heap.specs.Heaps.{extent_of}
use Rattle.icn_vars.specs.Worlds.{item_in}
use Rattle.icn_run.specs.Step.{choose_item}
use Rattle.icn_control.specs.StackViews.{stack_in}
use Rattle.icn_calls.proofs.InvokeSteps.{none_called, none_runs}
use Rattle.icn_calls.proofs.integers.call_integer.Goals as goal

pub returns-in-None-clause-step : goal.returns-in-None-clause-step
returns-in-None-clause-step g c tables st same nothing =
    let all = extent_of c.args.world.now.heap in
    let value = value_in all c.args.callee in
    let items = map (item_in all) c.args.items.now in
    let fits : FitsSigned w64 c.in-Some.n = search rules in
    none_runs c.args.world.now tables value (number_of value) c.in-Some.n items c.args.frames.now.flat c.pick_argument.result (sym c.number_of.ensures ∙ c.in-Some.is)
    (c.pick_argument.ensures.item all ∙ ap (λ (k : ℤ). choose_item k items) (to_z-of_z w64 c.in-Some.n fits)) c.in-None.is st same

pub returns-in_default-clause-step : goal.returns-in_default-clause-step
returns-in_default-clause-step g c tables st same nothing =
    let all = extent_of c.args.world.now.heap in
    let value = value_in all c.args.callee in
    none_called c.args.world.now tables value (number_of value) (map (item_in all) c.args.items.now) (stack_in all c.args.frames.now.flat) st
    (sym c.number_of.ensures ∙ c.in_default.is) nothing same
