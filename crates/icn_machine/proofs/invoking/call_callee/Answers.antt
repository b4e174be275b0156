use Rattle.std.proofs.Common.{map, refl, sym, subst, ◌∙◌}
use Rattle.icn_defs.specs.StepRows as step_rows
use Rattle.icn_value.specs.Store.{Names}
use Rattle.icn_heap.specs.Heaps.{extent_of}
use Rattle.icn_vars.specs.Worlds.{item_in}
use Rattle.icn_code.specs.CodeTables.{tables_of}
use Rattle.icn_run.specs.Stacks.{flat}
use Rattle.icn_run.specs.Step.{all_names, invoke_value}
use Rattle.law_steps.specs.KeepingSizes.{field_count}
use Rattle.icn_heap.specs.Extents.{value_in}
use Rattle.icn_control.specs.StackViews.{stack_in}
use Rattle.icn_calls.specs.Calling.{NamesNothing}
use Rattle.icn_machine.proofs.CallFacts.{bare_store, call_named, call_sized, sizes_stay_on}
use Rattle.icn_machine.proofs.InvokeSteps.{function_event}
use Rattle.icn_machine.proofs.PerformEvents.{named_event, row_going}
use Rattle.icn_machine.proofs.invoking.call_callee.Goals as goal

pub returns-in-Some-clause-step : goal.returns-in-Some-clause-step
returns-in-Some-clause-step g c =
    let w = c.args.world.now in
    function_event (tables_of c.args.code.now) (g.N.Names.known c.args.names.now) c.in-Some.func c.args.callee w c.perform.new.world c.args.frames.now.flat
    c.perform.new.frames.flat (map (item_in (extent_of w.heap)) c.args.items.now)
    _ _ c.perform.result c.requires.known c.in-Some.ensures.invoked c.perform.ensures.row

pub returns-in-Some-clause-live : goal.returns-in-Some-clause-live
returns-in-Some-clause-live g c = c.perform.ensures.live (tables_of c.args.code.now)

pub returns-in-Some-clause-going : goal.returns-in-Some-clause-going
returns-in-Some-clause-going g c =
    let w = c.args.world.now in
    row_going (step_rows.apply (g.N.Names.known c.args.names.now) (step_rows.Function c.in-Some.func) (map (item_in (extent_of w.heap)) c.args.items.now)) w
    c.perform.new.world c.args.frames.now.flat c.perform.new.frames.flat
    _ _ c.perform.result (bare_store (g.N.Names.known c.args.names.now) w) refl c.perform.ensures.row

pub returns-in-Some-clause-sized : goal.returns-in-Some-clause-sized
returns-in-Some-clause-sized g c =
    sizes_stay_on c.perform.result c.args.world.now c.perform.new.world (field_count (tables_of c.args.code.now)) c.perform.ensures.sized

pub returns-in-None-clause-step : goal.returns-in-None-clause-step
returns-in-None-clause-step g c =
    let w = c.args.world.now in
    let all = extent_of w.heap in
    named_event (all_names (tables_of c.args.code.now))
    (λ st.
    invoke_value flat (tables_of c.args.code.now) (value_in all c.args.callee) (map (item_in all) c.args.items.now) (stack_in all c.args.frames.now.flat) st)
    w c.invoke.new.world c.invoke.new.frames.flat _ c.invoke.result
    (λ st same names_same. c.invoke.ensures.step st same
    (subst (λ (x : Names). NamesNothing x (value_in all c.args.callee)) (c.requires.known ∙ sym names_same) c.requires.nothing))

pub returns-in-None-clause-named : goal.returns-in-None-clause-named
returns-in-None-clause-named g c =
    let w = c.args.world.now in
    call_named c.steps_keep_names.ensures.kept (tables_of c.args.code.now) (g.N.Names.known c.args.names.now) w c.invoke.new.world c.args.frames.now.flat
    c.invoke.new.frames.flat c.args.callee (map (item_in (extent_of w.heap)) c.args.items.now)
    c.invoke.result c.requires.known
    (sym c.function_of.ensures.function ∙ c.in-None.is) c.requires.nothing c.requires.callee_named c.requires.given.items_named c.requires.here.stack_named
    c.requires.here.world_named
    c.invoke.ensures.step c.invoke.ensures.going

pub returns-in-None-clause-sized : goal.returns-in-None-clause-sized
returns-in-None-clause-sized g c =
    let w = c.args.world.now in
    call_sized c.steps_keep_sizes.ensures.kept (tables_of c.args.code.now) w c.invoke.new.world c.args.frames.now.flat c.invoke.new.frames.flat c.args.callee
    (map (item_in (extent_of w.heap)) c.args.items.now)
    c.invoke.result (sym c.function_of.ensures.function ∙ c.in-None.is)
    (subst (λ (x : Names). NamesNothing x (value_in (extent_of w.heap) c.args.callee)) c.requires.known c.requires.nothing)
    c.invoke.ensures.step c.invoke.ensures.going
