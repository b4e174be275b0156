use Rattle.std.proofs.Common.{map, sym, ◌∙◌}
use Rattle.icn_heap.specs.Extents.{value_in}
use Rattle.icn_heap.specs.Heaps.{extent_of}
use Rattle.icn_vars.specs.Worlds.{item_in}
use Rattle.icn_code.specs.CodeTables.{tables_of}
use Rattle.icn_run.specs.Stacks.{flat}
use Rattle.icn_run.specs.Step.{all_names, invoke_value}
use Rattle.icn_control.specs.StackViews.{stack_in}
use Rattle.icn_machine.proofs.PerformEvents.{event_as}
use Rattle.icn_machine.proofs.invoking.call_value.Goals as goal

pub returns-clause-step : goal.returns-clause-step
returns-clause-step g c =
    let w = c.args.world.now in
    let all = extent_of w.heap in
    let tables = tables_of c.args.code.now in
    let items = map (item_in all) c.args.items.now in
    let on = stack_in all c.args.frames.now.flat in
    event_as (all_names tables) (λ st. invoke_value flat tables (value_in all c.args.callee) items on st)
    (λ st. invoke_value flat tables (value_in all c.named_callee-callee.result) items on st) w c.call_callee.new.world c.call_callee.new.frames.flat _ _
    c.call_callee.result (λ st same names_same. c.named_callee-callee.ensures.same tables items on st (names_same ∙ sym c.requires.known))
    c.call_callee.ensures.step
