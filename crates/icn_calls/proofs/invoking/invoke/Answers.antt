use Rattle.std.proofs.Common.{[], map, refl, rules}
use Rattle.icn_heap.specs.Heaps.{extent_of}
use Rattle.icn_vars.specs.Worlds.{item_in, reach_of}
use Rattle.icn_vars.proofs.KeptItems.{keeps_items_refl}
use Rattle.icn_code.specs.CodeTables.{tables_of}
use Rattle.icn_run.specs.Step as code
use Rattle.icn_control.specs.StackViews.{stack_in}
use Rattle.icn_control.specs.TakenOperands.{KeepsCounts}
use Rattle.icn_control.proofs.Halts.{unless_ended}
use Rattle.icn_calls.proofs.InvokeSteps.{by_number, called_by_number, never_function, nothing_called, stands_as}
use Rattle.icn_calls.proofs.invoking.invoke.Goals as goal

pub returns-in_default : goal.returns-in_default
returns-in_default g c =
    let w = c.args.world.now in
    let all = extent_of w.heap in
    record {
      step = λ st same nothing. stands_as c.call_integer.result w c.call_integer.new.frames.flat (stack_in all c.call_integer.new.frames.flat) st _ _
          (by_number (tables_of c.args.code.now) all c.args.callee (map (item_in all) c.args.items.now) (stack_in all c.args.frames.now.flat) st
          c.in_default.not-Proc)
          (c.call_integer.ensures.step (tables_of c.args.code.now) st same nothing);
      live = c.call_integer.ensures.live (tables_of c.args.code.now);
      leaves = record {
        kept = keeps_items_refl (reach_of w []);
        counts = unless_ended c.call_integer.result (KeepsCounts w w) (record { bounds = refl; coexps = refl });
        halt = c.call_integer.ensures.halt;
      };
      going = c.call_integer.ensures.going;
    }

pub returns-in-Proc-callee_of-clause-step : goal.returns-in-Proc-callee_of-clause-step
returns-in-Proc-callee_of-clause-step g c st same nothing =
    let all = extent_of c.args.world.now.heap in
    let entry = c.in-Proc-callee_of.ensures.0 in
    stands_as c.call_with.result c.call_with.new.world c.call_with.new.frames.flat
    (stack_in (extent_of c.call_with.new.world.heap) c.call_with.new.frames.flat) st _ _
    (called_by_number (tables_of c.args.code.now) all c.args.callee c.in-Proc.number (code.IsProc entry) (map (item_in all) c.args.items.now)
    (stack_in all c.args.frames.now.flat) st c.in-Proc.is c.in-Proc-callee_of.ensures.1.1)
    (c.call_with.ensures.step entry c.in-Proc-callee_of.ensures.1.0 st same)

pub returns-in-Rec-clause-step : goal.returns-in-Rec-clause-step
returns-in-Rec-clause-step g c st same nothing =
    let all = extent_of c.args.world.now.heap in
    let entry = c.in-Rec.ensures.0 in
    stands_as c.construct_with.result c.construct_with.new.world c.construct_with.new.frames.flat
    (stack_in (extent_of c.construct_with.new.world.heap) c.construct_with.new.frames.flat) st _ _
    (called_by_number (tables_of c.args.code.now) all c.args.callee c.in-Proc.number (code.IsRecord c.in-Rec.kind entry)
    (map (item_in all) c.args.items.now) (stack_in all c.args.frames.now.flat) st c.in-Proc.is c.in-Rec.ensures.1.1)
    (c.construct_with.ensures.step entry c.in-Rec.ensures.1.0 st same)

pub unreachable-unreachable : goal.unreachable-unreachable
unreachable-unreachable g c = never_function (tables_of c.args.code.now) c.args.callee c.in-Proc.number _ c.requires.function c.in-Proc.is c.in-Func.ensures

pub returns-in-Nothing-clause-step : goal.returns-in-Nothing-clause-step
returns-in-Nothing-clause-step g c st same nothing =
    nothing_called c.args.world.now (tables_of c.args.code.now) c.args.callee c.in-Proc.number
    (map (item_in (extent_of c.args.world.now.heap)) c.args.items.now) (stack_in (extent_of c.args.world.now.heap) c.args.frames.now.flat) st c.in-Proc.is
    c.in-Nothing.ensures same

pub returns-in-Nothing-clause-leaves : goal.returns-in-Nothing-clause-leaves
returns-in-Nothing-clause-leaves g c = record {
  kept = keeps_items_refl (reach_of c.args.world.now []);
  counts = record { bounds = refl; coexps = refl };
  halt = search rules;
}
