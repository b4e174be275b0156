use Rattle.std.proofs.Common.{◌∙◌, ◌++◌, [], List, map, Ok, Err, refl, sym, ap, subst}
use Rattle.std.proofs.lemmas.List.Elements.{All-head, All-push, All-rest, All-same, All-nil}
use Rattle.icn_value.specs.declared.val.Val.{Val}
use Rattle.icn_heap.specs.Extents.{IsLive, value_in}
use Rattle.icn_heap.specs.Heaps.{extent_of}
use Rattle.icn_vars.specs.Worlds.{Reach, IsLiveItem, reach_of}
use Rattle.icn_frames.specs.Stacks as held
use Rattle.icn_frames.specs.Stacks.{FlatStack}
use Rattle.icn_control.specs.LiveStacks.{IsLiveStack, with_locals}
use Rattle.icn_control.specs.TakenOperands.{with_values_in}
use Rattle.icn_control.proofs.TakenOperandSteps.{found_at, values_next, values_stop, values_found, values_lack}
use Rattle.icn_control.proofs.values.values_of.Goals as goal

pub loop-first-init : goal.loop-first-init
loop-first-init g c =
    let all = extent_of c.args.world.now.heap in
    record {
      same = refl;
      spare = refl;
      live = All-same (IsLive all) _ _ c.clear.ensures.items (All-nil (IsLive all));
      left = c.requires.items;
      is = λ st next same. sym (ap (λ (xs : List Val). with_values_in c.args.world.now c.args.frames.now.flat c.args.items.now st
          (λ more. next (map (value_in all) xs ++ more))) c.clear.ensures.items);
    }

pub value_of-requires-clause-stack : goal.value_of-requires-clause-stack
value_of-requires-clause-stack g c = (
  c.requires.stack.0,
  subst (λ (x : FlatStack). IsLiveStack c.requires.stack.0 (reach_of c.args.world.now []) x) (sym c.loop-first.invariant.same) c.requires.stack.1,
)

pub value_of-requires-clause-item : goal.value_of-requires-clause-item
value_of-requires-clause-item g c =
    let live : Reach = with_locals (held.local_count c.args.frames.now.flat) (reach_of c.args.world.now []) in
    let first : IsLiveItem live c.in-Some.first.now =
    All-head (IsLiveItem live) _ _ (All-same (IsLiveItem live) _ _ (sym c.in-Some.ensures.cases.0) c.loop-first.invariant.left) in
    subst (λ (x : FlatStack). IsLiveItem (with_locals (held.local_count x) (reach_of c.args.world.now [])) c.in-Some.first.now)
    (sym c.loop-first.invariant.same) first

pub returns-in_err-val-clause-values : goal.returns-in_err-val-clause-values
returns-in_err-val-clause-values g c =
    values_stop c.from_residual.result c.args.world.now c.args.frames.now.flat c.args.items.now c.in-Some.others.now c.loop-first.rest.now
    c.loop-first.vals.items c.loop-first.vals.items c.in-Some.first.now c.in_err-val.field-0.0 c.from_residual.ensures.1
    c.in-Some.ensures.cases.0 (found_at c.args.world.now c.args.frames.now.flat c.loop-first.frames.flat c.in-Some.first.now
    (Err c.in_err-val.field-0.0) c.loop-first.invariant.same c.in_err-val.ensures.value) c.loop-first.invariant.is

pub returns-in_err-add_value-clause-values : goal.returns-in_err-add_value-clause-values
returns-in_err-add_value-clause-values g c =
    values_lack c.from_residual-in_err-add_value.result c.args.world.now c.args.frames.now.flat c.args.items.now c.add_value.new.vals.items
    c.from_residual-in_err-add_value.ensures.1

pub loop-first-preserved : goal.loop-first-preserved
loop-first-preserved g c =
    let all = extent_of c.args.world.now.heap in
    let live : Reach = with_locals (held.local_count c.args.frames.now.flat) (reach_of c.args.world.now []) in
    record {
      same = c.value_of.ensures.same ∙ c.loop-first.invariant.same;
      spare = c.value_of.ensures.spare ∙ c.loop-first.invariant.spare;
      live = All-same (IsLive all) _ _ c.in_ok-add_value.ensures (All-push (IsLive all) _ _ c.loop-first.invariant.live c.in_ok-val.ensures.live);
      left = All-rest (IsLiveItem live) _ _ _ c.in-Some.ensures.cases.0 c.loop-first.invariant.left;
      is = values_next c.args.world.now c.args.frames.now.flat c.args.items.now c.in-Some.others.now c.loop-first.rest.now c.loop-first.vals.items
          c.add_value.new.vals.items c.in-Some.first.now c.in_ok-val.val c.in-Some.ensures.cases.0 c.in_ok-add_value.ensures
          (found_at c.args.world.now c.args.frames.now.flat c.loop-first.frames.flat c.in-Some.first.now
          (Ok c.in_ok-val.val) c.loop-first.invariant.same c.in_ok-val.ensures.value) c.loop-first.invariant.is;
    }

pub returns-clause-values : goal.returns-clause-values
returns-clause-values g c = values_found c.args.world.now c.args.frames.now.flat c.args.items.now c.loop-first.rest.now c.loop-first.vals.items
    c.in_default.ensures.cases c.loop-first.invariant.is
