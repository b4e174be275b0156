use Rattle.std.proofs.Common.{◌≡◌, ◌+◌, ◌∷◌, suc, true, false, nat_lt, List, Some, IsSome, [], map, refl, sym, add-one, ap, ◌∙◌, subst}
use Rattle.std.proofs.lemmas.Option.{same_Some}
use Rattle.std.specs.List.{All}
use Rattle.icn_value.specs.Limited.{Bounds}
use Rattle.icn_value.specs.declared.val.Val.{Val}
use Rattle.icn_defs.specs.Applying.{function_of}
use Rattle.icn_heap.specs.Extents.{IsLive, value_in}
use Rattle.icn_heap.specs.Heaps.{extent_of, heap_of}
use Rattle.law_names.specs.NamedSettings.{ValueNamed}
use Rattle.icn_vars.specs.Worlds.{reach_of}
use Rattle.icn_frames.specs.Stacks.{FlatStack}
use Rattle.icn_coexp.specs.Transfers.{with_stack}
use Rattle.icn_code.specs.CodeTables.{tables_of}
use Rattle.icn_code.specs.declared.instr.Instr.TheVariants as Instrs
use Rattle.icn_run.specs.Stacks.{Frames, flat}
use Rattle.icn_run.specs.Step.{State, invoked_with}
use Rattle.law_steps.specs.KeepingSizes.{field_count}
use Rattle.law_steps.specs.StateNames.{StackNamed}
use Rattle.icn_control.specs.LiveStacks.{IsLiveStack}
use Rattle.icn_control.specs.Machines.{ComesTo, IsSoundMachine, does, stack_of, store_seen}
use Rattle.icn_control.specs.StackViews.{stack_in}
use Rattle.icn_control.specs.TakenOperands.{KeepsCounts, take_operands}
use Rattle.icn_control.specs.declared.machine.Machine.{Machine}
use Rattle.icn_control.proofs.ExhaustSteps.{nat_lt_true}
use Rattle.icn_control.proofs.ListSteps.{nat_lt_false}
use Rattle.icn_control.proofs.LiteralSteps.{running_live}
use Rattle.icn_control.proofs.TakenOperandSteps.{live_taken}
use Rattle.icn_machine.specs.Performing.{PerformsRow}
use Rattle.icn_machine.specs.PlainFunctions.{CallsFunction}
use Rattle.icn_machine.proofs.CallFacts.{bare_store, sizes_stay_on}
use Rattle.icn_machine.proofs.InPlaceSteps.{does_same, on_same, on_stack, sound_same}
use Rattle.icn_machine.proofs.OperandCalls.{coexps_left, going_has_stack, operands_perform, sound_after, taken_named}
use Rattle.icn_machine.proofs.OperateSteps.{named_running, performs_still}
use Rattle.icn_machine.proofs.PerformEvents.{performs_as, row_going, unless_both}
use Rattle.icn_machine.proofs.PlainCallSteps.{invoke_bound, operands_there}
use Rattle.icn_machine.proofs.PlainFunctionSteps.{calls_at, dropped_live, dropped_named, drops_taken, function_invoked}
use Rattle.icn_machine.proofs.invoking.invoke.Goals as goal

pub returns-then-m-clause-step : goal.returns-then-m-clause-step
returns-then-m-clause-step g c =
    let m = c.args.m.now in
    let t = tables_of c.args.code.now in
    let none : nat_lt m.turns (heap_of m.world.heap).bounds.turns ≡ false
    = ap (λ (x : Bounds). nat_lt m.turns x.turns) c.requires.stands.sound.1.bounds ∙ nat_lt_false m.turns m.limits.turns c.if-m.true in
    performs_still _ _ _ _
    (λ was. invoke_bound (extent_of m.world.heap) t c.args.count (stack_of m) (store_seen t was m) c.requires.operands none)

pub returns-then-m-clause-sound : goal.returns-then-m-clause-sound
returns-then-m-clause-sound g c k = k

pub returns-then-m-clause-named : goal.returns-then-m-clause-named
returns-then-m-clause-named g c = (c.requires.named.stack_named, c.requires.named.world_named)

pub returns-then-m-clause-coexps_named : goal.returns-then-m-clause-coexps_named
returns-then-m-clause-coexps_named g c h = h

pub invoke_by_value-requires-clause-stands : goal.invoke_by_value-requires-clause-stands
invoke_by_value-requires-clause-stands g c =
    let m = c.args.m.now in
    let t = c.requires.stands.sound.0 in
    record {
      runs = refl;
      sound = (
        t,
        sound_same m c.frames.result.now t c.frames.result.now.flat c.frames.ensures.running refl
            c.requires.stands.sound.1,
      );
    }

pub invoke_by_value-requires-clause-operands : goal.invoke_by_value-requires-clause-operands
invoke_by_value-requires-clause-operands g c =
    let F : FlatStack → Type 0 = λ x. IsSome (take_operands (suc c.args.count) x) in
    on_same c.args.m.now c.frames.result.now c.frames.result.now.flat F c.frames.ensures.running refl
    c.requires.operands

pub invoke_by_value-requires-clause-named : goal.invoke_by_value-requires-clause-named
invoke_by_value-requires-clause-named g c =
    let m = c.args.m.now in
    let F : FlatStack → Type 0 = λ x. StackNamed (g.N.Names.known c.args.names.now) (stack_in (extent_of m.world.heap) x) in
    record {
      stack_named = on_same m c.frames.result.now c.frames.result.now.flat F c.frames.ensures.running refl
          c.requires.named.stack_named;
      world_named = c.requires.named.world_named;
    }

pub returns-in_default-clause-step : goal.returns-in_default-clause-step
returns-in_default-clause-step g c =
    let m = c.args.m.now in
    let t = tables_of c.args.code.now in
    let s = c.frames.result.now in
    let instr = Instrs.Invoke c.args.count in
    performs_as (λ was. does t was instr m) (λ was. does t was instr (on_stack m s))
    (λ was now answer. ComesTo t now (does t was instr (on_stack m s)) c.invoke_by_value.new.m answer)
    (λ was now answer. ComesTo t now (does t was instr m) c.invoke_by_value.new.m answer)
    _ _ c.invoke_by_value.result
    (λ was. does_same m s t was instr c.frames.result.now.flat c.frames.ensures.running refl)
    (λ was now h. subst (λ (x : State Frames Frames). ComesTo t now x c.invoke_by_value.new.m c.invoke_by_value.result)
    (sym (does_same m s t was instr c.frames.result.now.flat c.frames.ensures.running refl)) h)
    c.invoke_by_value.ensures.step

pub returns-in_default-clause-sound : goal.returns-in_default-clause-sound
returns-in_default-clause-sound g c k =
    c.invoke_by_value.ensures.sound
    (sound_same c.args.m.now c.frames.result.now (tables_of c.args.code.now) c.frames.result.now.flat c.frames.ensures.running
    refl k)

pub returns-in_default-clause-coexps_named : goal.returns-in_default-clause-coexps_named
returns-in_default-clause-coexps_named g c h = c.invoke_by_value.ensures.coexps_named h

pub function_called-requires : goal.function_called-requires
function_called-requires g c =
    let F : FlatStack → Type 0 = λ x. IsSome (take_operands (suc c.args.count) x) in
    let m = c.args.m.now in
    operands_there c.args.count c.frames.result.now.flat
    (on_same m c.frames.result.now c.frames.result.now.flat F c.frames.ensures.running refl c.requires.operands)

pub drop_with-requires : goal.drop_with-requires
drop_with-requires g c =
    let F : FlatStack → Type 0 = λ x. IsSome (take_operands (suc c.args.count) x) in
    let m = c.args.m.now in
    let same = sym (same_Some _ _ c.frames-2.ensures.running) in
    operands_there c.args.count c.frames-2.result.now.flat
    (on_same m c.frames-2.result.now c.frames.result.now.flat F c.frames.ensures.running same c.requires.operands)

pub perform_function-requires-clause-here : goal.perform_function-requires-clause-here
perform_function-requires-clause-here g c =
    let m = c.args.m.now in
    let names = g.N.Names.known c.args.names.now in
    let all = extent_of m.world.heap in
    let t = c.requires.stands.sound.0 in
    let f = c.frames.result.now.flat in
    let k = c.drop_with.new.self.flat in
    let same = sym (same_Some _ _ c.frames-2.ensures.running) in
    let left = same_Some _ _ c.frames-3.ensures.running in
    let taken = drops_taken c.args.count c.frames-2.result.now.flat k c.drop_with.ensures.drops in
    let live = running_live t (reach_of m.world []) m.stacks.table f c.frames.ensures.running c.requires.stands.sound.1.stacks in
    let here : IsLiveStack t (reach_of m.world []) c.frames-2.result.now.flat = subst (λ (x : FlatStack). IsLiveStack t (reach_of m.world []) x) (sym same) live in
    let seen = named_running names all m.stacks.table f c.frames.ensures.running c.requires.named.stack_named in
    let there : StackNamed names (stack_in all c.frames-2.result.now.flat)
    = subst (λ (x : FlatStack). StackNamed names (stack_in all x)) (sym same) seen in
    record {
      stack = (
        t,
        subst (λ (x : FlatStack). IsLiveStack t (reach_of m.world []) x) left
            (live_taken t (reach_of m.world []) (suc c.args.count) c.frames-2.result.now.flat k _ taken here).rest,
      );
      stack_named = (
          subst (λ (x : FlatStack). StackNamed names (stack_in all x)) left
          (taken_named names all (suc c.args.count) c.frames-2.result.now.flat k _ taken there).1);
      world_named = c.requires.named.world_named;
    }

pub perform_function-requires-clause-live : goal.perform_function-requires-clause-live
perform_function-requires-clause-live g c =
    let m = c.args.m.now in
    let t = c.requires.stands.sound.0 in
    let same = sym (same_Some _ _ c.frames-2.ensures.running) in
    let live = running_live t (reach_of m.world []) m.stacks.table c.frames.result.now.flat c.frames.ensures.running c.requires.stands.sound.1.stacks in
    let here : IsLiveStack t (reach_of m.world []) c.frames-2.result.now.flat = subst (λ (x : FlatStack). IsLiveStack t (reach_of m.world []) x) (sym same) live in
    let calls = calls_at (tables_of c.args.code.now) m.world.globals.items c.args.count _ c.in-Some.func c.frames.result.now.flat c.frames-2.result.now.flat
    (same_Some _ _ c.frames-2.ensures.running) c.in-Some.ensures in
    subst (λ (vs : List Val). All (IsLive (extent_of m.world.heap)) vs) (sym c.deref.ensures.value)
    (dropped_live t (tables_of c.args.code.now) m.world c.args.count _ c.in-Some.func c.frames-2.result.now.flat c.drop_with.new.self.flat
    c.drop_with.ensures.drops calls m.world.sound.live_globals here)

pub perform_function-requires-clause-named : goal.perform_function-requires-clause-named
perform_function-requires-clause-named g c =
    let m = c.args.m.now in
    let names = g.N.Names.known c.args.names.now in
    let all = extent_of m.world.heap in
    let same = sym (same_Some _ _ c.frames-2.ensures.running) in
    let seen = named_running names all m.stacks.table c.frames.result.now.flat c.frames.ensures.running c.requires.named.stack_named in
    let there : StackNamed names (stack_in all c.frames-2.result.now.flat)
    = subst (λ (x : FlatStack). StackNamed names (stack_in all x)) (sym same) seen in
    let calls = calls_at (tables_of c.args.code.now) m.world.globals.items c.args.count _ c.in-Some.func c.frames.result.now.flat c.frames-2.result.now.flat
    (same_Some _ _ c.frames-2.ensures.running) c.in-Some.ensures in
    subst (λ (vs : List Val). All (ValueNamed names) (map (value_in all) vs)) (sym c.deref.ensures.value)
    (dropped_named names (tables_of c.args.code.now) m.world c.args.count _ c.in-Some.func c.frames-2.result.now.flat c.drop_with.new.self.flat
    c.drop_with.ensures.drops calls c.requires.named.world_named.globals there)

pub returns-clause-step : goal.returns-clause-step
returns-clause-step g c =
    let m = c.args.m.now in
    let t = tables_of c.args.code.now in
    let names = g.N.Names.known c.args.names.now in
    let all = extent_of m.world.heap in
    let f = c.frames.result.now.flat in
    let k = c.drop_with.new.self.flat in
    let d = c.drop_with.ensures.drops in
    let func = c.in-Some.func in
    let n = c.perform_function.new.frames.flat in
    let after : Machine g.row.K.Denot
    = record {
      world = c.perform_function.new.world;
      stacks = with_stack m.stacks c.perform_function.new.frames;
      turns = m.turns + 1;
      begun = m.begun;
      limits = m.limits;
    } in
    let more : nat_lt m.turns (heap_of m.world.heap).bounds.turns ≡ true
    = ap (λ (x : Bounds). nat_lt m.turns x.turns) c.requires.stands.sound.1.bounds ∙ nat_lt_true m.turns m.limits.turns c.if-m.false in
    let same = sym (same_Some _ _ c.frames-2.ensures.running) in
    let calls = calls_at t m.world.globals.items c.args.count _ func c.frames.result.now.flat c.frames-2.result.now.flat
    (same_Some _ _ c.frames-2.ensures.running) c.in-Some.ensures in
    let vals : List Val = c.deref.result.now in
    let called = subst (λ (vs : List Val). CallsFunction t m.world.globals.items c.frames-2.result.now.flat c.args.count vs func) (sym c.deref.ensures.value) calls in
    let row = subst (λ (x : FlatStack). PerformsRow (function_of names func (map (value_in all) vals)) m.world x (g.S.Streams.state c.args.streams.now)
    c.perform_function.new.world n (g.S.Streams.state c.perform_function.new.streams) c.perform_function.result)
    (sym (same_Some _ _ c.frames-3.ensures.running)) c.perform_function.ensures.row in
    operands_perform m after c.requires.stands.sound.0 t (Instrs.Invoke c.args.count) (suc c.args.count) (invoked_with flat t) f k k n (d.callee ∷ d.items)
    (d.callee ∷ d.items) _ _ c.perform_function.result (λ a st. refl) c.frames.ensures.running
    (subst (λ (x : FlatStack). take_operands (suc c.args.count) x ≡ Some (d.callee ∷ d.items, k)) same
    (drops_taken c.args.count c.frames-2.result.now.flat k d))
    refl refl more c.perform_function.ensures.leaves.kept c.requires.stands.sound.1.stacks (add-one m.turns) refl refl
    (row_going (function_of names func (map (value_in all) vals)) m.world c.perform_function.new.world k n _ _ c.perform_function.result
    (bare_store names m.world) refl row)
    (function_invoked t names m.world c.perform_function.new.world c.args.count vals func c.frames-2.result.now.flat k n d _ _ c.perform_function.result
    c.requires.known called row)

pub returns-clause-sound : goal.returns-clause-sound
returns-clause-sound g c s =
    let m = c.args.m.now in
    let t = tables_of c.args.code.now in
    let k = c.drop_with.new.self.flat in
    let after : Machine g.row.K.Denot
    = record {
      world = c.perform_function.new.world;
      stacks = with_stack m.stacks c.perform_function.new.frames;
      turns = m.turns + 1;
      begun = m.begun;
      limits = m.limits;
    } in
    let same = sym (same_Some _ _ c.frames-2.ensures.running) in
    let live = running_live t (reach_of m.world []) m.stacks.table c.frames.result.now.flat c.frames.ensures.running s.stacks in
    let here : IsLiveStack t (reach_of m.world []) c.frames-2.result.now.flat = subst (λ (x : FlatStack). IsLiveStack t (reach_of m.world []) x) (sym same) live in
    let rest = live_taken t (reach_of m.world []) (suc c.args.count) c.frames-2.result.now.flat k _
    (drops_taken c.args.count c.frames-2.result.now.flat k c.drop_with.ensures.drops) here in
    let left : IsLiveStack t (reach_of m.world []) c.frames-3.result.now.flat
    = subst (λ (x : FlatStack). IsLiveStack t (reach_of m.world []) x) (same_Some _ _ c.frames-3.ensures.running) rest.rest in
    unless_both c.perform_function.result (IsLiveStack t (reach_of c.perform_function.new.world []) c.perform_function.new.frames.flat)
    (KeepsCounts m.world c.perform_function.new.world)
    (IsSoundMachine t after)
    (c.perform_function.ensures.live t left) c.perform_function.ensures.leaves.counts
    (λ l counts. sound_after m after t c.perform_function.new.frames.flat refl refl refl c.perform_function.ensures.leaves.kept l counts s)

pub returns-clause-stack : goal.returns-clause-stack
returns-clause-stack g c =
    let m = c.args.m.now in
    let names = g.N.Names.known c.args.names.now in
    let after : Machine g.row.K.Denot
    = record {
      world = c.perform_function.new.world;
      stacks = with_stack m.stacks c.perform_function.new.frames;
      turns = m.turns + 1;
      begun = m.begun;
      limits = m.limits;
    } in
    going_has_stack after c.perform_function.result
    (row_going (function_of names c.in-Some.func (map (value_in (extent_of m.world.heap)) c.deref.result.now)) m.world c.perform_function.new.world
    c.frames-3.result.now.flat c.perform_function.new.frames.flat _ _ c.perform_function.result (bare_store names m.world) refl c.perform_function.ensures.row)
    refl

pub returns-clause-coexps_named : goal.returns-clause-coexps_named
returns-clause-coexps_named g c h =
    let m = c.args.m.now in
    coexps_left c.requires.stands.sound.0 (g.N.Names.known c.args.names.now) m.world c.perform_function.new.world m.stacks.table
    c.perform_function.new.frames.flat c.perform_function.ensures.leaves.kept c.requires.stands.sound.1.stacks h

pub returns-clause-sized : goal.returns-clause-sized
returns-clause-sized g c =
    sizes_stay_on c.perform_function.result c.args.m.now.world c.perform_function.new.world (field_count (tables_of c.args.code.now))
    c.perform_function.ensures.sized
