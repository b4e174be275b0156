use Rattle.std.proofs.Common.{◌≡◌, ◌+◌, ◌∷◌, true, false, nat_lt, Option, IsSome, Ok, [], refl, ap, ◌∙◌, subst, add-one, rules}
use Rattle.std.proofs.lemmas.Option.{same_Some}
use Rattle.icn_value.specs.Limited.{Bounds}
use Rattle.icn_heap.specs.Heaps.{heap_of}
use Rattle.icn_vars.specs.Worlds.{IsLiveItem, reach_of}
use Rattle.icn_vars.proofs.KeptItems.{keeps_items_refl}
use Rattle.icn_frames.specs.Stacks as held
use Rattle.icn_frames.specs.Stacks.{FlatStack}
use Rattle.icn_coexp.specs.Transfers.{with_stack}
use Rattle.icn_code.specs.CodeTables.{tables_of}
use Rattle.icn_code.specs.declared.instr.Instr.TheVariants as Instrs
use Rattle.icn_run.specs.Stacks.{flat}
use Rattle.icn_run.specs.Step.{field_applied}
use Rattle.icn_control.specs.LiveStacks.{IsLiveStack, with_locals}
use Rattle.icn_control.specs.Machines.{running_of}
use Rattle.icn_control.specs.declared.machine.Machine.{Machine}
use Rattle.icn_control.specs.declared.machine.RunState.TheVariants as RunStates
use Rattle.icn_control.proofs.ExhaustSteps.{nat_lt_true}
use Rattle.icn_control.proofs.Halts.{halt_has_stack}
use Rattle.icn_control.proofs.ListSteps.{nat_lt_false}
use Rattle.icn_control.proofs.LiteralSteps.{running_live}
use Rattle.icn_control.proofs.LiveCalls.{live_pop}
use Rattle.icn_control.proofs.MachineSteps.{stacks_on}
use Rattle.icn_control.proofs.StackAndWorldSteps.{match_halt}
use Rattle.icn_machine.proofs.LoopSteps.{if_err_known}
use Rattle.icn_machine.proofs.OperandCalls.{bound_comes, erred_sound, not_going, one_taken, operands_come, sound_after}
use Rattle.icn_machine.proofs.fields.field.Goals as goal

pub pop-item-requires : goal.pop-item-requires
pop-item-requires g c = subst (λ (o : Option FlatStack). IsSome (held.pop (running_of o))) c.frames.ensures.running c.requires.operand

pub returns-then-m-clause-step : goal.returns-then-m-clause-step
returns-then-m-clause-step g c =
    let m = c.args.m.now in
    let t = tables_of c.args.code.now in
    let after : Machine g.row.K.Denot
    = record { world = m.world; stacks = with_stack m.stacks c.pop-item.new.self; turns = m.turns; begun = m.begun; limits = m.limits } in
    let none : nat_lt m.turns (heap_of m.world.heap).bounds.turns ≡ false
    = ap (λ (x : Bounds). nat_lt m.turns x.turns) c.requires.stands.sound.1.bounds ∙ nat_lt_false m.turns m.limits.turns c.if-m.true in
    bound_comes m after t (Instrs.Field c.args.field) 1 (field_applied flat t c.args.field) c.frames.result.now.flat c.pop-item.new.self.flat
    (c.pop-item.result ∷ []) (λ a st. refl) c.frames.ensures.running
    (one_taken c.frames.result.now.flat c.pop-item.new.self.flat c.pop-item.result c.pop-item.ensures.flat) none (λ outside. refl)

pub returns-then-m-clause-keeps : goal.returns-then-m-clause-keeps
returns-then-m-clause-keeps g c = record {
  sound = λ tables k. (
      let m = c.args.m.now in
      record {
        stacks = stacks_on tables (reach_of m.world []) m.stacks.table c.frames.result.now.flat c.pop-item.new.self.flat c.frames.ensures.running
            (λ l. (live_pop tables (reach_of m.world []) c.frames.result.now.flat c.pop-item.new.self.flat c.pop-item.result c.pop-item.ensures.flat l).rest)
            k.stacks;
        bounds = k.bounds;
        counts = k.counts;
        counted = record { results = k.counted.results; activators = k.counted.activators };
      });
  halt = search rules;
  limits = refl;
  stack = search rules;
}

pub push_field-requires-clause-stack : goal.push_field-requires-clause-stack
push_field-requires-clause-stack g c =
    let m = c.args.m.now in
    let t = c.requires.stands.sound.0 in
    let live = running_live t (reach_of m.world []) m.stacks.table c.frames.result.now.flat c.frames.ensures.running c.requires.stands.sound.1.stacks in
    let back = live_pop t (reach_of m.world []) c.frames.result.now.flat c.pop-item.new.self.flat c.pop-item.result c.pop-item.ensures.flat live in
    (t, subst (λ (x : FlatStack). IsLiveStack t (reach_of m.world []) x) (same_Some _ _ c.frames-2.ensures.running) back.rest)

pub push_field-requires-clause-item : goal.push_field-requires-clause-item
push_field-requires-clause-item g c =
    let m = c.args.m.now in
    let t = c.requires.stands.sound.0 in
    let live = running_live t (reach_of m.world []) m.stacks.table c.frames.result.now.flat c.frames.ensures.running c.requires.stands.sound.1.stacks in
    let back = live_pop t (reach_of m.world []) c.frames.result.now.flat c.pop-item.new.self.flat c.pop-item.result c.pop-item.ensures.flat live in
    subst (λ (x : FlatStack). IsLiveItem (with_locals (held.local_count x) (reach_of m.world [])) c.pop-item.result)
    (same_Some _ _ c.frames-2.ensures.running) back.item_live

pub push_field-requires-clause-sizes : goal.push_field-requires-clause-sizes
push_field-requires-clause-sizes g c = c.requires.sizes

pub returns-in_err-push_field-clause-step : goal.returns-in_err-push_field-clause-step
returns-in_err-push_field-clause-step g c =
    let m = c.args.m.now in
    let t = tables_of c.args.code.now in
    let after : Machine g.row.K.Denot
    = record { world = m.world; stacks = with_stack m.stacks c.push_field.new.frames; turns = m.turns + 1; begun = m.begun; limits = m.limits } in
    let more : nat_lt m.turns (heap_of m.world.heap).bounds.turns ≡ true
    = ap (λ (x : Bounds). nat_lt m.turns x.turns) c.requires.stands.sound.1.bounds ∙ nat_lt_true m.turns m.limits.turns c.if-m.false in
    operands_come m after c.requires.stands.sound.0 t (Instrs.Field c.args.field) 1 (field_applied flat t c.args.field) c.frames.result.now.flat
    c.pop-item.new.self.flat c.frames-2.result.now.flat c.push_field.new.frames.flat
    (c.pop-item.result ∷ []) (c.pop-item.result ∷ []) c.from_residual.result (λ a st. refl) c.frames.ensures.running
    (one_taken c.frames.result.now.flat c.pop-item.new.self.flat c.pop-item.result c.pop-item.ensures.flat) (same_Some _ _ c.frames-2.ensures.running) refl
    more (keeps_items_refl (reach_of m.world [])) c.requires.stands.sound.1.stacks
    (add-one m.turns) refl refl (not_going c.from_residual.result c.in_err-push_field.field-0.0 c.from_residual.ensures.1)
    (λ st same. match_halt c.from_residual.result c.in_err-push_field.field-0.0 _ _ c.from_residual.ensures.1 (c.in_err-push_field.ensures.step st same))

pub returns-in_err-push_field-clause-keeps : goal.returns-in_err-push_field-clause-keeps
returns-in_err-push_field-clause-keeps g c = record {
  sound = λ tables k. (
      let m = c.args.m.now in
      let after : Machine g.row.K.Denot
      = record { world = m.world; stacks = with_stack m.stacks c.push_field.new.frames; turns = m.turns + 1; begun = m.begun; limits = m.limits } in
      let live = running_live tables (reach_of m.world []) m.stacks.table c.frames.result.now.flat c.frames.ensures.running k.stacks in
      let back = live_pop tables (reach_of m.world []) c.frames.result.now.flat c.pop-item.new.self.flat c.pop-item.result c.pop-item.ensures.flat live in
      let here : IsLiveStack tables (reach_of m.world []) c.frames-2.result.now.flat
      = subst (λ (x : FlatStack). IsLiveStack tables (reach_of m.world []) x) (same_Some _ _ c.frames-2.ensures.running) back.rest in
      erred_sound m after tables c.push_field.new.frames.flat c.from_residual.result c.in_err-push_field.field-0.0 c.from_residual.ensures.1
      refl refl refl (keeps_items_refl (reach_of m.world [])) (c.in_err-push_field.ensures.live tables here) (record { bounds = refl; coexps = refl }) k);
  halt = if_err_known c.from_residual.result c.in_err-push_field.field-0.0 _ c.from_residual.ensures.1 c.in_err-push_field.ensures.halt;
  limits = refl;
  stack = halt_has_stack (record c.args.m.now { stacks = with_stack c.args.m.now.stacks c.push_field.new.frames; turns = c.args.m.now.turns + 1 })
      c.from_residual.result c.in_err-push_field.field-0.0 c.from_residual.ensures.1 refl;
}

pub returns-clause-step : goal.returns-clause-step
returns-clause-step g c =
    let m = c.args.m.now in
    let t = tables_of c.args.code.now in
    let after : Machine g.row.K.Denot
    = record { world = m.world; stacks = with_stack m.stacks c.push_field.new.frames; turns = m.turns + 1; begun = m.begun; limits = m.limits } in
    let more : nat_lt m.turns (heap_of m.world.heap).bounds.turns ≡ true
    = ap (λ (x : Bounds). nat_lt m.turns x.turns) c.requires.stands.sound.1.bounds ∙ nat_lt_true m.turns m.limits.turns c.if-m.false in
    operands_come m after c.requires.stands.sound.0 t (Instrs.Field c.args.field) 1 (field_applied flat t c.args.field) c.frames.result.now.flat
    c.pop-item.new.self.flat c.frames-2.result.now.flat c.push_field.new.frames.flat
    (c.pop-item.result ∷ []) (c.pop-item.result ∷ []) (Ok RunStates.Running) (λ a st. refl) c.frames.ensures.running
    (one_taken c.frames.result.now.flat c.pop-item.new.self.flat c.pop-item.result c.pop-item.ensures.flat) (same_Some _ _ c.frames-2.ensures.running) refl
    more (keeps_items_refl (reach_of m.world [])) c.requires.stands.sound.1.stacks
    (add-one m.turns) refl refl tt (c.in_ok-push_field.ensures.step)

pub returns-clause-keeps : goal.returns-clause-keeps
returns-clause-keeps g c = record {
  sound = λ tables k. (
      let m = c.args.m.now in
      let after : Machine g.row.K.Denot
      = record { world = m.world; stacks = with_stack m.stacks c.push_field.new.frames; turns = m.turns + 1; begun = m.begun; limits = m.limits } in
      let live = running_live tables (reach_of m.world []) m.stacks.table c.frames.result.now.flat c.frames.ensures.running k.stacks in
      let back = live_pop tables (reach_of m.world []) c.frames.result.now.flat c.pop-item.new.self.flat c.pop-item.result c.pop-item.ensures.flat live in
      let here : IsLiveStack tables (reach_of m.world []) c.frames-2.result.now.flat
      = subst (λ (x : FlatStack). IsLiveStack tables (reach_of m.world []) x) (same_Some _ _ c.frames-2.ensures.running) back.rest in
      sound_after m after tables c.push_field.new.frames.flat refl refl refl (keeps_items_refl (reach_of m.world []))
      (c.in_ok-push_field.ensures.live tables here) (record { bounds = refl; coexps = refl }) k);
  halt = search rules;
  limits = refl;
  stack = search rules;
}
