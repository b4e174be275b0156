-- The assignment to a local of a value that any variable holds, as a step.
use Rattle.std.proofs.Common.{◌≡◌, ◌<◌, ℕ, true, [], ◌∷◌, List, Some, refl, sym, ap, ◌∙◌, subst, slice_set, map}
use Rattle.icn_text.specs.declared.op.Op.TheVariants as Ops
use Rattle.icn_value.specs.declared.item.Item.{Item}
use Rattle.icn_value.specs.declared.val.Val.{Val}
use Rattle.icn_value.specs.Store.{Setting}
use Rattle.icn_value.specs.Values as values
use Rattle.icn_defs.specs.Applying.{operation_row}
use Rattle.icn_defs.specs.ReadAndAssign.{assigns, the_variable}
use Rattle.icn_defs.specs.Rows.{Gives, Outcome, gives}
use Rattle.icn_heap.specs.Extents.{IsLive, value_in}
use Rattle.icn_heap.specs.Heaps.{extent_of}
use Rattle.law_names.specs.NamedSettings.{ItemNamed}
use Rattle.icn_vars.specs.declared.world.World.{World}
use Rattle.icn_vars.specs.Worlds.{item_in, reach_of, world_of}
use Rattle.icn_frames.specs.CalledWith.{DropsWith, operands_above}
use Rattle.icn_frames.specs.declared.layout.Cell.TheVariants.{Operand}
use Rattle.icn_frames.specs.Stacks as held
use Rattle.icn_frames.specs.Stacks.{FlatStack}
use Rattle.icn_run.specs.Stacks.{Frames, flat}
use Rattle.icn_run.specs.Step.{Store, here, outcome, push_item, running}
use Rattle.law_steps.specs.StateNames.{StackNamed}
use Rattle.law_steps.proofs.CallsNamed as named
use Rattle.icn_control.specs.LiveStacks.{IsLiveStack}
use Rattle.icn_control.specs.StackViews.{stack_in}
use Rattle.icn_control.specs.TakenOperands.{take_operands}
use Rattle.icn_control.specs.declared.machine.RunState.TheVariants as RunStates
use Rattle.icn_control.proofs.LiveCalls.{live_push}
use Rattle.icn_control.proofs.TakenOperandSteps.{live_taken}
use Rattle.icn_machine.specs.HeldValues.{FindsBelow}
use Rattle.icn_machine.specs.PlainOperations.{OperatesInWorld, local_item}
use Rattle.icn_machine.specs.ValueOperations.{FindsOperand, is_nameless}
use Rattle.icn_machine.proofs.HeldValueSteps.{moved}
use Rattle.icn_machine.proofs.InWorldSteps.{one_item}
use Rattle.icn_machine.proofs.OperateSteps.{named_taken}
use Rattle.icn_machine.proofs.PlainFunctionSteps.{drops_taken}
use Rattle.icn_machine.proofs.PlainOperationSteps.{after_turn, locals_set, row_performed, set_live, set_named}
use Rattle.icn_machine.proofs.ValueOperationSteps.{nameless_named}

assigned_held : (w : World) (k : FlatStack) (st : Store Frames) (y : Item) (index : ℕ) (v : Val) → st.world ≡ world_of w → FindsOperand w k y v
    → operation_row Ops.Assign (map (item_in (extent_of w.heap)) (local_item index ∷ y ∷ [])) (here flat (stack_in (extent_of w.heap) k) st)
    ≡ Gives (item_in (extent_of w.heap) (local_item index))
    (let at : Setting = here flat (stack_in (extent_of w.heap) k) st in record at { locals = slice_set at.locals index (value_in (extent_of w.heap) v) })
assigned_held w k st y index v same found =
    found st same (λ u. the_variable (item_in (extent_of w.heap) (local_item index)) (λ target. assigns target u (λ now. gives (values.Var now))))

-- a local was assigned the value of the operand above it, where both were dropped
pub assigns_held : (w : World) (m k l n : FlatStack) (index : ℕ) (v : Val) (d : DropsWith 1 m k)
    → ((x : Item) → m.cells ≡ operands_above d.items (Operand x ∷ k.cells) → x ≡ local_item index) → FindsBelow w m 0 v
    → is_nameless v ≡ true → IsLive (extent_of w.heap) v → l ≡ held.set_locals (slice_set (held.locals k) index v) k → index < held.local_count l
    → n ≡ held.push (local_item index) l → OperatesInWorld w Ops.Assign m n (Some RunStates.Running)
assigns_held w m k l n index v d is found nameless live e within pushed =
    let all = extent_of w.heap in
    let one = one_item d.items d.many in
    let cells : m.cells ≡ operands_above d.items (Operand d.callee ∷ k.cells) = ap (λ (x : FlatStack). x.cells) d.was in
    let above : m.cells ≡ operands_above [] (Operand one.0 ∷ Operand d.callee ∷ k.cells)
    = cells ∙ ap (λ (xs : List Item). operands_above xs (Operand d.callee ∷ k.cells)) one.1 in
    let item : Item = local_item index in
    let items : List Item = item ∷ one.0 ∷ [] in
    let taken : take_operands 2 m ≡ Some (items, k)
    = subst (λ (x : Item). take_operands 2 m ≡ Some (x ∷ one.0 ∷ [], k)) (is d.callee cells)
    (subst (λ (xs : List Item). take_operands 2 m ≡ Some (d.callee ∷ xs, k)) one.1 (drops_taken 1 m k d)) in
    let upper : FindsOperand w k one.0 v = moved w m k one.0 v d.locals_same (found one.0 [] (Operand d.callee ∷ k.cells) above refl) in
    record {
      done = λ tables st same more.
          row_performed all tables Ops.Assign m k items st (λ q. cc) taken more
          ∙ ap (λ (o : Outcome). outcome flat o (stack_in all k) (after_turn st)) (assigned_held w k (after_turn st) one.0 index v same upper)
          ∙ ap (λ (a : Frames). push_item flat (item_in all item) a (after_turn st)) (locals_set all k l index v e)
          ∙ ap (λ (a : FlatStack). running (stack_in all a) (after_turn st)) (sym pushed);
      not_done = λ q. cc;
      live = λ t s.
          subst (λ (x : FlatStack). IsLiveStack t (reach_of w []) x) (sym pushed)
          (live_push t (reach_of w []) l item (set_live t (reach_of w []) k l index v live e (live_taken t (reach_of w []) 2 m k items taken s).rest)
          (record { live = record { live = record { live = within } } }));
      named = λ names world h.
          let back = named_taken names all 2 m k items taken h in
          let given : ItemNamed names (item_in all item) = record { named = tt } in
          subst (λ (x : FlatStack). StackNamed names (stack_in all x)) (sym pushed)
          (named.stack_out names (stack_in all (held.push item l))
          (given, set_named names all k l index v (nameless_named names all v nameless) e back.rest));
    }
