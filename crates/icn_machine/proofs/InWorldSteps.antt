-- Operations that are performed on the stack alone in a world, as steps.
use Rattle.std.proofs.Common.{◌≡◌, ℕ, suc, pos, List, [], ◌∷◌, length, map, Option, Some, None, IfSome, refl, sym, ap, ◌∙◌, subst, arith}
use Rattle.std.specs.List.{All}
use Rattle.std.proofs.lemmas.List.Elements.{All-head, All-tail}
use Rattle.icn_text.specs.declared.op.Op.{Op}
use Rattle.icn_text.specs.declared.op.Op.TheVariants as Ops
use Rattle.icn_value.specs.declared.item.Item.{Item}
use Rattle.icn_value.specs.declared.item.Item.TheVariants as Items
use Rattle.icn_value.specs.declared.item.VarRef.TheVariants as VarRefs
use Rattle.icn_value.specs.declared.item.Root.TheVariants as Roots
use Rattle.icn_value.specs.declared.val.Val.{Val}
use Rattle.icn_value.specs.declared.val.Val.TheVariants as Vals
use Rattle.icn_value.specs.Sizes.{group_of, size_of}
use Rattle.icn_value.specs.Store.{Setting, World as StoreWorld}
use Rattle.icn_value.specs.Values as values
use Rattle.icn_defs.specs.Applying.{operation_row}
use Rattle.icn_defs.specs.Elements.{key_item}
use Rattle.icn_defs.specs.ReadAndAssign.{the_value}
use Rattle.icn_defs.specs.Rows.{Gives, Outcome, Row, gives_value, present}
use Rattle.icn_defs.specs.Variables.{subscript_of}
use Rattle.law_rows.proofs.EachOfList.{Each}
use Rattle.icn_heap.specs.Extents.{Extent, IsLive, value_in}
use Rattle.icn_heap.specs.Heaps.{extent_of, heap_of}
use Rattle.law_names.specs.NamedSettings.{ItemNamed}
use Rattle.icn_vars.specs.declared.world.World.{World}
use Rattle.icn_vars.specs.Worlds.{IsLiveItem, item_in, reach_of, world_of}
use Rattle.icn_frames.specs.CalledWith.{DropsWith, operands_above}
use Rattle.icn_frames.specs.declared.layout.Cell.TheVariants.{Operand}
use Rattle.icn_frames.specs.Stacks as held
use Rattle.icn_frames.specs.Stacks.{FlatStack}
use Rattle.icn_run.specs.Stacks.{Frames, flat}
use Rattle.icn_run.specs.Step.{Store, here, outcome, push_item, running}
use Rattle.law_steps.specs.StateNames.{StackNamed}
use Rattle.law_steps.proofs.CallsNamed as named
use Rattle.icn_control.specs.LiveStacks.{IsLiveStack, with_locals}
use Rattle.icn_control.specs.StackViews.{stack_in}
use Rattle.icn_control.specs.TakenOperands.{take_operands}
use Rattle.icn_control.specs.declared.machine.RunState.{RunState}
use Rattle.icn_control.specs.declared.machine.RunState.TheVariants as RunStates
use Rattle.icn_control.proofs.LiveCalls.{live_push, own_locals}
use Rattle.icn_control.proofs.TakenOperandSteps.{live_taken}
use Rattle.icn_machine.specs.PlainFunctions.{HasValue, HasValueBelow}
use Rattle.icn_machine.specs.PlainOperations.{OperatesAlone, OperatesInPlace, OperatesInWorld, OperatesOver}
use Rattle.icn_machine.proofs.OperateSteps.{named_taken}
use Rattle.icn_machine.proofs.PlainFunctionSteps.{drops_taken, told_live, told_named, value_is}
use Rattle.icn_machine.proofs.PlainOperationSteps.{after_turn, locals_back, row_performed}

-- what is performed on the stack alone is so in each world
over_world : (w : World) (op : Op) (m n : FlatStack) (r : Option RunState) → IfSome r (OperatesAlone op m n) → IfSome r (OperatesOver w op m n)
over_world w op m n (Some stage) done = λ tables st same more. done (extent_of w.heap) tables st more
over_world w op m n None done = tt

pub in_world : (w : World) (op : Op) (m n : FlatStack) (r : Option RunState) → OperatesInPlace op m n r → OperatesInWorld w op m n r
in_world w op m n r d = record {
  done = over_world w op m n r d.done;
  not_done = d.not_done;
  live = λ tables l. d.live tables (reach_of w []) l;
  named = λ names world h. d.named names (extent_of w.heap) h;
}

-- nothing was done
pub same_in_world : (w : World) (op : Op) (m : FlatStack) → OperatesInWorld w op m m None
same_in_world w op m = record { done = tt; not_done = λ q. refl; live = λ tables l. l; named = λ names world h. h }

sized_row : (w : World) (k : FlatStack) (st : Store Frames) (item : Item) (others : List Item) (v : Val) (size : ℕ) → st.world ≡ world_of w
    → HasValue w.globals.items (held.locals k) item v → Some size ≡ size_of (heap_of w.heap) (value_in (extent_of w.heap) v)
    → operation_row Ops.Size (map (item_in (extent_of w.heap)) (item ∷ others)) (here flat (stack_in (extent_of w.heap) k) st)
    ≡ Gives (values.Val (values.Integer (pos size))) (here flat (stack_in (extent_of w.heap) k) st)
sized_row w k st item others v size same h is =
    let all : Extent = extent_of w.heap in
    let at : Setting = here flat (stack_in all k) st in
    let give : ℕ → Row = λ n. gives_value (values.Integer (pos n)) in
    value_is w k st item v (λ u setting. present (size_of setting.world.heap u) 112 (Some u) give setting) same h
    ∙ ap (λ (x : StoreWorld). present (size_of x.heap (value_in all v)) 112 (Some (value_in all v)) give at) same
    ∙ ap (λ (o : Option ℕ). present o 112 (Some (value_in all v)) give at) (sym is)

-- the size of the top operand was computed
pub sizes : (w : World) (m k n : FlatStack) (size : ℕ) (v : Val) (d : DropsWith 0 m k) → HasValueBelow w.globals.items m 0 v
    → held.set_locals (held.locals k) k ≡ k → Some size ≡ size_of (heap_of w.heap) (value_in (extent_of w.heap) v)
    → n ≡ held.push (Items.Val (Vals.Integer (pos size))) k → OperatesInWorld w Ops.Size m n (Some RunStates.Running)
sizes w m k n size v d below back is pushed =
    let all : Extent = extent_of w.heap in
    let items : List Item = d.callee ∷ d.items in
    let taken : take_operands 1 m ≡ Some (items, k) = drops_taken 0 m k d in
    let there : HasValue w.globals.items (held.locals k) d.callee v
    = subst (λ (locals : List Val). HasValue w.globals.items locals d.callee v) d.locals_same
    (below d.callee d.items k.cells (ap (λ (x : FlatStack). x.cells) d.was) d.many) in
    record {
      done = λ tables st same b.
          row_performed all tables Ops.Size m k items st (λ q. cc) taken b
          ∙ ap (λ (o : Outcome). outcome flat o (stack_in all k) (after_turn st)) (sized_row w k (after_turn st) d.callee d.items v size same there is)
          ∙ ap (λ (a : Frames). push_item flat (values.Val (values.Integer (pos size))) a (after_turn st)) (locals_back all k back)
          ∙ ap (λ (a : FlatStack). running (stack_in all a) (after_turn st)) (sym pushed);
      not_done = λ q. cc;
      live = λ tables l.
          subst (λ (x : FlatStack). IsLiveStack tables (reach_of w []) x) (sym pushed)
          (live_push tables (reach_of w []) k (Items.Val (Vals.Integer (pos size)))
          (live_taken tables (reach_of w []) 1 m k items taken l).rest (record { live = record { live = tt } }));
      named = λ names world h.
          let one : ItemNamed names (values.Val (values.Integer (pos size))) = record { named = tt } in
          subst (λ (x : FlatStack). StackNamed names (stack_in all x)) (sym pushed)
          (named.stack_out names (stack_in all (held.push (Items.Val (Vals.Integer (pos size))) k)) (one, (named_taken names all 1 m k items taken h).rest));
    }

-- Subscripts of tables

pub one_item : (items : List Item) → length items ≡ 1 → (x : Item) × (items ≡ x ∷ [])
one_item [] e = let none : 0 ≡ 1 = e in absurd (omega arith)
one_item (x ∷ []) e = (x, refl)
one_item (x ∷ y ∷ items) e = let more : suc (suc (length items)) ≡ 1 = e in absurd (omega arith)

-- two operands that are dropped, with their values
record TwoDropped (w : World) (m k : FlatStack) (d : DropsWith 1 m k) (first second : Val) : Type 0 where
  upper : Item
  only : d.items ≡ upper ∷ []
  lower_is : HasValue w.globals.items (held.locals k) d.callee first
  upper_is : HasValue w.globals.items (held.locals k) upper second

two_dropped : (w : World) (m k : FlatStack) (d : DropsWith 1 m k) (first second : Val) → HasValueBelow w.globals.items m 1 first
    → HasValueBelow w.globals.items m 0 second → TwoDropped w m k d first second
two_dropped w m k d first second below top =
    let one = one_item d.items d.many in
    let cells : m.cells ≡ operands_above d.items (Operand d.callee ∷ k.cells) = ap (λ (x : FlatStack). x.cells) d.was in
    let above : m.cells ≡ operands_above [] (Operand one.0 ∷ Operand d.callee ∷ k.cells)
    = cells ∙ ap (λ (xs : List Item). operands_above xs (Operand d.callee ∷ k.cells)) one.1 in
    record {
      upper = one.0;
      only = one.1;
      lower_is =
          subst (λ (locals : List Val). HasValue w.globals.items locals d.callee first) d.locals_same (below d.callee d.items k.cells cells d.many);
      upper_is =
          subst (λ (locals : List Val). HasValue w.globals.items locals one.0 second) d.locals_same
          (top one.0 [] (Operand d.callee ∷ k.cells) above refl);
    }

keyed_row : (w : World) (k : FlatStack) (st : Store Frames) (lower upper : Item) (table : ℕ) (key : Val) → st.world ≡ world_of w
    → HasValue w.globals.items (held.locals k) lower (Vals.Table table) → HasValue w.globals.items (held.locals k) upper key
    → operation_row Ops.Subscript (map (item_in (extent_of w.heap)) (lower ∷ upper ∷ [])) (here flat (stack_in (extent_of w.heap) k) st)
    ≡ Gives (key_item table (value_in (extent_of w.heap) key)) (here flat (stack_in (extent_of w.heap) k) st)
keyed_row w k st lower upper table key same first second =
    let all : Extent = extent_of w.heap in
    let x = item_in all lower in
    value_is w k st lower (Vals.Table table) (λ v. the_value (item_in all upper) (λ u. subscript_of x v u (group_of v))) same first
    ∙ value_is w k st upper key (λ u. subscript_of x (values.ATable table) u (group_of (values.ATable table))) same second

-- the variable of the value at a key was given
pub keys : (w : World) (m k n : FlatStack) (table : ℕ) (key : Val) (d : DropsWith 1 m k) → HasValueBelow w.globals.items m 1 (Vals.Table table)
    → HasValueBelow w.globals.items m 0 key → All (IsLive (extent_of w.heap)) w.globals.items → held.set_locals (held.locals k) k ≡ k
    → n ≡ held.push (Items.Var (VarRefs.Whole (Roots.Key table key))) k → OperatesInWorld w Ops.Subscript m n (Some RunStates.Running)
keys w m k n table key d below top globals back pushed =
    let all : Extent = extent_of w.heap in
    let two = two_dropped w m k d (Vals.Table table) key below top in
    let items : List Item = d.callee ∷ d.items in
    let item : Item = Items.Var (VarRefs.Whole (Roots.Key table key)) in
    let taken : take_operands 2 m ≡ Some (items, k) = drops_taken 1 m k d in
    record {
      done = λ tables st same b.
          row_performed all tables Ops.Subscript m k items st (λ q. cc) taken b
          ∙ ap (λ (xs : List Item). outcome flat (operation_row Ops.Subscript (map (item_in all) (d.callee ∷ xs)) (here flat (stack_in all k) (after_turn st)))
          (stack_in all k) (after_turn st)) two.only
          ∙ ap (λ (o : Outcome). outcome flat o (stack_in all k) (after_turn st))
          (keyed_row w k (after_turn st) d.callee two.upper table key same two.lower_is two.upper_is)
          ∙ ap (λ (a : Frames). push_item flat (item_in all item) a (after_turn st)) (locals_back all k back)
          ∙ ap (λ (a : FlatStack). running (stack_in all a) (after_turn st)) (sym pushed);
      not_done = λ q. cc;
      live = λ tables l.
          let P : Item → Type 0 = IsLiveItem (with_locals (own_locals k) (reach_of w [])) in
          let left = live_taken tables (reach_of w []) 2 m k items taken l in
          let others : All P (two.upper ∷ []) = subst (λ (xs : List Item). All P xs) two.only (All-tail P d.callee d.items left.items_live) in
          let table_live : IsLive all (Vals.Table table)
          = told_live tables w k (own_locals k) d.callee (Vals.Table table) globals left.rest (All-head P d.callee d.items left.items_live) two.lower_is in
          let key_live : IsLive all key
          = told_live tables w k (own_locals k) two.upper key globals left.rest (All-head P two.upper [] others) two.upper_is in
          subst (λ (x : FlatStack). IsLiveStack tables (reach_of w []) x) (sym pushed)
          (live_push tables (reach_of w []) k item left.rest (record { live = record { live = record { live = (table_live, key_live) } } }));
      named = λ names world h.
          let left = named_taken names all 2 m k items taken h in
          let each = subst (λ (xs : List Item). Each (ItemNamed names) (map (item_in all) (d.callee ∷ xs))) two.only left.items_named in
          let one : ItemNamed names (item_in all item) = record { named = told_named names w k two.upper key world.globals left.rest each.1.0 two.upper_is } in
          subst (λ (x : FlatStack). StackNamed names (stack_in all x)) (sym pushed)
          (named.stack_out names (stack_in all (held.push item k)) (one, left.rest));
    }
