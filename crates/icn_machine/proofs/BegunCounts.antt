-- Counts that begin, on operands that slots tell.
use Rattle.std.proofs.Common.{◌≡◌, ℤ, suc, pos, Bool, false, not, List, [], ◌∷◌, length, map, Option, Some, None, refl, sym, ap, ◌∙◌, subst, arith}
use Rattle.std.specs.Ordering.{int_eq}
use Rattle.icn_text.specs.declared.op.Op.TheVariants as Ops
use Rattle.icn_value.specs.declared.item.Item.{Item}
use Rattle.icn_value.specs.declared.val.Val.{Val}
use Rattle.icn_value.specs.Store.{Names, Setting}
use Rattle.icn_value.specs.Values as values
use Rattle.icn_value.specs.Values.{Value}
use Rattle.icn_defs.specs.Applying.{operation_row}
use Rattle.icn_defs.specs.Arguments.{integer}
use Rattle.icn_defs.specs.Arithmetic.{count_from}
use Rattle.icn_defs.specs.ReadAndAssign.{the_value}
use Rattle.icn_defs.specs.Rows.{Outcome, Row, check}
use Rattle.icn_heap.specs.Extents.{Extent}
use Rattle.icn_vars.specs.Outcomes.{outcome_in}
use Rattle.icn_vars.specs.Worlds.{item_in}
use Rattle.icn_frames.specs.CalledWith.{DropsWith, operands_above}
use Rattle.icn_frames.specs.Slots.{plain_operand}
use Rattle.icn_frames.specs.Stacks as held
use Rattle.icn_frames.specs.Stacks.{FlatStack}
use Rattle.icn_frames.specs.declared.layout.Cell.TheVariants.{Operand}
use Rattle.icn_frames.specs.declared.layout.Count.{Count}
use Rattle.icn_frames.specs.declared.slots.StackSlot.{StackSlot}
use Rattle.icn_run.specs.Stacks.{Frames, flat}
use Rattle.icn_run.specs.Step.{State, Store, here, outcome}
use Rattle.law_steps.specs.StateNames.{StackNamed}
use Rattle.law_steps.proofs.CallsNamed as named
use Rattle.icn_control.specs.LiveStacks.{StaysLive}
use Rattle.icn_control.specs.StackViews.{stack_in}
use Rattle.icn_control.specs.TakenOperands.{take_operands}
use Rattle.icn_control.specs.declared.machine.RunState.{RunState}
use Rattle.icn_control.proofs.TakenOperandSteps.{live_taken}
use Rattle.icn_machine.specs.Counts.{TellsCount, count_outcome}
use Rattle.icn_machine.specs.Giving.{GivesOutcome, StandsAs}
use Rattle.icn_machine.specs.PlainOperations.{HoldsInteger, OperatesInPlace, TellsInteger}
use Rattle.icn_machine.proofs.CountSteps.{counted}
use Rattle.icn_machine.proofs.OperateSteps.{named_taken}
use Rattle.icn_machine.proofs.PlainFunctionSteps.{drops_taken}
use Rattle.icn_machine.proofs.PlainOperands.{TellsBelow, holds_of}
use Rattle.icn_machine.proofs.PlainOperationSteps.{after_turn, found, locals_back, row_performed}

-- a count of three integers that slots tell, however they are written
pub count_is : (vs : List Val) (first last step : StackSlot) (a b d x y z : ℤ) → x ≡ a → y ≡ b → z ≡ d → TellsInteger vs first a → TellsInteger vs last b
    → TellsInteger vs step d → int_eq d (pos 0) ≡ false → TellsCount vs first last step (record { given = x; last = y; step = z })
count_is vs first last step a b d x y z ex ey ez from to by counts = record {
  from = subst (λ (i : ℤ). TellsInteger vs first i) (sym ex) from;
  to = subst (λ (i : ℤ). TellsInteger vs last i) (sym ey) to;
  by = subst (λ (i : ℤ). TellsInteger vs step i) (sym ez) by;
  counts = ap (λ (i : ℤ). int_eq i (pos 0)) ez ∙ counts;
}

-- Three operands that are dropped

record TwoItems (items : List Item) : Type 0 where
  lower : Item
  upper : Item
  are : items ≡ lower ∷ upper ∷ []

two_items : (items : List Item) → length items ≡ 2 → TwoItems items
two_items [] e = let few : 0 ≡ 2 = e in absurd (omega arith)
two_items (x ∷ []) e = let few : 1 ≡ 2 = e in absurd (omega arith)
two_items (x ∷ y ∷ []) e = record { lower = x; upper = y; are = refl }
two_items (x ∷ y ∷ z ∷ items) e = let more : suc (suc (suc (length items))) ≡ 2 = e in absurd (omega arith)

-- they were told by their slots, and hold the integers of a count
pub record ThreeDropped (m k : FlatStack) (first last step : StackSlot) (count : Count) : Type 0 where
  pub x : Item
  pub y : Item
  pub z : Item
  pub first_is : plain_operand first ≡ Some x
  pub last_is : plain_operand last ≡ Some y
  pub step_is : plain_operand step ≡ Some z
  pub from : HoldsInteger (held.locals k) x count.given
  pub to : HoldsInteger (held.locals k) y count.last
  pub by : HoldsInteger (held.locals k) z count.step
  pub counts : int_eq count.step (pos 0) ≡ false
  pub taken : take_operands 3 m ≡ Some (x ∷ y ∷ z ∷ [], k)
  pub back : held.push z (held.push y (held.push x k)) ≡ m

pub three_dropped : (m k : FlatStack) (first last step : StackSlot) (count : Count) → DropsWith 2 m k → TellsCount (held.locals m) first last step count
    → TellsBelow 2 m first → TellsBelow 1 m last → TellsBelow 0 m step → ThreeDropped m k first last step count
three_dropped m k first last step count d tells below middle top =
    let two = two_items d.items d.many in
    let vs : List Val = held.locals k in
    let at_k : (slot : StackSlot) (n : ℤ) (x : Item) → TellsInteger (held.locals m) slot n → plain_operand slot ≡ Some x → HoldsInteger vs x n
    = λ slot n x t e. subst (λ (us : List Val). HoldsInteger us x n) d.locals_same (holds_of (held.locals m) slot n x t e) in
    let cells : m.cells ≡ operands_above d.items (Operand d.callee ∷ k.cells) = ap (λ (s : FlatStack). s.cells) d.was in
    let all : m.cells ≡ Operand two.upper ∷ Operand two.lower ∷ Operand d.callee ∷ k.cells
    = cells ∙ ap (λ (xs : List Item). operands_above xs (Operand d.callee ∷ k.cells)) two.are in
    let some : Item → Option Item = λ i. Some i in
    let first_is = tells.from.1.0 ∙ ap some (sym (below d.callee tells.from.0 d.items k.cells cells d.many tells.from.1.0)) in
    let last_is = tells.to.1.0
    ∙ ap some (sym (middle two.lower tells.to.0 (two.upper ∷ []) (Operand d.callee ∷ k.cells) all refl tells.to.1.0)) in
    let step_is = tells.by.1.0
    ∙ ap some (sym (top two.upper tells.by.0 [] (Operand two.lower ∷ Operand d.callee ∷ k.cells) all refl tells.by.1.0)) in
    let both : List Item → Option (List Item × FlatStack) = λ xs. Some (d.callee ∷ xs, k) in
    record {
      x = d.callee;
      y = two.lower;
      z = two.upper;
      first_is = first_is;
      last_is = last_is;
      step_is = step_is;
      from = at_k first count.given d.callee tells.from first_is;
      to = at_k last count.last two.lower tells.to last_is;
      by = at_k step count.step two.upper tells.by step_is;
      counts = tells.counts;
      taken = drops_taken 2 m k d ∙ ap both two.are;
      back = sym (d.was ∙ ap (λ (xs : List Item). let s : FlatStack = record k { cells = operands_above xs (Operand d.callee ∷ k.cells) } in s) two.are);
    }

-- The row

-- what the row of a count comes to that begins
begun_row : (all : Extent) (k : FlatStack) (st : Store Frames) (x y z : Item) (count : Count) → HoldsInteger (held.locals k) x count.given
    → HoldsInteger (held.locals k) y count.last → HoldsInteger (held.locals k) z count.step → int_eq count.step (pos 0) ≡ false
    → operation_row Ops.ToBy (map (item_in all) (x ∷ y ∷ z ∷ [])) (here flat (stack_in all k) st)
    ≡ outcome_in all (count_outcome count) (here flat (stack_in all k) st)
begun_row all k st x y z count from to by counts =
    let at : Setting = here flat (stack_in all k) st in
    let ends : Value → Value → Value → Row
    = λ u v w. integer u (λ a. integer v (λ b. integer w (λ d. check (not (int_eq d (pos 0))) 211 None (count_from b d (Some a))))) in
    found all k st x count.given (λ u. the_value (item_in all y) (λ v. the_value (item_in all z) (ends u v))) from
    ∙ found all k st y count.last (λ v. the_value (item_in all z) (ends (values.Integer count.given) v)) to
    ∙ found all k st z count.step (ends (values.Integer count.given) (values.Integer count.last)) by
    ∙ ap (λ (t : Bool). check (not t) 211 None (count_from count.last count.step (Some count.given)) at) counts
    ∙ counted count all at

-- a count began on the stack alone
pub begins : (m k n : FlatStack) (first last step : StackSlot) (count : Count) (stage : RunState) → ThreeDropped m k first last step count
    → held.set_locals (held.locals k) k ≡ k → GivesOutcome (count_outcome count) k n stage → StaysLive k n
    → ((names : Names) (all : Extent) → StackNamed names (stack_in all k) → StackNamed names (stack_in all n))
    → OperatesInPlace Ops.ToBy m n (Some stage)
begins m k n first last step count stage t same gives live names_kept = record {
  done = λ all tables st b.
      let on : Frames = stack_in all k in
      let later : Store Frames = after_turn st in
      subst (λ (s : State Frames Frames). StandsAs s (stack_in all n) later stage)
      (sym (row_performed all tables Ops.ToBy m k (t.x ∷ t.y ∷ t.z ∷ []) st (λ q. cc) t.taken b
      ∙ ap (λ (o : Outcome). outcome flat o on later) (begun_row all k later t.x t.y t.z count t.from t.to t.by t.counts)))
      (gives all on (here flat on later) later (locals_back all k same));
  not_done = λ q. cc;
  live = λ tables reach l. live tables reach (live_taken tables reach 3 m k (t.x ∷ t.y ∷ t.z ∷ []) t.taken l).rest;
  named = λ names all h.
      names_kept names all (named.stack_out names (stack_in all k) (named_taken names all 3 m k (t.x ∷ t.y ∷ t.z ∷ []) t.taken h).rest);
}
