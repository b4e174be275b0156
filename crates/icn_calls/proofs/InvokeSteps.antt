-- What calls of values come to, by what is called.
use Rattle.std.proofs.Common.{◌≡◌, ℕ, ℤ, List, map, Option, Some, None, Result, Err, MatchResult, refl, sym, ap, ◌∙◌, subst}
use Rattle.std.specs.Option.{option_map}
use Rattle.icn_text.specs.declared.func.Func.{Func}
use Rattle.icn_value.specs.declared.val.Val.{Val}
use Rattle.icn_value.specs.declared.val.Val.TheVariants as Vals
use Rattle.icn_value.specs.declared.item.Item.{Item}
use Rattle.icn_value.specs.Values.{Value}
use Rattle.icn_defs.specs.NamedValues.{named_by}
use Rattle.icn_defs.specs.Running.{number_of, unless_number}
use Rattle.icn_heap.specs.Extents.{Extent, value_in}
use Rattle.icn_heap.specs.Heaps.{extent_of}
use Rattle.icn_vars.specs.declared.outcome.Halt.{Halt}
use Rattle.icn_vars.specs.declared.world.World.{World}
use Rattle.icn_vars.specs.Worlds.{item_in, world_of}
use Rattle.icn_frames.specs.Stacks.{FlatStack}
use Rattle.icn_code.specs.Codes.{Tables}
use Rattle.icn_run.specs.Rows as rows
use Rattle.icn_run.specs.Stacks.{Frames, flat}
use Rattle.icn_run.specs.Step as code
use Rattle.icn_run.specs.Step.{State, Store, callee_called, callee_of, choose_item, errs, failing, integer_called, invoke_value, named_called, pushed_or_fails, with_world}
use Rattle.icn_control.specs.Soundness.{LeavesWorld}
use Rattle.icn_control.specs.StackAndWorld.{FailsWith, HaltsWith, RunsWith, StandsWith}
use Rattle.icn_control.specs.declared.machine.RunState.{RunState}
use Rattle.icn_control.specs.StackViews.{stack_in}
use Rattle.icn_control.specs.TakenOperands.{KeepsCounts, with_values_in}
use Rattle.icn_control.proofs.Halts.{unless_handed}
use Rattle.icn_control.proofs.StackAndWorldSteps.{same_world}
use Rattle.icn_calls.specs.Calling.{function_callee, function_in}

-- What is no function

pub never_function : (tables : Tables) (val : Val) (n : ℕ) (func : Func) → function_in tables val ≡ None → val ≡ Vals.Proc n
    → callee_of tables n ≡ code.IsFunc func → ⊥
never_function tables val n func e f g =
    let some : Some func ≡ None = sym (ap function_callee g) ∙ ap (function_in tables) (sym f) ∙ e in
    cc

-- what a number names is called with items
pub called_by_number : (tables : Tables) (all : Extent) (val : Val) (n : ℕ) (callee : code.Callee) (items : List rows.Item) (m : Frames) (st : Store Frames)
    → val ≡ Vals.Proc n → callee_of tables n ≡ callee
    → invoke_value flat tables (value_in all val) items m st ≡ callee_called flat callee n items m st
called_by_number tables all val n callee items m st e f =
    ap (λ (x : Val). invoke_value flat tables (value_in all x) items m st) e ∙ ap (λ (c : code.Callee). callee_called flat c n items m st) f

pub nothing_called : (w : World) (tables : Tables) (val : Val) (n : ℕ) (items : List rows.Item) (m : Frames) (st : Store Frames) → val ≡ Vals.Proc n
    → callee_of tables n ≡ code.IsNothing → st.world ≡ world_of w
    → invoke_value flat tables (value_in (extent_of w.heap) val) items m st ≡ errs 106 (Some (rows.Procedure n)) m (with_world (world_of w) st)
nothing_called w tables val n items m st e f same =
    called_by_number tables (extent_of w.heap) val n code.IsNothing items m st e f ∙ ap (errs 106 (Some (rows.Procedure n)) m) (same_world w st same)

-- Other values

pub by_number : (tables : Tables) (all : Extent) (val : Val) (items : List rows.Item) (m : Frames) (st : Store Frames) → ((n : ℕ) → val ≡ Vals.Proc n → ⊥)
    → invoke_value flat tables (value_in all val) items m st ≡ integer_called flat tables (value_in all val) (number_of (value_in all val)) items m st
by_number tables all Vals.Null items m st h = refl
by_number tables all (Vals.Integer n) items m st h = refl
by_number tables all (Vals.Text span) items m st h = refl
by_number tables all (Vals.Chars cset) items m st h = refl
by_number tables all (Vals.Std file) items m st h = refl
by_number tables all (Vals.Proc n) items m st h = absurd (h n refl)
by_number tables all (Vals.Rec id) items m st h = refl
by_number tables all (Vals.List id) items m st h = refl
by_number tables all (Vals.Set id) items m st h = refl
by_number tables all (Vals.Table id) items m st h = refl
by_number tables all (Vals.Coexp n) items m st h = refl

-- Integers

-- what is no number and names nothing can't be called
pub none_called : (w : World) (tables : Tables) (value : Value) (n : Option ℤ) (items : List rows.Item) (m : Frames) (st : Store Frames) → n ≡ None
    → unless_number n (named_by st.names value) ≡ None → st.world ≡ world_of w
    → integer_called flat tables value n items m st ≡ errs 106 (Some value) m (with_world (world_of w) st)
none_called w tables value n items m st e h same =
    ap (λ (o : Option ℤ). integer_called flat tables value o items m st) e
    ∙ ap (λ (o : Option ℕ). named_called flat tables value o items m st)
    (ap (λ (o : Option ℤ). unless_number o (named_by st.names value)) (sym e) ∙ h)
    ∙ ap (errs 106 (Some value) m) (same_world w st same)

pub none_runs : (w : World) (tables : Tables) (value : Value) (n : Option _) (k : _) (items : List rows.Item) (m : FlatStack) (found : Option Item) → n ≡ Some k
    → option_map (item_in (extent_of w.heap)) found ≡ choose_item k items → found ≡ None → (st : Store Frames) → st.world ≡ world_of w
    → FailsWith (integer_called flat tables value n items (stack_in (extent_of w.heap) m) st) st w m
none_runs w tables value n k items m found e f g st same =
    let all : Extent = extent_of w.heap in
    ap (λ o. integer_called flat tables value o items (stack_in all m) st) e
    ∙ ap (λ (o : Option rows.Item). pushed_or_fails flat o (stack_in all m) st) (sym f ∙ ap (option_map (item_in all)) g)
    ∙ ap (failing (stack_in all m)) (same_world w st same)

-- Values of arguments, and what is done with them

values_then : (w : World) (m k : FlatStack) (items : List Item) (vals : List Val) (next : List Value → Frames → Store Frames → State Frames Frames) → k ≡ m
    → ((st : Store Frames) (f : List Value → State Frames Frames) → st.world ≡ world_of w
    → with_values_in w m items st f ≡ f (map (value_in (extent_of w.heap)) vals))
    → (st : Store Frames) → st.world ≡ world_of w
    → with_values_in w m items st (λ values. next values (stack_in (extent_of w.heap) m) st)
    ≡ next (map (value_in (extent_of w.heap)) vals) (stack_in (extent_of w.heap) k) st
values_then w m k items vals next e f st same =
    f st (λ values. next values (stack_in (extent_of w.heap) m) st) same
    ∙ ap (λ (x : FlatStack). next (map (value_in (extent_of w.heap)) vals) (stack_in (extent_of w.heap) x) st) (sym e)

pub values_run : (w v : World) (m k n : FlatStack) (items : List Item) (vals : List Val) (next : List Value → Frames → Store Frames → State Frames Frames)
    → k ≡ m
    → ((st : Store Frames) (f : List Value → State Frames Frames) → st.world ≡ world_of w
    → with_values_in w m items st f ≡ f (map (value_in (extent_of w.heap)) vals))
    → ((st : Store Frames) → st.world ≡ world_of w → RunsWith (next (map (value_in (extent_of w.heap)) vals) (stack_in (extent_of w.heap) k) st) st v n)
    → (st : Store Frames) → st.world ≡ world_of w
    → RunsWith (with_values_in w m items st (λ values. next values (stack_in (extent_of w.heap) m) st)) st v n
values_run w v m k n items vals next e f h st same = values_then w m k items vals next e f st same ∙ h st same

pub values_halt : (w v : World) (m k : FlatStack) (left : Frames) (items : List Item) (vals : List Val) (halt : Halt)
    (next : List Value → Frames → Store Frames → State Frames Frames)
    → k ≡ m
    → ((st : Store Frames) (f : List Value → State Frames Frames) → st.world ≡ world_of w
    → with_values_in w m items st f ≡ f (map (value_in (extent_of w.heap)) vals))
    → ((st : Store Frames) → st.world ≡ world_of w
    → HaltsWith (next (map (value_in (extent_of w.heap)) vals) (stack_in (extent_of w.heap) k) st) st v left halt)
    → (st : Store Frames) → st.world ≡ world_of w
    → HaltsWith (with_values_in w m items st (λ values. next values (stack_in (extent_of w.heap) m) st)) st v left halt
values_halt w v m k left items vals halt next e f h st same =
    subst (λ (s : State Frames Frames). HaltsWith s st v left halt) (sym (values_then w m k items vals next e f st same)) (h st same)

-- what an answer is of, once what is called is known
pub stands_as : (result : Result RunState Halt) (v : World) (n : FlatStack) (left : Frames) (st : Store Frames) (a b : State Frames Frames) → a ≡ b
    → MatchResult result (StandsWith b st v n) (HaltsWith b st v left) → MatchResult result (StandsWith a st v n) (HaltsWith a st v left)
stands_as result v n left st a b e h = subst (λ (s : State Frames Frames). MatchResult result (StandsWith s st v n) (HaltsWith s st v left)) (sym e) h

-- what a halt leaves of a world, where another call hands it on
pub leaves_handed : {A B : Type 0} (w v : World) (halt : Halt) → LeavesWorld {A = A} w v (Err halt) → LeavesWorld {A = B} w v (Err halt)
leaves_handed {A} {B} w v halt l = record {
  kept = l.kept;
  counts = unless_handed A B halt (KeepsCounts w v) l.counts;
  halt = l.halt;
}
