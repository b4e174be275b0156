-- Operations on integers and locals, as steps.
use Rattle.std.proofs.Common.{◌≡◌, ℕ, ℤ, zero, suc, ◌<◌, Bool, true, false, nat_lt, List, [], ◌∷◌, length, map, slice_get, slice_set, Option, Some, None, Result, Ok, Err, refl, sym, ap, ◌∙◌, subst}
use Rattle.std.proofs.lemmas.List.Elements.{All-head, All-tail}
use Rattle.std.proofs.lemmas.Option.{same_Some, slice_get-map}
use Rattle.std.specs.Option.{option_map}
use Rattle.std.specs.Ordering.{int_cmp, is_lt, is_le, is_eq, is_ge, is_gt, is_ne}
use Rattle.std.specs.Prelude.{unwrap_or}
use Rattle.std.specs.Result.{result_ok}
use Rattle.std.specs.declared.cmp.Ordering.{Ordering}
use Rattle.icn_text.specs.declared.arithmetic.Arith.{Arith}
use Rattle.icn_text.specs.declared.op.Op.{Op}
use Rattle.icn_text.specs.declared.op.Op.TheVariants as Ops
use Rattle.icn_text.specs.IntegerArithmetic.{sum, difference, product, quotient, remainder}
use Rattle.icn_value.specs.declared.item.Item.{Item}
use Rattle.icn_value.specs.declared.item.Item.TheVariants as Items
use Rattle.icn_value.specs.declared.val.Val.{Val}
use Rattle.icn_value.specs.declared.val.Val.TheVariants as Vals
use Rattle.icn_value.specs.Store.{Names, Setting, value_at}
use Rattle.icn_value.specs.Values as values
use Rattle.icn_value.specs.Values.{Value}
use Rattle.icn_defs.specs.Applying.{operation_row}
use Rattle.icn_defs.specs.Arguments.{number}
use Rattle.icn_defs.specs.Arities.{arity}
use Rattle.icn_defs.specs.Arithmetic.{arithmetic_row, number_comparison_row}
use Rattle.icn_defs.specs.ReadAndAssign.{assigns, the_value, the_variable}
use Rattle.icn_defs.specs.Rows.{Outcome, Row, Fails, Gives, gives, gives_value, number_or_error, fails_unless}
use Rattle.icn_defs.specs.Variables.{assign_row}
use Rattle.law_rows.proofs.EachOfList.{Each, all_of, each_of, each_set}
use Rattle.icn_heap.specs.Extents.{Extent, IsLive, value_in}
use Rattle.law_names.specs.NamedSettings.{ItemNamed, ValueNamed}
use Rattle.icn_vars.specs.Worlds.{IsLiveItem, Reach, item_in}
use Rattle.icn_frames.specs.CalledWith.{HoldsValue, as_local as held_local, as_value as held_value}
use Rattle.icn_frames.specs.declared.slots.StackSlot.{StackSlot}
use Rattle.icn_frames.specs.Stacks as held
use Rattle.icn_frames.specs.Stacks.{FlatStack}
use Rattle.law_frames.proofs.CallsRead.{locals_read, set_locals_read}
use Rattle.icn_code.specs.declared.instr.Instr.TheVariants as Instrs
use Rattle.icn_code.specs.Codes.{Tables}
use Rattle.icn_run.specs.Stacks.{Frames, flat}
use Rattle.icn_run.specs.Step.{Store, running, failing, here, operate, outcome, push_item, turn}
use Rattle.law_steps.specs.StateNames.{StackNamed}
use Rattle.law_steps.proofs.CallsNamed as named
use Rattle.icn_control.specs.LiveStacks.{IsLiveStack, StaysLive, with_locals}
use Rattle.icn_control.specs.StackViews.{instruction_state, reading_of, stack_in}
use Rattle.icn_control.specs.TakenOperands.{take_operands}
use Rattle.icn_control.specs.declared.machine.RunState.TheVariants as RunStates
use Rattle.icn_control.proofs.LiveCalls.{live_push, own_locals}
use Rattle.icn_control.proofs.OperandValues.{live_locals}
use Rattle.icn_control.proofs.PlainValueSteps.{value_live}
use Rattle.icn_control.proofs.TakenOperandSteps.{live_taken, taken_runs}
use Rattle.icn_machine.specs.PlainOperations.{Assigns, Compares, Computes, HoldsInteger, OperatesAlone, OperatesInPlace, TakesSlots, as_local, as_value, integer_result, is_met, local_item}
use Rattle.icn_machine.proofs.OperateSteps.{in_turn, named_taken, operated_is}
use Rattle.icn_machine.proofs.PerformSteps.{live_from}
use Rattle.icn_machine.proofs.PlainOperands.{holds_of, value_named}

-- The integers of operands

-- a local, as the definitions see it
local_is : (all : Extent) (k : FlatStack) (index : ℕ) (v : Val) → slice_get (held.locals k) index ≡ Some v
    → value_at (flat.locals (stack_in all k)) index ≡ value_in all v
local_is all k index v there =
    ap (λ (vs : List Value). value_at vs index) (locals_read (reading_of all) k)
    ∙ ap (λ (o : Option Value). unwrap_or o values.Null) (slice_get-map (value_in all) (held.locals k) index ∙ ap (option_map (value_in all)) there)

-- the value of an operand that is or holds an integer
pub found : (all : Extent) (k : FlatStack) (st : Store Frames) (item : Item) (n : ℤ) (next : Value → Row) → HoldsInteger (held.locals k) item n
    → the_value (item_in all item) next (here flat (stack_in all k) st) ≡ next (values.Integer n) (here flat (stack_in all k) st)
found all k st item n next (as_value e) = ap (λ (x : Item). the_value (item_in all x) next (here flat (stack_in all k) st)) e
found all k st item n next (as_local index e there) =
    ap (λ (x : Item). the_value (item_in all x) next (here flat (stack_in all k) st)) e
    ∙ ap (λ (v : Value). next v (here flat (stack_in all k) st)) (local_is all k index (Vals.Integer n) there)

-- the same of one that is or holds any value
pub held_found : (all : Extent) (k : FlatStack) (st : Store Frames) (item : Item) (v : Val) (next : Value → Row) → HoldsValue (held.locals k) item v
    → the_value (item_in all item) next (here flat (stack_in all k) st) ≡ next (value_in all v) (here flat (stack_in all k) st)
held_found all k st item v next (held_value e) = ap (λ (x : Item). the_value (item_in all x) next (here flat (stack_in all k) st)) e
held_found all k st item v next (held_local index e there) =
    ap (λ (x : Item). the_value (item_in all x) next (here flat (stack_in all k) st)) e
    ∙ ap (λ (x : Value). next x (here flat (stack_in all k) st)) (local_is all k index v there)

-- Rows

pub was_ok : (o : Result ℤ Arith) (r : ℤ) → result_ok o ≡ Some r → o ≡ Ok r
was_ok (Ok n) r e = ap (λ (x : ℤ). let y : Result ℤ Arith = Ok x in y) (same_Some n r e)
was_ok (Err why) r e = cc

arithmetic_runs : (f : ℤ → ℤ → Result ℤ Arith) (all : Extent) (k : FlatStack) (st : Store Frames) (x y : Item) (a b r : ℤ)
    → HoldsInteger (held.locals k) x a → HoldsInteger (held.locals k) y b → result_ok (f a b) ≡ Some r
    → arithmetic_row f (item_in all x) (item_in all y) (here flat (stack_in all k) st)
    ≡ Gives (values.Val (values.Integer r)) (here flat (stack_in all k) st)
arithmetic_runs f all k st x y a b r hx hy e =
    let at : Setting = here flat (stack_in all k) st in
    let give : Result ℤ Arith → Row = λ o. number_or_error o (λ n. gives_value (values.Integer n)) in
    let second : Value → Value → Row = λ v w. number v (λ m. number w (λ n. give (f m n))) in
    found all k st x a (λ v. the_value (item_in all y) (second v)) hx
    ∙ found all k st y b (second (values.Integer a)) hy
    ∙ ap (λ (o : Result ℤ Arith). give o at) (was_ok (f a b) r e)

computed_row : (op : Op) (all : Extent) (k : FlatStack) (st : Store Frames) (x y : Item) (a b r : ℤ) → HoldsInteger (held.locals k) x a
    → HoldsInteger (held.locals k) y b → integer_result op a b ≡ Some r
    → operation_row op (item_in all x ∷ item_in all y ∷ []) (here flat (stack_in all k) st)
    ≡ Gives (values.Val (values.Integer r)) (here flat (stack_in all k) st)
computed_row Ops.Add all k st x y a b r hx hy e = arithmetic_runs sum all k st x y a b r hx hy e
computed_row Ops.Subtract all k st x y a b r hx hy e = arithmetic_runs difference all k st x y a b r hx hy e
computed_row Ops.Multiply all k st x y a b r hx hy e = arithmetic_runs product all k st x y a b r hx hy e
computed_row Ops.Divide all k st x y a b r hx hy e = arithmetic_runs quotient all k st x y a b r hx hy e
computed_row Ops.Remainder all k st x y a b r hx hy e = arithmetic_runs remainder all k st x y a b r hx hy e
computed_row op all k st x y a b r hx hy e = cc

comparison_runs : (test : ℤ → ℤ → Bool) (all : Extent) (k : FlatStack) (st : Store Frames) (x y : Item) (a b : ℤ) (met : Bool)
    → HoldsInteger (held.locals k) x a → HoldsInteger (held.locals k) y b → Some (test a b) ≡ Some met
    → number_comparison_row test (item_in all x) (item_in all y) (here flat (stack_in all k) st)
    ≡ fails_unless met (gives_value (values.Integer b)) (here flat (stack_in all k) st)
comparison_runs test all k st x y a b met hx hy e =
    let at : Setting = here flat (stack_in all k) st in
    let second : Value → Value → Row
    = λ v w. number v (λ m. number w (λ n. fails_unless (test m n) (gives_value (values.Integer n)))) in
    found all k st x a (λ v. the_value (item_in all y) (second v)) hx
    ∙ found all k st y b (second (values.Integer a)) hy
    ∙ ap (λ (t : Bool). fails_unless t (gives_value (values.Integer b)) at) (same_Some (test a b) met e)

compared_row : (op : Op) (all : Extent) (k : FlatStack) (st : Store Frames) (x y : Item) (a b : ℤ) (met : Bool) → HoldsInteger (held.locals k) x a
    → HoldsInteger (held.locals k) y b → is_met op (int_cmp a b) ≡ Some met
    → operation_row op (item_in all x ∷ item_in all y ∷ []) (here flat (stack_in all k) st)
    ≡ fails_unless met (gives_value (values.Integer b)) (here flat (stack_in all k) st)
compared_row Ops.Less all k st x y a b met hx hy e = comparison_runs (λ m n. is_lt (int_cmp m n)) all k st x y a b met hx hy e
compared_row Ops.LessOrEqual all k st x y a b met hx hy e = comparison_runs (λ m n. is_le (int_cmp m n)) all k st x y a b met hx hy e
compared_row Ops.Equal all k st x y a b met hx hy e = comparison_runs (λ m n. is_eq (int_cmp m n)) all k st x y a b met hx hy e
compared_row Ops.GreaterOrEqual all k st x y a b met hx hy e = comparison_runs (λ m n. is_ge (int_cmp m n)) all k st x y a b met hx hy e
compared_row Ops.Greater all k st x y a b met hx hy e = comparison_runs (λ m n. is_gt (int_cmp m n)) all k st x y a b met hx hy e
compared_row Ops.NotEqual all k st x y a b met hx hy e = comparison_runs (λ m n. is_ne (int_cmp m n)) all k st x y a b met hx hy e
compared_row op all k st x y a b met hx hy e = cc

-- an operation of two operands that is a row
record IsBinaryRow (op : Op) : Type 0 where
  two : arity op ≡ 2
  row : op ≡ Ops.Refresh → ⊥

computes_two : (op : Op) (a b r : ℤ) → integer_result op a b ≡ Some r → IsBinaryRow op
computes_two Ops.Add a b r e = record { two = refl; row = λ q. cc }
computes_two Ops.Subtract a b r e = record { two = refl; row = λ q. cc }
computes_two Ops.Multiply a b r e = record { two = refl; row = λ q. cc }
computes_two Ops.Divide a b r e = record { two = refl; row = λ q. cc }
computes_two Ops.Remainder a b r e = record { two = refl; row = λ q. cc }
computes_two op a b r e = cc

compares_two : (op : Op) (order : Ordering) (met : Bool) → is_met op order ≡ Some met → IsBinaryRow op
compares_two Ops.Less order met e = record { two = refl; row = λ q. cc }
compares_two Ops.LessOrEqual order met e = record { two = refl; row = λ q. cc }
compares_two Ops.Equal order met e = record { two = refl; row = λ q. cc }
compares_two Ops.GreaterOrEqual order met e = record { two = refl; row = λ q. cc }
compares_two Ops.Greater order met e = record { two = refl; row = λ q. cc }
compares_two Ops.NotEqual order met e = record { two = refl; row = λ q. cc }
compares_two op order met e = cc

-- Steps

-- the store in the turn of an operation
abbrev pub after_turn : Store Frames → Store Frames
after_turn st = record st { turns = suc st.turns }

pub row_performed : (all : Extent) (tables : Tables) (op : Op) (m k : FlatStack) (items : List Item) (st : Store Frames) → (op ≡ Ops.Refresh → ⊥)
    → take_operands (arity op) m ≡ Some (items, k) → nat_lt st.turns st.world.heap.bounds.turns ≡ true
    → instruction_state all tables (Instrs.Op op) m st
    ≡ outcome flat (operation_row op (map (item_in all) items) (here flat (stack_in all k) (after_turn st))) (stack_in all k) (after_turn st)
row_performed all tables op m k items st row there b =
    taken_runs all (arity op) m k items (λ xs a. turn tables st (operate flat op xs a)) there
    ∙ in_turn tables st (operate flat op (map (item_in all) items) (stack_in all k)) b
    ∙ operated_is op (map (item_in all) items) (stack_in all k) (after_turn st) row

performed : (all : Extent) (tables : Tables) (op : Op) (m k : FlatStack) (items : List Item) (st : Store Frames) → IsBinaryRow op
    → take_operands 2 m ≡ Some (items, k) → nat_lt st.turns st.world.heap.bounds.turns ≡ true
    → instruction_state all tables (Instrs.Op op) m st
    ≡ outcome flat (operation_row op (map (item_in all) items) (here flat (stack_in all k) (after_turn st))) (stack_in all k) (after_turn st)
performed all tables op m k items st is p b =
    row_performed all tables op m k items st is.row (subst (λ (c : ℕ). take_operands c m ≡ Some (items, k)) (sym is.two) p) b

pub locals_back : (all : Extent) (k : FlatStack) → held.set_locals (held.locals k) k ≡ k
    → flat.set_locals (flat.locals (stack_in all k)) (stack_in all k) ≡ stack_in all k
locals_back all k same =
    ap (λ (vs : List Value). flat.set_locals vs (stack_in all k)) (locals_read (reading_of all) k)
    ∙ set_locals_read (reading_of all) (held.locals k) k
    ∙ ap (stack_in all) same

gives_alone : (op : Op) (m k n : FlatStack) (items : List Item) (x : Item) → IsBinaryRow op → take_operands 2 m ≡ Some (items, k)
    → held.set_locals (held.locals k) k ≡ k → n ≡ held.push x k
    → ((all : Extent) (st : Store Frames) → operation_row op (map (item_in all) items) (here flat (stack_in all k) st)
    ≡ Gives (item_in all x) (here flat (stack_in all k) st))
    → OperatesAlone op m n RunStates.Running
gives_alone op m k n items x is p same pushed row all tables st b =
    performed all tables op m k items st is p b
    ∙ ap (λ (o : Outcome). outcome flat o (stack_in all k) (after_turn st)) (row all (after_turn st))
    ∙ ap (λ (a : Frames). push_item flat (item_in all x) a (after_turn st)) (locals_back all k same)
    ∙ ap (λ (a : FlatStack). running (stack_in all a) (after_turn st)) (sym pushed)

fails_alone : (op : Op) (m k n : FlatStack) (items : List Item) → IsBinaryRow op → take_operands 2 m ≡ Some (items, k)
    → held.set_locals (held.locals k) k ≡ k → n ≡ k
    → ((all : Extent) (st : Store Frames) → operation_row op (map (item_in all) items) (here flat (stack_in all k) st)
    ≡ Fails (here flat (stack_in all k) st))
    → OperatesAlone op m n RunStates.Failing
fails_alone op m k n items is p same left row all tables st b =
    performed all tables op m k items st is p b
    ∙ ap (λ (o : Outcome). outcome flat o (stack_in all k) (after_turn st)) (row all (after_turn st))
    ∙ ap (λ (a : Frames). failing a (after_turn st)) (locals_back all k same)
    ∙ ap (λ (a : FlatStack). failing (stack_in all a) (after_turn st)) (sym left)

-- What stands on the stack then

pushed_live : (m k n : FlatStack) (items : List Item) (r : ℤ) → take_operands 2 m ≡ Some (items, k) → n ≡ held.push (Items.Val (Vals.Integer r)) k
    → StaysLive m n
pushed_live m k n items r p e t reach l =
    subst (λ (x : FlatStack). IsLiveStack t reach x) (sym e)
    (live_push t reach k (Items.Val (Vals.Integer r)) (live_taken t reach 2 m k items p l).rest (record { live = record { live = tt } }))

pushed_named : (m k n : FlatStack) (items : List Item) (r : ℤ) → take_operands 2 m ≡ Some (items, k) → n ≡ held.push (Items.Val (Vals.Integer r)) k
    → (names : Names) (all : Extent) → StackNamed names (stack_in all m) → StackNamed names (stack_in all n)
pushed_named m k n items r p e names all h =
    let one : ItemNamed names (values.Val (values.Integer r)) = record { named = tt } in
    subst (λ (x : FlatStack). StackNamed names (stack_in all x)) (sym e)
    (named.stack_out names (stack_in all (held.push (Items.Val (Vals.Integer r)) k)) (one, (named_taken names all 2 m k items p h).rest))

left_live : (m k n : FlatStack) (items : List Item) → take_operands 2 m ≡ Some (items, k) → n ≡ k → StaysLive m n
left_live m k n items p e t reach l =
    subst (λ (x : FlatStack). IsLiveStack t reach x) (sym e) (live_taken t reach 2 m k items p l).rest

left_named : (m k n : FlatStack) (items : List Item) → take_operands 2 m ≡ Some (items, k) → n ≡ k
    → (names : Names) (all : Extent) → StackNamed names (stack_in all m) → StackNamed names (stack_in all n)
left_named m k n items p e names all h =
    subst (λ (x : FlatStack). StackNamed names (stack_in all x)) (sym e)
    (named.stack_out names (stack_in all k) (named_taken names all 2 m k items p h).rest)

-- What comes of an operation in place

-- nothing was done
pub stays : (op : Op) (m n : FlatStack) → n ≡ m → OperatesInPlace op m n None
stays op m n e = record {
  done = tt;
  not_done = λ q. e;
  live = λ t reach l. subst (λ (x : FlatStack). IsLiveStack t reach x) (sym e) l;
  named = λ names all h. subst (λ (x : FlatStack). StackNamed names (stack_in all x)) (sym e) h;
}

-- an integer was computed
pub computes : (op : Op) (m k n : FlatStack) (slots : StackSlot × StackSlot) (r : ℤ) → TakesSlots m k slots
    → held.set_locals (held.locals k) k ≡ k → Computes op (held.locals k) slots r → n ≡ held.push (Items.Val (Vals.Integer r)) k
    → OperatesInPlace op m n (Some RunStates.Running)
computes op m k n slots r takes same c e = record {
  done =
      gives_alone op m k n (takes.first ∷ takes.second ∷ []) (Items.Val (Vals.Integer r)) (computes_two op c.two.0 c.two.1 r c.is) takes.taken same e
      (λ all st. computed_row op all k st takes.first takes.second c.two.0 c.two.1 r
      (holds_of (held.locals k) slots.0 c.two.0 takes.first c.of.lower takes.lower)
      (holds_of (held.locals k) slots.1 c.two.1 takes.second c.of.upper takes.upper) c.is);
  not_done = λ q. cc;
  live = pushed_live m k n (takes.first ∷ takes.second ∷ []) r takes.taken e;
  named = pushed_named m k n (takes.first ∷ takes.second ∷ []) r takes.taken e;
}

-- a comparison was met
pub meets : (op : Op) (m k n : FlatStack) (slots : StackSlot × StackSlot) (b : ℤ) → TakesSlots m k slots
    → held.set_locals (held.locals k) k ≡ k → Compares op (held.locals k) slots (true, b) → n ≡ held.push (Items.Val (Vals.Integer b)) k
    → OperatesInPlace op m n (Some RunStates.Running)
meets op m k n slots b takes same c e = record {
  done =
      gives_alone op m k n (takes.first ∷ takes.second ∷ []) (Items.Val (Vals.Integer b)) (compares_two op (int_cmp c.left b) true c.is) takes.taken same e
      (λ all st. compared_row op all k st takes.first takes.second c.left b true
      (holds_of (held.locals k) slots.0 c.left takes.first c.of.lower takes.lower)
      (holds_of (held.locals k) slots.1 b takes.second c.of.upper takes.upper) c.is);
  not_done = λ q. cc;
  live = pushed_live m k n (takes.first ∷ takes.second ∷ []) b takes.taken e;
  named = pushed_named m k n (takes.first ∷ takes.second ∷ []) b takes.taken e;
}

-- a comparison was not met
pub misses : (op : Op) (m k n : FlatStack) (slots : StackSlot × StackSlot) (b : ℤ) → TakesSlots m k slots
    → held.set_locals (held.locals k) k ≡ k → Compares op (held.locals k) slots (false, b) → n ≡ k
    → OperatesInPlace op m n (Some RunStates.Failing)
misses op m k n slots b takes same c e = record {
  done =
      fails_alone op m k n (takes.first ∷ takes.second ∷ []) (compares_two op (int_cmp c.left b) false c.is) takes.taken same e
      (λ all st. compared_row op all k st takes.first takes.second c.left b false
      (holds_of (held.locals k) slots.0 c.left takes.first c.of.lower takes.lower)
      (holds_of (held.locals k) slots.1 b takes.second c.of.upper takes.upper) c.is);
  not_done = λ q. cc;
  live = left_live m k n (takes.first ∷ takes.second ∷ []) takes.taken e;
  named = left_named m k n (takes.first ∷ takes.second ∷ []) takes.taken e;
}

-- Assigning

map_set : {A B : Type 0} (f : A → B) (xs : List A) (i : ℕ) (v : A) → map f (slice_set xs i v) ≡ slice_set (map f xs) i (f v)
map_set f [] i v = refl
map_set f (x ∷ xs) zero v = refl
map_set {A} {B} f (x ∷ xs) (suc i) v = ap (λ (s : List B). f x ∷ s) (map_set f xs i v)

all_set : (P : Val → Type 0) (vs : List Val) (i : ℕ) (v : Val) → Each P vs → P v → Each P (slice_set vs i v)
all_set P vs i v a p = each_set P vs i v a p

assigned_row : (all : Extent) (k : FlatStack) (st : Store Frames) (x y : Item) (index : ℕ) (v : Val) → x ≡ local_item index
    → HoldsValue (held.locals k) y v
    → assign_row (item_in all x) (item_in all y) (here flat (stack_in all k) st)
    ≡ Gives (item_in all (local_item index))
    (let at : Setting = here flat (stack_in all k) st in record at { locals = slice_set at.locals index (value_in all v) })
assigned_row all k st x y index v e h =
    let at : Setting = here flat (stack_in all k) st in
    held_found all k st y v (λ w. the_variable (item_in all x) (λ target. assigns target w (λ now. gives (values.Var now)))) h
    ∙ ap (λ (z : Item). the_variable (item_in all z) (λ target. assigns target (value_in all v) (λ now. gives (values.Var now))) at) e

-- the locals of the stack that was read are set as those of the stack
pub locals_set : (all : Extent) (k l : FlatStack) (index : ℕ) (v : Val) → l ≡ held.set_locals (slice_set (held.locals k) index v) k
    → flat.set_locals (slice_set (flat.locals (stack_in all k)) index (value_in all v)) (stack_in all k) ≡ stack_in all l
locals_set all k l index v e =
    ap (λ (vs : List Value). flat.set_locals (slice_set vs index (value_in all v)) (stack_in all k)) (locals_read (reading_of all) k)
    ∙ ap (λ (vs : List Value). flat.set_locals vs (stack_in all k)) (sym (map_set (value_in all) (held.locals k) index v))
    ∙ set_locals_read (reading_of all) (slice_set (held.locals k) index v) k
    ∙ ap (stack_in all) (sym e)

pub set_live : (t : Tables) (reach : Reach) (k l : FlatStack) (index : ℕ) (v : Val) → IsLive reach.extent v
    → l ≡ held.set_locals (slice_set (held.locals k) index v) k → IsLiveStack t reach k → IsLiveStack t reach l
set_live t reach k l index v live e s =
    let vs : List Val = slice_set (held.locals k) index v in
    let each : Each (IsLive reach.extent) (held.locals k) = each_of (IsLive reach.extent) (held.locals k) (live_locals t reach k s) in
    let set : Each (IsLive reach.extent) vs = all_set (IsLive reach.extent) (held.locals k) index v each live in
    subst (λ (x : FlatStack). IsLiveStack t reach x) (sym e) (live_from t reach vs k.registers.base k (all_of (IsLive reach.extent) vs set) s)

pub set_named : (names : Names) (all : Extent) (k l : FlatStack) (index : ℕ) (v : Val) → ValueNamed names (value_in all v)
    → l ≡ held.set_locals (slice_set (held.locals k) index v) k → named.NamedStack names (stack_in all k)
    → named.NamedStack names (stack_in all l)
set_named names all k l index v one e h =
    let vs : List Value = slice_set (flat.locals (stack_in all k)) index (value_in all v) in
    let set : Each (ValueNamed names) vs
    = each_set (ValueNamed names) (flat.locals (stack_in all k)) index (value_in all v) (named.locals names (stack_in all k) h) one in
    subst (λ (x : Frames). named.NamedStack names x) (locals_set all k l index v e) (named.set_locals names vs (stack_in all k) set h)

-- a local was assigned a value
pub assigns_local : (m k l n : FlatStack) (slots : StackSlot × StackSlot) (two : ℕ × StackSlot) → TakesSlots m k slots → (a : Assigns k slots two)
    → l ≡ held.set_locals (slice_set (held.locals k) two.0 a.tells.is) k → held.local_count l ≡ held.local_count k
    → n ≡ held.push (local_item two.0) l → OperatesInPlace Ops.Assign m n (Some RunStates.Running)
assigns_local m k l n slots two takes a e count pushed =
    let index : ℕ = two.0 in
    let v : Val = a.tells.is in
    let items : List Item = takes.first ∷ takes.second ∷ [] in
    let target : takes.first ≡ local_item index = same_Some takes.first (local_item index) (sym takes.lower ∙ a.is) in
    let upper : a.tells.item ≡ takes.second = same_Some a.tells.item takes.second (sym a.tells.tells ∙ takes.upper) in
    let holds : HoldsValue (held.locals k) takes.second v = subst (λ (x : Item). HoldsValue (held.locals k) x v) upper a.tells.holds in
    let binary : IsBinaryRow Ops.Assign = record { two = refl; row = λ q. cc } in
    record {
      done = λ all tables st b.
          performed all tables Ops.Assign m k items st binary takes.taken b
          ∙ ap (λ (o : Outcome). outcome flat o (stack_in all k) (after_turn st))
          (assigned_row all k (after_turn st) takes.first takes.second index v target holds)
          ∙ ap (λ (a : Frames). push_item flat (item_in all (local_item index)) a (after_turn st)) (locals_set all k l index v e)
          ∙ ap (λ (a : FlatStack). running (stack_in all a) (after_turn st)) (sym pushed);
      not_done = λ q. cc;
      live = λ t reach s.
          let P : Item → Type 0 = IsLiveItem (with_locals (own_locals k) reach) in
          let back = live_taken t reach 2 m k items takes.taken s in
          let second : P takes.second = All-head P takes.second [] (All-tail P takes.first (takes.second ∷ []) back.items_live) in
          let value : IsLive reach.extent v = value_live t reach k takes.second v back.rest second holds in
          let own : index < held.local_count l = subst (λ (c : ℕ). index < c) (sym count) a.within in
          subst (λ (x : FlatStack). IsLiveStack t reach x) (sym pushed)
          (live_push t reach l (local_item index) (set_live t reach k l index v value e back.rest) (record { live = record { live = record { live = own } } }));
      named = λ names all h.
          let back = named_taken names all 2 m k items takes.taken h in
          let value : ValueNamed names (value_in all v) = value_named names all k takes.second v back.rest back.items_named.1.0 holds in
          let one : ItemNamed names (item_in all (local_item index)) = record { named = tt } in
          subst (λ (x : FlatStack). StackNamed names (stack_in all x)) (sym pushed)
          (named.stack_out names (stack_in all (held.push (local_item index) l)) (one, set_named names all k l index v value e back.rest));
    }

-- whether the comparison was met, as it was asked
pub compares_at : (op : Op) (vs : List Val) (slots : StackSlot × StackSlot) (met : Bool × ℤ) (b : Bool) → met.0 ≡ b → Compares op vs slots met
    → Compares op vs slots (b, met.1)
compares_at op vs slots met b e c = record { left = c.left; of = c.of; is = c.is ∙ ap (λ (x : Bool). Some x) e }

pub length_set : (xs : List Val) (i : ℕ) (v : Val) → length (slice_set xs i v) ≡ length xs
length_set [] i v = refl
length_set (x ∷ xs) zero v = refl
length_set (x ∷ xs) (suc i) v = ap (λ (n : ℕ). suc n) (length_set xs i v)
