-- Operations on the values of two operands, as steps.
use Rattle.std.proofs.Common.{◌≡◌, ℕ, ℤ, Bool, true, false, not, nat_le, nat_lt, ◌<◌, ◌≤◌, List, [], ◌∷◌, ◌-◌, length, Option, Some, None, Result, IfSome, refl, sym, ap, ◌∙◌, subst, arith}
use Rattle.std.proofs.lemmas.Bool.{le-leb, lt-leb}
use Rattle.std.proofs.lemmas.Option.{same_Some}
use Rattle.std.specs.Cmp.Lexicographic.{slice_cmp}
use Rattle.std.specs.Ordering.{int_cmp, nat_cmp, is_lt, is_le, is_eq, is_ge, is_gt, is_ne}
use Rattle.std.specs.Result.{result_ok}
use Rattle.icn_text.specs.declared.arithmetic.Arith.{Arith}
use Rattle.icn_text.specs.declared.op.Op.{Op}
use Rattle.icn_text.specs.declared.op.Op.TheVariants as Ops
use Rattle.icn_text.specs.IntegerArithmetic.{sum, difference, product, quotient, remainder}
use Rattle.icn_value.specs.declared.item.Item.{Item}
use Rattle.icn_value.specs.declared.item.Item.TheVariants as Items
use Rattle.icn_value.specs.declared.val.Span.{Span}
use Rattle.icn_value.specs.declared.val.Val.{Val}
use Rattle.icn_value.specs.declared.val.Val.TheVariants as Vals
use Rattle.icn_value.specs.declared.item.Root.TheVariants as Roots
use Rattle.icn_value.specs.declared.item.VarRef.TheVariants as VarRefs
use Rattle.icn_value.specs.Store.{Names, Outside, Setting, World as StoreWorld, list_at}
use Rattle.icn_value.specs.Values as values
use Rattle.icn_value.specs.Values.{Value}
use Rattle.icn_defs.specs.Arguments.{number, string}
use Rattle.icn_defs.specs.Arities.{arity}
use Rattle.icn_defs.specs.Arithmetic.{arithmetic_row, number_comparison_row}
use Rattle.icn_defs.specs.Calls.{GoesOn}
use Rattle.icn_defs.specs.Conversions.{position_of, same}
use Rattle.icn_defs.specs.Elements.{element_item}
use Rattle.icn_defs.specs.Operations.{equivalence_row, text_comparison_row}
use Rattle.icn_defs.specs.ReadAndAssign.{the_value}
use Rattle.icn_defs.specs.Rows.{Outcome, Row, Fails, Gives, costs_texts, fails_unless, gives, gives_value, number_or_error, thing_or_failure}
use Rattle.icn_defs.specs.Variables.{element_position, subscript_of}
use Rattle.icn_value.specs.Sizes.{group_of}
use Rattle.icn_heap.specs.Extents.{Extent, IsLive, IsText, text_in, value_in}
use Rattle.icn_heap.specs.Heaps.{extent_of, heap_of}
use Rattle.icn_vars.specs.declared.world.World.{World}
use Rattle.icn_vars.specs.Worlds.{item_in, reach_of, setting_of, world_of}
use Rattle.icn_frames.specs.Stacks as held
use Rattle.icn_frames.specs.Stacks.{FlatStack}
use Rattle.icn_code.specs.Codes.{Tables}
use Rattle.icn_run.specs.Stacks.{Frames, flat}
use Rattle.icn_run.specs.Step.{Store, failing, here, outcome, push_item, running}
use Rattle.law_names.specs.NamedSettings.{ValueNamed}
use Rattle.law_steps.specs.StateNames.{StackNamed}
use Rattle.law_steps.proofs.CallsNamed as named
use Rattle.icn_control.specs.LiveStacks.{IsLiveStack}
use Rattle.icn_control.specs.StackViews.{instruction_state, stack_in}
use Rattle.icn_control.specs.TakenOperands.{take_operands}
use Rattle.icn_control.specs.declared.machine.RunState.{RunState}
use Rattle.icn_control.specs.declared.machine.RunState.TheVariants as RunStates
use Rattle.icn_control.proofs.LiveCalls.{live_push, own_locals}
use Rattle.icn_control.proofs.OperandValues.{here_is}
use Rattle.icn_control.proofs.TakenOperandSteps.{live_taken}
use Rattle.icn_code.specs.declared.instr.Instr.TheVariants as Instrs
use Rattle.icn_machine.specs.declared.value_operations.ItemOutcome.{ItemOutcome}
use Rattle.icn_machine.specs.declared.value_operations.ItemOutcome.TheVariants as Answers
use Rattle.icn_machine.specs.PlainOperations.{OperatesInWorld, integer_result, is_met}
use Rattle.icn_machine.specs.ValueOperations.{ComesOnValues, ComesOverValues, FindsOperand, GivesAtOnce, IsPlain, IsPlainItem, given_in, is_equality_met, is_nameless, is_text_met, value_if}
use Rattle.icn_machine.proofs.OperateSteps.{named_taken}
use Rattle.icn_machine.proofs.PlainOperationSteps.{after_turn, locals_back, row_performed, was_ok}

-- Values that are found

pub found_on : (w : World) (k : FlatStack) (item : Item) (v : Val)
    → ((outside : Outside) → GoesOn (the_value (item_in (extent_of w.heap) item)) (setting_of outside w (held.locals k)) (value_in (extent_of w.heap) v)
    (setting_of outside w (held.locals k)))
    → FindsOperand w k item v
found_on w k item v h st same =
    subst (λ (s : Setting). GoesOn (the_value (item_in (extent_of w.heap) item)) s (value_in (extent_of w.heap) v) s) (sym (here_is w k st same)) (h st.outside)

-- Rows

arithmetic_on : (f : ℤ → ℤ → Result ℤ Arith) (a b r : ℤ) (x y : values.Item) (s : Setting) → GoesOn (the_value x) s (values.Integer a) s
    → GoesOn (the_value y) s (values.Integer b) s → result_ok (f a b) ≡ Some r → arithmetic_row f x y s ≡ Gives (values.Val (values.Integer r)) s
arithmetic_on f a b r x y s fx fy e =
    let give : Result ℤ Arith → Row = λ o. number_or_error o (λ n. gives_value (values.Integer n)) in
    let second : Value → Value → Row = λ v w. number v (λ m. number w (λ n. give (f m n))) in
    fx (λ v. the_value y (second v)) ∙ fy (second (values.Integer a)) ∙ ap (λ (o : Result ℤ Arith). give o s) (was_ok (f a b) r e)

-- arithmetic on two integers
pub integers_computed : (w : World) (op : Op) (a b r : ℤ) → integer_result op a b ≡ Some r
    → ComesOnValues w op (Vals.Integer a) (Vals.Integer b) (Answers.Gives (Items.Val (Vals.Integer r)))
integers_computed w Ops.Add a b r e x y s is fx fy = arithmetic_on sum a b r x y s fx fy e
integers_computed w Ops.Subtract a b r e x y s is fx fy = arithmetic_on difference a b r x y s fx fy e
integers_computed w Ops.Multiply a b r e x y s is fx fy = arithmetic_on product a b r x y s fx fy e
integers_computed w Ops.Divide a b r e x y s is fx fy = arithmetic_on quotient a b r x y s fx fy e
integers_computed w Ops.Remainder a b r e x y s is fx fy = arithmetic_on remainder a b r x y s fx fy e
integers_computed w op a b r e x y s is fx fy = cc

given_if : (all : Extent) (met : Bool) (v : Val) (s : Setting)
    → fails_unless met (gives_value (value_in all v)) s ≡ given_in all (value_if met v) s
given_if all true v s = refl
given_if all false v s = refl

comparison_on : (test : ℤ → ℤ → Bool) (all : Extent) (a b : ℤ) (met : Bool) (x y : values.Item) (s : Setting) → GoesOn (the_value x) s (values.Integer a) s
    → GoesOn (the_value y) s (values.Integer b) s → Some (test a b) ≡ Some met
    → number_comparison_row test x y s ≡ given_in all (value_if met (Vals.Integer b)) s
comparison_on test all a b met x y s fx fy e =
    let second : Value → Value → Row
    = λ v w. number v (λ m. number w (λ n. fails_unless (test m n) (gives_value (values.Integer n)))) in
    fx (λ v. the_value y (second v)) ∙ fy (second (values.Integer a))
    ∙ ap (λ (t : Bool). fails_unless t (gives_value (values.Integer b)) s) (same_Some (test a b) met e)
    ∙ given_if all met (Vals.Integer b) s

-- a comparison of two integers
pub integers_compared : (w : World) (op : Op) (a b : ℤ) (met : Bool) → is_met op (int_cmp a b) ≡ Some met
    → ComesOnValues w op (Vals.Integer a) (Vals.Integer b) (value_if met (Vals.Integer b))
integers_compared w Ops.Less a b met e x y s is fx fy = comparison_on (λ m n. is_lt (int_cmp m n)) (extent_of w.heap) a b met x y s fx fy e
integers_compared w Ops.LessOrEqual a b met e x y s is fx fy = comparison_on (λ m n. is_le (int_cmp m n)) (extent_of w.heap) a b met x y s fx fy e
integers_compared w Ops.Equal a b met e x y s is fx fy = comparison_on (λ m n. is_eq (int_cmp m n)) (extent_of w.heap) a b met x y s fx fy e
integers_compared w Ops.GreaterOrEqual a b met e x y s is fx fy = comparison_on (λ m n. is_ge (int_cmp m n)) (extent_of w.heap) a b met x y s fx fy e
integers_compared w Ops.Greater a b met e x y s is fx fy = comparison_on (λ m n. is_gt (int_cmp m n)) (extent_of w.heap) a b met x y s fx fy e
integers_compared w Ops.NotEqual a b met e x y s is fx fy = comparison_on (λ m n. is_ne (int_cmp m n)) (extent_of w.heap) a b met x y s fx fy e
integers_compared w op a b met e x y s is fx fy = cc

text_comparison_on : (test : List ℕ → List ℕ → Bool) (all : Extent) (a b : Span) (met : Bool) (x y : values.Item) (s : Setting)
    → GoesOn (the_value x) s (values.Text (text_in all a)) s → GoesOn (the_value y) s (values.Text (text_in all b)) s
    → Some (test (text_in all a) (text_in all b)) ≡ Some met
    → text_comparison_row test x y s ≡ given_in all (value_if met (Vals.Text b)) s
text_comparison_on test all a b met x y s fx fy e =
    let second : Value → Value → Row
    = λ v w. string v (λ p. string w (λ q. costs_texts (v ∷ w ∷ []) (fails_unless (test p q) (gives_value (values.Text q))))) in
    fx (λ v. the_value y (second v)) ∙ fy (second (values.Text (text_in all a)))
    ∙ ap (λ (t : Bool). fails_unless t (gives_value (values.Text (text_in all b))) s) (same_Some (test (text_in all a) (text_in all b)) met e)
    ∙ given_if all met (Vals.Text b) s

-- a comparison of two texts
pub texts_compared : (w : World) (op : Op) (a b : Span) (met : Bool)
    → is_text_met op (slice_cmp nat_cmp (text_in (extent_of w.heap) a) (text_in (extent_of w.heap) b)) ≡ Some met
    → ComesOnValues w op (Vals.Text a) (Vals.Text b) (value_if met (Vals.Text b))
texts_compared w Ops.LexicallyLess a b met e x y s is fx fy = text_comparison_on (λ p q. is_lt (slice_cmp nat_cmp p q)) (extent_of w.heap) a b met x y s fx fy e
texts_compared w Ops.LexicallyLessOrEqual a b met e x y s is fx fy = text_comparison_on (λ p q. is_le (slice_cmp nat_cmp p q)) (extent_of w.heap) a b met x y s fx fy e
texts_compared w Ops.LexicallyEqual a b met e x y s is fx fy = text_comparison_on (λ p q. is_eq (slice_cmp nat_cmp p q)) (extent_of w.heap) a b met x y s fx fy e
texts_compared w Ops.LexicallyGreaterOrEqual a b met e x y s is fx fy = text_comparison_on (λ p q. is_ge (slice_cmp nat_cmp p q)) (extent_of w.heap) a b met x y s fx fy e
texts_compared w Ops.LexicallyGreater a b met e x y s is fx fy = text_comparison_on (λ p q. is_gt (slice_cmp nat_cmp p q)) (extent_of w.heap) a b met x y s fx fy e
texts_compared w Ops.LexicallyNotEqual a b met e x y s is fx fy = text_comparison_on (λ p q. is_ne (slice_cmp nat_cmp p q)) (extent_of w.heap) a b met x y s fx fy e
texts_compared w op a b met e x y s is fx fy = cc

equality_on : (test : Bool → Bool) (all : Extent) (a b : Val) (met : Bool) (x y : values.Item) (s : Setting)
    → GoesOn (the_value x) s (value_in all a) s → GoesOn (the_value y) s (value_in all b) s
    → Some (test (same (value_in all a) (value_in all b))) ≡ Some met
    → equivalence_row test x y s ≡ given_in all (value_if met b) s
equality_on test all a b met x y s fx fy e =
    let second : Value → Value → Row = λ v w. fails_unless (test (same v w)) (gives_value w) in
    fx (λ v. the_value y (second v)) ∙ fy (second (value_in all a))
    ∙ ap (λ (t : Bool). fails_unless t (gives_value (value_in all b)) s) (same_Some (test (same (value_in all a) (value_in all b))) met e)
    ∙ given_if all met b s

-- a test of equality
pub values_tested : (w : World) (op : Op) (a b : Val) (met : Bool)
    → is_equality_met op (same (value_in (extent_of w.heap) a) (value_in (extent_of w.heap) b)) ≡ Some met → ComesOnValues w op a b (value_if met b)
values_tested w Ops.Equivalent a b met e x y s is fx fy = equality_on (λ t. t) (extent_of w.heap) a b met x y s fx fy e
values_tested w Ops.NotEquivalent a b met e x y s is fx fy = equality_on not (extent_of w.heap) a b met x y s fx fy e
values_tested w op a b met e x y s is fx fy = cc

-- the element of a list at a position

pub element_there : (n : ℤ) (size place : ℕ) (next : ℕ → Row) (s : Setting) → Some place ≡ position_of n size → place ≤ size
    → element_position n size next s ≡ next place s
element_there n size place next s is within =
    ap (λ one. thing_or_failure one (λ p. fails_unless (nat_le p size) (next p)) s) (sym is)
    ∙ ap (λ t. fails_unless t (next place) s) (le-leb place size within)

pub element_past : (n : ℤ) (size place : ℕ) (next : ℕ → Row) (s : Setting) → Some place ≡ position_of n size → size < place
    → element_position n size next s ≡ Fails s
element_past n size place next s is past =
    ap (λ one. thing_or_failure one (λ p. fails_unless (nat_le p size) (next p)) s) (sym is)
    ∙ ap (λ t. fails_unless t (next place) s) (lt-leb place size past)

pub element_nowhere : (n : ℤ) (size : ℕ) (next : ℕ → Row) (s : Setting) → None ≡ position_of n size → element_position n size next s ≡ Fails s
element_nowhere n size next s is = ap (λ one. thing_or_failure one (λ p. fails_unless (nat_le p size) (next p)) s) (sym is)

-- the subscript of a list
pub list_subscripted : (w : World) (list : ℕ) (n : ℤ) (given : ItemOutcome)
    → ((s : Setting) → element_position n (length (list_at (heap_of w.heap) list).items)
    (λ place. gives (element_item list (list_at (heap_of w.heap) list) (place - 1))) s ≡ given_in (extent_of w.heap) given s)
    → ComesOnValues w Ops.Subscript (Vals.List list) (Vals.Integer n) given
list_subscripted w list n given found x y s is fx fy =
    fx (λ v. the_value y (λ u. subscript_of x v u (group_of v)))
    ∙ fy (λ u. subscript_of x (values.AList list) u (group_of (values.AList list)))
    ∙ ap (λ (seen : StoreWorld). element_position n (length (list_at seen.heap list).items)
    (λ place. gives (element_item list (list_at seen.heap list) (place - 1))) s) is
    ∙ found s

-- What is given is of the world, and names nothing

pub integer_plain : (w : World) (n : ℤ) → IsPlainItem w (Items.Val (Vals.Integer n))
integer_plain w n = record { live = λ locals. record { live = record { live = tt } }; named = λ names. record { named = tt } }

pub text_plain : (w : World) (span : Span) → IsText (extent_of w.heap) span → IsPlainItem w (Items.Val (Vals.Text span))
text_plain w span is = record { live = λ locals. record { live = record { live = is } }; named = λ names. record { named = tt } }

pub nameless_named : (names : Names) (all : Extent) (v : Val) → is_nameless v ≡ true → ValueNamed names (value_in all v)
nameless_named names all Vals.Null e = tt
nameless_named names all (Vals.Integer n) e = tt
nameless_named names all (Vals.Text span) e = tt
nameless_named names all (Vals.Chars cset) e = tt
nameless_named names all (Vals.Std file) e = tt
nameless_named names all (Vals.Proc number) e = cc
nameless_named names all (Vals.Rec id) e = tt
nameless_named names all (Vals.List id) e = tt
nameless_named names all (Vals.Set id) e = tt
nameless_named names all (Vals.Table id) e = tt
nameless_named names all (Vals.Coexp id) e = tt

pub value_plain : (w : World) (v : Val) → is_nameless v ≡ true → IsLive (extent_of w.heap) v → IsPlainItem w (Items.Val v)
value_plain w v e l = record { live = λ locals. record { live = l }; named = λ names. record { named = nameless_named names (extent_of w.heap) v e } }

pub element_plain : (w : World) (list : ℕ) (number : ℤ) → IsLive (extent_of w.heap) (Vals.List list)
    → IsPlainItem w (Items.Var (VarRefs.Whole (Roots.Element list number)))
element_plain w list number is =
    record { live = λ locals. record { live = record { live = record { live = is } } }; named = λ names. record { named = tt } }

pub plain_if : (w : World) (met : Bool) (v : Val) → IsPlainItem w (Items.Val v) → IsPlain w (value_if met v)
plain_if w true v plain = plain
plain_if w false v plain = tt

-- On operands

comes_over : (w : World) (op : Op) (k : FlatStack) (two : Item × Item) (a b : Val) (given : ItemOutcome) → FindsOperand w k two.0 a
    → FindsOperand w k two.1 b → ComesOnValues w op a b given → ComesOverValues w op k two given
comes_over w op k two a b given first second comes st same =
    comes (item_in (extent_of w.heap) two.0) (item_in (extent_of w.heap) two.1) (here flat (stack_in (extent_of w.heap) k) st) same (first st same) (second st same)

pub comes_if : (w : World) (op : Op) (k : FlatStack) (two : Item × Item) (a b : Val) (r : Option ItemOutcome) → FindsOperand w k two.0 a
    → FindsOperand w k two.1 b → IfSome r (ComesOnValues w op a b) → IfSome r (ComesOverValues w op k two)
comes_if w op k two a b (Some given) first second comes = comes_over w op k two a b given first second comes
comes_if w op k two a b None first second comes = tt

no_refresh : (op : Op) → arity op ≡ 2 → op ≡ Ops.Refresh → ⊥
no_refresh op two q =
    let one : 1 ≡ 2 = sym (ap arity q) ∙ two in
    absurd (omega (arith, one))

module _ (w : World) (op : Op) (m k n : FlatStack) (two : Item × Item) (is_two : arity op ≡ 2)
    (taken : take_operands 2 m ≡ Some (two.0 ∷ two.1 ∷ [], k)) (back : held.set_locals (held.locals k) k ≡ k) where
  comes_to : (given : ItemOutcome) → ComesOverValues w op k two given → (tables : Tables) (st : Store Frames) → st.world ≡ world_of w
      → nat_lt st.turns st.world.heap.bounds.turns ≡ true
      → instruction_state (extent_of w.heap) tables (Instrs.Op op) m st
      ≡ outcome flat (given_in (extent_of w.heap) given (here flat (stack_in (extent_of w.heap) k) (after_turn st))) (stack_in (extent_of w.heap) k) (after_turn st)
  comes_to given comes tables st same more =
      row_performed (extent_of w.heap) tables op m k (two.0 ∷ two.1 ∷ []) st (no_refresh op is_two) (subst (λ (c : ℕ). take_operands c m ≡ Some ((two.0 ∷ two.1 ∷ []), k)) (sym is_two) taken) more
      ∙ ap (λ (o : Outcome). outcome flat o (stack_in (extent_of w.heap) k) (after_turn st)) (comes (after_turn st) same)

  fails_so : ComesOverValues w op k two Answers.Fails → n ≡ k → OperatesInWorld w op m n (Some RunStates.Failing)
  fails_so comes left = record {
    done = λ tables st same more.
        comes_to Answers.Fails comes tables st same more
        ∙ ap (λ (a : Frames). failing a (after_turn st)) (locals_back (extent_of w.heap) k back)
        ∙ ap (λ (a : FlatStack). failing (stack_in (extent_of w.heap) a) (after_turn st)) (sym left);
    not_done = λ q. cc;
    live = λ tables l.
        subst (λ (x : FlatStack). IsLiveStack tables (reach_of w []) x) (sym left) (live_taken tables (reach_of w []) 2 m k (two.0 ∷ two.1 ∷ []) taken l).rest;
    named = λ names world h.
        subst (λ (x : FlatStack). StackNamed names (stack_in (extent_of w.heap) x)) (sym left)
        (named.stack_out names (stack_in (extent_of w.heap) k) (named_taken names (extent_of w.heap) 2 m k (two.0 ∷ two.1 ∷ []) taken h).rest);
  }

  gives_so : (item : Item) → ComesOverValues w op k two (Answers.Gives item) → IsPlainItem w item → n ≡ held.push item k
      → OperatesInWorld w op m n (Some RunStates.Running)
  gives_so item comes plain pushed = record {
    done = λ tables st same more.
        comes_to (Answers.Gives item) comes tables st same more
        ∙ ap (λ (a : Frames). push_item flat (item_in (extent_of w.heap) item) a (after_turn st)) (locals_back (extent_of w.heap) k back)
        ∙ ap (λ (a : FlatStack). running (stack_in (extent_of w.heap) a) (after_turn st)) (sym pushed);
    not_done = λ q. cc;
    live = λ tables l.
        subst (λ (x : FlatStack). IsLiveStack tables (reach_of w []) x) (sym pushed)
        (live_push tables (reach_of w []) k item (live_taken tables (reach_of w []) 2 m k (two.0 ∷ two.1 ∷ []) taken l).rest (plain.live (own_locals k)));
    named = λ names world h.
        subst (λ (x : FlatStack). StackNamed names (stack_in (extent_of w.heap) x)) (sym pushed)
        (named.stack_out names (stack_in (extent_of w.heap) (held.push item k)) (plain.named names, (named_taken names (extent_of w.heap) 2 m k (two.0 ∷ two.1 ∷ []) taken h).rest));
  }

  -- what was found was pushed, or it failed
  pub performed_so : (given : ItemOutcome) (stage : RunState) → ComesOverValues w op k two given → IsPlain w given → GivesAtOnce given k n stage
      → OperatesInWorld w op m n (Some stage)
  performed_so Answers.Fails stage comes plain gave =
      subst (λ (x : RunState). OperatesInWorld w op m n (Some x)) (sym gave.0) (fails_so comes gave.1)
  performed_so (Answers.Gives item) stage comes plain gave =
      subst (λ (x : RunState). OperatesInWorld w op m n (Some x)) (sym gave.0) (gives_so item comes plain gave.1)

-- nothing was done
pub unchanged_so : (w : World) (op : Op) (m n : FlatStack) → n ≡ m → OperatesInWorld w op m n None
unchanged_so w op m n same = record {
  done = tt;
  not_done = λ q. same;
  live = λ tables l. subst (λ (x : FlatStack). IsLiveStack tables (reach_of w []) x) (sym same) l;
  named = λ names world h. subst (λ (x : FlatStack). StackNamed names (stack_in (extent_of w.heap) x)) (sym same) h;
}

-- what is not told by slots alone is performed on values, from where it was
pub performed_after : (w : World) (op : Op) (m k n : FlatStack) (r : Option RunState) → k ≡ m → OperatesInWorld w op k n r → OperatesInWorld w op m n r
performed_after w op m k n r same = subst (λ (x : FlatStack). OperatesInWorld w op x n r) same
