-- Each instruction keeps all shaped.
use Rattle.std.proofs.Common.{◌≡◌, ℕ, zero, suc, ◌+◌, ◌-◌, ◌<◌, ◌≤◌, Bool, true, false, List, [], ◌∷◌, length, Option, Some, None, refl, sym, ap, ◌∙◌, subst, arith}
use Rattle.std.specs.Prelude.{slice_get, slice_set, slice_index_or, ℤ, pos, negsuc, ◌&&◌, not, is_some, option_map, unwrap_or, nat_lt, IfSome}
use Rattle.std.specs.Option.{option_map_or}
use Rattle.std.proofs.lemmas.Bool.{ltb-true, ltb-false}
use Rattle.icn_text.specs.declared.op.Op.{Op}
use Rattle.icn_text.specs.declared.op.Op.TheVariants as Ops
use Rattle.icn_text.specs.declared.keyword.Keyword.{Keyword}
use Rattle.icn_text.specs.declared.keyword.Keyword.TheVariants as Keywords
use Rattle.icn_value.specs.Store.{KeptError}
use Rattle.icn_defs.specs.Keywords.{kept_number, kept_value, kept_text}
use Rattle.icn_value.specs.Values.{Std, ASet, ATable, Element, Key, Keyword as KeywordRoot}
use Rattle.icn_defs.specs.Arities.{arity}
use Rattle.icn_code.specs.declared.instr.Instr.{Instr}
use Rattle.icn_code.specs.declared.instr.Instr.TheVariants as Instrs
use Rattle.icn_verify.specs.declared.shape.LevelKind.TheVariants as Levels
use Rattle.icn_verify.specs.Shapes.{PlainShape, start_shape, with_more, with_fewer, with_mark, before_mark, with_scan, without_scan, same_kind}
use Rattle.icn_verify.specs.Rows.{fits, next, forward, back, is_ended, has_operand, with_label}
use Rattle.icn_run.specs.Rows.{Value, Null, Integer, Text, Chars, Procedure as ProcedureValue, ARecord, AList, ACoexp, Item, Val, Var, Global, Static, Local, Field, Whole, Part, Operation, apply, Standing, keyword_item, text_row, integer_of}
use Rattle.icn_run.specs.Calls as Cs
use Rattle.icn_run.specs.Calls.{Pair}
use Rattle.icn_run.specs.Chains as C
use Rattle.icn_run.specs.Chains.{LinkedStack, WaitingChain, with_chain}
use Rattle.icn_run.specs.Step.{Program, Store, running, on_pair, with_found, turn, here, with_value, with_values, push_item, list_made, with_made, pair_now, with_pair, with_exchange, maybe_exchanged, return_to, all_left, coexp_made, refresh, field_applied, field_of, invoked_with, applied_to_elements, activation_of, activation, with_result, standing_of, pushed_or_fails, activator_of, unmark_then, limit_results, limited_result, scan_opened, result_given, is_create_body, members_of, operate, initial_if, instruction, statics_before}
use Rattle.law_stacks.proofs.RowsKeep.{rows_keep}
use Rattle.law_safe.specs.Within.{Each, ValueWithin, OptionWithin, KeptWithin, ItemWithin, RowsStayWithin}
use Rattle.law_safe.specs.Shaped.{Knowledge, LabelTo, LocalsOk, StoreOk, KeepsShapes, InRange}
use Rattle.law_safe.proofs.EachEntry.{entry_there, index_within, index_there}
use Rattle.law_safe.proofs.FrameCalls.{with_flag, grow_flag, locals_ok, here_proc, here_create, mark_ok, limit_ok}
use Rattle.law_safe.proofs.MarkCalls.{false_is_not_true, IfThere, outside_ok, below_ok, relabel_ok, suspend_alt, suspend_scan, suspend_escan, swap_oldest_ok, suspend_proc_ok, leave_ok, count_ok}
use Rattle.law_safe.proofs.ChangedStores.{grow_store}
use Rattle.law_safe.proofs.InstructionParts.{linked_machine, LinkedState, Ok, Ready, ok_if, ok_found, ok_errs, ok_fails, ok_runs, ok_push, here_within, ok_value, ok_values, ok_outcome, ok_made, ok_turn, ok_list, ok_one, ok_applied, ok_invoked_with, ok_field, ready_at, ok_popped, ok_taken, ready_pair, ok_unmarked}
use Rattle.law_safe.proofs.HopSteps.{exhausted_ok, result_ok, activation_ok, coexp_made_ok, refreshed_ok, ok_maybe, ok_exchanged, ok_returned, ok_all, proc_fails_ok}

enough : (a n : ℕ) (b : Bool) → (not (nat_lt a n) && b) ≡ true → (n ≤ a) × (b ≡ true)
enough a n b h = by (nat_lt a n) refl h
  where
    by : (x : Bool) → nat_lt a n ≡ x → (not x && b) ≡ true → (n ≤ a) × (b ≡ true)
    by false e h = (ltb-false a n e, h)
    by true e h = false_is_not_true h

pub both : (a b : Bool) → (a && b) ≡ true → (a ≡ true) × (b ≡ true)
both true b h = (refl, h)
both false b h = false_is_not_true h

is_false : (b : Bool) → not b ≡ true → b ≡ false
is_false true h = false_is_not_true h
is_false false h = refl

fewer_none : (S : PlainShape) → with_fewer 0 S ≡ S
fewer_none S = let e : S.inner.operands - 0 ≡ S.inner.operands = omega arith in ap (λ n. record S { inner = record S.inner { operands = n } }) e

more_none : (S : PlainShape) → with_more 0 S ≡ S
more_none S = let e : S.inner.operands + 0 ≡ S.inner.operands = omega arith in ap (λ n. record S { inner = record S.inner { operands = n } }) e

more_of_fewer : (n : ℕ) (S : PlainShape) → n ≤ S.inner.operands → with_more n (with_fewer n S) ≡ S
more_of_fewer n S l = let e : S.inner.operands - n + n ≡ S.inner.operands = omega (arith, l) in ap (λ k. record S { inner = record S.inner { operands = k } }) e

number_within : (n : ℕ) (e : Option KeptError) → IfThere (ItemWithin n) (kept_number e)
number_within n None = tt
number_within n (Some e) = tt

item_within : (n : ℕ) (v : Option Value) → OptionWithin n v → IfThere (ItemWithin n) (option_map Val v)
item_within n None h = tt
item_within n (Some v) h = h

kept_within : (n : ℕ) (e : Option KeptError) → KeptWithin n e → IfThere (ItemWithin n) (kept_value e)
kept_within n None h = tt
kept_within n (Some e) h = item_within n e.value h

text_within : (n : ℕ) (e : Option KeptError) → IfThere (ItemWithin n) (kept_text e)
text_within n None = tt
text_within n (Some e) = tt

keyword_within : (n : ℕ) (s : Standing) (k : Keyword) → 0 < n → s.current < n → s.source < n → KeptWithin n s.kept
    → IfThere (ItemWithin n) (keyword_item s k)
keyword_within n s Keywords.Current z c a e = c
keyword_within n s Keywords.Main z c a e = z
keyword_within n s Keywords.Source z c a e = a
keyword_within n s Keywords.ErrorNumber z c a e = number_within n s.kept
keyword_within n s Keywords.ErrorValue z c a e = kept_within n s.kept e
keyword_within n s Keywords.ErrorText z c a e = text_within n s.kept
keyword_within n s _ z c a e = tt

module _ (P : Program) (sh : ℕ → ℕ → Option PlainShape) (given : KeepsShapes P sh) (keep : RowsStayWithin) where
  abbrev Good : LinkedState P sh given keep → Type 0
  Good state = Ok P sh given keep state

  abbrev Set : Knowledge → ℕ → PlainShape → LinkedStack → Store WaitingChain → Type 0
  Set w p S m st = Ready P sh given keep w p S m st

  flag_store : (w : Knowledge) (p : ℕ) (S : PlainShape) (st : Store WaitingChain) → StoreOk P sh w (λ i. i ≡ st.active) st
      → StoreOk P sh (with_flag w p S) (λ i. i ≡ st.active) st
  flag_store w p S st h = grow_store P sh w (with_flag w p S) (λ i. i ≡ st.active) st refl (grow_flag w p S) h

  -- the active co-expression, its activator and `&main` are there
  keyword_ok : (k : Keyword) (w : Knowledge) (p : ℕ) (S : PlainShape) (m : LinkedStack) (st : Store WaitingChain) → Set w p S m st
      → sh p m.address ≡ Some (with_more 1 S)
      → Good (pushed_or_fails linked_machine (keyword_item (standing_of linked_machine m st) k) m st)
  keyword_ok k w p S m st h e =
      let count = h.store.coexps.count in
      let a = h.store.coexps.there in
      let one = index_within st.coexps st.active a.coexp a.stands in
      let zero_there = h.store.coexps.first in
      let first = index_within st.coexps 0 zero_there.coexp zero_there.stands in
      let o = (h.store.coexps.each st.active a.coexp a.stands).activator in
      let other = index_within st.coexps a.coexp.activator o.coexp o.stands in
      let same : activator_of st.active st ≡ a.coexp.activator = ap (λ c. c.activator) (index_there st.coexps st.active a.coexp _ a.stands) in
      ok_one P sh given keep (keyword_item (standing_of linked_machine m st) k) w p S m st h
      (keyword_within w.coexps (standing_of linked_machine m st) k (omega (arith, first, count)) (omega (arith, one, count)) (omega (arith, other, count, same))
      h.store.world.kept) e

  -- operations
  operated_ok : (op : Op) (items : List Item) (w : Knowledge) (p : ℕ) (S : PlainShape) (m : LinkedStack) (st : Store WaitingChain) → Set w p S m st
      → Each (ItemWithin w.coexps) items → sh p m.address ≡ Some (with_more 1 S) → Good (operate linked_machine op items m st)
  operated_ok Ops.Refresh (item ∷ items) w p S m st h g e =
      ok_value P sh given keep item w p S m st (λ value. refresh linked_machine value m st) h g.0 (λ v gv. refreshed_ok P sh given keep v w p S m st h gv e)
  operated_ok op items w p S m st h g e =
      ok_outcome P sh given keep (apply st.names (Operation op) items (here linked_machine m st)) w p S m st h
      (keep.applied w.coexps st.names (Operation op) items
      (here linked_machine m st) (here_within P sh given keep w p S m st h) g) (rows_keep.applied st.names (Operation op) items (here linked_machine m st)) e

  field_applied_ok : (k : ℕ) (items : List Item) (w : Knowledge) (p : ℕ) (S : PlainShape) (m : LinkedStack) (st : Store WaitingChain) → Set w p S m st
      → length items ≡ 1
      → Each (ItemWithin w.coexps) items → sh p m.address ≡ Some (with_more 1 S) → Good (field_applied linked_machine P k items m st)
  field_applied_ok k [] w p S m st h l g e = absurd (omega (arith, l))
  field_applied_ok k (item ∷ items) w p S m st h l g e =
      ok_value P sh given keep item w p S m st (λ value. field_of linked_machine P k value m st) h g.0 (λ v gv. ok_field P sh given keep k v w p S m st h gv e)

  activation_of_ok : (items : List Item) (w : Knowledge) (p : ℕ) (S : PlainShape) (m : LinkedStack) (st : Store WaitingChain) → Set w p S m st
      → length items ≡ 2
      → Each (ItemWithin w.coexps) items → sh p m.address ≡ Some (with_more 1 S) → Good (activation_of linked_machine items m st)
  activation_of_ok [] w p S m st h l g e = absurd (omega (arith, l))
  activation_of_ok (x ∷ []) w p S m st h l g e = absurd (omega (arith, l))
  activation_of_ok (x ∷ y ∷ []) w p S m st h l g e =
      ok_value P sh given keep x w p S m st (λ value. with_value linked_machine y m st (λ other. activation linked_machine value other m st)) h g.0 (λ v gv.
      ok_value P sh given keep y w p S m st (λ other. activation linked_machine v other m st) h g.1.0
      (λ u gu. activation_ok P sh given keep v u w p S m st h gv gu e))
  activation_of_ok (x ∷ y ∷ z ∷ items) w p S m st h l g e = absurd (omega (arith, l))

  -- limits
  limited_ok : (v : Value) (o : Option ℤ) (w : Knowledge) (p : ℕ) (S : PlainShape) (m : LinkedStack) (st : Store WaitingChain) → Set w p S m st
      → ValueWithin w.coexps v → sh p m.address ≡ Some (with_mark Levels.Limit S) → Good (limit_results linked_machine v o m st)
  limited_ok v None w p S m st h g e = ok_errs P sh given keep 101 (Some v) w p S m st h g
  limited_ok v (Some (negsuc n)) w p S m st h g e = ok_errs P sh given keep 205 (Some v) w p S m st h g
  limited_ok v (Some (pos zero)) w p S m st h g e = ok_fails P sh given keep w p S m st h
  limited_ok v (Some (pos (suc n))) w p S m st h g e = ok_runs P sh given keep w p (with_mark Levels.Limit S) (linked_machine.limit (suc n) m) st
      (record { now = limit_ok P sh n w st.active p S m h.now; store = h.store }) e

  -- the innermost mark is suspended with its level, and the result stands on what is outside
  suspended_ok : (item : Item) (w : Knowledge) (p : ℕ) (S : PlainShape) (m : LinkedStack) (st : Store WaitingChain) → Set w p S m st → ItemWithin w.coexps item
      → is_some (slice_get S.outer 0) ≡ true → ((S' : PlainShape) → before_mark S ≡ Some S' → sh p m.address ≡ Some (with_more 1 S'))
      → Good (with_found (linked_machine.suspend_mark m) (λ m. push_item linked_machine item m st))
  suspended_ok item w p S m st h g l e = let o = outside_ok P sh w st.active p S m h.now l in
      let m' : LinkedStack = with_chain (C.suspend_in (C.suspension (C.because Cs.Alt) m.address m.chain) o.chain) m in
      ok_found P sh given keep (C.suspend_mark m) (λ m. push_item linked_machine item m st) m' o.suspend (ok_push P sh given keep item w p o.shape m' st
      (ready_at P sh given keep w p S m st o.shape m' h (suspend_alt P sh w st.active p S m h.now o)) g (e o.shape o.before))

  limited_result_ok : (item : Item) (n : ℕ) (w : Knowledge) (p : ℕ) (S : PlainShape) (m : LinkedStack) (st : Store WaitingChain) → Set w p S m st
      → ItemWithin w.coexps item
      → is_some (slice_get S.outer 0) ≡ true → ((S' : PlainShape) → before_mark S ≡ Some S' → sh p m.address ≡ Some (with_more 1 S'))
      → Good (limited_result linked_machine item n m st)
  limited_result_ok item zero w p S m st h g l e =
      ok_unmarked P sh given keep w p S m st (push_item linked_machine item) h l
      (λ c' S' st' q r. ok_push P sh given keep item w p S' (with_chain c' m) st' r g (e S' q))
  limited_result_ok item (suc n) w p S m st h g l e = suspended_ok item w p S m st h g l e

  -- scans
  scan_ok : (v : Value) (w : Knowledge) (p : ℕ) (S : PlainShape) (m : LinkedStack) (st : Store WaitingChain) → Set w p S m st
      → sh p m.address ≡ Some (with_scan S)
      → Good (scan_opened linked_machine v m st)
  scan_ok (Text text) w p S m st h e =
      let pair : Pair = record { subject = text; position = 1 } in
      let m' : LinkedStack = linked_machine.suspend (Cs.Scan (pair_now st)) m in
      ok_runs P sh given keep w p (with_scan S) m' (with_pair pair st)
      (ready_pair P sh given keep w p (with_scan S) m' st pair (record { now = suspend_scan P sh (pair_now st) w st.active p S m h.now; store = h.store })) e
  scan_ok Null w p S m st h e = ok_fails P sh given keep w p S m st h
  scan_ok (Integer x) w p S m st h e = ok_fails P sh given keep w p S m st h
  scan_ok (Chars x) w p S m st h e = ok_fails P sh given keep w p S m st h
  scan_ok (Std x) w p S m st h e = ok_fails P sh given keep w p S m st h
  scan_ok (ProcedureValue x) w p S m st h e = ok_fails P sh given keep w p S m st h
  scan_ok (ARecord x) w p S m st h e = ok_fails P sh given keep w p S m st h
  scan_ok (AList x) w p S m st h e = ok_fails P sh given keep w p S m st h
  scan_ok (ASet x) w p S m st h e = ok_fails P sh given keep w p S m st h
  scan_ok (ATable x) w p S m st h e = ok_fails P sh given keep w p S m st h
  scan_ok (ACoexp x) w p S m st h e = ok_fails P sh given keep w p S m st h

  -- results of procedures
  result_of : (item : Item) (w : Knowledge) (p : ℕ) (S : PlainShape) (m : LinkedStack) (st : Store WaitingChain) (next : Item → LinkedState P sh given keep)
      → Set w p S m st
      → ItemWithin w.coexps item → ((result : Item) → ItemWithin w.coexps result → Good (next result)) → Good (with_result linked_machine item m st next)
  result_of (Var (Whole (Local n))) w p S m st next h g f =
      ok_value P sh given keep (Var (Whole (Local n))) w p S m st (λ value. next (Val value)) h g (λ v z. f (Val v) z)
  result_of (Var (Part (Local n) a b)) w p S m st next h g f =
      ok_value P sh given keep (Var (Part (Local n) a b)) w p S m st (λ value. next (Val value)) h g (λ v z. f (Val v) z)
  result_of (Val v) w p S m st next h g f = f (Val v) g
  result_of (Var (Whole (Global n))) w p S m st next h g f = f (Var (Whole (Global n))) g
  result_of (Var (Whole (Static n))) w p S m st next h g f = f (Var (Whole (Static n))) g
  result_of (Var (Whole (Element n k))) w p S m st next h g f = f (Var (Whole (Element n k))) g
  result_of (Var (Whole (Field n k))) w p S m st next h g f = f (Var (Whole (Field n k))) g
  result_of (Var (Whole (Key n v))) w p S m st next h g f = f (Var (Whole (Key n v))) g
  result_of (Var (Whole (KeywordRoot k))) w p S m st next h g f = f (Var (Whole (KeywordRoot k))) g
  result_of (Var (Part (Global n) a b)) w p S m st next h g f = f (Var (Part (Global n) a b)) g
  result_of (Var (Part (Static n) a b)) w p S m st next h g f = f (Var (Part (Static n) a b)) g
  result_of (Var (Part (Element n k) a b)) w p S m st next h g f = f (Var (Part (Element n k) a b)) g
  result_of (Var (Part (Field n k) a b)) w p S m st next h g f = f (Var (Part (Field n k) a b)) g
  result_of (Var (Part (Key n v) a b)) w p S m st next h g f = f (Var (Part (Key n v) a b)) g
  result_of (Var (Part (KeywordRoot k) a b)) w p S m st next h g f = f (Var (Part (KeywordRoot k) a b)) g

  -- An instruction stands at a place q of the procedure, and the next one is due.
  module _ (w : Knowledge) (p : ℕ) (S : PlainShape) (m : LinkedStack) (q : ℕ) (st : Store WaitingChain) (h : Set w p S m st) (here_at : m.address ≡ suc q) where
    -- the shape at the next place
    on_next : (S' : PlainShape) → sh p (q + 1) ≡ Some S' → sh p m.address ≡ Some S'
    on_next S' e = let z : m.address ≡ q + 1 = here_at ∙ omega arith in ap (sh p) z ∙ e

    -- where nothing is taken
    pushes : sh p (q + 1) ≡ Some (with_more 1 (with_fewer 0 S)) → sh p m.address ≡ Some (with_more 1 S)
    pushes e = on_next (with_more 1 (with_fewer 0 S)) e ∙ ap (λ x. Some (with_more 1 x)) (fewer_none S)

    stays : sh p (q + 1) ≡ Some (with_more 0 (with_fewer 0 S)) → sh p m.address ≡ Some S
    stays e = on_next (with_more 0 (with_fewer 0 S)) e ∙ ap Some (more_none (with_fewer 0 S) ∙ fewer_none S)

    -- where a mark is dropped, and where besides so many results are put outside
    drops : (taken left : ℕ) → sh p (q + 1) ≡ Some (with_more left (unwrap_or (before_mark S) (with_fewer taken S))) → (S' : PlainShape)
        → before_mark S ≡ Some S' → sh p m.address ≡ Some (with_more left S')
    drops taken left e S' z =
        on_next (with_more left (unwrap_or (before_mark S) (with_fewer taken S))) e ∙ ap (λ x. Some (with_more left (unwrap_or x (with_fewer taken S)))) z

    opens : (label : Option ℕ) → LabelTo P sh p S label → sh p (q + 1) ≡ Some (with_more 0 (with_mark Levels.Plain (with_fewer 0 S)))
        → Good (running (linked_machine.mark label m) st)
    opens label to e =
        let there = on_next (with_more 0 (with_mark Levels.Plain (with_fewer 0 S))) e ∙ ap Some (more_none (with_mark Levels.Plain (with_fewer 0 S)))
        ∙ ap (λ x. Some (with_mark Levels.Plain x)) (fewer_none S) in
        let behind = ap (sh p) (sym here_at) ∙ there in
        ok_runs P sh given keep (with_flag w p S) p (with_mark Levels.Plain S) (linked_machine.mark label m) st
        (record { now = mark_ok P sh label w st.active p S m q h.now here_at to behind; store = flag_store w p S st h.store }) there

    goes : (label : ℕ) → sh p label ≡ Some (with_more 0 (with_fewer 0 S)) → Good (running (linked_machine.go label m) st)
    goes label e =
        ok_runs P sh given keep w p S (linked_machine.go label m) st (record { now = record { has = h.now.has; memory = h.now.memory }; store = h.store }) (e
        ∙ ap Some (more_none (with_fewer 0 S) ∙ fewer_none S))

    initial_ok : (b : Bool) (label : ℕ) → sh p label ≡ Some (with_more 0 (with_fewer 0 S)) → sh p (q + 1) ≡ Some (with_more 0 (with_fewer 0 S))
        → Good (initial_if linked_machine b label m st)
    initial_ok true label to on = goes label to
    initial_ok false label to on = ok_runs P sh given keep w p S m (record st { begun = slice_set st.begun (linked_machine.proc m) true })
        (record { now = h.now; store = record { world = h.store.world; coexps = h.store.coexps } }) (stays on)

    in_create_body : is_create_body linked_machine m st ≡ S.in_create
    in_create_body = here_create P sh w st.active p S m h.now

    pub instruction_ok : (instr : Instr) → fits S instr ≡ true → IfSome (next instr q S) (λ to. sh p to.0 ≡ Some to.1)
        → IfSome (forward instr S) (λ to. (q < to.0) × (sh p to.0 ≡ Some to.1)) → IfSome (back instr S) (λ to. (to.0 ≤ q) × (sh p to.0 ≡ Some to.1))
        → InRange P instr → Good (instruction linked_machine P instr m st)
    instruction_ok Instrs.Pnull fit on onward backward range = ok_push P sh given keep (Val Null) w p S m st h tt (pushes on)
    instruction_ok (Instrs.Int k) fit on onward backward range = let o = entry_there P.integers k range in
        ok_found P sh given keep (slice_get P.integers k) (λ n. push_item linked_machine (Val (Integer n)) m st) o.0 o.1
        (ok_push P sh given keep (Val (Integer o.0)) w p S m st h tt (pushes on))
    instruction_ok (Instrs.Str k) fit on onward backward range = let o = entry_there P.strings k range in
        ok_found P sh given keep (slice_get P.strings k) (λ bytes. push_item linked_machine (Val (Text bytes)) m st) o.0 o.1
        (ok_push P sh given keep (Val (Text o.0)) w p S m st h tt (pushes on))
    instruction_ok (Instrs.Cset k) fit on onward backward range = let o = entry_there P.csets k range in
        ok_found P sh given keep (slice_get P.csets k) (λ set. push_item linked_machine (Val (Chars (members_of set))) m st) o.0 o.1
        (ok_push P sh given keep (Val (Chars (members_of o.0))) w p S m st h tt (pushes on))
    instruction_ok (Instrs.Local k) fit on onward backward range = ok_push P sh given keep (Var (Whole (Local k))) w p S m st h tt (pushes on)
    instruction_ok (Instrs.Static k) fit on onward backward range =
        ok_push P sh given keep (Var (Whole (Static (statics_before P (linked_machine.proc m) + k)))) w p S m st h tt (pushes on)
    instruction_ok (Instrs.Global k) fit on onward backward range = ok_push P sh given keep (Var (Whole (Global k))) w p S m st h tt (pushes on)
    instruction_ok (Instrs.Keywd k) fit on onward backward range = keyword_ok k w p S m st h (pushes on)
    instruction_ok Instrs.Pop fit on onward backward range = let l = (enough S.inner.operands 1 true fit).0 in
        ok_popped P sh given keep w p S m st (λ item m. running m st) h l (λ item c' g r. ok_runs P sh given keep w p (with_fewer 1 S) (with_chain c' m) st r
        (on_next (with_more 0 (with_fewer 1 S)) on ∙ ap Some (more_none (with_fewer 1 S))))
    instruction_ok Instrs.Dup fit on onward backward range = let l = (enough S.inner.operands 1 true fit).0 in
        let z : S.inner.operands - 1 + 2 ≡ S.inner.operands + 1 = omega (arith, l) in
        ok_popped P sh given keep w p S m st (λ item below. push_item linked_machine item m st) h l (λ item c' g r. ok_push P sh given keep item w p S m st h g
        (on_next (with_more 2 (with_fewer 1 S)) on ∙ ap (λ n. Some (record S { inner = record S.inner { operands = n } })) z))
    instruction_ok (Instrs.Op op) fit on onward backward range =
        ok_taken P sh given keep (arity op) w p S m st (λ items m. turn P st (operate linked_machine op items m)) h
        (enough S.inner.operands (arity op) true fit).0
        (λ items c' l g r.
        ok_turn P sh given keep w p (with_fewer (arity op) S) (with_chain c' m) st (operate linked_machine op items (with_chain c' m)) r (λ st' r'.
        operated_ok op items w p (with_fewer (arity op) S) (with_chain c' m) st' r' g (on_next (with_more 1 (with_fewer (arity op) S)) on)))
    instruction_ok (Instrs.Llist n) fit on onward backward range =
        ok_taken P sh given keep n w p S m st
        (λ items m. turn P st (λ st.
        with_values linked_machine items m st (λ values. list_made linked_machine values m st (λ list m st. push_item linked_machine (Val list) m st)))) h
        (enough S.inner.operands n true fit).0 (λ items c' l g r.
        ok_turn P sh given keep w p (with_fewer n S) (with_chain c' m) st
        (λ st. with_values linked_machine items (with_chain c' m) st
        (λ values. list_made linked_machine values (with_chain c' m) st (λ list m st. push_item linked_machine (Val list) m st))) r
        (λ st' r'.
        ok_values P sh given keep items w p (with_fewer n S) (with_chain c' m) st'
        (λ values. list_made linked_machine values (with_chain c' m) st' (λ list m st. push_item linked_machine (Val list) m st)) r' g (λ vs gv.
        ok_list P sh given keep vs w p (with_fewer n S) (with_chain c' m) st' (λ list m st. push_item linked_machine (Val list) m st) r' gv (λ v a st'' z r'' e.
        ok_push P sh given keep (Val v) w p (with_fewer n S) a st'' r'' z (ap (sh p) e ∙ on_next (with_more 1 (with_fewer n S)) on)))))
    instruction_ok (Instrs.Field k) fit on onward backward range =
        ok_taken P sh given keep 1 w p S m st (λ items m. turn P st (field_applied linked_machine P k items m)) h (enough S.inner.operands 1 true fit).0
        (λ items c' l g r.
        ok_turn P sh given keep w p (with_fewer 1 S) (with_chain c' m) st (field_applied linked_machine P k items (with_chain c' m)) r (λ st' r'.
        field_applied_ok k items w p (with_fewer 1 S) (with_chain c' m) st' r' l g (on_next (with_more 1 (with_fewer 1 S)) on)))
    instruction_ok (Instrs.Invoke n) fit on onward backward range = let l = (enough S.inner.operands (n + 1) true fit).0 in
        let z : n + 1 ≡ suc n = omega arith in
        ok_taken P sh given keep (suc n) w p S m st (λ items m. turn P st (invoked_with linked_machine P items m)) h (omega (arith, l)) (λ items c' k g r.
        ok_turn P sh given keep w p (with_fewer (suc n) S) (with_chain c' m) st (invoked_with linked_machine P items (with_chain c' m)) r (λ st' r'.
        ok_invoked_with P sh given keep items n w p (with_fewer (suc n) S) (with_chain c' m) st' r' k g
        (on_next (with_more 1 (with_fewer (n + 1) S)) on ∙ ap (λ x. Some (with_more 1 (with_fewer x S))) z)))
    instruction_ok Instrs.Appl fit on onward backward range =
        ok_taken P sh given keep 2 w p S m st (λ items m. turn P st (applied_to_elements linked_machine P items m)) h (enough S.inner.operands 2 true fit).0
        (λ items c' l g r.
        ok_turn P sh given keep w p (with_fewer 2 S) (with_chain c' m) st (applied_to_elements linked_machine P items (with_chain c' m)) r (λ st' r'.
        ok_applied P sh given keep items w p (with_fewer 2 S) (with_chain c' m) st' r' l g (on_next (with_more 1 (with_fewer 2 S)) on)))
    instruction_ok (Instrs.Mark l) fit on onward backward range = opens (Some l) onward.1 on
    instruction_ok Instrs.Mark0 fit on onward backward range = opens None tt on
    instruction_ok Instrs.Unmark fit on onward backward range =
        ok_unmarked P sh given keep w p S m st running h (enough S.inner.operands 0 (is_some (slice_get S.outer 0)) fit).1
        (λ c' S' st' e r. ok_runs P sh given keep w p S' (with_chain c' m) st' r (drops 0 0 on S' e ∙ ap Some (more_none S')))
    instruction_ok Instrs.Eret fit on onward backward range =
        let f = enough S.inner.operands 1 (is_some (slice_get S.outer 0) && is_ended S.inner) fit in
        let d = both (is_some (slice_get S.outer 0)) (is_ended S.inner) f.1 in
        ok_popped P sh given keep w p S m st
        (λ item m. with_value linked_machine item m st (λ value. unmark_then linked_machine m st (push_item linked_machine (Val value)))) h f.0 (λ item c' g r.
        ok_value P sh given keep item w p (with_fewer 1 S) (with_chain c' m) st
        (λ value. unmark_then linked_machine (with_chain c' m) st (push_item linked_machine (Val value))) r g
        (λ v gv.
        ok_unmarked P sh given keep w p (with_fewer 1 S) (with_chain c' m) st (push_item linked_machine (Val v)) r d.0
        (λ c'' S' st' e r'. ok_push P sh given keep (Val v) w p S' (with_chain c'' (with_chain c' m)) st' r' gv (drops 1 1 on S' e))))
    instruction_ok Instrs.Esusp fit on onward backward range =
        let f = enough S.inner.operands 1 (is_some (slice_get S.outer 0) && same_kind S.inner.kind Levels.Plain && is_ended S.inner) fit in
        let k = both (is_some (slice_get S.outer 0) && same_kind S.inner.kind Levels.Plain) (is_ended S.inner) f.1 in
        let d = both (is_some (slice_get S.outer 0)) (same_kind S.inner.kind Levels.Plain) k.0 in
        ok_popped P sh given keep w p S m st (λ item m. with_found (linked_machine.suspend_mark m) (λ m. push_item linked_machine item m st)) h f.0
        (λ item c' g r. suspended_ok item w p (with_fewer 1 S) (with_chain c' m) st r g d.0 (drops 1 1 on))
    instruction_ok Instrs.Limit fit on onward backward range = let l = (enough S.inner.operands 1 true fit).0 in
        ok_popped P sh given keep w p S m st
        (λ item m. with_value linked_machine item m st (λ value. limit_results linked_machine value (integer_of value) m st)) h l (λ item c' g r.
        ok_value P sh given keep item w p (with_fewer 1 S) (with_chain c' m) st
        (λ value. limit_results linked_machine value (integer_of value) (with_chain c' m) st) r g
        (λ v gv.
        limited_ok v (integer_of v) w p (with_fewer 1 S) (with_chain c' m) st r gv
        (on_next (with_more 0 (with_mark Levels.Limit (with_fewer 1 S))) on ∙ ap Some (more_none (with_mark Levels.Limit (with_fewer 1 S))))))
    instruction_ok Instrs.Lsusp fit on onward backward range =
        let f = enough S.inner.operands 1 (is_some (slice_get S.outer 0) && same_kind S.inner.kind Levels.Limit && is_ended S.inner) fit in
        let k = both (is_some (slice_get S.outer 0) && same_kind S.inner.kind Levels.Limit) (is_ended S.inner) f.1 in
        let d = both (is_some (slice_get S.outer 0)) (same_kind S.inner.kind Levels.Limit) k.0 in
        ok_popped P sh given keep w p S m st
        (λ item m. with_found (linked_machine.count_down m) (on_pair (λ count m. limited_result linked_machine item count m st))) h f.0
        (λ item c' g r.
        let o = count_ok P sh w st.active p (with_fewer 1 S) (with_chain c' m) r.now d.0 d.1 in
        ok_found P sh given keep (C.count_down (with_chain c' m)) (on_pair (λ count m. limited_result linked_machine item count m st)) o.0 o.1
        (limited_result_ok item o.0.0 w p (with_fewer 1 S) o.0.1 st (record { now = o.2.now; store = r.store }) g d.0
        (λ S' e. ap (sh p) o.2.address ∙ drops 1 1 on S' e)))
    instruction_ok Instrs.Efail fit on onward backward range = ok_fails P sh given keep w p S m st h
    instruction_ok (Instrs.Chfail l) fit on onward backward range =
        let f = (enough S.inner.operands 0 (is_some (slice_get S.outer 0) && same_kind S.inner.kind Levels.Plain) fit).1 in
        let d = both (is_some (slice_get S.outer 0)) (same_kind S.inner.kind Levels.Plain) f in
        let to : (S' : PlainShape) → before_mark S ≡ Some S'
        → sh p l ≡ Some S' = λ S' e. (subst (λ x. IfSome (with_label l x) (λ to. (to.0 ≤ q) × (sh p to.0 ≡ Some to.1))) e backward).1 in
        let o = relabel_ok P sh l w st.active p S m h.now d.0 d.1 to in
        ok_found P sh given keep (C.relabel l m) (λ m. running m st) o.0 o.1
        (ok_runs P sh given keep w p S o.0 st (record { now = o.2.now; store = h.store }) (ap (sh p) o.2.address ∙ stays on))
    instruction_ok (Instrs.Goto l) fit on onward backward range = goes l onward.1
    instruction_ok (Instrs.Loop l) fit on onward backward range =
        ok_turn P sh given keep w p S (linked_machine.go l m) st (running (linked_machine.go l m))
        (record { now = record { has = h.now.has; memory = h.now.memory }; store = h.store })
        (λ st' r. ok_runs P sh given keep w p S (linked_machine.go l m) st' r backward.1)
    instruction_ok Instrs.Bscan fit on onward backward range = let l = (enough S.inner.operands 1 true fit).0 in
        ok_popped P sh given keep w p S m st (λ item m. with_value linked_machine item m st
        (λ value. with_made linked_machine (text_row value (here linked_machine m st)) m st (scan_opened linked_machine))) h l
        (λ item c' g r.
        ok_value P sh given keep item w p (with_fewer 1 S) (with_chain c' m) st
        (λ value. with_made linked_machine (text_row value (here linked_machine (with_chain c' m) st)) (with_chain c' m) st (scan_opened linked_machine)) r g
        (λ v gv.
        ok_made P sh given keep (text_row v (here linked_machine (with_chain c' m) st)) w p (with_fewer 1 S) (with_chain c' m) st (scan_opened linked_machine) r
        (keep.scanned w.coexps v (here linked_machine (with_chain c' m) st) (here_within P sh given keep w p (with_fewer 1 S) (with_chain c' m) st r) gv)
        (rows_keep.scanned v (here linked_machine (with_chain c' m) st)) (λ v' a st' gv' r' e.
        scan_ok v' w p (with_fewer 1 S) a st' r'
        (ap (sh p) e ∙ on_next (with_more 0 (with_scan (with_fewer 1 S))) on ∙ ap Some (more_none (with_scan (with_fewer 1 S)))))))
    instruction_ok Instrs.Escan fit on onward backward range =
        let f = enough S.inner.operands 1 (nat_lt 0 S.inner.scans) fit in
        let some = ltb-true 0 S.inner.scans f.1 in
        ok_popped P sh given keep w p S m st
        (λ item m. with_exchange (C.swap_newest (pair_now st) m) (λ m. push_item linked_machine item (linked_machine.suspend Cs.Escan m)) st) h f.0
        (λ item c' g r.
        ok_exchanged P sh given keep w p (with_fewer 1 S) (with_chain c' m) st (λ m. push_item linked_machine item (linked_machine.suspend Cs.Escan m)) r some
        (λ m' st' r' e.
        ok_push P sh given keep item w p (without_scan (with_fewer 1 S))
        (linked_machine.suspend Cs.Escan m') st' (record { now = suspend_escan P sh w st'.active p (with_fewer 1 S) m' r'.now some; store = r'.store }) g
        (ap (sh p) e ∙ on_next (with_more 1 (without_scan (with_fewer 1 S))) on)))
    instruction_ok Instrs.Ccase fit on onward backward range =
        let o = below_ok P sh w st.active p S m h.now (enough S.inner.operands 0 (option_map_or has_operand (slice_get S.outer 0) false) fit).1 in
        ok_found P sh given keep (C.below m) (λ item. push_item linked_machine item m st) o.0 o.1 (ok_push P sh given keep o.0 w p S m st h o.2 (pushes on))
    instruction_ok (Instrs.Init l) fit on onward backward range = initial_ok (slice_index_or st.begun (linked_machine.proc m) true) l onward.1 on
    instruction_ok Instrs.Psusp fit on onward backward range =
        let f = enough S.inner.operands 1 (not S.in_create) fit in
        let back_here = on_next (with_more 1 (with_fewer 1 S)) on ∙ ap Some (more_of_fewer 1 S f.0) in
        ok_popped P sh given keep w p S m st (λ item below. with_result linked_machine item m st
        (λ result. maybe_exchanged (C.swap_oldest (pair_now st) m) m st (λ m. return_to (C.suspend_proc m) (push_item linked_machine result)))) h f.0
        (λ item c' g r.
        result_of item w p S m st
        (λ result. maybe_exchanged (C.swap_oldest (pair_now st) m) m st (λ m. return_to (C.suspend_proc m) (push_item linked_machine result))) h g
        (λ result gr.
        ok_maybe P sh given keep (C.swap_oldest (pair_now st) m) w p S m st (λ m. return_to (C.suspend_proc m) (push_item linked_machine result)) h
        (swap_oldest_ok P sh (pair_now st) w st.active p S m h.now) (λ m' st' r' e.
        ok_returned P sh given keep (C.suspend_proc m') w S.in_create st' (push_item linked_machine result) r'.store
        (suspend_proc_ok P sh w st'.active p S m' r'.now (ap (sh p) e ∙ back_here)) (is_false S.in_create f.1) (λ m'' p' S' r'' e'.
        ok_push P sh given keep result w p' S' m'' st' r'' gr e'))))
    instruction_ok Instrs.Pret fit on onward backward range =
        let f = enough S.inner.operands 1 (not S.in_create) fit in
        ok_popped P sh given keep w p S m st (λ item m.
        with_result linked_machine item m st (λ result. return_to (C.leave m) (push_item linked_machine result) (all_left linked_machine m st))) h f.0
        (λ item c' g r.
        result_of item w p (with_fewer 1 S) (with_chain c' m) st
        (λ result. return_to (C.leave (with_chain c' m)) (push_item linked_machine result) (all_left linked_machine (with_chain c' m) st)) r g (λ result gr.
        ok_all P sh given keep w p (with_fewer 1 S) (with_chain c' m) st (λ st. return_to (C.leave (with_chain c' m)) (push_item linked_machine result) st) r
        (λ st' r'.
        ok_returned P sh given keep (C.leave (with_chain c' m)) w S.in_create st' (push_item linked_machine result) r'.store
        (leave_ok P sh w st'.active p (with_fewer 1 S) (with_chain c' m) r'.now) (is_false S.in_create f.1) (λ m'' p' S' r'' e'.
        ok_push P sh given keep result w p' S' m'' st' r'' gr e'))))
    instruction_ok Instrs.Pfail fit on onward backward range = let d = is_false S.in_create (enough S.inner.operands 0 (not S.in_create) fit).1 in
        ok_if P sh given keep (is_create_body linked_machine m st) _ _ (λ z. false_is_not_true (sym (in_create_body ∙ d) ∙ z))
        (λ z. proc_fails_ok P sh given keep w p S m st h d)
    instruction_ok (Instrs.Create l) fit on onward backward range =
        let proc = here_proc P sh w st.active p S m h.now in
        let origin : sh (linked_machine.proc m) m.address ≡ Some (start_shape true) = ap (λ x. sh x m.address) proc ∙ on_next (start_shape true) on in
        let here : Set w p S (linked_machine.go l m) st = record { now = record { has = h.now.has; memory = h.now.memory }; store = h.store } in
        ok_turn P sh given keep w p S (linked_machine.go l m) st
        (coexp_made linked_machine (linked_machine.locals m) (linked_machine.proc m) (linked_machine.address m) (linked_machine.go l m)) here (λ st' r.
        coexp_made_ok P sh given keep (linked_machine.locals m) (linked_machine.proc m) (linked_machine.address m) w p S (linked_machine.go l m) st' r
        (subst (λ x. LocalsOk P sh w x (linked_machine.locals m)) (sym proc)
        (locals_ok P sh w st.active p S m h.now)) origin (onward.1 ∙ ap (λ x. Some (with_more 1 x)) (fewer_none S)))
    instruction_ok Instrs.Coact fit on onward backward range =
        ok_taken P sh given keep 2 w p S m st (λ items m. turn P st (activation_of linked_machine items m)) h (enough S.inner.operands 2 true fit).0
        (λ items c' l g r.
        ok_turn P sh given keep w p (with_fewer 2 S) (with_chain c' m) st (activation_of linked_machine items (with_chain c' m)) r (λ st' r'.
        activation_of_ok items w p (with_fewer 2 S) (with_chain c' m) st' r' l g (on_next (with_more 1 (with_fewer 2 S)) on)))
    instruction_ok Instrs.Coret fit on onward backward range =
        let f = enough S.inner.operands 1 S.in_create fit in
        ok_if P sh given keep (is_create_body linked_machine m st) _ _ (λ z.
        ok_popped P sh given keep w p S m st
        (λ item m. turn P st (λ st. with_value linked_machine item m st (λ value. result_given linked_machine value m st))) h f.0 (λ item c' g r.
        ok_turn P sh given keep w p (with_fewer 1 S) (with_chain c' m) st
        (λ st. with_value linked_machine item (with_chain c' m) st (λ value. result_given linked_machine value (with_chain c' m) st)) r (λ st' r'.
        ok_value P sh given keep item w p (with_fewer 1 S) (with_chain c' m) st' (λ value. result_given linked_machine value (with_chain c' m) st') r' g
        (λ v gv. result_ok P sh given keep v w p (with_fewer 1 S) (with_chain c' m) st' r' gv (on_next (with_more 1 (with_fewer 1 S)) on)))))
        (λ z. false_is_not_true (sym z ∙ in_create_body ∙ f.1))
    instruction_ok Instrs.Cofail fit on onward backward range = let d = (enough S.inner.operands 0 S.in_create fit).1 in
        ok_if P sh given keep (is_create_body linked_machine m st) _ _ (λ z. exhausted_ok P sh given keep w p S m st h)
        (λ z. false_is_not_true (sym z ∙ in_create_body ∙ d))
