-- An instruction that is no transfer leaves the other co-expressions as they were.
use Rattle.std.proofs.Common.{◌≡◌, ℕ, zero, suc, inl, inr, List, [], ◌∷◌, ◌++◌, length, map, Option, Some, None, refl, sym, ap, ◌∙◌, Bool, true, false, if◌then◌else◌}
use Rattle.std.specs.Prelude.{◌-◌, ℤ, pos, negsuc, nat_lt, nat_le, slice_get, slice_index_or, drop}
use Rattle.icn_text.specs.declared.op.Op.{Op}
use Rattle.icn_text.specs.declared.op.Op.TheVariants as Ops
use Rattle.icn_defs.specs.Arities.{arity}
use Rattle.icn_value.specs.Values.{Std, ASet, ATable, Global, Static}
use Rattle.icn_code.specs.declared.instr.Instr.{Instr}
use Rattle.icn_code.specs.declared.instr.Instr.TheVariants as I
use Rattle.icn_code.specs.Codes.{Proc as Procedure}
use Rattle.icn_run.specs.Rows.{Value, Null, Integer, Text, Chars, Procedure as ProcedureValue, ARecord, AList, ACoexp, Local, Field, Whole, Part, Item, Val, Var, Outcome, Fails, Gives, Suspends, Error, Ends, Operation, Function, apply, again, value_row, list_row, record_row, text_row, coexpression_row, integer_of, number_of, keyword_item, list_at, record_at}
use Rattle.icn_run.specs.Calls.{Pair, Why, Alt, Op as Operating, Scan, Escan, Proc, MarkDrop, NoMark, Goes, Repeats, Outside as WithoutLabel, Calls}
use Rattle.icn_defs.specs.NamedValues.{named_by}
use Rattle.icn_run.specs.Step.{Program, Fresh, Coexp, Store, State, running, failing, with_found, on_pair, errs, turn_if, turn, here, with_at, with_given, with_made, with_value, with_values, push_item, outcome, list_made, pair_now, with_pair, scans_left, with_exchange, maybe_exchanged, swapped_back, all_left, is_main, is_create_body, with_new, coexp_made, refreshed_from, refresh, fill_nulls, enter_procedure, collect_rest, called_if, call_procedure, construct_record, pushed_or_fails, integer_called, named_called, choose_item, Callee, IsProc, IsRecord, IsFunc, IsNothing, callee_of, callee_called, invoke_value, invoked_with, plain, elements_called, applied_to_elements, field_index, field_taken, field_of, field_applied, with_result, return_to, proc_fails, without_mark, mark_dropped, resume_by, resumed_or_dropped, standing_of, unmark_then, limit_results, limited_result, scan_opened, initial_if, operate, instruction}
use Rattle.icn_run.proofs.Errors.{at_error}
use Rattle.law_stacks.specs.OthersStay.{is_transfer, IsNew, IsMadeAgain, Adds, AddsNone, Stay, StayIn, is_no_mark, OthersStay}

module _ {K M : Type 0} (C : Calls K M) (P : Program) (IsAdded : Coexp K → Type 0) (before : Store K) where
  abbrev Q : State K M → Type 0
  Q state = StayIn IsAdded before state

  -- nothing was made yet
  record Same (st : Store K) : Type 0 where
    active : st.active ≡ before.active
    coexps : st.coexps ≡ before.coexps

  stay : (st : Store K) → Same st → Stay IsAdded before st
  stay st h = record { active = h.active; coexps = inl h.coexps }

  q_if : (b : Bool) (x y : State K M) → Q x → Q y → Q (if b then x else y)
  q_if true x y f g = f
  q_if false x y f g = g

  q_found : {A : Type 0} (o : Option A) (next : A → State K M) → ((x : A) → Q (next x)) → Q (with_found o next)
  q_found None next f = tt
  q_found (Some x) next f = f x

  q_errs : (n : ℕ) (v : Option Value) (m : M) (st : Store K) → Same st → Q (errs n v m st)
  q_errs n v m st h = at_error Q n v m st tt (record { active = h.active; coexps = inl h.coexps })

  q_valued : (o : Outcome) (m : M) (st : Store K) (next : Value → State K M) → Same st → ((v : Value) → Q (next v)) → Q (with_given o m st next)
  q_valued (Gives (Val v) seen) m st next h f = f v
  q_valued (Gives (Var v) seen) m st next h f = stay st h
  q_valued (Error k v seen) m st next h f = q_errs k v m st h
  q_valued (Fails seen) m st next h f = stay st h
  q_valued (Suspends item r seen) m st next h f = stay st h
  q_valued (Ends k seen) m st next h f = stay st h

  q_made : (o : Outcome) (m : M) (st : Store K) (next : Value → M → Store K → State K M) → Same st
      → ((v : Value) (a : M) (st' : Store K) → Same st' → Q (next v a st')) → Q (with_made C o m st next)
  q_made (Gives (Val v) seen) m st next h f = f v (C.set_locals seen.locals m) (with_at seen st) (record { active = h.active; coexps = h.coexps })
  q_made (Gives (Var v) seen) m st next h f = stay st h
  q_made (Error k v seen) m st next h f = q_errs k v (C.set_locals seen.locals m) (with_at seen st) (record { active = h.active; coexps = h.coexps })
  q_made (Fails seen) m st next h f = stay st h
  q_made (Suspends item r seen) m st next h f = stay st h
  q_made (Ends k seen) m st next h f = stay st h

  q_value : (item : Item) (m : M) (st : Store K) (next : Value → State K M) → Same st → ((v : Value) → Q (next v)) → Q (with_value C item m st next)
  q_value item m st next h f = q_valued (value_row item (here C m st)) m st next h f

  q_values : (items : List Item) (m : M) (st : Store K) (next : List Value → State K M) → Same st → ((vs : List Value) → Q (next vs))
      → Q (with_values C items m st next)
  q_values [] m st next h f = f []
  q_values (item ∷ items) m st next h f = q_value item m st (λ value. with_values C items m st (λ values. next (value ∷ values))) h
      (λ v. q_values items m st (λ values. next (v ∷ values)) h (λ vs. f (v ∷ vs)))

  q_outcome : (o : Outcome) (m : M) (st : Store K) → Same st → Q (outcome C o m st)
  q_outcome (Fails seen) m st h = record { active = h.active; coexps = inl h.coexps }
  q_outcome (Gives item seen) m st h = record { active = h.active; coexps = inl h.coexps }
  q_outcome (Suspends item r seen) m st h = record { active = h.active; coexps = inl h.coexps }
  q_outcome (Error k v seen) m st h = q_errs k v (C.set_locals seen.locals m) (with_at seen st) (record { active = h.active; coexps = h.coexps })
  q_outcome (Ends k seen) m st h = tt

  turn_by : (b : Bool) (st : Store K) (event : Store K → State K M) → Q (event (record st { turns = suc st.turns })) → Q (turn_if b st event)
  turn_by true st event h = h
  turn_by false st event h = tt

  q_turn : (st : Store K) (event : Store K → State K M) → Same st → ((st' : Store K) → Same st' → Q (event st')) → Q (turn P st event)
  q_turn st event h f =
      turn_by (nat_lt st.turns st.world.heap.bounds.turns) st event (f (record st { turns = suc st.turns }) (record { active = h.active; coexps = h.coexps }))

  q_list : (values : List Value) (m : M) (st : Store K) (next : Value → M → Store K → State K M) → Same st
      → ((v : Value) (a : M) (st' : Store K) → Same st' → Q (next v a st')) → Q (list_made C values m st next)
  q_list values m st next h f = q_made (list_row values (here C m st)) m st next h f

  -- calls

  q_collected : (b : Bool) (k : ℕ) (vs : List Value) (m : M) (st : Store K) (next : List Value → M → Store K → State K M) → Same st
      → ((ps : List Value) (a : M) (st' : Store K) → Same st' → Q (next ps a st')) → Q (collect_rest C b k vs m st next)
  q_collected false k vs m st next h f = f (fill_nulls k vs) m st h
  q_collected true k vs m st next h f = q_list (drop (k - 1) vs) m st (λ rest m st. next (fill_nulls (k - 1) vs ++ rest ∷ []) m st) h
      (λ rest a st' h'. f (fill_nulls (k - 1) vs ++ rest ∷ []) a st' h')

  q_called : (b : Bool) (n : ℕ) (entry : Procedure) (vs : List Value) (m : M) (st : Store K) → Same st → Q (called_if C b n entry vs m st)
  q_called true n entry vs m st h =
      q_collected entry.collects entry.parameters vs m st (λ parameters m st. enter_procedure C n entry parameters m st) h (λ ps a st' h'. stay st' h')
  q_called false n entry vs m st h = q_errs 301 None m st h

  q_callee : (c : Callee) (n : ℕ) (items : List Item) (m : M) (st : Store K) → Same st → Q (callee_called C c n items m st)
  q_callee (IsProc entry) n items m st h = q_values items m st (λ arguments. call_procedure C n entry arguments m st) h
      (λ vs. q_called (nat_le (suc (C.level m)) st.world.heap.bounds.levels) n entry vs m st h)
  q_callee (IsRecord kind entry) n items m st h = q_values items m st (λ arguments. construct_record C kind entry arguments m st) h (λ vs. q_made
      (record_row kind (fill_nulls (length entry.fields) vs) (here C m st)) m st (λ value m st. push_item C (Val value) m st) h (λ v a st' h'. stay st' h'))
  q_callee (IsFunc func) n items m st h = q_outcome (apply st.names (Function func) items (here C m st)) m st h
  q_callee IsNothing n items m st h = q_errs 106 (Some (ProcedureValue n)) m st h

  q_one : (o : Option Item) (m : M) (st : Store K) → Same st → Q (pushed_or_fails C o m st)
  q_one (Some item) m st h = stay st h
  q_one None m st h = stay st h

  q_named : (callee : Value) (o : Option ℕ) (items : List Item) (m : M) (st : Store K) → Same st → Q (named_called C P callee o items m st)
  q_named callee (Some n) items m st h = q_callee (callee_of P n) n items m st h
  q_named callee None items m st h = q_errs 106 (Some callee) m st h

  q_integer : (callee : Value) (o : Option ℤ) (items : List Item) (m : M) (st : Store K) → Same st → Q (integer_called C P callee o items m st)
  q_integer callee (Some k) items m st h = q_one (choose_item k items) m st h
  q_integer callee None items m st h = q_named callee (named_by st.names callee) items m st h

  q_invoked : (callee : Value) (items : List Item) (m : M) (st : Store K) → Same st → Q (invoke_value C P callee items m st)
  q_invoked (ProcedureValue n) items m st h = q_callee (callee_of P n) n items m st h
  q_invoked Null items m st h = q_integer Null (number_of Null) items m st h
  q_invoked (Integer x) items m st h = q_integer (Integer x) (number_of (Integer x)) items m st h
  q_invoked (Text x) items m st h = q_integer (Text x) (number_of (Text x)) items m st h
  q_invoked (Chars x) items m st h = q_errs 106 (Some (Chars x)) m st h
  q_invoked (Std x) items m st h = q_errs 106 (Some (Std x)) m st h
  q_invoked (ARecord x) items m st h = q_errs 106 (Some (ARecord x)) m st h
  q_invoked (AList x) items m st h = q_errs 106 (Some (AList x)) m st h
  q_invoked (ASet x) items m st h = q_errs 106 (Some (ASet x)) m st h
  q_invoked (ATable x) items m st h = q_errs 106 (Some (ATable x)) m st h
  q_invoked (ACoexp x) items m st h = q_errs 106 (Some (ACoexp x)) m st h

  q_invoked_with : (items : List Item) (m : M) (st : Store K) → Same st → Q (invoked_with C P items m st)
  q_invoked_with [] m st h = tt
  q_invoked_with (callee ∷ items) m st h = q_value callee m st (λ value. invoke_value C P value items m st) h (λ v. q_invoked v items m st h)

  q_elements : (callee from : Value) (m : M) (st : Store K) → Same st → Q (elements_called C P callee from m st)
  q_elements callee (AList n) m st h = q_invoked callee (map plain (list_at st.world.heap n).items) m st h
  q_elements callee (ARecord n) m st h = q_invoked callee (map plain (record_at st.world.heap n).fields) m st h
  q_elements callee from m st h = q_errs 126 (Some from) m st h

  q_applied : (items : List Item) (m : M) (st : Store K) → Same st → Q (applied_to_elements C P items m st)
  q_applied [] m st h = tt
  q_applied (x ∷ []) m st h = tt
  q_applied (callee ∷ from ∷ []) m st h = q_value callee m st (λ callee. with_value C from m st (λ from. elements_called C P callee from m st)) h
      (λ v. q_value from m st (λ from. elements_called C P v from m st) h (λ u. q_elements v u m st h))
  q_applied (x ∷ y ∷ z ∷ items) m st h = tt

  q_taken_field : (o : Option ℕ) (n : ℕ) (m : M) (st : Store K) → Same st → Q (field_taken C o n m st)
  q_taken_field (Some place) n m st h = stay st h
  q_taken_field None n m st h = q_errs 207 (Some (ARecord n)) m st h

  q_field : (k : ℕ) (v : Value) (m : M) (st : Store K) → Same st → Q (field_of C P k v m st)
  q_field k (ARecord n) m st h = q_taken_field (field_index P k (record_at st.world.heap n).kind) n m st h
  q_field k v m st h = q_errs 107 (Some v) m st h

  q_field_applied : (k : ℕ) (items : List Item) (m : M) (st : Store K) → Same st → Q (field_applied C P k items m st)
  q_field_applied k [] m st h = tt
  q_field_applied k (item ∷ items) m st h = q_value item m st (λ value. field_of C P k value m st) h (λ v. q_field k v m st h)

  -- one that is made is added
  q_new : (values : List Value) (proc place : ℕ) (m : M) (st : Store K) → Same st → ((new : Coexp K) → IsNew values proc place new → IsAdded new)
      → Q (coexp_made C values proc place m st)
  q_new values proc place m st h added =
      q_made (coexpression_row (length values) (here C m st)) m st (λ value m st. push_item C (Val value) m (with_new values proc place st)) h (λ v a st' h'.
      let new : Coexp K = record { status = Fresh; activator = zero; values = values; proc = proc; address = place } in
      record { active = h'.active; coexps = inr (new, added new refl, ap (λ x. x ++ new ∷ []) h'.coexps) })

  -- one that is made again from one that is there
  abbrev AddsAgain : Type 0
  AddsAgain = (new : Coexp K) → IsMadeAgain before.coexps new → IsAdded new

  q_refreshed_from : (n : ℕ) (o : Option (Coexp K)) (m : M) (st : Store K) → slice_get st.coexps n ≡ o → Same st → AddsAgain
      → Q (refreshed_from C o m st)
  q_refreshed_from n (Some c) m st e h added = q_new c.values c.proc c.address m st h (λ new is. added new (record {
    number = n;
    old = c;
    there = ap (λ (l : List (Coexp K)). slice_get l n) (sym h.coexps) ∙ e;
    again = is;
  }))
  q_refreshed_from n None m st e h added = tt

  q_refreshed : (v : Value) (m : M) (st : Store K) → Same st → AddsAgain → Q (refresh C v m st)
  q_refreshed (ACoexp zero) m st h added = q_errs 215 (Some (ACoexp zero)) m st h
  q_refreshed (ACoexp (suc n)) m st h added = q_refreshed_from (suc n) (slice_get st.coexps (suc n)) m st refl h added
  q_refreshed Null m st h added = q_errs 118 (Some Null) m st h
  q_refreshed (Integer x) m st h added = q_errs 118 (Some (Integer x)) m st h
  q_refreshed (Text x) m st h added = q_errs 118 (Some (Text x)) m st h
  q_refreshed (Chars x) m st h added = q_errs 118 (Some (Chars x)) m st h
  q_refreshed (Std x) m st h added = q_errs 118 (Some (Std x)) m st h
  q_refreshed (ProcedureValue x) m st h added = q_errs 118 (Some (ProcedureValue x)) m st h
  q_refreshed (ARecord x) m st h added = q_errs 118 (Some (ARecord x)) m st h
  q_refreshed (AList x) m st h added = q_errs 118 (Some (AList x)) m st h
  q_refreshed (ASet x) m st h added = q_errs 118 (Some (ASet x)) m st h
  q_refreshed (ATable x) m st h added = q_errs 118 (Some (ATable x)) m st h

  -- which one an instruction may add, at the place of the next one
  abbrev Allows : Instr → M → Type 0
  Allows instr m = (new : Coexp K) → Adds C instr m before new → IsAdded new

  q_operated : (op : Op) (items : List Item) (start m : M) (st : Store K) → Same st → Allows (I.Op op) start → Q (operate C op items m st)
  q_operated Ops.Refresh (item ∷ items) start m st h added = q_value item m st (λ value. refresh C value m st) h (λ v. q_refreshed v m st h added)
  q_operated op items start m st h added = q_outcome (apply st.names (Operation op) items (here C m st)) m st h

  -- marks, scans and frames

  q_left : (o : Option Pair) (st : Store K) (next : Store K → State K M) → Same st → ((st' : Store K) → Same st' → Q (next st')) → Q (next (scans_left o st))
  q_left None st next h f = f st h
  q_left (Some pair) st next h f = f (with_pair pair st) (record { active = h.active; coexps = h.coexps })

  q_unmarked : (m : M) (st : Store K) (next : M → Store K → State K M) → Same st → ((a : M) (st' : Store K) → Same st' → Q (next a st'))
      → Q (unmark_then C m st next)
  q_unmarked m st next h f =
      q_found (C.unmark m) (on_pair (λ outside pair. next outside (scans_left pair st))) (λ x. q_left x.1 st (next x.0) h (λ st' h'. f x.0 st' h'))

  q_limited : (v : Value) (o : Option ℤ) (m : M) (st : Store K) → Same st → Q (limit_results C v o m st)
  q_limited v None m st h = q_errs 101 (Some v) m st h
  q_limited v (Some (negsuc k)) m st h = q_errs 205 (Some v) m st h
  q_limited v (Some (pos zero)) m st h = stay st h
  q_limited v (Some (pos (suc k))) m st h = stay st h

  q_result : (item : Item) (k : ℕ) (m : M) (st : Store K) → Same st → Q (limited_result C item k m st)
  q_result item zero m st h = q_unmarked m st (push_item C item) h (λ a st' h'. stay st' h')
  q_result item (suc k) m st h = q_found (C.suspend_mark m) (λ after. push_item C item after st) (λ a. stay st h)

  q_scan : (v : Value) (m : M) (st : Store K) → Same st → Q (scan_opened C v m st)
  q_scan (Text x) m st h = record { active = h.active; coexps = inl h.coexps }
  q_scan Null m st h = stay st h
  q_scan (Integer x) m st h = stay st h
  q_scan (Chars x) m st h = stay st h
  q_scan (Std x) m st h = stay st h
  q_scan (ProcedureValue x) m st h = stay st h
  q_scan (ARecord x) m st h = stay st h
  q_scan (AList x) m st h = stay st h
  q_scan (ASet x) m st h = stay st h
  q_scan (ATable x) m st h = stay st h
  q_scan (ACoexp x) m st h = stay st h

  q_exchanged : (o : Option (Pair × M)) (next : M → Store K → State K M) (st : Store K) → Same st → ((a : M) (st' : Store K) → Same st' → Q (next a st'))
      → Q (with_exchange o next st)
  q_exchanged None next st h f = tt
  q_exchanged (Some swap) next st h f = f swap.1 (with_pair swap.0 st) (record { active = h.active; coexps = h.coexps })

  q_maybe : (o : Option (Pair × M)) (m : M) (st : Store K) (next : M → Store K → State K M) → Same st → ((a : M) (st' : Store K) → Same st' → Q (next a st'))
      → Q (maybe_exchanged o m st next)
  q_maybe None m st next h f = f m st h
  q_maybe (Some swap) m st next h f = f swap.1 (with_pair swap.0 st) (record { active = h.active; coexps = h.coexps })

  q_returned : (o : Option M) (next : M → Store K → State K M) (st : Store K) → Same st → ((a : M) → Q (next a st)) → Q (return_to o next st)
  q_returned None next st h f = q_if (is_main st.active) _ _ tt tt
  q_returned (Some caller) next st h f = f caller

  q_all : (o : Option (Pair × M)) (st : Store K) (next : Store K → State K M) → Same st → ((st' : Store K) → Same st' → Q (next st'))
      → Q (next (swapped_back o st))
  q_all None st next h f = f st h
  q_all (Some swap) st next h f = f (with_pair swap.0 st) (record { active = h.active; coexps = h.coexps })

  q_proc_fails : (m : M) (st : Store K) → Same st → Q (proc_fails C m st)
  q_proc_fails m st h =
      q_all (C.swap_oldest (pair_now st) m) st (λ st. return_to (C.leave m) failing st) h (λ st' h'. q_returned (C.leave m) failing st' h' (λ a. stay st' h'))

  q_with_result : (item : Item) (m : M) (st : Store K) (next : Item → State K M) → Same st → ((x : Item) → Q (next x)) → Q (with_result C item m st next)
  q_with_result (Var (Whole (Local k))) m st next h f = q_value (Var (Whole (Local k))) m st (λ value. next (Val value)) h (λ v. f (Val v))
  q_with_result (Var (Part (Local k) a b)) m st next h f = q_value (Var (Part (Local k) a b)) m st (λ value. next (Val value)) h (λ v. f (Val v))
  q_with_result x m st next h f = f x

  q_initial : (b : Bool) (label : ℕ) (m : M) (st : Store K) → Same st → Q (initial_if C b label m st)
  q_initial true label m st h = stay st h
  q_initial false label m st h = record { active = h.active; coexps = inl h.coexps }

  q_instruction : (instr : Instr) (m : M) (st : Store K) → Same st → is_transfer instr ≡ false → Allows instr m → Q (instruction C P instr m st)
  q_instruction I.Pnull m st h d added = stay st h
  q_instruction (I.Int k) m st h d added = q_found (slice_get P.integers k) _ (λ n. stay st h)
  q_instruction (I.Str k) m st h d added = q_found (slice_get P.strings k) _ (λ n. stay st h)
  q_instruction (I.Cset k) m st h d added = q_found (slice_get P.csets k) _ (λ n. stay st h)
  q_instruction (I.Local k) m st h d added = stay st h
  q_instruction (I.Static k) m st h d added = stay st h
  q_instruction (I.Global k) m st h d added = stay st h
  q_instruction (I.Keywd k) m st h d added = q_one (keyword_item (standing_of C m st) k) m st h
  q_instruction I.Pop m st h d added = q_found (C.pop m) _ (λ x. stay st h)
  q_instruction I.Dup m st h d added = q_found (C.pop m) _ (λ x. stay st h)
  q_instruction (I.Op op) m st h d added =
      q_found (C.take (arity op) m) _ (λ x. q_turn st (operate C op x.0 x.1) h (λ st' h'. q_operated op x.0 m x.1 st' h' added))
  q_instruction (I.Llist k) m st h d added = q_found (C.take k m)
      _ (λ x. q_turn st (λ st. with_values C x.0 x.1 st (λ values. list_made C values x.1 st (λ list m st. push_item C (Val list) m st))) h (λ st' h'.
      q_values x.0 x.1 st' (λ values. list_made C values x.1 st' (λ list m st. push_item C (Val list) m st)) h'
      (λ vs. q_list vs x.1 st' (λ list m st. push_item C (Val list) m st) h' (λ v a st'' h''. stay st'' h''))))
  q_instruction (I.Field k) m st h d added =
      q_found (C.take 1 m) _ (λ x. q_turn st (field_applied C P k x.0 x.1) h (λ st' h'. q_field_applied k x.0 x.1 st' h'))
  q_instruction (I.Invoke k) m st h d added =
      q_found (C.take (suc k) m) _ (λ x. q_turn st (invoked_with C P x.0 x.1) h (λ st' h'. q_invoked_with x.0 x.1 st' h'))
  q_instruction I.Appl m st h d added = q_found (C.take 2 m) _ (λ x. q_turn st (applied_to_elements C P x.0 x.1) h (λ st' h'. q_applied x.0 x.1 st' h'))
  q_instruction (I.Mark l) m st h d added = stay st h
  q_instruction I.Mark0 m st h d added = stay st h
  q_instruction I.Unmark m st h d added = q_unmarked m st running h (λ a st' h'. stay st' h')
  q_instruction I.Eret m st h d added = q_found (C.pop m) _ (λ x. q_value x.0 x.1 st (λ value. unmark_then C x.1 st (push_item C (Val value))) h
      (λ v. q_unmarked x.1 st (push_item C (Val v)) h (λ a st' h'. stay st' h')))
  q_instruction I.Esusp m st h d added = q_found (C.pop m) _ (λ x. q_found (C.suspend_mark x.1) (λ m. push_item C x.0 m st) (λ a. stay st h))
  q_instruction I.Limit m st h d added =
      q_found (C.pop m) _ (λ x. q_value x.0 x.1 st (λ value. limit_results C value (integer_of value) x.1 st) h (λ v. q_limited v (integer_of v) x.1 st h))
  q_instruction I.Lsusp m st h d added =
      q_found (C.pop m) _ (λ x. q_found (C.count_down x.1) (on_pair (λ count m. limited_result C x.0 count m st)) (λ y. q_result x.0 y.0 y.1 st h))
  q_instruction I.Efail m st h d added = stay st h
  q_instruction (I.Chfail l) m st h d added = q_found (C.relabel l m) _ (λ a. stay st h)
  q_instruction (I.Goto l) m st h d added = stay st h
  q_instruction (I.Loop l) m st h d added = q_turn st (running (C.go l m)) h (λ st' h'. stay st' h')
  q_instruction I.Bscan m st h d added =
      q_found (C.pop m) _ (λ x. q_value x.0 x.1 st (λ value. with_made C (text_row value (here C x.1 st)) x.1 st (scan_opened C)) h
      (λ v. q_made (text_row v (here C x.1 st)) x.1 st (scan_opened C) h (λ u a st' h'. q_scan u a st' h')))
  q_instruction I.Escan m st h d added =
      q_found (C.pop m) _ (λ x. q_exchanged (C.swap_newest (pair_now st) x.1) (λ m. push_item C x.0 (C.suspend Escan m)) st h (λ a st' h'. stay st' h'))
  q_instruction I.Ccase m st h d added = q_found (C.below m) _ (λ item. stay st h)
  q_instruction (I.Init l) m st h d added = q_initial (slice_index_or st.begun (C.proc m) true) l m st h
  q_instruction I.Psusp m st h d added = q_found (C.pop m) _ (λ x. q_with_result x.0 m st
      (λ result. maybe_exchanged (C.swap_oldest (pair_now st) m) m st (λ m. return_to (C.suspend_proc m) (push_item C result))) h (λ result.
      q_maybe (C.swap_oldest (pair_now st) m) m st (λ m. return_to (C.suspend_proc m) (push_item C result)) h
      (λ a st' h'. q_returned (C.suspend_proc a) (push_item C result) st' h' (λ b. stay st' h'))))
  q_instruction I.Pret m st h d added =
      q_found (C.pop m) _ (λ x. q_with_result x.0 x.1 st (λ result. return_to (C.leave x.1) (push_item C result) (all_left C x.1 st)) h (λ result.
      q_all (C.swap_oldest (pair_now st) x.1) st (λ st. return_to (C.leave x.1) (push_item C result) st) h
      (λ st' h'. q_returned (C.leave x.1) (push_item C result) st' h' (λ b. stay st' h'))))
  q_instruction I.Pfail m st h d added = q_if (is_create_body C m st) _ _ tt (q_proc_fails m st h)
  q_instruction (I.Create l) m st h d added =
      q_turn st (coexp_made C (C.locals m) (C.proc m) (C.address m) (C.go l m)) h
      (λ st' h'. q_new (C.locals m) (C.proc m) (C.address m) (C.go l m) st' h' added)
  q_instruction I.Coact m st h d added = absurd (cc)
  q_instruction I.Coret m st h d added = absurd (cc)
  q_instruction I.Cofail m st h d added = absurd (cc)

  -- failing

  q_resumed : (why : Why) (m : M) (st : Store K) → Same st → Q (resume_by C P why m st)
  q_resumed Alt m st h = stay st h
  q_resumed (Operating r) m st h = q_turn st (λ st. outcome C (again r (here C m st)) m st) h (λ st' h'. q_outcome (again r (here C m st')) m st' h')
  q_resumed (Scan pair) m st h = record { active = h.active; coexps = inl h.coexps }
  q_resumed Escan m st h = q_exchanged (C.swap_newest (pair_now st) m) failing st h (λ a st' h'. stay st' h')
  q_resumed Proc m st h = q_turn st (λ st. maybe_exchanged (C.swap_oldest (pair_now st) m) m st running) h
      (λ st' h'. q_maybe (C.swap_oldest (pair_now st') m) m st' running h' (λ a st'' h''. stay st'' h''))

  q_without : (b : Bool) (m : M) (st : Store K) → is_create_body C m st ≡ b → (b ≡ true → ⊥) → Same st → Q (without_mark C P m st)
  q_without true m st e d h = absurd (d refl)
  q_without false m st e d h = rw e (q_proc_fails m st h)

  q_dropped : (o : MarkDrop M) (m : M) (st : Store K) → (is_no_mark o ≡ true → is_create_body C m st ≡ true → ⊥) → Same st → Q (mark_dropped C P m st o)
  q_dropped NoMark m st d h = q_without (is_create_body C m st) m st refl (d refl) h
  q_dropped (Goes a) m st d h = stay st h
  q_dropped (Repeats a) m st d h = q_turn st (running a) h (λ st' h'. stay st' h')
  q_dropped (WithoutLabel a) m st d h = stay st h

  q_back : (o : Option (Why × M)) (m : M) (st : Store K) → (o ≡ None → is_no_mark (C.drop_mark m) ≡ true → is_create_body C m st ≡ true → ⊥) → Same st
      → Q (resumed_or_dropped C P m st o)
  q_back None m st d h = q_dropped (C.drop_mark m) m st (d refl) h
  q_back (Some back) m st d h = q_resumed back.0 back.1 st h

pub others_stay : {K M : Type 0} (C : Calls K M) (P : Program) → OthersStay C P
others_stay C P = record {
  instructions = λ m st instr e d. rw e (q_instruction C P (Adds C instr (C.go (suc (C.address m)) m) st) st instr (C.go (suc (C.address m)) m) st
      (record { active = refl; coexps = refl }) d (λ new is. is));
  failure = λ m st d. q_back C P AddsNone st (C.resume m) m st (λ a b c. d (record { nothing_comes_back = a; no_mark = b; in_body = c }))
      (record { active = refl; coexps = refl });
}
