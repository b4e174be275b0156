-- A step under a smaller bound of turns and one under a greater: both go on alike, or the first ends at its bound.
use Rattle.std.proofs.Common.{◌≡◌, ◌⊎◌, inl, inr, ℕ, zero, suc, ◌≤◌, refl, arith, ◌∙◌, Bool, true, false, List, [], ◌∷◌, ◌++◌, length, Option, Some, None, ap}
use Rattle.std.specs.Prelude.{ℤ, pos, negsuc, ◌-◌, ◌==◌, nat_lt, nat_le, drop, map, replicate, slice_get, slice_index_or, if◌then◌else◌}
use Rattle.std.proofs.lemmas.Bool.{lt-ltb, ltb-true}
use Rattle.icn_text.specs.declared.op.Op.{Op}
use Rattle.icn_text.specs.declared.op.Op.TheVariants as Ops
use Rattle.icn_value.specs.Values.{Value, Null, Integer, Text, Chars, Procedure as ProcedureValue, ARecord, AList, ACoexp, Local, Whole, Part, Item, Val, Var}
use Rattle.icn_value.specs.Store.{Outside, list_at, record_at}
use Rattle.icn_code.specs.declared.instr.Instr.{Instr}
use Rattle.icn_code.specs.declared.instr.Instr.TheVariants as I
use Rattle.icn_code.specs.Codes.{Proc as Procedure}
use Rattle.icn_defs.specs.Applying.{again, function_row, operation_row}
use Rattle.icn_defs.specs.Arities.{arity}
use Rattle.icn_defs.specs.Conversions.{integer_of}
use Rattle.icn_defs.specs.Errors.{ended_or_failed, ends_run}
use Rattle.icn_defs.specs.Keywords.{keyword_item}
use Rattle.icn_defs.specs.NamedValues.{named_by}
use Rattle.icn_defs.specs.Rows.{Row, Outcome, Fails, Gives, Suspends, Error, Ends}
use Rattle.icn_defs.specs.Running.{AtBound, Done, Errored, Pair, bound_report, files_written, number_of, with_errors, words_row}
use Rattle.icn_defs.specs.StepRows.{coexpression_row, list_row, record_row, text_row, value_row}
use Rattle.icn_run.specs.Calls.{Why, Alt, Op as Operating, Scan, Escan, Proc, MarkDrop, NoMark, Goes, Repeats, Outside as WithoutLabel, Calls}
use Rattle.icn_run.specs.Step as S
use Rattle.icn_run.specs.Step.{Program, Status, Fresh, Active, Waiting, Exhausted, Coexp, Store, State, running, failing, hopping, over, stuck, Callee, IsProc, IsRecord, IsFunc, IsNothing}
use Rattle.law_bounds.specs.BoundedTurns.{outcome_under, world_under}
use Rattle.law_bounds.proofs.HeapViews.{report_alike}
use Rattle.law_bounds.proofs.RowWords.{Overlooks}
use Rattle.law_bounds.proofs.EachRow.{coexpression_overlooks, function_overlooks, list_overlooks, operation_overlooks, record_overlooks, resumed_overlooks, text_overlooks, value_overlooks, words_overlook}

-- the store under this bound of turns
abbrev pub store_under : {K : Type 0} → ℕ → Store K → Store K
store_under bound st = record st { world = world_under bound st.world }

-- the state under this bound of turns
abbrev pub state_under : {K M : Type 0} → ℕ → State K M → State K M
state_under bound (running m st) = running m (store_under bound st)
state_under bound (failing m st) = failing m (store_under bound st)
state_under bound (hopping m st) = hopping m (store_under bound st)
state_under bound (over ending outside) = over ending outside
state_under bound stuck = stuck

-- Words that make no turn

module _ {H M : Type 0} (C : Calls H M) (P : Program) (b : ℕ) where
  abbrev R : Store H → Store H
  R st = store_under b st

  abbrev U : State H M → State H M
  U s = state_under b s

  found : {A : Type 0} (o : Option A) (go' go : A → State H M) → ((x : A) → go' x ≡ U (go x)) → S.with_found o go' ≡ U (S.with_found o go)
  found (Some x) go' go f = f x
  found None go' go f = refl

  parted : {A B : Type 0} (o : Option (A × B)) (go' go : A → B → State H M) → ((x : A) (y : B) → go' x y ≡ U (go x y))
      → S.with_found o (S.on_pair go') ≡ U (S.with_found o (S.on_pair go))
  parted (Some x) go' go f = f x.0 x.1
  parted None go' go f = refl

  -- Ends and rows

  ended_with : ℕ → Store H → List ℕ → State H M
  ended_with n st text = over (Errored n) (files_written st.world.heap (with_errors text st.outside))

  errs : (n : ℕ) (v : Option Value) (m : M) (st : Store H) → S.errs n v m (R st) ≡ U (S.errs n v m st)
  unfolding ended_with
  errs n v m st = by (ends_run n st.world.error)
    where
      by : (t : Bool) → ended_or_failed t n v (world_under b st.world) (S.ended_by n v (R st)) (λ world. failing m (S.with_world world (R st)))
          ≡ U (ended_or_failed t n v st.world (S.ended_by n v st) (λ world. failing m (S.with_world world st)))
      by true = ap (ended_with n st) (report_alike b st.names st.world.heap n v)
      by false = refl

  valued : (o : Outcome) (m : M) (st : Store H) (go' go : Value → State H M) → ((v : Value) → go' v ≡ U (go v))
      → S.with_given (outcome_under b o) m (R st) go' ≡ U (S.with_given o m st go)
  valued (Gives (Val v) s) m st go' go f = f v
  valued (Gives (Var x) s) m st go' go f = refl
  valued (Error n v s) m st go' go f = errs n v m st
  valued (Fails s) m st go' go f = refl
  valued (Suspends x r s) m st go' go f = refl
  valued (Ends n s) m st go' go f = refl

  made : (o : Outcome) (m : M) (st : Store H) (go : Value → M → Store H → State H M)
      → ((v : Value) (m : M) (s : Store H) → go v m (R s) ≡ U (go v m s)) → S.with_made C (outcome_under b o) m (R st) go ≡ U (S.with_made C o m st go)
  made (Gives (Val v) s) m st go f = f v (C.set_locals s.locals m) (S.with_at s st)
  made (Gives (Var x) s) m st go f = refl
  made (Error n v s) m st go f = errs n v (C.set_locals s.locals m) (S.with_at s st)
  made (Fails s) m st go f = refl
  made (Suspends x r s) m st go f = refl
  made (Ends n s) m st go f = refl

  outcome : (o : Outcome) (m : M) (st : Store H) → S.outcome C (outcome_under b o) m (R st) ≡ U (S.outcome C o m st)
  outcome (Fails s) m st = refl
  outcome (Gives x s) m st = refl
  outcome (Suspends x r s) m st = refl
  outcome (Error n v s) m st = errs n v (C.set_locals s.locals m) (S.with_at s st)
  outcome (Ends n s) m st = refl

  -- what a row comes to that does not look at the bound
  performed : (row : Row) → Overlooks b row → (m : M) (st : Store H)
      → S.outcome C (row (S.here C m (R st))) m (R st) ≡ U (S.outcome C (row (S.here C m st)) m st)
  performed row o m st = ap (λ (x : Outcome). S.outcome C x m (R st)) (o.same (S.here C m st)) ∙ outcome (row (S.here C m st)) m st

  made_by : (row : Row) → Overlooks b row → (m : M) (st : Store H) (go : Value → M → Store H → State H M)
      → ((v : Value) (m : M) (s : Store H) → go v m (R s) ≡ U (go v m s))
      → S.with_made C (row (S.here C m (R st))) m (R st) go ≡ U (S.with_made C (row (S.here C m st)) m st go)
  made_by row o m st go f = ap (λ (x : Outcome). S.with_made C x m (R st) go) (o.same (S.here C m st)) ∙ made (row (S.here C m st)) m st go f

  value : (x : Item) (m : M) (st : Store H) (go' go : Value → State H M) → ((v : Value) → go' v ≡ U (go v))
      → S.with_value C x m (R st) go' ≡ U (S.with_value C x m st go)
  value x m st go' go f = ap (λ (o : Outcome). S.with_given o m (R st) go') ((value_overlooks b x).same (S.here C m st))
      ∙ valued (value_row x (S.here C m st)) m st go' go f

  values : (xs : List Item) (m : M) (st : Store H) (go' go : List Value → State H M) → ((vs : List Value) → go' vs ≡ U (go vs))
      → S.with_values C xs m (R st) go' ≡ U (S.with_values C xs m st go)
  values [] m st go' go f = f []
  values (x ∷ xs) m st go' go f =
      value x m st (λ v. S.with_values C xs m (R st) (λ vs. go' (v ∷ vs))) (λ v. S.with_values C xs m st (λ vs. go (v ∷ vs)))
      (λ v. values xs m st (λ vs. go' (v ∷ vs)) (λ vs. go (v ∷ vs)) (λ vs. f (v ∷ vs)))

  list_made : (vs : List Value) (m : M) (st : Store H) (go : Value → M → Store H → State H M)
      → ((v : Value) (m : M) (s : Store H) → go v m (R s) ≡ U (go v m s)) → S.list_made C vs m (R st) go ≡ U (S.list_made C vs m st go)
  list_made vs m st go f = made_by (list_row vs) (list_overlooks b vs) m st go f

  -- Scans

  exchanged : (o : Option (Pair × M)) (go : M → Store H → State H M) (st : Store H) → ((m : M) (s : Store H) → go m (R s) ≡ U (go m s))
      → S.with_exchange o go (R st) ≡ U (S.with_exchange o go st)
  exchanged (Some x) go st f = f x.1 (S.with_pair x.0 st)
  exchanged None go st f = refl

  maybe_exchanged : (o : Option (Pair × M)) (m : M) (st : Store H) (go : M → Store H → State H M)
      → ((m : M) (s : Store H) → go m (R s) ≡ U (go m s)) → S.maybe_exchanged o m (R st) go ≡ U (S.maybe_exchanged o m st go)
  maybe_exchanged (Some x) m st go f = f x.1 (S.with_pair x.0 st)
  maybe_exchanged None m st go f = f m st

  left : (o : Option Pair) (st : Store H) → S.scans_left o (R st) ≡ R (S.scans_left o st)
  left (Some x) st = refl
  left None st = refl

  swapped_back : (o : Option (Pair × M)) (st : Store H) → S.swapped_back o (R st) ≡ R (S.swapped_back o st)
  swapped_back (Some x) st = refl
  swapped_back None st = refl

  all_left : (m : M) (st : Store H) → S.all_left C m (R st) ≡ R (S.all_left C m st)
  all_left m st = swapped_back (C.swap_oldest (S.pair_now st) m) st

  unmarked : (m : M) (st : Store H) (go : M → Store H → State H M) → ((m : M) (s : Store H) → go m (R s) ≡ U (go m s))
      → S.unmark_then C m (R st) go ≡ U (S.unmark_then C m st go)
  unmarked m st go f = parted (C.unmark m) (λ outside pair. go outside (S.scans_left pair (R st))) (λ outside pair. go outside (S.scans_left pair st))
      (λ m pair. ap (go m) (left pair st) ∙ f m (S.scans_left pair st))

  -- Co-expressions

  fail_by : (u : Status H) (n : ℕ) (m : M) (st : Store H) → S.fail_by C u n m (R st) ≡ U (S.fail_by C u n m st)
  fail_by Fresh n m st = refl
  fail_by Active n m st = refl
  fail_by (Waiting h) n m st = refl
  fail_by Exhausted n m st = refl

  give_by : (u : Status H) (n : ℕ) (v : Value) (m : M) (st : Store H) → S.give_by C u n v m (R st) ≡ U (S.give_by C u n v m st)
  give_by Fresh n v m st = refl
  give_by Active n v m st = refl
  give_by (Waiting h) n v m st = refl
  give_by Exhausted n v m st = refl

  to_activator : (n : ℕ) (m : M) (st : Store H) → S.passed_failure C n m (R st) ≡ U (S.passed_failure C n m st)
  to_activator n m st = fail_by (S.status_of n st) n m st

  result_given : (v : Value) (m : M) (st : Store H) → S.result_given C v m (R st) ≡ U (S.result_given C v m st)
  result_given v m st =
      let s = S.counted_result st.active (S.with_status st.active (Waiting (C.kept m)) st) in
      let n = S.activator_of st.active st in
      give_by (S.status_of n s) n v m s

  coexp_made : (vs : List Value) (proc place : ℕ) (m : M) (st : Store H) → S.coexp_made C vs proc place m (R st) ≡ U (S.coexp_made C vs proc place m st)
  coexp_made vs proc place m st = made_by (coexpression_row (length vs)) (coexpression_overlooks b (length vs)) m st
      (λ value m st. S.push_item C (Val value) m (S.with_new vs proc place st)) (λ v m s. refl)

  refreshed_from : (o : Option (Coexp H)) (m : M) (st : Store H) → S.refreshed_from C o m (R st) ≡ U (S.refreshed_from C o m st)
  refreshed_from (Some co) m st = coexp_made co.values co.proc co.address m st
  refreshed_from None m st = refl

  refreshed : (v : Value) (m : M) (st : Store H) → S.refresh C v m (R st) ≡ U (S.refresh C v m st)
  refreshed (ACoexp zero) m st = errs 215 (Some (ACoexp zero)) m st
  refreshed (ACoexp (suc n)) m st = refreshed_from (slice_get st.coexps (suc n)) m st
  refreshed v m st = errs 118 (Some v) m st

  entered_if : (t : Bool) (u : Status H) (n : ℕ) (v : Value) (m : M) (st : Store H) → S.entered_if C t u n v m (R st) ≡ U (S.entered_if C t u n v m st)
  entered_if t Exhausted n v m st = refl
  entered_if true u n v m st = refl
  entered_if false u n v m st = let s = S.with_activator n st.active (S.with_status st.active (Waiting (C.kept m)) st) in give_by (S.status_of n s) n v m s

  activation : (v to : Value) (m : M) (st : Store H) → S.activation C v to m (R st) ≡ U (S.activation C v to m st)
  activation v (ACoexp n) m st = entered_if (n == st.active) (S.status_of n st) n v m st
  activation v to m st = errs 118 (Some to) m st

  -- Procedures

  collected : (t : Bool) (n : ℕ) (vs : List Value) (m : M) (st : Store H) (go : List Value → M → Store H → State H M)
      → ((vs : List Value) (m : M) (s : Store H) → go vs m (R s) ≡ U (go vs m s)) → S.collect_rest C t n vs m (R st) go ≡ U (S.collect_rest C t n vs m st go)
  collected false n vs m st go f = f (S.fill_nulls n vs) m st
  collected true n vs m st go f = list_made (drop (n - 1) vs) m st (λ rest m st. go (S.fill_nulls (n - 1) vs ++ rest ∷ []) m st)
      (λ rest m s. f (S.fill_nulls (n - 1) vs ++ rest ∷ []) m s)

  called_if : (t : Bool) (n : ℕ) (entry : Procedure) (vs : List Value) (m : M) (st : Store H)
      → S.called_if C t n entry vs m (R st) ≡ U (S.called_if C t n entry vs m st)
  called_if true n entry vs m st =
      collected entry.collects entry.parameters vs m st (λ parameters m st. S.enter_procedure C n entry parameters m st) (λ vs m s. refl)
  called_if false n entry vs m st = errs 301 None m st

  pushed_or_fails : (o : Option Item) (m : M) (st : Store H) → S.pushed_or_fails C o m (R st) ≡ U (S.pushed_or_fails C o m st)
  pushed_or_fails (Some x) m st = refl
  pushed_or_fails None m st = refl

  callee_called : (c : Callee) (n : ℕ) (xs : List Item) (m : M) (st : Store H) → S.callee_called C c n xs m (R st) ≡ U (S.callee_called C c n xs m st)
  callee_called (IsProc entry) n xs m st =
      values xs m st (λ arguments. S.call_procedure C n entry arguments m (R st)) (λ arguments. S.call_procedure C n entry arguments m st)
      (λ vs. called_if (nat_le (suc (C.level m)) st.world.heap.bounds.levels) n entry vs m st)
  callee_called (IsRecord kind entry) n xs m st =
      values xs m st (λ arguments. S.construct_record C kind entry arguments m (R st)) (λ arguments. S.construct_record C kind entry arguments m st)
      (λ vs. let fs = S.fill_nulls (length entry.fields) vs in
      made_by (record_row kind fs) (record_overlooks b kind fs) m st (λ value m st. S.push_item C (Val value) m st) (λ v m s. refl))
  callee_called (IsFunc func) n xs m st = performed (function_row st.names func xs) (function_overlooks b st.names func xs) m st
  callee_called IsNothing n xs m st = errs 106 (Some (ProcedureValue n)) m st

  named_called : (f : Value) (o : Option ℕ) (xs : List Item) (m : M) (st : Store H)
      → S.named_called C P f o xs m (R st) ≡ U (S.named_called C P f o xs m st)
  named_called f (Some n) xs m st = callee_called (S.callee_of P n) n xs m st
  named_called f None xs m st = errs 106 (Some f) m st

  integer_called : (f : Value) (o : Option ℤ) (xs : List Item) (m : M) (st : Store H)
      → S.integer_called C P f o xs m (R st) ≡ U (S.integer_called C P f o xs m st)
  integer_called f (Some n) xs m st = pushed_or_fails (S.choose_item n xs) m st
  integer_called f None xs m st = named_called f (named_by st.names f) xs m st

  invoked : (f : Value) (xs : List Item) (m : M) (st : Store H) → S.invoke_value C P f xs m (R st) ≡ U (S.invoke_value C P f xs m st)
  invoked (ProcedureValue n) xs m st = callee_called (S.callee_of P n) n xs m st
  invoked f xs m st = integer_called f (number_of f) xs m st

  invoked_with : (xs : List Item) (m : M) (st : Store H) → S.invoked_with C P xs m (R st) ≡ U (S.invoked_with C P xs m st)
  invoked_with [] m st = refl
  invoked_with (x ∷ xs) m st =
      value x m st (λ value. S.invoke_value C P value xs m (R st)) (λ value. S.invoke_value C P value xs m st) (λ f. invoked f xs m st)

  elements_called : (f from : Value) (m : M) (st : Store H) → S.elements_called C P f from m (R st) ≡ U (S.elements_called C P f from m st)
  elements_called f (AList n) m st = invoked f (map S.plain (list_at st.world.heap n).items) m st
  elements_called f (ARecord n) m st = invoked f (map S.plain (record_at st.world.heap n).fields) m st
  elements_called f from m st = errs 126 (Some from) m st

  applied : (xs : List Item) (m : M) (st : Store H) → S.applied_to_elements C P xs m (R st) ≡ U (S.applied_to_elements C P xs m st)
  applied [] m st = refl
  applied (x ∷ []) m st = refl
  applied (x ∷ y ∷ []) m st =
      value x m st (λ callee. S.with_value C y m (R st) (λ from. S.elements_called C P callee from m (R st)))
      (λ callee. S.with_value C y m st (λ from. S.elements_called C P callee from m st))
      (λ f. value y m st (λ from. S.elements_called C P f from m (R st)) (λ from. S.elements_called C P f from m st) (λ from. elements_called f from m st))
  applied (x ∷ y ∷ z ∷ xs) m st = refl

  field_taken : (o : Option ℕ) (n : ℕ) (m : M) (st : Store H) → S.field_taken C o n m (R st) ≡ U (S.field_taken C o n m st)
  field_taken (Some place) n m st = refl
  field_taken None n m st = errs 207 (Some (ARecord n)) m st

  field_of : (field : ℕ) (v : Value) (m : M) (st : Store H) → S.field_of C P field v m (R st) ≡ U (S.field_of C P field v m st)
  field_of field (ARecord n) m st = field_taken (S.field_index P field (record_at st.world.heap n).kind) n m st
  field_of field v m st = errs 107 (Some v) m st

  result : (x : Item) (m : M) (st : Store H) (go' go : Item → State H M) → ((x : Item) → go' x ≡ U (go x))
      → S.with_result C x m (R st) go' ≡ U (S.with_result C x m st go)
  result (Var (Whole (Local n))) m st go' go f = value (Var (Whole (Local n))) m st (λ v. go' (Val v)) (λ v. go (Val v)) (λ v. f (Val v))
  result (Var (Part (Local n) place size)) m st go' go f =
      value (Var (Part (Local n) place size)) m st (λ v. go' (Val v)) (λ v. go (Val v)) (λ v. f (Val v))
  result x m st go' go f = f x

  either : (t : Bool) (x' x y' y : State H M) → x' ≡ U x → y' ≡ U y → (if t then x' else y') ≡ U (if t then x else y)
  either true x' x y' y f g = f
  either false x' x y' y f g = g

  returned : (o : Option M) (go : M → Store H → State H M) (st : Store H) → ((m : M) (s : Store H) → go m (R s) ≡ U (go m s))
      → S.return_to o go (R st) ≡ U (S.return_to o go st)
  returned (Some m) go st f = f m st
  returned None go st f = either (S.is_main st.active) (S.over_with Done (world_under b st.world) st.outside) (S.over_with Done st.world st.outside) stuck stuck refl refl

  proc_fails : (m : M) (st : Store H) → S.proc_fails C m (R st) ≡ U (S.proc_fails C m st)
  proc_fails m st = ap (λ (s : Store H). S.return_to (C.leave m) failing s) (all_left m st)
      ∙ returned (C.leave m) failing (S.all_left C m st) (λ m s. refl)

  -- Instructions

  limited : (v : Value) (o : Option ℤ) (m : M) (st : Store H) → S.limit_results C v o m (R st) ≡ U (S.limit_results C v o m st)
  limited v None m st = errs 101 (Some v) m st
  limited v (Some (negsuc n)) m st = errs 205 (Some v) m st
  limited v (Some (pos zero)) m st = refl
  limited v (Some (pos (suc n))) m st = refl

  limited_result : (x : Item) (n : ℕ) (m : M) (st : Store H) → S.limited_result C x n m (R st) ≡ U (S.limited_result C x n m st)
  limited_result x zero m st = unmarked m st (S.push_item C x) (λ m s. refl)
  limited_result x (suc n) m st = found (C.suspend_mark m) (λ after. S.push_item C x after (R st)) (λ after. S.push_item C x after st) (λ m. refl)

  scan_opened : (v : Value) (m : M) (st : Store H) → S.scan_opened C v m (R st) ≡ U (S.scan_opened C v m st)
  scan_opened (Text text) m st = refl
  scan_opened v m st = refl

  initial : (t : Bool) (l : ℕ) (m : M) (st : Store H) → S.initial_if C t l m (R st) ≡ U (S.initial_if C t l m st)
  initial true l m st = refl
  initial false l m st = refl

  activation_of : (xs : List Item) (m : M) (st : Store H) → S.activation_of C xs m (R st) ≡ U (S.activation_of C xs m st)
  activation_of [] m st = refl
  activation_of (x ∷ []) m st = refl
  activation_of (x ∷ y ∷ []) m st =
      value x m st (λ value. S.with_value C y m (R st) (λ other. S.activation C value other m (R st)))
      (λ value. S.with_value C y m st (λ other. S.activation C value other m st))
      (λ v. value y m st (λ other. S.activation C v other m (R st)) (λ other. S.activation C v other m st) (λ to. activation v to m st))
  activation_of (x ∷ y ∷ z ∷ xs) m st = refl

  operated : (op : Op) (xs : List Item) (m : M) (st : Store H) → S.operate C op xs m (R st) ≡ U (S.operate C op xs m st)
  operated Ops.Refresh (x ∷ xs) m st = value x m st (λ value. S.refresh C value m (R st)) (λ value. S.refresh C value m st) (λ v. refreshed v m st)
  operated op xs m st = performed (operation_row op xs) (operation_overlooks b op xs) m st

  field_applied : (field : ℕ) (xs : List Item) (m : M) (st : Store H) → S.field_applied C P field xs m (R st) ≡ U (S.field_applied C P field xs m st)
  field_applied field (x ∷ xs) m st =
      value x m st (λ value. S.field_of C P field value m (R st)) (λ value. S.field_of C P field value m st) (λ v. field_of field v m st)
  field_applied field [] m st = refl

  -- what is done in the turn of a list display, and of a result of a co-expression

  listed : (xs : List Item) (m : M) (st : Store H)
      → S.with_values C xs m (R st) (λ values. S.list_made C values m (R st) (λ list m st. S.push_item C (Val list) m st))
      ≡ U (S.with_values C xs m st (λ values. S.list_made C values m st (λ list m st. S.push_item C (Val list) m st)))
  listed xs m st = values xs m st (λ values. S.list_made C values m (R st) (λ list m st. S.push_item C (Val list) m st))
      (λ values. S.list_made C values m st (λ list m st. S.push_item C (Val list) m st))
      (λ vs. list_made vs m st (λ list m st. S.push_item C (Val list) m st) (λ v m s. refl))

  result_sent : (x : Item) (m : M) (st : Store H) → S.with_value C x m (R st) (λ value. S.result_given C value m (R st))
      ≡ U (S.with_value C x m st (λ value. S.result_given C value m st))
  result_sent x m st =
      value x m st (λ value. S.result_given C value m (R st)) (λ value. S.result_given C value m st) (λ v. result_given v m st)

  -- Where a run begins

  begun_if : (t : Bool) (n : ℕ) (entry : Procedure) (vs : List Value) (m : M) (st : Store H)
      → S.begun_if C t n entry vs m (R st) ≡ U (S.begun_if C t n entry vs m st)
  begun_if true n entry vs m st = collected entry.collects entry.parameters vs m st
      (λ parameters m st. running (C.begin n (parameters ++ replicate entry.locals Null) 0 m) st) (λ vs m s. refl)
  begun_if false n entry vs m st = errs 301 None m st

  pub start_of : (lines : List (List ℕ)) (m : M) (st : Store H) (o : Option ℕ) → S.start_of C P lines m (R st) o ≡ U (S.start_of C P lines m st o)
  start_of lines m st None = errs 117 None m st
  start_of lines m st (Some main) = found (slice_get P.procs main)
      (λ (entry : Procedure). S.with_made C (words_row lines (S.here C m (R st))) m (R st)
      (λ list m st. S.begun_if C (nat_le 1 st.world.heap.bounds.levels) main entry (list ∷ []) m st))
      (λ (entry : Procedure). S.with_made C (words_row lines (S.here C m st)) m st
      (λ list m st. S.begun_if C (nat_le 1 st.world.heap.bounds.levels) main entry (list ∷ []) m st))
      (λ entry. made_by (words_row lines) (words_overlook b lines) m st
      (λ list m st. S.begun_if C (nat_le 1 st.world.heap.bounds.levels) main entry (list ∷ []) m st)
      (λ list m s. begun_if (nat_le 1 s.world.heap.bounds.levels) main entry (list ∷ []) m s))

-- Under both bounds it is one state; or under the smaller one it is the end at the bound, behind what was done outside so far.
abbrev pub Alike : {H M : Type 0} → ℕ → ℕ → Outside → State H M → State H M → Type 0
Alike {H} {M} fewer more outside x y =
    ((s : State H M) × ((x ≡ state_under fewer s) × (y ≡ state_under more s))) ⊎ (x ≡ over AtBound (with_errors bound_report outside))

module _ {H M : Type 0} (C : Calls H M) (P : Program) (fewer more : ℕ) (le : fewer ≤ more) where
  -- this is so of what comes of a store under each bound
  abbrev Both : Store H → (Store H → State H M) → Type 0
  Both st go = Alike fewer more st.outside (go (store_under fewer st)) (go (store_under more st))

  still : (st : Store H) (go : Store H → State H M) → ((n : ℕ) → go (store_under n st) ≡ state_under n (go st)) → Both st go
  still st go e = inl (go st, (e fewer, e more))

  turned : (st : Store H) (go : Store H → State H M) → ((n : ℕ) (s : Store H) → go (store_under n s) ≡ state_under n (go s))
      → Both st (λ s. S.turn P s go)
  turned st go f = by (nat_lt st.turns fewer) refl
    where
      by : (t : Bool) → nat_lt st.turns fewer ≡ t
          → Alike fewer more st.outside (S.turn_if t (store_under fewer st) go) (S.turn P (store_under more st) go)
      by true is =
          let before = ltb-true st.turns fewer is in
          let more_too : nat_lt st.turns more ≡ true = lt-ltb st.turns more (omega (arith, le, before)) in
          inl (
            go (record st { turns = suc st.turns }),
            (
              f fewer (record st { turns = suc st.turns }),
              ap (λ (t : Bool). S.turn_if t (store_under more st) go) more_too ∙ f more (record st { turns = suc st.turns }),
            ),
          )
      by false is = inr refl

  found_both : {A : Type 0} (o : Option A) (outside : Outside) (f g : A → State H M) → ((x : A) → Alike fewer more outside (f x) (g x))
      → Alike fewer more outside (S.with_found o f) (S.with_found o g)
  found_both (Some x) outside f g h = h x
  found_both None outside f g h = inl (stuck, (refl, refl))

  taken_both : (n : ℕ) (m : M) (outside : Outside) (f g : List Item → M → State H M)
      → ((xs : List Item) (m : M) → Alike fewer more outside (f xs m) (g xs m)) → Alike fewer more outside (S.with_taken C n m f) (S.with_taken C n m g)
  taken_both n m outside f g h = found_both (C.take n m) outside (S.on_pair f) (S.on_pair g) (λ p. h p.0 p.1)

  popped_both : (m : M) (outside : Outside) (f g : Item → M → State H M) → ((x : Item) (m : M) → Alike fewer more outside (f x m) (g x m))
      → Alike fewer more outside (S.with_popped C m f) (S.with_popped C m g)
  popped_both m outside f g h = found_both (C.pop m) outside (S.on_pair f) (S.on_pair g) (λ p. h p.0 p.1)

  either_both : (t : Bool) (outside : Outside) (x x' y y' : State H M) → Alike fewer more outside x x' → Alike fewer more outside y y'
      → Alike fewer more outside (if t then x else y) (if t then x' else y')
  either_both true outside x x' y y' f g = f
  either_both false outside x x' y y' f g = g

  stuck_both : (outside : Outside) → Alike {H = H} {M = M} fewer more outside stuck stuck
  stuck_both outside = inl (stuck, (refl, refl))

  -- Failing

  pub hop : (m : M) (st : Store H) → Both st (λ s. S.hop C P m s)
  hop m st = turned st (λ st. S.passed_failure C (S.activator_of st.active st) m st) (λ n s. to_activator C P n (S.activator_of s.active s) m s)

  exhausted : (m : M) (st : Store H) → Both st (λ s. S.exhaust_active C P m s)
  exhausted m st = turned st (λ st. S.passed_failure C (S.activator_of st.active st) m (S.with_status st.active Exhausted st))
      (λ n s. to_activator C P n (S.activator_of s.active s) m (S.with_status s.active Exhausted s))

  proc_failed : (m : M) (st : Store H) → Both st (λ s. S.proc_fails C m s)
  proc_failed m st = still st (λ s. S.proc_fails C m s) (λ n. proc_fails C P n m st)

  without_mark : (m : M) (st : Store H) → Both st (λ s. S.without_mark C P m s)
  without_mark m st = either_both (S.is_create_body C m st) st.outside (S.exhaust_active C P m (store_under fewer st))
      (S.exhaust_active C P m (store_under more st)) (S.proc_fails C m (store_under fewer st)) (S.proc_fails C m (store_under more st))
      (exhausted m st) (proc_failed m st)

  dropped : (m : M) (st : Store H) (d : MarkDrop M) → Both st (λ s. S.mark_dropped C P m s d)
  dropped m st NoMark = without_mark m st
  dropped m st (Goes a) = inl (running a st, (refl, refl))
  dropped m st (Repeats a) = turned st (running a) (λ n s. refl)
  dropped m st (WithoutLabel a) = inl (failing a st, (refl, refl))

  resumed : (why : Why) (m : M) (st : Store H) → Both st (λ s. S.resume_by C P why m s)
  resumed Alt m st = inl (failing m st, (refl, refl))
  resumed (Operating r) m st =
      turned st (λ st. S.outcome C (again r (S.here C m st)) m st) (λ n s. performed C P n (again r) (resumed_overlooks n r) m s)
  resumed (Scan pair) m st = inl (failing m (S.with_pair pair st), (refl, refl))
  resumed Escan m st = still st (λ s. S.with_exchange (C.swap_newest (S.pair_now s) m) failing s)
      (λ n. exchanged C P n (C.swap_newest (S.pair_now st) m) failing st (λ m s. refl))
  resumed Proc m st = turned st (λ st. S.maybe_exchanged (C.swap_oldest (S.pair_now st) m) m st running)
      (λ n s. maybe_exchanged C P n (C.swap_oldest (S.pair_now s) m) m s running (λ m s. refl))

  back_or_dropped : (m : M) (st : Store H) (o : Option (Why × M)) → Both st (λ s. S.resumed_or_dropped C P m s o)
  back_or_dropped m st None = dropped m st (C.drop_mark m)
  back_or_dropped m st (Some x) = resumed x.0 x.1 st

  pub fails : (m : M) (st : Store H) → Both st (λ s. S.fails C P m s)
  fails m st = back_or_dropped m st (C.resume m)

  -- Instructions

  instruction : (i : Instr) (m : M) (st : Store H) → Both st (λ s. S.instruction C P i m s)
  instruction I.Pnull m st = inl (S.push_item C (Val Null) m st, (refl, refl))
  instruction (I.Int k) m st = still st (λ s. S.instruction C P (I.Int k) m s) (λ n. found C P n (slice_get P.integers k)
      (λ z. S.push_item C (Val (Integer z)) m (store_under n st)) (λ z. S.push_item C (Val (Integer z)) m st) (λ x. refl))
  instruction (I.Str k) m st = still st (λ s. S.instruction C P (I.Str k) m s) (λ n. found C P n (slice_get P.strings k)
      (λ bytes. S.push_item C (Val (Text bytes)) m (store_under n st)) (λ bytes. S.push_item C (Val (Text bytes)) m st) (λ x. refl))
  instruction (I.Cset k) m st = still st (λ s. S.instruction C P (I.Cset k) m s) (λ n. found C P n (slice_get P.csets k)
      (λ set. S.push_item C (Val (Chars (S.members_of set))) m (store_under n st)) (λ set. S.push_item C (Val (Chars (S.members_of set))) m st)
      (λ x. refl))
  instruction (I.Local k) m st = still st (λ s. S.instruction C P (I.Local k) m s) (λ n. refl)
  instruction (I.Static k) m st = still st (λ s. S.instruction C P (I.Static k) m s) (λ n. refl)
  instruction (I.Global k) m st = still st (λ s. S.instruction C P (I.Global k) m s) (λ n. refl)
  instruction (I.Keywd word) m st = still st (λ s. S.instruction C P (I.Keywd word) m s)
      (λ n. pushed_or_fails C P n (keyword_item (S.standing_of C m st) word) m st)
  instruction I.Pop m st = still st (λ s. S.instruction C P I.Pop m s)
      (λ n. parted C P n (C.pop m) (λ item m. running m (store_under n st)) (λ item m. running m st) (λ x m. refl))
  instruction I.Dup m st = still st (λ s. S.instruction C P I.Dup m s)
      (λ n. parted C P n (C.pop m) (λ item below. S.push_item C item m (store_under n st)) (λ item below. S.push_item C item m st) (λ x m. refl))
  instruction (I.Op op) m st = taken_both (arity op) m st.outside (λ items m. S.turn P (store_under fewer st) (S.operate C op items m))
      (λ items m. S.turn P (store_under more st) (S.operate C op items m)) (λ xs m. turned st (S.operate C op xs m) (λ n s. operated C P n op xs m s))
  instruction (I.Llist k) m st =
      taken_both k m st.outside
      (λ items m. S.turn P (store_under fewer st)
      (λ st. S.with_values C items m st (λ values. S.list_made C values m st (λ list m st. S.push_item C (Val list) m st))))
      (λ items m. S.turn P (store_under more st)
      (λ st. S.with_values C items m st (λ values. S.list_made C values m st (λ list m st. S.push_item C (Val list) m st))))
      (λ xs m. turned st (λ st. S.with_values C xs m st (λ values. S.list_made C values m st (λ list m st. S.push_item C (Val list) m st)))
      (λ n s. listed C P n xs m s))
  instruction (I.Field k) m st = taken_both 1 m st.outside (λ items m. S.turn P (store_under fewer st) (S.field_applied C P k items m))
      (λ items m. S.turn P (store_under more st) (S.field_applied C P k items m))
      (λ xs m. turned st (S.field_applied C P k xs m) (λ n s. field_applied C P n k xs m s))
  instruction (I.Invoke k) m st = taken_both (suc k) m st.outside (λ items m. S.turn P (store_under fewer st) (S.invoked_with C P items m))
      (λ items m. S.turn P (store_under more st) (S.invoked_with C P items m))
      (λ xs m. turned st (S.invoked_with C P xs m) (λ n s. invoked_with C P n xs m s))
  instruction I.Appl m st = taken_both 2 m st.outside (λ items m. S.turn P (store_under fewer st) (S.applied_to_elements C P items m))
      (λ items m. S.turn P (store_under more st) (S.applied_to_elements C P items m))
      (λ xs m. turned st (S.applied_to_elements C P xs m) (λ n s. applied C P n xs m s))
  instruction (I.Mark l) m st = still st (λ s. S.instruction C P (I.Mark l) m s) (λ n. refl)
  instruction I.Mark0 m st = still st (λ s. S.instruction C P I.Mark0 m s) (λ n. refl)
  instruction I.Unmark m st = still st (λ s. S.instruction C P I.Unmark m s) (λ n. unmarked C P n m st running (λ m s. refl))
  instruction I.Eret m st = still st (λ s. S.instruction C P I.Eret m s) (λ n. parted C P n (C.pop m)
      (λ item m. S.with_value C item m (store_under n st) (λ value. S.unmark_then C m (store_under n st) (S.push_item C (Val value))))
      (λ item m. S.with_value C item m st (λ value. S.unmark_then C m st (S.push_item C (Val value))))
      (λ x m. value C P n x m st (λ value. S.unmark_then C m (store_under n st) (S.push_item C (Val value)))
      (λ value. S.unmark_then C m st (S.push_item C (Val value))) (λ v. unmarked C P n m st (S.push_item C (Val v)) (λ m s. refl))))
  instruction I.Esusp m st = still st (λ s. S.instruction C P I.Esusp m s) (λ n. parted C P n (C.pop m)
      (λ item m. S.with_found (C.suspend_mark m) (λ m. S.push_item C item m (store_under n st)))
      (λ item m. S.with_found (C.suspend_mark m) (λ m. S.push_item C item m st))
      (λ x m. found C P n (C.suspend_mark m) (λ m. S.push_item C x m (store_under n st)) (λ m. S.push_item C x m st) (λ m. refl)))
  instruction I.Limit m st = still st (λ s. S.instruction C P I.Limit m s) (λ n. parted C P n (C.pop m)
      (λ item m. S.with_value C item m (store_under n st) (λ value. S.limit_results C value (integer_of value) m (store_under n st)))
      (λ item m. S.with_value C item m st (λ value. S.limit_results C value (integer_of value) m st))
      (λ x m. value C P n x m st (λ value. S.limit_results C value (integer_of value) m (store_under n st))
      (λ value. S.limit_results C value (integer_of value) m st) (λ v. limited C P n v (integer_of v) m st)))
  instruction I.Lsusp m st = still st (λ s. S.instruction C P I.Lsusp m s) (λ n. parted C P n (C.pop m)
      (λ item m. S.with_found (C.count_down m) (S.on_pair (λ count m. S.limited_result C item count m (store_under n st))))
      (λ item m. S.with_found (C.count_down m) (S.on_pair (λ count m. S.limited_result C item count m st)))
      (λ x m. parted C P n (C.count_down m) (λ count m. S.limited_result C x count m (store_under n st)) (λ count m. S.limited_result C x count m st)
      (λ count m. limited_result C P n x count m st)))
  instruction I.Efail m st = still st (λ s. S.instruction C P I.Efail m s) (λ n. refl)
  instruction (I.Chfail l) m st = still st (λ s. S.instruction C P (I.Chfail l) m s)
      (λ n. found C P n (C.relabel l m) (λ m. running m (store_under n st)) (λ m. running m st) (λ m. refl))
  instruction (I.Goto l) m st = still st (λ s. S.instruction C P (I.Goto l) m s) (λ n. refl)
  instruction (I.Loop l) m st = turned st (running (C.go l m)) (λ n s. refl)
  instruction I.Bscan m st = still st (λ s. S.instruction C P I.Bscan m s) (λ n. parted C P n (C.pop m)
      (λ item m. S.with_value C item m (store_under n st)
      (λ value. S.with_made C (text_row value (S.here C m (store_under n st))) m (store_under n st) (S.scan_opened C)))
      (λ item m. S.with_value C item m st (λ value. S.with_made C (text_row value (S.here C m st)) m st (S.scan_opened C)))
      (λ x m. value C P n x m st (λ value. S.with_made C (text_row value (S.here C m (store_under n st))) m (store_under n st) (S.scan_opened C))
      (λ value. S.with_made C (text_row value (S.here C m st)) m st (S.scan_opened C))
      (λ v. made_by C P n (text_row v) (text_overlooks n v) m st (S.scan_opened C) (λ v m s. scan_opened C P n v m s))))
  instruction I.Escan m st = still st (λ s. S.instruction C P I.Escan m s) (λ n. parted C P n (C.pop m)
      (λ item m. S.with_exchange (C.swap_newest (S.pair_now st) m) (λ m. S.push_item C item (C.suspend Escan m)) (store_under n st))
      (λ item m. S.with_exchange (C.swap_newest (S.pair_now st) m) (λ m. S.push_item C item (C.suspend Escan m)) st)
      (λ x m. exchanged C P n (C.swap_newest (S.pair_now st) m) (λ m. S.push_item C x (C.suspend Escan m)) st (λ m s. refl)))
  instruction I.Ccase m st = still st (λ s. S.instruction C P I.Ccase m s)
      (λ n. found C P n (C.below m) (λ item. S.push_item C item m (store_under n st)) (λ item. S.push_item C item m st) (λ x. refl))
  instruction (I.Init l) m st = still st (λ s. S.instruction C P (I.Init l) m s)
      (λ n. initial C P n (slice_index_or st.begun (C.proc m) true) l m st)
  instruction I.Psusp m st = still st (λ s. S.instruction C P I.Psusp m s) (λ n. parted C P n (C.pop m)
      (λ item below. S.with_result C item m (store_under n st) (λ result. S.maybe_exchanged (C.swap_oldest (S.pair_now st) m) m (store_under n st)
      (λ m. S.return_to (C.suspend_proc m) (S.push_item C result))))
      (λ item below. S.with_result C item m st (λ result. S.maybe_exchanged (C.swap_oldest (S.pair_now st) m) m st
      (λ m. S.return_to (C.suspend_proc m) (S.push_item C result))))
      (λ x below. result C P n x m st (λ result. S.maybe_exchanged (C.swap_oldest (S.pair_now st) m) m (store_under n st)
      (λ m. S.return_to (C.suspend_proc m) (S.push_item C result)))
      (λ result. S.maybe_exchanged (C.swap_oldest (S.pair_now st) m) m st (λ m. S.return_to (C.suspend_proc m) (S.push_item C result)))
      (λ y. maybe_exchanged C P n (C.swap_oldest (S.pair_now st) m) m st (λ m. S.return_to (C.suspend_proc m) (S.push_item C y))
      (λ m s. returned C P n (C.suspend_proc m) (S.push_item C y) s (λ m s. refl)))))
  instruction I.Pret m st = still st (λ s. S.instruction C P I.Pret m s) (λ n. parted C P n (C.pop m)
      (λ item m. S.with_result C item m (store_under n st)
      (λ result. S.return_to (C.leave m) (S.push_item C result) (S.all_left C m (store_under n st))))
      (λ item m. S.with_result C item m st (λ result. S.return_to (C.leave m) (S.push_item C result) (S.all_left C m st)))
      (λ x m. result C P n x m st (λ result. S.return_to (C.leave m) (S.push_item C result) (S.all_left C m (store_under n st)))
      (λ result. S.return_to (C.leave m) (S.push_item C result) (S.all_left C m st))
      (λ y. ap (λ (s : Store H). S.return_to (C.leave m) (S.push_item C y) s) (all_left C P n m st)
      ∙ returned C P n (C.leave m) (S.push_item C y) (S.all_left C m st) (λ m s. refl))))
  instruction I.Pfail m st = either_both (S.is_create_body C m st) st.outside stuck stuck (S.proc_fails C m (store_under fewer st))
      (S.proc_fails C m (store_under more st)) (stuck_both st.outside) (proc_failed m st)
  instruction (I.Create l) m st = turned st (S.coexp_made C (C.locals m) (C.proc m) (C.address m) (C.go l m))
      (λ n s. coexp_made C P n (C.locals m) (C.proc m) (C.address m) (C.go l m) s)
  instruction I.Coact m st = taken_both 2 m st.outside (λ items m. S.turn P (store_under fewer st) (S.activation_of C items m))
      (λ items m. S.turn P (store_under more st) (S.activation_of C items m))
      (λ xs m. turned st (S.activation_of C xs m) (λ n s. activation_of C P n xs m s))
  instruction I.Coret m st = either_both (S.is_create_body C m st) st.outside
      (S.with_popped C m (λ item m. S.turn P (store_under fewer st) (λ st. S.with_value C item m st (λ value. S.result_given C value m st))))
      (S.with_popped C m (λ item m. S.turn P (store_under more st) (λ st. S.with_value C item m st (λ value. S.result_given C value m st))))
      stuck stuck
      (popped_both m st.outside (λ item m. S.turn P (store_under fewer st) (λ st. S.with_value C item m st (λ value. S.result_given C value m st)))
      (λ item m. S.turn P (store_under more st) (λ st. S.with_value C item m st (λ value. S.result_given C value m st)))
      (λ x m. turned st (λ st. S.with_value C x m st (λ value. S.result_given C value m st)) (λ n s. result_sent C P n x m s)))
      (stuck_both st.outside)
  instruction I.Cofail m st = either_both (S.is_create_body C m st) st.outside (S.exhaust_active C P m (store_under fewer st))
      (S.exhaust_active C P m (store_under more st)) stuck stuck (exhausted m st) (stuck_both st.outside)

  pub runs : (m : M) (st : Store H) → Both st (λ s. S.step C P (running m s))
  runs m st = found_both (S.instruction_at C P m) st.outside
      (λ instr. S.instruction C P instr (C.go (suc (C.address m)) m) (store_under fewer st))
      (λ instr. S.instruction C P instr (C.go (suc (C.address m)) m) (store_under more st))
      (λ i. instruction i (C.go (suc (C.address m)) m) st)
