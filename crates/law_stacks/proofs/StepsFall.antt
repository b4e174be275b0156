-- Each step falls: it makes a turn, or what is left becomes lighter.
use Rattle.std.proofs.Common.{◌≡◌, ℕ, zero, suc, ◌+◌, ◌-◌, ◌<◌, ◌≤◌, inl, inr, List, [], ◌∷◌, ◌++◌, length, Option, Some, None, refl, ap, ◌∙◌, arith, Bool, true, false, if◌then◌else◌}
use Rattle.std.specs.Prelude.{◌==◌, ℤ, pos, negsuc, nat_lt, nat_le, slice_get, slice_set, slice_index_or, drop}
use Rattle.std.proofs.lemmas.Bool.{ltb-true}
use Rattle.icn_text.specs.declared.op.Op.TheVariants as Ops
use Rattle.icn_defs.specs.Arities.{arity}
use Rattle.icn_code.specs.declared.instr.Instr.{Instr}
use Rattle.icn_code.specs.declared.instr.Instr.TheVariants as I
use Rattle.icn_code.specs.Codes.{Proc as Procedure}
use Rattle.icn_text.specs.declared.op.Op.{Op}
use Rattle.icn_run.specs.Rows.{Value, Null, Integer, Text, Chars, Procedure as ProcedureValue, ARecord, AList, ACoexp, Local, Whole, Part, Item, Val, Var, Setting, Outside, Outcome, Fails, Gives, Suspends, Error, Ends, Operation, Function, Ending, apply, again, keyword_item, value_row, list_row, text_row, record_row, coexpression_row, integer_of, number_of, record_at}
use Rattle.icn_run.specs.Calls.{Pair, Why, Alt, Op as Operating, Scan, Escan, Proc, MarkDrop, NoMark, Goes, Repeats, Outside as WithoutLabel, Calls}
use Rattle.icn_defs.specs.NamedValues.{named_by}
use Rattle.icn_run.specs.Step.{Program, Status, Fresh, Active, Waiting, Exhausted, Coexp, Store, State, running, failing, hopping, over, stuck, with_found, errs, turn_if, turn, here, with_at, with_given, with_made, with_value, with_values, push_item, outcome, list_made, with_pair, pair_now, scans_left, with_exchange, maybe_exchanged, swapped_back, all_left, coexp_at, status_of, activator_of, with_status, with_activator, fail_by, passed_failure, give_by, passed_value, exhaust_active, counted_result, result_given, is_main, is_create_body, with_new, coexp_made, refreshed_from, refresh, entered_by, entered_if, activation, fill_nulls, collect_rest, called_if, choose_item, pushed_or_fails, integer_called, named_called, Callee, IsProc, IsRecord, IsFunc, IsNothing, callee_of, callee_called, invoke_value, invoked_with, elements_called, applied_to_elements, field_index, field_taken, field_of, with_result, return_to, without_mark, mark_dropped, resume_by, resumed_or_dropped, fails, members_of, standing_of, with_popped, with_taken, unmark_then, limit_results, limited_result, scan_opened, initial_if, activation_of, operate, field_applied, instruction}
use Rattle.icn_defs.specs.KeptSizes.{KeepsSizes, KeepsIn}
use Rattle.icn_run.proofs.Errors.{kept_in, at_error}
use Rattle.law_stacks.proofs.RowsKeep.{rows_keep}
use Rattle.law_stacks.specs.Measure.{FitsStore, cost, worth, IfThere, Stays, Pays, Lightens, DropsWell, ResumesWell, Weighs, FitsStatus, FitAll, Fits, After, Later}

pub cost_some : (n : ℕ) → 1 ≤ cost n
cost_some zero = omega arith
cost_some (suc n) = let one = cost_some n in omega arith

cost_more : (m n : ℕ) → m ≤ n → cost m ≤ cost n
cost_more zero n le = cost_some n
cost_more (suc m) zero le = absurd (omega arith)
cost_more (suc m) (suc n) le = let more = cost_more m n (omega arith) in omega arith

-- a place behind another is worth no more
pub worth_less : (N p q : ℕ) → p ≤ q → worth N q ≤ worth N p
worth_less N p q le = cost_more (N - q) (N - p) (omega arith)

-- a place weighs four times the next
pub worth_next : (N p : ℕ) → p < N → worth N p ≡ worth N (suc p) + worth N (suc p) + worth N (suc p) + worth N (suc p)
worth_next N p lt = let e : N - p ≡ suc (N - suc p) = omega arith in ap cost e

-- whatever is there
-- the labels that an instruction goes to forward lie at the place of the next instruction or behind it
abbrev pub IsForwardFrom : ℕ → Instr → Type 0
IsForwardFrom next (I.Mark label) = next ≤ label
IsForwardFrom next (I.Goto label) = next ≤ label
IsForwardFrom next (I.Init label) = next ≤ label
IsForwardFrom next instr = Unit {0}

pub there : {A : Type 0} (o : Option A) → IfThere o (λ x. Unit {0})
there None = tt
there (Some x) = tt

fit_set : {K : Type 0} (F : K → Type 0) (coexps : List (Coexp K)) (n : ℕ) (coexp : Coexp K) → FitsStatus F coexp.status → FitAll F coexps
    → FitAll F (slice_set coexps n coexp)
fit_set F [] n coexp s h = tt
fit_set F (c ∷ cs) zero coexp s h = (s, h.1)
fit_set F (c ∷ cs) (suc n) coexp s h = (h.0, fit_set F cs n coexp s h.1)

pub fit_at : {K : Type 0} (F : K → Type 0) (coexps : List (Coexp K)) (n : ℕ) (d : Coexp K) → FitsStatus F d.status → FitAll F coexps
    → FitsStatus F (slice_index_or coexps n d).status
fit_at F [] n d s h = s
fit_at F (c ∷ cs) zero d s h = h.0
fit_at F (c ∷ cs) (suc n) d s h = fit_at F cs n d s h.1

fit_more : {K : Type 0} (F : K → Type 0) (coexps : List (Coexp K)) (coexp : Coexp K) → FitsStatus F coexp.status → FitAll F coexps
    → FitAll F (coexps ++ coexp ∷ [])
fit_more F [] coexp s h = (s, tt)
fit_more F (c ∷ cs) coexp s h = (h.0, fit_more F cs coexp s h.1)

pub either_way : {A : Type 0} (T : A → Type 0) (b : Bool) (x y : A) → T x → T y → T (if b then x else y)
either_way T true x y p q = p
either_way T false x y p q = q

-- a claim on states that holds where the run ends or lacks something
pub record Allows {K M : Type 0} (T : State K M → Type 0) : Type 0 where
  pub lacks : T stuck
  pub ends : (ending : Ending) (outside : Outside) → T (over ending outside)

module _ {K M : Type 0} (T : State K M → Type 0) (allows : Allows T) where
  pub when_found : {A : Type 0} (Q : A → Type 0) (o : Option A) (next : A → State K M) → IfThere o Q → ((x : A) → Q x → T (next x)) → T (with_found o next)
  when_found Q None next h f = allows.lacks
  when_found Q (Some x) next h f = f x h

-- what is true after a turn
module _ {K M : Type 0} (C : Calls K M) (N : ℕ) (W : Weighs C N) (P : Program) (B : ℕ) (n : ℕ) where
  abbrev pub A : State K M → Type 0
  A s = After C N B W n s

  allowed : Allows A
  allowed = record { lacks = tt; ends = λ ending outside. tt }

  abbrev Holds : Store K → Type 0
  Holds st = FitsStore C N B W st

  -- a stack and a store that may go on after a turn
  abbrev pub Ready : M → Store K → Type 0
  Ready m st = Fits C N B W m × Holds st × (st.turns ≡ n + 1)

  abbrev pub Rest : Store K → Type 0
  Rest st = Holds st × (st.turns ≡ n + 1)

  -- rows keep the bound
  after_row : (m : M) (st : Store K) (seen : Setting) → KeepsSizes (here C m st) seen → Holds st → Holds (with_at seen st)
  after_row m st seen k h = (h.0, ap (λ b. b.turns) k.bounds ∙ h.1)

  a_push : (item : Item) (m : M) (st : Store K) → Ready m st → A (push_item C item m st)
  a_push item m st h = ((W.push item m h.0).fits, h.1, h.2)

  a_errs : (j : ℕ) (v : Option Value) (m : M) (st : Store K) → Ready m st → A (errs j v m st)
  a_errs j v m st h = at_error A j v m st tt h

  a_outcome : (o : Outcome) (m : M) (st : Store K) → KeepsIn (here C m st) o → Ready m st → A (outcome C o m st)
  a_outcome (Fails seen) m st k h = ((W.set_locals seen.locals m h.0).fits, after_row m st seen k h.1, h.2)
  a_outcome (Gives item seen) m st k h = ((W.push item _ (W.set_locals seen.locals m h.0).fits).fits, after_row m st seen k h.1, h.2)
  a_outcome (Suspends item r seen) m st k h =
      ((W.push item _ (W.suspend (Operating r) _ tt (W.set_locals seen.locals m h.0).fits).fits).fits, after_row m st seen k h.1, h.2)
  a_outcome (Error j v seen) m st k h = a_errs j v _ (with_at seen st) ((W.set_locals seen.locals m h.0).fits, after_row m st seen k h.1, h.2)
  a_outcome (Ends j seen) m st k h = tt

  a_valued : (o : Outcome) (m : M) (st : Store K) (next : Value → State K M) → Ready m st → ((v : Value) → A (next v)) → A (with_given o m st next)
  a_valued (Gives (Val v) seen) m st next h f = f v
  a_valued (Gives (Var v) seen) m st next h f = h
  a_valued (Error j v seen) m st next h f = a_errs j v m st h
  a_valued (Fails seen) m st next h f = h
  a_valued (Suspends item r seen) m st next h f = h
  a_valued (Ends j seen) m st next h f = h

  a_value : (item : Item) (m : M) (st : Store K) (next : Value → State K M) → Ready m st → ((v : Value) → A (next v)) → A (with_value C item m st next)
  a_value item m st next h f = a_valued (value_row item (here C m st)) m st next h f

  a_values : (items : List Item) (m : M) (st : Store K) (next : List Value → State K M) → Ready m st → ((vs : List Value) → A (next vs))
      → A (with_values C items m st next)
  a_values [] m st next h f = f []
  a_values (item ∷ items) m st next h f = a_value item m st (λ value. with_values C items m st (λ values. next (value ∷ values))) h
      (λ v. a_values items m st (λ values. next (v ∷ values)) h (λ vs. f (v ∷ vs)))

  -- what is made changes the store
  a_made : (o : Outcome) (m : M) (st : Store K) (next : Value → M → Store K → State K M) → KeepsIn (here C m st) o → Ready m st
      → ((v : Value) (a : M) (st' : Store K) → Ready a st' → A (next v a st')) → A (with_made C o m st next)
  a_made (Gives (Val v) seen) m st next k h f =
      f v (C.set_locals seen.locals m) (with_at seen st) ((W.set_locals seen.locals m h.0).fits, after_row m st seen k h.1, h.2)
  a_made (Gives (Var v) seen) m st next k h f = h
  a_made (Error j v seen) m st next k h f =
      a_errs j v _ (with_at seen st) ((W.set_locals seen.locals m h.0).fits, after_row m st seen k h.1, h.2)
  a_made (Fails seen) m st next k h f = h
  a_made (Suspends item r seen) m st next k h f = h
  a_made (Ends j seen) m st next k h f = h

  a_list : (values : List Value) (m : M) (st : Store K) (next : Value → M → Store K → State K M) → Ready m st
      → ((v : Value) (a : M) (st' : Store K) → Ready a st' → A (next v a st')) → A (list_made C values m st next)
  a_list values m st next h f = a_made (list_row values (here C m st)) m st next (rows_keep.listed values (here C m st)) h f

  a_maybe : (v : ℕ) (o : Option (Pair × M)) (m : M) (st : Store K) → IfThere o (λ swap. Stays W.Bounded C.address 0 v m swap.1) → Ready m st
      → A (maybe_exchanged o m st running)
  a_maybe v None m st i h = h
  a_maybe v (Some swap) m st i h = (i.fits, h.1, h.2)

  -- co-expressions

  status_fits : (k : ℕ) (st : Store K) → Holds st → FitsStatus W.FitsAway (status_of k st)
  status_fits k st h = fit_at W.FitsAway st.coexps k (record { status = Exhausted; activator = zero; values = []; proc = zero; address = zero }) tt h.0

  a_fail_by : (s : Status K) (k : ℕ) (m : M) (st : Store K) → Rest st → FitsStatus W.FitsAway s → A (fail_by C s k m st)
  a_fail_by Fresh k m st h f = tt
  a_fail_by Active k m st h f = tt
  a_fail_by (Waiting w) k m st h f = (W.taken_up w m f, (fit_set W.FitsAway st.coexps k _ tt h.0.0, h.0.1), h.1)
  a_fail_by Exhausted k m st h f = h

  a_pass_failure : (k : ℕ) (m : M) (st : Store K) → Rest st → A (passed_failure C k m st)
  a_pass_failure k m st h = a_fail_by (status_of k st) k m st h (status_fits k st h.0)

  pub activator_lighter : (m : M) (st : Store K) → Rest st → A (passed_failure C (activator_of st.active st) m st)
  activator_lighter m st h = a_pass_failure (activator_of st.active st) m st h

  a_exhausted : (m : M) (st : Store K) → Rest st → A (passed_failure C (activator_of st.active st) m (with_status st.active Exhausted st))
  a_exhausted m st h =
      a_pass_failure (activator_of st.active st) m (with_status st.active Exhausted st) ((fit_set W.FitsAway st.coexps st.active _ tt h.0.0, h.0.1), h.1)

  a_give_by : (s : Status K) (k : ℕ) (v : Value) (m : M) (st : Store K) → Rest st → FitsStatus W.FitsAway s → A (give_by C s k v m st)
  a_give_by Fresh k v m st h f = (W.begin _ _ _ m, (fit_set W.FitsAway st.coexps k _ tt h.0.0, h.0.1), h.1)
  a_give_by Active k v m st h f = tt
  a_give_by (Waiting w) k v m st h f = (
    (W.push (Val v) (C.taken_up w m) (W.taken_up w m f)).fits,
    (fit_set W.FitsAway st.coexps k (record (coexp_at k st) { status = Active }) tt h.0.0, h.0.1),
    h.1,
  )
  a_give_by Exhausted k v m st h f = h

  a_pass_value : (k : ℕ) (v : Value) (m : M) (st : Store K) → Rest st → A (passed_value C k v m st)
  a_pass_value k v m st h = a_give_by (status_of k st) k v m st h (status_fits k st h.0)

  a_result : (v : Value) (m : M) (st : Store K) → Ready m st → A (result_given C v m st)
  a_result v m st h = a_pass_value (activator_of st.active st) v m (counted_result st.active (with_status st.active (Waiting (C.kept m)) st))
      ((fit_set W.FitsAway st.coexps st.active _ (W.kept m h.0) h.1.0, h.1.1), h.2)

  a_new : (values : List Value) (proc place : ℕ) (m : M) (st : Store K) → Ready m st → A (coexp_made C values proc place m st)
  a_new values proc place m st h = a_made (coexpression_row (length values) (here C m st)) m st
      (λ value m st. push_item C (Val value) m (with_new values proc place st)) (rows_keep.created (length values) (here C m st)) h
      (λ v a st' h'. (
        (W.push (Val v) a h'.0).fits,
        (fit_more W.FitsAway st'.coexps (record { status = Fresh; activator = 0; values = values; proc = proc; address = place }) tt h'.1.0, h'.1.1),
        h'.2,
      ))

  a_refreshed_from : (o : Option (Coexp K)) (m : M) (st : Store K) → Ready m st → A (refreshed_from C o m st)
  a_refreshed_from None m st h = tt
  a_refreshed_from (Some c) m st h = a_new c.values c.proc c.address m st h

  a_refresh : (v : Value) (m : M) (st : Store K) → Ready m st → A (refresh C v m st)
  a_refresh (ACoexp zero) m st h = a_errs 215 (Some (ACoexp zero)) m st h
  a_refresh (ACoexp (suc k)) m st h = a_refreshed_from (slice_get st.coexps (suc k)) m st h
  a_refresh v m st h = a_errs 118 (Some v) m st h

  a_entered : (k : ℕ) (v : Value) (m : M) (st : Store K) → Ready m st → A (entered_by C k v m st)
  a_entered k v m st h =
      let waits : FitAll W.FitsAway (with_status st.active (Waiting (C.kept m)) st).coexps = fit_set W.FitsAway st.coexps st.active _ (W.kept m h.0) h.1.0 in
      let st2 = with_status st.active (Waiting (C.kept m)) st in
      a_pass_value k v m (with_activator k st.active st2) ((fit_set W.FitsAway st2.coexps k _ (status_fits k st2 (waits, h.1.1)) waits, h.1.1), h.2)

  a_entered_if : (b : Bool) (s : Status K) (k : ℕ) (v : Value) (m : M) (st : Store K) → Ready m st → A (entered_if C b s k v m st)
  a_entered_if b Exhausted k v m st h = h
  a_entered_if true Fresh k v m st h = a_push (Val v) m st h
  a_entered_if true Active k v m st h = a_push (Val v) m st h
  a_entered_if true (Waiting w) k v m st h = a_push (Val v) m st h
  a_entered_if false Fresh k v m st h = a_entered k v m st h
  a_entered_if false Active k v m st h = a_entered k v m st h
  a_entered_if false (Waiting w) k v m st h = a_entered k v m st h

  a_activation : (v other : Value) (m : M) (st : Store K) → Ready m st → A (activation C v other m st)
  a_activation v (ACoexp k) m st h = a_entered_if (k == st.active) (status_of k st) k v m st h
  a_activation v other m st h = a_errs 118 (Some other) m st h

  a_activation_of : (items : List Item) (m : M) (st : Store K) → Ready m st → A (activation_of C items m st)
  a_activation_of (x ∷ y ∷ []) m st h = a_value x m st _ h (λ v. a_value y m st _ h (λ w. a_activation v w m st h))
  a_activation_of _ m st h = tt

  -- calls

  a_collected : (b : Bool) (k : ℕ) (vs : List Value) (m : M) (st : Store K) (next : List Value → M → Store K → State K M) → Ready m st
      → ((ps : List Value) (a : M) (st' : Store K) → Ready a st' → A (next ps a st')) → A (collect_rest C b k vs m st next)
  a_collected false k vs m st next h f = f (fill_nulls k vs) m st h
  a_collected true k vs m st next h f = a_list (drop (k - 1) vs) m st (λ rest m st. next (fill_nulls (k - 1) vs ++ rest ∷ []) m st) h
      (λ rest a st' h'. f (fill_nulls (k - 1) vs ++ rest ∷ []) a st' h')

  a_called_if : (b : Bool) (k : ℕ) (entry : Procedure) (vs : List Value) (m : M) (st : Store K) → Ready m st → A (called_if C b k entry vs m st)
  a_called_if false k entry vs m st h = a_errs 301 None m st h
  a_called_if true k entry vs m st h = a_collected entry.collects entry.parameters vs m st _ h (λ ps a st' h'. (W.enter k _ a h'.0, h'.1, h'.2))

  a_callee : (c : Callee) (k : ℕ) (items : List Item) (m : M) (st : Store K) → Ready m st → A (callee_called C c k items m st)
  a_callee (IsProc entry) k items m st h = a_values items m st _ h (λ vs. a_called_if (nat_le (suc (C.level m)) st.world.heap.bounds.levels) k entry vs m st h)
  a_callee (IsRecord kind entry) k items m st h = a_values items
      m st _ h (λ vs. a_made (record_row kind (fill_nulls (length entry.fields) vs) (here C m st)) m st (λ value m st. push_item C (Val value) m st)
      (rows_keep.recorded kind (fill_nulls (length entry.fields) vs) (here C m st)) h (λ v a st' h'. a_push (Val v) a st' h'))
  a_callee (IsFunc func) k items m st h =
      a_outcome (apply st.names (Function func) items (here C m st)) m st (rows_keep.applied st.names (Function func) items (here C m st)) h
  a_callee IsNothing k items m st h = a_errs 106 (Some (ProcedureValue k)) m st h

  a_or_fails : (o : Option Item) (m : M) (st : Store K) → Ready m st → A (pushed_or_fails C o m st)
  a_or_fails (Some item) m st h = a_push item m st h
  a_or_fails None m st h = h

  a_named : (v : Value) (o : Option ℕ) (items : List Item) (m : M) (st : Store K) → Ready m st → A (named_called C P v o items m st)
  a_named v (Some k) items m st h = a_callee (callee_of P k) k items m st h
  a_named v None items m st h = a_errs 106 (Some v) m st h

  a_integer : (v : Value) (o : Option ℤ) (items : List Item) (m : M) (st : Store K) → Ready m st → A (integer_called C P v o items m st)
  a_integer v (Some k) items m st h = a_or_fails (choose_item k items) m st h
  a_integer v None items m st h = a_named v (named_by st.names v) items m st h

  a_invoked : (v : Value) (items : List Item) (m : M) (st : Store K) → Ready m st → A (invoke_value C P v items m st)
  a_invoked (ProcedureValue k) items m st h = a_callee (callee_of P k) k items m st h
  a_invoked v items m st h = a_integer v (number_of v) items m st h

  a_invoked_with : (items : List Item) (m : M) (st : Store K) → Ready m st → A (invoked_with C P items m st)
  a_invoked_with [] m st h = tt
  a_invoked_with (callee ∷ items) m st h = a_value callee m st _ h (λ v. a_invoked v items m st h)

  a_elements : (v from : Value) (m : M) (st : Store K) → Ready m st → A (elements_called C P v from m st)
  a_elements v (AList k) m st h = a_invoked v _ m st h
  a_elements v (ARecord k) m st h = a_invoked v _ m st h
  a_elements v from m st h = a_errs 126 (Some from) m st h

  a_applied : (items : List Item) (m : M) (st : Store K) → Ready m st → A (applied_to_elements C P items m st)
  a_applied (x ∷ y ∷ []) m st h = a_value x m st _ h (λ v. a_value y m st _ h (λ from. a_elements v from m st h))
  a_applied _ m st h = tt

  a_taken : (o : Option ℕ) (k : ℕ) (m : M) (st : Store K) → Ready m st → A (field_taken C o k m st)
  a_taken None k m st h = a_errs 207 (Some (ARecord k)) m st h
  a_taken (Some place) k m st h = a_push _ m st h

  a_field : (field : ℕ) (v : Value) (m : M) (st : Store K) → Ready m st → A (field_of C P field v m st)
  a_field field (ARecord k) m st h = a_taken (field_index P field (record_at st.world.heap k).kind) k m st h
  a_field field v m st h = a_errs 107 (Some v) m st h

  a_field_applied : (field : ℕ) (items : List Item) (m : M) (st : Store K) → Ready m st → A (field_applied C P field items m st)
  a_field_applied field [] m st h = tt
  a_field_applied field (item ∷ items) m st h = a_value item m st _ h (λ v. a_field field v m st h)

  a_refreshing : (items : List Item) (m : M) (st : Store K) → Ready m st → A (operate C Ops.Refresh items m st)
  a_refreshing [] m st h =
      a_outcome (apply st.names (Operation Ops.Refresh) [] (here C m st)) m st (rows_keep.applied st.names (Operation Ops.Refresh) [] (here C m st)) h
  a_refreshing (item ∷ items) m st h = a_value item m st _ h (λ v. a_refresh v m st h)

  a_operated : (op : Op) (items : List Item) (m : M) (st : Store K) → Ready m st → A (operate C op items m st)
  a_operated Ops.Refresh items m st h = a_refreshing items m st h
  a_operated op items m st h =
      a_outcome (apply st.names (Operation op) items (here C m st)) m st (rows_keep.applied st.names (Operation op) items (here C m st)) h

-- what is true of a step: a turn is made, or what is left becomes lighter than w
module _ {K M : Type 0} (C : Calls K M) (N : ℕ) (W : Weighs C N) (P : Program) (B : ℕ) (n w : ℕ) (few : n ≤ B) where
  abbrev pub Lt : State K M → Type 0
  Lt s = Later C N B W n w s

  pub lt_allowed : Allows Lt
  lt_allowed = record { lacks = tt; ends = λ ending outside. tt }

  after_turn : (s : State K M) → After C N B W n s → n < B → Lt s
  after_turn (running m st) h lt = (h.0, h.1, inl (h.2, lt))
  after_turn (failing m st) h lt = (h.0, h.1, inl (h.2, lt))
  after_turn (hopping m st) h lt = (h.0, (h.1, lt))
  after_turn (over ending outside) h lt = tt
  after_turn stuck h lt = tt

  -- the stores of one step before its turn
  pub record Same (st : Store K) : Type 0 where
    pub fit : FitsStore C N B W st
    pub turns : st.turns ≡ n

  abbrev pub TurnOf : Store K → Store K
  TurnOf st = record st { turns = suc st.turns }

  by_bound : (st : Store K) (event : Store K → State K M) (b : Bool) → nat_lt st.turns st.world.heap.bounds.turns ≡ b → st.turns ≡ n
      → st.world.heap.bounds.turns ≡ B → After C N B W n (event (TurnOf st)) → Lt (turn_if b st event)
  by_bound st event false q e g h = tt
  by_bound st event true q e g h = let lt = ltb-true st.turns st.world.heap.bounds.turns q in after_turn _ h (omega arith)

  -- a turn, and then its event
  pub turned : (st : Store K) (event : Store K → State K M) → Same st → After C N B W n (event (TurnOf st)) → Lt (turn P st event)
  turned st event g h = by_bound st event (nat_lt st.turns st.world.heap.bounds.turns) refl g.turns g.fit.1 h

  same_left : (o : Option Pair) (st : Store K) → Same st → Same (scans_left o st)
  same_left None st s = s
  same_left (Some pair) st s = record { fit = s.fit; turns = s.turns }

  same_back : (o : Option (Pair × M)) (st : Store K) → Same st → Same (swapped_back o st)
  same_back None st s = s
  same_back (Some swap) st s = record { fit = s.fit; turns = s.turns }

  -- ready for a turn
  pub ready : (m : M) (st : Store K) → Fits C N B W m → Same st → Fits C N B W m × FitsStore C N B W st × (suc st.turns ≡ n + 1)
  ready m st f s = let e = s.turns in (f, s.fit, omega arith)

  -- the place is that of the next instruction
  module _ (m : M) (fits : Fits C N B W m)
      (bound : worth N (C.address m) + worth N (C.address m) + worth N (C.address m) + worth N (C.address m) + fits.0 ≤ w) where
    go_on : (k : ℕ) (after : M) (st : Store K) → Stays W.Bounded C.address k fits.0 m after → k ≤ suc (worth N (C.address m)) → Same st → Lt (running after st)
    go_on k after st s le g =
        let more = s.weighs in let e : worth N (C.address after) ≡ worth N (C.address m) = ap (worth N) s.stands in let one = cost_some (N - C.address m) in
        (s.fits, g.fit, inr (g.turns, omega arith))

    fail_on : (k : ℕ) (after : M) (st : Store K) → Stays W.Bounded C.address k fits.0 m after → k ≤ suc (worth N (C.address m)) → Same st
        → Lt (failing after st)
    fail_on k after st s le g = let more = s.weighs in let one = cost_some (N - C.address m) in (s.fits, g.fit, inr (g.turns, omega arith))

    abbrev stay : Stays W.Bounded C.address 0 fits.0 m m
    stay = record { fits = fits; weighs = omega arith; stands = refl }

    andthen : (j k : ℕ) (a b : M) → (s : Stays W.Bounded C.address j fits.0 m a) → Stays W.Bounded C.address k s.fits.0 a b
        → Stays W.Bounded C.address (k + j) fits.0 m b
    andthen j k a b s t = let x = s.weighs in let y = t.weighs in record { fits = t.fits; weighs = omega arith; stands = t.stands ∙ s.stands }

    then_same : (k : ℕ) (a b : M) → (s : Stays W.Bounded C.address k fits.0 m a) → Stays W.Bounded C.address 0 s.fits.0 a b
        → Stays W.Bounded C.address k fits.0 m b
    then_same k a b s t = let x = s.weighs in let y = t.weighs in record { fits = t.fits; weighs = omega arith; stands = t.stands ∙ s.stands }

    -- a call that the weight paid for
    paid_on : (k : ℕ) (a after : M) (st : Store K) → (s : Stays W.Bounded C.address k fits.0 m a) → k ≤ suc (worth N (C.address m))
        → Pays W.Bounded C.address N s.fits.0 after → Same st → Lt (running after st)
    paid_on k a after st s le p g = let x = s.weighs in let y = p.weighs in let one = cost_some (N - C.address m) in (p.fits, g.fit, inr (g.turns, omega arith))

    paid_push : (k : ℕ) (a after : M) (item : Item) (st : Store K) → (s : Stays W.Bounded C.address k fits.0 m a) → k ≤ suc (worth N (C.address m))
        → Pays W.Bounded C.address N s.fits.0 after → Same st → Lt (push_item C item after st)
    paid_push k a after item st s le p g =
        let t = W.push item after p.fits in let x = s.weighs in let y = p.weighs in let z = t.weighs in let one = cost_some (N - C.address m) in
        let e : worth N (C.address (C.push item after)) ≡ worth N (C.address after) = ap (worth N) t.stands in
        (t.fits, g.fit, inr (g.turns, omega arith))

    paid_fail : (k : ℕ) (a after : M) (st : Store K) → (s : Stays W.Bounded C.address k fits.0 m a) → k ≤ suc (worth N (C.address m))
        → Pays W.Bounded C.address N s.fits.0 after → Same st → Lt (failing after st)
    paid_fail k a after st s le p g =
        let x = s.weighs in let y = p.weighs in let one = cost_some (N - C.address m) in (p.fits, g.fit, inr (g.turns, omega arith))

    -- a label behind the instruction
    jump : (label : ℕ) (st : Store K) → C.address m ≤ label → Same st → Lt (running (C.go label m) st)
    jump label st le g =
        let e : worth N (C.address (C.go label m)) ≡ worth N label = ap (worth N) (W.go_stands label m) in let y = worth_less N (C.address m) label le in
        let one = cost_some (N - C.address m) in ((fits.0, W.go label m fits.0 fits.1), g.fit, inr (g.turns, omega arith))

    push_on : (k : ℕ) (a : M) (item : Item) (st : Store K) → Stays W.Bounded C.address k fits.0 m a → k ≤ suc (worth N (C.address m)) → Same st
        → Lt (push_item C item a st)
    push_on k a item st s le g = go_on (0 + k) (C.push item a) st (andthen k 0 a (C.push item a) s (W.push item a s.fits)) (omega arith) g

    lt_errs : (j : ℕ) (v : Option Value) (a : M) (st : Store K) → Stays W.Bounded C.address 0 fits.0 m a → Same st → Lt (errs j v a st)
    lt_errs j v a st s g = at_error Lt j v a st tt (fail_on 0 a (kept_in j v st) s (omega arith) (record { fit = g.fit; turns = g.turns }))

    lt_valued : (o : Outcome) (a : M) (st : Store K) (next : Value → State K M) → Stays W.Bounded C.address 0 fits.0 m a → Same st → ((v : Value) → Lt (next v))
        → Lt (with_given o a st next)
    lt_valued (Gives (Val v) seen) a st next s g f = f v
    lt_valued (Gives (Var v) seen) a st next s g f = fail_on 0 a st s (omega arith) g
    lt_valued (Error j v seen) a st next s g f = lt_errs j v a st s g
    lt_valued (Fails seen) a st next s g f = fail_on 0 a st s (omega arith) g
    lt_valued (Suspends item r seen) a st next s g f = fail_on 0 a st s (omega arith) g
    lt_valued (Ends j seen) a st next s g f = fail_on 0 a st s (omega arith) g

    lt_value : (item : Item) (a : M) (st : Store K) (next : Value → State K M) → Stays W.Bounded C.address 0 fits.0 m a → Same st → ((v : Value) → Lt (next v))
        → Lt (with_value C item a st next)
    lt_value item a st next s g f = lt_valued (value_row item (here C a st)) a st next s g f

    lt_made : (o : Outcome) (a : M) (st : Store K) (next : Value → M → Store K → State K M) → KeepsIn (here C a st) o → Stays W.Bounded C.address 0 fits.0 m a
        → Same st → ((v : Value) (b : M) (st' : Store K) → Stays W.Bounded C.address 0 fits.0 m b → Same st' → Lt (next v b st')) → Lt (with_made C o a st next)
    lt_made (Gives (Val v) seen) a st next k s g f =
        f v (C.set_locals seen.locals a) (with_at seen st) (then_same 0 a (C.set_locals seen.locals a) s (W.set_locals seen.locals a s.fits))
        (record { fit = (g.fit.0, ap (λ b. b.turns) k.bounds ∙ g.fit.1); turns = g.turns })
    lt_made (Gives (Var v) seen) a st next k s g f = fail_on 0 a st s (omega arith) g
    lt_made (Error j v seen) a st next k s g f =
        lt_errs j v (C.set_locals seen.locals a) (with_at seen st) (then_same 0 a (C.set_locals seen.locals a) s (W.set_locals seen.locals a s.fits))
        (record { fit = (g.fit.0, ap (λ b. b.turns) k.bounds ∙ g.fit.1); turns = g.turns })
    lt_made (Fails seen) a st next k s g f = fail_on 0 a st s (omega arith) g
    lt_made (Suspends item r seen) a st next k s g f = fail_on 0 a st s (omega arith) g
    lt_made (Ends j seen) a st next k s g f = fail_on 0 a st s (omega arith) g

    popping : (next : Item → M → State K M) → ((item : Item) (a : M) → Stays W.Bounded C.address 0 fits.0 m a → Lt (next item a)) → Lt (with_popped C m next)
    popping next f = when_found Lt lt_allowed (λ top. Stays W.Bounded C.address 0 fits.0 m top.1) (C.pop m) _ (W.pop m fits) (λ top s. f top.0 top.1 s)

    taking : (k : ℕ) (next : List Item → M → State K M) → ((items : List Item) (a : M) → Stays W.Bounded C.address 0 fits.0 m a → Lt (next items a))
        → Lt (with_taken C k m next)
    taking k next f =
        when_found Lt lt_allowed (λ tops. Stays W.Bounded C.address 0 fits.0 m tops.1) (C.take k m) _ (W.take k m fits) (λ tops s. f tops.0 tops.1 s)

    unmarking : (k : ℕ) (a : M) (st : Store K) (next : M → Store K → State K M) → Stays W.Bounded C.address k fits.0 m a → Same st
        → ((b : M) (st' : Store K) → Stays W.Bounded C.address k fits.0 m b → Same st' → Lt (next b st')) → Lt (unmark_then C a st next)
    unmarking k a st next s g f = when_found Lt lt_allowed (λ outside. Stays W.Bounded C.address 0 s.fits.0 a outside.0) (C.unmark a) _ (W.unmark a s.fits)
        (λ outside t. f outside.0 (scans_left outside.1 st) (then_same k a outside.0 s t) (same_left outside.1 st g))

    exchanging_at : (a : M) → (s : Stays W.Bounded C.address 0 fits.0 m a) → (o : Option (Pair × M)) (next : M → Store K → State K M) (st : Store K)
        → IfThere o (λ swap. Stays W.Bounded C.address 0 s.fits.0 a swap.1) → Same st
        → ((b : M) (st' : Store K) → Stays W.Bounded C.address 0 fits.0 m b → Same st' → Lt (next b st')) → Lt (with_exchange o next st)
    exchanging_at a s None next st i g f = tt
    exchanging_at a s (Some swap) next st i g f = f swap.1 (with_pair swap.0 st) (then_same 0 a swap.1 s i) (record { fit = g.fit; turns = g.turns })

    exchanging : (o : Option (Pair × M)) (next : M → Store K → State K M) (st : Store K) → IfThere o (λ swap. Stays W.Bounded C.address 0 fits.0 m swap.1)
        → Same st
        → ((b : M) (st' : Store K) → Stays W.Bounded C.address 0 fits.0 m b → Same st' → Lt (next b st')) → Lt (with_exchange o next st)
    exchanging None next st i g f = tt
    exchanging (Some swap) next st i g f = f swap.1 (with_pair swap.0 st) i (record { fit = g.fit; turns = g.turns })

    maybe : (o : Option (Pair × M)) (next : M → Store K → State K M) (st : Store K) → IfThere o (λ swap. Stays W.Bounded C.address 0 fits.0 m swap.1) → Same st
        → ((b : M) (st' : Store K) → Stays W.Bounded C.address 0 fits.0 m b → Same st' → Lt (next b st')) → Lt (maybe_exchanged o m st next)
    maybe None next st i g f = f m st stay g
    maybe (Some swap) next st i g f = f swap.1 (with_pair swap.0 st) i (record { fit = g.fit; turns = g.turns })

    -- back in the caller, or at the end of the run
    returning : (k : ℕ) (a : M) (o : Option M) (next : M → Store K → State K M) (st : Store K) → (s : Stays W.Bounded C.address k fits.0 m a)
        → k ≤ suc (worth N (C.address m))
        → IfThere o (λ caller. Pays W.Bounded C.address N s.fits.0 caller) → Same st
        → ((caller : M) → Pays W.Bounded C.address N s.fits.0 caller → Lt (next caller st)) → Lt (return_to o next st)
    returning k a None next st s le i g f = either_way Lt (is_main st.active) _ _ tt tt
    returning k a (Some caller) next st s le i g f = f caller i

    resulting_at : (a : M) (item : Item) (st : Store K) (next : Item → State K M) → Stays W.Bounded C.address 0 fits.0 m a → Same st
        → ((x : Item) → Lt (next x))
        → Lt (with_result C item a st next)
    resulting_at a (Var (Whole (Local k))) st next s g f = lt_value (Var (Whole (Local k))) a st (λ value. next (Val value)) s g (λ v. f (Val v))
    resulting_at a (Var (Part (Local k) place size)) st next s g f =
        lt_value (Var (Part (Local k) place size)) a st (λ value. next (Val value)) s g (λ v. f (Val v))
    resulting_at a item st next s g f = f item

    l_limited : (a : M) (v : Value) (o : Option ℤ) (st : Store K) → Stays W.Bounded C.address 0 fits.0 m a → Same st → Lt (limit_results C v o a st)
    l_limited a v None st s g = lt_errs 101 (Some v) a st s g
    l_limited a v (Some (negsuc k)) st s g = lt_errs 205 (Some v) a st s g
    l_limited a v (Some (pos zero)) st s g = fail_on 0 a st s (omega arith) g
    l_limited a v (Some (pos (suc k))) st s g =
        go_on (1 + 0) (C.limit (suc k) a) st (andthen 0 1 a (C.limit (suc k) a) s (W.limit (suc k) a s.fits)) (omega arith) g

    l_limited_result : (item : Item) (k : ℕ) (a : M) (st : Store K) → Stays W.Bounded C.address 0 fits.0 m a → Same st → Lt (limited_result C item k a st)
    l_limited_result item zero a st s g = unmarking 0 a st (push_item C item) s g (λ b st' t g'. push_on 0 b item st' t (omega arith) g')
    l_limited_result item (suc k) a st s g =
        when_found Lt lt_allowed (λ b. Stays W.Bounded C.address 1 s.fits.0 a b) (C.suspend_mark a) _ (W.suspend_mark a s.fits)
        (λ b t. push_on (1 + 0) b item st (andthen 0 1 a b s t) (omega arith) g)

    l_scan : (v : Value) (a : M) (st : Store K) → Stays W.Bounded C.address 0 fits.0 m a → Same st → Lt (scan_opened C v a st)
    l_scan (Text text) a st s g = go_on (1 + 0) (C.suspend (Scan (pair_now st)) a) (with_pair (record { subject = text; position = 1 }) st) (andthen 0 1 a
        (C.suspend (Scan (pair_now st)) a) s (W.suspend (Scan (pair_now st)) a tt s.fits)) (omega arith) (record { fit = g.fit; turns = g.turns })
    l_scan _ a st s g = fail_on 0 a st s (omega arith) g

    l_init_if : (b : Bool) (label : ℕ) (st : Store K) → C.address m ≤ label → Same st → Lt (initial_if C b label m st)
    l_init_if true label st le g = jump label st le g
    l_init_if false label st le g =
        go_on 0 m (record st { begun = slice_set st.begun (C.proc m) true }) stay (omega arith) (record { fit = g.fit; turns = g.turns })

    l_or_fails : (o : Option Item) (st : Store K) → Same st → Lt (pushed_or_fails C o m st)
    l_or_fails (Some item) st g = push_on 0 m item st stay (omega arith) g
    l_or_fails None st g = fail_on 0 m st stay (omega arith) g

    -- an instruction is a turn, or what is left becomes lighter
    pub instruction_lighter : (i : Instr) (st : Store K) → IsForwardFrom (C.address m) i → Same st → Lt (instruction C P i m st)
    instruction_lighter I.Pnull st le g = push_on 0 m (Val Null) st stay (omega arith) g
    instruction_lighter (I.Int k) st le g =
        when_found Lt lt_allowed (λ x. Unit {0}) (slice_get P.integers k) _ (there _) (λ x _. push_on 0 m (Val (Integer x)) st stay (omega arith) g)
    instruction_lighter (I.Str k) st le g =
        when_found Lt lt_allowed (λ x. Unit {0}) (slice_get P.strings k) _ (there _) (λ x _. push_on 0 m (Val (Text x)) st stay (omega arith) g)
    instruction_lighter (I.Cset k) st le g =
        when_found Lt lt_allowed (λ x. Unit {0}) (slice_get P.csets k) _ (there _) (λ x _. push_on 0 m (Val (Chars (members_of x))) st stay (omega arith) g)
    instruction_lighter (I.Local k) st le g = push_on 0 m _ st stay (omega arith) g
    instruction_lighter (I.Static k) st le g = push_on 0 m _ st stay (omega arith) g
    instruction_lighter (I.Global k) st le g = push_on 0 m _ st stay (omega arith) g
    instruction_lighter (I.Keywd keyword) st le g = l_or_fails (keyword_item (standing_of C m st) keyword) st g
    instruction_lighter I.Pop st le g = popping _ (λ item a s. go_on 0 a st s (omega arith) g)
    instruction_lighter I.Dup st le g = popping _ (λ item a s. push_on 0 m item st stay (omega arith) g)
    instruction_lighter (I.Op op) st le g =
        taking (arity op) _ (λ items a s. turned st (operate C op items a) g (a_operated C N W P B n op items a (TurnOf st) (ready a st s.fits g)))
    instruction_lighter (I.Llist k) st le g =
        taking k _ (λ items a s. turned st (λ st. with_values C items a st (λ values. list_made C values a st (λ list m st. push_item C (Val list) m st))) g
        (a_values C N W P B n items a (TurnOf st) _ (ready a st s.fits g) (λ vs. a_list C N W P B n vs a (TurnOf st) (λ list m st. push_item C (Val list) m st)
        (ready a st s.fits g) (λ v b st' h'. a_push C N W P B n (Val v) b st' h'))))
    instruction_lighter (I.Field k) st le g =
        taking 1 _ (λ items a s. turned st (field_applied C P k items a) g (a_field_applied C N W P B n k items a (TurnOf st) (ready a st s.fits g)))
    instruction_lighter (I.Invoke k) st le g =
        taking (suc k) _ (λ items a s. turned st (invoked_with C P items a) g (a_invoked_with C N W P B n items a (TurnOf st) (ready a st s.fits g)))
    instruction_lighter I.Appl st le g =
        taking 2 _ (λ items a s. turned st (applied_to_elements C P items a) g (a_applied C N W P B n items a (TurnOf st) (ready a st s.fits g)))
    instruction_lighter (I.Mark l) st le g =
        let y = worth_less N (C.address m) l le in go_on (suc (worth N l)) (C.mark (Some l) m) st (W.mark (Some l) m fits) (omega arith) g
    instruction_lighter I.Mark0 st le g = go_on 1 (C.mark None m) st (W.mark None m fits) (omega arith) g
    instruction_lighter I.Unmark st le g = unmarking 0 m st running stay g (λ b st' s g'. go_on 0 b st' s (omega arith) g')
    instruction_lighter I.Eret st le g = popping _ (λ item a s.
        lt_value item a st _ s g (λ v. unmarking 0 a st (push_item C (Val v)) s g (λ b st' t g'. push_on 0 b (Val v) st' t (omega arith) g')))
    instruction_lighter I.Esusp st le g = popping _ (λ item a s. when_found Lt lt_allowed (λ b. Stays W.Bounded C.address 1 s.fits.0 a b)
        (C.suspend_mark a) _ (W.suspend_mark a s.fits) (λ b t. push_on (1 + 0) b item st (andthen 0 1 a b s t) (omega arith) g))
    instruction_lighter I.Limit st le g = popping _ (λ item a s. lt_value item a st _ s g (λ v. l_limited a v (integer_of v) st s g))
    instruction_lighter I.Lsusp st le g = popping _ (λ item a s. when_found Lt lt_allowed (λ count. Stays W.Bounded C.address 0 s.fits.0 a count.1)
        (C.count_down a) _ (W.count_down a s.fits) (λ count t. l_limited_result item count.0 count.1 st (then_same 0 a count.1 s t) g))
    instruction_lighter I.Efail st le g = fail_on 0 m st stay (omega arith) g
    instruction_lighter (I.Chfail l) st le g =
        when_found Lt lt_allowed (λ after. Stays W.Bounded C.address 0 fits.0 m after) (C.relabel l m) _ (W.relabel l m fits)
        (λ after s. go_on 0 after st s (omega arith) g)
    instruction_lighter (I.Goto l) st le g = jump l st le g
    instruction_lighter (I.Loop l) st le g = turned st (running (C.go l m)) g (ready (C.go l m) st ((fits.0, W.go l m fits.0 fits.1)) g)
    instruction_lighter I.Bscan st le g = popping _ (λ item a s. lt_value item a st _ s g
        (λ v. lt_made (text_row v (here C a st)) a st (scan_opened C) (rows_keep.scanned v (here C a st)) s g (λ x b st' t g'. l_scan x b st' t g')))
    instruction_lighter I.Escan st le g = popping _ (λ item a s. exchanging_at a s (C.swap_newest (pair_now st) a) _ st (W.swap_newest (pair_now st) a s.fits) g
        (λ b st' t g'. push_on (1 + 0) (C.suspend Escan b) item st' (andthen 0 1 b (C.suspend Escan b) t (W.suspend Escan b tt t.fits)) (omega arith) g'))
    instruction_lighter I.Ccase st le g = when_found Lt lt_allowed (λ x. Unit {0}) (C.below m) _ (there _) (λ item _. push_on 0 m item st stay (omega arith) g)
    instruction_lighter (I.Init l) st le g = l_init_if (slice_index_or st.begun (C.proc m) true) l st le g
    instruction_lighter I.Psusp st le g =
        popping _ (λ item a s. resulting_at m item st _ stay g (λ result. maybe (C.swap_oldest (pair_now st) m) _ st (W.swap_oldest (pair_now st) m fits) g
        (λ b st' t g'. returning 0 b (C.suspend_proc b) (push_item C result) st' t (omega arith) (W.suspend_proc b t.fits) g'
        (λ caller p. paid_push 0 b caller result st' t (omega arith) p g'))))
    instruction_lighter I.Pret st le g = popping _ (λ item a s. resulting_at a item st _ s g
        (λ result. returning 0 a (C.leave a) (push_item C result) (all_left C a st) s (omega arith) (W.leave a s.fits) (same_back _ st g)
        (λ caller p. paid_push 0 a caller result (all_left C a st) s (omega arith) p (same_back _ st g))))
    instruction_lighter I.Pfail st le g =
        either_way Lt (is_create_body C m st) _ _ tt (returning 0 m (C.leave m) failing (all_left C m st) stay (omega arith) (W.leave m fits) (same_back _ st g)
        (λ caller p. paid_fail 0 m caller (all_left C m st) stay (omega arith) p (same_back _ st g)))
    instruction_lighter (I.Create l) st le g = turned st (coexp_made C (C.locals m) (C.proc m) (C.address m) (C.go l m)) g
        (a_new C N W P B n (C.locals m) (C.proc m) (C.address m) (C.go l m) (TurnOf st) (ready (C.go l m) st ((fits.0, W.go l m fits.0 fits.1)) g))
    instruction_lighter I.Coact st le g =
        taking 2 _ (λ items a s. turned st (activation_of C items a) g (a_activation_of C N W P B n items a (TurnOf st) (ready a st s.fits g)))
    instruction_lighter I.Coret st le g =
        either_way Lt (is_create_body C m st) _ _ (popping _ (λ item a s. turned st (λ st. with_value C item a st (λ value. result_given C value a st)) g
        (a_value C N W P B n item a (TurnOf st) _ (ready a st s.fits g) (λ v. a_result C N W P B n v a (TurnOf st) (ready a st s.fits g))))) tt
    instruction_lighter I.Cofail st le g = either_way Lt (is_create_body C m st) _ _ (turned st (λ st. passed_failure C (activator_of st.active st) m
        (with_status st.active Exhausted st)) g (a_exhausted C N W P B n m (TurnOf st) ((ready m st fits g).1, (ready m st fits g).2))) tt

-- what fails weighs w at most
module _ {K M : Type 0} (C : Calls K M) (N : ℕ) (W : Weighs C N) (P : Program) (B : ℕ) (n w : ℕ) (few : n ≤ B) (m : M) (fits : Fits C N B W m)
    (bound : fits.0 ≤ w) where
  abbrev pub L : State K M → Type 0
  L s = Later C N B W n w s

  lighter : (after : M) (st : Store K) → Lightens W.Bounded fits.0 after → Same C N W P B n w few st → L (failing after st)
  lighter after st l g = let x = l.weighs in (l.fits, g.fit, inr (g.turns, omega arith))

  f_returned : (o : Option M) (st : Store K) → IfThere o (λ caller. Pays W.Bounded C.address N fits.0 caller) → Same C N W P B n w few st
      → L (return_to o failing st)
  f_returned None st i g = either_way L (is_main st.active) _ _ tt tt
  f_returned (Some caller) st i g = let x = i.weighs in (i.fits, g.fit, inr (g.turns, omega arith))

  f_exhausted : (st : Store K) → Same C N W P B n w few st → L (exhaust_active C P m st)
  f_exhausted st g = turned C N W P B n w few st (λ st. passed_failure C (activator_of st.active st) m (with_status st.active Exhausted st)) g
      (a_exhausted C N W P B n m (TurnOf C N W P B n w few st) ((ready C N W P B n w few m st fits g).1, (ready C N W P B n w few m st fits g).2))

  f_without : (st : Store K) → Same C N W P B n w few st → L (without_mark C P m st)
  f_without st g = either_way L (is_create_body C m st) _ _ (f_exhausted st g)
      (f_returned (C.leave m) (all_left C m st) (W.leave m fits) (same_back C N W P B n w few _ st g))

  f_dropped : (d : MarkDrop M) (st : Store K) → DropsWell W.Bounded C.address N fits.0 d → Same C N W P B n w few st → L (mark_dropped C P m st d)
  f_dropped NoMark st i g = f_without st g
  f_dropped (Goes after) st i g = let x = i.weighs in (i.fits, g.fit, inr (g.turns, omega arith))
  f_dropped (Repeats after) st i g = turned C N W P B n w few st (running after) g (ready C N W P B n w few after st i g)
  f_dropped (WithoutLabel after) st i g = lighter after st i g

  f_escan : (after : M) (o : Option (Pair × M)) (st : Store K) → (l : Lightens W.Bounded fits.0 after)
      → IfThere o (λ swap. Stays W.Bounded C.address 0 l.fits.0 after swap.1) → Same C N W P B n w few st → L (with_exchange o failing st)
  f_escan after None st l i g = tt
  f_escan after (Some swap) st l i g = let x = l.weighs in let y = i.weighs in (i.fits, g.fit, inr (g.turns, omega arith))

  f_resumed : (why : Why) (after : M) (st : Store K) → ResumesWell W.Bounded fits.0 why after → Same C N W P B n w few st → L (resume_by C P why after st)
  f_resumed Alt after st i g = lighter after st i g
  f_resumed (Operating r) after st i g = turned C N W P B n w few st (λ st. outcome C (again r (here C after st)) after st) g
      (a_outcome C N W P B n (again r (here C after (TurnOf C N W P B n w few st))) after (TurnOf C N W P B n w few st)
      (rows_keep.resumed r (here C after (TurnOf C N W P B n w few st))) (ready C N W P B n w few after st i g))
  f_resumed (Scan pair) after st i g = lighter after (with_pair pair st) i (record { fit = g.fit; turns = g.turns })
  f_resumed Escan after st i g = f_escan after (C.swap_newest (pair_now st) after) st i (W.swap_newest (pair_now st) after i.fits) g
  f_resumed Proc after st i g = turned C N W P B n w few st (λ st. maybe_exchanged (C.swap_oldest (pair_now st) after) after st running) g
      (a_maybe C N W P B n i.0 (C.swap_oldest (pair_now (TurnOf C N W P B n w few st)) after) after (TurnOf C N W P B n w few st)
      (W.swap_oldest (pair_now (TurnOf C N W P B n w few st)) after i) (ready C N W P B n w few after st i g))

  f_back : (o : Option (Why × M)) (st : Store K) → IfThere o (λ back. ResumesWell W.Bounded fits.0 back.0 back.1) → Same C N W P B n w few st
      → L (resumed_or_dropped C P m st o)
  f_back None st i g = f_dropped (C.drop_mark m) st (W.drop_mark m fits) g
  f_back (Some back) st i g = f_resumed back.0 back.1 st i g

  pub failing_lighter : (st : Store K) → Same C N W P B n w few st → L (fails C P m st)
  failing_lighter st g = f_back (C.resume m) st (W.resume m fits) g
