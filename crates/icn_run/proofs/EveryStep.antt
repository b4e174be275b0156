-- All instructions, one after the other, for any law of stores, whatever the stacks are made of: each word of steps, and one clause an instruction.
use Rattle.std.proofs.Common.{◌≡◌, ℕ, zero, suc, ◌+◌, refl, arith, ◌∙◌, length-append, Bool, true, false, List, [], ◌∷◌, ◌++◌, length, Option, Some, None, ap}
use Rattle.std.specs.Prelude.{ℤ, pos, negsuc, ◌-◌, ◌==◌, nat_lt, nat_le, drop, map, replicate, slice_get, slice_index_or, if◌then◌else◌}
use Rattle.std.proofs.lemmas.List.{length-replicate, length-take-le}
use Rattle.icn_text.specs.declared.func.Func.{Func}
use Rattle.icn_text.specs.declared.op.Op.{Op}
use Rattle.icn_text.specs.declared.op.Op.TheVariants as Ops
use Rattle.icn_value.specs.Values.{Value, Null, Integer, Text, Chars, Procedure as ProcedureValue, ARecord, AList, ACoexp, Local, Whole, Part, Item, Val, Var}
use Rattle.icn_value.specs.Store.{Names, Setting, list_at, record_at}
use Rattle.icn_code.specs.declared.instr.Instr.{Instr}
use Rattle.icn_code.specs.declared.instr.Instr.TheVariants as I
use Rattle.icn_code.specs.Codes.{Proc as Procedure, RecordType}
use Rattle.icn_defs.specs.Arities.{arity}
use Rattle.icn_defs.specs.Applying.{again}
use Rattle.icn_defs.specs.Conversions.{integer_of}
use Rattle.icn_defs.specs.NamedValues.{named_by}
use Rattle.icn_defs.specs.Numbers.{func_of}
use Rattle.icn_run.proofs.Errors.{at_error}
use Rattle.icn_run.proofs.NamedCallees.{named_is}
use Rattle.icn_defs.specs.Keywords.{keyword_item}
use Rattle.icn_defs.specs.Rows.{Outcome, Fails, Gives, Suspends, Error, Ends}
use Rattle.icn_defs.specs.Running.{Pair, Done, words_row, callee_number, number_of, after_steps}
use Rattle.icn_defs.specs.StepRows.{Operation, Function, apply, value_row, list_row, text_row, record_row, coexpression_row}
use Rattle.icn_run.specs.Calls.{Why, Alt, Op as Operating, Scan, Escan, Proc, MarkDrop, NoMark, Goes, Repeats, Outside as WithoutLabel, Calls}
use Rattle.icn_run.specs.Step as S
use Rattle.icn_run.specs.Step.{Program, Status, Fresh, Active, Waiting, Exhausted, Coexp, Store, State, running, failing, hopping, over, stuck, Callee, IsProc, IsRecord, IsFunc, IsNothing}
use Rattle.icn_run.proofs.StoreLaws.{StoreLaw, LeavesBy}

module _ {H M : Type 0} (C : Calls H M) (P : Program) (law : StoreLaw P) where
  abbrev pub K : Store H → Type 0
  K st = law.Is st.world st.outside st.begun

  -- it is so of the store of a state
  abbrev pub StateHolds : State H M → Type 0
  StateHolds (running m st) = K st
  StateHolds (failing m st) = K st
  StateHolds (hopping m st) = K st
  StateHolds (over ending outside) = law.Over ending outside
  StateHolds stuck = Unit {0}

  found : {A : Type 0} (o : Option A) (go : A → State H M) → ((x : A) → StateHolds (go x)) → StateHolds (S.with_found o go)
  found (Some x) go f = f x
  found None go f = tt

  -- what comes in pairs
  parted : {A B : Type 0} (o : Option (A × B)) (go : A → B → State H M) → ((x : A) (y : B) → StateHolds (go x y)) → StateHolds (S.with_found o (S.on_pair go))
  parted (Some x) go f = f x.0 x.1
  parted None go f = tt

  -- Ends, turns and rows

  errs : (n : ℕ) (v : Option Value) (m : M) (st : Store H) → K st → StateHolds (S.errs n v m st)
  errs n v m st k = at_error StateHolds n v m st (law.report st.names n v st.world st.outside st.begun k) (law.failed n v st.world st.outside st.begun k)

  turn_if : (t : Bool) (st : Store H) (go : Store H → State H M) → K st → ((s : Store H) → K s → StateHolds (go s)) → StateHolds (S.turn_if t st go)
  turn_if true st go k f = f (record st { turns = suc st.turns }) k
  turn_if false st go k f = law.bound st.world st.outside st.begun k

  turn : (st : Store H) (go : Store H → State H M) → K st → ((s : Store H) → K s → StateHolds (go s)) → StateHolds (S.turn P st go)
  turn st go k f = turn_if (nat_lt st.turns st.world.heap.bounds.turns) st go k f

  valued : (o : Outcome) (m : M) (st : Store H) (go : Value → State H M) → K st → ((v : Value) → StateHolds (go v)) → StateHolds (S.with_given o m st go)
  valued (Gives (Val v) s) m st go k f = f v
  valued (Gives (Var x) s) m st go k f = k
  valued (Error n v s) m st go k f = errs n v m st k
  valued (Fails s) m st go k f = k
  valued (Suspends x r s) m st go k f = k
  valued (Ends n s) m st go k f = k

  made : (o : Outcome) (m : M) (st : Store H) (go : Value → M → Store H → State H M) → K st → LeavesBy law.Is law.Over st.begun o
      → ((v : Value) (m : M) (s : Store H) → K s → StateHolds (go v m s)) → StateHolds (S.with_made C o m st go)
  made (Gives (Val v) s) m st go k l f = f v (C.set_locals s.locals m) (S.with_at s st) l
  made (Gives (Var x) s) m st go k l f = k
  made (Error n v s) m st go k l f = errs n v (C.set_locals s.locals m) (S.with_at s st) l
  made (Fails s) m st go k l f = k
  made (Suspends x r s) m st go k l f = k
  made (Ends n s) m st go k l f = k

  pub outcome : (o : Outcome) (m : M) (st : Store H) → LeavesBy law.Is law.Over st.begun o → StateHolds (S.outcome C o m st)
  outcome (Fails s) m st l = l
  outcome (Gives x s) m st l = l
  outcome (Suspends x r s) m st l = l
  outcome (Error n v s) m st l = errs n v (C.set_locals s.locals m) (S.with_at s st) l
  outcome (Ends n s) m st l = l

  value : (x : Item) (m : M) (st : Store H) (go : Value → State H M) → K st → ((v : Value) → StateHolds (go v)) → StateHolds (S.with_value C x m st go)
  value x m st go k f = valued (value_row x (S.here C m st)) m st go k f

  pub values : (xs : List Item) (m : M) (st : Store H) (go : List Value → State H M) → K st → ((vs : List Value) → StateHolds (go vs))
      → StateHolds (S.with_values C xs m st go)
  values [] m st go k f = f []
  values (x ∷ xs) m st go k f = value x m st (λ v. S.with_values C xs m st (λ vs. go (v ∷ vs))) k (λ v. values xs m st (λ vs. go (v ∷ vs)) k (λ vs. f (v ∷ vs)))

  list_made : (vs : List Value) (m : M) (st : Store H) (go : Value → M → Store H → State H M) → K st
      → ((v : Value) (m : M) (s : Store H) → K s → StateHolds (go v m s))
      → StateHolds (S.list_made C vs m st go)
  list_made vs m st go k f = made (list_row vs (S.here C m st)) m st go k (law.lists vs (S.here C m st) st.begun k) f

  -- Scans

  paired : (pair : Pair) (st : Store H) → K st → K (S.with_pair pair st)
  paired pair st k = law.pair pair st.world st.outside st.begun k

  exchanged : (o : Option (Pair × M)) (go : M → Store H → State H M) (st : Store H) → K st → ((m : M) (s : Store H) → K s → StateHolds (go m s))
      → StateHolds (S.with_exchange o go st)
  exchanged (Some x) go st k f = f x.1 (S.with_pair x.0 st) (paired x.0 st k)
  exchanged None go st k f = tt

  maybe_exchanged : (o : Option (Pair × M)) (m : M) (st : Store H) (go : M → Store H → State H M) → K st → ((m : M) (s : Store H) → K s → StateHolds (go m s))
      → StateHolds (S.maybe_exchanged o m st go)
  maybe_exchanged (Some x) m st go k f = f x.1 (S.with_pair x.0 st) (paired x.0 st k)
  maybe_exchanged None m st go k f = f m st k

  left : (o : Option Pair) (st : Store H) → K st → K (S.scans_left o st)
  left (Some x) st k = paired x st k
  left None st k = k

  swapped_back : (o : Option (Pair × M)) (st : Store H) → K st → K (S.swapped_back o st)
  swapped_back (Some x) st k = paired x.0 st k
  swapped_back None st k = k

  all_left : (m : M) (st : Store H) → K st → K (S.all_left C m st)
  all_left m st k = swapped_back (C.swap_oldest (S.pair_now st) m) st k

  unmarked : (m : M) (st : Store H) (go : M → Store H → State H M) → K st → ((m : M) (s : Store H) → K s → StateHolds (go m s))
      → StateHolds (S.unmark_then C m st go)
  unmarked m st go k f = parted (C.unmark m) (λ outside pair. go outside (S.scans_left pair st)) (λ m pair. f m (S.scans_left pair st) (left pair st k))

  -- Co-expressions

  fail_by : (u : Status H) (n : ℕ) (m : M) (st : Store H) → K st → StateHolds (S.fail_by C u n m st)
  fail_by Fresh n m st k = tt
  fail_by Active n m st k = tt
  fail_by (Waiting h) n m st k = k
  fail_by Exhausted n m st k = k

  give_by : (u : Status H) (n : ℕ) (v : Value) (m : M) (st : Store H) → K st → StateHolds (S.give_by C u n v m st)
  give_by Fresh n v m st k = k
  give_by Active n v m st k = tt
  give_by (Waiting h) n v m st k = k
  give_by Exhausted n v m st k = k

  to_activator : (n : ℕ) (m : M) (st : Store H) → K st → StateHolds (S.passed_failure C n m st)
  to_activator n m st k = fail_by (S.status_of n st) n m st k

  pub hop : (m : M) (st : Store H) → K st → StateHolds (S.hop C P m st)
  hop m st k = turn st (λ st. S.passed_failure C (S.activator_of st.active st) m st) k (λ st k. to_activator (S.activator_of st.active st) m st k)

  exhausted : (m : M) (st : Store H) → K st → StateHolds (S.exhaust_active C P m st)
  exhausted m st k = turn st (λ st. S.passed_failure C (S.activator_of st.active st) m (S.with_status st.active Exhausted st)) k
      (λ st k. to_activator (S.activator_of st.active st) m (S.with_status st.active Exhausted st) k)

  result_given : (v : Value) (m : M) (st : Store H) → K st → StateHolds (S.result_given C v m st)
  result_given v m st k =
      let s = S.counted_result st.active (S.with_status st.active (Waiting (C.kept m)) st) in
      let n = S.activator_of st.active st in
      give_by (S.status_of n s) n v m s (law.counted st.active st.world st.outside st.begun k)

  coexp_made : (vs : List Value) (proc place : ℕ) (m : M) (st : Store H) → K st → StateHolds (S.coexp_made C vs proc place m st)
  coexp_made vs proc place m st k = made (coexpression_row (length vs) (S.here C m st)) m st
      (λ value m st. S.push_item C (Val value) m (S.with_new vs proc place st)) k (law.coexpressions (length vs) (S.here C m st) st.begun k) (λ v m s k. k)

  refreshed_from : (o : Option (Coexp H)) (m : M) (st : Store H) → K st → StateHolds (S.refreshed_from C o m st)
  refreshed_from (Some co) m st k = coexp_made co.values co.proc co.address m st k
  refreshed_from None m st k = tt

  refreshed : (v : Value) (m : M) (st : Store H) → K st → StateHolds (S.refresh C v m st)
  refreshed (ACoexp zero) m st k = errs 215 (Some (ACoexp zero)) m st k
  refreshed (ACoexp (suc n)) m st k = refreshed_from (slice_get st.coexps (suc n)) m st k
  refreshed v m st k = errs 118 (Some v) m st k

  entered_if : (t : Bool) (u : Status H) (n : ℕ) (v : Value) (m : M) (st : Store H) → K st → StateHolds (S.entered_if C t u n v m st)
  entered_if t Exhausted n v m st k = k
  entered_if true u n v m st k = k
  entered_if false u n v m st k = let s = S.with_activator n st.active (S.with_status st.active (Waiting (C.kept m)) st) in give_by (S.status_of n s) n v m s k

  activation : (v to : Value) (m : M) (st : Store H) → K st → StateHolds (S.activation C v to m st)
  activation v (ACoexp n) m st k = entered_if (n == st.active) (S.status_of n st) n v m st k
  activation v to m st k = errs 118 (Some to) m st k

  -- Procedures

  collected : (t : Bool) (n : ℕ) (vs : List Value) (m : M) (st : Store H) (go : List Value → M → Store H → State H M) → K st
      → ((vs : List Value) (m : M) (s : Store H) → K s → StateHolds (go vs m s)) → StateHolds (S.collect_rest C t n vs m st go)
  collected false n vs m st go k f = f (S.fill_nulls n vs) m st k
  collected true n vs m st go k f = list_made (drop (n - 1) vs) m st (λ rest m st. go (S.fill_nulls (n - 1) vs ++ rest ∷ []) m st) k
      (λ rest m st k. f (S.fill_nulls (n - 1) vs ++ rest ∷ []) m st k)

  called_if : (t : Bool) (n : ℕ) (entry : Procedure) (vs : List Value) (m : M) (st : Store H) → K st → StateHolds (S.called_if C t n entry vs m st)
  called_if true n entry vs m st k =
      collected entry.collects entry.parameters vs m st (λ parameters m st. S.enter_procedure C n entry parameters m st) k (λ vs m st k. k)
  called_if false n entry vs m st k = errs 301 None m st k

  filled_length : (n : ℕ) (vs : List Value) → length (S.fill_nulls n vs) ≡ n
  filled_length n vs = length-take-le n (vs ++ replicate n Null) (omega (arith, length-append vs (replicate n Null), length-replicate n Null))

  -- a callee that is a record is one of the tables
  abbrev Within : Callee → Type 0
  Within (IsRecord kind entry) = slice_get P.records kind ≡ Some entry
  Within (IsProc entry) = Unit {0}
  Within (IsFunc func) = Unit {0}
  Within IsNothing = Unit {0}

  func_within : (o : Option Func) → Within (S.func_callee o)
  func_within (Some f) = tt
  func_within None = tt

  among : (n kind : ℕ) (es : List RecordType) → ((j : ℕ) → slice_get P.records (kind + j) ≡ slice_get es j) → Within (S.record_among n kind es)
  among n kind [] e = func_within (func_of (suc n))
  among zero kind (x ∷ es) e = ap (slice_get P.records) (omega arith) ∙ e zero
  among (suc n) kind (x ∷ es) e = among n (suc kind) es (λ j. ap (slice_get P.records) (omega arith) ∙ e (suc j))

  callees : (n : ℕ) (ps : List Procedure) → Within (S.callee_among n ps P.records)
  callees n [] = among n zero P.records (λ j. ap (slice_get P.records) (omega arith))
  callees zero (p ∷ ps) = tt
  callees (suc n) (p ∷ ps) = callees n ps

  constructed : (n : ℕ) (entry : RecordType) (vs : List Value) (m : M) (st : Store H) → slice_get P.records n ≡ Some entry → K st
      → StateHolds (S.construct_record C n entry vs m st)
  constructed n entry vs m st e k =
      let fs = S.fill_nulls (length entry.fields) vs in
      made (record_row n fs (S.here C m st)) m st (λ value m st. S.push_item C (Val value) m st) k
      (law.records n entry fs (S.here C m st) st.begun e (filled_length (length entry.fields) vs) k) (λ v m s k. k)

  pushed_or_fails : (o : Option Item) (m : M) (st : Store H) → K st → StateHolds (S.pushed_or_fails C o m st)
  pushed_or_fails (Some x) m st k = k
  pushed_or_fails None m st k = k

  callee_called : (c : Callee) (n : ℕ) (xs : List Item) (m : M) (st : Store H) → Within c
      → ((func : Func) → c ≡ IsFunc func → LeavesBy law.Is law.Over st.begun (apply st.names (Function func) xs (S.here C m st))) → K st
      → StateHolds (S.callee_called C c n xs m st)
  callee_called (IsProc entry) n xs m st w functions k = values xs m st (λ arguments. S.call_procedure C n entry arguments m st) k
      (λ vs. called_if (nat_le (suc (C.level m)) st.world.heap.bounds.levels) n entry vs m st k)
  callee_called (IsRecord kind entry) n xs m st w functions k =
      values xs m st (λ arguments. S.construct_record C kind entry arguments m st) k (λ vs. constructed kind entry vs m st w k)
  callee_called (IsFunc func) n xs m st w functions k = outcome (apply st.names (Function func) xs (S.here C m st)) m st (functions func refl)
  callee_called IsNothing n xs m st w functions k = errs 106 (Some (ProcedureValue n)) m st k

  -- what a value that is called leaves it so, where it is a function or names one
  abbrev pub CalleeLeaves : Value → List Item → M → Store H → Type 0
  CalleeLeaves f xs m st = (n : ℕ) (func : Func) → callee_number st.names f ≡ Some n → S.callee_of P n ≡ IsFunc func
      → LeavesBy law.Is law.Over st.begun (apply st.names (Function func) xs (S.here C m st))

  named_called : (f : Value) (o : Option ℕ) (xs : List Item) (m : M) (st : Store H)
      → ((n : ℕ) (func : Func) → o ≡ Some n → S.callee_of P n ≡ IsFunc func
      → LeavesBy law.Is law.Over st.begun (apply st.names (Function func) xs (S.here C m st))) → K st
      → StateHolds (S.named_called C P f o xs m st)
  named_called f (Some n) xs m st functions k =
      callee_called (S.callee_of P n) n xs m st (callees n P.procs) (λ func e. functions n func refl e) k
  named_called f None xs m st functions k = errs 106 (Some f) m st k

  integer_called : (f : Value) (o : Option ℤ) (xs : List Item) (m : M) (st : Store H) → number_of f ≡ o → CalleeLeaves f xs m st → K st
      → StateHolds (S.integer_called C P f o xs m st)
  integer_called f (Some n) xs m st is functions k = pushed_or_fails (S.choose_item n xs) m st k
  integer_called f None xs m st is functions k = named_called f (named_by st.names f) xs m st
      (λ n func e c. functions n func (named_is st.names f n is e) c) k

  pub invoked : (f : Value) (xs : List Item) (m : M) (st : Store H) → CalleeLeaves f xs m st → K st → StateHolds (S.invoke_value C P f xs m st)
  invoked (ProcedureValue n) xs m st functions k = callee_called (S.callee_of P n) n xs m st (callees n P.procs) (λ func e. functions n func refl e) k
  invoked f xs m st functions k = integer_called f (number_of f) xs m st refl functions k

  -- functions leave it so, whatever they are given
  abbrev pub FunctionsLeave : Type 0
  FunctionsLeave = (names : Names) (func : Func) (xs : List Item) (a : Setting) (begun : List Bool) → law.Is a.world a.outside begun
      → LeavesBy law.Is law.Over begun (apply names (Function func) xs a)

  any_callee : FunctionsLeave → (f : Value) (xs : List Item) (m : M) (st : Store H) → K st → CalleeLeaves f xs m st
  any_callee w f xs m st k = λ n func e c. w st.names func xs (S.here C m st) st.begun k

  invoked_with : (xs : List Item) (m : M) (st : Store H) → FunctionsLeave → K st → StateHolds (S.invoked_with C P xs m st)
  invoked_with [] m st w k = tt
  invoked_with (x ∷ xs) m st w k = value x m st (λ value. S.invoke_value C P value xs m st) k (λ f. invoked f xs m st (any_callee w f xs m st k) k)

  elements_called : (f from : Value) (m : M) (st : Store H) → FunctionsLeave → K st → StateHolds (S.elements_called C P f from m st)
  elements_called f (AList n) m st w k =
      let xs : List Item = map S.plain (list_at st.world.heap n).items in invoked f xs m st (any_callee w f xs m st k) k
  elements_called f (ARecord n) m st w k =
      let xs : List Item = map S.plain (record_at st.world.heap n).fields in invoked f xs m st (any_callee w f xs m st k) k
  elements_called f from m st w k = errs 126 (Some from) m st k

  applied : (xs : List Item) (m : M) (st : Store H) → FunctionsLeave → K st → StateHolds (S.applied_to_elements C P xs m st)
  applied [] m st w k = tt
  applied (x ∷ []) m st w k = tt
  applied (x ∷ y ∷ []) m st w k = value x m st (λ callee. S.with_value C y m st (λ from. S.elements_called C P callee from m st)) k
      (λ f. value y m st (λ from. S.elements_called C P f from m st) k (λ from. elements_called f from m st w k))
  applied (x ∷ y ∷ z ∷ xs) m st w k = tt

  field_taken : (o : Option ℕ) (n : ℕ) (m : M) (st : Store H) → K st → StateHolds (S.field_taken C o n m st)
  field_taken (Some place) n m st k = k
  field_taken None n m st k = errs 207 (Some (ARecord n)) m st k

  field_of : (field : ℕ) (v : Value) (m : M) (st : Store H) → K st → StateHolds (S.field_of C P field v m st)
  field_of field (ARecord n) m st k = field_taken (S.field_index P field (record_at st.world.heap n).kind) n m st k
  field_of field v m st k = errs 107 (Some v) m st k

  result : (x : Item) (m : M) (st : Store H) (go : Item → State H M) → K st → ((x : Item) → StateHolds (go x)) → StateHolds (S.with_result C x m st go)
  result (Var (Whole (Local n))) m st go k f = value (Var (Whole (Local n))) m st (λ v. go (Val v)) k (λ v. f (Val v))
  result (Var (Part (Local n) place size)) m st go k f = value (Var (Part (Local n) place size)) m st (λ v. go (Val v)) k (λ v. f (Val v))
  result x m st go k f = f x

  finished : (t : Bool) (st : Store H) → K st → StateHolds (if t then S.over_with Done st.world st.outside else stuck)
  finished true st k = law.done st.world st.outside st.begun k
  finished false st k = tt

  returned : (o : Option M) (go : M → Store H → State H M) (st : Store H) → K st → ((m : M) (s : Store H) → K s → StateHolds (go m s))
      → StateHolds (S.return_to o go st)
  returned (Some m) go st k f = f m st k
  returned None go st k f = finished (S.is_main st.active) st k

  proc_fails : (m : M) (st : Store H) → K st → StateHolds (S.proc_fails C m st)
  proc_fails m st k = returned (C.leave m) failing (S.all_left C m st) (all_left m st k) (λ m s k. k)

  -- Failing

  either : (t : Bool) (x y : State H M) → StateHolds x → StateHolds y → StateHolds (if t then x else y)
  either true x y f g = f
  either false x y f g = g

  without_mark : (m : M) (st : Store H) → K st → StateHolds (S.without_mark C P m st)
  without_mark m st k = either (S.is_create_body C m st) (S.exhaust_active C P m st) (S.proc_fails C m st) (exhausted m st k) (proc_fails m st k)

  dropped : (m : M) (st : Store H) (d : MarkDrop M) → K st → StateHolds (S.mark_dropped C P m st d)
  dropped m st NoMark k = without_mark m st k
  dropped m st (Goes a) k = k
  dropped m st (Repeats a) k = turn st (running a) k (λ s k. k)
  dropped m st (WithoutLabel a) k = k

  pub resumed : (why : Why) (m : M) (st : Store H) → K st → StateHolds (S.resume_by C P why m st)
  resumed Alt m st k = k
  resumed (Operating r) m st k =
      turn st (λ st. S.outcome C (again r (S.here C m st)) m st) k (λ st k. outcome (again r (S.here C m st)) m st (law.resumed r (S.here C m st) st.begun k))
  resumed (Scan pair) m st k = paired pair st k
  resumed Escan m st k = exchanged (C.swap_newest (S.pair_now st) m) failing st k (λ m s k. k)
  resumed Proc m st k = turn st (λ st. S.maybe_exchanged (C.swap_oldest (S.pair_now st) m) m st running) k
      (λ st k. maybe_exchanged (C.swap_oldest (S.pair_now st) m) m st running k (λ m s k. k))

  back_or_dropped : (m : M) (st : Store H) (o : Option (Why × M)) → K st → StateHolds (S.resumed_or_dropped C P m st o)
  back_or_dropped m st None k = dropped m st (C.drop_mark m) k
  back_or_dropped m st (Some x) k = resumed x.0 x.1 st k

  pub fails : (m : M) (st : Store H) → K st → StateHolds (S.fails C P m st)
  fails m st k = back_or_dropped m st (C.resume m) k

  -- Instructions

  popped : (m : M) (go : Item → M → State H M) → ((x : Item) (m : M) → StateHolds (go x m)) → StateHolds (S.with_popped C m go)
  popped m go f = parted (C.pop m) go f

  taken : (n : ℕ) (m : M) (go : List Item → M → State H M) → ((xs : List Item) (m : M) → StateHolds (go xs m)) → StateHolds (S.with_taken C n m go)
  taken n m go f = parted (C.take n m) go f

  limited : (v : Value) (o : Option ℤ) (m : M) (st : Store H) → K st → StateHolds (S.limit_results C v o m st)
  limited v None m st k = errs 101 (Some v) m st k
  limited v (Some (negsuc n)) m st k = errs 205 (Some v) m st k
  limited v (Some (pos zero)) m st k = k
  limited v (Some (pos (suc n))) m st k = k

  limited_result : (x : Item) (n : ℕ) (m : M) (st : Store H) → K st → StateHolds (S.limited_result C x n m st)
  limited_result x zero m st k = unmarked m st (S.push_item C x) k (λ m s k. k)
  limited_result x (suc n) m st k = found (C.suspend_mark m) (λ after. S.push_item C x after st) (λ m. k)

  scan_opened : (v : Value) (m : M) (st : Store H) → K st → StateHolds (S.scan_opened C v m st)
  scan_opened (Text text) m st k = paired (record { subject = text; position = 1 }) st k
  scan_opened v m st k = k

  initial : (t : Bool) (l : ℕ) (m : M) (st : Store H) → K st → StateHolds (S.initial_if C t l m st)
  initial true l m st k = k
  initial false l m st k = law.noted (C.proc m) st.world st.outside st.begun k

  activation_of : (xs : List Item) (m : M) (st : Store H) → K st → StateHolds (S.activation_of C xs m st)
  activation_of [] m st k = tt
  activation_of (x ∷ []) m st k = tt
  activation_of (x ∷ y ∷ []) m st k = value x m st (λ value. S.with_value C y m st (λ other. S.activation C value other m st)) k
      (λ v. value y m st (λ other. S.activation C v other m st) k (λ to. activation v to m st k))
  activation_of (x ∷ y ∷ z ∷ xs) m st k = tt

  operated : (op : Op) (xs : List Item) (m : M) (st : Store H) → K st → StateHolds (S.operate C op xs m st)
  operated Ops.Refresh (x ∷ xs) m st k = value x m st (λ value. S.refresh C value m st) k (λ v. refreshed v m st k)
  operated op xs m st k = outcome (apply st.names (Operation op) xs (S.here C m st)) m st (law.operations op xs (S.here C m st) st.begun k)

  field_applied : (field : ℕ) (xs : List Item) (m : M) (st : Store H) → K st → StateHolds (S.field_applied C P field xs m st)
  field_applied field (x ∷ xs) m st k = value x m st (λ value. S.field_of C P field value m st) k (λ v. field_of field v m st k)
  field_applied field [] m st k = tt

  -- an instruction; where it may call a function, functions leave it so
  pub instruction : (i : Instr) (m : M) (st : Store H) → ((n : ℕ) → i ≡ I.Invoke n → FunctionsLeave) → (i ≡ I.Appl → FunctionsLeave) → K st
      → StateHolds (S.instruction C P i m st)
  instruction I.Pnull m st v w k = k
  instruction (I.Int n) m st v w k = found (slice_get P.integers n) (λ n. S.push_item C (Val (Integer n)) m st) (λ x. k)
  instruction (I.Str n) m st v w k = found (slice_get P.strings n) (λ bytes. S.push_item C (Val (Text bytes)) m st) (λ x. k)
  instruction (I.Cset n) m st v w k = found (slice_get P.csets n) (λ set. S.push_item C (Val (Chars (S.members_of set))) m st) (λ x. k)
  instruction (I.Local n) m st v w k = k
  instruction (I.Static n) m st v w k = k
  instruction (I.Global n) m st v w k = k
  instruction (I.Keywd word) m st v w k = pushed_or_fails (keyword_item (S.standing_of C m st) word) m st k
  instruction I.Pop m st v w k = popped m (λ item m. running m st) (λ x m. k)
  instruction I.Dup m st v w k = popped m (λ item below. S.push_item C item m st) (λ x m. k)
  instruction (I.Op op) m st v w k =
      taken (arity op) m (λ items m. S.turn P st (S.operate C op items m)) (λ xs m. turn st (S.operate C op xs m) k (λ st k. operated op xs m st k))
  instruction (I.Llist n) m st v w k =
      taken n m (λ items m. S.turn P st (λ st. S.with_values C items m st (λ values. S.list_made C values m st (λ list m st. S.push_item C (Val list) m st))))
      (λ xs m. turn st (λ st. S.with_values C xs m st (λ values. S.list_made C values m st (λ list m st. S.push_item C (Val list) m st))) k
      (λ st k. values xs m st (λ values. S.list_made C values m st (λ list m st. S.push_item C (Val list) m st)) k
      (λ vs. list_made vs m st (λ list m st. S.push_item C (Val list) m st) k (λ v m s k. k))))
  instruction (I.Field n) m st v w k =
      taken 1 m (λ items m. S.turn P st (S.field_applied C P n items m)) (λ xs m. turn st (S.field_applied C P n xs m) k (λ st k. field_applied n xs m st k))
  instruction (I.Invoke n) m st v w k =
      taken (suc n) m (λ items m. S.turn P st (S.invoked_with C P items m))
      (λ xs m. turn st (S.invoked_with C P xs m) k (λ st k. invoked_with xs m st (v n refl) k))
  instruction I.Appl m st v w k =
      taken 2 m (λ items m. S.turn P st (S.applied_to_elements C P items m))
      (λ xs m. turn st (S.applied_to_elements C P xs m) k (λ st k. applied xs m st (w refl) k))
  instruction (I.Mark l) m st v w k = k
  instruction I.Mark0 m st v w k = k
  instruction I.Unmark m st v w k = unmarked m st running k (λ m s k. k)
  instruction I.Eret m st v w k = popped m (λ item m. S.with_value C item m st (λ value. S.unmark_then C m st (S.push_item C (Val value))))
      (λ x m. value x m st (λ value. S.unmark_then C m st (S.push_item C (Val value))) k (λ v. unmarked m st (S.push_item C (Val v)) k (λ m s k. k)))
  instruction I.Esusp m st v w k =
      popped m (λ item m. S.with_found (C.suspend_mark m) (λ m. S.push_item C item m st)) (λ x m. found (C.suspend_mark m) (λ m. S.push_item C x m st) (λ m. k))
  instruction I.Limit m st v w k = popped m (λ item m. S.with_value C item m st (λ value. S.limit_results C value (integer_of value) m st))
      (λ x m. value x m st (λ value. S.limit_results C value (integer_of value) m st) k (λ v. limited v (integer_of v) m st k))
  instruction I.Lsusp m st v w k = popped m (λ item m. S.with_found (C.count_down m) (S.on_pair (λ count m. S.limited_result C item count m st)))
      (λ x m. parted (C.count_down m) (λ count m. S.limited_result C x count m st) (λ n m. limited_result x n m st k))
  instruction I.Efail m st v w k = k
  instruction (I.Chfail l) m st v w k = found (C.relabel l m) (λ m. running m st) (λ m. k)
  instruction (I.Goto l) m st v w k = k
  instruction (I.Loop l) m st v w k = turn st (running (C.go l m)) k (λ s k. k)
  instruction I.Bscan m st v w k = popped m
      (λ item m. S.with_value C item m st (λ value. S.with_made C (text_row value (S.here C m st)) m st (S.scan_opened C)))
      (λ x m. value x m st (λ value. S.with_made C (text_row value (S.here C m st)) m st (S.scan_opened C)) k
      (λ v. made (text_row v (S.here C m st)) m st (S.scan_opened C) k (law.texts v (S.here C m st) st.begun k) (λ v m s k. scan_opened v m s k)))
  instruction I.Escan m st v w k = popped m (λ item m. S.with_exchange (C.swap_newest (S.pair_now st) m) (λ m. S.push_item C item (C.suspend Escan m)) st)
      (λ x m. exchanged (C.swap_newest (S.pair_now st) m) (λ m. S.push_item C x (C.suspend Escan m)) st k (λ m s k. k))
  instruction I.Ccase m st v w k = found (C.below m) (λ item. S.push_item C item m st) (λ x. k)
  instruction (I.Init l) m st v w k = initial (slice_index_or st.begun (C.proc m) true) l m st k
  instruction I.Psusp m st v w k = popped m (λ item below. S.with_result C item m st
      (λ result. S.maybe_exchanged (C.swap_oldest (S.pair_now st) m) m st (λ m. S.return_to (C.suspend_proc m) (S.push_item C result))))
      (λ x below.
      result x m st (λ result. S.maybe_exchanged (C.swap_oldest (S.pair_now st) m) m st (λ m. S.return_to (C.suspend_proc m) (S.push_item C result))) k
      (λ x. maybe_exchanged (C.swap_oldest (S.pair_now st) m) m st (λ m. S.return_to (C.suspend_proc m) (S.push_item C x)) k
      (λ m s k. returned (C.suspend_proc m) (S.push_item C x) s k (λ m s k. k))))
  instruction I.Pret m st v w k = popped m (λ item m. S.with_result C item m st (λ result. S.return_to (C.leave m) (S.push_item C result) (S.all_left C m st)))
      (λ x m. result x m st (λ result. S.return_to (C.leave m) (S.push_item C result) (S.all_left C m st)) k
      (λ x. returned (C.leave m) (S.push_item C x) (S.all_left C m st) (all_left m st k) (λ m s k. k)))
  instruction I.Pfail m st v w k = either (S.is_create_body C m st) stuck (S.proc_fails C m st) tt (proc_fails m st k)
  instruction (I.Create l) m st v w k =
      turn st (S.coexp_made C (C.locals m) (C.proc m) (C.address m) (C.go l m)) k (λ st k. coexp_made (C.locals m) (C.proc m) (C.address m) (C.go l m) st k)
  instruction I.Coact m st v w k =
      taken 2 m (λ items m. S.turn P st (S.activation_of C items m)) (λ xs m. turn st (S.activation_of C xs m) k (λ st k. activation_of xs m st k))
  instruction I.Coret m st v w k =
      either (S.is_create_body C m st) (S.with_popped C m (λ item m. S.turn P st (λ st. S.with_value C item m st (λ value. S.result_given C value m st)))) stuck
      (popped m (λ item m. S.turn P st (λ st. S.with_value C item m st (λ value. S.result_given C value m st))) (λ x m. turn st (λ st. S.with_value C x m st
      (λ value. S.result_given C value m st)) k (λ st k. value x m st (λ value. S.result_given C value m st) k (λ v. result_given v m st k)))) tt
  instruction I.Cofail m st v w k = either (S.is_create_body C m st) (S.exhaust_active C P m st) stuck (exhausted m st k) tt

  -- Runs

  pub step : FunctionsLeave → (s : State H M) → StateHolds s → StateHolds (S.step C P s)
  step w (running m st) k =
      found (S.instruction_at C P m) (λ instr. S.instruction C P instr (C.go (suc (C.address m)) m) st)
      (λ i. instruction i (C.go (suc (C.address m)) m) st (λ n e. w) (λ e. w) k)
  step w (failing m st) k = fails m st k
  step w (hopping m st) k = hop m st k
  step w (over ending outside) k = k
  step w stuck k = tt

  pub steps : FunctionsLeave → (n : ℕ) (s : State H M) → StateHolds s → StateHolds (after_steps (S.step C P) n s)
  steps w zero s k = k
  steps w (suc n) s k = steps w n (S.step C P s) (step w s k)

  begun_if : (t : Bool) (n : ℕ) (entry : Procedure) (vs : List Value) (m : M) (st : Store H) → K st → StateHolds (S.begun_if C t n entry vs m st)
  begun_if true n entry vs m st k = collected entry.collects entry.parameters vs m st
      (λ parameters m st. running (C.begin n (parameters ++ replicate entry.locals Null) 0 m) st) k (λ vs m st k. k)
  begun_if false n entry vs m st k = errs 301 None m st k

  pub start_of : (lines : List (List ℕ)) (m : M) (st : Store H) (o : Option ℕ) → K st → StateHolds (S.start_of C P lines m st o)
  start_of lines m st None k = errs 117 None m st k
  start_of lines m st (Some main) k = found (slice_get P.procs main) (λ (entry : Procedure). S.with_made C (words_row lines (S.here C m st)) m st
      (λ list m st. S.begun_if C (nat_le 1 st.world.heap.bounds.levels) main entry (list ∷ []) m st))
      (λ entry. made (words_row lines (S.here C m st)) m st (λ list m st. S.begun_if C (nat_le 1 st.world.heap.bounds.levels) main entry (list ∷ []) m st) k
      (law.words lines (S.here C m st) st.begun k)
      (λ list m st k. begun_if (nat_le 1 st.world.heap.bounds.levels) main entry (list ∷ []) m st k))
