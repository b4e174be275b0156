-- Co-expressions and failing keep all shaped.
use Rattle.std.proofs.Common.{◌≡◌, ◌≢◌, ℕ, zero, suc, ◌<◌, Bool, true, false, List, length, Option, Some, None, refl, sym, ap, ◌∙◌, subst, arith}
use Rattle.std.specs.Prelude.{slice_get, slice_set, ◌==◌, not}
use Rattle.icn_value.specs.Values.{Std, ASet, ATable}
use Rattle.icn_verify.specs.Shapes.{PlainShape, start_shape, with_more}
use Rattle.icn_run.specs.Rows.{Value, Null, Integer, Text, Chars, Procedure as ProcedureValue, ARecord, AList, ACoexp, Val, Var, Outcome, Fails, Gives, Suspends, Error, Ends, again, coexpression_row}
use Rattle.icn_run.specs.Calls.{Pair, Why, Alt, Op as Operation, Scan, Escan, Proc, MarkDrop, NoMark, Goes, Repeats, Outside as WithoutLabel}
use Rattle.icn_run.specs.Chains as C
use Rattle.icn_run.specs.Chains.{LinkedStack, WaitingChain}
use Rattle.icn_run.specs.Step.{Program, Status, Fresh, Active, Waiting, Exhausted, Coexp, Store, running, failing, hopping, here, with_at, with_made, outcome, push_item, pair_now, with_pair, with_exchange, maybe_exchanged, swapped_back, all_left, coexp_at, status_of, activator_of, with_coexp, with_status, with_activator, make_active, fail_by, passed_failure, give_by, passed_value, hop, exhaust_active, counted_result, result_given, is_main, is_create_body, with_new, coexp_made, refreshed_from, refresh, entered_by, entered_if, activation, return_to, proc_fails, without_mark, mark_dropped, resume_by, resumed_or_dropped, fails}
use Rattle.law_stacks.proofs.RowsKeep.{rows_keep}
use Rattle.law_safe.specs.Within.{ValueWithin, CreatedWithin, RowsStayWithin}
use Rattle.law_safe.specs.Shaped.{Knowledge, MemoryOf, LocalsOk, ParkedOk, StatusOk, IsFresh, IsEntered, StoreOk, KeepsShapes}
use Rattle.law_safe.proofs.EachEntry.{entry_there, index_there, set_length}
use Rattle.law_safe.proofs.GrowingKnowledge.{grow_chain}
use Rattle.law_safe.proofs.FrameCalls.{with_activation, grow_activation, here_create, set_locals_ok, locals_ok}
use Rattle.law_safe.proofs.MarkCalls.{false_is_not_true, IfThere, begin_ok, Left, leave_ok, Back, WhyOk, resume_ok, DroppedOk, drop_ok, Swapped, swap_oldest_ok, swap_newest_ok}
use Rattle.law_safe.proofs.ChangedStores.{grow_store, entered_set, set_status, set_activator, set_active, one_more, grow_one, memory_one, more_coexps}
use Rattle.law_safe.proofs.InstructionParts.{linked_machine, LinkedState, Ok, Ready, ok_if, ok_errs, ok_fails, ok_runs, ok_push, here_within, ok_outcome, ok_turned, ok_turn, ready_pair}

not_first : (n : ℕ) → n ≢ 0 → true ≡ not (is_main n)
not_first zero d = absurd (d refl)
not_first (suc n) d = refl

is_first : (n : ℕ) → false ≡ not (is_main n) → is_main n ≡ true
is_first zero e = refl
is_first (suc n) e = false_is_not_true e

module _ (P : Program) (sh : ℕ → ℕ → Option PlainShape) (given : KeepsShapes P sh) (keep : RowsStayWithin) where
  abbrev Good : LinkedState P sh given keep → Type 0
  Good state = Ok P sh given keep state

  abbrev Set : Knowledge → ℕ → PlainShape → LinkedStack → Store WaitingChain → Type 0
  Set w p S m st = Ready P sh given keep w p S m st

  abbrev pub HasBegun : Store WaitingChain → ℕ → Type 0
  HasBegun st n = IsEntered P sh st.coexps n

  -- no co-expression is active
  pub record Idle (w : Knowledge) (m : LinkedStack) (st : Store WaitingChain) : Type 0 where
    pub memory : MemoryOf P sh w m
    pub store : StoreOk P sh w (λ i. ⊥) st

  hop_ready : (w : Knowledge) (m : LinkedStack) (st : Store WaitingChain) (n : ℕ) → Idle w m st → HasBegun st n → Good (hopping m (record st { active = n }))
  hop_ready w m st n h e = (
    w,
    h.memory,
    record {
      world = h.store.world;
      coexps = record { count = h.store.coexps.count; each = h.store.coexps.each; waits = h.store.coexps.waits; there = e; first = h.store.coexps.first };
    },
  )

  -- the one that is there is the one that is read
  read_coexp : (st : Store WaitingChain) (n : ℕ) (c : Coexp WaitingChain) → slice_get st.coexps n ≡ Some c → coexp_at n st ≡ c
  read_coexp st n c e = index_there st.coexps n c _ e

  store_active : (w : Knowledge) (st : Store WaitingChain) (n : ℕ) (c : Coexp WaitingChain) → StoreOk P sh w (λ i. ⊥) st → slice_get st.coexps n ≡ Some c
      → StoreOk P sh w (λ i. i ≡ n) (make_active n st)
  store_active w st n c h e =
      subst (λ (x : Coexp WaitingChain). StoreOk P sh w (λ i. i ≡ n) (with_coexp n (record x { status = Active }) (record st { active = n })))
      (sym (read_coexp st n c e)) (set_active P sh w st n c h e (h.coexps.each n c e).activator)

  taken_ready : (w : Knowledge) (m : LinkedStack) (st : Store WaitingChain) (n : ℕ) (c : Coexp WaitingChain) (k : WaitingChain) → Idle w m st
      → slice_get st.coexps n ≡ Some c
      → (h : ParkedOk P sh w n k) → Set w h.proc h.shape (linked_machine.taken_up k m) (make_active n st)
  taken_ready w m st n c k i e h = record { now = record { has = h.has; memory = i.memory }; store = store_active w st n c i.store e }

  fail_ok : (n : ℕ) (w : Knowledge) (m : LinkedStack) (st : Store WaitingChain) (c : Coexp WaitingChain) → Idle w m st → slice_get st.coexps n ≡ Some c
      → HasBegun st n
      → (s : Status WaitingChain) → StatusOk P sh w n s → (IsFresh P sh s → ⊥) → Good (fail_by linked_machine s n m st)
  fail_ok n w m st c i e ent Fresh h f = absurd (f tt)
  fail_ok n w m st c i e ent Active h f = absurd h
  fail_ok n w m st c i e ent (Waiting k) h f =
      ok_fails P sh given keep w h.proc h.shape (linked_machine.taken_up k m) (make_active n st) (taken_ready w m st n c k i e h)
  fail_ok n w m st c i e ent Exhausted h f = hop_ready w m st n i ent

  -- what is done by the status of one is done by what is read of it
  passed_failure_ok : (n : ℕ) (w : Knowledge) (m : LinkedStack) (st : Store WaitingChain) → Idle w m st → HasBegun st n
      → Good (passed_failure linked_machine n m st)
  passed_failure_ok n w m st i ent =
      subst (λ (x : Coexp WaitingChain). Good (fail_by linked_machine x.status n m st)) (sym (read_coexp st n ent.coexp ent.stands))
      (fail_ok n w m st ent.coexp i ent.stands ent ent.coexp.status (i.store.coexps.waits n ent.coexp ent.stands (λ z. z)) ent.begun)

  -- the activator of one that is there has begun
  activator_begun : (w : Knowledge) (May : ℕ → Type 0) (st : Store WaitingChain) (n : ℕ) → StoreOk P sh w May st → HasBegun st n
      → HasBegun st (activator_of n st)
  activator_begun w May st n h ent =
      subst (λ (x : Coexp WaitingChain). HasBegun st x.activator) (sym (read_coexp st n ent.coexp ent.stands)) (h.coexps.each n ent.coexp ent.stands).activator

  to_activator_ok : (w : Knowledge) (m : LinkedStack) (st : Store WaitingChain) → Idle w m st
      → Good (passed_failure linked_machine (activator_of st.active st) m st)
  to_activator_ok w m st i = passed_failure_ok (activator_of st.active st) w m st i (activator_begun w (λ i. ⊥) st st.active i.store i.store.coexps.there)

  give_ok : (n : ℕ) (value : Value) (w : Knowledge) (m : LinkedStack) (st : Store WaitingChain) (c : Coexp WaitingChain) → Idle w m st
      → slice_get st.coexps n ≡ Some c
      → ValueWithin w.coexps value → (s : Status WaitingChain) → s ≡ c.status → StatusOk P sh w n s → Good (give_by linked_machine s n value m st)
  give_ok n value w m st c i e g Fresh q h =
      let o = i.store.coexps.each n c e in
      subst (λ (x : Coexp WaitingChain). Good (running (C.begin x.proc x.values x.address m) (make_active n st))) (sym (read_coexp st n c e))
      (ok_runs P sh given keep (with_activation w c.proc) c.proc (start_shape true) (C.begin c.proc c.values c.address m) (make_active n st)
      (record {
        now = begin_ok P sh c.proc c.values c.address true w n m i.memory (o.values h) (not_first n h);
        store = grow_store P sh w (with_activation w c.proc) (λ i. i ≡ n) (make_active n st) refl (grow_activation w c.proc) (store_active w st n c i.store e);
      }) (o.origin h))
  give_ok n value w m st c i e g Active q h = absurd h
  give_ok n value w m st c i e g (Waiting k) q h =
      ok_push P sh given keep (Val value) w h.proc h.shape (linked_machine.taken_up k m) (make_active n st) (taken_ready w m st n c k i e h) g h.goes
  give_ok n value w m st c i e g Exhausted q h = hop_ready w m st n i (record { coexp = c; stands = e; begun = subst (λ x. IsFresh P sh x → ⊥) q (λ z. z) })

  passed_value_ok : (n : ℕ) (value : Value) (w : Knowledge) (m : LinkedStack) (st : Store WaitingChain) (c : Coexp WaitingChain) → Idle w m st
      → slice_get st.coexps n ≡ Some c
      → ValueWithin w.coexps value → Good (passed_value linked_machine n value m st)
  passed_value_ok n value w m st c i e g =
      subst (λ (x : Coexp WaitingChain). Good (give_by linked_machine x.status n value m st)) (sym (read_coexp st n c e))
      (give_ok n value w m st c i e g c.status refl (i.store.coexps.waits n c e (λ z. z)))

  -- the active one gets a status
  status_ok : (s : Status WaitingChain) (w : Knowledge) (p : ℕ) (S : PlainShape) (m : LinkedStack) (st : Store WaitingChain) → Set w p S m st
      → (IsFresh P sh s → ⊥)
      → StatusOk P sh w st.active s → Idle w m (with_status st.active s st)
  status_ok s w p S m st h f ok = let a = h.store.coexps.there in record {
    memory = h.now.memory;
    store = subst (λ (x : Coexp WaitingChain). StoreOk P sh w (λ i. ⊥) (with_coexp st.active (record x { status = s }) st))
        (sym (read_coexp st st.active a.coexp a.stands)) (set_status P sh w st a.coexp s h.store a.stands f ok);
  }

  begun_then : (s : Status WaitingChain) (w : Knowledge) (p : ℕ) (S : PlainShape) (m : LinkedStack) (st : Store WaitingChain) → Set w p S m st
      → (IsFresh P sh s → ⊥) → (n : ℕ)
      → HasBegun st n → HasBegun (with_status st.active s st) n
  begun_then s w p S m st h f n ent = let a = h.store.coexps.there in
      subst (λ (x : Coexp WaitingChain). IsEntered P sh (slice_set st.coexps st.active (record x { status = s })) n)
      (sym (read_coexp st st.active a.coexp a.stands))
      (entered_set P sh st.coexps st.active a.coexp (record a.coexp { status = s }) n a.stands (λ q. absurd (f q)) ent)

  pub exhausted_ok : (w : Knowledge) (p : ℕ) (S : PlainShape) (m : LinkedStack) (st : Store WaitingChain) → Set w p S m st
      → Good (exhaust_active linked_machine P m st)
  exhausted_ok w p S m st h =
      ok_turn P sh given keep w p S m st (λ st. passed_failure linked_machine (activator_of st.active st) m (with_status st.active Exhausted st)) h (λ st' r.
      let i = status_ok Exhausted w p S m st' r (λ z. z) tt in
      let a = st'.active in
      passed_failure_ok (activator_of a st') w m (with_status a Exhausted st') i
      (begun_then Exhausted w p S m st' r (λ z. z) (activator_of a st') (activator_begun w (λ i. i ≡ a) st' a r.store r.store.coexps.there)))

  parked_ok : (w : Knowledge) (p : ℕ) (S : PlainShape) (m : LinkedStack) (st : Store WaitingChain) → Set w p S m st → sh p m.address ≡ Some (with_more 1 S)
      → ParkedOk P sh w st.active (linked_machine.kept m)
  parked_ok w p S m st h e = record { proc = p; shape = S; has = h.now.has; goes = e }

  counted_idle : (n : ℕ) (w : Knowledge) (m : LinkedStack) (st : Store WaitingChain) → Idle w m st → Idle w m (counted_result n st)
  counted_idle n w m st i = let heap = i.store.world.heap in record {
    memory = i.memory;
    store = record {
      world = record {
        heap = record {
          lists = heap.lists;
          sets = heap.sets;
          tables = heap.tables;
          records = heap.records;
          count = set_length st.world.heap.coexps n _ ∙ heap.count;
        };
        globals = i.store.world.globals;
        statics = i.store.world.statics;
        kept = i.store.world.kept;
      };
      coexps = i.store.coexps;
    };
  }

  pub result_ok : (value : Value) (w : Knowledge) (p : ℕ) (S : PlainShape) (m : LinkedStack) (st : Store WaitingChain) → Set w p S m st
      → ValueWithin w.coexps value
      → sh p m.address ≡ Some (with_more 1 S) → Good (result_given linked_machine value m st)
  result_ok value w p S m st h g e =
      let n = activator_of st.active st in
      let s : Status WaitingChain = Waiting (linked_machine.kept m) in
      let ent = begun_then s w p S m st h (λ z. z) n (activator_begun w (λ i. i ≡ st.active) st st.active h.store h.store.coexps.there) in
      passed_value_ok n value w m (counted_result st.active (with_status st.active s st)) ent.coexp
      (counted_idle st.active w m (with_status st.active s st) (status_ok s w p S m st h (λ z. z) (parked_ok w p S m st h e))) ent.stands g

  -- another one is entered
  activator_set : (w : Knowledge) (m : LinkedStack) (st : Store WaitingChain) (n a : ℕ) (c : Coexp WaitingChain) → Idle w m st → slice_get st.coexps n ≡ Some c
      → HasBegun st a
      → Idle w m (with_activator n a st)
  activator_set w m st n a c i e act = record {
    memory = i.memory;
    store = subst (λ (x : Coexp WaitingChain). StoreOk P sh w (λ i. ⊥) (with_coexp n (record x { activator = a }) st)) (sym (read_coexp st n c e))
        (set_activator P sh w st n a c i.store e act);
  }

  entered_ok : (value : Value) (n : ℕ) (w : Knowledge) (p : ℕ) (S : PlainShape) (m : LinkedStack) (st : Store WaitingChain) → Set w p S m st
      → ValueWithin w.coexps value
      → n < w.coexps → sh p m.address ≡ Some (with_more 1 S) → Good (entered_by linked_machine n value m st)
  entered_ok value n w p S m st h g l e =
      let s : Status WaitingChain = Waiting (linked_machine.kept m) in
      let st1 : Store WaitingChain = with_status st.active s st in
      let i1 = status_ok s w p S m st h (λ z. z) (parked_ok w p S m st h e) in
      let count = i1.store.coexps.count in
      let o = entry_there st1.coexps n (omega (arith, l, count)) in
      let i2 = activator_set w m st1 n st.active o.0 i1 o.1 i1.store.coexps.there in
      let count' = i2.store.coexps.count in
      let o' = entry_there (with_activator n st.active st1).coexps n (omega (arith, l, count')) in
      passed_value_ok n value w m (with_activator n st.active st1) o'.0 i2 o'.1 g

  -- a value is passed by the status of what is entered
  if_entered : (b : Bool) (s : Status WaitingChain) (n : ℕ) (value : Value) (w : Knowledge) (p : ℕ) (S : PlainShape) (m : LinkedStack) (st : Store WaitingChain)
      → Set w p S m st
      → ValueWithin w.coexps value → n < w.coexps → sh p m.address ≡ Some (with_more 1 S) → Good (entered_if linked_machine b s n value m st)
  if_entered b Exhausted n value w p S m st h g l e = ok_fails P sh given keep w p S m st h
  if_entered true Fresh n value w p S m st h g l e = ok_push P sh given keep (Val value) w p S m st h g e
  if_entered true Active n value w p S m st h g l e = ok_push P sh given keep (Val value) w p S m st h g e
  if_entered true (Waiting k) n value w p S m st h g l e = ok_push P sh given keep (Val value) w p S m st h g e
  if_entered false Fresh n value w p S m st h g l e = entered_ok value n w p S m st h g l e
  if_entered false Active n value w p S m st h g l e = entered_ok value n w p S m st h g l e
  if_entered false (Waiting k) n value w p S m st h g l e = entered_ok value n w p S m st h g l e

  pub activation_ok : (value other : Value) (w : Knowledge) (p : ℕ) (S : PlainShape) (m : LinkedStack) (st : Store WaitingChain) → Set w p S m st
      → ValueWithin w.coexps value
      → ValueWithin w.coexps other → sh p m.address ≡ Some (with_more 1 S) → Good (activation linked_machine value other m st)
  activation_ok value (ACoexp n) w p S m st h g l e = if_entered (n == st.active) (status_of n st) n value w p S m st h g l e
  activation_ok value Null w p S m st h g l e = ok_errs P sh given keep 118 (Some Null) w p S m st h l
  activation_ok value (Integer x) w p S m st h g l e = ok_errs P sh given keep 118 (Some (Integer x)) w p S m st h l
  activation_ok value (Text x) w p S m st h g l e = ok_errs P sh given keep 118 (Some (Text x)) w p S m st h l
  activation_ok value (Chars x) w p S m st h g l e = ok_errs P sh given keep 118 (Some (Chars x)) w p S m st h l
  activation_ok value (Std x) w p S m st h g l e = ok_errs P sh given keep 118 (Some (Std x)) w p S m st h l
  activation_ok value (ProcedureValue x) w p S m st h g l e = ok_errs P sh given keep 118 (Some (ProcedureValue x)) w p S m st h l
  activation_ok value (ARecord x) w p S m st h g l e = ok_errs P sh given keep 118 (Some (ARecord x)) w p S m st h l
  activation_ok value (AList x) w p S m st h g l e = ok_errs P sh given keep 118 (Some (AList x)) w p S m st h l
  activation_ok value (ASet x) w p S m st h g l e = ok_errs P sh given keep 118 (Some (ASet x)) w p S m st h l
  activation_ok value (ATable x) w p S m st h g l e = ok_errs P sh given keep 118 (Some (ATable x)) w p S m st h l

  -- a new one is made
  created_ok : (o : Outcome) (values : List Value) (proc place : ℕ) (w : Knowledge) (p : ℕ) (S : PlainShape) (m : LinkedStack) (st : Store WaitingChain)
      → Set w p S m st
      → CreatedWithin w.coexps (here linked_machine m st) o → LocalsOk P sh w proc values → sh proc place ≡ Some (start_shape true)
      → sh p m.address ≡ Some (with_more 1 S)
      → Good (with_made linked_machine o m st (λ value m st. push_item linked_machine (Val value) m (with_new values proc place st)))
  created_ok (Gives (Val v) seen) values proc place w p S m st h c g origin e =
      let locals = locals_ok P sh w st.active p S m h.now in
      let now = set_locals_ok P sh seen.locals w st.active p S m h.now (subst (LocalsOk P sh w p) (sym c.2) locals) in
      ok_push P sh given keep (Val v) (one_more w) p S (C.set_locals seen.locals m) (with_new values proc place (with_at seen st))
      (record {
        now = record {
          has = grow_chain P sh w (one_more w) (grow_one w) st.active p S m.chain now.has;
          memory = memory_one P sh w _ m.flags m.relabels now.memory;
        };
        store = record { world = c.1; coexps = more_coexps P sh w st values proc place h.store.coexps g origin };
      })
      (subst (ValueWithin (suc w.coexps)) (sym c.0) (omega arith)) e
  created_ok (Gives (Var v) seen) values proc place w p S m st h c g origin e = absurd c
  created_ok (Error j v seen) values proc place w p S m st h c g origin e =
      let locals = locals_ok P sh w st.active p S m h.now in
      ok_errs P sh given keep j v w p S (C.set_locals seen.locals m) (with_at seen st) (record {
        now = set_locals_ok P sh seen.locals w st.active p S m h.now (subst (LocalsOk P sh w p) (sym c.2) locals);
        store = record { world = c.1; coexps = h.store.coexps };
      }) c.0
  created_ok (Fails seen) values proc place w p S m st h c g origin e = absurd c
  created_ok (Suspends item r seen) values proc place w p S m st h c g origin e = absurd c
  created_ok (Ends j seen) values proc place w p S m st h c g origin e = absurd c

  pub coexp_made_ok : (values : List Value) (proc place : ℕ) (w : Knowledge) (p : ℕ) (S : PlainShape) (m : LinkedStack) (st : Store WaitingChain)
      → Set w p S m st
      → LocalsOk P sh w proc values → sh proc place ≡ Some (start_shape true) → sh p m.address ≡ Some (with_more 1 S)
      → Good (coexp_made linked_machine values proc place m st)
  coexp_made_ok values proc place w p S m st h g origin e =
      created_ok (coexpression_row (length values) (here linked_machine m st)) values proc place w p S m st h
      (keep.created w.coexps (length values) (here linked_machine m st) (here_within P sh given keep w p S m st h)) g origin e

  pub refreshed_ok : (v : Value) (w : Knowledge) (p : ℕ) (S : PlainShape) (m : LinkedStack) (st : Store WaitingChain) → Set w p S m st → ValueWithin w.coexps v
      → sh p m.address ≡ Some (with_more 1 S) → Good (refresh linked_machine v m st)
  refreshed_ok (ACoexp zero) w p S m st h g e = ok_errs P sh given keep 215 (Some (ACoexp zero)) w p S m st h g
  refreshed_ok (ACoexp (suc n)) w p S m st h g e =
      let count = h.store.coexps.count in
      let o = entry_there st.coexps (suc n) (omega (arith, g, count)) in
      let c = h.store.coexps.each (suc n) o.0 o.1 in
      let d : suc n ≢ 0 = λ q. omega (arith, q) in
      subst (λ x. Good (refreshed_from linked_machine x m st)) (sym o.1)
      (coexp_made_ok o.0.values o.0.proc o.0.address w p S m st h (c.values d) (c.origin d) e)
  refreshed_ok Null w p S m st h g e = ok_errs P sh given keep 118 (Some Null) w p S m st h g
  refreshed_ok (Integer x) w p S m st h g e = ok_errs P sh given keep 118 (Some (Integer x)) w p S m st h g
  refreshed_ok (Text x) w p S m st h g e = ok_errs P sh given keep 118 (Some (Text x)) w p S m st h g
  refreshed_ok (Chars x) w p S m st h g e = ok_errs P sh given keep 118 (Some (Chars x)) w p S m st h g
  refreshed_ok (Std x) w p S m st h g e = ok_errs P sh given keep 118 (Some (Std x)) w p S m st h g
  refreshed_ok (ProcedureValue x) w p S m st h g e = ok_errs P sh given keep 118 (Some (ProcedureValue x)) w p S m st h g
  refreshed_ok (ARecord x) w p S m st h g e = ok_errs P sh given keep 118 (Some (ARecord x)) w p S m st h g
  refreshed_ok (AList x) w p S m st h g e = ok_errs P sh given keep 118 (Some (AList x)) w p S m st h g
  refreshed_ok (ASet x) w p S m st h g e = ok_errs P sh given keep 118 (Some (ASet x)) w p S m st h g
  refreshed_ok (ATable x) w p S m st h g e = ok_errs P sh given keep 118 (Some (ATable x)) w p S m st h g

  pub hop_ok : (w : Knowledge) (m : LinkedStack) (st : Store WaitingChain) → Idle w m st → Good (hop linked_machine P m st)
  hop_ok w m st i = ok_turned P sh given keep st (λ st. passed_failure linked_machine (activator_of st.active st) m st)
      (to_activator_ok w m (record st { turns = suc st.turns })
      (record { memory = i.memory; store = record { world = i.store.world; coexps = i.store.coexps } }))

  -- Scans exchanged

  pub ok_maybe : (o : Option (Pair × LinkedStack)) (w : Knowledge) (p : ℕ) (S : PlainShape) (m : LinkedStack) (st : Store WaitingChain)
      (next : LinkedStack → Store WaitingChain → LinkedState P sh given keep) → Set w p S m st → IfThere (Swapped P sh w st.active p S m) o
      → ((m' : LinkedStack) (st' : Store WaitingChain) → Set w p S m' st' → m'.address ≡ m.address → Good (next m' st')) → Good (maybe_exchanged o m st next)
  ok_maybe None w p S m st next h g f = f m st h refl
  ok_maybe (Some swap) w p S m st next h g f =
      f swap.1 (with_pair swap.0 st) (ready_pair P sh given keep w p S swap.1 st swap.0 (record { now = g.now; store = h.store })) g.address

  pub ok_exchanged : (w : Knowledge) (p : ℕ) (S : PlainShape) (m : LinkedStack) (st : Store WaitingChain)
      (next : LinkedStack → Store WaitingChain → LinkedState P sh given keep) → Set w p S m st
      → 0 < S.inner.scans
      → ((m' : LinkedStack) (st' : Store WaitingChain) → Set w p S m' st' → m'.address ≡ m.address → Good (next m' st'))
      → Good (with_exchange (C.swap_newest (pair_now st) m) next st)
  ok_exchanged w p S m st next h l f = let o = swap_newest_ok P sh (pair_now st) w st.active p S m h.now l in
      subst (λ x. Good (with_exchange x next st)) (sym o.1)
      (f o.0.1 (with_pair o.0.0 st) (ready_pair P sh given keep w p S o.0.1 st o.0.0 (record { now = o.2.now; store = h.store })) o.2.address)

  -- Back to the caller

  pub ok_returned : (o : Option LinkedStack) (w : Knowledge) (cr : Bool) (st : Store WaitingChain)
      (next : LinkedStack → Store WaitingChain → LinkedState P sh given keep)
      → StoreOk P sh w (λ i. i ≡ st.active) st → Left P sh w st.active cr o → cr ≡ false
      → ((m : LinkedStack) (p : ℕ) (S : PlainShape) → Set w p S m st → sh p m.address ≡ Some (with_more 1 S) → Good (next m st)) → Good (return_to o next st)
  ok_returned None w cr st next h g e f =
      ok_if P sh given keep (is_main st.active) _ _ (λ q. tt)
      (λ q. let z : is_main st.active ≡ true = is_first st.active (sym e ∙ g) in false_is_not_true (sym q ∙ z))
  ok_returned (Some m) w cr st next h g e f = f m g.proc g.shape (record { now = g.now; store = h }) g.goes

  -- all scans are left
  pub ok_all : (w : Knowledge) (p : ℕ) (S : PlainShape) (m : LinkedStack) (st : Store WaitingChain) (next : Store WaitingChain → LinkedState P sh given keep)
      → Set w p S m st
      → ((st' : Store WaitingChain) → Set w p S m st' → Good (next st')) → Good (next (all_left linked_machine m st))
  ok_all w p S m st next h f = by (C.swap_oldest (pair_now st) m)
    where
      by : (o : Option (Pair × LinkedStack)) → Good (next (swapped_back o st))
      by None = f st h
      by (Some swap) = f (with_pair swap.0 st) (ready_pair P sh given keep w p S m st swap.0 h)

  pub proc_fails_ok : (w : Knowledge) (p : ℕ) (S : PlainShape) (m : LinkedStack) (st : Store WaitingChain) → Set w p S m st → S.in_create ≡ false
      → Good (proc_fails linked_machine m st)
  proc_fails_ok w p S m st h e = ok_all w p S m st (λ st. return_to (C.leave m) failing st) h
      (λ st' r. ok_returned (C.leave m) w S.in_create st' failing r.store (leave_ok P sh w st'.active p S m r.now) e
      (λ m' p' S' r' e'. ok_fails P sh given keep w p' S' m' st' r'))

  -- Failing

  without_mark_ok : (w : Knowledge) (p : ℕ) (S : PlainShape) (m : LinkedStack) (st : Store WaitingChain) → Set w p S m st
      → Good (without_mark linked_machine P m st)
  without_mark_ok w p S m st h = ok_if P sh given keep (is_create_body linked_machine m st) _ _ (λ e. exhausted_ok w p S m st h)
      (λ e. proc_fails_ok w p S m st h (sym (here_create P sh w st.active p S m h.now) ∙ e))

  dropped_ok : (w : Knowledge) (p : ℕ) (S : PlainShape) (m : LinkedStack) (st : Store WaitingChain) (d : MarkDrop LinkedStack) → Set w p S m st
      → DroppedOk P sh w st.active d
      → Good (mark_dropped linked_machine P m st d)
  dropped_ok w p S m st NoMark h g = without_mark_ok w p S m st h
  dropped_ok w p S m st (Goes after) h g = ok_runs P sh given keep w g.proc g.shape after st (record { now = g.now; store = h.store }) g.goes
  dropped_ok w p S m st (Repeats after) h g = ok_turn P sh given keep w g.proc g.shape after st (running after) (record { now = g.now; store = h.store })
      (λ st' r. ok_runs P sh given keep w g.proc g.shape after st' r g.goes)
  dropped_ok w p S m st (WithoutLabel after) h g = ok_fails P sh given keep w g.0 g.1 after st (record { now = g.2; store = h.store })

  resumed_ok : (why : Why) (w : Knowledge) (p : ℕ) (S : PlainShape) (m : LinkedStack) (st : Store WaitingChain) → Set w p S m st
      → WhyOk P sh w p S m.address why
      → Good (resume_by linked_machine P why m st)
  resumed_ok Alt w p S m st h g = ok_fails P sh given keep w p S m st h
  resumed_ok (Operation r) w p S m st h g =
      ok_turn P sh given keep w p S m st (λ st. outcome linked_machine (again r (here linked_machine m st)) m st) h (λ st' q.
      ok_outcome P sh given keep (again r (here linked_machine m st')) w p S m st' q
      (keep.resumed w.coexps r (here linked_machine m st') (here_within P sh given keep w p S m st' q) g.0)
      (rows_keep.resumed r (here linked_machine m st')) g.1)
  resumed_ok (Scan pair) w p S m st h g = ok_fails P sh given keep w p S m (with_pair pair st) (ready_pair P sh given keep w p S m st pair h)
  resumed_ok Escan w p S m st h g = ok_exchanged w p S m st failing h g (λ m' st' r e. ok_fails P sh given keep w p S m' st' r)
  resumed_ok Proc w p S m st h g = ok_turn P sh given keep w p S m st (λ st. maybe_exchanged (C.swap_oldest (pair_now st) m) m st running) h (λ st' q.
      ok_maybe (C.swap_oldest (pair_now st') m) w p S m st' running q (swap_oldest_ok P sh (pair_now st') w st'.active p S m q.now)
      (λ m' st'' r e. ok_runs P sh given keep w p S m' st'' r (ap (sh p) e ∙ g)))

  back_ok : (o : Option (Why × LinkedStack)) (w : Knowledge) (p : ℕ) (S : PlainShape) (m : LinkedStack) (st : Store WaitingChain) → Set w p S m st
      → IfThere (Back P sh w st.active) o → Good (resumed_or_dropped linked_machine P m st o)
  back_ok None w p S m st h g = dropped_ok w p S m st (C.drop_mark m) h (drop_ok P sh w st.active p S m h.now)
  back_ok (Some back) w p S m st h g = resumed_ok back.0 w g.proc g.shape back.1 st (record { now = g.now; store = h.store }) g.why

  pub fails_ok : (w : Knowledge) (p : ℕ) (S : PlainShape) (m : LinkedStack) (st : Store WaitingChain) → Set w p S m st → Good (fails linked_machine P m st)
  fails_ok w p S m st h = back_ok (C.resume m) w p S m st h (resume_ok P sh w st.active p S m h.now)
