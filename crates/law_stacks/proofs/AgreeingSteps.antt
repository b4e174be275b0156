-- One step of two machines whose calls agree.
use Rattle.std.proofs.Common.{◌≡◌, ◌≢◌, ℕ, zero, suc, ◌+◌, ◌-◌, ◌⊎◌, inl, inr, List, [], ◌∷◌, ◌++◌, length, Option, Some, None, refl, sym, ap, ◌∙◌, subst, Bool, true, false, if◌then◌else◌}
use Rattle.std.specs.Prelude.{◌==◌, ◌&&◌, not, ℤ, pos, negsuc, nat_lt, nat_le, slice_get, slice_set, slice_index_or, drop, pred, replicate}
use Rattle.icn_text.specs.declared.op.Op.{Op}
use Rattle.icn_text.specs.declared.op.Op.TheVariants as Ops
use Rattle.icn_text.specs.declared.keyword.Keyword.{Keyword}
use Rattle.icn_defs.specs.Arities.{arity}
use Rattle.icn_code.specs.declared.instr.Instr.{Instr}
use Rattle.icn_code.specs.declared.instr.Instr.TheVariants as I
use Rattle.icn_code.specs.Codes.{Proc as Procedure, RecordType}
use Rattle.icn_run.specs.Rows.{Value, Null, Integer, Text, Chars, Procedure as ProcedureValue, ARecord, AList, ACoexp, Static, Local, Whole, Part, Item, Val, Var, Setting, World, Outside, Outcome, Fails, Gives, Suspends, Error, Ends, integer_of, number_of, again, apply, keyword_item, value_row, list_row, text_row, record_row, coexpression_row, words_row, record_at, Operation, Function, Ending}
use Rattle.icn_run.specs.Calls.{Pair, Why, Alt, Op as Operating, Scan, Escan, Proc, MarkDrop, NoMark, Goes, Repeats, Outside as WithoutLabel, Calls}
use Rattle.icn_defs.specs.NamedValues.{named_by}
use Rattle.icn_run.specs.Step.{Program, Launch, Status, Fresh, Active, Waiting, Exhausted, Coexp, Store, State, running, failing, hopping, over, stuck, with_found, on_pair, turn_if, turn, steps, step, here, with_world, ended_by, errs, with_at, with_given, with_made, with_value, with_values, push_item, outcome, list_made, instrs_of, statics_before, with_pair, pair_now, scans_left, with_exchange, maybe_exchanged, swapped_back, all_left, coexp_at, status_of, activator_of, with_status, with_activator, make_active, fail_by, passed_failure, begun_by, give_by, passed_value, hop, exhaust_active, counted_result, result_given, is_main, is_create_body, with_new, coexp_made, refreshed_from, refresh, entered_by, entered_if, activation, enter_procedure, fill_nulls, collect_rest, with_parameters, called_if, call_procedure, construct_record, choose_item, pushed_or_fails, integer_called, named_called, Callee, IsProc, IsRecord, IsFunc, IsNothing, callee_of, callee_called, invoke_value, invoked_with, elements_called, applied_to_elements, field_index, field_taken, field_of, with_result, return_to, proc_fails, without_mark, mark_dropped, resume_by, resumed_or_dropped, fails, members_of, standing_of, with_popped, with_taken, unmark_then, limit_results, limited_result, scan_opened, initial_if, initial_done, activation_of, operate, field_applied, instruction, instruction_at, begun_if, start_of, start_hiding, first_store_hiding, main_of}
use Rattle.icn_defs.specs.Errors.{ends_run}
use Rattle.icn_defs.specs.KeptSizes.{KeepsIn}
use Rattle.icn_defs.proofs.OnErrors.{on_both, fatal_ends}
use Rattle.icn_run.proofs.Errors.{kept_in, at_end}
use Rattle.law_stacks.specs.AgreeingMachines.{Both, Then, With, SameDropped, Agrees}
use Rattle.law_stacks.specs.SameStates.{IsMade, IsLacking, mark_of, Opens, RowsKeep, SameStatus, SameCoexp, alike, Rests, lift, Ready, Same, same_running, same_failing, same_hopping, same_over, same_stuck, lost}
use Rattle.law_stacks.proofs.LockSteps.{rest_map, rest_get, rest_set, rest_out, rest_more, rest_at, same_status, same_activator, status_set, activator_set}

pub both_map : {A' A : Type 0} (L : Type 0) (Q R : A' → A → Type 0) (o' : Option A') (o : Option A) → ((x' : A') (x : A) → Q x' x → R x' x) → Both L Q o' o
    → Both L R o' o
both_map L Q R None None f h = tt
both_map L Q R None (Some x) f h = h
both_map L Q R (Some x') None f h = h
both_map L Q R (Some x') (Some x) f h = f x' x h

-- the turns that a state made
abbrev pub made_turns : {K M : Type 0} → State K M → ℕ
made_turns (running m st) = st.turns
made_turns (failing m st) = st.turns
made_turns (hopping m st) = st.turns
made_turns (over ending outside) = 0
made_turns stuck = 0

module _ {K M K' M' : Type 0} (C' : Calls K' M') (C : Calls K M) (P : Program) (Lacks : M' → Type 0) (Lost : Type 0) (G : Agrees C' C (Opens P) Lacks)
    (keep : RowsKeep) where
  abbrev pub Rd : ℕ → M' → M → List (Coexp K') → List (Coexp K) → Type 0
  Rd s m' m ks' ks = Ready C' C P Lacks Lost G s m' m ks' ks

  abbrev pub SameAs : State K' M' → State K M → Type 0
  SameAs s' s = Same C' C P Lacks Lost G s' s

  abbrev pub Nw : G.W → ℕ → M' → M → Type 0
  Nw w s m' m = G.Now w s m' m

  abbrev pub Tn : G.W → ℕ → M' → M → Type 0
  Tn w s m' m = Then G.Next G.Now w s m' m

  abbrev pub Others : G.W → ℕ → ℕ → K' → K → Type 0
  Others w s i k' k = (i ≢ s) × G.Away w i k' k

  abbrev pub All : G.W → ℕ → K' → K → Type 0
  All w i k' k = G.Away w i k' k

  -- stacks

  r_then : (s : ℕ) (m' : M') (m : M) (ks' : List (Coexp K')) (ks : List (Coexp K)) (w : G.W) → Rests (Others w s) ks' ks → Tn w s m' m → Rd s m' m ks' ks
  r_then s m' m ks' ks w r t =
      record { world = t.0; here = t.2; rests = rest_map (Others w s) (Others t.0 s) (λ i k' k a. (a.0, G.stays w t.0 s i k' k t.1 a.0 a.1)) ks' ks r }

  r_push : (item : Item) (s : ℕ) (m' : M') (m : M) (ks' : List (Coexp K')) (ks : List (Coexp K)) → Rd s m' m ks' ks
      → Rd s (C'.push item m') (C.push item m) ks' ks
  r_push item s m' m ks' ks h = r_then s _ _ ks' ks h.world h.rests (G.push item h.world s m' m h.here)

  r_go : (q : ℕ) (s : ℕ) (m' : M') (m : M) (ks' : List (Coexp K')) (ks : List (Coexp K)) → Rd s m' m ks' ks → Rd s (C'.go q m') (C.go q m) ks' ks
  r_go q s m' m ks' ks h = r_then s _ _ ks' ks h.world h.rests (G.go q h.world s m' m h.here)

  r_locals : (values : List Value) (s : ℕ) (m' : M') (m : M) (ks' : List (Coexp K')) (ks : List (Coexp K)) → length values ≡ length (C.locals m)
      → Rd s m' m ks' ks → Rd s (C'.set_locals values m') (C.set_locals values m) ks' ks
  r_locals values s m' m ks' ks e h = r_then s _ _ ks' ks h.world h.rests (G.set_locals values h.world s m' m h.here e)

  r_suspend : (why : Why) (s : ℕ) (m' : M') (m : M) (ks' : List (Coexp K')) (ks : List (Coexp K)) → Rd s m' m ks' ks
      → Rd s (C'.suspend why m') (C.suspend why m) ks' ks
  r_suspend why s m' m ks' ks h = r_then s _ _ ks' ks h.world h.rests (G.suspend why h.world s m' m h.here)

  r_limit : (count : ℕ) (s : ℕ) (m' : M') (m : M) (ks' : List (Coexp K')) (ks : List (Coexp K)) → Rd s m' m ks' ks
      → Rd s (C'.limit count m') (C.limit count m) ks' ks
  r_limit count s m' m ks' ks h = r_then s _ _ ks' ks h.world h.rests (G.limit count h.world s m' m h.here)

  r_mark : (label : Option ℕ) (s : ℕ) (m' : M') (m : M) (ks' : List (Coexp K')) (ks : List (Coexp K)) → Opens P (C.proc m) (pred (C.address m)) label
      → Rd s m' m ks' ks → Rd s (C'.mark label m') (C.mark label m) ks' ks
  r_mark label s m' m ks' ks e h = r_then s _ _ ks' ks h.world h.rests (G.mark label h.world s m' m h.here e)

  r_enter : (p : ℕ) (values : List Value) (s : ℕ) (m' : M') (m : M) (ks' : List (Coexp K')) (ks : List (Coexp K)) → Rd s m' m ks' ks
      → Rd s (C'.enter p values m') (C.enter p values m) ks' ks
  r_enter p values s m' m ks' ks h = r_then s _ _ ks' ks h.world h.rests (G.enter p values h.world s m' m h.here)

  abbrev RdWith : {A : Type 0} → ℕ → List (Coexp K') → List (Coexp K) → A × M' → A × M → Type 0
  RdWith s ks' ks x' x = (x'.0 ≡ x.0) × Rd s x'.1 x.1 ks' ks

  with_then : {A : Type 0} (s : ℕ) (ks' : List (Coexp K')) (ks : List (Coexp K)) (w : G.W) → Rests (Others w s) ks' ks → (x' : A × M') (x : A × M)
      → With G.Next G.Now w s x' x → RdWith s ks' ks x' x
  with_then s ks' ks w r x' x h = (h.0, r_then s x'.1 x.1 ks' ks w r h.1)

  b_with : {A : Type 0} (s : ℕ) (m' : M') (m : M) (ks' : List (Coexp K')) (ks : List (Coexp K)) (o' : Option (A × M')) (o : Option (A × M))
      → (h : Rd s m' m ks' ks) → Both ⊥ (With G.Next G.Now h.world s) o' o → Both ⊥ (RdWith s ks' ks) o' o
  b_with {A} s m' m ks' ks o' o h b = both_map ⊥ (With {A = A} G.Next G.Now h.world s) (RdWith {A = A} s ks' ks) o' o (with_then s ks' ks h.world h.rests) b

  b_then : (L : Type 0) (s : ℕ) (m' : M') (m : M) (ks' : List (Coexp K')) (ks : List (Coexp K)) (o' : Option M') (o : Option M) → (h : Rd s m' m ks' ks)
      → Both L (Tn h.world s) o' o → Both L (λ a' a. Rd s a' a ks' ks) o' o
  b_then L s m' m ks' ks o' o h b = both_map L (Tn h.world s) (λ a' a. Rd s a' a ks' ks) o' o (λ a' a t. r_then s a' a ks' ks h.world h.rests t) b

  locals_eq : (s : ℕ) (m' : M') (m : M) (ks' : List (Coexp K')) (ks : List (Coexp K)) → Rd s m' m ks' ks → C'.locals m' ≡ C.locals m
  locals_eq s m' m ks' ks h = G.locals h.world s m' m h.here

  -- continuing

  w_found : {A' A : Type 0} (Q : A' → A → Type 0) (o' : Option A') (o : Option A) (n' : A' → State K' M') (n : A → State K M) → Both ⊥ Q o' o
      → ((x' : A') (x : A) → Q x' x → SameAs (n' x') (n x)) → SameAs (with_found o' n') (with_found o n)
  w_found Q None None n' n h f = same_stuck
  w_found Q None (Some x) n' n h f = absurd h
  w_found Q (Some x') None n' n h f = absurd h
  w_found Q (Some x') (Some x) n' n h f = f x' x h

  w_lacking : {A' A : Type 0} (Lack : Type 0)
      → (Lack → Lost) → (Q : A' → A → Type 0) (o' : Option A') (o : Option A) (n' : A' → State K' M') (n : A → State K M) → Both Lack Q o' o
      → ((x' : A') (x : A) → Q x' x → SameAs (n' x') (n x)) → SameAs (with_found o' n') (with_found o n)
  w_lacking Lack g Q None None n' n h f = same_stuck
  w_lacking Lack g Q None (Some x) n' n h f = lost (g h)
  w_lacking Lack g Q (Some x') None n' n h f = absurd h
  w_lacking Lack g Q (Some x') (Some x) n' n h f = f x' x h

  w_same : {A : Type 0} (o : Option A) (n' : A → State K' M') (n : A → State K M) → ((x : A) → SameAs (n' x) (n x)) → SameAs (with_found o n') (with_found o n)
  w_same None n' n f = same_stuck
  w_same (Some x) n' n f = f x

  either : (b : Bool) (x' y' : State K' M') (x y : State K M) → SameAs x' x → SameAs y' y → SameAs (if b then x' else y') (if b then x else y)
  either true x' y' x y p q = p
  either false x' y' x y p q = q

  either_as : (b' b : Bool) (x' y' : State K' M') (x y : State K M) → b' ≡ b → SameAs x' x → SameAs y' y → SameAs (if b' then x' else y') (if b then x else y)
  either_as b' b x' y' x y e p q = subst (λ t. SameAs (if t then x' else y') (if b then x else y)) (sym e) (either b x' y' x y p q)

  -- both runs end by the error, or both fail
  w_errs : (n : ℕ) (v : Option Value) (m' : M') (m : M) (st : Store K) (ks' : List (Coexp K')) → Rd st.active m' m ks' st.coexps
      → SameAs (errs n v m' (lift st ks')) (errs n v m st)
  w_errs n v m' m st ks' h = on_both SameAs n v st.world (ended_by n v (lift st ks')) (λ world. failing m' (with_world world (lift st ks')))
      (ended_by n v st) (λ world. failing m (with_world world st)) same_over (same_failing (kept_in n v st) ks' h)

  -- both end by an error that no run survives
  w_ended : (n : ℕ) (v : Option Value) (m' : M') (m : M) (st : Store K) (ks' : List (Coexp K')) → ends_run n st.world.error ≡ true
      → SameAs (errs n v m' (lift st ks')) (errs n v m st)
  w_ended n v m' m st ks' e =
      at_end (λ s. SameAs s (errs n v m st)) n v m' (lift st ks') e (at_end (λ s. SameAs (ended_by n v (lift st ks')) s) n v m st e same_over)

  w_valued : (o : Outcome) (m' : M') (m : M) (st : Store K) (ks' : List (Coexp K')) → Rd st.active m' m ks' st.coexps
      → (n' : Value → State K' M') (n : Value → State K M) → ((v : Value) → SameAs (n' v) (n v))
      → SameAs (with_given o m' (lift st ks') n') (with_given o m st n)
  w_valued (Gives (Val v) seen) m' m st ks' h n' n f = f v
  w_valued (Gives (Var v) seen) m' m st ks' h n' n f = same_failing st ks' h
  w_valued (Error k v seen) m' m st ks' h n' n f = w_errs k v m' m st ks' h
  w_valued (Fails seen) m' m st ks' h n' n f = same_failing st ks' h
  w_valued (Suspends item r seen) m' m st ks' h n' n f = same_failing st ks' h
  w_valued (Ends k seen) m' m st ks' h n' n f = same_failing st ks' h

  abbrev pub TurnOf : Store K → Store K
  TurnOf st = record st { turns = suc st.turns }

  turn_on : (b : Bool) (st : Store K) (ks' : List (Coexp K')) (e' : Store K' → State K' M') (e : Store K → State K M)
      → SameAs (e' (lift (TurnOf st) ks')) (e (TurnOf st)) → SameAs (turn_if b (lift st ks') e') (turn_if b st e)
  turn_on true st ks' e' e h = h
  turn_on false st ks' e' e h = same_over

  w_turn : (st : Store K) (ks' : List (Coexp K')) (e' : Store K' → State K' M') (e : Store K → State K M) → SameAs (e' (lift (TurnOf st) ks')) (e (TurnOf st))
      → SameAs (turn P (lift st ks') e') (turn P st e)
  w_turn st ks' e' e h = turn_on (nat_lt st.turns st.world.heap.bounds.turns) st ks' e' e h

  w_value : (item : Item) (m' : M') (m : M) (st : Store K) (ks' : List (Coexp K'))
      → Rd st.active m' m ks' st.coexps → (n' : Value → State K' M') (n : Value → State K M) → ((v : Value) → SameAs (n' v) (n v))
      → SameAs (with_value C' item m' (lift st ks') n') (with_value C item m st n)
  w_value item m' m st ks' h n' n f =
      subst (λ l. SameAs (with_given (value_row item (record { world = st.world; locals = l; outside = st.outside })) m' (lift st ks') n')
      (with_value C item m st n)) (sym (locals_eq st.active m' m ks' st.coexps h))
      (w_valued (value_row item (here C m st)) m' m st ks' h n' n f)

  w_values : (items : List Item) (m' : M') (m : M) (st : Store K) (ks' : List (Coexp K'))
      → Rd st.active m' m ks' st.coexps → (n' : List Value → State K' M') (n : List Value → State K M) → ((vs : List Value) → SameAs (n' vs) (n vs))
      → SameAs (with_values C' items m' (lift st ks') n') (with_values C items m st n)
  w_values [] m' m st ks' h n' n f = f []
  w_values (item ∷ items) m' m st ks' h n' n f = w_value item m' m st ks' h (λ value. with_values C' items m' (lift st ks') (λ values. n' (value ∷ values)))
      (λ value. with_values C items m st (λ values. n (value ∷ values)))
      (λ v. w_values items m' m st ks' h (λ values. n' (v ∷ values)) (λ values. n (v ∷ values)) (λ vs. f (v ∷ vs)))

  p_push : (item : Item) (m' : M') (m : M) (st : Store K) (ks' : List (Coexp K')) → Rd st.active m' m ks' st.coexps
      → SameAs (push_item C' item m' (lift st ks')) (push_item C item m st)
  p_push item m' m st ks' h = same_running st ks' (r_push item st.active m' m ks' st.coexps h)

  o_outcome : (o : Outcome) (m' : M') (m : M) (st : Store K) (ks' : List (Coexp K')) → KeepsIn (here C m st) o → Rd st.active m' m ks' st.coexps
      → SameAs (outcome C' o m' (lift st ks')) (outcome C o m st)
  o_outcome (Fails seen) m' m st ks' k h = same_failing (with_at seen st) ks' (r_locals seen.locals st.active m' m ks' st.coexps k.locals h)
  o_outcome (Gives item seen) m' m st ks' k h = p_push item _ _ (with_at seen st) ks' (r_locals seen.locals st.active m' m ks' st.coexps k.locals h)
  o_outcome (Suspends item r seen) m' m st ks' k h =
      p_push item _ _ (with_at seen st) ks' (r_suspend (Operating r) st.active _ _ ks' st.coexps (r_locals seen.locals st.active m' m ks' st.coexps k.locals h))
  o_outcome (Error n v seen) m' m st ks' k h = w_errs n v _ _ (with_at seen st) ks' (r_locals seen.locals st.active m' m ks' st.coexps k.locals h)
  o_outcome (Ends n seen) m' m st ks' k h = same_over

  w_outcome : (f : Setting → Outcome) → ((at : Setting) → KeepsIn at (f at)) → (m' : M') (m : M) (st : Store K) (ks' : List (Coexp K'))
      → Rd st.active m' m ks' st.coexps → SameAs (outcome C' (f (here C' m' (lift st ks'))) m' (lift st ks')) (outcome C (f (here C m st)) m st)
  w_outcome f k m' m st ks' h =
      subst (λ l. SameAs (outcome C' (f (record { world = st.world; locals = l; outside = st.outside })) m' (lift st ks')) (outcome C (f (here C m st)) m st))
      (sym (locals_eq st.active m' m ks' st.coexps h))
      (o_outcome (f (here C m st)) m' m st ks' (k (here C m st)) h)

  -- what goes on where a row gave a value and changed the store
  abbrev Goes_on : {A : Type 0} → (A → M' → Store K' → State K' M') → (A → M → Store K → State K M) → Store K → List (Coexp K') → Type 0
  Goes_on {A} n' n st ks' =
      (v : A) (a' : M') (a : M) (seen : Setting) → Rd st.active a' a ks' st.coexps → SameAs (n' v a' (lift (with_at seen st) ks')) (n v a (with_at seen st))

  o_made : (o : Outcome) (m' : M') (m : M) (st : Store K) (ks' : List (Coexp K')) → KeepsIn (here C m st) o
      → Rd st.active m' m ks' st.coexps → (n' : Value → M' → Store K' → State K' M') (n : Value → M → Store K → State K M) → Goes_on n' n st ks'
      → SameAs (with_made C' o m' (lift st ks') n') (with_made C o m st n)
  o_made (Gives (Val v) seen) m' m st ks' k h n' n f =
      f v (C'.set_locals seen.locals m') (C.set_locals seen.locals m) seen (r_locals seen.locals st.active m' m ks' st.coexps k.locals h)
  o_made (Gives (Var v) seen) m' m st ks' k h n' n f = same_failing st ks' h
  o_made (Error j v seen) m' m st ks' k h n' n f =
      w_errs j v _ _ (with_at seen st) ks' (r_locals seen.locals st.active m' m ks' st.coexps k.locals h)
  o_made (Fails seen) m' m st ks' k h n' n f = same_failing st ks' h
  o_made (Suspends item r seen) m' m st ks' k h n' n f = same_failing st ks' h
  o_made (Ends j seen) m' m st ks' k h n' n f = same_failing st ks' h

  w_made : (f : Setting → Outcome) → ((at : Setting) → KeepsIn at (f at)) → (m' : M') (m : M) (st : Store K) (ks' : List (Coexp K'))
      → Rd st.active m' m ks' st.coexps → (n' : Value → M' → Store K' → State K' M') (n : Value → M → Store K → State K M) → Goes_on n' n st ks'
      → SameAs (with_made C' (f (here C' m' (lift st ks'))) m' (lift st ks') n') (with_made C (f (here C m st)) m st n)
  w_made f k m' m st ks' h n' n g =
      subst (λ l. SameAs (with_made C' (f (record { world = st.world; locals = l; outside = st.outside })) m' (lift st ks') n')
      (with_made C (f (here C m st)) m st n)) (sym (locals_eq st.active m' m ks' st.coexps h))
      (o_made (f (here C m st)) m' m st ks' (k (here C m st)) h n' n g)

  w_list : (values : List Value) (m' : M') (m : M) (st : Store K) (ks' : List (Coexp K'))
      → Rd st.active m' m ks' st.coexps → (n' : Value → M' → Store K' → State K' M') (n : Value → M → Store K → State K M) → Goes_on n' n st ks'
      → SameAs (list_made C' values m' (lift st ks') n') (list_made C values m st n)
  w_list values m' m st ks' h n' n g = w_made (list_row values) (keep.listed values) m' m st ks' h n' n g

  w_collected : (b : Bool) (k : ℕ) (vs : List Value) (m' : M') (m : M) (st : Store K) (ks' : List (Coexp K'))
      → Rd st.active m' m ks' st.coexps → (n' : List Value → M' → Store K' → State K' M') (n : List Value → M → Store K → State K M) → Goes_on n' n st ks'
      → SameAs (collect_rest C' b k vs m' (lift st ks') n') (collect_rest C b k vs m st n)
  w_collected false k vs m' m st ks' h n' n f = f (fill_nulls k vs) m' m (here C m st) h
  w_collected true k vs m' m st ks' h n' n f = w_list (drop (k - 1) vs) m' m st ks' h (λ rest m st. n' (fill_nulls (k - 1) vs ++ rest ∷ []) m st)
      (λ rest m st. n (fill_nulls (k - 1) vs ++ rest ∷ []) m st) (λ rest a' a seen r. f (fill_nulls (k - 1) vs ++ rest ∷ []) a' a seen r)

  w_parameters : (entry : Procedure) (vs : List Value) (m' : M') (m : M) (st : Store K) (ks' : List (Coexp K'))
      → Rd st.active m' m ks' st.coexps → (n' : List Value → M' → Store K' → State K' M') (n : List Value → M → Store K → State K M) → Goes_on n' n st ks'
      → SameAs (with_parameters C' entry vs m' (lift st ks') n') (with_parameters C entry vs m st n)
  w_parameters entry vs m' m st ks' h n' n f = w_collected entry.collects entry.parameters vs m' m st ks' h n' n f

  -- co-expressions

  weaken : (w : G.W) (s : ℕ) (ks' : List (Coexp K')) (ks : List (Coexp K)) → Rests (Others w s) ks' ks → Rests (All w) ks' ks
  weaken w s ks' ks r = rest_map (Others w s) (All w) (λ i k' k a. a.1) ks' ks r

  at_number : (A : ℕ → K' → K → Type 0) (k : ℕ) (st : Store K) (ks' : List (Coexp K')) → Rests A ks' st.coexps
      → SameCoexp (A k) (coexp_at k (lift st ks')) (coexp_at k st)
  at_number A k st ks' r = rest_at A ks' st.coexps k _ _ (λ B. alike Exhausted Exhausted zero [] zero zero tt) r

  status_at : (A : ℕ → K' → K → Type 0) (k : ℕ) (st : Store K) (ks' : List (Coexp K')) → Rests A ks' st.coexps
      → SameStatus (A k) (status_of k (lift st ks')) (status_of k st)
  status_at A k st ks' r = same_status (A k) _ _ (at_number A k st ks' r)

  activator_eq : (A : ℕ → K' → K → Type 0) (k : ℕ) (st : Store K) (ks' : List (Coexp K')) → Rests A ks' st.coexps
      → activator_of k (lift st ks') ≡ activator_of k st
  activator_eq A k st ks' r = same_activator (A k) _ _ (at_number A k st ks' r)

  -- the co-expressions where number n is active
  active_rests : (w : G.W) (n : ℕ) (st : Store K) (ks' : List (Coexp K')) → Rests (All w) ks' st.coexps
      → Rests (Others w n) (make_active n (lift st ks')).coexps (make_active n st).coexps
  active_rests w n st ks' r = rest_out (All w) ks' st.coexps n _ _ (status_set (All w n) (λ k' k. ⊥) _ _ Active Active (at_number (All w) n st ks' r) tt) r

  c_fail : (w : G.W) (n : ℕ) (m' : M') (m : M) (st : Store K) (ks' : List (Coexp K')) → G.Holds w m' → Rests (All w) ks' st.coexps
      → (s' : Status K') (s : Status K) → SameStatus (All w n) s' s
      → SameAs (fail_by C' s' n m' (lift st ks')) (fail_by C s n m st)
  c_fail w n m' m st ks' hold r Fresh Fresh h = same_stuck
  c_fail w n m' m st ks' hold r Active Active h = same_stuck
  c_fail w n m' m st ks' hold r (Waiting k') (Waiting k) h = same_failing (make_active n st) (make_active n (lift st ks')).coexps
      (record { world = w; here = G.taken_up w n k' k m' m h hold; rests = active_rests w n st ks' r })
  c_fail w n m' m st ks' hold r Exhausted Exhausted h = same_hopping (record st { active = n }) ks' (record { world = w; holds = hold; rests = r })
  c_fail w n m' m st ks' hold r Fresh Active h = absurd h
  c_fail w n m' m st ks' hold r Fresh (Waiting k) h = absurd h
  c_fail w n m' m st ks' hold r Fresh Exhausted h = absurd h
  c_fail w n m' m st ks' hold r Active Fresh h = absurd h
  c_fail w n m' m st ks' hold r Active (Waiting k) h = absurd h
  c_fail w n m' m st ks' hold r Active Exhausted h = absurd h
  c_fail w n m' m st ks' hold r (Waiting k') Fresh h = absurd h
  c_fail w n m' m st ks' hold r (Waiting k') Active h = absurd h
  c_fail w n m' m st ks' hold r (Waiting k') Exhausted h = absurd h
  c_fail w n m' m st ks' hold r Exhausted Fresh h = absurd h
  c_fail w n m' m st ks' hold r Exhausted Active h = absurd h
  c_fail w n m' m st ks' hold r Exhausted (Waiting k) h = absurd h

  c_begun : (w : G.W) (n : ℕ) (c' : Coexp K') (c : Coexp K) (m' : M') (m : M) (st : Store K) (ks' : List (Coexp K')) → G.Holds w m' → SameCoexp (All w n) c' c
      → Rests (Others w st.active) ks' st.coexps → SameAs (begun_by C' c' m' (lift st ks')) (begun_by C c m st)
  c_begun w n c' c m' m st ks' hold (alike s' s a vs p q h) r =
      same_running st ks' (r_then st.active _ _ ks' st.coexps w r (G.begin p vs q w st.active m' m hold))

  c_give : (value : Value) (w : G.W) (n : ℕ) (m' : M') (m : M) (st : Store K) (ks' : List (Coexp K')) → G.Holds w m' → Rests (All w) ks' st.coexps
      → (s' : Status K') (s : Status K) → SameStatus (All w n) s' s
      → SameAs (give_by C' s' n value m' (lift st ks')) (give_by C s n value m st)
  c_give value w n m' m st ks' hold r Fresh Fresh h =
      c_begun w n _ _ m' m (make_active n st) (make_active n (lift st ks')).coexps hold (at_number (All w) n st ks' r) (active_rests w n st ks' r)
  c_give value w n m' m st ks' hold r Active Active h = same_stuck
  c_give value w n m' m st ks' hold r (Waiting k') (Waiting k) h = p_push (Val value) (C'.taken_up k' m') (C.taken_up k m) (make_active n st)
      (make_active n (lift st ks')).coexps (record { world = w; here = G.taken_up w n k' k m' m h hold; rests = active_rests w n st ks' r })
  c_give value w n m' m st ks' hold r Exhausted Exhausted h = same_hopping (record st { active = n }) ks' (record { world = w; holds = hold; rests = r })
  c_give value w n m' m st ks' hold r Fresh Active h = absurd h
  c_give value w n m' m st ks' hold r Fresh (Waiting k) h = absurd h
  c_give value w n m' m st ks' hold r Fresh Exhausted h = absurd h
  c_give value w n m' m st ks' hold r Active Fresh h = absurd h
  c_give value w n m' m st ks' hold r Active (Waiting k) h = absurd h
  c_give value w n m' m st ks' hold r Active Exhausted h = absurd h
  c_give value w n m' m st ks' hold r (Waiting k') Fresh h = absurd h
  c_give value w n m' m st ks' hold r (Waiting k') Active h = absurd h
  c_give value w n m' m st ks' hold r (Waiting k') Exhausted h = absurd h
  c_give value w n m' m st ks' hold r Exhausted Fresh h = absurd h
  c_give value w n m' m st ks' hold r Exhausted Active h = absurd h
  c_give value w n m' m st ks' hold r Exhausted (Waiting k) h = absurd h

  c_pass_failure : (w : G.W) (n' n : ℕ) (m' : M') (m : M) (st : Store K) (ks' : List (Coexp K')) → n' ≡ n → G.Holds w m' → Rests (All w) ks' st.coexps
      → SameAs (passed_failure C' n' m' (lift st ks')) (passed_failure C n m st)
  c_pass_failure w n' n m' m st ks' e hold r = subst (λ k. SameAs (passed_failure C' k m' (lift st ks')) (passed_failure C n m st)) (sym e)
      (c_fail w n m' m st ks' hold r _ _ (status_at (All w) n st ks' r))

  c_pass_value : (value : Value) (w : G.W) (n' n : ℕ) (m' : M') (m : M) (st : Store K) (ks' : List (Coexp K')) → n' ≡ n → G.Holds w m'
      → Rests (All w) ks' st.coexps → SameAs (passed_value C' n' value m' (lift st ks')) (passed_value C n value m st)
  c_pass_value value w n' n m' m st ks' e hold r = subst (λ k. SameAs (passed_value C' k value m' (lift st ks')) (passed_value C n value m st)) (sym e)
      (c_give value w n m' m st ks' hold r _ _ (status_at (All w) n st ks' r))

  -- a co-expression gets a status
  c_status : (w : G.W) (n : ℕ) (d' : Status K') (d : Status K) (st : Store K) (ks' : List (Coexp K')) → Rests (All w) ks' st.coexps → SameStatus (All w n) d' d
      → Rests (All w) (with_status n d' (lift st ks')).coexps (with_status n d st).coexps
  c_status w n d' d st ks' r g = rest_set (All w) ks' st.coexps n _ _ (status_set (All w n) (All w n) _ _ d' d (at_number (All w) n st ks' r) g) r

  c_hop : (w : G.W) (m' : M') (m : M) (st : Store K) (ks' : List (Coexp K')) → G.Holds w m' → Rests (All w) ks' st.coexps
      → SameAs (hop C' P m' (lift st ks')) (hop C P m st)
  c_hop w m' m st ks' hold r =
      w_turn st ks' (λ st. passed_failure C' (activator_of st.active st) m' st) (λ st. passed_failure C (activator_of st.active st) m st)
      (c_pass_failure w _ _ m' m (TurnOf st) ks' (activator_eq (All w) st.active st ks' r) hold r)

  c_exhausted : (m' : M') (m : M) (st : Store K) (ks' : List (Coexp K')) → Rd st.active m' m ks' st.coexps
      → SameAs (exhaust_active C' P m' (lift st ks')) (exhaust_active C P m st)
  c_exhausted m' m st ks' h = let r = weaken h.world st.active ks' st.coexps h.rests in
      w_turn st ks' (λ st. passed_failure C' (activator_of st.active st) m' (with_status st.active Exhausted st))
      (λ st. passed_failure C (activator_of st.active st) m (with_status st.active Exhausted st))
      (c_pass_failure h.world _ _ m' m (with_status st.active Exhausted (TurnOf st))
      (with_status st.active Exhausted (lift (TurnOf st) ks')).coexps (activator_eq (All h.world) st.active st ks' r) (G.holds h.world st.active m' m h.here)
      (c_status h.world st.active Exhausted Exhausted (TurnOf st) ks' r tt))

  c_result : (value : Value) (m' : M') (m : M) (st : Store K) (ks' : List (Coexp K')) → Rd st.active m' m ks' st.coexps
      → SameAs (result_given C' value m' (lift st ks')) (result_given C value m st)
  c_result value m' m st ks' h = let r = weaken h.world st.active ks' st.coexps h.rests in
      c_pass_value value h.world _ _ m' m (counted_result st.active (with_status st.active (Waiting (C.kept m)) st)) (with_status st.active
      (Waiting (C'.kept m')) (lift st ks')).coexps (activator_eq (All h.world) st.active st ks' r) (G.holds h.world st.active m' m h.here)
      (c_status h.world st.active (Waiting (C'.kept m')) (Waiting (C.kept m)) st ks' r (G.kept h.world st.active m' m h.here))

  c_made : (values : List Value) (proc place : ℕ) (m' : M') (m : M) (st : Store K) (ks' : List (Coexp K')) → Rd st.active m' m ks' st.coexps
      → SameAs (coexp_made C' values proc place m' (lift st ks')) (coexp_made C values proc place m st)
  c_made values proc place m' m st ks' h = w_made (coexpression_row (length values)) (keep.created (length values)) m' m st ks' h (λ value m st.
      push_item C' (Val value) m (with_new values proc place st)) (λ value m st. push_item C (Val value) m (with_new values proc place st)) (λ v a' a seen q.
      p_push (Val v) a' a (with_new values proc place (with_at seen st)) _ (record {
        world = q.world;
        here = q.here;
        rests = rest_more (Others q.world st.active) ks' st.coexps _ _ (λ B. alike Fresh Fresh 0 values proc place tt) q.rests;
      }))

  c_refreshed : (v : Value) (m' : M') (m : M) (st : Store K) (ks' : List (Coexp K')) → Rd st.active m' m ks' st.coexps
      → SameAs (refresh C' v m' (lift st ks')) (refresh C v m st)
  c_refreshed (ACoexp zero) m' m st ks' h = w_errs 215 (Some (ACoexp zero)) m' m st ks' h
  c_refreshed (ACoexp (suc n)) m' m st ks' h =
      from (slice_get ks' (suc n)) (slice_get st.coexps (suc n)) (rest_get (Others h.world st.active) ks' st.coexps (suc n) h.rests)
    where
      from : (o' : Option (Coexp K')) (o : Option (Coexp K)) → Both ⊥ (λ c' c. SameCoexp (Others h.world st.active (suc n)) c' c) o' o
          → SameAs (refreshed_from C' o' m' (lift st ks')) (refreshed_from C o m st)
      from None None b = same_stuck
      from None (Some c) b = absurd b
      from (Some c') None b = absurd b
      from (Some c') (Some c) (alike s' s a vs p q x) = c_made vs p q m' m st ks' h
  c_refreshed v m' m st ks' h = w_errs 118 (Some v) m' m st ks' h

  c_entered_by : (n : ℕ) (v : Value) (m' : M') (m : M) (st : Store K) (ks' : List (Coexp K')) → Rd st.active m' m ks' st.coexps
      → SameAs (entered_by C' n v m' (lift st ks')) (entered_by C n v m st)
  c_entered_by n v m' m st ks' h =
      let r = weaken h.world st.active ks' st.coexps h.rests in
      let waits = c_status h.world st.active (Waiting (C'.kept m')) (Waiting (C.kept m)) st ks' r (G.kept h.world st.active m' m h.here) in
      let st2 = with_status st.active (Waiting (C.kept m)) st in let ks2' = (with_status st.active (Waiting (C'.kept m')) (lift st ks')).coexps in
      let sent = rest_set (All h.world) ks2' st2.coexps n _ _ (activator_set (All h.world n) _ _ st.active (at_number (All h.world) n st2 ks2' waits)) waits in
      c_pass_value v h.world n n m' m (with_activator n st.active st2) (with_activator n st.active (lift st2 ks2')).coexps refl
      (G.holds h.world st.active m' m h.here) sent

  c_entered_if : (b : Bool) (A : K' → K → Type 0) (s' : Status K') (s : Status K)
      → SameStatus A s' s → (n : ℕ) (v : Value) (m' : M') (m : M) (st : Store K) (ks' : List (Coexp K')) → Rd st.active m' m ks' st.coexps
      → SameAs (entered_if C' b s' n v m' (lift st ks')) (entered_if C b s n v m st)
  c_entered_if b A Exhausted Exhausted x n v m' m st ks' h = same_failing st ks' h
  c_entered_if true A Fresh Fresh x n v m' m st ks' h = p_push (Val v) m' m st ks' h
  c_entered_if true A Active Active x n v m' m st ks' h = p_push (Val v) m' m st ks' h
  c_entered_if true A (Waiting k') (Waiting k) x n v m' m st ks' h = p_push (Val v) m' m st ks' h
  c_entered_if false A Fresh Fresh x n v m' m st ks' h = c_entered_by n v m' m st ks' h
  c_entered_if false A Active Active x n v m' m st ks' h = c_entered_by n v m' m st ks' h
  c_entered_if false A (Waiting k') (Waiting k) x n v m' m st ks' h = c_entered_by n v m' m st ks' h
  c_entered_if b A Fresh Active x n v m' m st ks' h = absurd x
  c_entered_if b A Fresh (Waiting k) x n v m' m st ks' h = absurd x
  c_entered_if b A Fresh Exhausted x n v m' m st ks' h = absurd x
  c_entered_if b A Active Fresh x n v m' m st ks' h = absurd x
  c_entered_if b A Active (Waiting k) x n v m' m st ks' h = absurd x
  c_entered_if b A Active Exhausted x n v m' m st ks' h = absurd x
  c_entered_if b A (Waiting k') Fresh x n v m' m st ks' h = absurd x
  c_entered_if b A (Waiting k') Active x n v m' m st ks' h = absurd x
  c_entered_if b A (Waiting k') Exhausted x n v m' m st ks' h = absurd x
  c_entered_if b A Exhausted Fresh x n v m' m st ks' h = absurd x
  c_entered_if b A Exhausted Active x n v m' m st ks' h = absurd x
  c_entered_if b A Exhausted (Waiting k) x n v m' m st ks' h = absurd x

  c_activation : (v other : Value) (m' : M') (m : M) (st : Store K) (ks' : List (Coexp K')) → Rd st.active m' m ks' st.coexps
      → SameAs (activation C' v other m' (lift st ks')) (activation C v other m st)
  c_activation v (ACoexp n) m' m st ks' h =
      c_entered_if (n == st.active) (Others h.world st.active n) _ _ (status_at (Others h.world st.active) n st ks' h.rests) n v m' m st ks' h
  c_activation v other m' m st ks' h = w_errs 118 (Some other) m' m st ks' h

  c_activation_of : (items : List Item) (m' : M') (m : M) (st : Store K) (ks' : List (Coexp K')) → Rd st.active m' m ks' st.coexps
      → SameAs (activation_of C' items m' (lift st ks')) (activation_of C items m st)
  c_activation_of (v ∷ other ∷ []) m' m st ks' h =
      w_value v m' m st ks' h (λ v. with_value C' other m' (lift st ks') (λ other. activation C' v other m' (lift st ks')))
      (λ v. with_value C other m st (λ other. activation C v other m st))
      (λ v. w_value other m' m st ks' h (λ other. activation C' v other m' (lift st ks')) (λ other. activation C v other m st)
      (λ other. c_activation v other m' m st ks' h))
  c_activation_of [] m' m st ks' h = same_stuck
  c_activation_of (v ∷ []) m' m st ks' h = same_stuck
  c_activation_of (v ∷ other ∷ more ∷ vs) m' m st ks' h = same_stuck

  -- calls

  a_called_if : (b : Bool) (k : ℕ) (entry : Procedure) (vs : List Value) (m' : M') (m : M) (st : Store K) (ks' : List (Coexp K'))
      → Rd st.active m' m ks' st.coexps → SameAs (called_if C' b k entry vs m' (lift st ks')) (called_if C b k entry vs m st)
  a_called_if false k entry vs m' m st ks' h = w_errs 301 None m' m st ks' h
  a_called_if true k entry vs m' m st ks' h = w_parameters entry vs m' m st ks' h (λ parameters m st. enter_procedure C' k entry parameters m st)
      (λ parameters m st. enter_procedure C k entry parameters m st)
      (λ ps a' a seen r. same_running (with_at seen st) ks' (r_enter k (ps ++ replicate entry.locals Null) st.active a' a ks' st.coexps r))

  a_called : (k : ℕ) (entry : Procedure) (vs : List Value) (m' : M') (m : M) (st : Store K) (ks' : List (Coexp K')) → Rd st.active m' m ks' st.coexps
      → SameAs (call_procedure C' k entry vs m' (lift st ks')) (call_procedure C k entry vs m st)
  a_called k entry vs m' m st ks' h =
      subst (λ l. SameAs (called_if C' (nat_le (suc l) st.world.heap.bounds.levels) k entry vs m' (lift st ks')) (call_procedure C k entry vs m st))
      (sym (G.level h.world st.active m' m h.here))
      (a_called_if (nat_le (suc (C.level m)) st.world.heap.bounds.levels) k entry vs m' m st ks' h)

  a_constructed : (k : ℕ) (entry : RecordType) (vs : List Value) (m' : M') (m : M) (st : Store K) (ks' : List (Coexp K')) → Rd st.active m' m ks' st.coexps
      → SameAs (construct_record C' k entry vs m' (lift st ks')) (construct_record C k entry vs m st)
  a_constructed k entry vs m' m st ks' h = w_made (record_row k (fill_nulls (length entry.fields) vs)) (keep.recorded k (fill_nulls (length entry.fields) vs))
      m' m st ks' h (λ value m st. push_item C' (Val value) m st) (λ value m st. push_item C (Val value) m st)
      (λ v a' a seen r. p_push (Val v) a' a (with_at seen st) ks' r)

  a_or_fails : (o : Option Item) (m' : M') (m : M) (st : Store K) (ks' : List (Coexp K')) → Rd st.active m' m ks' st.coexps
      → SameAs (pushed_or_fails C' o m' (lift st ks')) (pushed_or_fails C o m st)
  a_or_fails (Some item) m' m st ks' h = p_push item m' m st ks' h
  a_or_fails None m' m st ks' h = same_failing st ks' h

  a_callee : (c : Callee) (k : ℕ) (items : List Item) (m' : M') (m : M) (st : Store K) (ks' : List (Coexp K')) → Rd st.active m' m ks' st.coexps
      → SameAs (callee_called C' c k items m' (lift st ks')) (callee_called C c k items m st)
  a_callee (IsProc entry) k items m' m st ks' h = w_values items m' m st ks' h (λ vs. call_procedure C' k entry vs m' (lift st ks'))
      (λ vs. call_procedure C k entry vs m st) (λ vs. a_called k entry vs m' m st ks' h)
  a_callee (IsRecord kind entry) k items m' m st ks' h = w_values items m' m st ks' h (λ vs. construct_record C' kind entry vs m' (lift st ks'))
      (λ vs. construct_record C kind entry vs m st) (λ vs. a_constructed kind entry vs m' m st ks' h)
  a_callee (IsFunc func) k items m' m st ks' h = w_outcome (apply st.names (Function func) items) (keep.applied st.names (Function func) items) m' m st ks' h
  a_callee IsNothing k items m' m st ks' h = w_errs 106 (Some (ProcedureValue k)) m' m st ks' h

  a_named : (v : Value) (o : Option ℕ) (items : List Item) (m' : M') (m : M) (st : Store K) (ks' : List (Coexp K')) → Rd st.active m' m ks' st.coexps
      → SameAs (named_called C' P v o items m' (lift st ks')) (named_called C P v o items m st)
  a_named v (Some k) items m' m st ks' h = a_callee (callee_of P k) k items m' m st ks' h
  a_named v None items m' m st ks' h = w_errs 106 (Some v) m' m st ks' h

  a_integer : (v : Value) (o : Option ℤ) (items : List Item) (m' : M') (m : M) (st : Store K) (ks' : List (Coexp K')) → Rd st.active m' m ks' st.coexps
      → SameAs (integer_called C' P v o items m' (lift st ks')) (integer_called C P v o items m st)
  a_integer v (Some k) items m' m st ks' h = a_or_fails (choose_item k items) m' m st ks' h
  a_integer v None items m' m st ks' h = a_named v (named_by st.names v) items m' m st ks' h

  a_invoked : (v : Value) (items : List Item) (m' : M') (m : M) (st : Store K) (ks' : List (Coexp K')) → Rd st.active m' m ks' st.coexps
      → SameAs (invoke_value C' P v items m' (lift st ks')) (invoke_value C P v items m st)
  a_invoked (ProcedureValue k) items m' m st ks' h = a_callee (callee_of P k) k items m' m st ks' h
  a_invoked v items m' m st ks' h = a_integer v (number_of v) items m' m st ks' h

  a_invoked_with : (items : List Item) (m' : M') (m : M) (st : Store K) (ks' : List (Coexp K')) → Rd st.active m' m ks' st.coexps
      → SameAs (invoked_with C' P items m' (lift st ks')) (invoked_with C P items m st)
  a_invoked_with [] m' m st ks' h = same_stuck
  a_invoked_with (callee ∷ items) m' m st ks' h =
      w_value callee m' m st ks' h (λ v. invoke_value C' P v items m' (lift st ks')) (λ v. invoke_value C P v items m st) (λ v. a_invoked v items m' m st ks' h)

  a_elements : (v from : Value) (m' : M') (m : M) (st : Store K) (ks' : List (Coexp K')) → Rd st.active m' m ks' st.coexps
      → SameAs (elements_called C' P v from m' (lift st ks')) (elements_called C P v from m st)
  a_elements v (AList n) m' m st ks' h = a_invoked v _ m' m st ks' h
  a_elements v (ARecord n) m' m st ks' h = a_invoked v _ m' m st ks' h
  a_elements v from m' m st ks' h = w_errs 126 (Some from) m' m st ks' h

  a_applied : (items : List Item) (m' : M') (m : M) (st : Store K) (ks' : List (Coexp K')) → Rd st.active m' m ks' st.coexps
      → SameAs (applied_to_elements C' P items m' (lift st ks')) (applied_to_elements C P items m st)
  a_applied (v ∷ from ∷ []) m' m st ks' h =
      w_value v m' m st ks' h (λ v. with_value C' from m' (lift st ks') (λ from. elements_called C' P v from m' (lift st ks')))
      (λ v. with_value C from m st (λ from. elements_called C P v from m st))
      (λ v. w_value from m' m st ks' h (λ from. elements_called C' P v from m' (lift st ks')) (λ from. elements_called C P v from m st)
      (λ from. a_elements v from m' m st ks' h))
  a_applied [] m' m st ks' h = same_stuck
  a_applied (v ∷ []) m' m st ks' h = same_stuck
  a_applied (v ∷ from ∷ more ∷ vs) m' m st ks' h = same_stuck

  a_taken : (o : Option ℕ) (k : ℕ) (m' : M') (m : M) (st : Store K) (ks' : List (Coexp K')) → Rd st.active m' m ks' st.coexps
      → SameAs (field_taken C' o k m' (lift st ks')) (field_taken C o k m st)
  a_taken None k m' m st ks' h = w_errs 207 (Some (ARecord k)) m' m st ks' h
  a_taken (Some place) k m' m st ks' h = p_push _ m' m st ks' h

  a_field : (field : ℕ) (v : Value) (m' : M') (m : M) (st : Store K) (ks' : List (Coexp K')) → Rd st.active m' m ks' st.coexps
      → SameAs (field_of C' P field v m' (lift st ks')) (field_of C P field v m st)
  a_field field (ARecord k) m' m st ks' h = a_taken (field_index P field (record_at st.world.heap k).kind) k m' m st ks' h
  a_field field v m' m st ks' h = w_errs 107 (Some v) m' m st ks' h

  a_field_applied : (field : ℕ) (items : List Item) (m' : M') (m : M) (st : Store K) (ks' : List (Coexp K')) → Rd st.active m' m ks' st.coexps
      → SameAs (field_applied C' P field items m' (lift st ks')) (field_applied C P field items m st)
  a_field_applied field [] m' m st ks' h = same_stuck
  a_field_applied field (item ∷ items) m' m st ks' h = w_value item m' m st ks' h (λ value. field_of C' P field value m' (lift st ks'))
      (λ value. field_of C P field value m st) (λ v. a_field field v m' m st ks' h)

  -- what pairs do to the store

  w_left : (p' p : Option Pair) (st : Store K) (ks' : List (Coexp K')) (n' : Store K' → State K' M') (n : Store K → State K M) → p' ≡ p
      → ((w : World) → SameAs (n' (lift (with_world w st) ks')) (n (with_world w st))) → SameAs (n' (scans_left p' (lift st ks'))) (n (scans_left p st))
  w_left p' p st ks' n' n e f = subst (λ x. SameAs (n' (scans_left x (lift st ks'))) (n (scans_left p st))) (sym e) (by_pair p)
    where
      by_pair : (p : Option Pair) → SameAs (n' (scans_left p (lift st ks'))) (n (scans_left p st))
      by_pair None = f st.world
      by_pair (Some pair) = f (record st.world { subject = pair.subject; position = pair.position })

  w_back : (Q : M' → M → Type 0) (o' : Option (Pair × M')) (o : Option (Pair × M)) (st : Store K) (ks' : List (Coexp K')) (n' : Store K' → State K' M')
      (n : Store K → State K M) → Both ⊥ (λ x' x. (x'.0 ≡ x.0) × Q x'.1 x.1) o' o
      → ((w : World) → SameAs (n' (lift (with_world w st) ks')) (n (with_world w st))) → SameAs (n' (swapped_back o' (lift st ks'))) (n (swapped_back o st))
  w_back Q None None st ks' n' n b f = f st.world
  w_back Q None (Some x) st ks' n' n b f = absurd b
  w_back Q (Some x') None st ks' n' n b f = absurd b
  w_back Q (Some x') (Some x) st ks' n' n b f =
      subst (λ p. SameAs (n' (with_pair p (lift st ks'))) (n (with_pair x.0 st))) (sym b.0)
      (f (record st.world { subject = x.0.subject; position = x.0.position }))

  w_exchanged : (o' : Option (Pair × M')) (o : Option (Pair × M)) (st : Store K) (ks' : List (Coexp K')) (n' : M' → Store K' → State K' M')
      (n : M → Store K → State K M) → Both ⊥ (RdWith st.active ks' st.coexps) o' o
      → ((a' : M') (a : M) (w : World) → Rd st.active a' a ks' st.coexps → SameAs (n' a' (lift (with_world w st) ks')) (n a (with_world w st)))
      → SameAs (with_exchange o' n' (lift st ks')) (with_exchange o n st)
  w_exchanged None None st ks' n' n b f = same_stuck
  w_exchanged None (Some x) st ks' n' n b f = absurd b
  w_exchanged (Some x') None st ks' n' n b f = absurd b
  w_exchanged (Some x') (Some x) st ks' n' n b f = subst (λ p. SameAs (n' x'.1 (with_pair p (lift st ks'))) (n x.1 (with_pair x.0 st))) (sym b.0)
      (f x'.1 x.1 (record st.world { subject = x.0.subject; position = x.0.position }) b.1)

  w_maybe : (o' : Option (Pair × M')) (o : Option (Pair × M)) (m' : M') (m : M) (st : Store K) (ks' : List (Coexp K')) (n' : M' → Store K' → State K' M')
      (n : M → Store K → State K M) → Rd st.active m' m ks' st.coexps → Both ⊥ (RdWith st.active ks' st.coexps) o' o
      → ((a' : M') (a : M) (w : World) → Rd st.active a' a ks' st.coexps → SameAs (n' a' (lift (with_world w st) ks')) (n a (with_world w st)))
      → SameAs (maybe_exchanged o' m' (lift st ks') n') (maybe_exchanged o m st n)
  w_maybe None None m' m st ks' n' n h b f = f m' m st.world h
  w_maybe None (Some x) m' m st ks' n' n h b f = absurd b
  w_maybe (Some x') None m' m st ks' n' n h b f = absurd b
  w_maybe (Some x') (Some x) m' m st ks' n' n h b f = subst (λ p. SameAs (n' x'.1 (with_pair p (lift st ks'))) (n x.1 (with_pair x.0 st))) (sym b.0)
      (f x'.1 x.1 (record st.world { subject = x.0.subject; position = x.0.position }) b.1)

  w_popped : (m' : M') (m : M) (st : Store K) (ks' : List (Coexp K'))
      → Rd st.active m' m ks' st.coexps → (n' : Item → M' → State K' M') (n : Item → M → State K M)
      → ((item : Item) (a' : M') (a : M) → Rd st.active a' a ks' st.coexps → SameAs (n' item a') (n item a)) → SameAs (with_popped C' m' n') (with_popped C m n)
  w_popped m' m st ks' h n' n f = w_found (RdWith {A = Item} st.active ks' st.coexps) (C'.pop m') (C.pop m) (on_pair n') (on_pair n)
      (b_with st.active m' m ks' st.coexps (C'.pop m') (C.pop m) h (G.pop h.world st.active m' m h.here))
      (λ x' x q. subst (λ i. SameAs (n' i x'.1) (n x.0 x.1)) (sym q.0) (f x.0 x'.1 x.1 q.1))

  w_taken : (k : ℕ) (m' : M') (m : M) (st : Store K) (ks' : List (Coexp K')) → Rd st.active m' m ks' st.coexps
      → (n' : List Item → M' → State K' M') (n : List Item → M → State K M)
      → ((items : List Item) (a' : M') (a : M) → Rd st.active a' a ks' st.coexps → SameAs (n' items a') (n items a))
      → SameAs (with_taken C' k m' n') (with_taken C k m n)
  w_taken k m' m st ks' h n' n f = w_found (RdWith {A = List Item} st.active ks' st.coexps) (C'.take k m') (C.take k m) (on_pair n') (on_pair n)
      (b_with st.active m' m ks' st.coexps (C'.take k m') (C.take k m) h (G.take k h.world st.active m' m h.here))
      (λ x' x q. subst (λ i. SameAs (n' i x'.1) (n x.0 x.1)) (sym q.0) (f x.0 x'.1 x.1 q.1))

  w_unmarked : (m' : M') (m : M) (st : Store K) (ks' : List (Coexp K')) → Rd st.active m' m ks' st.coexps
      → (n' : M' → Store K' → State K' M') (n : M → Store K → State K M)
      → ((a' : M') (a : M) (w : World) → Rd st.active a' a ks' st.coexps → SameAs (n' a' (lift (with_world w st) ks')) (n a (with_world w st)))
      → SameAs (unmark_then C' m' (lift st ks') n') (unmark_then C m st n)
  w_unmarked m' m st ks' h n' n f = w_found (λ x' x. Tn h.world st.active x'.0 x.0 × (x'.1 ≡ x.1)) (C'.unmark m') (C.unmark m)
      (on_pair (λ outside pair. n' outside (scans_left pair (lift st ks')))) (on_pair (λ outside pair. n outside (scans_left pair st)))
      (G.unmark h.world st.active m' m h.here)
      (λ x' x q. w_left x'.1 x.1 st ks' (n' x'.0) (n x.0) q.1 (λ w. f x'.0 x.0 w (r_then st.active x'.0 x.0 ks' st.coexps h.world h.rests q.0)))

  w_returned : (o' : Option M') (o : Option M) (st : Store K) (ks' : List (Coexp K')) (n' : M' → Store K' → State K' M') (n : M → Store K → State K M)
      → Both ⊥ (λ a' a. Rd st.active a' a ks' st.coexps) o' o
      → ((a' : M') (a : M) → Rd st.active a' a ks' st.coexps → SameAs (n' a' (lift st ks')) (n a st))
      → SameAs (return_to o' n' (lift st ks')) (return_to o n st)
  w_returned None None st ks' n' n b f = either (is_main st.active) _ _ _ _ same_over same_stuck
  w_returned None (Some x) st ks' n' n b f = absurd b
  w_returned (Some x') None st ks' n' n b f = absurd b
  w_returned (Some x') (Some x) st ks' n' n b f = f x' x b

  w_result : (item : Item) (m' : M') (m : M) (st : Store K) (ks' : List (Coexp K'))
      → Rd st.active m' m ks' st.coexps → (n' : Item → State K' M') (n : Item → State K M) → ((x : Item) → SameAs (n' x) (n x))
      → SameAs (with_result C' item m' (lift st ks') n') (with_result C item m st n)
  w_result (Var (Whole (Local k))) m' m st ks' h n' n f =
      w_value (Var (Whole (Local k))) m' m st ks' h (λ value. n' (Val value)) (λ value. n (Val value)) (λ v. f (Val v))
  w_result (Var (Part (Local k) place size)) m' m st ks' h n' n f =
      w_value (Var (Part (Local k) place size)) m' m st ks' h (λ value. n' (Val value)) (λ value. n (Val value)) (λ v. f (Val v))
  w_result item m' m st ks' h n' n f = f item

  b_leave : (s : ℕ) (m' : M') (m : M) (ks' : List (Coexp K')) (ks : List (Coexp K)) → Rd s m' m ks' ks
      → Both ⊥ (λ a' a. Rd s a' a ks' ks) (C'.leave m') (C.leave m)
  b_leave s m' m ks' ks h = b_then ⊥ s m' m ks' ks (C'.leave m') (C.leave m) h (G.leave h.world s m' m h.here)

  b_oldest : (pair : Pair) (s : ℕ) (m' : M') (m : M) (ks' : List (Coexp K')) (ks : List (Coexp K)) → Rd s m' m ks' ks
      → Both ⊥ (RdWith s ks' ks) (C'.swap_oldest pair m') (C.swap_oldest pair m)
  b_oldest pair s m' m ks' ks h = b_with s m' m ks' ks (C'.swap_oldest pair m') (C.swap_oldest pair m) h (G.swap_oldest pair h.world s m' m h.here)

  b_newest : (pair : Pair) (s : ℕ) (m' : M') (m : M) (ks' : List (Coexp K')) (ks : List (Coexp K)) → Rd s m' m ks' ks
      → Both ⊥ (RdWith s ks' ks) (C'.swap_newest pair m') (C.swap_newest pair m)
  b_newest pair s m' m ks' ks h = b_with s m' m ks' ks (C'.swap_newest pair m') (C.swap_newest pair m) h (G.swap_newest pair h.world s m' m h.here)

  -- back in the caller, with all scans left
  w_all_left : (m' : M') (m : M) (st : Store K) (ks' : List (Coexp K')) → Rd st.active m' m ks' st.coexps
      → (n' : M' → Store K' → State K' M') (n : M → Store K → State K M)
      → ((a' : M') (a : M) (w : World) → Rd st.active a' a ks' st.coexps → SameAs (n' a' (lift (with_world w st) ks')) (n a (with_world w st)))
      → SameAs (return_to (C'.leave m') n' (all_left C' m' (lift st ks'))) (return_to (C.leave m) n (all_left C m st))
  w_all_left m' m st ks' h n' n f = w_back (λ a' a. Rd st.active a' a ks' st.coexps) (C'.swap_oldest (pair_now st) m') (C.swap_oldest (pair_now st) m) st ks'
      (return_to (C'.leave m') n') (return_to (C.leave m) n) (b_oldest (pair_now st) st.active m' m ks' st.coexps h)
      (λ w. w_returned (C'.leave m') (C.leave m) (with_world w st) ks' n' n (b_leave st.active m' m ks' st.coexps h) (λ a' a r. f a' a w r))

  l_proc_fails : (m' : M') (m : M) (st : Store K) (ks' : List (Coexp K')) → Rd st.active m' m ks' st.coexps
      → SameAs (proc_fails C' m' (lift st ks')) (proc_fails C m st)
  l_proc_fails m' m st ks' h = w_all_left m' m st ks' h failing failing (λ a' a w r. same_failing (with_world w st) ks' r)

  create_eq : (m' : M') (m : M) (st : Store K) (ks' : List (Coexp K')) → Rd st.active m' m ks' st.coexps
      → is_create_body C' m' (lift st ks') ≡ is_create_body C m st
  create_eq m' m st ks' h = ap (λ b. b && not (is_main st.active)) (G.is_base h.world st.active m' m h.here)

  -- instructions

  l_limited : (v : Value) (o : Option ℤ) (m' : M') (m : M) (st : Store K) (ks' : List (Coexp K')) → Rd st.active m' m ks' st.coexps
      → SameAs (limit_results C' v o m' (lift st ks')) (limit_results C v o m st)
  l_limited v None m' m st ks' h = w_errs 101 (Some v) m' m st ks' h
  l_limited v (Some (negsuc k)) m' m st ks' h = w_errs 205 (Some v) m' m st ks' h
  l_limited v (Some (pos zero)) m' m st ks' h = same_failing st ks' h
  l_limited v (Some (pos (suc k))) m' m st ks' h = same_running st ks' (r_limit (suc k) st.active m' m ks' st.coexps h)

  b_suspend_mark : (s : ℕ) (m' : M') (m : M) (ks' : List (Coexp K')) (ks : List (Coexp K)) → Rd s m' m ks' ks
      → Both ⊥ (λ a' a. Rd s a' a ks' ks) (C'.suspend_mark m') (C.suspend_mark m)
  b_suspend_mark s m' m ks' ks h = b_then ⊥ s m' m ks' ks (C'.suspend_mark m') (C.suspend_mark m) h (G.suspend_mark h.world s m' m h.here)

  l_esusp : (item : Item) (m' : M') (m : M) (st : Store K) (ks' : List (Coexp K')) → Rd st.active m' m ks' st.coexps
      → SameAs (with_found (C'.suspend_mark m') (λ after. push_item C' item after (lift st ks')))
      (with_found (C.suspend_mark m) (λ after. push_item C item after st))
  l_esusp item m' m st ks' h = w_found (λ a' a. Rd st.active a' a ks' st.coexps) (C'.suspend_mark m') (C.suspend_mark m)
      (λ after. push_item C' item after (lift st ks')) (λ after. push_item C item after st) (b_suspend_mark st.active m' m ks' st.coexps h)
      (λ a' a r. p_push item a' a st ks' r)

  l_limited_result : (item : Item) (k : ℕ) (m' : M') (m : M) (st : Store K) (ks' : List (Coexp K')) → Rd st.active m' m ks' st.coexps
      → SameAs (limited_result C' item k m' (lift st ks')) (limited_result C item k m st)
  l_limited_result item zero m' m st ks' h =
      w_unmarked m' m st ks' h (push_item C' item) (push_item C item) (λ a' a w r. p_push item a' a (with_world w st) ks' r)
  l_limited_result item (suc k) m' m st ks' h = l_esusp item m' m st ks' h

  l_scan : (v : Value) (m' : M') (m : M) (st : Store K) (ks' : List (Coexp K')) → Rd st.active m' m ks' st.coexps
      → SameAs (scan_opened C' v m' (lift st ks')) (scan_opened C v m st)
  l_scan (Text text) m' m st ks' h =
      same_running (with_pair (record { subject = text; position = 1 }) st) ks' (r_suspend (Scan (pair_now st)) st.active m' m ks' st.coexps h)
  l_scan _ m' m st ks' h = same_failing st ks' h

  l_keyword : (keyword : Keyword) (m' : M') (m : M) (st : Store K) (ks' : List (Coexp K')) → Rd st.active m' m ks' st.coexps
      → SameAs (pushed_or_fails C' (keyword_item (standing_of C' m' (lift st ks')) keyword) m' (lift st ks'))
      (pushed_or_fails C (keyword_item (standing_of C m st) keyword) m st)
  l_keyword keyword m' m st ks' h =
      subst (λ l. SameAs (pushed_or_fails C'
      (keyword_item (record { level = l; current = st.active; source = activator_of st.active (lift st ks'); kept = st.world.kept }) keyword) m'
      (lift st ks')) (pushed_or_fails C (keyword_item (standing_of C m st) keyword) m st)) (sym (G.level h.world st.active m' m h.here))
      (subst (λ n.
      SameAs (pushed_or_fails C' (keyword_item (record { level = C.level m; current = st.active; source = n; kept = st.world.kept }) keyword) m' (lift st ks'))
      (pushed_or_fails C (keyword_item (standing_of C m st) keyword) m st)) (sym (activator_eq (Others h.world st.active) st.active st ks' h.rests))
      (a_or_fails (keyword_item (standing_of C m st) keyword) m' m st ks' h))

  l_refreshed : (items : List Item) (m' : M') (m : M) (st : Store K) (ks' : List (Coexp K')) → Rd st.active m' m ks' st.coexps
      → SameAs (operate C' Ops.Refresh items m' (lift st ks')) (operate C Ops.Refresh items m st)
  l_refreshed [] m' m st ks' h = w_outcome (apply st.names (Operation Ops.Refresh) []) (keep.applied st.names (Operation Ops.Refresh) []) m' m st ks' h
  l_refreshed (item ∷ items) m' m st ks' h =
      w_value item m' m st ks' h (λ value. refresh C' value m' (lift st ks')) (λ value. refresh C value m st) (λ v. c_refreshed v m' m st ks' h)

  l_operated : (op : Op) (items : List Item) (m' : M') (m : M) (st : Store K) (ks' : List (Coexp K')) → Rd st.active m' m ks' st.coexps
      → SameAs (operate C' op items m' (lift st ks')) (operate C op items m st)
  l_operated Ops.Refresh items m' m st ks' h = l_refreshed items m' m st ks' h
  l_operated op items m' m st ks' h = w_outcome (apply st.names (Operation op) items) (keep.applied st.names (Operation op) items) m' m st ks' h

  l_op : (op : Op) (m' : M') (m : M) (st : Store K) (ks' : List (Coexp K')) → Rd st.active m' m ks' st.coexps
      → SameAs (with_taken C' (arity op) m' (λ items m. turn P (lift st ks') (operate C' op items m)))
      (with_taken C (arity op) m (λ items m. turn P st (operate C op items m)))
  l_op op m' m st ks' h =
      w_taken (arity op) m' m st ks' h (λ items m. turn P (lift st ks') (operate C' op items m)) (λ items m. turn P st (operate C op items m))
      (λ items a' a r. w_turn st ks' (operate C' op items a') (operate C op items a) (l_operated op items a' a (TurnOf st) ks' r))

  l_init_if : (b : Bool) (label : ℕ) (m' : M') (m : M) (st : Store K) (ks' : List (Coexp K')) → Rd st.active m' m ks' st.coexps
      → SameAs (initial_if C' b label m' (lift st ks')) (initial_if C b label m st)
  l_init_if true label m' m st ks' h = same_running st ks' (r_go label st.active m' m ks' st.coexps h)
  l_init_if false label m' m st ks' h =
      subst (λ p. SameAs (running m' (record (lift st ks') { begun = slice_set st.begun p true })) (initial_if C false label m st))
      (sym (G.proc h.world st.active m' m h.here)) (same_running (record st { begun = slice_set st.begun (C.proc m) true }) ks' h)

  l_init : (label : ℕ) (m' : M') (m : M) (st : Store K) (ks' : List (Coexp K')) → Rd st.active m' m ks' st.coexps
      → SameAs (initial_done C' label m' (lift st ks')) (initial_done C label m st)
  l_init label m' m st ks' h = subst (λ p. SameAs (initial_if C' (slice_index_or st.begun p true) label m' (lift st ks')) (initial_done C label m st))
      (sym (G.proc h.world st.active m' m h.here))
      (l_init_if (slice_index_or st.begun (C.proc m) true) label m' m st ks' h)

  l_psusp : (result : Item) (m' : M') (m : M) (st : Store K) (ks' : List (Coexp K')) → Rd st.active m' m ks' st.coexps
      → SameAs (maybe_exchanged (C'.swap_oldest (pair_now st) m') m' (lift st ks') (λ m. return_to (C'.suspend_proc m) (push_item C' result)))
      (maybe_exchanged (C.swap_oldest (pair_now st) m) m st (λ m. return_to (C.suspend_proc m) (push_item C result)))
  l_psusp result m' m st ks' h =
      w_maybe (C'.swap_oldest (pair_now st) m') (C.swap_oldest (pair_now st) m) m' m st ks' (λ m. return_to (C'.suspend_proc m) (push_item C' result))
      (λ m. return_to (C.suspend_proc m) (push_item C result)) h (b_oldest (pair_now st) st.active m' m ks' st.coexps h)
      (λ a' a w r. w_returned (C'.suspend_proc a') (C.suspend_proc a) (with_world w st) ks' (push_item C' result) (push_item C result)
      (b_then ⊥ st.active a' a ks' st.coexps (C'.suspend_proc a') (C.suspend_proc a) r (G.suspend_proc r.world st.active a' a r.here))
      (λ b' b q. p_push result b' b (with_world w st) ks' q))

  l_create : (label : ℕ) (m' : M') (m : M) (st : Store K) (ks' : List (Coexp K')) → Rd st.active m' m ks' st.coexps
      → SameAs (turn P (lift st ks') (coexp_made C' (C'.locals m') (C'.proc m') (C'.address m') (C'.go label m')))
      (turn P st (coexp_made C (C.locals m) (C.proc m) (C.address m) (C.go label m)))
  l_create label m' m st ks' h =
      subst (λ l. SameAs (turn P (lift st ks') (coexp_made C' l (C'.proc m') (C'.address m') (C'.go label m')))
      (turn P st (coexp_made C (C.locals m) (C.proc m) (C.address m) (C.go label m)))) (sym (locals_eq st.active m' m ks' st.coexps h))
      (subst (λ p. SameAs (turn P (lift st ks') (coexp_made C' (C.locals m) p (C'.address m') (C'.go label m')))
      (turn P st (coexp_made C (C.locals m) (C.proc m) (C.address m) (C.go label m)))) (sym (G.proc h.world st.active m' m h.here))
      (subst (λ p. SameAs (turn P (lift st ks') (coexp_made C' (C.locals m) (C.proc m) p (C'.go label m')))
      (turn P st (coexp_made C (C.locals m) (C.proc m) (C.address m) (C.go label m)))) (sym (G.address h.world st.active m' m h.here))
      (w_turn st ks' (coexp_made C' (C.locals m) (C.proc m) (C.address m) (C'.go label m')) (coexp_made C (C.locals m) (C.proc m) (C.address m) (C.go label m))
      (c_made (C.locals m) (C.proc m) (C.address m) (C'.go label m') (C.go label m) (TurnOf st) ks' (r_go label st.active m' m ks' st.coexps h)))))

  l_below : (m' : M') (m : M) (st : Store K) (ks' : List (Coexp K')) → Rd st.active m' m ks' st.coexps
      → SameAs (with_found (C'.below m') (λ item. push_item C' item m' (lift st ks'))) (with_found (C.below m) (λ item. push_item C item m st))
  l_below m' m st ks' h =
      subst (λ o. SameAs (with_found o (λ item. push_item C' item m' (lift st ks'))) (with_found (C.below m) (λ item. push_item C item m st)))
      (sym (G.below h.world st.active m' m h.here))
      (w_same (C.below m) (λ item. push_item C' item m' (lift st ks')) (λ item. push_item C item m st) (λ item. p_push item m' m st ks' h))

  l_static : (k : ℕ) (m' : M') (m : M) (st : Store K) (ks' : List (Coexp K')) → Rd st.active m' m ks' st.coexps
      → SameAs (instruction C' P (I.Static k) m' (lift st ks')) (instruction C P (I.Static k) m st)
  l_static k m' m st ks' h =
      subst (λ p. SameAs (push_item C' (Var (Whole (Static (statics_before P p + k)))) m' (lift st ks')) (instruction C P (I.Static k) m st))
      (sym (G.proc h.world st.active m' m h.here)) (p_push _ m' m st ks' h)

  -- the place is that of the next instruction
  pub l_instruction : (i : Instr) (m' : M') (m : M) (st : Store K) (ks' : List (Coexp K')) → slice_get (instrs_of P (C.proc m)) (pred (C.address m)) ≡ Some i
      → Rd st.active m' m ks' st.coexps → ((label : ℕ) → i ≡ I.Chfail label → Lacks m' → Lost)
      → SameAs (instruction C' P i m' (lift st ks')) (instruction C P i m st)
  l_instruction I.Pnull m' m st ks' e h d = p_push (Val Null) m' m st ks' h
  l_instruction (I.Int k) m' m st ks' e h d = w_same (slice_get P.integers k) (λ n. push_item C' (Val (Integer n)) m' (lift st ks'))
      (λ n. push_item C (Val (Integer n)) m st) (λ x. p_push (Val (Integer x)) m' m st ks' h)
  l_instruction (I.Str k) m' m st ks' e h d = w_same (slice_get P.strings k) (λ n. push_item C' (Val (Text n)) m' (lift st ks'))
      (λ n. push_item C (Val (Text n)) m st) (λ x. p_push (Val (Text x)) m' m st ks' h)
  l_instruction (I.Cset k) m' m st ks' e h d = w_same (slice_get P.csets k) (λ n. push_item C' (Val (Chars (members_of n))) m' (lift st ks'))
      (λ n. push_item C (Val (Chars (members_of n))) m st) (λ x. p_push (Val (Chars (members_of x))) m' m st ks' h)
  l_instruction (I.Local k) m' m st ks' e h d = p_push _ m' m st ks' h
  l_instruction (I.Static k) m' m st ks' e h d = l_static k m' m st ks' h
  l_instruction (I.Global k) m' m st ks' e h d = p_push _ m' m st ks' h
  l_instruction (I.Keywd keyword) m' m st ks' e h d = l_keyword keyword m' m st ks' h
  l_instruction I.Pop m' m st ks' e h d =
      w_popped m' m st ks' h (λ item m. running m (lift st ks')) (λ item m. running m st) (λ item a' a r. same_running st ks' r)
  l_instruction I.Dup m' m st ks' e h d =
      w_popped m' m st ks' h (λ item below. push_item C' item m' (lift st ks')) (λ item below. push_item C item m st) (λ item a' a r. p_push item m' m st ks' h)
  l_instruction (I.Op op) m' m st ks' e h d = l_op op m' m st ks' h
  l_instruction (I.Llist k) m' m st ks' e h d = w_taken k m' m st ks' h
      (λ items m. turn P (lift st ks') (λ st. with_values C' items m st (λ values. list_made C' values m st (λ list m st. push_item C' (Val list) m st))))
      (λ items m. turn P st (λ st. with_values C items m st (λ values. list_made C values m st (λ list m st. push_item C (Val list) m st))))
      (λ items a' a r. w_turn st ks' (λ st. with_values C' items a' st (λ values. list_made C' values a' st (λ list m st. push_item C' (Val list) m st)))
      (λ st. with_values C items a st (λ values. list_made C values a st (λ list m st. push_item C (Val list) m st)))
      (w_values items a' a (TurnOf st) ks' r (λ values. list_made C' values a' (lift (TurnOf st) ks') (λ list m st. push_item C' (Val list) m st))
      (λ values. list_made C values a (TurnOf st) (λ list m st. push_item C (Val list) m st))
      (λ vs. w_list vs a' a (TurnOf st) ks' r (λ list m st. push_item C' (Val list) m st) (λ list m st. push_item C (Val list) m st)
      (λ v b' b seen q. p_push (Val v) b' b (with_at seen (TurnOf st)) ks' q))))
  l_instruction (I.Field k) m' m st ks' e h d =
      w_taken 1 m' m st ks' h (λ items m. turn P (lift st ks') (field_applied C' P k items m)) (λ items m. turn P st (field_applied C P k items m))
      (λ items a' a r. w_turn st ks' (field_applied C' P k items a') (field_applied C P k items a) (a_field_applied k items a' a (TurnOf st) ks' r))
  l_instruction (I.Invoke k) m' m st ks' e h d =
      w_taken (suc k) m' m st ks' h (λ items m. turn P (lift st ks') (invoked_with C' P items m)) (λ items m. turn P st (invoked_with C P items m))
      (λ items a' a r. w_turn st ks' (invoked_with C' P items a') (invoked_with C P items a) (a_invoked_with items a' a (TurnOf st) ks' r))
  l_instruction I.Appl m' m st ks' e h d =
      w_taken 2 m' m st ks' h (λ items m. turn P (lift st ks') (applied_to_elements C' P items m)) (λ items m. turn P st (applied_to_elements C P items m))
      (λ items a' a r. w_turn st ks' (applied_to_elements C' P items a') (applied_to_elements C P items a) (a_applied items a' a (TurnOf st) ks' r))
  l_instruction (I.Mark l) m' m st ks' e h d = same_running st ks' (r_mark (Some l) st.active m' m ks' st.coexps e h)
  l_instruction I.Mark0 m' m st ks' e h d = same_running st ks' (r_mark None st.active m' m ks' st.coexps e h)
  l_instruction I.Unmark m' m st ks' e h d = w_unmarked m' m st ks' h running running (λ a' a w r. same_running (with_world w st) ks' r)
  l_instruction I.Eret m' m st ks' e h d =
      w_popped m' m st ks' h (λ item m. with_value C' item m (lift st ks') (λ value. unmark_then C' m (lift st ks') (push_item C' (Val value))))
      (λ item m. with_value C item m st (λ value. unmark_then C m st (push_item C (Val value))))
      (λ item a' a r.
      w_value item a' a st ks' r (λ value. unmark_then C' a' (lift st ks') (push_item C' (Val value))) (λ value. unmark_then C a st (push_item C (Val value)))
      (λ v. w_unmarked a' a st ks' r (push_item C' (Val v)) (push_item C (Val v)) (λ b' b w q. p_push (Val v) b' b (with_world w st) ks' q)))
  l_instruction I.Esusp m' m st ks' e h d = w_popped m' m st ks' h (λ item m. with_found (C'.suspend_mark m) (λ m. push_item C' item m (lift st ks')))
      (λ item m. with_found (C.suspend_mark m) (λ m. push_item C item m st)) (λ item a' a r. l_esusp item a' a st ks' r)
  l_instruction I.Limit m' m st ks' e h d =
      w_popped m' m st ks' h (λ item m. with_value C' item m (lift st ks') (λ value. limit_results C' value (integer_of value) m (lift st ks')))
      (λ item m. with_value C item m st (λ value. limit_results C value (integer_of value) m st))
      (λ item a' a r. w_value item a' a st ks' r (λ value. limit_results C' value (integer_of value) a' (lift st ks'))
      (λ value. limit_results C value (integer_of value) a st) (λ v. l_limited v (integer_of v) a' a st ks' r))
  l_instruction I.Lsusp m' m st ks' e h d =
      w_popped m' m st ks' h (λ item m. with_found (C'.count_down m) (on_pair (λ count m. limited_result C' item count m (lift st ks'))))
      (λ item m. with_found (C.count_down m) (on_pair (λ count m. limited_result C item count m st)))
      (λ item a' a r. w_found (RdWith {A = ℕ} st.active ks' st.coexps) (C'.count_down a') (C.count_down a)
      (on_pair (λ count m. limited_result C' item count m (lift st ks'))) (on_pair (λ count m. limited_result C item count m st))
      (b_with st.active a' a ks' st.coexps (C'.count_down a') (C.count_down a) r (G.count_down r.world st.active a' a r.here))
      (λ x' x q. subst (λ k. SameAs (limited_result C' item k x'.1 (lift st ks')) (limited_result C item x.0 x.1 st)) (sym q.0)
      (l_limited_result item x.0 x'.1 x.1 st ks' q.1)))
  l_instruction I.Efail m' m st ks' e h d = same_failing st ks' h
  l_instruction (I.Chfail l) m' m st ks' e h d = w_lacking (Lacks m') (d l refl) (λ a' a. Rd st.active a' a ks' st.coexps) (C'.relabel l m') (C.relabel l m)
      (λ m. running m (lift st ks')) (λ m. running m st)
      (b_then (Lacks m') st.active m' m ks' st.coexps (C'.relabel l m') (C.relabel l m) h (G.relabel l h.world st.active m' m h.here))
      (λ a' a r. same_running st ks' r)
  l_instruction (I.Goto l) m' m st ks' e h d = same_running st ks' (r_go l st.active m' m ks' st.coexps h)
  l_instruction (I.Loop l) m' m st ks' e h d =
      w_turn st ks' (running (C'.go l m')) (running (C.go l m)) (same_running (TurnOf st) ks' (r_go l st.active m' m ks' st.coexps h))
  l_instruction I.Bscan m' m st ks' e h d = w_popped m' m st ks' h
      (λ item m. with_value C' item m (lift st ks') (λ value. with_made C' (text_row value (here C' m (lift st ks'))) m (lift st ks') (scan_opened C')))
      (λ item m. with_value C item m st (λ value. with_made C (text_row value (here C m st)) m st (scan_opened C)))
      (λ item a' a r. w_value item a' a st ks' r (λ value. with_made C' (text_row value (here C' a' (lift st ks'))) a' (lift st ks') (scan_opened C'))
      (λ value. with_made C (text_row value (here C a st)) a st (scan_opened C))
      (λ v. w_made (text_row v) (keep.scanned v) a' a st ks' r (scan_opened C') (scan_opened C) (λ x b' b seen q. l_scan x b' b (with_at seen st) ks' q)))
  l_instruction I.Escan m' m st ks' e h d =
      w_popped m' m st ks' h (λ item m. with_exchange (C'.swap_newest (pair_now st) m) (λ m. push_item C' item (C'.suspend Escan m)) (lift st ks'))
      (λ item m. with_exchange (C.swap_newest (pair_now st) m) (λ m. push_item C item (C.suspend Escan m)) st)
      (λ item a' a r. w_exchanged (C'.swap_newest (pair_now st) a') (C.swap_newest (pair_now st) a) st ks' (λ m. push_item C' item (C'.suspend Escan m))
      (λ m. push_item C item (C.suspend Escan m)) (b_newest (pair_now st) st.active a' a ks' st.coexps r)
      (λ b' b w q. p_push item _ _ (with_world w st) ks' (r_suspend Escan st.active b' b ks' st.coexps q)))
  l_instruction I.Ccase m' m st ks' e h d = l_below m' m st ks' h
  l_instruction (I.Init l) m' m st ks' e h d = l_init l m' m st ks' h
  l_instruction I.Psusp m' m st ks' e h d = w_popped m' m st ks' h
      (λ item below. with_result C' item m' (lift st ks')
      (λ result. maybe_exchanged (C'.swap_oldest (pair_now st) m') m' (lift st ks') (λ m. return_to (C'.suspend_proc m) (push_item C' result))))
      (λ item below.
      with_result C item m st (λ result. maybe_exchanged (C.swap_oldest (pair_now st) m) m st (λ m. return_to (C.suspend_proc m) (push_item C result))))
      (λ item a' a r. w_result item m' m st ks' h
      (λ result. maybe_exchanged (C'.swap_oldest (pair_now st) m') m' (lift st ks') (λ m. return_to (C'.suspend_proc m) (push_item C' result)))
      (λ result. maybe_exchanged (C.swap_oldest (pair_now st) m) m st (λ m. return_to (C.suspend_proc m) (push_item C result)))
      (λ result. l_psusp result m' m st ks' h))
  l_instruction I.Pret m' m st ks' e h d = w_popped m' m st ks' h
      (λ item m. with_result C' item m (lift st ks') (λ result. return_to (C'.leave m) (push_item C' result) (all_left C' m (lift st ks'))))
      (λ item m. with_result C item m st (λ result. return_to (C.leave m) (push_item C result) (all_left C m st)))
      (λ item a' a r. w_result item a' a st ks' r (λ result. return_to (C'.leave a') (push_item C' result) (all_left C' a' (lift st ks')))
      (λ result. return_to (C.leave a) (push_item C result) (all_left C a st))
      (λ result. w_all_left a' a st ks' r (push_item C' result) (push_item C result) (λ b' b w q. p_push result b' b (with_world w st) ks' q)))
  l_instruction I.Pfail m' m st ks' e h d =
      either_as (is_create_body C' m' (lift st ks')) (is_create_body C m st) _ _ _ _ (create_eq m' m st ks' h) same_stuck (l_proc_fails m' m st ks' h)
  l_instruction (I.Create l) m' m st ks' e h d = l_create l m' m st ks' h
  l_instruction I.Coact m' m st ks' e h d =
      w_taken 2 m' m st ks' h (λ items m. turn P (lift st ks') (activation_of C' items m)) (λ items m. turn P st (activation_of C items m))
      (λ items a' a r. w_turn st ks' (activation_of C' items a') (activation_of C items a) (c_activation_of items a' a (TurnOf st) ks' r))
  l_instruction I.Coret m' m st ks' e h d = either_as (is_create_body C' m' (lift st ks')) (is_create_body C m st) _ _ _ _ (create_eq m' m st ks' h)
      (w_popped m' m st ks' h (λ item m. turn P (lift st ks') (λ st. with_value C' item m st (λ value. result_given C' value m st)))
      (λ item m. turn P st (λ st. with_value C item m st (λ value. result_given C value m st)))
      (λ item a' a r.
      w_turn st ks' (λ st. with_value C' item a' st (λ value. result_given C' value a' st)) (λ st. with_value C item a st (λ value. result_given C value a st))
      (w_value item a' a (TurnOf st) ks' r (λ value. result_given C' value a' (lift (TurnOf st) ks')) (λ value. result_given C value a (TurnOf st))
      (λ v. c_result v a' a (TurnOf st) ks' r)))) same_stuck
  l_instruction I.Cofail m' m st ks' e h d =
      either_as (is_create_body C' m' (lift st ks')) (is_create_body C m st) _ _ _ _ (create_eq m' m st ks' h) (c_exhausted m' m st ks' h) same_stuck

  -- Failing

  -- a mark is due that may be reached again
  abbrev pub IsAtMark : State K M → Type 0
  IsAtMark (running m st) = (label : Option ℕ) × Opens P (C.proc m) (C.address m) label
  IsAtMark state = ⊥

  -- the first machine's state, and that of the second; or, after one turn more than so many, the one after its next step, which opens a mark
  abbrev pub Reaches : ℕ → State K' M' → State K M → Type 0
  Reaches n s' s = SameAs s' s ⊎ (IsAtMark s × (SameAs s' (step C P s) × (made_turns s ≡ suc n)))

  f_without : (m' : M') (m : M) (st : Store K) (ks' : List (Coexp K')) → Rd st.active m' m ks' st.coexps
      → SameAs (without_mark C' P m' (lift st ks')) (without_mark C P m st)
  f_without m' m st ks' h = either_as (is_create_body C' m' (lift st ks')) (is_create_body C m st) _ _ _ _ (create_eq m' m st ks' h) (c_exhausted m' m st ks' h)
      (l_proc_fails m' m st ks' h)

  -- the mark is opened again
  open_label : (label : Option ℕ) (m' : M') (m : M) (st : Store K) (ks' : List (Coexp K'))
      → Rd st.active m' (C.mark label (C.go (suc (C.address m)) m)) ks' st.coexps
      → SameAs (running m' (lift st ks')) (instruction C P (mark_of label) (C.go (suc (C.address m)) m) st)
  open_label (Some l) m' m st ks' h = same_running st ks' h
  open_label None m' m st ks' h = same_running st ks' h

  f_reopened : (label : Option ℕ) (m' : M') (m : M) (st : Store K) (ks' : List (Coexp K')) → Opens P (C.proc m) (C.address m) label
      → Rd st.active m' (C.mark label (C.go (suc (C.address m)) m)) ks' st.coexps
      → SameAs (running m' (lift st ks')) (step C P (running m st))
  f_reopened label m' m st ks' e h =
      subst (λ o. SameAs (running m' (lift st ks')) (with_found o (λ instr. instruction C P instr (C.go (suc (C.address m)) m) st)))
      (sym e) (open_label label m' m st ks' h)

  f_again : (b : Bool) (label : Option ℕ) (m' : M') (m : M) (st : Store K) (ks' : List (Coexp K')) → Opens P (C.proc m) (C.address m) label
      → Rd st.active m' (C.mark label (C.go (suc (C.address m)) m)) ks' st.coexps
      → Reaches st.turns (turn_if b (lift st ks') (running m')) (turn_if b st (running m))
  f_again false label m' m st ks' e h = inl same_over
  f_again true label m' m st ks' e h = inr ((label, e), (f_reopened label m' m (TurnOf st) ks' e h, refl))

  f_dropped : (m' : M') (m : M) (st : Store K) (ks' : List (Coexp K')) → (h : Rd st.active m' m ks' st.coexps) → (d' : MarkDrop M') (d : MarkDrop M)
      → SameDropped C (Opens P) G.Next G.Now h.world st.active d' d → Reaches st.turns (mark_dropped C' P m' (lift st ks') d') (mark_dropped C P m st d)
  f_dropped m' m st ks' h NoMark NoMark x = inl (f_without m' m st ks' h)
  f_dropped m' m st ks' h (Goes a') (Goes a) x = inl (same_running st ks' (r_then st.active a' a ks' st.coexps h.world h.rests x))
  f_dropped m' m st ks' h (WithoutLabel a') (WithoutLabel a) x = inl (same_failing st ks' (r_then st.active a' a ks' st.coexps h.world h.rests x))
  f_dropped m' m st ks' h (Repeats a') (Repeats a) (inl x) =
      inl (w_turn st ks' (running a') (running a) (same_running (TurnOf st) ks' (r_then st.active a' a ks' st.coexps h.world h.rests x)))
  f_dropped m' m st ks' h (Repeats a') (Repeats a) (inr x) = (f_again (nat_lt st.turns st.world.heap.bounds.turns) x.0 a' a st ks' x.1
      (r_then st.active a' (C.mark x.0 (C.go (suc (C.address a)) a)) ks' st.coexps h.world h.rests x.2))
  f_dropped m' m st ks' h NoMark (Goes a) x = absurd x
  f_dropped m' m st ks' h NoMark (Repeats a) x = absurd x
  f_dropped m' m st ks' h NoMark (WithoutLabel a) x = absurd x
  f_dropped m' m st ks' h (Goes a') NoMark x = absurd x
  f_dropped m' m st ks' h (Goes a') (Repeats a) x = absurd x
  f_dropped m' m st ks' h (Goes a') (WithoutLabel a) x = absurd x
  f_dropped m' m st ks' h (Repeats a') NoMark x = absurd x
  f_dropped m' m st ks' h (Repeats a') (Goes a) x = absurd x
  f_dropped m' m st ks' h (Repeats a') (WithoutLabel a) x = absurd x
  f_dropped m' m st ks' h (WithoutLabel a') NoMark x = absurd x
  f_dropped m' m st ks' h (WithoutLabel a') (Goes a) x = absurd x
  f_dropped m' m st ks' h (WithoutLabel a') (Repeats a) x = absurd x

  f_resumed : (why : Why) (m' : M') (m : M) (st : Store K) (ks' : List (Coexp K')) → Rd st.active m' m ks' st.coexps
      → SameAs (resume_by C' P why m' (lift st ks')) (resume_by C P why m st)
  f_resumed Alt m' m st ks' h = same_failing st ks' h
  f_resumed (Operating residual) m' m st ks' h = w_turn st ks' (λ st. outcome C' (again residual (here C' m' st)) m' st)
      (λ st. outcome C (again residual (here C m st)) m st) (w_outcome (again residual) (keep.resumed residual) m' m (TurnOf st) ks' h)
  f_resumed (Scan pair) m' m st ks' h = same_failing (with_pair pair st) ks' h
  f_resumed Escan m' m st ks' h = w_exchanged (C'.swap_newest (pair_now st) m') (C.swap_newest (pair_now st) m) st ks' failing failing
      (b_newest (pair_now st) st.active m' m ks' st.coexps h) (λ a' a w r. same_failing (with_world w st) ks' r)
  f_resumed Proc m' m st ks' h =
      w_turn st ks' (λ st. maybe_exchanged (C'.swap_oldest (pair_now st) m') m' st running) (λ st. maybe_exchanged (C.swap_oldest (pair_now st) m) m st running)
      (w_maybe (C'.swap_oldest (pair_now st) m') (C.swap_oldest (pair_now st) m) m' m (TurnOf st) ks' running running h
      (b_oldest (pair_now st) st.active m' m ks' st.coexps h) (λ a' a w r. same_running (with_world w (TurnOf st)) ks' r))

  f_back : (m' : M') (m : M) (st : Store K) (ks' : List (Coexp K')) → Rd st.active m' m ks' st.coexps → (o' : Option (Why × M')) (o : Option (Why × M))
      → Both ⊥ (RdWith st.active ks' st.coexps) o' o
      → Reaches st.turns (resumed_or_dropped C' P m' (lift st ks') o') (resumed_or_dropped C P m st o)
  f_back m' m st ks' h None None b = f_dropped m' m st ks' h (C'.drop_mark m') (C.drop_mark m) (G.drop_mark h.world st.active m' m h.here)
  f_back m' m st ks' h None (Some x) b = absurd b
  f_back m' m st ks' h (Some x') None b = absurd b
  f_back m' m st ks' h (Some x') (Some x) b =
      inl (subst (λ y. SameAs (resume_by C' P y x'.1 (lift st ks')) (resume_by C P x.0 x.1 st)) (sym b.0) (f_resumed x.0 x'.1 x.1 st ks' b.1))

  f_fails : (m' : M') (m : M) (st : Store K) (ks' : List (Coexp K')) → Rd st.active m' m ks' st.coexps
      → Reaches st.turns (fails C' P m' (lift st ks')) (fails C P m st)
  f_fails m' m st ks' h = f_back m' m st ks' h (C'.resume m') (C.resume m)
      (b_with st.active m' m ks' st.coexps (C'.resume m') (C.resume m) h (G.resume h.world st.active m' m h.here))

  -- Steps

  at_instruction : (m' : M') (m : M) (st : Store K) (ks' : List (Coexp K')) → Rd st.active m' m ks' st.coexps
      → ((label : ℕ) → slice_get (instrs_of P (C.proc m)) (C.address m) ≡ Some (I.Chfail label) → Lacks (C'.go (suc (C.address m)) m') → Lost)
      → (o : Option Instr) → slice_get (instrs_of P (C.proc m)) (C.address m) ≡ o
      → SameAs (with_found o (λ instr. instruction C' P instr (C'.go (suc (C.address m)) m') (lift st ks')))
      (with_found o (λ instr. instruction C P instr (C.go (suc (C.address m)) m) st))
  at_instruction m' m st ks' h d None e = same_stuck
  at_instruction m' m st ks' h d (Some i) e = l_instruction i (C'.go (suc (C.address m)) m') (C.go (suc (C.address m)) m) st ks'
      (ap (λ p. slice_get (instrs_of P p) (pred (C.address (C.go (suc (C.address m)) m)))) (G.go_proc (suc (C.address m)) m)
      ∙ ap (λ q. slice_get (instrs_of P (C.proc m)) (pred q)) (G.go_address (suc (C.address m)) m) ∙ e)
      (r_go (suc (C.address m)) st.active m' m ks' st.coexps h) (λ label is. d label (e ∙ ap Some is))

  s_running : (m' : M') (m : M) (st : Store K) (ks' : List (Coexp K')) → Rd st.active m' m ks' st.coexps
      → (IsLacking C' P Lacks (running m' (lift st ks')) → Lost) → SameAs (step C' P (running m' (lift st ks'))) (step C P (running m st))
  s_running m' m st ks' h d =
      let proc : C'.proc m' ≡ C.proc m = G.proc h.world st.active m' m h.here in
      let place : C'.address m' ≡ C.address m = G.address h.world st.active m' m h.here in
      subst
      (λ p. SameAs (with_found (slice_get (instrs_of P p) (C'.address m')) (λ instr. instruction C' P instr (C'.go (suc (C'.address m')) m') (lift st ks')))
      (step C P (running m st))) (sym proc)
      (subst (λ q. SameAs (with_found (slice_get (instrs_of P (C.proc m)) q) (λ instr. instruction C' P instr (C'.go (suc q) m') (lift st ks')))
      (step C P (running m st))) (sym place)
      (at_instruction m' m st ks' h (λ label is lacks. d (
        label,
        ap (λ p. slice_get (instrs_of P p) (C'.address m')) proc ∙ ap (slice_get (instrs_of P (C.proc m))) place ∙ is,
        subst (λ q. Lacks (C'.go (suc q) m')) (sym place) lacks,
      )) (instruction_at C P m) refl))

  -- one step of the first is one step of the second, or two, where this one is a turn and the next one opens a mark
  pub one_step : {s' : State K' M'} {s : State K M} → (IsLacking C' P Lacks s' → Lost) → SameAs s' s → Reaches (made_turns s) (step C' P s') (step C P s)
  one_step d (same_running {m'} {m} st ks' h) = inl (s_running m' m st ks' h d)
  one_step d (same_failing {m'} {m} st ks' h) = f_fails m' m st ks' h
  one_step d (same_hopping {m'} {m} st ks' h) = inl (c_hop h.world m' m st ks' h.holds h.rests)
  one_step d same_over = inl same_over
  one_step d same_stuck = inl same_stuck
  one_step d (lost x) = inl (lost x)

  counted : {n : ℕ} {s' : State K' M'} {s : State K M} → Reaches n s' s → (d : ℕ) × SameAs s' (steps C P d s)
  counted (inl x) = (0, x)
  counted (inr x) = (1, x.1.0)

  pub same_step : {s' : State K' M'} {s : State K M} → (IsLacking C' P Lacks s' → Lost) → SameAs s' s → (d : ℕ) × SameAs (step C' P s') (steps C P (suc d) s)
  same_step d h = counted (one_step d h)

  -- The start

  -- at first no stack runs: there are stacks without locals
  module _ (w : G.W) (Blank : M' → M → Type 0) (hold : (m' : M') (m : M) → Blank m' m → G.Holds w m')
      (no_locals : (m' : M') (m : M) → Blank m' m → C'.locals m' ≡ C.locals m)
      (set : (values : List Value) (m' : M') (m : M) → length values ≡ length (C.locals m) → Blank m' m
      → Blank (C'.set_locals values m') (C.set_locals values m)) where
    abbrev First : {A : Type 0} → (A → M' → Store K' → State K' M') → (A → M → Store K → State K M) → Store K → List (Coexp K') → Type 0
    First {A} n' n st ks' = (v : A) (a' : M') (a : M) (seen : Setting) → Blank a' a → SameAs (n' v a' (lift (with_at seen st) ks')) (n v a (with_at seen st))

    first_made : (o : Outcome) (m' : M') (m : M) (st : Store K) (ks' : List (Coexp K')) → IsMade o → KeepsIn (here C m st) o → Blank m' m
        → (n' : Value → M' → Store K' → State K' M') (n : Value → M → Store K → State K M) → First n' n st ks'
        → SameAs (with_made C' o m' (lift st ks') n') (with_made C o m st n)
    first_made (Gives (Val v) seen) m' m st ks' i k h n' n f =
        f v (C'.set_locals seen.locals m') (C.set_locals seen.locals m) seen (set seen.locals m' m k.locals h)
    first_made (Gives (Var v) seen) m' m st ks' i k h n' n f = absurd i
    first_made (Error j v seen) m' m st ks' i k h n' n f = w_ended j v _ _ (with_at seen st) ks' i
    first_made (Fails seen) m' m st ks' i k h n' n f = absurd i
    first_made (Suspends item r seen) m' m st ks' i k h n' n f = absurd i
    first_made (Ends j seen) m' m st ks' i k h n' n f = absurd i

    first_row : (f : Setting → Outcome) → ((at : Setting) → IsMade (f at)) → ((at : Setting) → KeepsIn at (f at))
        → (m' : M') (m : M) (st : Store K) (ks' : List (Coexp K'))
        → Blank m' m → (n' : Value → M' → Store K' → State K' M') (n : Value → M → Store K → State K M) → First n' n st ks'
        → SameAs (with_made C' (f (here C' m' (lift st ks'))) m' (lift st ks') n') (with_made C (f (here C m st)) m st n)
    first_row f i k m' m st ks' h n' n g =
        subst (λ l. SameAs (with_made C' (f (record { world = st.world; locals = l; outside = st.outside })) m' (lift st ks') n')
        (with_made C (f (here C m st)) m st n)) (sym (no_locals m' m h))
        (first_made (f (here C m st)) m' m st ks' (i (here C m st)) (k (here C m st)) h n' n g)

    first_collected : (b : Bool) (k : ℕ) (vs : List Value) (m' : M') (m : M) (st : Store K) (ks' : List (Coexp K'))
        → Blank m' m → (n' : List Value → M' → Store K' → State K' M') (n : List Value → M → Store K → State K M) → First n' n st ks'
        → SameAs (collect_rest C' b k vs m' (lift st ks') n') (collect_rest C b k vs m st n)
    first_collected false k vs m' m st ks' h n' n f = f (fill_nulls k vs) m' m (here C m st) h
    first_collected true k vs m' m st ks' h n' n f = first_row (list_row (drop (k - 1) vs))
        (keep.list_made (drop (k - 1) vs)) (keep.listed (drop (k - 1) vs)) m' m st ks' h (λ rest m st. n' (fill_nulls (k - 1) vs ++ rest ∷ []) m st)
        (λ rest m st. n (fill_nulls (k - 1) vs ++ rest ∷ []) m st) (λ rest a' a seen r. f (fill_nulls (k - 1) vs ++ rest ∷ []) a' a seen r)

    s_begun_if : (b : Bool) (main : ℕ) (entry : Procedure) (vs : List Value) (m' : M') (m : M) (st : Store K) (ks' : List (Coexp K')) → Blank m' m
        → Rests (Others w st.active) ks' st.coexps → SameAs (begun_if C' b main entry vs m' (lift st ks')) (begun_if C b main entry vs m st)
    s_begun_if false main entry vs m' m st ks' h r = w_ended 301 None m' m st ks' (fatal_ends 301 st.world.error refl)
    s_begun_if true main entry vs m' m st ks' h r = first_collected entry.collects entry.parameters vs m' m st ks' h
        (λ parameters m st. running (C'.begin main (parameters ++ replicate entry.locals Null) 0 m) st)
        (λ parameters m st. running (C.begin main (parameters ++ replicate entry.locals Null) 0 m) st)
        (λ ps a' a seen q. same_running (with_at seen st) ks'
        (r_then st.active _ _ ks' st.coexps w r (G.begin main (ps ++ replicate entry.locals Null) 0 w st.active a' a (hold a' a q))))

    s_start : (words : List (List ℕ)) (m' : M') (m : M) (st : Store K) (ks' : List (Coexp K')) → Blank m' m → Rests (Others w st.active) ks' st.coexps
        → (o : Option ℕ) → SameAs (start_of C' P words m' (lift st ks') o) (start_of C P words m st o)
    s_start words m' m st ks' h r None = w_ended 117 None m' m st ks' (fatal_ends 117 st.world.error refl)
    s_start words m' m st ks' h r (Some main) = w_same (slice_get P.procs main)
        (λ (entry : Procedure). with_made C' (words_row words (here C' m' (lift st ks'))) m' (lift st ks')
        (λ list m st. begun_if C' (nat_le 1 st.world.heap.bounds.levels) main entry (list ∷ []) m st))
        (λ (entry : Procedure).
        with_made C (words_row words (here C m st)) m st (λ list m st. begun_if C (nat_le 1 st.world.heap.bounds.levels) main entry (list ∷ []) m st))
        (λ entry. first_row (words_row words) (keep.words_made words) (keep.worded words) m' m st ks' h (λ list m st. begun_if C' (nat_le 1
        st.world.heap.bounds.levels) main entry (list ∷ []) m st) (λ list m st. begun_if C (nat_le 1 st.world.heap.bounds.levels) main entry (list ∷ []) m st)
        (λ v a' a seen q. s_begun_if (nat_le 1 seen.world.heap.bounds.levels) main entry (v ∷ []) a' a (with_at seen st) ks' q r))

    pub same_start : (hidden : List ℕ) (launch : Launch) (m' : M') (m : M) → Blank m' m
        → SameAs (start_hiding C' m' P hidden launch) (start_hiding C m P hidden launch)
    same_start hidden launch m' m h = s_start launch.words m' m (first_store_hiding P hidden launch)
        (record { status = Active; activator = 0; values = []; proc = 0; address = 0 } ∷ []) h (alike Active Active 0 [] 0 0 tt, tt) (main_of P)

  -- Runs

  pub after : (m n : ℕ) (s : State K M) → (k : ℕ) × (steps C P k s ≡ steps C P n (steps C P m s))
  after zero n s = (n, refl)
  after (suc m) n s = let a = after m n (step C P s) in (suc a.0, a.1)

  one : (m : ℕ) (s : State K M) → steps C P m (step C P s) ≡ step C P (steps C P m s)
  one zero s = refl
  one (suc m) s = one m (step C P s)

  swap_steps : (d m : ℕ) (s : State K M) → steps C P m (steps C P d s) ≡ steps C P d (steps C P m s)
  swap_steps zero m s = refl
  swap_steps (suc d) m s = swap_steps d m (step C P s) ∙ ap (steps C P d) (one m s)

  stays_at : (z : State K M) → step C P z ≡ z → (m : ℕ) → steps C P m z ≡ z
  stays_at z e zero = refl
  stays_at z e (suc m) = ap (steps C P m) e ∙ stays_at z e m

  -- what is lost once the first machine, from here on, lacks something
  abbrev Loses : State K' M' → Type 0
  Loses s' = (k : ℕ) → IsLacking C' P Lacks (steps C' P k s') → Lost

  -- what the first machine comes to, the second comes to
  pub forward : (n : ℕ) (s' : State K' M') (s : State K M) → Loses s' → SameAs s' s → (k : ℕ) × SameAs (steps C' P n s') (steps C P k s)
  forward zero s' s d h = (0, h)
  forward (suc n) s' s d h =
      let g = same_step (d 0) h in
      let a = forward n (step C' P s') (steps C P (suc g.0) s) (λ k. d (suc k)) g.1 in
      let b = after (suc g.0) a.0 s in
      (b.0, subst (λ x. SameAs (steps C' P n (step C' P s')) x) (sym b.1) a.1)

  -- where the second machine comes to a state at which it stays, the first comes to one that is the same
  pub backward : (z : State K M) → step C P z ≡ z → (n : ℕ) (s' : State K' M') (s : State K M) → Loses s' → SameAs s' s → steps C P n s ≡ z
      → (k : ℕ) × SameAs (steps C' P k s') z
  backward z fixed zero s' s d h e = (0, subst (λ x. SameAs s' x) e h)
  backward z fixed (suc n) s' s d h e =
      let g = same_step (d 0) h in
      let shift : steps C P n (steps C P (suc g.0) s) ≡ z = swap_steps g.0 n (step C P s) ∙ ap (steps C P g.0) e ∙ stays_at z fixed g.0 in
      let a = backward z fixed n (step C' P s') (steps C P (suc g.0) s) (λ k. d (suc k)) g.1 shift in
      (suc a.0, a.1)

  pub was_over : (ending : Ending) (outside : Outside) (s : State K M) → SameAs (over ending outside) s → s ≡ over ending outside
  was_over ending outside s same_over = refl

  pub is_over : (ending : Ending) (outside : Outside) (s' : State K' M') → SameAs s' (over ending outside) → (s' ≡ over ending outside) ⊎ ((s' ≡ stuck) × Lost)
  is_over ending outside s' same_over = inl refl
  is_over ending outside s' (lost x) = inr (refl, x)

  pub is_stuck : (s' : State K' M') → SameAs s' stuck → s' ≡ stuck
  is_stuck s' same_stuck = refl
  is_stuck s' (lost x) = refl

  pub was_stuck : (s : State K M) → SameAs stuck s → (s ≡ stuck) ⊎ Lost
  was_stuck s same_stuck = inl refl
  was_stuck s (lost x) = inr x
