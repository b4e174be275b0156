-- A step keeps all shaped: the parts of which instructions are made.
use Rattle.std.proofs.Common.{◌≡◌, ℕ, zero, suc, ◌-◌, ◌<◌, ◌≤◌, Bool, true, false, List, [], ◌∷◌, ◌++◌, length, map, Option, Some, None, refl, sym, ap, ◌∙◌, subst, arith, length-append}
use Rattle.std.specs.Prelude.{slice_get, take, drop, replicate, ℤ, is_some, unwrap_or, nat_lt, nat_le, if◌then◌else◌}
use Rattle.std.specs.Option.{option_map_or}
use Rattle.icn_text.specs.declared.func.Func.{Func}
use Rattle.icn_text.specs.declared.op.Op.TheVariants as Ops
use Rattle.icn_structs.specs.Numbered.{NumberedList}
use Rattle.icn_value.specs.Values.{Std, ASet, ATable}
use Rattle.icn_value.specs.Store.{Record, new_list}
use Rattle.icn_defs.specs.KeptSizes.{KeepsIn, KeepsSizes}
use Rattle.icn_code.specs.Codes.{Tables, Proc as Procedure, RecordType}
use Rattle.icn_verify.specs.Shapes.{PlainShape, start_shape, with_more, with_fewer, before_mark}
use Rattle.icn_run.specs.Rows as R
use Rattle.icn_run.specs.Rows.{Value, Null, Integer, Text, Chars, Procedure as ProcedureValue, ARecord, AList, ACoexp, Item, Val, Var, Whole, World, Setting, list_at, record_at, Outcome, Fails, Gives, Suspends, Error, Ends, Operation, Function, apply, value_row, list_row, record_row, position_of, number_of}
use Rattle.icn_run.specs.Calls.{Pair, Calls}
use Rattle.icn_run.specs.Calls as Cs
use Rattle.icn_run.specs.Chains as C
use Rattle.icn_run.specs.Chains.{Chain, LinkedStack, WaitingChain, linked_calls, with_chain}
use Rattle.icn_run.specs.LinkedStep.{repeats_anywhere}
use Rattle.icn_defs.specs.NamedValues.{named_by}
use Rattle.icn_run.specs.Step.{Program, Store, State, running, failing, with_found, on_pair, errs, turn_if, turn, here, with_world, with_at, with_given, with_made, with_value, with_values, push_item, outcome, list_made, with_pair, scans_left, with_popped, with_taken, unmark_then, fill_nulls, collect_rest, with_parameters, enter_procedure, called_if, call_procedure, construct_record, argument_at, choose_item, pushed_or_fails, integer_called, named_called, Callee, IsProc, IsRecord, IsFunc, IsNothing, func_callee, record_among, callee_among, callee_of, callee_called, invoke_value, invoked_with, plain, elements_called, applied_to_elements, field_index, field_taken, field_of}
use Rattle.icn_defs.specs.Numbers.{func_of}
use Rattle.icn_defs.specs.Errors.{with_kept}
use Rattle.icn_run.proofs.Errors.{kept_in, at_error}
use Rattle.law_stacks.proofs.RowsKeep.{rows_keep}
use Rattle.law_safe.specs.Within.{Each, ValueWithin, OptionWithin, ItemWithin, ListWithin, RecordWithin, WorldWithin, SettingWithin, OutcomeWithin, RowsStayWithin}
use Rattle.law_safe.specs.Shaped.{Knowledge, local_count, locals_in, LocalsOk, StoreOk, Now, Safe, KeepsShapes}
use Rattle.law_safe.proofs.EachEntry.{each_append, each_replicate, each_take, each_drop, index_within, replicate_length}
use Rattle.law_safe.proofs.FrameCalls.{with_activation, grow_activation, locals_ok, set_locals_ok, push_ok, pop_ok, take_ok}
use Rattle.law_safe.proofs.MarkCalls.{IfThere, outside_ok, suspend_op, enter_ok}
use Rattle.law_safe.proofs.ChangedStores.{grow_store}

-- the calls on linked marks
abbrev pub linked_machine : Calls WaitingChain LinkedStack
linked_machine = linked_calls repeats_anywhere

-- What is called

abbrev CalleeIn : List Procedure → ℕ → Callee → Type 0
CalleeIn procs n (IsProc entry) = slice_get procs n ≡ Some entry
CalleeIn procs n callee = Unit {0}

func_in : (procs : List Procedure) (n : ℕ) (o : Option Func) → CalleeIn procs n (func_callee o)
func_in procs n None = tt
func_in procs n (Some func) = tt

record_in : (procs : List Procedure) (n k kind : ℕ) (entries : List RecordType) → CalleeIn procs n (record_among k kind entries)
record_in procs n k kind [] = func_in procs n (func_of (suc k))
record_in procs n zero kind (entry ∷ entries) = tt
record_in procs n (suc k) kind (entry ∷ entries) = record_in procs n k (suc kind) entries

behind_one : (entry : Procedure) (procs : List Procedure) (n : ℕ) (c : Callee) → CalleeIn procs n c → CalleeIn (entry ∷ procs) (suc n) c
behind_one entry procs n (IsProc e) h = h
behind_one entry procs n (IsRecord k e) h = tt
behind_one entry procs n (IsFunc f) h = tt
behind_one entry procs n IsNothing h = tt

callee_in : (procs : List Procedure) (records : List RecordType) (n : ℕ) → CalleeIn procs n (callee_among n procs records)
callee_in [] records n = record_in [] n n zero records
callee_in (entry ∷ procs) records zero = refl
callee_in (entry ∷ procs) records (suc n) = behind_one entry procs n (callee_among n procs records) (callee_in procs records n)

-- Values for places

taken_length : {A : Type 0} (n : ℕ) (xs : List A) → n ≤ length xs → length (take n xs) ≡ n
taken_length zero xs l = refl
taken_length (suc n) [] l = absurd (omega (arith, l))
taken_length (suc n) (x ∷ xs) l = ap suc (taken_length n xs (omega (arith, l)))

pub filled_length : (n : ℕ) (vs : List Value) → length (fill_nulls n vs) ≡ n
filled_length n vs = taken_length n (vs ++ replicate n Null) (omega (arith, length-append vs (replicate n Null), replicate_length n Null))

pub filled_within : (k n : ℕ) (vs : List Value) → Each (ValueWithin n) vs → Each (ValueWithin n) (fill_nulls k vs)
filled_within k n vs h =
    each_take (ValueWithin n) k (vs ++ replicate k Null) (each_append (ValueWithin n) vs (replicate k Null) h (each_replicate (ValueWithin n) k Null tt))

-- all but the last, and a list of those behind
pub joined_length : (n : ℕ) (vs : List Value) (v : Value) → 0 < n → length (fill_nulls (n - 1) vs ++ v ∷ []) ≡ n
joined_length n vs v l = omega (arith, length-append (fill_nulls (n - 1) vs) (v ∷ []), filled_length (n - 1) vs, l)

items_at : (n : ℕ) (xs : List (NumberedList Value)) (k : ℕ) → Each (ListWithin n) xs → Each (ValueWithin n) (unwrap_or (slice_get xs k) (new_list [])).items
items_at n [] k h = tt
items_at n (x ∷ xs) zero h = h.0
items_at n (x ∷ xs) (suc k) h = items_at n xs k h.1

fields_at : (n : ℕ) (xs : List Record) (k : ℕ) → Each (RecordWithin n) xs
    → Each (ValueWithin n) (unwrap_or (slice_get xs k) (record { kind = 0; fields = [] })).fields
fields_at n [] k h = tt
fields_at n (x ∷ xs) zero h = h.0
fields_at n (x ∷ xs) (suc k) h = fields_at n xs k h.1

plain_within : (n : ℕ) (vs : List Value) → Each (ValueWithin n) vs → Each (ItemWithin n) (map plain vs)
plain_within n [] g = tt
plain_within n (v ∷ vs) g = (g.0, plain_within n vs g.1)

one_get : (n k : ℕ) (items : List Item) → Each (ItemWithin n) items → IfThere (ItemWithin n) (slice_get items k)
one_get n k [] g = tt
one_get n zero (x ∷ items) g = g.0
one_get n (suc k) (x ∷ items) g = one_get n k items g.1

argument_within : (n : ℕ) (place : Option ℕ) (items : List Item) → Each (ItemWithin n) items → IfThere (ItemWithin n) (argument_at place items)
argument_within n (Some (suc k)) items g = one_get n k items g
argument_within n (Some zero) items g = tt
argument_within n None items g = tt

count_of : (tables : Tables) (n : ℕ) (entry : Procedure) → slice_get tables.procs n ≡ Some entry → local_count tables n ≡ locals_in entry
count_of tables n entry e = ap (λ o. option_map_or locals_in o 0) e

module _ (P : Program) (sh : ℕ → ℕ → Option PlainShape) (given : KeepsShapes P sh) (keep : RowsStayWithin) where
  abbrev pub LinkedState : Type 0
  LinkedState = State WaitingChain LinkedStack

  abbrev pub Ok : LinkedState → Type 0
  Ok state = Safe P sh state

  abbrev pub Locals : Knowledge → ℕ → List Value → Type 0
  Locals w p values = LocalsOk P sh w p values

  -- a stack with a store
  pub record Ready (w : Knowledge) (p : ℕ) (S : PlainShape) (m : LinkedStack) (st : Store WaitingChain) : Type 0 where
    pub now : Now P sh w st.active p S m
    pub store : StoreOk P sh w (λ i. i ≡ st.active) st

  pub ok_if : (b : Bool) (x y : LinkedState) → (b ≡ true → Ok x) → (b ≡ false → Ok y) → Ok (if b then x else y)
  ok_if true x y f g = f refl
  ok_if false x y f g = g refl

  pub ok_found : {A : Type 0} (o : Option A) (next : A → LinkedState) (x : A) → o ≡ Some x → Ok (next x) → Ok (with_found o next)
  ok_found o next x e h = subst (λ z. Ok (with_found z next)) (sym e) h

  pub ok_fails : (w : Knowledge) (p : ℕ) (S : PlainShape) (m : LinkedStack) (st : Store WaitingChain) → Ready w p S m st → Ok (failing m st)
  ok_fails w p S m st h = (w, p, S, h.now, h.store)

  -- going on at an address of the shape at hand is safe
  pub ok_runs : (w : Knowledge) (p : ℕ) (S : PlainShape) (m : LinkedStack) (st : Store WaitingChain) → Ready w p S m st → sh p m.address ≡ Some S
      → Ok (running m st)
  ok_runs w p S m st h e = (w, p, S, h.now, e, h.store)

  pub ok_push : (item : Item) (w : Knowledge) (p : ℕ) (S : PlainShape) (m : LinkedStack) (st : Store WaitingChain) → Ready w p S m st → ItemWithin w.coexps item
      → sh p m.address ≡ Some (with_more 1 S) → Ok (push_item linked_machine item m st)
  ok_push item w p S m st h g e = (w, p, with_more 1 S, push_ok P sh item w st.active p S m h.now g, e, h.store)

  pub ready_world : (w : Knowledge) (p : ℕ) (S : PlainShape) (m : LinkedStack) (st : Store WaitingChain) (world : World) → Ready w p S m st
      → WorldWithin w.coexps world
      → Ready w p S m (with_world world st)
  ready_world w p S m st world h g = record { now = h.now; store = record { world = g; coexps = h.store.coexps } }

  pub here_within : (w : Knowledge) (p : ℕ) (S : PlainShape) (m : LinkedStack) (st : Store WaitingChain) → Ready w p S m st
      → SettingWithin w.coexps (here linked_machine m st)
  here_within w p S m st h = record { world = h.store.world; locals = (locals_ok P sh w st.active p S m h.now).within }

  -- Rows

  pub ok_errs : (k : ℕ) (v : Option Value) (w : Knowledge) (p : ℕ) (S : PlainShape) (m : LinkedStack) (st : Store WaitingChain) → Ready w p S m st
      → OptionWithin w.coexps v → Ok (errs k v m st)
  ok_errs k v w p S m st h g = at_error Ok k v m st tt (ok_fails w p S m (kept_in k v st) (ready_world w p S m st (with_kept k v st.world) h (record {
    heap = h.store.world.heap;
    globals = h.store.world.globals;
    statics = h.store.world.statics;
    kept = g;
  })))

  valued_ok : (o : Outcome) (w : Knowledge) (p : ℕ) (S : PlainShape) (m : LinkedStack) (st : Store WaitingChain) (next : Value → LinkedState) → Ready w p S m st
      → OutcomeWithin w.coexps o → ((v : Value) → ValueWithin w.coexps v → Ok (next v)) → Ok (with_given o m st next)
  valued_ok (Gives (Val v) seen) w p S m st next h g f = f v g.0
  valued_ok (Gives (Var v) seen) w p S m st next h g f = ok_fails w p S m st h
  valued_ok (Error k v seen) w p S m st next h g f = ok_errs k v w p S m st h g.0
  valued_ok (Fails seen) w p S m st next h g f = ok_fails w p S m st h
  valued_ok (Suspends item r seen) w p S m st next h g f = ok_fails w p S m st h
  valued_ok (Ends k seen) w p S m st next h g f = ok_fails w p S m st h

  pub ok_value : (item : Item) (w : Knowledge) (p : ℕ) (S : PlainShape) (m : LinkedStack) (st : Store WaitingChain) (next : Value → LinkedState)
      → Ready w p S m st
      → ItemWithin w.coexps item → ((v : Value) → ValueWithin w.coexps v → Ok (next v)) → Ok (with_value linked_machine item m st next)
  ok_value item w p S m st next h g f =
      valued_ok (value_row item (here linked_machine m st)) w p S m st next h
      (keep.applied w.coexps st.names (Operation Ops.Dereference) (item ∷ []) (here linked_machine m st) (here_within w p S m st h) (g, tt)) f

  pub ok_values : (items : List Item) (w : Knowledge) (p : ℕ) (S : PlainShape) (m : LinkedStack) (st : Store WaitingChain) (next : List Value → LinkedState)
      → Ready w p S m st
      → Each (ItemWithin w.coexps) items
      → ((vs : List Value) → Each (ValueWithin w.coexps) vs → Ok (next vs)) → Ok (with_values linked_machine items m st next)
  ok_values [] w p S m st next h g f = f [] tt
  ok_values (item ∷ items) w p S m st next h g f =
      ok_value item w p S m st (λ value. with_values linked_machine items m st (λ values. next (value ∷ values))) h g.0
      (λ v gv. ok_values items w p S m st (λ values. next (v ∷ values)) h g.1 (λ vs gvs. f (v ∷ vs) (gv, gvs)))

  ready_seen : (w : Knowledge) (p : ℕ) (S : PlainShape) (m : LinkedStack) (st : Store WaitingChain) (seen : Setting) → Ready w p S m st
      → SettingWithin w.coexps seen
      → KeepsSizes (here linked_machine m st) seen → Ready w p S (C.set_locals seen.locals m) (with_at seen st)
  ready_seen w p S m st seen h g k = record {
    now = set_locals_ok P sh seen.locals w st.active p S m h.now
        (record { within = g.locals; count = k.locals ∙ (locals_ok P sh w st.active p S m h.now).count });
    store = record { world = g.world; coexps = h.store.coexps };
  }

  pub ok_outcome : (o : Outcome) (w : Knowledge) (p : ℕ) (S : PlainShape) (m : LinkedStack) (st : Store WaitingChain) → Ready w p S m st
      → OutcomeWithin w.coexps o
      → KeepsIn (here linked_machine m st) o → sh p m.address ≡ Some (with_more 1 S) → Ok (outcome linked_machine o m st)
  ok_outcome (Fails seen) w p S m st h g k e = ok_fails w p S (C.set_locals seen.locals m) (with_at seen st) (ready_seen w p S m st seen h g k)
  ok_outcome (Gives item seen) w p S m st h g k e = ok_push item w p S (C.set_locals seen.locals m) (with_at seen st) (ready_seen w p S m st seen h g.1 k) g.0 e
  ok_outcome (Suspends item r seen) w p S m st h g k e =
      let x = ready_seen w p S m st seen h g.2 k in
      ok_push item w p S (C.suspend (Cs.Op r) (C.set_locals seen.locals m)) (with_at seen st)
      (record { now = suspend_op P sh r w st.active p S (C.set_locals seen.locals m) x.now g.1 e; store = x.store }) g.0 e
  ok_outcome (Error j v seen) w p S m st h g k e =
      ok_errs j v w p S (C.set_locals seen.locals m) (with_at seen st) (ready_seen w p S m st seen h g.1 k) g.0
  ok_outcome (Ends j seen) w p S m st h g k e = tt

  -- what a row makes, after which the same shape stands
  pub ok_made : (o : Outcome) (w : Knowledge) (p : ℕ) (S : PlainShape) (m : LinkedStack) (st : Store WaitingChain)
      (next : Value → LinkedStack → Store WaitingChain → LinkedState)
      → Ready w p S m st → OutcomeWithin w.coexps o → KeepsIn (here linked_machine m st) o
      → ((v : Value) (a : LinkedStack) (st' : Store WaitingChain) → ValueWithin w.coexps v → Ready w p S a st' → a.address ≡ m.address → Ok (next v a st'))
      → Ok (with_made linked_machine o m st next)
  ok_made (Gives (Val v) seen) w p S m st next h g k f = f v (C.set_locals seen.locals m) (with_at seen st) g.0 (ready_seen w p S m st seen h g.1 k) refl
  ok_made (Gives (Var v) seen) w p S m st next h g k f = ok_fails w p S m st h
  ok_made (Error j v seen) w p S m st next h g k f =
      ok_errs j v w p S (C.set_locals seen.locals m) (with_at seen st) (ready_seen w p S m st seen h g.1 k) g.0
  ok_made (Fails seen) w p S m st next h g k f = ok_fails w p S m st h
  ok_made (Suspends item r seen) w p S m st next h g k f = ok_fails w p S m st h
  ok_made (Ends j seen) w p S m st next h g k f = ok_fails w p S m st h

  turn_ok : (b : Bool) (st : Store WaitingChain) (event : Store WaitingChain → LinkedState) → Ok (event (record st { turns = suc st.turns }))
      → Ok (turn_if b st event)
  turn_ok true st event h = h
  turn_ok false st event h = tt

  pub ok_turned : (st : Store WaitingChain) (event : Store WaitingChain → LinkedState) → Ok (event (record st { turns = suc st.turns })) → Ok (turn P st event)
  ok_turned st event h = turn_ok (nat_lt st.turns st.world.heap.bounds.turns) st event h

  pub ok_turn : (w : Knowledge) (p : ℕ) (S : PlainShape) (m : LinkedStack) (st : Store WaitingChain) (event : Store WaitingChain → LinkedState)
      → Ready w p S m st
      → ((st' : Store WaitingChain) → Ready w p S m st' → Ok (event st')) → Ok (turn P st event)
  ok_turn w p S m st event h f =
      ok_turned st event (f (record st { turns = suc st.turns }) (record { now = h.now; store = record { world = h.store.world; coexps = h.store.coexps } }))

  pub ok_list : (values : List Value) (w : Knowledge) (p : ℕ) (S : PlainShape) (m : LinkedStack) (st : Store WaitingChain)
      (next : Value → LinkedStack → Store WaitingChain → LinkedState)
      → Ready w p S m st → Each (ValueWithin w.coexps) values
      → ((v : Value) (a : LinkedStack) (st' : Store WaitingChain) → ValueWithin w.coexps v → Ready w p S a st' → a.address ≡ m.address → Ok (next v a st'))
      → Ok (list_made linked_machine values m st next)
  ok_list values w p S m st next h g f =
      ok_made (list_row values (here linked_machine m st)) w p S m st next h
      (keep.listed w.coexps values (here linked_machine m st) (here_within w p S m st h) g)
      (rows_keep.listed values (here linked_machine m st)) f

  -- Calls

  -- the parameters of a procedure
  pub record Parameters (w : Knowledge) (entry : Procedure) (values : List Value) : Type 0 where
    pub within : Each (ValueWithin w.coexps) values
    pub count : length values ≡ entry.parameters

  collected_ok : (b : Bool) (entry : Procedure) → (b ≡ true → 0 < entry.parameters)
      → (vs : List Value) (w : Knowledge) (p : ℕ) (S : PlainShape) (m : LinkedStack) (st : Store WaitingChain)
      (next : List Value → LinkedStack → Store WaitingChain → LinkedState)
      → Ready w p S m st → Each (ValueWithin w.coexps) vs
      → ((ps : List Value) (a : LinkedStack) (st' : Store WaitingChain) → Parameters w entry ps → Ready w p S a st' → a.address ≡ m.address
      → Ok (next ps a st'))
      → Ok (collect_rest linked_machine b entry.parameters vs m st next)
  collected_ok false entry some vs w p S m st next h g f =
      f (fill_nulls entry.parameters vs) m st
      (record { within = filled_within entry.parameters w.coexps vs g; count = filled_length entry.parameters vs }) h refl
  collected_ok true entry some vs w p S m st next h g f =
      let k = entry.parameters - 1 in
      ok_list (drop k vs) w p S m st (λ rest m st. next (fill_nulls k vs ++ rest ∷ []) m st) h (each_drop (ValueWithin w.coexps) k vs g) (λ rest a st' gr h' e.
      f (fill_nulls k vs ++ rest ∷ []) a st' (record {
        within = each_append (ValueWithin w.coexps) (fill_nulls k vs) (rest ∷ []) (filled_within k w.coexps vs g) (gr, tt);
        count = joined_length entry.parameters vs rest (some refl);
      }) h' e)

  pub ok_parameters : (n : ℕ) (entry : Procedure) → slice_get P.procs n ≡ Some entry
      → (vs : List Value) (w : Knowledge) (p : ℕ) (S : PlainShape) (m : LinkedStack) (st : Store WaitingChain)
      (next : List Value → LinkedStack → Store WaitingChain → LinkedState)
      → Ready w p S m st → Each (ValueWithin w.coexps) vs
      → ((ps : List Value) (a : LinkedStack) (st' : Store WaitingChain) → Parameters w entry ps → Ready w p S a st' → a.address ≡ m.address
      → Ok (next ps a st'))
      → Ok (with_parameters linked_machine entry vs m st next)
  ok_parameters n entry e vs w p S m st next h g f = collected_ok entry.collects entry (given.collects n entry e) vs w p S m st next h g f

  -- with nulls behind them they are the locals
  pub parameters_locals : (n : ℕ) (entry : Procedure) → slice_get P.procs n ≡ Some entry → (w : Knowledge) (ps : List Value) → Parameters w entry ps
      → Locals w n (ps ++ replicate entry.locals Null)
  parameters_locals n entry e w ps h =
      let count = h.count in
      record {
        within = each_append (ValueWithin w.coexps) ps (replicate entry.locals Null) h.within (each_replicate (ValueWithin w.coexps) entry.locals Null tt);
        count = omega (arith, length-append ps (replicate entry.locals Null), replicate_length entry.locals Null, count, count_of P n entry e);
      }

  ready_enter : (n : ℕ) (values : List Value) (w : Knowledge) (p : ℕ) (S : PlainShape) (m : LinkedStack) (st : Store WaitingChain) → Ready w p S m st
      → Locals w n values
      → sh p m.address ≡ Some (with_more 1 S) → Ready (with_activation w n) n (start_shape false) (C.enter n values m) st
  ready_enter n values w p S m st h g e =
      record {
        now = enter_ok P sh n values w st.active p S m h.now g e;
        store = grow_store P sh w (with_activation w n) (λ i. i ≡ st.active) st refl (grow_activation w n) h.store;
      }

  called_ok : (b : Bool) (n : ℕ) (entry : Procedure) → slice_get P.procs n ≡ Some entry
      → (vs : List Value) (w : Knowledge) (p : ℕ) (S : PlainShape) (m : LinkedStack) (st : Store WaitingChain) → Ready w p S m st
      → Each (ValueWithin w.coexps) vs
      → sh p m.address ≡ Some (with_more 1 S)
      → Ok (called_if linked_machine b n entry vs m st)
  called_ok false n entry e vs w p S m st h g o = ok_errs 301 None w p S m st h tt
  called_ok true n entry e vs w p S m st h g o =
      ok_parameters n entry e vs w p S m st (λ parameters m st. enter_procedure linked_machine n entry parameters m st) h g (λ ps a st' gp h' q.
      ok_runs (with_activation w n) n (start_shape false) (C.enter n (ps ++ replicate entry.locals Null) a) st'
      (ready_enter n (ps ++ replicate entry.locals Null) w p S a st' h' (parameters_locals n entry e w ps gp) (ap (sh p) q ∙ o))
      (given.starts n (index_within P.procs n entry e)))

  constructed_ok : (kind : ℕ) (entry : RecordType) (vs : List Value) (w : Knowledge) (p : ℕ) (S : PlainShape) (m : LinkedStack) (st : Store WaitingChain)
      → Ready w p S m st
      → Each (ValueWithin w.coexps) vs → sh p m.address ≡ Some (with_more 1 S) → Ok (construct_record linked_machine kind entry vs m st)
  constructed_ok kind entry vs w p S m st h g e =
      let fields = fill_nulls (length entry.fields) vs in
      ok_made (record_row kind fields (here linked_machine m st)) w p S m st (λ value m st. push_item linked_machine (Val value) m st) h
      (keep.recorded w.coexps kind fields (here linked_machine m st) (here_within w p S m st h) (filled_within (length entry.fields) w.coexps vs g))
      (rows_keep.recorded kind fields (here linked_machine m st))
      (λ v a st' gv h' q. ok_push (Val v) w p S a st' h' gv (ap (sh p) q ∙ e))

  callee_ok : (c : Callee) (n : ℕ) → CalleeIn P.procs n c
      → (items : List Item) (w : Knowledge) (p : ℕ) (S : PlainShape) (m : LinkedStack) (st : Store WaitingChain)
      → Ready w p S m st → Each (ItemWithin w.coexps) items → sh p m.address ≡ Some (with_more 1 S) → Ok (callee_called linked_machine c n items m st)
  callee_ok (IsProc entry) n i items w p S m st h g e = ok_values items w p S m st (λ arguments. call_procedure linked_machine n entry arguments m st) h g
      (λ vs gv. called_ok (nat_le (suc (linked_machine.level m)) st.world.heap.bounds.levels) n entry i vs w p S m st h gv e)
  callee_ok (IsRecord kind entry) n i items w p S m st h g e =
      ok_values items w p S m st (λ arguments. construct_record linked_machine kind entry arguments m st) h g
      (λ vs gv. constructed_ok kind entry vs w p S m st h gv e)
  callee_ok (IsFunc func) n i items w p S m st h g e =
      ok_outcome (apply st.names (Function func) items (here linked_machine m st)) w p S m st h (keep.applied w.coexps
      st.names (Function func) items (here linked_machine m st) (here_within w p S m st h) g)
      (rows_keep.applied st.names (Function func) items (here linked_machine m st)) e
  callee_ok IsNothing n i items w p S m st h g e = ok_errs 106 (Some (ProcedureValue n)) w p S m st h tt

  pub ok_one : (o : Option Item) (w : Knowledge) (p : ℕ) (S : PlainShape) (m : LinkedStack) (st : Store WaitingChain) → Ready w p S m st
      → IfThere (ItemWithin w.coexps) o
      → sh p m.address ≡ Some (with_more 1 S) → Ok (pushed_or_fails linked_machine o m st)
  ok_one (Some item) w p S m st h g e = ok_push item w p S m st h g e
  ok_one None w p S m st h g e = ok_fails w p S m st h

  named_ok : (callee : Value) (o : Option ℕ) (items : List Item) (w : Knowledge) (p : ℕ) (S : PlainShape) (m : LinkedStack) (st : Store WaitingChain)
      → Ready w p S m st → ValueWithin w.coexps callee
      → Each (ItemWithin w.coexps) items → sh p m.address ≡ Some (with_more 1 S) → Ok (named_called linked_machine P callee o items m st)
  named_ok callee (Some n) items w p S m st h z g e = callee_ok (callee_of P n) n (callee_in P.procs P.records n) items w p S m st h g e
  named_ok callee None items w p S m st h z g e = ok_errs 106 (Some callee) w p S m st h z

  integer_ok : (callee : Value) (o : Option ℤ) (items : List Item) (w : Knowledge) (p : ℕ) (S : PlainShape) (m : LinkedStack) (st : Store WaitingChain)
      → Ready w p S m st → ValueWithin w.coexps callee
      → Each (ItemWithin w.coexps) items → sh p m.address ≡ Some (with_more 1 S) → Ok (integer_called linked_machine P callee o items m st)
  integer_ok callee (Some n) items w p S m st h z g e =
      ok_one (choose_item n items) w p S m st h (argument_within w.coexps (position_of n (length items)) items g) e
  integer_ok callee None items w p S m st h z g e = named_ok callee (named_by st.names callee) items w p S m st h z g e

  pub ok_invoked : (callee : Value) (items : List Item) (w : Knowledge) (p : ℕ) (S : PlainShape) (m : LinkedStack) (st : Store WaitingChain) → Ready w p S m st
      → ValueWithin w.coexps callee → Each (ItemWithin w.coexps) items → sh p m.address ≡ Some (with_more 1 S)
      → Ok (invoke_value linked_machine P callee items m st)
  ok_invoked (ProcedureValue n) items w p S m st h z g e = callee_ok (callee_of P n) n (callee_in P.procs P.records n) items w p S m st h g e
  ok_invoked Null items w p S m st h z g e = ok_errs 106 (Some Null) w p S m st h z
  ok_invoked (Integer x) items w p S m st h z g e = integer_ok (Integer x) (number_of (Integer x)) items w p S m st h z g e
  ok_invoked (Text x) items w p S m st h z g e = integer_ok (Text x) (number_of (Text x)) items w p S m st h z g e
  ok_invoked (Chars x) items w p S m st h z g e = ok_errs 106 (Some (Chars x)) w p S m st h z
  ok_invoked (Std x) items w p S m st h z g e = ok_errs 106 (Some (Std x)) w p S m st h z
  ok_invoked (ARecord x) items w p S m st h z g e = ok_errs 106 (Some (ARecord x)) w p S m st h z
  ok_invoked (AList x) items w p S m st h z g e = ok_errs 106 (Some (AList x)) w p S m st h z
  ok_invoked (ASet x) items w p S m st h z g e = ok_errs 106 (Some (ASet x)) w p S m st h z
  ok_invoked (ATable x) items w p S m st h z g e = ok_errs 106 (Some (ATable x)) w p S m st h z
  ok_invoked (ACoexp x) items w p S m st h z g e = ok_errs 106 (Some (ACoexp x)) w p S m st h z

  pub ok_elements : (callee from : Value) (w : Knowledge) (p : ℕ) (S : PlainShape) (m : LinkedStack) (st : Store WaitingChain) → Ready w p S m st
      → ValueWithin w.coexps callee → ValueWithin w.coexps from → sh p m.address ≡ Some (with_more 1 S) → Ok (elements_called linked_machine P callee from m st)
  ok_elements callee (AList n) w p S m st h z y e =
      let vs = (list_at st.world.heap n).items in
      ok_invoked callee (map plain vs) w p S m st h z (plain_within w.coexps vs (items_at w.coexps st.world.heap.lists n h.store.world.heap.lists)) e
  ok_elements callee (ARecord n) w p S m st h z y e =
      let vs = (record_at st.world.heap n).fields in
      ok_invoked callee (map plain vs) w p S m st h z (plain_within w.coexps vs (fields_at w.coexps st.world.heap.records n h.store.world.heap.records)) e
  ok_elements callee Null w p S m st h z y e = ok_errs 126 (Some Null) w p S m st h y
  ok_elements callee (Integer x) w p S m st h z y e = ok_errs 126 (Some (Integer x)) w p S m st h y
  ok_elements callee (Text x) w p S m st h z y e = ok_errs 126 (Some (Text x)) w p S m st h y
  ok_elements callee (Chars x) w p S m st h z y e = ok_errs 126 (Some (Chars x)) w p S m st h y
  ok_elements callee (Std x) w p S m st h z y e = ok_errs 126 (Some (Std x)) w p S m st h y
  ok_elements callee (ProcedureValue x) w p S m st h z y e = ok_errs 126 (Some (ProcedureValue x)) w p S m st h y
  ok_elements callee (ASet x) w p S m st h z y e = ok_errs 126 (Some (ASet x)) w p S m st h y
  ok_elements callee (ATable x) w p S m st h z y e = ok_errs 126 (Some (ATable x)) w p S m st h y
  ok_elements callee (ACoexp x) w p S m st h z y e = ok_errs 126 (Some (ACoexp x)) w p S m st h y

  pub ok_applied : (items : List Item) (w : Knowledge) (p : ℕ) (S : PlainShape) (m : LinkedStack) (st : Store WaitingChain) → Ready w p S m st
      → length items ≡ 2
      → Each (ItemWithin w.coexps) items → sh p m.address ≡ Some (with_more 1 S) → Ok (applied_to_elements linked_machine P items m st)
  ok_applied [] w p S m st h l g e = absurd (omega (arith, l))
  ok_applied (x ∷ []) w p S m st h l g e = absurd (omega (arith, l))
  ok_applied (callee ∷ from ∷ []) w p S m st h l g e =
      ok_value callee w p S m st (λ callee. with_value linked_machine from m st (λ from. elements_called linked_machine P callee from m st)) h g.0 (λ v gv.
      ok_value from w p S m st (λ from. elements_called linked_machine P v from m st) h g.1.0 (λ u gu. ok_elements v u w p S m st h gv gu e))
  ok_applied (x ∷ y ∷ z ∷ items) w p S m st h l g e = absurd (omega (arith, l))

  pub ok_invoked_with : (items : List Item) (k : ℕ) (w : Knowledge) (p : ℕ) (S : PlainShape) (m : LinkedStack) (st : Store WaitingChain) → Ready w p S m st
      → length items ≡ suc k → Each (ItemWithin w.coexps) items → sh p m.address ≡ Some (with_more 1 S) → Ok (invoked_with linked_machine P items m st)
  ok_invoked_with [] k w p S m st h l g e = absurd (omega (arith, l))
  ok_invoked_with (callee ∷ items) k w p S m st h l g e =
      ok_value callee w p S m st (λ value. invoke_value linked_machine P value items m st) h g.0 (λ v z. ok_invoked v items w p S m st h z g.1 e)

  field_ok : (n : ℕ) (o : Option ℕ) (w : Knowledge) (p : ℕ) (S : PlainShape) (m : LinkedStack) (st : Store WaitingChain) → Ready w p S m st
      → sh p m.address ≡ Some (with_more 1 S) → Ok (field_taken linked_machine o n m st)
  field_ok n None w p S m st h e = ok_errs 207 (Some (ARecord n)) w p S m st h tt
  field_ok n (Some place) w p S m st h e = ok_push (Var (Whole (R.Field n place))) w p S m st h tt e

  pub ok_field : (k : ℕ) (v : Value) (w : Knowledge) (p : ℕ) (S : PlainShape) (m : LinkedStack) (st : Store WaitingChain) → Ready w p S m st
      → ValueWithin w.coexps v → sh p m.address ≡ Some (with_more 1 S) → Ok (field_of linked_machine P k v m st)
  ok_field k (ARecord x) w p S m st h z e = field_ok x (field_index P k (record_at st.world.heap x).kind) w p S m st h e
  ok_field k Null w p S m st h z e = ok_errs 107 (Some Null) w p S m st h z
  ok_field k (Integer x) w p S m st h z e = ok_errs 107 (Some (Integer x)) w p S m st h z
  ok_field k (Text x) w p S m st h z e = ok_errs 107 (Some (Text x)) w p S m st h z
  ok_field k (Chars x) w p S m st h z e = ok_errs 107 (Some (Chars x)) w p S m st h z
  ok_field k (Std x) w p S m st h z e = ok_errs 107 (Some (Std x)) w p S m st h z
  ok_field k (ProcedureValue x) w p S m st h z e = ok_errs 107 (Some (ProcedureValue x)) w p S m st h z
  ok_field k (AList x) w p S m st h z e = ok_errs 107 (Some (AList x)) w p S m st h z
  ok_field k (ASet x) w p S m st h z e = ok_errs 107 (Some (ASet x)) w p S m st h z
  ok_field k (ATable x) w p S m st h z e = ok_errs 107 (Some (ATable x)) w p S m st h z
  ok_field k (ACoexp x) w p S m st h z e = ok_errs 107 (Some (ACoexp x)) w p S m st h z

  -- Operands and marks

  pub ready_at : (w : Knowledge) (p : ℕ) (S : PlainShape) (m : LinkedStack) (st : Store WaitingChain) (S' : PlainShape) (m' : LinkedStack) → Ready w p S m st
      → Now P sh w st.active p S' m' → Ready w p S' m' st
  ready_at w p S m st S' m' h n = record { now = n; store = h.store }

  pub ok_popped : (w : Knowledge) (p : ℕ) (S : PlainShape) (m : LinkedStack) (st : Store WaitingChain) (next : Item → LinkedStack → LinkedState)
      → Ready w p S m st
      → 0 < S.inner.operands
      → ((item : Item) (c : Chain) → ItemWithin w.coexps item → Ready w p (with_fewer 1 S) (with_chain c m) st → Ok (next item (with_chain c m)))
      → Ok (with_popped linked_machine m next)
  ok_popped w p S m st next h l f = let o = pop_ok P sh w st.active p S m h.now l in
      ok_found (C.pop m) (on_pair next) (o.0, with_chain o.1 m) o.2 (f o.0 o.1 o.3 (ready_at w p S m st (with_fewer 1 S) (with_chain o.1 m) h o.4))

  pub ok_taken : (n : ℕ) (w : Knowledge) (p : ℕ) (S : PlainShape) (m : LinkedStack) (st : Store WaitingChain) (next : List Item → LinkedStack → LinkedState)
      → Ready w p S m st
      → n ≤ S.inner.operands
      → ((items : List Item) (c : Chain) → length items ≡ n → Each (ItemWithin w.coexps) items → Ready w p (with_fewer n S) (with_chain c m) st
      → Ok (next items (with_chain c m))) → Ok (with_taken linked_machine n m next)
  ok_taken n w p S m st next h l f = let o = take_ok P sh n w st.active p S m h.now l in
      ok_found (C.take_items n m) (on_pair next) (o.0, with_chain o.1 m) o.2 (f o.0 o.1 o.3 o.4 (ready_at w p S m st (with_fewer n S) (with_chain o.1 m) h o.5))

  pub ready_pair : (w : Knowledge) (p : ℕ) (S : PlainShape) (m : LinkedStack) (st : Store WaitingChain) (pair : Pair) → Ready w p S m st
      → Ready w p S m (with_pair pair st)
  ready_pair w p S m st pair h = ready_world w p S m st (record st.world { subject = pair.subject; position = pair.position }) h
      (record { heap = h.store.world.heap; globals = h.store.world.globals; statics = h.store.world.statics; kept = h.store.world.kept })

  left_ok : (w : Knowledge) (p : ℕ) (S : PlainShape) (m : LinkedStack) (st : Store WaitingChain) (o : Option Pair) (next : Store WaitingChain → LinkedState)
      → Ready w p S m st
      → ((st' : Store WaitingChain) → Ready w p S m st' → Ok (next st')) → Ok (next (scans_left o st))
  left_ok w p S m st None next h f = f st h
  left_ok w p S m st (Some pair) next h f = f (with_pair pair st) (ready_pair w p S m st pair h)

  pub ok_unmarked : (w : Knowledge) (p : ℕ) (S : PlainShape) (m : LinkedStack) (st : Store WaitingChain) (next : LinkedStack → Store WaitingChain → LinkedState)
      → Ready w p S m st
      → is_some (slice_get S.outer 0) ≡ true
      → ((c : Chain) (S' : PlainShape) (st' : Store WaitingChain) → before_mark S ≡ Some S' → Ready w p S' (with_chain c m) st'
      → Ok (next (with_chain c m) st'))
      → Ok (unmark_then linked_machine m st next)
  ok_unmarked w p S m st next h l f = let o = outside_ok P sh w st.active p S m h.now l in
      let pair : Option Pair = C.pair_at m (C.oldest (C.first_scan (C.scans_of o.chain)) (C.scans_of m.chain)) in
      ok_found (C.unmark m) (on_pair (λ outside pair. next outside (scans_left pair st))) (with_chain o.chain m, pair) o.unmark
      (left_ok w p o.shape (with_chain o.chain m) st pair (next (with_chain o.chain m))
      (ready_at w p S m st o.shape (with_chain o.chain m) h (record { has = o.has; memory = h.now.memory })) (λ st' r. f o.chain o.shape st' o.before r))
