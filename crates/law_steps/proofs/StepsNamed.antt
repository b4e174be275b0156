-- A step of the run of a code leaves a state that names only what has a name.
use Rattle.std.proofs.Common.{◌≡◌, ◌<◌, ℕ, zero, suc, ◌+◌, Bool, true, false, List, [], ◌∷◌, ◌++◌, length, Option, Some, None, refl, sym, ap, subst, arith}
use Rattle.std.specs.Prelude.{ℤ, pos, negsuc, ◌-◌, ◌==◌, nat_lt, nat_le, drop, map, option_map, replicate, slice_get, slice_index_or, if◌then◌else◌}
use Rattle.icn_text.specs.declared.func.Func.{Func}
use Rattle.icn_text.specs.declared.op.Op.{Op}
use Rattle.icn_text.specs.declared.op.Op.TheVariants as Ops
use Rattle.icn_text.specs.declared.keyword.Keyword.{Keyword as AnyKeyword}
use Rattle.icn_text.specs.declared.keyword.Keyword.TheVariants as Keywords
use Rattle.icn_value.specs.Values.{Value, Null, Integer, Text, Chars, Std, Procedure as ProcedureValue, ARecord, AList, ASet, ATable, ACoexp, Global, Static, Local, Element, Field, Key, Keyword, Whole, Part, Item, Val, Var}
use Rattle.icn_value.specs.Store.{KeptError, Names, Setting}
use Rattle.icn_code.specs.declared.instr.Instr.{Instr}
use Rattle.icn_code.specs.declared.instr.Instr.TheVariants as I
use Rattle.icn_code.specs.Codes.{Tables, Proc as Procedure, RecordType}
use Rattle.icn_defs.specs.NamedValues.{named_by}
use Rattle.icn_defs.specs.Arities.{arity}
use Rattle.icn_defs.specs.Applying.{again}
use Rattle.icn_defs.specs.Conversions.{integer_of}
use Rattle.icn_defs.specs.Keywords.{Standing, keyword_item, kept_number, kept_value, kept_text}
use Rattle.icn_defs.specs.Numbers.{func_of}
use Rattle.icn_defs.specs.Rows.{Row, Outcome, Fails, Gives, Suspends, Error, Ends}
use Rattle.icn_defs.specs.Running.{Done, Pair, number_of}
use Rattle.icn_defs.specs.StepRows.{Operation, Function, apply, value_row, list_row, text_row, record_row, coexpression_row}
use Rattle.law_names.specs.NamedSettings.{ErrorNamed, ItemNamed, KeptNamed, OptionNamed, SettingNamed, ValueNamed, WorldNamed}
use Rattle.law_names.specs.RowsNamed.{OutcomeNamed, RowsKeepNames}
use Rattle.icn_run.specs.Calls.{Why, Alt, Op as Operating, Scan, Escan, Proc, MarkDrop, NoMark, Goes, Repeats, Outside as WithoutLabel}
use Rattle.icn_run.specs.Stacks as flats
use Rattle.icn_run.specs.Stacks.{Frames, flat}
use Rattle.icn_run.proofs.NamedCallees.{name_is, named_is}
use Rattle.icn_run.specs.Step as S
use Rattle.icn_run.specs.Step.{Status, Fresh, Active, Waiting, Exhausted, Coexp, Store, State, running, failing, hopping, over, stuck, Callee, IsProc, IsRecord, IsFunc, IsNothing}
use Rattle.icn_run.proofs.Errors.{at_error}
use Rattle.law_steps.specs.StateNames.{CoexpNamed, StackNamed, StateNamed, StatusNamed, StoreNamed, WhyNamed}
use Rattle.law_steps.specs.KeepingNames.{CalleeNamed, FunctionNamed, MayCall, StepsKeepNames}
use Rattle.law_steps.proofs.CallsNamed as C
use Rattle.law_rows.proofs.EachOfList.{Each, each_of, all_of, each_append, each_drop, each_index, each_replicate, each_set, each_take}
use Rattle.law_steps.proofs.CallsNamed.{IfThere, each_get}

module _ (rows : RowsKeepNames) (P : Tables) where
  abbrev pub ns : Names
  ns = S.all_names P

  abbrev pub NamedValue : Value → Type 0
  NamedValue v = ValueNamed ns v

  abbrev X : Item → Type 0
  X x = ItemNamed ns x

  abbrev pub NamedStack : Frames → Type 0
  NamedStack m = C.NamedStack ns m

  -- a store, with its co-expressions one by one
  pub record K (st : Store Frames) : Type 0 where
    pub world : WorldNamed ns st.world
    pub coexps : Each (CoexpNamed ns) st.coexps

  abbrev pub G : State Frames Frames → Type 0
  G (running m st) = NamedStack m × K st
  G (failing m st) = NamedStack m × K st
  G (hopping m st) = K st
  G (over ending outside) = Unit {0}
  G stuck = Unit {0}

  found : {A : Type 0} (Q : A → Type 0) (o : Option A) (go : A → State Frames Frames) → IfThere Q o → ((x : A) → Q x → G (go x)) → G (S.with_found o go)
  found Q (Some x) go h f = f x h
  found Q None go h f = tt

  pub any : {A : Type 0} (o : Option A) (go : A → State Frames Frames) → ((x : A) → G (go x)) → G (S.with_found o go)
  any (Some x) go f = f x
  any None go f = tt

  -- Settings and rows

  pub here : (m : Frames) (st : Store Frames) → NamedStack m → K st → SettingNamed ns (S.here flat m st)
  here m st h k = record { world = k.world; locals = all_of NamedValue (flats.locals m) (C.locals ns m h) }

  placed : (m : Frames) (st : Store Frames) (seen : Setting) → SettingNamed ns seen → NamedStack m → K st
      → NamedStack (flats.set_locals seen.locals m) × K (S.with_at seen st)
  placed m st seen s h k = (C.set_locals ns seen.locals m (each_of NamedValue seen.locals s.locals) h, record { world = s.world; coexps = k.coexps })

  turn_if : (t : Bool) (st : Store Frames) (go : Store Frames → State Frames Frames) → K st → ((s : Store Frames) → K s → G (go s)) → G (S.turn_if t st go)
  turn_if true st go k f = f (record st { turns = suc st.turns }) (record { world = k.world; coexps = k.coexps })
  turn_if false st go k f = tt

  turn : (st : Store Frames) (go : Store Frames → State Frames Frames) → K st → ((s : Store Frames) → K s → G (go s)) → G (S.turn P st go)
  turn st go k f = turn_if (nat_lt st.turns st.world.heap.bounds.turns) st go k f

  -- an error that is kept is about a value that names what has a name, and its number is that of an error
  pub erred : (n : ℕ) (v : Option Value) (m : Frames) (st : Store Frames) → ErrorNamed ns n v → NamedStack m → K st → G (S.errs n v m st)
  erred n v m st a h k = at_error G n v m st tt (
    h,
    record {
      world = record { heap = k.world.heap; globals = k.world.globals; statics = k.world.statics; kept = a };
      coexps = k.coexps;
    },
  )

  valued : (o : Outcome) (m : Frames) (st : Store Frames) (go : Value → State Frames Frames) → OutcomeNamed ns o → NamedStack m → K st
      → ((v : Value) → NamedValue v → G (go v))
      → G (S.with_given o m st go)
  valued (Gives (Val v) s) m st go n h k f = f v n.0.named
  valued (Gives (Var x) s) m st go n h k f = (h, k)
  valued (Error e v s) m st go n h k f = erred e v m st n.0 h k
  valued (Fails s) m st go n h k f = (h, k)
  valued (Suspends x r s) m st go n h k f = (h, k)
  valued (Ends e s) m st go n h k f = (h, k)

  pub made : (o : Outcome) (m : Frames) (st : Store Frames) (go : Value → Frames → Store Frames → State Frames Frames) → OutcomeNamed ns o → NamedStack m → K st
      → ((v : Value) (m : Frames) (s : Store Frames) → NamedValue v → NamedStack m → K s → G (go v m s)) → G (S.with_made flat o m st go)
  made (Gives (Val v) s) m st go n h k f = let at = placed m st s n.1 h k in f v (flats.set_locals s.locals m) (S.with_at s st) n.0.named at.0 at.1
  made (Gives (Var x) s) m st go n h k f = (h, k)
  made (Error e v s) m st go n h k f = let at = placed m st s n.1 h k in erred e v (flats.set_locals s.locals m) (S.with_at s st) n.0 at.0 at.1
  made (Fails s) m st go n h k f = (h, k)
  made (Suspends x r s) m st go n h k f = (h, k)
  made (Ends e s) m st go n h k f = (h, k)

  outcome : (o : Outcome) (m : Frames) (st : Store Frames) → OutcomeNamed ns o → NamedStack m → K st → G (S.outcome flat o m st)
  outcome (Fails s) m st n h k = placed m st s n h k
  outcome (Gives x s) m st n h k = let at = placed m st s n.1 h k in ((n.0, at.0), at.1)
  outcome (Suspends x r s) m st n h k =
      let at = placed m st s n.1.1 h k in
      ((n.0, C.suspend ns (Operating r) (flats.set_locals s.locals m) n.1.0 at.0), at.1)
  outcome (Error e v s) m st n h k = let at = placed m st s n.1 h k in erred e v (flats.set_locals s.locals m) (S.with_at s st) n.0 at.0 at.1
  outcome (Ends e s) m st n h k = tt

  -- the first of some values
  abbrev first : List Value → Value
  first [] = Null
  first (v ∷ vs) = v

  first_named : (vs : List Value) → Each NamedValue vs → NamedValue (first vs)
  first_named [] h = tt
  first_named (v ∷ vs) h = h.0

  abbrev gives_first : List Value → Row
  gives_first vs at = Gives (Val (first vs)) at

  value_named : (x : Item) (at : Setting) → X x → SettingNamed ns at → OutcomeNamed ns (value_row x at)
  value_named x at h s =
      rows.values ns (x ∷ []) gives_first at s (all_of X (x ∷ []) (h, tt)) (λ vs n. (record { named = first_named vs (each_of NamedValue vs n) }, s))

  value : (x : Item) (m : Frames) (st : Store Frames) (go : Value → State Frames Frames) → X x → NamedStack m → K st → ((v : Value) → NamedValue v → G (go v))
      → G (S.with_value flat x m st go)
  value x m st go n h k f = valued (value_row x (S.here flat m st)) m st go (value_named x (S.here flat m st) n (here m st h k)) h k f

  values : (xs : List Item) (m : Frames) (st : Store Frames) (go : List Value → State Frames Frames) → Each X xs → NamedStack m → K st
      → ((vs : List Value) → Each NamedValue vs → G (go vs)) → G (S.with_values flat xs m st go)
  values [] m st go n h k f = f [] tt
  values (x ∷ xs) m st go n h k f =
      value x m st (λ v. S.with_values flat xs m st (λ vs. go (v ∷ vs))) n.0 h k (λ v a. values xs m st (λ vs. go (v ∷ vs)) n.1 h k (λ vs b. f (v ∷ vs) (a, b)))

  list_made : (vs : List Value) (m : Frames) (st : Store Frames) (go : Value → Frames → Store Frames → State Frames Frames) → Each NamedValue vs → NamedStack m
      → K st
      → ((v : Value) (m : Frames) (s : Store Frames) → NamedValue v → NamedStack m → K s → G (go v m s)) → G (S.list_made flat vs m st go)
  list_made vs m st go n h k f =
      made (list_row vs (S.here flat m st)) m st go (rows.lists ns vs (S.here flat m st) (here m st h k) (all_of NamedValue vs n)) h k f

  plain : (v : Value) → NamedValue v → X (Val v)
  plain v h = record { named = h }

  pushed : (x : Item) (m : Frames) (st : Store Frames) → X x → NamedStack m → K st → G (S.push_item flat x m st)
  pushed x m st n h k = ((n, h), k)

  -- Scans

  with_pair : (pair : Pair) (st : Store Frames) → K st → K (S.with_pair pair st)
  with_pair pair st k =
      record { world = record { heap = k.world.heap; globals = k.world.globals; statics = k.world.statics; kept = k.world.kept }; coexps = k.coexps }

  exchanged : (o : Option (Pair × Frames)) (go : Frames → Store Frames → State Frames Frames) (st : Store Frames) → IfThere (C.Swapped ns) o → K st
      → ((m : Frames) (s : Store Frames) → NamedStack m → K s → G (go m s)) → G (S.with_exchange o go st)
  exchanged (Some x) go st h k f = f x.1 (S.with_pair x.0 st) h (with_pair x.0 st k)
  exchanged None go st h k f = tt

  maybe_exchanged : (o : Option (Pair × Frames)) (m : Frames) (st : Store Frames) (go : Frames → Store Frames → State Frames Frames) → IfThere (C.Swapped ns) o
      → NamedStack m → K st → ((m : Frames) (s : Store Frames) → NamedStack m → K s → G (go m s)) → G (S.maybe_exchanged o m st go)
  maybe_exchanged (Some x) m st go n h k f = f x.1 (S.with_pair x.0 st) n (with_pair x.0 st k)
  maybe_exchanged None m st go n h k f = f m st h k

  left : (o : Option Pair) (st : Store Frames) → K st → K (S.scans_left o st)
  left (Some x) st k = with_pair x st k
  left None st k = k

  swapped_back : (o : Option (Pair × Frames)) (st : Store Frames) → K st → K (S.swapped_back o st)
  swapped_back (Some x) st k = with_pair x.0 st k
  swapped_back None st k = k

  all_left : (m : Frames) (st : Store Frames) → K st → K (S.all_left flat m st)
  all_left m st k = swapped_back (flats.swap_oldest (S.pair_now st) m) st k

  unmarked : (m : Frames) (st : Store Frames) (go : Frames → Store Frames → State Frames Frames) → NamedStack m → K st
      → ((m : Frames) (s : Store Frames) → NamedStack m → K s → G (go m s)) → G (S.unmark_then flat m st go)
  unmarked m st go h k f = found (C.Left ns) (flats.unmark m) (S.on_pair (λ outside pair. go outside (S.scans_left pair st))) (C.unmark ns m h)
      (λ x n. f x.0 (S.scans_left x.1 st) n (left x.1 st k))

  -- Co-expressions

  abbrev none : Coexp Frames
  none = record { status = Exhausted; activator = zero; values = []; proc = zero; address = zero }

  none_named : CoexpNamed ns none
  none_named = record { status = tt; values = all_of NamedValue [] tt }

  coexp_at : (n : ℕ) (st : Store Frames) → K st → CoexpNamed ns (S.coexp_at n st)
  coexp_at n st k = each_index (CoexpNamed ns) st.coexps n none k.coexps none_named

  with_status : (n : ℕ) (s : Status Frames) (st : Store Frames) → StatusNamed ns s → K st → K (S.with_status n s st)
  with_status n s st h k = let at = coexp_at n st k in record {
    world = k.world;
    coexps = each_set (CoexpNamed ns) st.coexps n (record (S.coexp_at n st) { status = s }) k.coexps (record { status = h; values = at.values });
  }

  with_activator : (n a : ℕ) (st : Store Frames) → K st → K (S.with_activator n a st)
  with_activator n a st k = let at = coexp_at n st k in record {
    world = k.world;
    coexps = each_set (CoexpNamed ns) st.coexps n (record (S.coexp_at n st) { activator = a }) k.coexps (record { status = at.status; values = at.values });
  }

  active : (n : ℕ) (st : Store Frames) → K st → K (record st { active = n })
  active n st k = record { world = k.world; coexps = k.coexps }

  activated : (n : ℕ) (st : Store Frames) → K st → K (S.make_active n st)
  activated n st k = with_status n Active (record st { active = n }) tt (active n st k)

  taken_up : (m : Frames) → StackNamed ns m → NamedStack m
  taken_up m h = C.stack_in ns m h

  fail_by : (u : Status Frames) (n : ℕ) (m : Frames) (st : Store Frames) → StatusNamed ns u → K st → G (S.fail_by flat u n m st)
  fail_by Fresh n m st h k = tt
  fail_by Active n m st h k = tt
  fail_by (Waiting a) n m st h k = (taken_up a h, activated n st k)
  fail_by Exhausted n m st h k = active n st k

  begun_by : (co : Coexp Frames) (m : Frames) (st : Store Frames) → CoexpNamed ns co → K st → G (S.begun_by flat co m st)
  begun_by co m st h k = (C.begin ns co.proc co.values co.address m (each_of NamedValue co.values h.values), k)

  give_by : (u : Status Frames) (n : ℕ) (v : Value) (m : Frames) (st : Store Frames) → StatusNamed ns u → NamedValue v → K st → G (S.give_by flat u n v m st)
  give_by Fresh n v m st h a k = begun_by (S.coexp_at n st) m (S.make_active n st) (coexp_at n st k) (activated n st k)
  give_by Active n v m st h a k = tt
  give_by (Waiting b) n v m st h a k = ((plain v a, taken_up b h), activated n st k)
  give_by Exhausted n v m st h a k = active n st k

  to_activator : (n : ℕ) (m : Frames) (st : Store Frames) → K st → G (S.passed_failure flat n m st)
  to_activator n m st k = let at = coexp_at n st k in fail_by (S.status_of n st) n m st at.status k

  hop : (m : Frames) (st : Store Frames) → K st → G (S.hop flat P m st)
  hop m st k = turn st (λ st. S.passed_failure flat (S.activator_of st.active st) m st) k (λ st k. to_activator (S.activator_of st.active st) m st k)

  exhausted : (m : Frames) (st : Store Frames) → K st → G (S.exhaust_active flat P m st)
  exhausted m st k = turn st (λ st. S.passed_failure flat (S.activator_of st.active st) m (S.with_status st.active Exhausted st)) k
      (λ st k. to_activator (S.activator_of st.active st) m (S.with_status st.active Exhausted st) (with_status st.active Exhausted st tt k))

  passed : (n : ℕ) (v : Value) (m : Frames) (st : Store Frames) → NamedValue v → K st → G (S.passed_value flat n v m st)
  passed n v m st a k = let at = coexp_at n st k in give_by (S.status_of n st) n v m st at.status a k

  counted : (n : ℕ) (st : Store Frames) → K st → K (S.counted_result n st)
  counted n st k = record {
    world = record {
      heap = record { lists = k.world.heap.lists; sets = k.world.heap.sets; tables = k.world.heap.tables; records = k.world.heap.records };
      globals = k.world.globals;
      statics = k.world.statics;
      kept = k.world.kept;
    };
    coexps = k.coexps;
  }

  result_given : (v : Value) (m : Frames) (st : Store Frames) → NamedValue v → NamedStack m → K st → G (S.result_given flat v m st)
  result_given v m st a h k =
      passed (S.activator_of st.active st) v m (S.counted_result st.active (S.with_status st.active (Waiting m) st)) a
      (counted st.active (S.with_status st.active (Waiting m) st) (with_status st.active (Waiting m) st (C.stack_out ns m h) k))

  coexp_made : (vs : List Value) (proc place : ℕ) (m : Frames) (st : Store Frames) → Each NamedValue vs → NamedStack m → K st
      → G (S.coexp_made flat vs proc place m st)
  coexp_made vs proc place m st a h k = made (coexpression_row (length vs) (S.here flat m st)) m st
      (λ value m st. S.push_item flat (Val value) m (S.with_new vs proc place st)) (rows.coexpressions ns (length vs) (S.here flat m st) (here m st h k)) h k
      (λ v m s n h k. (
        (plain v n, h),
        record {
          world = k.world;
          coexps = each_append (CoexpNamed ns) s.coexps (record { status = Fresh; activator = zero; values = vs; proc = proc; address = place } ∷ []) k.coexps
              (record { status = tt; values = all_of NamedValue vs a }, tt);
        },
      ))

  refreshed_from : (o : Option (Coexp Frames)) (m : Frames) (st : Store Frames) → IfThere (CoexpNamed ns) o → NamedStack m → K st
      → G (S.refreshed_from flat o m st)
  refreshed_from (Some co) m st n h k = coexp_made co.values co.proc co.address m st (each_of NamedValue co.values n.values) h k
  refreshed_from None m st n h k = tt

  refreshed : (v : Value) (m : Frames) (st : Store Frames) → NamedValue v → NamedStack m → K st → G (S.refresh flat v m st)
  refreshed (ACoexp zero) m st a h k = erred 215 (Some (ACoexp zero)) m st (tt, refl) h k
  refreshed (ACoexp (suc n)) m st a h k = refreshed_from (slice_get st.coexps (suc n)) m st (each_get (CoexpNamed ns) st.coexps (suc n) k.coexps) h k
  refreshed Null m st a h k = erred 118 (Some Null) m st (a, refl) h k
  refreshed (Integer n) m st a h k = erred 118 (Some (Integer n)) m st (a, refl) h k
  refreshed (Text t) m st a h k = erred 118 (Some (Text t)) m st (a, refl) h k
  refreshed (Chars c) m st a h k = erred 118 (Some (Chars c)) m st (a, refl) h k
  refreshed (Std f) m st a h k = erred 118 (Some (Std f)) m st (a, refl) h k
  refreshed (ProcedureValue n) m st a h k = erred 118 (Some (ProcedureValue n)) m st (a, refl) h k
  refreshed (ARecord n) m st a h k = erred 118 (Some (ARecord n)) m st (a, refl) h k
  refreshed (AList n) m st a h k = erred 118 (Some (AList n)) m st (a, refl) h k
  refreshed (ASet n) m st a h k = erred 118 (Some (ASet n)) m st (a, refl) h k
  refreshed (ATable n) m st a h k = erred 118 (Some (ATable n)) m st (a, refl) h k

  entered_by : (n : ℕ) (v : Value) (m : Frames) (st : Store Frames) → NamedValue v → NamedStack m → K st → G (S.entered_by flat n v m st)
  entered_by n v m st a h k = passed n v m (S.with_activator n st.active (S.with_status st.active (Waiting m) st)) a
      (with_activator n st.active (S.with_status st.active (Waiting m) st) (with_status st.active (Waiting m) st (C.stack_out ns m h) k))

  entered_if : (t : Bool) (u : Status Frames) (n : ℕ) (v : Value) (m : Frames) (st : Store Frames) → NamedValue v → NamedStack m → K st
      → G (S.entered_if flat t u n v m st)
  entered_if t Exhausted n v m st a h k = (h, k)
  entered_if true Fresh n v m st a h k = ((plain v a, h), k)
  entered_if true Active n v m st a h k = ((plain v a, h), k)
  entered_if true (Waiting b) n v m st a h k = ((plain v a, h), k)
  entered_if false Fresh n v m st a h k = entered_by n v m st a h k
  entered_if false Active n v m st a h k = entered_by n v m st a h k
  entered_if false (Waiting b) n v m st a h k = entered_by n v m st a h k

  activation : (v to : Value) (m : Frames) (st : Store Frames) → NamedValue v → NamedValue to → NamedStack m → K st → G (S.activation flat v to m st)
  activation v (ACoexp n) m st a b h k = entered_if (n == st.active) (S.status_of n st) n v m st a h k
  activation v Null m st a b h k = erred 118 (Some Null) m st (b, refl) h k
  activation v (Integer n) m st a b h k = erred 118 (Some (Integer n)) m st (b, refl) h k
  activation v (Text t) m st a b h k = erred 118 (Some (Text t)) m st (b, refl) h k
  activation v (Chars c) m st a b h k = erred 118 (Some (Chars c)) m st (b, refl) h k
  activation v (Std f) m st a b h k = erred 118 (Some (Std f)) m st (b, refl) h k
  activation v (ProcedureValue n) m st a b h k = erred 118 (Some (ProcedureValue n)) m st (b, refl) h k
  activation v (ARecord n) m st a b h k = erred 118 (Some (ARecord n)) m st (b, refl) h k
  activation v (AList n) m st a b h k = erred 118 (Some (AList n)) m st (b, refl) h k
  activation v (ASet n) m st a b h k = erred 118 (Some (ASet n)) m st (b, refl) h k
  activation v (ATable n) m st a b h k = erred 118 (Some (ATable n)) m st (b, refl) h k

  -- Procedures

  pub nulls : (n : ℕ) → Each NamedValue (replicate n Null)
  nulls n = each_replicate NamedValue n Null tt

  filled : (n : ℕ) (vs : List Value) → Each NamedValue vs → Each NamedValue (S.fill_nulls n vs)
  filled n vs h = each_take NamedValue n (vs ++ replicate n Null) (each_append NamedValue vs (replicate n Null) h (nulls n))

  pub collected : (t : Bool) (n : ℕ) (vs : List Value) (m : Frames) (st : Store Frames) (go : List Value → Frames → Store Frames → State Frames Frames)
      → Each NamedValue vs → NamedStack m → K st → ((vs : List Value) (m : Frames) (s : Store Frames) → Each NamedValue vs → NamedStack m → K s → G (go vs m s))
      → G (S.collect_rest flat t n vs m st go)
  collected false n vs m st go a h k f = f (S.fill_nulls n vs) m st (filled n vs a) h k
  collected true n vs m st go a h k f =
      list_made (drop (n - 1) vs) m st (λ rest m st. go (S.fill_nulls (n - 1) vs ++ rest ∷ []) m st) (each_drop NamedValue (n - 1) vs a) h k
      (λ rest m st b h k.
      f (S.fill_nulls (n - 1) vs ++ rest ∷ []) m st (each_append NamedValue (S.fill_nulls (n - 1) vs) (rest ∷ []) (filled (n - 1) vs a) (b, tt)) h k)

  entered : (n : ℕ) (entry : Procedure) (vs : List Value) (m : Frames) (st : Store Frames) → Each NamedValue vs → NamedStack m → K st
      → G (S.enter_procedure flat n entry vs m st)
  entered n entry vs m st a h k =
      (C.enter ns n (vs ++ replicate entry.locals Null) m (each_append NamedValue vs (replicate entry.locals Null) a (nulls entry.locals)) h, k)

  called_if : (t : Bool) (n : ℕ) (entry : Procedure) (vs : List Value) (m : Frames) (st : Store Frames) → Each NamedValue vs → NamedStack m → K st
      → G (S.called_if flat t n entry vs m st)
  called_if true n entry vs m st a h k = collected entry.collects entry.parameters vs m st
      (λ parameters m st. S.enter_procedure flat n entry parameters m st) a h k (λ vs m st a h k. entered n entry vs m st a h k)
  called_if false n entry vs m st a h k = erred 301 None m st (tt, refl) h k

  constructed : (n : ℕ) (entry : RecordType) (vs : List Value) (m : Frames) (st : Store Frames) → n < length ns.records → Each NamedValue vs → NamedStack m
      → K st
      → G (S.construct_record flat n entry vs m st)
  constructed n entry vs m st l a h k =
      let fs = S.fill_nulls (length entry.fields) vs in
      made (record_row n fs (S.here flat m st)) m st (λ value m st. S.push_item flat (Val value) m st)
      (rows.records ns n fs (S.here flat m st) (here m st h k) l (all_of NamedValue fs (filled (length entry.fields) vs a))) h k
      (λ v m s n h k. ((plain v n, h), k))

  pushed_or_fails : (o : Option Item) (m : Frames) (st : Store Frames) → IfThere X o → NamedStack m → K st → G (S.pushed_or_fails flat o m st)
  pushed_or_fails (Some x) m st n h k = ((n, h), k)
  pushed_or_fails None m st n h k = (h, k)

  argument : (o : Option ℕ) (xs : List Item) → Each X xs → IfThere X (S.argument_at o xs)
  argument None xs h = tt
  argument (Some zero) xs h = tt
  argument (Some (suc n)) xs h = each_get X xs n h

  -- a callee that is a record is one of the tables
  abbrev Within : ℕ → Callee → Type 0
  Within n (IsRecord kind entry) = kind < n
  Within n (IsProc entry) = Unit {0}
  Within n (IsFunc func) = Unit {0}
  Within n IsNothing = Unit {0}

  func_within : (n : ℕ) (o : Option Func) → Within n (S.func_callee o)
  func_within n (Some f) = tt
  func_within n None = tt

  among : (n kind all : ℕ) (es : List RecordType) → kind + length es ≡ all → Within all (S.record_among n kind es)
  among n kind all [] e = func_within all (func_of (suc n))
  among zero kind all (x ∷ es) e = omega (arith, e)
  among (suc n) kind all (x ∷ es) e = among n (suc kind) all es (omega (arith, e))

  callees : (n : ℕ) (ps : List Procedure) (es : List RecordType) → Within (length es) (S.callee_among n ps es)
  callees n [] es = among n zero (length es) es (omega arith)
  callees zero (p ∷ ps) es = tt
  callees (suc n) (p ∷ ps) es = callees n ps es

  named_records : length ns.records ≡ length P.records
  named_records = mapped P.records
    where
      mapped : (es : List RecordType) → length (map (S.record_name P) es) ≡ length es
      mapped [] = refl
      mapped (e ∷ es) = ap (λ (n : ℕ). suc n) (mapped es)

  callee_called : (c : Callee) (n : ℕ) (xs : List Item) (m : Frames) (st : Store Frames) → Within (length P.records) c
      → ((func : Func) → c ≡ IsFunc func → OutcomeNamed ns (apply st.names (Function func) xs (S.here flat m st)))
      → NamedValue (ProcedureValue n) → Each X xs → NamedStack m → K st → G (S.callee_called flat c n xs m st)
  callee_called (IsProc entry) n xs m st w f b a h k = values xs m st (λ arguments. S.call_procedure flat n entry arguments m st) a h k
      (λ vs b. called_if (nat_le (suc (flats.level m)) st.world.heap.bounds.levels) n entry vs m st b h k)
  callee_called (IsRecord kind entry) n xs m st w f b a h k =
      values xs m st (λ arguments. S.construct_record flat kind entry arguments m st) a h k
      (λ vs b. constructed kind entry vs m st (subst (λ (j : ℕ). kind < j) (sym named_records) w) b h k)
  callee_called (IsFunc func) n xs m st w f b a h k = outcome (apply st.names (Function func) xs (S.here flat m st)) m st (f func refl) h k
  callee_called IsNothing n xs m st w f b a h k = erred 106 (Some (ProcedureValue n)) m st (b, refl) h k

  named_called : (f : Value) (o : Option ℕ) (xs : List Item) (m : Frames) (st : Store Frames)
      → ((n : ℕ) (func : Func) → o ≡ Some n → S.callee_of P n ≡ IsFunc func → OutcomeNamed ns (apply st.names (Function func) xs (S.here flat m st)))
      → ((n : ℕ) → o ≡ Some n → NamedValue (ProcedureValue n)) → NamedValue f → Each X xs → NamedStack m → K st
      → G (S.named_called flat P f o xs m st)
  named_called f (Some n) xs m st w v b a h k =
      callee_called (S.callee_of P n) n xs m st (callees n P.procs P.records) (λ func e. w n func refl e) (v n refl) a h k
  named_called f None xs m st w v b a h k = erred 106 (Some f) m st (b, refl) h k

  integer_called : (f : Value) (o : Option ℤ) (xs : List Item) (m : Frames) (st : Store Frames) → number_of f ≡ o → FunctionNamed P f xs m st
      → CalleeNamed P f st → NamedValue f → Each X xs → NamedStack m → K st → G (S.integer_called flat P f o xs m st)
  integer_called f (Some n) xs m st e w v b a h k = pushed_or_fails (S.choose_item n xs) m st (argument _ xs a) h k
  integer_called f None xs m st e w v b a h k = named_called f (named_by st.names f) xs m st
      (λ n func i c. w n func (named_is st.names f n e i) c) (λ n i. v n (name_is st.names f n e i)) b a h k

  invoked : (f : Value) (xs : List Item) (m : Frames) (st : Store Frames) → FunctionNamed P f xs m st → CalleeNamed P f st → NamedValue f → Each X xs
      → NamedStack m → K st → G (S.invoke_value flat P f xs m st)
  invoked (ProcedureValue n) xs m st w v b a h k =
      callee_called (S.callee_of P n) n xs m st (callees n P.procs P.records) (λ func e. w n func refl e) b a h k
  invoked Null xs m st w v b a h k = integer_called Null (number_of Null) xs m st refl w v b a h k
  invoked (Integer n) xs m st w v b a h k = integer_called (Integer n) (number_of (Integer n)) xs m st refl w v b a h k
  invoked (Text t) xs m st w v b a h k = integer_called (Text t) (number_of (Text t)) xs m st refl w v b a h k
  invoked (Chars c) xs m st w v b a h k = integer_called (Chars c) (number_of (Chars c)) xs m st refl w v b a h k
  invoked (Std c) xs m st w v b a h k = integer_called (Std c) (number_of (Std c)) xs m st refl w v b a h k
  invoked (ARecord n) xs m st w v b a h k = integer_called (ARecord n) (number_of (ARecord n)) xs m st refl w v b a h k
  invoked (AList n) xs m st w v b a h k = integer_called (AList n) (number_of (AList n)) xs m st refl w v b a h k
  invoked (ASet n) xs m st w v b a h k = integer_called (ASet n) (number_of (ASet n)) xs m st refl w v b a h k
  invoked (ATable n) xs m st w v b a h k = integer_called (ATable n) (number_of (ATable n)) xs m st refl w v b a h k
  invoked (ACoexp n) xs m st w v b a h k = integer_called (ACoexp n) (number_of (ACoexp n)) xs m st refl w v b a h k

  field_taken : (o : Option ℕ) (n : ℕ) (m : Frames) (st : Store Frames) → NamedStack m → K st → G (S.field_taken flat o n m st)
  field_taken (Some place) n m st h k = ((record { named = tt }, h), k)
  field_taken None n m st h k = erred 207 (Some (ARecord n)) m st (tt, refl) h k

  field_of : (field : ℕ) (v : Value) (m : Frames) (st : Store Frames) → NamedValue v → NamedStack m → K st → G (S.field_of flat P field v m st)
  field_of field (ARecord n) m st a h k = field_taken _ n m st h k
  field_of field Null m st a h k = erred 107 (Some Null) m st (a, refl) h k
  field_of field (Integer n) m st a h k = erred 107 (Some (Integer n)) m st (a, refl) h k
  field_of field (Text t) m st a h k = erred 107 (Some (Text t)) m st (a, refl) h k
  field_of field (Chars c) m st a h k = erred 107 (Some (Chars c)) m st (a, refl) h k
  field_of field (Std f) m st a h k = erred 107 (Some (Std f)) m st (a, refl) h k
  field_of field (ProcedureValue n) m st a h k = erred 107 (Some (ProcedureValue n)) m st (a, refl) h k
  field_of field (AList n) m st a h k = erred 107 (Some (AList n)) m st (a, refl) h k
  field_of field (ASet n) m st a h k = erred 107 (Some (ASet n)) m st (a, refl) h k
  field_of field (ATable n) m st a h k = erred 107 (Some (ATable n)) m st (a, refl) h k
  field_of field (ACoexp n) m st a h k = erred 107 (Some (ACoexp n)) m st (a, refl) h k

  result : (x : Item) (m : Frames) (st : Store Frames) (go : Item → State Frames Frames) → X x → NamedStack m → K st → ((x : Item) → X x → G (go x))
      → G (S.with_result flat x m st go)
  result (Val v) m st go n h k f = f (Val v) n
  result (Var (Whole (Local j))) m st go n h k f = value (Var (Whole (Local j))) m st (λ v. go (Val v)) n h k (λ v a. f (Val v) (plain v a))
  result (Var (Part (Local j) place size)) m st go n h k f = value (Var (Part (Local j) place size)) m st (λ v. go (Val v)) n h k (λ v a. f (Val v) (plain v a))
  result (Var (Whole (Global j))) m st go n h k f = f _ n
  result (Var (Whole (Static j))) m st go n h k f = f _ n
  result (Var (Whole (Element l j))) m st go n h k f = f _ n
  result (Var (Whole (Field r j))) m st go n h k f = f _ n
  result (Var (Whole (Key t v))) m st go n h k f = f _ n
  result (Var (Whole (Keyword w))) m st go n h k f = f _ n
  result (Var (Part (Global j) place size)) m st go n h k f = f _ n
  result (Var (Part (Static j) place size)) m st go n h k f = f _ n
  result (Var (Part (Element l j) place size)) m st go n h k f = f _ n
  result (Var (Part (Field r j) place size)) m st go n h k f = f _ n
  result (Var (Part (Key t v) place size)) m st go n h k f = f _ n
  result (Var (Part (Keyword w) place size)) m st go n h k f = f _ n

  finished : (t : Bool) (st : Store Frames) → G (if t then S.over_with Done st.world st.outside else stuck)
  finished true st = tt
  finished false st = tt

  returned : (o : Option Frames) (go : Frames → Store Frames → State Frames Frames) (st : Store Frames) → IfThere NamedStack o → K st
      → ((m : Frames) (s : Store Frames) → NamedStack m → K s → G (go m s)) → G (S.return_to o go st)
  returned (Some m) go st h k f = f m st h k
  returned None go st h k f = finished (S.is_main st.active) st

  proc_fails : (m : Frames) (st : Store Frames) → NamedStack m → K st → G (S.proc_fails flat m st)
  proc_fails m st h k = returned (flats.leave m) failing (S.all_left flat m st) (C.leave ns m h) (all_left m st k) (λ m s h k. (h, k))

  -- Failing

  either : (t : Bool) (x y : State Frames Frames) → G x → G y → G (if t then x else y)
  either true x y f g = f
  either false x y f g = g

  without_mark : (m : Frames) (st : Store Frames) → NamedStack m → K st → G (S.without_mark flat P m st)
  without_mark m st h k = either (S.is_create_body flat m st) (S.exhaust_active flat P m st) (S.proc_fails flat m st) (exhausted m st k) (proc_fails m st h k)

  dropped : (m : Frames) (st : Store Frames) (d : MarkDrop Frames) → C.Drops ns d → NamedStack m → K st → G (S.mark_dropped flat P m st d)
  dropped m st NoMark n h k = without_mark m st h k
  dropped m st (Goes a) n h k = (n, k)
  dropped m st (Repeats a) n h k = turn st (running a) k (λ s k. (n, k))
  dropped m st (WithoutLabel a) n h k = (n, k)

  resumed : (why : Why) (m : Frames) (st : Store Frames) → WhyNamed ns why → NamedStack m → K st → G (S.resume_by flat P why m st)
  resumed Alt m st w h k = (h, k)
  resumed (Operating r) m st w h k = turn st (λ st. S.outcome flat (again r (S.here flat m st)) m st) k
      (λ st k. outcome (again r (S.here flat m st)) m st (rows.resumed ns r (S.here flat m st) (here m st h k) w) h k)
  resumed (Scan pair) m st w h k = (h, with_pair pair st k)
  resumed Escan m st w h k = exchanged (flats.swap_newest (S.pair_now st) m) failing st (C.swap_newest ns (S.pair_now st) m h) k (λ m s h k. (h, k))
  resumed Proc m st w h k = turn st (λ st. S.maybe_exchanged (flats.swap_oldest (S.pair_now st) m) m st running) k
      (λ st k. maybe_exchanged (flats.swap_oldest (S.pair_now st) m) m st running (C.swap_oldest ns (S.pair_now st) m h) h k (λ m s h k. (h, k)))

  back_or_dropped : (m : Frames) (st : Store Frames) (o : Option (Why × Frames)) → IfThere (C.NamedAndStack ns (WhyNamed ns)) o → NamedStack m → K st
      → G (S.resumed_or_dropped flat P m st o)
  back_or_dropped m st None n h k = dropped m st (flats.drop_mark m) (C.drop_mark ns m h) h k
  back_or_dropped m st (Some x) n h k = resumed x.0 x.1 st n.0 n.1 k

  fails : (m : Frames) (st : Store Frames) → NamedStack m → K st → G (S.fails flat P m st)
  fails m st h k = back_or_dropped m st (flats.resume m) (C.resume ns m h) h k

  -- Instructions

  popped : (m : Frames) (go : Item → Frames → State Frames Frames) → NamedStack m → ((x : Item) (m : Frames) → X x → NamedStack m → G (go x m))
      → G (S.with_popped flat m go)
  popped m go h f = found (C.NamedAndStack ns X) (flats.pop m) (S.on_pair go) (C.pop ns m h) (λ x n. f x.0 x.1 n.0 n.1)

  taken : (n : ℕ) (m : Frames) (go : List Item → Frames → State Frames Frames) → NamedStack m
      → ((xs : List Item) (m : Frames) → Each X xs → NamedStack m → G (go xs m))
      → G (S.with_taken flat n m go)
  taken n m go h f = found (C.NamedAndStack ns (Each X)) (flats.take n m) (S.on_pair go) (C.take_items ns n m h) (λ x n. f x.0 x.1 n.0 n.1)

  limited : (v : Value) (o : Option ℤ) (m : Frames) (st : Store Frames) → NamedValue v → NamedStack m → K st → G (S.limit_results flat v o m st)
  limited v None m st a h k = erred 101 (Some v) m st (a, refl) h k
  limited v (Some (negsuc n)) m st a h k = erred 205 (Some v) m st (a, refl) h k
  limited v (Some (pos zero)) m st a h k = (h, k)
  limited v (Some (pos (suc n))) m st a h k = ((tt, h), k)

  limited_result : (x : Item) (n : ℕ) (m : Frames) (st : Store Frames) → X x → NamedStack m → K st → G (S.limited_result flat x n m st)
  limited_result x zero m st a h k = unmarked m st (S.push_item flat x) h k (λ m s h k. ((a, h), k))
  limited_result x (suc n) m st a h k =
      found NamedStack (flats.suspend_mark m) (λ after. S.push_item flat x after st) (C.suspend_mark ns m h) (λ m h. ((a, h), k))

  scan_opened : (v : Value) (m : Frames) (st : Store Frames) → NamedStack m → K st → G (S.scan_opened flat v m st)
  scan_opened (Text text) m st h k = (C.suspend ns (Scan (S.pair_now st)) m tt h, with_pair (record { subject = text; position = 1 }) st k)
  scan_opened Null m st h k = (h, k)
  scan_opened (Integer n) m st h k = (h, k)
  scan_opened (Chars c) m st h k = (h, k)
  scan_opened (Std f) m st h k = (h, k)
  scan_opened (ProcedureValue n) m st h k = (h, k)
  scan_opened (ARecord n) m st h k = (h, k)
  scan_opened (AList n) m st h k = (h, k)
  scan_opened (ASet n) m st h k = (h, k)
  scan_opened (ATable n) m st h k = (h, k)
  scan_opened (ACoexp n) m st h k = (h, k)

  initial : (t : Bool) (l : ℕ) (m : Frames) (st : Store Frames) → NamedStack m → K st → G (S.initial_if flat t l m st)
  initial true l m st h k = (h, k)
  initial false l m st h k = (h, record { world = k.world; coexps = k.coexps })

  activation_of : (xs : List Item) (m : Frames) (st : Store Frames) → Each X xs → NamedStack m → K st → G (S.activation_of flat xs m st)
  activation_of [] m st a h k = tt
  activation_of (x ∷ []) m st a h k = tt
  activation_of (x ∷ y ∷ []) m st a h k = value x m st (λ value. S.with_value flat y m st (λ other. S.activation flat value other m st)) a.0 h k
      (λ v b. value y m st (λ other. S.activation flat v other m st) a.1.0 h k (λ to c. activation v to m st b c h k))
  activation_of (x ∷ y ∷ z ∷ xs) m st a h k = tt

  operates : (op : Op) (xs : List Item) (m : Frames) (st : Store Frames) → Each X xs → NamedStack m → K st
      → G (S.outcome flat (apply st.names (Operation op) xs (S.here flat m st)) m st)
  operates op xs m st a h k =
      outcome (apply st.names (Operation op) xs (S.here flat m st)) m st (rows.operations ns op xs (S.here flat m st) (here m st h k) (all_of X xs a)) h k

  field_applied : (field : ℕ) (xs : List Item) (m : Frames) (st : Store Frames) → Each X xs → NamedStack m → K st → G (S.field_applied flat P field xs m st)
  field_applied field (x ∷ xs) m st a h k = value x m st (λ value. S.field_of flat P field value m st) a.0 h k (λ v b. field_of field v m st b h k)
  field_applied field [] m st a h k = tt

  number_named : (o : Option KeptError) → IfThere X (kept_number o)
  number_named None = tt
  number_named (Some error) = plain _ tt

  option_named : (v : Option Value) → OptionNamed ns v → IfThere X (option_map Val v)
  option_named None a = tt
  option_named (Some v) a = plain v a

  value_kept : (o : Option KeptError) → KeptNamed ns o → IfThere X (kept_value o)
  value_kept None a = tt
  value_kept (Some error) a = option_named error.value a.0

  text_named : (o : Option KeptError) → IfThere X (kept_text o)
  text_named None = tt
  text_named (Some error) = plain _ tt

  keyword : (s : Standing) (w : AnyKeyword) → KeptNamed ns s.kept → IfThere X (keyword_item s w)
  keyword s Keywords.Ascii e = plain _ tt
  keyword s Keywords.Cset e = plain _ tt
  keyword s Keywords.Current e = plain _ tt
  keyword s Keywords.Digits e = plain _ tt
  keyword s Keywords.Errout e = plain _ tt
  keyword s Keywords.Fail e = tt
  keyword s Keywords.Input e = plain _ tt
  keyword s Keywords.Lcase e = plain _ tt
  keyword s Keywords.Letters e = plain _ tt
  keyword s Keywords.Level e = plain _ tt
  keyword s Keywords.Main e = plain _ tt
  keyword s Keywords.Null e = plain _ tt
  keyword s Keywords.Output e = plain _ tt
  keyword s Keywords.Pos e = record { named = tt }
  keyword s Keywords.Random e = record { named = tt }
  keyword s Keywords.Source e = plain _ tt
  keyword s Keywords.Subject e = record { named = tt }
  keyword s Keywords.Ucase e = plain _ tt
  keyword s Keywords.Error e = record { named = tt }
  keyword s Keywords.ErrorNumber e = number_named s.kept
  keyword s Keywords.ErrorValue e = value_kept s.kept e
  keyword s Keywords.ErrorText e = text_named s.kept

  operated : (op : Op) (xs : List Item) (m : Frames) (st : Store Frames) → Each X xs → NamedStack m → K st → G (S.operate flat op xs m st)
  operated Ops.IsNull xs m st a h k = operates Ops.IsNull xs m st a h k
  operated Ops.IsNotNull xs m st a h k = operates Ops.IsNotNull xs m st a h k
  operated Ops.Dereference xs m st a h k = operates Ops.Dereference xs m st a h k
  operated Ops.Number xs m st a h k = operates Ops.Number xs m st a h k
  operated Ops.Negate xs m st a h k = operates Ops.Negate xs m st a h k
  operated Ops.Size xs m st a h k = operates Ops.Size xs m st a h k
  operated Ops.Complement xs m st a h k = operates Ops.Complement xs m st a h k
  operated Ops.Elements xs m st a h k = operates Ops.Elements xs m st a h k
  operated Ops.Random xs m st a h k = operates Ops.Random xs m st a h k
  operated Ops.TabMatch xs m st a h k = operates Ops.TabMatch xs m st a h k
  operated Ops.Refresh [] m st a h k = operates Ops.Refresh [] m st a h k
  operated Ops.Refresh (x ∷ xs) m st a h k = value x m st (λ value. S.refresh flat value m st) a.0 h k (λ v b. refreshed v m st b h k)
  operated Ops.Add xs m st a h k = operates Ops.Add xs m st a h k
  operated Ops.Subtract xs m st a h k = operates Ops.Subtract xs m st a h k
  operated Ops.Multiply xs m st a h k = operates Ops.Multiply xs m st a h k
  operated Ops.Divide xs m st a h k = operates Ops.Divide xs m st a h k
  operated Ops.Remainder xs m st a h k = operates Ops.Remainder xs m st a h k
  operated Ops.Power xs m st a h k = operates Ops.Power xs m st a h k
  operated Ops.Less xs m st a h k = operates Ops.Less xs m st a h k
  operated Ops.LessOrEqual xs m st a h k = operates Ops.LessOrEqual xs m st a h k
  operated Ops.Equal xs m st a h k = operates Ops.Equal xs m st a h k
  operated Ops.GreaterOrEqual xs m st a h k = operates Ops.GreaterOrEqual xs m st a h k
  operated Ops.Greater xs m st a h k = operates Ops.Greater xs m st a h k
  operated Ops.NotEqual xs m st a h k = operates Ops.NotEqual xs m st a h k
  operated Ops.LexicallyLess xs m st a h k = operates Ops.LexicallyLess xs m st a h k
  operated Ops.LexicallyLessOrEqual xs m st a h k = operates Ops.LexicallyLessOrEqual xs m st a h k
  operated Ops.LexicallyEqual xs m st a h k = operates Ops.LexicallyEqual xs m st a h k
  operated Ops.LexicallyGreaterOrEqual xs m st a h k = operates Ops.LexicallyGreaterOrEqual xs m st a h k
  operated Ops.LexicallyGreater xs m st a h k = operates Ops.LexicallyGreater xs m st a h k
  operated Ops.LexicallyNotEqual xs m st a h k = operates Ops.LexicallyNotEqual xs m st a h k
  operated Ops.Equivalent xs m st a h k = operates Ops.Equivalent xs m st a h k
  operated Ops.NotEquivalent xs m st a h k = operates Ops.NotEquivalent xs m st a h k
  operated Ops.Concatenate xs m st a h k = operates Ops.Concatenate xs m st a h k
  operated Ops.ConcatenateLists xs m st a h k = operates Ops.ConcatenateLists xs m st a h k
  operated Ops.Union xs m st a h k = operates Ops.Union xs m st a h k
  operated Ops.Difference xs m st a h k = operates Ops.Difference xs m st a h k
  operated Ops.Intersection xs m st a h k = operates Ops.Intersection xs m st a h k
  operated Ops.Assign xs m st a h k = operates Ops.Assign xs m st a h k
  operated Ops.Swap xs m st a h k = operates Ops.Swap xs m st a h k
  operated Ops.ReversibleAssign xs m st a h k = operates Ops.ReversibleAssign xs m st a h k
  operated Ops.ReversibleSwap xs m st a h k = operates Ops.ReversibleSwap xs m st a h k
  operated Ops.Subscript xs m st a h k = operates Ops.Subscript xs m st a h k
  operated Ops.Section xs m st a h k = operates Ops.Section xs m st a h k
  operated Ops.SectionPlus xs m st a h k = operates Ops.SectionPlus xs m st a h k
  operated Ops.SectionMinus xs m st a h k = operates Ops.SectionMinus xs m st a h k
  operated Ops.ToBy xs m st a h k = operates Ops.ToBy xs m st a h k

  instruction : (i : Instr) (m : Frames) (st : Store Frames) → (MayCall i → ⊥) → NamedStack m → K st → G (S.instruction flat P i m st)
  instruction I.Pnull m st d h k = ((plain Null tt, h), k)
  instruction (I.Int n) m st d h k = any (slice_get P.integers n) (λ n. S.push_item flat (Val (Integer n)) m st) (λ x. ((plain (Integer x) tt, h), k))
  instruction (I.Str n) m st d h k = any (slice_get P.strings n) (λ bytes. S.push_item flat (Val (Text bytes)) m st) (λ x. ((plain (Text x) tt, h), k))
  instruction (I.Cset n) m st d h k =
      any (slice_get P.csets n) (λ set. S.push_item flat (Val (Chars (S.members_of set))) m st) (λ x. ((plain (Chars (S.members_of x)) tt, h), k))
  instruction (I.Local n) m st d h k = ((record { named = tt }, h), k)
  instruction (I.Static n) m st d h k = ((record { named = tt }, h), k)
  instruction (I.Global n) m st d h k = ((record { named = tt }, h), k)
  instruction (I.Keywd word) m st d h k =
      pushed_or_fails (keyword_item (S.standing_of flat m st) word) m st (keyword (S.standing_of flat m st) word k.world.kept) h k
  instruction I.Pop m st d h k = popped m (λ item m. running m st) h (λ x m a h. (h, k))
  instruction I.Dup m st d h k = popped m (λ item below. S.push_item flat item m st) h (λ x b a g. ((a, h), k))
  instruction (I.Op op) m st d h k = taken (arity op) m (λ items m. S.turn P st (S.operate flat op items m)) h
      (λ xs m a h. turn st (S.operate flat op xs m) k (λ st k. operated op xs m st a h k))
  instruction (I.Llist n) m st d h k = taken n m
      (λ items m. S.turn P st (λ st. S.with_values flat items m st (λ values. S.list_made flat values m st (λ list m st. S.push_item flat (Val list) m st)))) h
      (λ xs m a h. turn st (λ st. S.with_values flat xs m st (λ values. S.list_made flat values m st (λ list m st. S.push_item flat (Val list) m st))) k
      (λ st k. values xs m st (λ values. S.list_made flat values m st (λ list m st. S.push_item flat (Val list) m st)) a h k
      (λ vs b. list_made vs m st (λ list m st. S.push_item flat (Val list) m st) b h k (λ v m s c h k. ((plain v c, h), k)))))
  instruction (I.Field n) m st d h k = taken 1 m (λ items m. S.turn P st (S.field_applied flat P n items m)) h
      (λ xs m a h. turn st (S.field_applied flat P n xs m) k (λ st k. field_applied n xs m st a h k))
  instruction (I.Invoke n) m st d h k = absurd (d tt)
  instruction I.Appl m st d h k = absurd (d tt)
  instruction (I.Mark l) m st d h k = ((tt, h), k)
  instruction I.Mark0 m st d h k = ((tt, h), k)
  instruction I.Unmark m st d h k = unmarked m st running h k (λ m s h k. (h, k))
  instruction I.Eret m st d h k = popped m (λ item m. S.with_value flat item m st (λ value. S.unmark_then flat m st (S.push_item flat (Val value)))) h
      (λ x m a h. value x m st (λ value. S.unmark_then flat m st (S.push_item flat (Val value))) a h k
      (λ v b. unmarked m st (S.push_item flat (Val v)) h k (λ m s h k. ((plain v b, h), k))))
  instruction I.Esusp m st d h k = popped m (λ item m. S.with_found (flats.suspend_mark m) (λ m. S.push_item flat item m st)) h
      (λ x m a h. found NamedStack (flats.suspend_mark m) (λ m. S.push_item flat x m st) (C.suspend_mark ns m h) (λ m h. ((a, h), k)))
  instruction I.Limit m st d h k = popped m (λ item m. S.with_value flat item m st (λ value. S.limit_results flat value (integer_of value) m st)) h
      (λ x m a h. value x m st (λ value. S.limit_results flat value (integer_of value) m st) a h k (λ v b. limited v (integer_of v) m st b h k))
  instruction I.Lsusp m st d h k = popped m (λ item m. S.with_found (flats.count_down m) (S.on_pair (λ count m. S.limited_result flat item count m st))) h
      (λ x m a h.
      found (C.NamedAndStack ns (C.Counted ns)) (flats.count_down m) (S.on_pair (λ count m. S.limited_result flat x count m st)) (C.count_down ns m h)
      (λ y n. limited_result x y.0 y.1 st a n.1 k))
  instruction I.Efail m st d h k = (h, k)
  instruction (I.Chfail l) m st d h k = found NamedStack (flats.relabel l m) (λ m. running m st) (C.relabel ns l m h) (λ m h. (h, k))
  instruction (I.Goto l) m st d h k = (h, k)
  instruction (I.Loop l) m st d h k = turn st (running (flats.go l m)) k (λ s k. (h, k))
  instruction I.Bscan m st d h k =
      popped m (λ item m. S.with_value flat item m st (λ value. S.with_made flat (text_row value (S.here flat m st)) m st (S.scan_opened flat))) h
      (λ x m a h. value x m st (λ value. S.with_made flat (text_row value (S.here flat m st)) m st (S.scan_opened flat)) a h k
      (λ v b. made (text_row v (S.here flat m st)) m st (S.scan_opened flat) (rows.texts ns v (S.here flat m st) (here m st h k) b) h k
      (λ v m s c h k. scan_opened v m s h k)))
  instruction I.Escan m st d h k =
      popped m (λ item m. S.with_exchange (flats.swap_newest (S.pair_now st) m) (λ m. S.push_item flat item (flats.suspend Escan m)) st) h
      (λ x m a h. exchanged (flats.swap_newest (S.pair_now st) m) (λ m. S.push_item flat x (flats.suspend Escan m)) st (C.swap_newest ns (S.pair_now st) m h) k
      (λ m s h k. ((a, C.suspend ns Escan m tt h), k)))
  instruction I.Ccase m st d h k = found X (flats.below m) (λ item. S.push_item flat item m st) (C.below ns m h) (λ x a. ((a, h), k))
  instruction (I.Init l) m st d h k = initial (slice_index_or st.begun (flats.proc m) true) l m st h k
  instruction I.Psusp m st d h k = popped m (λ item below. S.with_result flat item m st
      (λ result. S.maybe_exchanged (flats.swap_oldest (S.pair_now st) m) m st (λ m. S.return_to (flats.suspend_proc m) (S.push_item flat result)))) h
      (λ x below a g. result x m st
      (λ result. S.maybe_exchanged (flats.swap_oldest (S.pair_now st) m) m st (λ m. S.return_to (flats.suspend_proc m) (S.push_item flat result))) a h k
      (λ x b. maybe_exchanged (flats.swap_oldest (S.pair_now st) m) m st (λ m. S.return_to (flats.suspend_proc m) (S.push_item flat x))
      (C.swap_oldest ns (S.pair_now st) m h) h k
      (λ m s h k. returned (flats.suspend_proc m) (S.push_item flat x) s (C.suspend_proc ns m h) k (λ m s h k. ((b, h), k)))))
  instruction I.Pret m st d h k =
      popped m (λ item m. S.with_result flat item m st (λ result. S.return_to (flats.leave m) (S.push_item flat result) (S.all_left flat m st))) h
      (λ x m a h. result x m st (λ result. S.return_to (flats.leave m) (S.push_item flat result) (S.all_left flat m st)) a h k
      (λ x b. returned (flats.leave m) (S.push_item flat x) (S.all_left flat m st) (C.leave ns m h) (all_left m st k) (λ m s h k. ((b, h), k))))
  instruction I.Pfail m st d h k = either (S.is_create_body flat m st) stuck (S.proc_fails flat m st) tt (proc_fails m st h k)
  instruction (I.Create l) m st d h k = turn st (S.coexp_made flat (flats.locals m) (flats.proc m) m.address (flats.go l m)) k
      (λ st k. coexp_made (flats.locals m) (flats.proc m) m.address (flats.go l m) st (C.locals ns m h) h k)
  instruction I.Coact m st d h k = taken 2 m (λ items m. S.turn P st (S.activation_of flat items m)) h
      (λ xs m a h. turn st (S.activation_of flat xs m) k (λ st k. activation_of xs m st a h k))
  instruction I.Coret m st d h k = either (S.is_create_body flat m st)
      (S.with_popped flat m (λ item m. S.turn P st (λ st. S.with_value flat item m st (λ value. S.result_given flat value m st)))) stuck
      (popped m (λ item m. S.turn P st (λ st. S.with_value flat item m st (λ value. S.result_given flat value m st))) h
      (λ x m a h. turn st (λ st. S.with_value flat x m st (λ value. S.result_given flat value m st)) k
      (λ st k. value x m st (λ value. S.result_given flat value m st) a h k (λ v b. result_given v m st b h k)))) tt
  instruction I.Cofail m st d h k = either (S.is_create_body flat m st) (S.exhaust_active flat P m st) stuck (exhausted m st k) tt

  -- The law

  store_in : (st : Store Frames) → StoreNamed ns st → K st
  store_in st k = record { world = k.world; coexps = each_of (CoexpNamed ns) st.coexps k.coexps }

  store_out : (st : Store Frames) → K st → StoreNamed ns st
  store_out st k = record { world = k.world; coexps = all_of (CoexpNamed ns) st.coexps k.coexps }

  state_in : (s : State Frames Frames) → StateNamed ns s → G s
  state_in (running m st) h = (C.stack_in ns m h.0, store_in st h.1)
  state_in (failing m st) h = (C.stack_in ns m h.0, store_in st h.1)
  state_in (hopping m st) h = store_in st h
  state_in (over ending outside) h = tt
  state_in stuck h = tt

  pub state_out : (s : State Frames Frames) → G s → StateNamed ns s
  state_out (running m st) h = (C.stack_out ns m h.0, store_out st h.1)
  state_out (failing m st) h = (C.stack_out ns m h.0, store_out st h.1)
  state_out (hopping m st) h = store_out st h
  state_out (over ending outside) h = tt
  state_out stuck h = tt

pub steps_named : RowsKeepNames → StepsKeepNames
steps_named rows = record {
  instructions = λ P i m st d h k. state_out rows P _ (instruction rows P i m st d (C.stack_in (S.all_names P) m h) (store_in rows P st k));
  failing = λ P m st h k. state_out rows P _ (fails rows P m st (C.stack_in (S.all_names P) m h) (store_in rows P st k));
  hops = λ P m st k. state_out rows P _ (hop rows P m st (store_in rows P st k));
  outcomes = λ P o m st n h k. state_out rows P _ (outcome rows P o m st n (C.stack_in (S.all_names P) m h) (store_in rows P st k));
  values = λ P xs m st go a h k f.
      state_out rows P _ (values rows P xs m st go (each_of (ItemNamed (S.all_names P)) xs a) (C.stack_in (S.all_names P) m h) (store_in rows P st k)
      (λ vs b. state_in rows P (go vs) (f vs (all_of (ValueNamed (S.all_names P)) vs b))));
  called = λ P f xs m st n v b a h k.
      state_out rows P _ (invoked rows P f xs m st n v b (each_of (ItemNamed (S.all_names P)) xs a) (C.stack_in (S.all_names P) m h) (store_in rows P st k));
}
