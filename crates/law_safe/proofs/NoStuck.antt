-- No run of verified code is stuck.
use Rattle.std.proofs.Common.{◌≡◌, ℕ, zero, suc, ◌-◌, ◌<◌, Bool, true, false, List, [], ◌∷◌, ◌++◌, length, Option, Some, None, refl, sym, ap, ◌∙◌, subst, arith}
use Rattle.std.specs.Prelude.{slice_get, slice_set, slice_index_or, replicate, drop, not, nat_le}
use Rattle.std.specs.Option.{option_map_or}
use Rattle.icn_code.specs.Codes.{Tables, Proc as Procedure}
use Rattle.icn_verify.specs.Shapes.{PlainShape, start_shape}
use Rattle.icn_verify.specs.Given.{HaveShapes, HasShapes, IsFine}
use Rattle.icn_run.specs.Rows.{Value, Null, Val, Var, Outcome, Fails, Gives, Suspends, Error, Ends, list_row, words_row}
use Rattle.icn_run.specs.Chains.{WaitingChain, LinkedStack, empty}
use Rattle.icn_run.specs.Chains as C
use Rattle.icn_run.specs.Step.{Program, Launch, Store, Coexp, Active, running, failing, hopping, over, stuck, here, with_at, with_made, collect_rest, fill_nulls, begun_if, instruction, instruction_at, instrs_of, step, steps, start_hiding, start_of, first_store_hiding, main_of, static_count, is_main}
use Rattle.icn_run.specs.LinkedStep.{repeats_anywhere}
use Rattle.law_stacks.specs.SameStates.{IsMade}
use Rattle.law_stacks.specs.SecondLaw.{LinkedStuck, FlatStuck}
use Rattle.law_stacks.proofs.CellLists.{some_injective, none_is_not_some}
use Rattle.icn_defs.proofs.OnErrors.{fatal_ends}
use Rattle.icn_run.proofs.Errors.{at_end}
use Rattle.law_stacks.proofs.RowsKeep.{rows_keep}
use Rattle.law_stacks.proofs.SecondLaw.{agrees_everywhere, agrees_where_covered}
use Rattle.law_safe.specs.Within.{Each, ValueWithin, SettingWithin, OutcomeWithin, RowsStayWithin}
use Rattle.law_safe.specs.Shaped.{Knowledge, MemoryOk, MemoryOf, StatusOk, IsEntered, CoexpOk, StoreOk, Safe, KeepsShapes}
use Rattle.law_safe.specs.NoStuck.{TablesOk, IsNeverStuck}
use Rattle.law_safe.specs.StateFacts.{shapes_by, shapes_of}
use Rattle.law_safe.proofs.EachEntry.{each_append, each_replicate, each_drop, entry_there, set_length}
use Rattle.law_safe.proofs.FrameCalls.{with_activation, grow_activation, here_proc}
use Rattle.law_safe.proofs.MarkCalls.{begin_ok}
use Rattle.law_safe.proofs.ChangedStores.{grow_store}
use Rattle.law_safe.proofs.InstructionParts.{linked_machine, LinkedState, Ok, ok_found, ok_runs, Parameters, parameters_locals, filled_within, filled_length, joined_length}
use Rattle.law_safe.proofs.HopSteps.{fails_ok, hop_ok}
use Rattle.law_safe.proofs.InstructionSteps.{instruction_ok}

-- the shapes of all procedures

abbrev Shapes : Option Procedure → Type 0
Shapes o = (proc : Procedure) → o ≡ Some proc → (shapes : ℕ → Option PlainShape) × HasShapes proc.instrs shapes

starts_by : (o : Option Procedure) (f : Shapes o) (x : Procedure) → o ≡ Some x → shapes_by o f 0 ≡ Some (start_shape false)
starts_by None f x e = none_is_not_some x e
starts_by (Some proc) f x e = (f proc refl).1.start

fine_by : (o : Option Procedure) (f : Shapes o) (place : ℕ) (S : PlainShape) → shapes_by o f place ≡ Some S
    → IsFine (option_map_or (λ (entry : Procedure). entry.instrs) o []) (shapes_by o f) place S
fine_by None f place S e = none_is_not_some S e
fine_by (Some proc) f place S e = (f proc refl).1.each place S e

pub shaped : (tables : Tables) (have : HaveShapes tables) → TablesOk tables → KeepsShapes tables (shapes_of tables have)
shaped tables have ok = record {
  collects = ok.collects;
  starts = λ p l. let o = entry_there tables.procs p l in starts_by (slice_get tables.procs p) (have p) o.0 o.1;
  fine = λ p place S e. fine_by (slice_get tables.procs p) (have p) place S e;
}

none_there : {A : Type 0} (xs : List A) (n : ℕ) (d : A) → length xs ≡ 0 → slice_index_or xs n d ≡ d
none_there [] n d e = refl
none_there (x ∷ xs) n d e = absurd (omega (arith, e))

module _ (P : Program) (sh : ℕ → ℕ → Option PlainShape) (given : KeepsShapes P sh) (keep : RowsStayWithin) (tables_ok : TablesOk P) where
  abbrev Good : LinkedState P sh given keep → Type 0
  Good state = Ok P sh given keep state

  pub step_ok : (s : LinkedState P sh given keep) → Good s → Good (step linked_machine P s)
  step_ok (running m st) h =
      let fine : IsFine (instrs_of P h.1) (sh h.1) m.address h.2 = given.fine h.1 m.address h.2 h.4 in
      let next : LinkedStack = linked_machine.go (suc (linked_machine.address m)) m in
      ok_found P sh given keep (instruction_at linked_machine P m) (λ instr. instruction linked_machine P instr next st) fine.instr
      (ap (λ x. slice_get (instrs_of P x) m.address) (here_proc P sh h.0 st.active h.1 h.2 m h.3) ∙ fine.stands)
      (instruction_ok P sh given keep h.0 h.1 h.2 next m.address st
      (record { now = record { has = h.3.has; memory = h.3.memory }; store = h.5 }) refl fine.instr
      fine.fit fine.on fine.onward fine.backward (tables_ok.instrs h.1 m.address fine.instr fine.stands))
  step_ok (failing m st) h = fails_ok P sh given keep h.0 h.1 h.2 m st (record { now = h.3; store = h.4 })
  step_ok (hopping m st) h = hop_ok P sh given keep h.0 m st (record { memory = h.1; store = h.2 })
  step_ok (over ending outside) h = tt
  step_ok stuck h = absurd h

  pub steps_ok : (n : ℕ) (s : LinkedState P sh given keep) → Good s → Good (steps linked_machine P n s)
  steps_ok zero s h = h
  steps_ok (suc n) s h = steps_ok n (step linked_machine P s) (step_ok s h)

  -- The start

  abbrev none_known : Knowledge
  none_known = record { activations = []; flags = []; coexps = 1 }

  -- no stack runs yet
  record Starts (m : LinkedStack) (st : Store WaitingChain) : Type 0 where
    memory : MemoryOf P sh none_known m
    store : StoreOk P sh none_known (λ i. i ≡ st.active) st
    main : st.active ≡ 0

  memory_none : (m : LinkedStack) → MemoryOf P sh none_known m → (n : ℕ) (values : List Value)
      → MemoryOk P sh none_known (slice_set m.activations n values) m.flags m.relabels
  memory_none m h n values = record {
    same_activations = h.same_activations ∙ sym (set_length m.activations n values);
    same_flags = h.same_flags;
    locals = λ a p z. none_is_not_some p z;
    labels = h.labels;
  }

  here_starts : (m : LinkedStack) (st : Store WaitingChain) → Starts m st → SettingWithin 1 (here linked_machine m st)
  here_starts m st h =
      record { world = h.store.world; locals = subst (Each (ValueWithin 1)) (sym (none_there m.activations _ [] (sym h.memory.same_activations))) tt }

  made_starts : (o : Outcome) (m : LinkedStack) (st : Store WaitingChain) (next : Value → LinkedStack → Store WaitingChain → LinkedState P sh given keep)
      → IsMade o
      → OutcomeWithin 1 o
      → Starts m st → ((v : Value) (a : LinkedStack) (st' : Store WaitingChain) → ValueWithin 1 v → Starts a st' → Good (next v a st'))
      → Good (with_made linked_machine o m st next)
  made_starts (Gives (Val v) seen) m st next i g h f = f v (C.set_locals seen.locals m) (with_at seen st) g.0
      (record { memory = memory_none m h.memory _ seen.locals; store = record { world = g.1.world; coexps = h.store.coexps }; main = h.main })
  made_starts (Gives (Var v) seen) m st next i g h f = absurd i
  made_starts (Error k v seen) m st next i g h f = at_end Good k v (C.set_locals seen.locals m) (with_at seen st) i tt
  made_starts (Fails seen) m st next i g h f = absurd i
  made_starts (Suspends item r seen) m st next i g h f = absurd i
  made_starts (Ends k seen) m st next i g h f = absurd i

  collected_starts : (b : Bool) (entry : Procedure) → (b ≡ true → 0 < entry.parameters)
      → (vs : List Value) (m : LinkedStack) (st : Store WaitingChain) (next : List Value → LinkedStack → Store WaitingChain → LinkedState P sh given keep)
      → Each (ValueWithin 1) vs
      → Starts m st
      → ((ps : List Value) (a : LinkedStack) (st' : Store WaitingChain) → Parameters P sh given keep none_known entry ps → Starts a st' → Good (next ps a st'))
      → Good (collect_rest linked_machine b entry.parameters vs m st next)
  collected_starts false entry some vs m st next g h f =
      f (fill_nulls entry.parameters vs) m st (record { within = filled_within entry.parameters 1 vs g; count = filled_length entry.parameters vs }) h
  collected_starts true entry some vs m st next g h f =
      let k = entry.parameters - 1 in
      let rest = drop k vs in
      made_starts (list_row rest (here linked_machine m st)) m st (λ rest m st. next (fill_nulls k vs ++ rest ∷ []) m st)
      (rows_keep.list_made rest (here linked_machine m st))
      (keep.listed 1 rest (here linked_machine m st) (here_starts m st h) (each_drop (ValueWithin 1) k vs g)) h
      (λ v a st' gv h'. f (fill_nulls k vs ++ v ∷ []) a st' (record {
        within = each_append (ValueWithin 1) (fill_nulls k vs) (v ∷ []) (filled_within k 1 vs g) (gv, tt);
        count = joined_length entry.parameters vs v (some refl);
      }) h')

  begun_ok : (b : Bool) (main : ℕ) (entry : Procedure) → slice_get P.procs main ≡ Some entry → main < length P.procs
      → (v : Value) (m : LinkedStack) (st : Store WaitingChain) → ValueWithin 1 v → Starts m st → Good (begun_if linked_machine b main entry (v ∷ []) m st)
  begun_ok false main entry e l v m st g h = at_end Good 301 None m st (fatal_ends 301 st.world.error refl) tt
  begun_ok true main entry e l v m st g h = collected_starts entry.collects entry (given.collects main entry e) (v ∷ []) m st
      (λ parameters m st. running (linked_machine.begin main (parameters ++ replicate entry.locals Null) 0 m) st) (g, tt) h (λ ps a st' gp h'.
      let values = ps ++ replicate entry.locals Null in
      ok_runs P sh given keep (with_activation none_known main) main (start_shape false) (linked_machine.begin main values 0 a) st'
      (record {
        now = begin_ok P sh main values 0 false none_known st'.active a h'.memory (parameters_locals P sh given keep main entry e none_known ps gp)
            (ap (λ n. not (is_main n)) (sym h'.main));
        store = grow_store P sh none_known (with_activation none_known main) (λ i. i ≡ st'.active) st' refl (grow_activation none_known main) h'.store;
      })
      (given.starts main l))

  start_ok : (words : List (List ℕ)) (m : LinkedStack) (st : Store WaitingChain) (o : Option ℕ) → main_of P ≡ o → Starts m st
      → Good (start_of linked_machine P words m st o)
  start_ok words m st None e h = at_end Good 117 None m st (fatal_ends 117 st.world.error refl) tt
  start_ok words m st (Some main) e h =
      let l = tables_ok.main main e in
      let o = entry_there P.procs main l in
      ok_found P sh given keep (slice_get P.procs main) (λ (entry : Procedure).
      with_made linked_machine (words_row words (here linked_machine m st)) m st
      (λ list m st. begun_if linked_machine (nat_le 1 st.world.heap.bounds.levels) main entry (list ∷ []) m st)) o.0 o.1
      (made_starts (words_row words (here linked_machine m st)) m st
      (λ list m st. begun_if linked_machine (nat_le 1 st.world.heap.bounds.levels) main o.0 (list ∷ []) m st)
      (rows_keep.words_made words (here linked_machine m st)) (keep.worded 1 words (here linked_machine m st) (here_starts m st h)) h
      (λ v a st' g h'. begun_ok (nat_le 1 st'.world.heap.bounds.levels) main o.0 o.1 l v a st' g h'))

  abbrev main_coexp : Coexp WaitingChain
  main_coexp = record { status = Active; activator = zero; values = []; proc = zero; address = zero }

  main_entered : IsEntered P sh (main_coexp ∷ []) 0
  main_entered = record { coexp = main_coexp; stands = refl; begun = λ z. z }

  main_each : (i : ℕ) (c : Coexp WaitingChain) → slice_get (main_coexp ∷ []) i ≡ Some c → CoexpOk P sh none_known (main_coexp ∷ []) i c
  main_each zero c e = subst (λ x. CoexpOk P sh none_known (main_coexp ∷ []) 0 x) (some_injective e)
      (record { values = λ d. absurd (d refl); origin = λ d. absurd (d refl); activator = main_entered })
  main_each (suc i) c e = none_is_not_some c e

  main_waits : (i : ℕ) (c : Coexp WaitingChain) → slice_get (main_coexp ∷ []) i ≡ Some c → (i ≡ 0 → ⊥) → StatusOk P sh none_known i c.status
  main_waits zero c e d = absurd (d refl)
  main_waits (suc i) c e d = none_is_not_some c e

  first_ok : (hidden : List ℕ) (launch : Launch) → Starts empty (first_store_hiding P hidden launch)
  first_ok hidden launch = record {
    memory = record { same_activations = refl; same_flags = refl; locals = λ a p z. none_is_not_some p z; labels = tt };
    store = record {
      world = record {
        heap = record { lists = tt; sets = tt; tables = tt; records = tt; count = refl };
        globals = tables_ok.globals;
        statics = each_replicate (ValueWithin 1) (static_count P) Null tt;
        kept = tt;
      };
      coexps = record { count = refl; each = main_each; waits = main_waits; there = main_entered; first = main_entered };
    };
    main = refl;
  }

  -- the start of a run is safe
  pub start_safe : (hidden : List ℕ) (launch : Launch) → Good (start_hiding linked_machine empty P hidden launch)
  start_safe hidden launch = start_ok launch.words empty (first_store_hiding P hidden launch) (main_of P) refl (first_ok hidden launch)

  pub runs_ok : (hidden : List ℕ) (launch : Launch) (n : ℕ) → Good (steps linked_machine P n (start_hiding linked_machine empty P hidden launch))
  runs_ok hidden launch n = steps_ok n (start_hiding linked_machine empty P hidden launch) (start_safe hidden launch)

pub never_stuck : (tables : Tables) → HaveShapes tables → TablesOk tables → RowsStayWithin → IsNeverStuck tables
never_stuck tables have ok keep = record {
  linked = linked_never;
  flat = flat_never;
  covered = λ repeats hidden launch none run. flat_never hidden launch ((agrees_where_covered repeats hidden tables launch none).stuck_flat run);
}
  where
    linked_never : (hidden : List ℕ) (launch : Launch) → LinkedStuck repeats_anywhere hidden tables launch → ⊥
    linked_never hidden launch run =
        subst (λ s. Safe tables (shapes_of tables have) s) run.is
        (runs_ok tables (shapes_of tables have) (shaped tables have ok) keep ok hidden launch run.count)

    flat_never : (hidden : List ℕ) (launch : Launch) → FlatStuck hidden tables launch → ⊥
    flat_never hidden launch run = linked_never hidden launch ((agrees_everywhere hidden tables launch).stuck_linked run)
