-- The first law: the meaning of a program and the linked run of its code agree, in both directions.
use Rattle.std.proofs.Common.{◌≡◌, ℕ, zero, suc, ◌-◌, Bool, true, false, List, [], ◌∷◌, ◌++◌, length, map, replicate, drop, Option, Some, None, refl, sym, ap, ◌∙◌, subst}
use Rattle.std.specs.Prelude.{slice_index_or, slice_set, nat_le}
use Rattle.std.specs.List.{sum_by}
use Rattle.icn_code.specs.Codes.{Proc as Procedure}
use Rattle.icn_tree.specs.Trees.{Trees, Initial}
use Rattle.icn_value.specs.Values.{Value, Null}
use Rattle.icn_value.specs.Store.{Names, Outside}
use Rattle.icn_defs.specs.StepRows.{list_row}
use Rattle.icn_meaning.specs.Program as MP
use Rattle.icn_meaning.specs.Contexts as M
use Rattle.icn_meaning.specs.Contexts.{Nothing, NoChoice, InCall}
use Rattle.icn_meaning.specs.Turns as MT
use Rattle.icn_meaning.specs.Calls as MC
use Rattle.icn_meaning.specs.Meaning as MM
use Rattle.icn_meaning.specs.Meaning.{Observation, observation, Means}
use Rattle.icn_defs.specs.Running.{Launch, first_world, words_row}
use Rattle.icn_run.specs.Chains.{chain, none, base, empty, WaitingChain, LinkedStack}
use Rattle.icn_run.specs.Step as S
use Rattle.icn_run.specs.LinkedStep as Linked
use Rattle.icn_run.proofs.OneObservation.{over_seen}
use Rattle.law_simulation.specs.StandingCode.{StandsRoutine, e_plain, e_initial}
use Rattle.law_simulation.specs.Relation.{v_main, r_end, a_frame, c_all, c_none, t_active, linked_of, store_of}
use Rattle.law_simulation.specs.Ground.{Ground, code_of, machine, OfCallee, o_routine}
use Rattle.law_simulation.specs.Begins.{OfMain, no_main, a_main, Begins}
use Rattle.law_simulation.proofs.SimulationWords.{LinkedState, Misses, Reaches, LiveCoexpressions, running_at, then_reach, on_made, errors_agree}
use Rattle.law_simulation.proofs.ActionSteps.{on_rest}
use Rattle.law_simulation.proofs.Application.{inits, fitted_filled}
use Rattle.law_stacks.proofs.Shadowed.{shadowed_start}
use Rattle.law_stacks.specs.SecondLaw.{MissingCell}
use Rattle.law_simulation.proofs.FirstLawForRuns.{good_steps, after, shift, forward, backward, was_over, reach_misses}

module _ (G : Ground) where
  first_coexp : S.Coexp WaitingChain
  first_coexp = record { status = S.Active; activator = zero; values = []; proc = zero; address = zero }

  abbrev made_store : List Value → ℕ → ℕ → Names → Launch → S.Store WaitingChain
  made_store globals statics procs names launch = record {
    world = first_world launch.bounds globals statics;
    outside = launch.outside;
    turns = 0;
    begun = replicate procs false;
    coexps = record { status = S.Active; activator = zero; values = []; proc = zero; address = zero } ∷ [];
    active = 0;
    names = names;
  }

  same_store : (launch : Launch) → Begins G.L
      → store_of (MM.first_store G.L.program launch)
      (record { status = S.Active; activator = zero; values = []; proc = zero; address = zero } ∷ []) ≡
      S.first_store_hiding (code_of G) G.L.program.hidden launch
  same_store launch b = ap (λ g. made_store g G.L.program.statics (length G.L.program.routines)
      (MP.names_of G.L.program) launch) b.globals
      ∙ ap (λ s. made_store (map (S.global_value G.L.tables) G.L.tables.globals) s
      (length G.L.program.routines) (MP.names_of G.L.program) launch) b.statics
      ∙ ap (λ p. made_store (map (S.global_value G.L.tables) G.L.tables.globals)
      (sum_by S.statics_of G.L.tables.procs) p (MP.names_of G.L.program) launch) b.procs
      ∙ ap (λ n. made_store (map (S.global_value G.L.tables) G.L.tables.globals)
      (sum_by S.statics_of G.L.tables.procs) (length G.L.tables.procs) n launch) b.names

  -- `main` begins
  main_begin : {initial : Initial} {body : Trees} (b : Bool) (n a : ℕ) (st : M.Store)
      (ls : List (S.Coexp WaitingChain)) → LiveCoexpressions G true st.active st.coexpressions ls
      → b ≡ slice_index_or st.begun n true → StandsRoutine G.L n initial body →
      Reaches G (MC.begun_if b n initial body (InCall (a_frame a n 1) Nothing NoChoice) NoChoice st)
      (running_at (chain [] none [] (base n a)) 0 st ls)
  main_begin true n a st ls live e (e_plain body) = on_rest G 0 st ls live body (v_main refl) (r_end refl)
  main_begin false n a st ls live e (e_plain body) = on_rest G 0 st ls live body (v_main refl) (r_end refl)
  main_begin true n a st ls live e (e_initial h first rest) =
      then_reach G (inits G true st ls e h) (on_rest G _ st ls live rest (v_main refl) (r_end refl))
  main_begin false n a st ls live e (e_initial h first rest) =
      then_reach G (inits G false st ls e h)
      (on_rest G 1 (record st { begun = slice_set st.begun n true }) ls live first (v_main refl) (r_end refl))

  main_enter : (n : ℕ) (routine : MP.Routine) (entry : Procedure) (ps ps' : List Value) (st : M.Store)
      (ls : List (S.Coexp WaitingChain)) → LiveCoexpressions G true st.active st.coexpressions ls → ps ≡ ps'
      → length routine.locals - routine.parameters ≡ entry.locals
      → StandsRoutine G.L n routine.initial routine.body →
      Reaches G (MC.enter n routine ps 1 Nothing NoChoice st)
      (running_at (chain [] none [] (base n (length st.activations))) 0
      (record st { activations = st.activations ++ (ps' ++ replicate entry.locals Null) ∷ [] }) ls)
  main_enter n routine entry ps ps' st ls live ep el stands =
      subst (λ ps'. Reaches G (MC.enter n routine ps 1 Nothing NoChoice st)
      (running_at (chain [] none [] (base n (length st.activations))) 0
      (record st { activations = st.activations ++ (ps' ++ replicate entry.locals Null) ∷ [] }) ls)) ep
      (subst (λ w. Reaches G (MC.enter n routine ps 1 Nothing NoChoice st)
      (running_at (chain [] none [] (base n (length st.activations))) 0
      (record st { activations = st.activations ++ (ps ++ replicate w Null) ∷ [] }) ls)) el
      (main_begin (slice_index_or st.begun n true) n (length st.activations)
      (record st {
        activations = st.activations
            ++ (ps ++ replicate (length routine.locals - routine.parameters) Null) ∷ [];
      }) ls live refl stands))

  abbrev begins_at : ℕ → Procedure → List Value → LinkedStack → S.Store WaitingChain → LinkedState
  begins_at n entry ps m st = S.running ((machine G).begin n (ps ++ replicate entry.locals Null) 0 m) st

  main_collect : (b : Bool) (n : ℕ) (routine : MP.Routine) (entry : Procedure) (vs : List Value)
      (st : M.Store) (ls : List (S.Coexp WaitingChain)) → LiveCoexpressions G true st.active st.coexpressions ls
      → length routine.locals - routine.parameters ≡ entry.locals
      → StandsRoutine G.L n routine.initial routine.body →
      Reaches G (MC.collect b n routine vs 1 zero Nothing NoChoice st)
      (S.collect_rest (machine G) b routine.parameters vs (linked_of (chain [] none [] (base 0 0)) 0 st)
      (store_of st ls) (begins_at n entry))
  main_collect false n routine entry vs st ls live el stands =
      main_enter n routine entry _ _ st ls live (fitted_filled routine.parameters vs) el stands
  main_collect true n routine entry vs st ls live el stands =
      on_made G 0 [] (list_row (drop (routine.parameters - 1) vs)) st ls _ _ refl live (r_end refl) (λ v seen.
      main_enter n routine entry _ _ _ ls live
      (ap (λ l. l ++ v ∷ []) (fitted_filled (routine.parameters - 1) vs)) el stands)

  main_call : (b : Bool) (n : ℕ) (routine : MP.Routine) (entry : Procedure) (vs : List Value) (st : M.Store)
      (ls : List (S.Coexp WaitingChain)) → LiveCoexpressions G true st.active st.coexpressions ls
      → OfCallee G.L n (MP.IsRoutine routine) (S.IsProc entry) →
      Reaches G (MC.call_if b n routine vs 1 zero Nothing NoChoice st)
      (S.begun_if (machine G) b n entry vs (linked_of (chain [] none [] (base 0 0)) 0 st)
      (store_of st ls))
  main_call false n routine entry vs st ls live c = errors_agree G 0 [] 301 None st ls live (r_end refl)
  main_call true n routine entry vs st ls live (o_routine ep ec el stands) =
      subst (λ b. Reaches G (MC.collect routine.collects n routine vs 1 zero Nothing NoChoice st)
      (S.collect_rest (machine G) b entry.parameters vs (linked_of (chain [] none [] (base 0 0)) 0 st)
      (store_of st ls) (begins_at n entry))) ec
      (subst (λ w. Reaches G (MC.collect routine.collects n routine vs 1 zero Nothing NoChoice st)
      (S.collect_rest (machine G) routine.collects w vs (linked_of (chain [] none [] (base 0 0)) 0 st)
      (store_of st ls) (begins_at n entry))) ep
      (main_collect routine.collects n routine entry vs st ls live el stands))

  start_at : {m : Option ℕ} {m' : Option ℕ} (words : List (List ℕ)) (st : M.Store)
      (ls : List (S.Coexp WaitingChain)) → LiveCoexpressions G true st.active st.coexpressions ls → OfMain G.L m m' →
      Reaches G (MM.main_at G.L.program m words st)
      (S.start_of (machine G) (code_of G) words (linked_of (chain [] none [] (base 0 0)) 0 st)
      (store_of st ls) m')
  start_at words st ls live no_main = errors_agree G 0 [] 117 None st ls live (r_end refl)
  start_at words st ls live (a_main {n = n} {routine = routine} {entry = entry} er el c) =
      subst (λ x. Reaches G (MM.main_in x n words st)
      (S.start_of (machine G) (code_of G) words (linked_of (chain [] none [] (base 0 0)) 0 st)
      (store_of st ls) (Some n))) (sym er)
      (subst (λ x. Reaches G (MM.main_called n routine words st)
      (S.with_found x (λ (entry : Procedure).
      S.with_made (machine G) (words_row words
      (S.here (machine G) (linked_of (chain [] none [] (base 0 0)) 0 st) (store_of st ls)))
      (linked_of (chain [] none [] (base 0 0)) 0 st) (store_of st ls)
      (λ list m st. S.begun_if (machine G) (nat_le 1 st.world.heap.bounds.levels) n entry (list ∷ []) m
      st)))) (sym el)
      (on_made G 0 [] (words_row words) st ls _ _ refl live (r_end refl)
      (λ v seen. main_call (nat_le 1 (MT.after zero seen st).world.heap.bounds.levels) n routine entry
      (v ∷ []) (MT.after zero seen st) ls live c)))

  pub starts : (launch : Launch) → Begins G.L
      → Reaches G (MM.start G.L.program launch) (S.start_hiding (machine G) empty (code_of G) G.L.program.hidden launch)
  starts launch b = subst (λ st. Reaches G (MM.start G.L.program launch)
      (S.start_of (machine G) (code_of G) launch.words empty st (S.main_of G.L.tables))) (same_store launch b)
      (start_at launch.words (MM.first_store G.L.program launch) _ (
        refl,
        c_all (record { activator = refl; procedure = refl; values = refl; status = t_active })
            c_none,
      ) b.main)

  -- Steps of the meaning

  after_steps : (m n : ℕ) {s s' s'' : M.Evaluation} → MM.steps G.L.program m s ≡ s'
      → MM.steps G.L.program n s' ≡ s'' → (k : ℕ) × (MM.steps G.L.program k s ≡ s'')
  after_steps zero n e f = (n, ap (MM.steps G.L.program n) e ∙ f)
  after_steps (suc m) n e f = let a = after_steps m n e f in (suc a.0, a.1)

  abbrev record_of : M.Ending → Outside → Observation
  record_of ending outside = record { ending = ending; outside = outside }

  record Seen (s : M.Evaluation) (seen : Observation) : Type 0 where
    pub store : M.Store
    pub is : s ≡ M.over seen.ending store
    pub outside_is : store.outside ≡ seen.outside

  seen_over : (s : M.Evaluation) (seen : Observation) → observation s ≡ Some seen → Seen s seen
  seen_over (M.over ending st) seen e = let h : record_of ending st.outside ≡ seen = cc in
      record {
        store = st;
        is = ap (λ (o : Observation). M.over o.ending st) h;
        outside_is =
            ap (λ (o : Observation). o.outside) h;
      }
  seen_over s seen e = absurd (cc)

  -- what the meaning comes to, the code comes to
  pub means_runs : (launch : Launch) (seen : Observation) → Begins G.L → Means G.L.program launch seen
      → Linked.RunsHiding G.L.repeats G.L.program.hidden G.L.tables launch seen
  means_runs launch seen b m =
      let o = seen_over _ seen m.is in
      let g = starts launch b in
      let f = forward G m.count (MM.start G.L.program launch) g.to seen.ending o.store
      (good_steps G g.turns _ g.comes (shadowed_start G.L.repeats G.L.tables G.L.program.hidden launch)) g.rel o.is in
      let a = after G g.turns f.0 g.comes f.1 in
      record { count = a.0; is = ap S.observation (a.1 ∙ ap (λ x. S.over seen.ending x) o.outside_is) }

  -- what the code comes to, the meaning comes to
  pub runs_means : (launch : Launch) (seen : Observation) → Begins G.L
      → Linked.RunsHiding G.L.repeats G.L.program.hidden G.L.tables launch seen → Means G.L.program launch seen
  runs_means launch seen b r =
      let z : LinkedState = S.over seen.ending seen.outside in
      let s = MM.start G.L.program launch in
      let g = starts launch b in
      let e = shift G z refl r.count g.turns (S.start_hiding (machine G) empty (code_of G) G.L.program.hidden launch)
      (over_seen _ seen r.is) g.comes in
      let back = backward G z refl r.count s g.to
      (good_steps G g.turns _ g.comes (shadowed_start G.L.repeats G.L.tables G.L.program.hidden launch)) g.rel e in
      let o = was_over G {ending = seen.ending} {outside = seen.outside} back.1 in
      let a = after_steps back.0 o.count refl o.is in
      record { count = a.0; is = ap observation a.1 ∙ ap (λ x. Some (record_of seen.ending x)) o.outside_is }

  -- the run of the code never comes to a mark that has no cell for a label which is to be set
  pub none_missing : (launch : Launch) → Begins G.L → MissingCell G.L.repeats G.L.program.hidden G.L.tables launch → ⊥
  none_missing launch b x = reach_misses G x.count (starts launch b) (shadowed_start G.L.repeats G.L.tables G.L.program.hidden launch)
      (subst (Misses G) (sym x.comes) (x.label, x.sets, x.missing))
