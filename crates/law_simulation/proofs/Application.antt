-- What is applied to operands, calls among it.
use Rattle.std.proofs.Common.{◌≡◌, ℕ, zero, suc, ◌-◌, Bool, true, false, ◌≤◌, List, [], ◌∷◌, ◌++◌, length, reverse, option_map, take, drop, replicate, map, Option, Some, None, ℤ, refl, sym, ap, ◌∙◌, subst, arith}
use mathlib.Core.List.{reverse_aux}
use Rattle.std.proofs.Math.ListN.{length-reverse}
use Rattle.std.proofs.lemmas.Bool.Decides.{nat_tests}
use Rattle.std.specs.Prelude.{slice_get, slice_index_or, slice_set, nat_le, ◌==◌}
use Rattle.icn_text.specs.declared.op.Op.{Op}
use Rattle.icn_text.specs.declared.op.Op.TheVariants as Ops
use Rattle.icn_code.specs.declared.instr.Instr.{Instr}
use Rattle.icn_code.specs.declared.instr.Instr.TheVariants as I
use Rattle.icn_code.specs.Codes.{Proc as Procedure}
use Rattle.icn_tree.specs.Trees.{Tree, Trees, NoTrees, Initial}
use Rattle.icn_value.specs.Values as V
use Rattle.icn_value.specs.Values.{Value, Null, Item, Val}
use Rattle.icn_value.specs.Store.{list_at, record_at}
use Rattle.icn_defs.specs.NamedValues.{named_by}
use Rattle.icn_defs.specs.Arities.{arity}
use Rattle.icn_defs.specs.Conversions.{position_of}
use Rattle.icn_defs.specs.StepRows.{coexpression_row, list_row, record_row, apply, Operation, Function}
use Rattle.icn_meaning.specs.Program as MP
use Rattle.icn_meaning.specs.Contexts as M
use Rattle.icn_meaning.specs.Contexts.{Application, Operating, Calling, Spreading, Collecting, Taking, Activating, Works, Choices, Surroundings, InCall}
use Rattle.icn_meaning.specs.Turns as MT
use Rattle.icn_meaning.specs.Coexpressions as MX
use Rattle.icn_meaning.specs.Calls as MC
use Rattle.icn_defs.specs.Running.{number_of}
use Rattle.icn_run.specs.Chains.{chain, Suspensions, none, Outer, call, WaitingChain, LinkedStack, take_top, with_chain}
use Rattle.icn_run.specs.Step as S
use Rattle.law_simulation.specs.Linkage.{IsAppliedBy, f_operation, f_call, f_spread, f_list, f_field, f_activate}
use Rattle.law_simulation.specs.StandingCode.{Nest, StandsCreate, StandsRoutine, e_plain, e_initial}
use Rattle.law_simulation.specs.Relation.{At, proc_in, activation_in, a_frame, OfWorks, OfSurroundings, v_call, OfChoices, r_call, OfStatus, t_fresh, t_active, t_waiting, t_after, t_exhausted, OfAll, c_all, linked_of, store_of, at_succeed, at_fail, at_lost}
use Rattle.law_simulation.specs.Ground.{Ground, code_of, machine, OfCallee, o_routine, o_kind, o_function, o_nothing}
use Rattle.law_simulation.proofs.SimulationWords.{LinkedState, StepsTo, instruction_step, Reaches, Follows, LiveCoexpressions, running_at, reached_already, follows_by_step, then_reach, on_turn, on_answer, on_value, on_values, on_made, errors_agree, sets_no_label}
use Rattle.law_simulation.proofs.WaysOut.{level_in, same_activation, same_level}
use Rattle.law_simulation.proofs.ActionSteps.{on_rest}
use Rattle.law_simulation.proofs.BothCoexpressions.{coexpression_at, Made, not_made, was_made, find_made, all_more, status_all, activator_all, on_entered}

fitted_of : (n m : ℕ) (vs : List Value) → n ≤ m → MC.fit_count n vs ≡ take n (vs ++ replicate m Null)
fitted_of zero m [] h = refl
fitted_of zero m (v ∷ vs) h = refl
fitted_of (suc n) zero vs h = absurd (omega arith)
fitted_of (suc n) (suc m) [] h = ap (λ l. Null ∷ l) (fitted_of n m [] (omega arith))
fitted_of (suc n) (suc m) (v ∷ vs) h = ap (λ l. v ∷ l) (fitted_of n (suc m) vs (omega arith))

pub fitted_filled : (n : ℕ) (vs : List Value) → MC.fit_count n vs ≡ S.fill_nulls n vs
fitted_filled n vs = fitted_of n n vs (omega arith)

same_items : (vs : List Value) → MC.items vs ≡ map S.plain vs
same_items [] = refl
same_items (v ∷ vs) = ap (λ l. Val v ∷ l) (same_items vs)

pub equal_self : (a : ℕ) → (a == a) ≡ true
equal_self a = grind (arith, nat_tests)

same_argument : (p : Option ℕ) (xs : List Item) → MC.argument_at p xs ≡ S.argument_at p xs
same_argument None xs = refl
same_argument (Some zero) xs = refl
same_argument (Some (suc p)) xs = refl

module _ (G : Ground) where
  -- a co-expression is made
  pub on_fresh : {first : Bool} {e : Tree} {place q j a : ℕ} {k : Works} {r : Choices} {xs : List Item}
      {s : Suspensions} {z : List ℕ} {o : Outer} (vs : List Value) (p : ℕ) (st : M.Store)
      (ls : List (S.Coexp WaitingChain)) → LiveCoexpressions G first st.active st.coexpressions ls → a ≡ activation_in o
      → StandsCreate G.L j e place q → OfWorks G.L first k p xs z o → OfChoices G.L first r s z o →
      Reaches G (MX.fresh e j vs a k r st)
      (S.coexp_made (machine G) vs j place (linked_of (chain xs s z o) p st) (store_of st ls))
  on_fresh {xs = xs} vs p st ls live e stands k r =
      on_made G p xs (coexpression_row (length vs)) st ls _ _ e live r (λ v seen.
      reached_already G (at_succeed live.0 (all_more G live.1
      (record { activator = refl; procedure = refl; values = refl; status = t_fresh refl stands })
      stands) k r))

  refreshed_by : {first : Bool} {a : ℕ} {k : Works} {r : Choices} {xs : List Item} {s : Suspensions}
      {z : List ℕ} {o : Outer} {co : Option M.Coexpression} {l : Option (S.Coexp WaitingChain)} (p : ℕ)
      (st : M.Store) (ls : List (S.Coexp WaitingChain)) → LiveCoexpressions G first st.active st.coexpressions ls
      → a ≡ activation_in o → Made G co l → OfWorks G.L first k p xs z o → OfChoices G.L first r s z o →
      Reaches G (MX.refreshed_from co a k r st)
      (S.refreshed_from (machine G) l (linked_of (chain xs s z o) p st) (store_of st ls))
  refreshed_by p st ls live e not_made k r = reached_already G at_lost
  refreshed_by {a = a} {k = k'} {r = r'} {xs = xs} {s = s} {z = z} {o = o} p st ls live e
      (was_made {co = co} {l = l} h stands) k r =
      subst (λ j. Reaches G (MX.fresh co.body j co.values a k' r' st)
      (S.coexp_made (machine G) l.values l.proc l.address (linked_of (chain xs s z o) p st)
      (store_of st ls))) (sym h.procedure)
      (subst (λ vs. Reaches G (MX.fresh co.body l.proc vs a k' r' st)
      (S.coexp_made (machine G) l.values l.proc l.address (linked_of (chain xs s z o) p st)
      (store_of st ls))) (sym h.values) (on_fresh l.values p st ls live e stands k r))

  made_at : {cos : List M.Coexpression} {ls : List (S.Coexp WaitingChain)} → OfAll G.L cos ls → (n : ℕ)
      → Made G (slice_get cos (suc n)) (slice_get ls (suc n))
  made_at (c_all h t) n = find_made G t n

  on_refreshed : {first : Bool} {a : ℕ} {k : Works} {r : Choices} {xs : List Item} {s : Suspensions}
      {z : List ℕ} {o : Outer} (v : Value) (p : ℕ) (st : M.Store) (ls : List (S.Coexp WaitingChain))
      → LiveCoexpressions G first st.active st.coexpressions ls → a ≡ activation_in o → OfWorks G.L first k p xs z o
      → OfChoices G.L first r s z o →
      Reaches G (MX.refresh v a k r st)
      (S.refresh (machine G) v (linked_of (chain xs s z o) p st) (store_of st ls))
  on_refreshed {xs = xs} (V.ACoexp zero) p st ls live e k r = errors_agree G p xs 215 (Some (V.ACoexp zero)) st ls live r
  on_refreshed (V.ACoexp (suc n)) p st ls live e k r = refreshed_by p st ls live e (made_at live.1 n) k r
  on_refreshed {xs = xs} v p st ls live e k r = errors_agree G p xs 118 (Some v) st ls live r

  -- an activation
  on_sent : {first : Bool} {k : Works} {r : Choices} {xs : List Item} {s : Suspensions} {z : List ℕ}
      {o : Outer} (v : Value) (c p : ℕ) (st : M.Store) (ls : List (S.Coexp WaitingChain))
      → LiveCoexpressions G first st.active st.coexpressions ls → OfWorks G.L first k p xs z o
      → OfChoices G.L first r s z o →
      Reaches G (MX.transmit v c k r st) (S.entered_by (machine G) c v (linked_of (chain xs s z o) p st)
      (store_of st ls))
  on_sent {k = k'} {r = r'} {xs = xs} {s = s} {z = z} {o = o} v c p st ls live k r =
      on_entered G c v (chain xs s z o) p
      (MX.with_activator c st.active (MX.with_status st.active (M.Waiting k' r') st)) _
      (activator_all G (status_all G live.1 st.active
      (t_waiting (subst (λ b. OfWorks G.L b k' p xs z o) live.0 k)
      (subst (λ b. OfChoices G.L b r' s z o) live.0 r))) c st.active)

  sent_by : {first : Bool} {j place : ℕ} {e : Tree} {status : M.Status} {status' : S.Status WaitingChain}
      {k : Works} {r : Choices} {xs : List Item} {s : Suspensions} {z : List ℕ} {o : Outer} (b b' : Bool)
      (v : Value) (c p : ℕ) (st : M.Store) (ls : List (S.Coexp WaitingChain))
      → LiveCoexpressions G first st.active st.coexpressions ls → OfStatus G.L b' j e place status status'
      → OfWorks G.L first k p xs z o → OfChoices G.L first r s z o →
      Reaches G (MX.sent_if b status v c k r st)
      (S.entered_if (machine G) b status' c v (linked_of (chain xs s z o) p st) (store_of st ls))
  sent_by b b' v c p st ls live t_exhausted k r = reached_already G (at_fail live.0 live.1 r)
  sent_by true b' v c p st ls live (t_fresh e stands) k r = reached_already G (at_succeed live.0 live.1 k r)
  sent_by true b' v c p st ls live t_active k r = reached_already G (at_succeed live.0 live.1 k r)
  sent_by true b' v c p st ls live (t_waiting k' r') k r = reached_already G (at_succeed live.0 live.1 k r)
  sent_by true b' v c p st ls live (t_after h r') k r = reached_already G (at_succeed live.0 live.1 k r)
  sent_by false b' v c p st ls live (t_fresh e stands) k r = on_sent v c p st ls live k r
  sent_by false b' v c p st ls live t_active k r = on_sent v c p st ls live k r
  sent_by false b' v c p st ls live (t_waiting k' r') k r = on_sent v c p st ls live k r
  sent_by false b' v c p st ls live (t_after h r') k r = on_sent v c p st ls live k r

  on_activate : {first : Bool} {k : Works} {r : Choices} {xs : List Item} {s : Suspensions} {z : List ℕ}
      {o : Outer} (v to : Value) (p : ℕ) (st : M.Store) (ls : List (S.Coexp WaitingChain))
      → LiveCoexpressions G first st.active st.coexpressions ls → OfWorks G.L first k p xs z o
      → OfChoices G.L first r s z o →
      Reaches G (MX.activate v to k r st)
      (S.activation (machine G) v to (linked_of (chain xs s z o) p st) (store_of st ls))
  on_activate v (V.ACoexp c) p st ls live k r =
      sent_by (c == st.active) (S.is_main c) v c p st ls live (coexpression_at G live.1 c).status k r
  on_activate {xs = xs} v to p st ls live k r = errors_agree G p xs 118 (Some to) st ls live r

  -- A procedure is called

  pub inits : {l : ℕ} {xs : List Item} {s : Suspensions} {z : List ℕ} {o : Outer} (b : Bool) (st : M.Store)
      (ls : List (S.Coexp WaitingChain)) → b ≡ slice_index_or st.begun (proc_in o) true → At G.L o 0 (I.Init l)
      → StepsTo G (running_at (chain xs s z o) 0 st ls)
      (S.initial_if (machine G) b l (linked_of (chain xs s z o) 1 st) (store_of st ls))
  inits {l} {xs} {s} {z} {o} b st ls e h =
      record {
        by = instruction_step G 0 (chain xs s z o) st ls h
            ∙ ap (λ b. S.initial_if (machine G) b l (linked_of (chain xs s z o) 1 st) (store_of st ls)) (sym e);
        whole = sets_no_label G 0 (chain xs s z o) st ls h refl;
      }

  on_begin : {first : Bool} {k : Works} {r : Choices} {initial : Initial} {body : Trees} {xs : List Item}
      {s : Suspensions} {z : List ℕ} {o : Outer} (b : Bool) (n a level p : ℕ) (st : M.Store)
      (ls : List (S.Coexp WaitingChain)) → LiveCoexpressions G first st.active st.coexpressions ls
      → b ≡ slice_index_or st.begun n true → StandsRoutine G.L n initial body → OfWorks G.L first k p xs z o
      → OfChoices G.L first r s z o →
      Reaches G (MC.begun_if b n initial body (InCall (a_frame a n level) k r) r st)
      (running_at (chain [] none [] (call n a level p (chain xs s z o))) 0 st ls)
  on_begin true n a level p st ls live e (e_plain body) k r =
      on_rest G 0 st ls live body (v_call k r) (r_call r)
  on_begin false n a level p st ls live e (e_plain body) k r =
      on_rest G 0 st ls live body (v_call k r) (r_call r)
  on_begin true n a level p st ls live e (e_initial h first rest) k r =
      then_reach G (inits true st ls e h) (on_rest G _ st ls live rest (v_call k r) (r_call r))
  on_begin false n a level p st ls live e (e_initial h first rest) k r =
      then_reach G (inits false st ls e h)
      (on_rest G 1 (record st { begun = slice_set st.begun n true }) ls live first (v_call k r) (r_call r))

  on_enter : {first : Bool} {k : Works} {r : Choices} {xs : List Item} {s : Suspensions} {z : List ℕ}
      {o : Outer} (n : ℕ) (routine : MP.Routine) (entry : Procedure) (ps ps' : List Value) (p : ℕ)
      (st : M.Store) (ls : List (S.Coexp WaitingChain)) → LiveCoexpressions G first st.active st.coexpressions ls → ps ≡ ps'
      → length routine.locals - routine.parameters ≡ entry.locals
      → StandsRoutine G.L n routine.initial routine.body → OfWorks G.L first k p xs z o
      → OfChoices G.L first r s z o →
      Reaches G (MC.enter n routine ps (suc (level_in o)) k r st)
      (S.enter_procedure (machine G) n entry ps' (linked_of (chain xs s z o) p st) (store_of st ls))
  on_enter {k = k'} {r = r'} {xs = xs} {s = s} {z = z} {o = o} n routine entry ps ps' p st ls live ep el
      stands k r =
      subst (λ ps'. Reaches G (MC.enter n routine ps (suc (level_in o)) k' r' st)
      (S.enter_procedure (machine G) n entry ps' (linked_of (chain xs s z o) p st) (store_of st ls))) ep
      (subst (λ w. Reaches G (MC.enter n routine ps (suc (level_in o)) k' r' st)
      (running_at (chain [] none [] (call n (length st.activations) (suc (level_in o)) p (chain xs s z o))) 0
      (record st { activations = st.activations ++ (ps ++ replicate w Null) ∷ [] }) ls)) el
      (on_begin (slice_index_or st.begun n true) n (length st.activations) (suc (level_in o)) p
      (record st {
        activations = st.activations
            ++ (ps ++ replicate (length routine.locals - routine.parameters) Null) ∷ [];
      }) ls live refl stands
      k r))

  on_collect : {first : Bool} {k : Works} {r : Choices} {a : ℕ} {xs : List Item} {s : Suspensions}
      {z : List ℕ} {o : Outer} (b : Bool) (n : ℕ) (routine : MP.Routine) (entry : Procedure)
      (vs : List Value) (p : ℕ) (st : M.Store) (ls : List (S.Coexp WaitingChain))
      → LiveCoexpressions G first st.active st.coexpressions ls → a ≡ activation_in o
      → length routine.locals - routine.parameters ≡ entry.locals
      → StandsRoutine G.L n routine.initial routine.body → OfWorks G.L first k p xs z o
      → OfChoices G.L first r s z o →
      Reaches G (MC.collect b n routine vs (suc (level_in o)) a k r st)
      (S.collect_rest (machine G) b routine.parameters vs (linked_of (chain xs s z o) p st)
      (store_of st ls) (λ ps m st. S.enter_procedure (machine G) n entry ps m st))
  on_collect false n routine entry vs p st ls live e el stands k r =
      on_enter n routine entry _ _ p st ls live (fitted_filled routine.parameters vs) el stands k r
  on_collect {xs = xs} true n routine entry vs p st ls live e el stands k r =
      on_made G p xs (list_row (drop (routine.parameters - 1) vs)) st ls _ _ e live r (λ v seen.
      on_enter n routine entry _ _ p _ ls live
      (ap (λ l. l ++ v ∷ []) (fitted_filled (routine.parameters - 1) vs)) el stands k r)

  call_by : {first : Bool} {k : Works} {r : Choices} {a : ℕ} {xs : List Item} {s : Suspensions} {z : List ℕ}
      {o : Outer} (b : Bool) (n : ℕ) (routine : MP.Routine) (entry : Procedure) (vs : List Value) (p : ℕ)
      (st : M.Store) (ls : List (S.Coexp WaitingChain)) → LiveCoexpressions G first st.active st.coexpressions ls
      → a ≡ activation_in o → routine.parameters ≡ entry.parameters → routine.collects ≡ entry.collects
      → length routine.locals - routine.parameters ≡ entry.locals
      → StandsRoutine G.L n routine.initial routine.body → OfWorks G.L first k p xs z o
      → OfChoices G.L first r s z o →
      Reaches G (MC.call_if b n routine vs (suc (level_in o)) a k r st)
      (S.called_if (machine G) b n entry vs (linked_of (chain xs s z o) p st) (store_of st ls))
  call_by {xs = xs} false n routine entry vs p st ls live e ep ec el stands k r = errors_agree G p xs 301 None st ls live r
  call_by {k = k'} {r = r'} {a = a} {xs = xs} {s = s} {z = z} {o = o} true n routine entry vs p st ls live e
      ep ec el stands k r =
      subst (λ b. Reaches G (MC.collect routine.collects n routine vs (suc (level_in o)) a k' r' st)
      (S.collect_rest (machine G) b entry.parameters vs (linked_of (chain xs s z o) p st) (store_of st ls)
      (λ ps m st. S.enter_procedure (machine G) n entry ps m st))) ec
      (subst (λ w. Reaches G (MC.collect routine.collects n routine vs (suc (level_in o)) a k' r' st)
      (S.collect_rest (machine G) routine.collects w vs (linked_of (chain xs s z o) p st) (store_of st ls)
      (λ ps m st. S.enter_procedure (machine G) n entry ps m st))) ep
      (on_collect routine.collects n routine entry vs p st ls live e el stands k r))

  on_call : {first : Bool} {k : Works} {r : Choices} {a level : ℕ} {xs : List Item} {s : Suspensions}
      {z : List ℕ} {o : Outer} (n : ℕ) (routine : MP.Routine) (entry : Procedure) (vs : List Value) (p : ℕ)
      (st : M.Store) (ls : List (S.Coexp WaitingChain)) → LiveCoexpressions G first st.active st.coexpressions ls
      → a ≡ activation_in o → level ≡ level_in o → routine.parameters ≡ entry.parameters
      → routine.collects ≡ entry.collects → length routine.locals - routine.parameters ≡ entry.locals
      → StandsRoutine G.L n routine.initial routine.body → OfWorks G.L first k p xs z o
      → OfChoices G.L first r s z o →
      Reaches G (MC.call n routine vs (suc level) a k r st)
      (S.call_procedure (machine G) n entry vs (linked_of (chain xs s z o) p st) (store_of st ls))
  on_call {k = k'} {r = r'} {a = a} {xs = xs} {s = s} {z = z} {o = o} n routine entry vs p st ls live e el'
      ep ec el stands k r =
      subst (λ level. Reaches G (MC.call n routine vs (suc level) a k' r' st)
      (S.call_procedure (machine G) n entry vs (linked_of (chain xs s z o) p st) (store_of st ls))) (sym el')
      (call_by (nat_le (suc (level_in o)) st.world.heap.bounds.levels) n routine entry vs p st ls live e ep
      ec el stands k r)

  on_callee : {first : Bool} {n' : Nest} {v : Surroundings} {k : Works} {r : Choices} {c : MP.Callee}
      {c' : S.Callee} {xs : List Item} {s : Suspensions} {z : List ℕ} {o : Outer} (n : ℕ)
      (items : List Item) (p : ℕ) (st : M.Store) (ls : List (S.Coexp WaitingChain))
      → LiveCoexpressions G first st.active st.coexpressions ls → OfCallee G.L n c c' → OfSurroundings G.L first n' v z o
      → OfWorks G.L first k p xs z o → OfChoices G.L first r s z o →
      Reaches G (MC.invoke_callee c n items v k r st)
      (S.callee_called (machine G) c' n items (linked_of (chain xs s z o) p st) (store_of st ls))
  on_callee {xs = xs} n items p st ls live (o_routine {routine = routine} {entry = entry} ep ec el stands) v
      k r = on_values G p xs items st ls _ _ (same_activation G v) live r
      (λ vs. on_call n routine entry vs p st ls live (same_activation G v) (same_level G v) ep ec el stands
      k r)
  on_callee {v = v'} {k = k'} {r = r'} {xs = xs} {s = s} {z = z} {o = o} n items p st ls live
      (o_kind {number = number} {kind = kind} {entry = entry} e) v k r =
      on_values G p xs items st ls _ _ (same_activation G v) live r (λ vs.
      subst (λ fields. Reaches G (MC.construct number kind vs (M.activation_of v') k' r' st)
      (S.with_made (machine G) (record_row number fields
      (S.here (machine G) (linked_of (chain xs s z o) p st) (store_of st ls)))
      (linked_of (chain xs s z o) p st) (store_of st ls)
      (λ value m st. S.push_item (machine G) (Val value) m st)))
      (fitted_filled (length kind.fields) vs ∙ ap (λ w. S.fill_nulls w vs) e)
      (on_made G p xs (record_row number (MC.fit_count (length kind.fields) vs)) st ls _ _
      (same_activation G v) live r (λ v seen. reached_already G (at_succeed live.0 live.1 k r))))
  on_callee {k = k'} {r = r'} {xs = xs} {s = s} {z = z} {o = o} n items p st ls live (o_function {f = f}) v
      k r = subst (λ a. Reaches G (MT.answer (apply st.names (Function f) items (MT.setting_in a st)) a k' r' st)
      (S.callee_called (machine G) (S.IsFunc f) n items (linked_of (chain xs s z o) p st) (store_of st ls)))
      (sym (same_activation G v)) (on_answer G
      (apply st.names (Function f) items (MT.setting_in (activation_in o) st)) st ls live k r)
  on_callee {xs = xs} n items p st ls live o_nothing v k r = errors_agree G p xs 106 (Some (V.Procedure n)) st ls live r

  on_chosen : {first : Bool} {k : Works} {r : Choices} {xs : List Item} {s : Suspensions} {z : List ℕ}
      {o : Outer} (x : Option Item) (p : ℕ) (st : M.Store) (ls : List (S.Coexp WaitingChain))
      → LiveCoexpressions G first st.active st.coexpressions ls → OfWorks G.L first k p xs z o
      → OfChoices G.L first r s z o →
      Reaches G (MC.choose_item x k r st) (S.pushed_or_fails (machine G) x (linked_of (chain xs s z o) p st)
      (store_of st ls))
  on_chosen (Some x) p st ls live k r = reached_already G (at_succeed live.0 live.1 k r)
  on_chosen None p st ls live k r = reached_already G (at_fail live.0 live.1 r)

  on_named : {first : Bool} {n' : Nest} {u : Surroundings} {k : Works} {r : Choices} {xs : List Item}
      {s : Suspensions} {z : List ℕ} {o : Outer} (named : Option ℕ) (v : Value) (items : List Item) (p : ℕ) (st : M.Store)
      (ls : List (S.Coexp WaitingChain)) → LiveCoexpressions G first st.active st.coexpressions ls
      → OfSurroundings G.L first n' u z o → OfWorks G.L first k p xs z o → OfChoices G.L first r s z o →
      Reaches G (MC.invoke_named G.L.program named v items u k r st)
      (S.named_called (machine G) (code_of G) v named items (linked_of (chain xs s z o) p st) (store_of st ls))
  on_named (Some n) v items p st ls live u k r = on_callee n items p st ls live (G.callees n) u k r
  on_named {xs = xs} None v items p st ls live u k r = errors_agree G p xs 106 (Some v) st ls live r

  on_choose : {first : Bool} {n' : Nest} {u : Surroundings} {k : Works} {r : Choices} {xs : List Item}
      {s : Suspensions} {z : List ℕ} {o : Outer} (i : Option ℤ) (v : Value) (items : List Item) (p : ℕ) (st : M.Store)
      (ls : List (S.Coexp WaitingChain)) → LiveCoexpressions G first st.active st.coexpressions ls
      → OfSurroundings G.L first n' u z o → OfWorks G.L first k p xs z o → OfChoices G.L first r s z o →
      Reaches G (MC.choose G.L.program i v items u k r st)
      (S.integer_called (machine G) (code_of G) v i items (linked_of (chain xs s z o) p st) (store_of st ls))
  on_choose {k = k'} {r = r'} {xs = xs} {s = s} {z = z} {o = o} (Some i) v items p st ls live u k r =
      subst (λ x. Reaches G (MC.choose_item (MC.argument_at (position_of i (length items)) items) k' r' st)
      (S.pushed_or_fails (machine G) x (linked_of (chain xs s z o) p st) (store_of st ls)))
      (same_argument (position_of i (length items)) items)
      (on_chosen (MC.argument_at (position_of i (length items)) items) p st ls live k r)
  on_choose None v items p st ls live u k r = on_named (named_by st.names v) v items p st ls live u k r

  on_invoke : {first : Bool} {n' : Nest} {v : Surroundings} {k : Works} {r : Choices} {xs : List Item}
      {s : Suspensions} {z : List ℕ} {o : Outer} (f : Value) (items : List Item) (p : ℕ) (st : M.Store)
      (ls : List (S.Coexp WaitingChain)) → LiveCoexpressions G first st.active st.coexpressions ls
      → OfSurroundings G.L first n' v z o → OfWorks G.L first k p xs z o → OfChoices G.L first r s z o →
      Reaches G (MC.invoke G.L.program f items v k r st)
      (S.invoke_value (machine G) (code_of G) f items (linked_of (chain xs s z o) p st) (store_of st ls))
  on_invoke (V.Procedure n) items p st ls live v k r = on_callee n items p st ls live (G.callees n) v k r
  on_invoke f items p st ls live v k r = on_choose (number_of f) f items p st ls live v k r

  on_spread : {first : Bool} {n' : Nest} {v : Surroundings} {k : Works} {r : Choices} {xs : List Item}
      {s : Suspensions} {z : List ℕ} {o : Outer} (f from : Value) (p : ℕ) (st : M.Store)
      (ls : List (S.Coexp WaitingChain)) → LiveCoexpressions G first st.active st.coexpressions ls
      → OfSurroundings G.L first n' v z o → OfWorks G.L first k p xs z o → OfChoices G.L first r s z o →
      Reaches G (MC.apply_to_list G.L.program f from v k r st)
      (S.elements_called (machine G) (code_of G) f from (linked_of (chain xs s z o) p st)
      (store_of st ls))
  on_spread {v = v'} {k = k'} {r = r'} {xs = xs} {s = s} {z = z} {o = o} f (V.AList l) p st ls live v k r =
      let vs = (list_at st.world.heap l).items in
      subst (λ items. Reaches G (MC.invoke G.L.program f (MC.items vs) v' k' r' st)
      (S.invoke_value (machine G) (code_of G) f items (linked_of (chain xs s z o) p st) (store_of st ls)))
      (same_items vs) (on_invoke f (MC.items vs) p st ls live v k r)
  on_spread {v = v'} {k = k'} {r = r'} {xs = xs} {s = s} {z = z} {o = o} f (V.ARecord l) p st ls live v k
      r = let vs = (record_at st.world.heap l).fields in
      subst (λ items. Reaches G (MC.invoke G.L.program f (MC.items vs) v' k' r' st)
      (S.invoke_value (machine G) (code_of G) f items (linked_of (chain xs s z o) p st) (store_of st ls)))
      (same_items vs) (on_invoke f (MC.items vs) p st ls live v k r)
  on_spread {xs = xs} f from p st ls live v k r = errors_agree G p xs 126 (Some from) st ls live r

  -- The operands that an instruction takes

  taken_of : (xs ys found : List Item) → take_top (length xs) (xs ++ ys) found ≡ Some (reverse_aux xs found, ys)
  taken_of [] [] found = refl
  taken_of [] (y ∷ ys) found = refl
  taken_of (x ∷ xs) ys found = taken_of xs ys (x ∷ found)

  takes : {n : ℕ} {zs : List Item} {s : Suspensions} {z : List ℕ} {o : Outer} (xs ys : List Item) (p : ℕ)
      (st : M.Store) (next : List Item → LinkedStack → LinkedState) → n ≡ length xs → zs ≡ xs ++ ys
      → S.with_taken (machine G) n (linked_of (chain zs s z o) p st) next ≡ next (reverse xs)
      (linked_of (chain ys s z o) p st)
  takes {n} {zs} {s} {z} {o} xs ys p st next en ez =
      ap (λ n. S.with_taken (machine G) n (linked_of (chain zs s z o) p st) next) en
      ∙ ap (λ zs. S.with_taken (machine G) (length xs) (linked_of (chain zs s z o) p st) next) ez
      ∙ ap (λ found. S.with_found (option_map
      (λ (parts : List Item × List Item).
      (parts.0, with_chain (chain parts.1 s z o) (linked_of (chain (xs ++ ys) s z o) p st))) found)
      (S.on_pair next)) (taken_of xs ys [])

  on_operated : {first : Bool} {n' : Nest} {v : Surroundings} {k : Works} {r : Choices} {xs : List Item}
      {s : Suspensions} {z : List ℕ} {o : Outer} (op : Op) (items : List Item) (p : ℕ) (st : M.Store)
      (ls : List (S.Coexp WaitingChain)) → LiveCoexpressions G first st.active st.coexpressions ls
      → OfSurroundings G.L first n' v z o → OfWorks G.L first k p xs z o → OfChoices G.L first r s z o →
      Reaches G (MC.apply_op true op items v k r st)
      (S.operate (machine G) op items (linked_of (chain xs s z o) p st) (store_of st ls))
  on_operated {xs = xs} Ops.Refresh (x ∷ items) p st ls live v k r =
      on_value G p xs x st ls _ _ (same_activation G v) live r
      (λ v1. on_refreshed v1 p st ls live (same_activation G v) k r)
  on_operated {k = k'} {r = r'} {xs = xs} {s = s} {z = z} {o = o} op items p st ls live v k r =
      subst (λ a. Reaches G (MT.answer (apply st.names (Operation op) items (MT.setting_in a st)) a k' r' st)
      (S.outcome (machine G) (apply st.names (Operation op) items
      (S.here (machine G) (linked_of (chain xs s z o) p st) (store_of st ls)))
      (linked_of (chain xs s z o) p st) (store_of st ls))) (sym (same_activation G v))
      (on_answer G (apply st.names (Operation op) items (MT.setting_in (activation_in o) st)) st ls live k r)

  -- an operation has all its operands
  on_operation : {first : Bool} {n' : Nest} {v : Surroundings} {k : Works} {r : Choices} {xs : List Item}
      {s : Suspensions} {z : List ℕ} {o : Outer} (op : Op) (items : List Item) (p : ℕ) (st : M.Store)
      (ls : List (S.Coexp WaitingChain)) → arity op ≡ length items
      → LiveCoexpressions G first st.active st.coexpressions ls
      → OfSurroundings G.L first n' v z o → OfWorks G.L first k p xs z o → OfChoices G.L first r s z o →
      Reaches G (MC.apply_form G.L.program (Operating op) items v k r st)
      (S.operate (machine G) op items (linked_of (chain xs s z o) p st) (store_of st ls))
  on_operation {v = v'} {k = k'} {r = r'} {xs = xs} {s = s} {z = z} {o = o} op items p st ls e live v k r =
      subst (λ all. Reaches G (MC.apply_op all op items v' k' r' st)
      (S.operate (machine G) op items (linked_of (chain xs s z o) p st) (store_of st ls)))
      (sym (ap (λ n. length items == n) e ∙ equal_self (length items)))
      (on_operated op items p st ls live v k r)

  on_calling : {first : Bool} {n' : Nest} {v : Surroundings} {k : Works} {r : Choices} {n : ℕ}
      {xs : List Item} {s : Suspensions} {z : List ℕ} {o : Outer} (items : List Item) (p : ℕ) (st : M.Store)
      (ls : List (S.Coexp WaitingChain)) → suc n ≡ length items → LiveCoexpressions G first st.active st.coexpressions ls
      → OfSurroundings G.L first n' v z o → OfWorks G.L first k p xs z o → OfChoices G.L first r s z o →
      Reaches G (MC.apply_form G.L.program Calling items v k r st)
      (S.invoked_with (machine G) (code_of G) items (linked_of (chain xs s z o) p st) (store_of st ls))
  on_calling [] p st ls e live v k r = absurd (omega arith)
  on_calling {xs = xs} (x ∷ items) p st ls e live v k r =
      on_value G p xs x st ls _ _ (same_activation G v) live r (λ f. on_invoke f items p st ls live v k r)

  on_spreading : {first : Bool} {n' : Nest} {v : Surroundings} {k : Works} {r : Choices} {xs : List Item}
      {s : Suspensions} {z : List ℕ} {o : Outer} (items : List Item) (p : ℕ) (st : M.Store)
      (ls : List (S.Coexp WaitingChain)) → 2 ≡ length items → LiveCoexpressions G first st.active st.coexpressions ls
      → OfSurroundings G.L first n' v z o → OfWorks G.L first k p xs z o → OfChoices G.L first r s z o →
      Reaches G (MC.apply_form G.L.program Spreading items v k r st)
      (S.applied_to_elements (machine G) (code_of G) items (linked_of (chain xs s z o) p st)
      (store_of st ls))
  on_spreading [] p st ls e live v k r = absurd (omega arith)
  on_spreading (x ∷ []) p st ls e live v k r = absurd (omega arith)
  on_spreading {xs = xs} (x ∷ y ∷ []) p st ls e live v k r =
      on_value G p xs x st ls _ _ (same_activation G v) live r
      (λ f. on_value G p xs y st ls _ _ (same_activation G v) live r
      (λ from. on_spread f from p st ls live v k r))
  on_spreading (x ∷ y ∷ u ∷ items) p st ls e live v k r = absurd (omega arith)

  on_activating : {first : Bool} {n' : Nest} {v : Surroundings} {k : Works} {r : Choices} {xs : List Item}
      {s : Suspensions} {z : List ℕ} {o : Outer} (items : List Item) (p : ℕ) (st : M.Store)
      (ls : List (S.Coexp WaitingChain)) → 2 ≡ length items → LiveCoexpressions G first st.active st.coexpressions ls
      → OfSurroundings G.L first n' v z o → OfWorks G.L first k p xs z o → OfChoices G.L first r s z o →
      Reaches G (MC.apply_form G.L.program Activating items v k r st)
      (S.activation_of (machine G) items (linked_of (chain xs s z o) p st) (store_of st ls))
  on_activating [] p st ls e live v k r = absurd (omega arith)
  on_activating (x ∷ []) p st ls e live v k r = absurd (omega arith)
  on_activating {xs = xs} (x ∷ y ∷ []) p st ls e live v k r =
      on_value G p xs x st ls _ _ (same_activation G v) live r
      (λ f. on_value G p xs y st ls _ _ (same_activation G v) live r
      (λ to. on_activate f to p st ls live k r))
  on_activating (x ∷ y ∷ u ∷ items) p st ls e live v k r = absurd (omega arith)

  on_field_at : {first : Bool} {k : Works} {r : Choices} {xs : List Item} {s : Suspensions} {z : List ℕ}
      {o : Outer} (place : Option ℕ) (x p : ℕ) (st : M.Store) (ls : List (S.Coexp WaitingChain))
      → LiveCoexpressions G first st.active st.coexpressions ls → OfWorks G.L first k p xs z o
      → OfChoices G.L first r s z o →
      Reaches G (MC.field_at place x k r st)
      (S.field_taken (machine G) place x (linked_of (chain xs s z o) p st) (store_of st ls))
  on_field_at (Some n) x p st ls live k r = reached_already G (at_succeed live.0 live.1 k r)
  on_field_at {xs = xs} None x p st ls live k r = errors_agree G p xs 207 (Some (V.ARecord x)) st ls live r

  on_take : {first : Bool} {k : Works} {r : Choices} {xs : List Item} {s : Suspensions} {z : List ℕ}
      {o : Outer} (name : List ℕ) (field : ℕ) (x : Value) (p : ℕ) (st : M.Store)
      (ls : List (S.Coexp WaitingChain)) → ((kind : ℕ)
      → MP.index_of name (MC.fields_in (slice_get G.L.program.kinds kind)) ≡ S.field_index G.L.tables field
      kind) → LiveCoexpressions G first st.active st.coexpressions ls → OfWorks G.L first k p xs z o
      → OfChoices G.L first r s z o →
      Reaches G (MC.take_field G.L.program name x k r st)
      (S.field_of (machine G) (code_of G) field x (linked_of (chain xs s z o) p st) (store_of st ls))
  on_take {k = k'} {r = r'} {xs = xs} {s = s} {z = z} {o = o} name field (V.ARecord x) p st ls e live k r =
      let kind = (record_at st.world.heap x).kind in
      subst (λ place. Reaches G (MC.take_field G.L.program name (V.ARecord x) k' r' st)
      (S.field_taken (machine G) place x (linked_of (chain xs s z o) p st) (store_of st ls))) (e kind)
      (on_field_at (MP.index_of name (MC.fields_in (slice_get G.L.program.kinds kind))) x p st ls live k r)
  on_take {xs = xs} name field x p st ls e live k r = errors_agree G p xs 107 (Some x) st ls live r

  on_taking : {first : Bool} {n' : Nest} {v : Surroundings} {k : Works} {r : Choices} {xs : List Item}
      {s : Suspensions} {z : List ℕ} {o : Outer} (name : List ℕ) (field : ℕ) (items : List Item) (p : ℕ)
      (st : M.Store) (ls : List (S.Coexp WaitingChain)) → 1 ≡ length items
      → ((kind : ℕ) → MP.index_of name (MC.fields_in (slice_get G.L.program.kinds kind)) ≡ S.field_index
      G.L.tables field kind) → LiveCoexpressions G first st.active st.coexpressions ls
      → OfSurroundings G.L first n' v z o → OfWorks G.L first k p xs z o → OfChoices G.L first r s z o →
      Reaches G (MC.apply_form G.L.program (Taking name) items v k r st)
      (S.field_applied (machine G) (code_of G) field items (linked_of (chain xs s z o) p st)
      (store_of st ls))
  on_taking name field [] p st ls e f live v k r = absurd (omega arith)
  on_taking {xs = xs} name field (x ∷ items) p st ls e f live v k r =
      on_value G p xs x st ls _ _ (same_activation G v) live r (λ x. on_take name field x p st ls f live k r)

  on_collecting : {first : Bool} {n' : Nest} {v : Surroundings} {k : Works} {r : Choices} {xs : List Item}
      {s : Suspensions} {z : List ℕ} {o : Outer} (items : List Item) (p : ℕ) (st : M.Store)
      (ls : List (S.Coexp WaitingChain)) → LiveCoexpressions G first st.active st.coexpressions ls
      → OfSurroundings G.L first n' v z o → OfWorks G.L first k p xs z o → OfChoices G.L first r s z o →
      Reaches G (MC.apply_form G.L.program Collecting items v k r st)
      (S.with_values (machine G) items (linked_of (chain xs s z o) p st) (store_of st ls)
      (λ values. S.list_made (machine G) values (linked_of (chain xs s z o) p st) (store_of st ls)
      (λ list m st. S.push_item (machine G) (Val list) m st)))
  on_collecting {xs = xs} items p st ls live v k r =
      on_values G p xs items st ls _ _ (same_activation G v) live r
      (λ vs. on_made G p xs (list_row vs) st ls _ _ (same_activation G v) live r
      (λ v seen. reached_already G (at_succeed live.0 live.1 k r)))

  reversed : {n : ℕ} (xs : List Item) → n ≡ length xs → n ≡ length (reverse xs)
  reversed xs e = e ∙ sym (length-reverse xs)

  -- all operands are there, and the form is applied to them
  pub on_applied : {first : Bool} {n' : Nest} {form : Application} {v : Surroundings} {k : Works} {r : Choices}
      {i : Instr} {n : ℕ} {ys zs : List Item} {s : Suspensions} {z : List ℕ} {o : Outer} (xs : List Item)
      (w q : ℕ) (st : M.Store) (ls : List (S.Coexp WaitingChain)) → LiveCoexpressions G first st.active st.coexpressions ls
      → IsAppliedBy G.L form n i → n ≡ length xs → zs ≡ xs ++ ys → At G.L o q i
      → OfSurroundings G.L first n' v z o → OfWorks G.L first k (suc q) ys z o → OfChoices G.L first r s z o
      → Follows G w (MC.operands G.L.program form xs NoTrees v k r st) (running_at (chain zs s z o) q st ls)
  on_applied {ys = ys} {zs = zs} {s = s} {z = z} {o = o} xs w q st ls live (f_operation {o = op}) en ez h v
      k r = follows_by_step G w (record {
        by = instruction_step G q (chain zs s z o) st ls h
            ∙ takes xs ys (suc q) st (λ items m.
            S.turn (code_of G) (store_of st ls) (S.operate (machine G) op items m)) en ez;
        whole = sets_no_label G q (chain zs s z o) st ls h refl;
      })
      (on_turn G st ls _ _ (on_operation op (reverse xs) (suc q) _ ls (reversed xs en) live v k r))
  on_applied {ys = ys} {zs = zs} {s = s} {z = z} {o = o} xs w q st ls live f_call en ez h v k r =
      follows_by_step G w (record {
        by = instruction_step G q (chain zs s z o) st ls h
            ∙ takes xs ys (suc q) st (λ items m.
            S.turn (code_of G) (store_of st ls) (S.invoked_with (machine G) (code_of G) items m)) en ez;
        whole = sets_no_label G q (chain zs s z o) st ls h refl;
      })
      (on_turn G st ls _ _ (on_calling (reverse xs) (suc q) _ ls (reversed xs en) live v k r))
  on_applied {ys = ys} {zs = zs} {s = s} {z = z} {o = o} xs w q st ls live f_spread en ez h v k r =
      follows_by_step G w (record {
        by = instruction_step G q (chain zs s z o) st ls h
            ∙ takes xs ys (suc q) st (λ items m.
            S.turn (code_of G) (store_of st ls) (S.applied_to_elements (machine G) (code_of G) items m)) en ez;
        whole = sets_no_label G q (chain zs s z o) st ls h refl;
      })
      (on_turn G st ls _ _ (on_spreading (reverse xs) (suc q) _ ls (reversed xs en) live v k r))
  on_applied {ys = ys} {zs = zs} {s = s} {z = z} {o = o} xs w q st ls live f_list en ez h v k r =
      follows_by_step G w (record {
        by = instruction_step G q (chain zs s z o) st ls h
            ∙ takes xs ys (suc q) st (λ items m.
            S.turn (code_of G) (store_of st ls)
            (λ st. S.with_values (machine G) items m st
            (λ values. S.list_made (machine G) values m st (λ list m st. S.push_item (machine G) (Val list) m st))))
            en ez;
        whole = sets_no_label G q (chain zs s z o) st ls h refl;
      })
      (on_turn G st ls _ _ (on_collecting (reverse xs) (suc q) _ ls live v k r))
  on_applied {ys = ys} {zs = zs} {s = s} {z = z} {o = o} xs w q st ls live
      (f_field {name = name} {k = field} f) en ez h v k r =
      follows_by_step G w (record {
        by = instruction_step G q (chain zs s z o) st ls h
            ∙ takes xs ys (suc q) st (λ items m.
            S.turn (code_of G) (store_of st ls) (S.field_applied (machine G) (code_of G) field items m)) en ez;
        whole = sets_no_label G q (chain zs s z o) st ls h refl;
      })
      (on_turn G st ls _ _ (on_taking name field (reverse xs) (suc q) _ ls (reversed xs en) f live v k r))
  on_applied {ys = ys} {zs = zs} {s = s} {z = z} {o = o} xs w q st ls live f_activate en ez h v k r =
      follows_by_step G w (record {
        by = instruction_step G q (chain zs s z o) st ls h
            ∙ takes xs ys (suc q) st (λ items m.
            S.turn (code_of G) (store_of st ls) (S.activation_of (machine G) items m)) en ez;
        whole = sets_no_label G q (chain zs s z o) st ls h refl;
      })
      (on_turn G st ls _ _ (on_activating (reverse xs) (suc q) _ ls (reversed xs en) live v k r))
