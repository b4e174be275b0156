-- What actions do, and the way out of loops.
use Rattle.std.proofs.Common.{◌≡◌, ℕ, suc, Bool, Option, List, [], ◌∷◌, ◌++◌, option_map, refl, sym, ap, ◌∙◌, subst, append_assoc}
use Rattle.std.specs.Prelude.{if◌then◌else◌}
use Rattle.icn_code.specs.declared.instr.Instr.{Instr}
use Rattle.icn_code.specs.declared.instr.Instr.TheVariants as I
use Rattle.icn_tree.specs.Trees.{Tree, Trees, MaybeTree, Clauses}
use Rattle.icn_value.specs.Values.{Value, Item, Val}
use Rattle.icn_meaning.specs.Contexts as M
use Rattle.icn_meaning.specs.Contexts.{Works, Choices, Action, Surroundings}
use Rattle.icn_meaning.specs.Scanning as MS
use Rattle.icn_meaning.specs.Actions as MA
use Rattle.icn_run.specs.Chains.{Label, Chain, chain, Suspensions, Outer, mark, limit, WaitingChain, frame_of, oldest as oldest_until, first_scan, leave_frame, saved_at}
use Rattle.icn_run.specs.Step as S
use Rattle.law_stacks.proofs.ScansLeft.{Apart}
use Rattle.law_stacks.proofs.Shadowed.{Shadowed, shadowed_step, shadowed_apart}
use Rattle.law_simulation.specs.Linkage.{Here, f_operation}
use Rattle.law_simulation.specs.StandingCode.{Nest, top, Proper, w_top, LeavesLoop, b_mark, b_scan, b_loop, b_control, b_each, Nexts, n_mark, n_scan, n_loop, n_each, Stands, s_absent, s_present, StandsCases, s_none, s_default, s_pass, s_guard, StandsRest, e_end, e_passed, e_blank, e_bounded, s_nil}
use Rattle.law_simulation.specs.Relation.{At, proc_in, OfWorks, k_goto, k_args, k_cut, OfSurroundings, v_scan, v_mark, v_limit, OfMark, m_plain, m_loop, m_control, m_each, OfAction, a_go, a_pop, a_give, a_fail, a_pass, a_body, a_try, a_rest, a_off, OfChoices, r_do, linked_of, store_of, at_eval, at_succeed, at_fail}
use Rattle.law_simulation.specs.Ground.{Ground, machine}
use Rattle.law_simulation.proofs.SimulationWords.{LinkedState, StepsTo, instruction_step, Reaches, Follows, LiveCoexpressions, running_at, failing_at, running_on, reached_already, follows_by_step, then_reach, steps_to_instruction, opens, loads, on_turn, sets_no_label}
use Rattle.law_simulation.specs.Linkage.{l_null}
use Rattle.law_simulation.proofs.WaysOut.{oldest, away, away_snoc, oldest_in_mark, left_by, all_scans_left, rest_of, running_call}

module _ (G : Ground) where
  -- a mark is dropped, with the scans os that were opened in it
  unmark_to : (scan : Option ℕ) (os : List ℕ) (m : Chain) (in_m : Chain) (p : ℕ) (st : M.Store)
      (ls : List (S.Coexp WaitingChain)) → scan ≡ oldest os
      → running_on (linked_of m p st) (S.scans_left (option_map (saved_at (linked_of in_m p st)) scan)
      (store_of st ls)) ≡ running_at m p (away os st) ls
  unmark_to scan os m in_m p st ls e =
      ap (λ scan. running_on (linked_of m p st)
      (S.scans_left (option_map (saved_at (linked_of in_m p st)) scan) (store_of st ls))) e
      ∙ ap (λ y. running_on (linked_of m p st) y) (left_by (oldest os) in_m p st ls)

  pub unmarks : {xs : List Item} {s : Suspensions} {z : List ℕ} {o : Outer} (l : Label) (zs : List Item)
      (s' : Suspensions) (os : List ℕ) (p : ℕ) (st : M.Store) (ls : List (S.Coexp WaitingChain))
      → Apart (first_scan z) os → At G.L o p I.Unmark
      → StepsTo G (running_at (chain zs s' (os ++ z) (mark l (chain xs s z o))) p st ls)
      (running_at (chain xs s z o) (suc p) (away os st) ls)
  unmarks {xs} {s} {z} {o} l zs s' os p st ls d h = let m =
      chain zs s' (os ++ z) (mark l (chain xs s z o)) in
      record {
        by = instruction_step G p m st ls h
            ∙ unmark_to (oldest_until (first_scan z) (os ++ z)) os (chain xs s z o) m (suc p) st ls
            (oldest_in_mark os z d);
        whole = sets_no_label G p m st ls h refl;
      }

  pub unmarks_limit : {xs : List Item} {s : Suspensions} {z : List ℕ} {o : Outer} (c : ℕ) (zs : List Item)
      (s' : Suspensions) (os : List ℕ) (p : ℕ) (st : M.Store) (ls : List (S.Coexp WaitingChain))
      → Apart (first_scan z) os → At G.L o p I.Unmark
      → StepsTo G (running_at (chain zs s' (os ++ z) (limit c (chain xs s z o))) p st ls)
      (running_at (chain xs s z o) (suc p) (away os st) ls)
  unmarks_limit {xs} {s} {z} {o} c zs s' os p st ls d h = let m =
      chain zs s' (os ++ z) (limit c (chain xs s z o)) in
      record {
        by = instruction_step G p m st ls h
            ∙ unmark_to (oldest_until (first_scan z) (os ++ z)) os (chain xs s z o) m (suc p) st ls
            (oldest_in_mark os z d);
        whole = sets_no_label G p m st ls h refl;
      }

  -- what the run comes to: it is followed by one on flat stacks, so that open scans are another each
  abbrev pub GoodState : LinkedState → Type 0
  GoodState l = Shadowed G.L.repeats G.L.tables l

  good_to : {l l' : LinkedState} → StepsTo G l l' → GoodState l → GoodState l'
  good_to {l} e g = subst GoodState e.by (shadowed_step G.L.repeats G.L.tables l g)

  good_mark : {zs xs : List Item} {s s' : Suspensions} {z : List ℕ} {o : Outer} (l : Label) (os : List ℕ)
      (p : ℕ) (st : M.Store) (ls : List (S.Coexp WaitingChain))
      → GoodState (running_at (chain zs s' (os ++ z) (mark l (chain xs s z o))) p st ls) → Apart (first_scan z) os
  good_mark l os p st ls g = shadowed_apart G.L.repeats G.L.tables _ _ g os refl

  good_limit : {zs xs : List Item} {s s' : Suspensions} {z : List ℕ} {o : Outer} (c : ℕ) (os : List ℕ)
      (p : ℕ) (st : M.Store) (ls : List (S.Coexp WaitingChain))
      → GoodState (running_at (chain zs s' (os ++ z) (limit c (chain xs s z o))) p st ls) → Apart (first_scan z) os
  good_limit c os p st ls g = shadowed_apart G.L.repeats G.L.tables _ _ g os refl

  pub unmark : {xs : List Item} {s : Suspensions} {z : List ℕ} {o : Outer} (l : Label) (zs : List Item)
      (s' : Suspensions) (p : ℕ) (st : M.Store) (ls : List (S.Coexp WaitingChain)) → At G.L o p I.Unmark
      → StepsTo G (running_at (chain zs s' z (mark l (chain xs s z o))) p st ls) (running_at (chain xs s z o) (suc p) st ls)
  unmark l zs s' p st ls h = unmarks l zs s' [] p st ls tt h

  pub unmark_limit : {xs : List Item} {s : Suspensions} {z : List ℕ} {o : Outer} (c : ℕ) (zs : List Item)
      (s' : Suspensions) (p : ℕ) (st : M.Store) (ls : List (S.Coexp WaitingChain)) → At G.L o p I.Unmark
      → StepsTo G (running_at (chain zs s' z (limit c (chain xs s z o))) p st ls) (running_at (chain xs s z o) (suc p) st ls)
  unmark_limit c zs s' p st ls h = unmarks_limit c zs s' [] p st ls tt h

  pub pops : {xs : List Item} {s : Suspensions} {z : List ℕ} {o : Outer} (x : Item) (p : ℕ) (st : M.Store)
      (ls : List (S.Coexp WaitingChain)) → At G.L o p I.Pop
      → StepsTo G (running_at (chain (x ∷ xs) s z o) p st ls) (running_at (chain xs s z o) (suc p) st ls)
  pops {xs} {s} {z} {o} x p st ls h = steps_to_instruction G p (chain (x ∷ xs) s z o) st ls h refl

  pub gotos : {xs : List Item} {s : Suspensions} {z : List ℕ} {o : Outer} {q : ℕ} (p : ℕ) (st : M.Store)
      (ls : List (S.Coexp WaitingChain)) → At G.L o p (I.Goto q)
      → StepsTo G (running_at (chain xs s z o) p st ls) (running_at (chain xs s z o) q st ls)
  gotos {xs} {s} {z} {o} p st ls h = steps_to_instruction G p (chain xs s z o) st ls h refl

  pub efails : {xs : List Item} {s : Suspensions} {z : List ℕ} {o : Outer} (p : ℕ) (st : M.Store)
      (ls : List (S.Coexp WaitingChain)) → At G.L o p I.Efail
      → StepsTo G (running_at (chain xs s z o) p st ls) (failing_at (chain xs s z o) (suc p) st ls)
  efails {xs} {s} {z} {o} p st ls h = steps_to_instruction G p (chain xs s z o) st ls h refl

  pub off_goes : {first : Bool} {n : Nest} {v : Surroundings} {xs : List Item} {s : Suspensions}
      {z : List ℕ} {o : Outer} (w p : ℕ) (st : M.Store) (ls : List (S.Coexp WaitingChain))
      → LiveCoexpressions G first st.active st.coexpressions ls → Proper n → At G.L o p I.Pfail
      → OfSurroundings G.L first n v z o → Follows G w (MA.off v st) (running_at (chain xs s z o) p st ls)
  off_goes {v = v} {xs = xs} {s = s} {z = z} {o = o} w0 p st ls live w h v1 = let d = running_call G w v1 in
      let m = chain xs s z o in
      follows_by_step G w0 (steps_to_instruction G p m st ls h refl)
      (subst (λ b. Reaches G (MA.off v st)
      (if b then S.stuck else S.proc_fails (machine G) (linked_of m (suc p) st) (store_of st ls)))
      (sym (d.no_body st.active live.0))
      (subst (λ y. Reaches G (MA.off v st)
      (S.return_to (leave_frame (linked_of m (suc p) st) (frame_of o)) S.failing y))
      (sym (all_scans_left (oldest z) m (suc p) st ls)) (d.gone m (suc p) st ls live)))

  pub on_off : {first : Bool} {n : Nest} {v : Surroundings} {xs : List Item} {s : Suspensions} {z : List ℕ}
      {o : Outer} (p : ℕ) (st : M.Store) (ls : List (S.Coexp WaitingChain))
      → LiveCoexpressions G first st.active st.coexpressions ls → Proper n → At G.L o p I.Pfail
      → OfSurroundings G.L first n v z o → Reaches G (MA.off v st) (running_at (chain xs s z o) p st ls)
  on_off p st ls live w h v = (off_goes 0 p st ls live w h v).reach

  pub on_rest : {first : Bool} {o : Outer} {es : Trees} {v : Surroundings} {r : Choices} {xs : List Item}
      {s : Suspensions} {z : List ℕ} (p : ℕ) (st : M.Store) (ls : List (S.Coexp WaitingChain))
      → LiveCoexpressions G first st.active st.coexpressions ls → StandsRest G.L (proc_in o) es p
      → OfSurroundings G.L first top v z o → OfChoices G.L first r s z o
      → Reaches G (MA.rest es v r st) (running_at (chain xs s z o) p st ls)
  on_rest p st ls live (e_end h) v r = on_off p st ls live w_top h v
  on_rest p st ls live (e_passed e) v r = on_rest p st ls live e v r
  on_rest p st ls live (e_blank o h1 h2 e) v r =
      then_reach G (opens G p st ls o)
      (then_reach G (loads G _ st ls h1 l_null)
      (then_reach G (unmark _ _ _ _ st ls h2) (on_rest _ st ls live e v r)))
  on_rest {o = o'} {v = v'} {r = r'} {xs = xs} {s = s} {z = z} p st ls live
      (e_bounded {e = t} {es = ts} ne o e u es) v r =
      subst (λ y. Reaches G y (running_at (chain xs s z o') p st ls)) (sym (rest_of t ts v' r' st ne))
      (then_reach G (opens G p st ls o)
      (reached_already G (at_eval live.0 live.1 e (v_mark (m_plain v)) (k_cut u r (a_rest es v))
      (r_do (a_rest es v) r))))

  pub on_try : {first : Bool} {o : Outer} {n : Nest} {value : Value} {cases : Clauses} {default : MaybeTree}
      {v : Surroundings} {k : Works} {r : Choices} {l : ℕ} {xs : List Item} {s : Suspensions} {z : List ℕ}
      (p : ℕ) (st : M.Store) (ls : List (S.Coexp WaitingChain)) → LiveCoexpressions G first st.active st.coexpressions ls
      → StandsCases G.L (proc_in o) n cases default p l → OfSurroundings G.L first n v z o
      → OfWorks G.L first k l xs z o → OfChoices G.L first r s z o
      → Reaches G (MA.try value cases default v k r st) (running_at (chain (Val value ∷ xs) s z o) p st ls)
  on_try p st ls live (s_none h1 h2) v k r =
      then_reach G (pops _ p st ls h1) (then_reach G (efails _ st ls h2) (reached_already G (at_fail live.0 live.1 r)))
  on_try p st ls live (s_default h e) v k r =
      then_reach G (pops _ p st ls h) (reached_already G (at_eval live.0 live.1 e v k r))
  on_try p st ls live (s_pass c) v k r = on_try p st ls live c v k r
  on_try {value = value} {xs = xs} {s = s} {z = z} p st ls live (s_guard o h1 c h2 h3 h4 b g cs) v k r =
      then_reach G (opens G p st ls o) (then_reach G (steps_to_instruction G (suc p) _ st ls h1 refl)
      (reached_already G (at_eval live.0 live.1 c (v_mark (m_plain v))
      (k_args {xs = Val value ∷ []} {ys = []} s_nil h2 f_operation refl refl (v_mark (m_plain v))
      (k_cut h3 r (a_pop h4 (a_go b v (k_goto g k))))) (r_do (a_try cs v k) r))))

  pub on_action : {first : Bool} {a : Action} {r : Choices} {xs : List Item} {s : Suspensions} {z : List ℕ}
      {o : Outer} (p : ℕ) (st : M.Store) (ls : List (S.Coexp WaitingChain))
      → LiveCoexpressions G first st.active st.coexpressions ls → OfAction G.L first a p xs s z o
      → OfChoices G.L first r s z o → Reaches G (MA.act a r st) (running_at (chain xs s z o) p st ls)
  on_action p st ls live (a_go e v k) r = reached_already G (at_eval live.0 live.1 e v k r)
  on_action p st ls live (a_pop h a) r = then_reach G (pops _ p st ls h) (on_action _ st ls live a r)
  on_action p st ls live (a_give h l k) r =
      then_reach G (loads G p st ls h l) (reached_already G (at_succeed live.0 live.1 k r))
  on_action p st ls live (a_fail h) r = then_reach G (efails p st ls h) (reached_already G (at_fail live.0 live.1 r))
  on_action {xs = xs} {s = s} {z = z} {o = o} p st ls live (a_pass {p' = p'} h e v k) r =
      then_reach G (steps_to_instruction G p _ st ls h refl)
      (on_turn G st ls _ (λ st'. running_on (linked_of (chain xs s z o) p' st) st')
      (reached_already G (at_eval live.0 live.1 e v k r)))
  on_action p st ls live (a_body s_absent a m) r = on_action p st ls live a r
  on_action p st ls live (a_body (s_present o b u) a m) r =
      then_reach G (opens G p st ls o) (reached_already G (at_eval live.0 live.1 b (v_mark m) (k_cut u r a) (r_do a r)))
  on_action p st ls live (a_try c v k) r = on_try p st ls live c v k r
  on_action p st ls live (a_rest e v) r = on_rest p st ls live e v r
  on_action p st ls live (a_off w h v) r = on_off p st ls live w h v

  moved : {j j' : ℕ} {i : Instr} (p : ℕ) → j ≡ j' → Here G.L j p i → Here G.L j' p i
  moved {i = i} p e h = subst (λ j. Here G.L j p i) e h

  stands_moved : {j j' p q : ℕ} {n : Nest} {e : Tree} → j ≡ j' → Stands G.L j n e p q → Stands G.L j' n e p q
  stands_moved {p = p} {q = q} {n = n} {e = t} e h = subst (λ j. Stands G.L j n t p q) e h

  -- the unmarks of a `break`, past the scans os that are open in the innermost mark
  mutual
    pub on_break : {first : Bool} {j : ℕ} {n n' : Nest} {v : Surroundings} {e : Tree} {q m l : ℕ}
        {xs : List Item} {s : Suspensions} {z : List ℕ} {o : Outer} (p : ℕ) (st : M.Store)
        (ls : List (S.Coexp WaitingChain)) → GoodState (running_at (chain xs s z o) p st ls)
        → LiveCoexpressions G first st.active st.coexpressions ls → j ≡ proc_in o → LeavesLoop G.L j n p q n' l
        → OfMark G.L first n v xs s z o → Stands G.L j n' e q m → Here G.L j m (I.Goto l)
        → Reaches G (MA.break e v st) (running_at (chain xs s z o) p st ls)
    on_break p st ls good live ej (b_mark h u) (m_plain (v_mark v)) e g =
        (let u1 = unmark _ _ _ p st ls (moved _ ej h) in
        then_reach G u1 (on_break _ st ls (good_to u1 good) live ej u v e g))
    on_break p st ls good live ej (b_mark h u) (m_plain (v_limit v)) e g =
        (let u1 = unmark_limit _ _ _ p st ls (moved _ ej h) in
        then_reach G u1 (on_break _ st ls (good_to u1 good) live ej u v e g))
    on_break p st ls good live ej (b_scan u) (m_plain (v_scan {i = i} v)) e g =
        (on_break_at (i ∷ []) 0 p st ls good live ej u v e g).reach
    on_break p st ls good live ej b_loop (m_plain v) e g = elim v [ ]
    on_break p st ls good live ej b_loop (m_loop k r a rn v) e g =
        reached_already G (at_eval live.0 live.1 (stands_moved ej e) v (k_goto (moved _ ej g) k) r)
    on_break p st ls good live ej b_control (m_plain v) e g = elim v [ ]
    on_break p st ls good live ej b_control (m_control k r v) e g =
        reached_already G (at_eval live.0 live.1 (stands_moved ej e) v (k_goto (moved _ ej g) k) r)
    on_break p st ls good live ej (b_each h) (m_plain v) e g = elim v [ ]
    on_break p st ls good live ej (b_each h) (m_each h' k r rn v) e g =
        then_reach G (unmark _ _ _ p st ls (moved _ ej h))
        (reached_already G (at_eval live.0 live.1 (stands_moved ej e) v (k_goto (moved _ ej g) k) r))

    pub on_break_at : {first : Bool} {j : ℕ} {n n' : Nest} {v : Surroundings} {e : Tree} {q m l : ℕ}
        {xs : List Item} {s : Suspensions} {z : List ℕ} {o : Outer} (os : List ℕ) (w p : ℕ) (st : M.Store)
        (ls : List (S.Coexp WaitingChain)) → GoodState (running_at (chain xs s (os ++ z) o) p st ls)
        → LiveCoexpressions G first st.active st.coexpressions ls → j ≡ proc_in o → LeavesLoop G.L j n p q n' l
        → OfSurroundings G.L first n v z o → Stands G.L j n' e q m → Here G.L j m (I.Goto l)
        → Follows G w (MA.break e v (away os st)) (running_at (chain xs s (os ++ z) o) p st ls)
    on_break_at os w p st ls good live ej (b_mark h u) (v_mark v) e g =
        (let u1 = unmarks _ _ _ os p st ls (good_mark _ os p st ls good) (moved _ ej h) in
        follows_by_step G w u1 (on_break _ (away os st) ls (good_to u1 good) live ej u v e g))
    on_break_at os w p st ls good live ej (b_mark h u) (v_limit v) e g =
        (let u1 = unmarks_limit _ _ _ os p st ls (good_limit _ os p st ls good) (moved _ ej h) in
        follows_by_step G w u1 (on_break _ (away os st) ls (good_to u1 good) live ej u v e g))
    on_break_at {e = te} {xs = xs} {s = s} {o = o} os w p st ls good live ej (b_scan u)
        (v_scan {v = v'} {i = i} {z = z} v) e g =
        subst (λ l. Follows G w (MA.break te v' (MS.restore_pair i st)) (running_at (chain xs s l o) p st ls))
        (append_assoc os (i ∷ []) z)
        (subst (λ y. Follows G w (MA.break te v' y) (running_at (chain xs s ((os ++ i ∷ []) ++ z) o) p st ls))
        (away_snoc os i st) (on_break_at (os ++ i ∷ []) w p st ls
        (subst (λ l. GoodState (running_at (chain xs s l o) p st ls)) (sym (append_assoc os (i ∷ []) z)) good) live
        ej u v e g))
    on_break_at os w p st ls good live ej b_loop v e g = elim v [ ]
    on_break_at os w p st ls good live ej b_control v e g = elim v [ ]
    on_break_at os w p st ls good live ej (b_each h) v e g = elim v [ ]

  mutual
    pub on_next : {first : Bool} {j : ℕ} {n : Nest} {v : Surroundings} {q g : ℕ} {xs : List Item}
        {s : Suspensions} {z : List ℕ} {o : Outer} (p : ℕ) (st : M.Store) (ls : List (S.Coexp WaitingChain))
        → GoodState (running_at (chain xs s z o) p st ls) → LiveCoexpressions G first st.active st.coexpressions ls → j ≡ proc_in o
        → Nexts G.L j n p q g → OfMark G.L first n v xs s z o → Here G.L j q (I.Goto g)
        → Reaches G (MA.next v st) (running_at (chain xs s z o) p st ls)
    on_next p st ls good live ej (n_mark h u) (m_plain (v_mark v)) g =
        (let u1 = unmark _ _ _ p st ls (moved _ ej h) in
        then_reach G u1 (on_next _ st ls (good_to u1 good) live ej u v g))
    on_next p st ls good live ej (n_mark h u) (m_plain (v_limit v)) g =
        (let u1 = unmark_limit _ _ _ p st ls (moved _ ej h) in
        then_reach G u1 (on_next _ st ls (good_to u1 good) live ej u v g))
    on_next p st ls good live ej (n_scan u) (m_plain (v_scan {i = i} v)) g =
        (on_next_at (i ∷ []) 0 p st ls good live ej u v g).reach
    on_next p st ls good live ej n_loop (m_plain v) g = elim v [ ]
    on_next p st ls good live ej n_loop (m_loop k r a rn v) g =
        then_reach G (gotos p st ls (moved _ ej g)) (on_action _ st ls live a rn)
    on_next p st ls good live ej n_each (m_plain v) g = elim v [ ]
    on_next p st ls good live ej n_each (m_each h k r rn v) g =
        then_reach G (gotos p st ls (moved _ ej g))
        (then_reach G (efails _ st ls h) (reached_already G (at_fail live.0 live.1 rn)))

    pub on_next_at : {first : Bool} {j : ℕ} {n : Nest} {v : Surroundings} {q g : ℕ} {xs : List Item}
        {s : Suspensions} {z : List ℕ} {o : Outer} (os : List ℕ) (w p : ℕ) (st : M.Store)
        (ls : List (S.Coexp WaitingChain)) → GoodState (running_at (chain xs s (os ++ z) o) p st ls)
        → LiveCoexpressions G first st.active st.coexpressions ls → j ≡ proc_in o → Nexts G.L j n p q g
        → OfSurroundings G.L first n v z o → Here G.L j q (I.Goto g)
        → Follows G w (MA.next v (away os st)) (running_at (chain xs s (os ++ z) o) p st ls)
    on_next_at os w p st ls good live ej (n_mark h u) (v_mark v) g =
        (let u1 = unmarks _ _ _ os p st ls (good_mark _ os p st ls good) (moved _ ej h) in
        follows_by_step G w u1 (on_next _ (away os st) ls (good_to u1 good) live ej u v g))
    on_next_at os w p st ls good live ej (n_mark h u) (v_limit v) g =
        (let u1 = unmarks_limit _ _ _ os p st ls (good_limit _ os p st ls good) (moved _ ej h) in
        follows_by_step G w u1 (on_next _ (away os st) ls (good_to u1 good) live ej u v g))
    on_next_at {xs = xs} {s = s} {o = o} os w p st ls good live ej (n_scan u)
        (v_scan {v = v'} {i = i} {z = z} v) g =
        subst (λ l. Follows G w (MA.next v' (MS.restore_pair i st)) (running_at (chain xs s l o) p st ls))
        (append_assoc os (i ∷ []) z)
        (subst (λ y. Follows G w (MA.next v' y) (running_at (chain xs s ((os ++ i ∷ []) ++ z) o) p st ls))
        (away_snoc os i st) (on_next_at (os ++ i ∷ []) w p st ls
        (subst (λ l. GoodState (running_at (chain xs s l o) p st ls)) (sym (append_assoc os (i ∷ []) z)) good) live
        ej u v g))
    on_next_at os w p st ls good live ej n_loop v g = elim v [ ]
    on_next_at os w p st ls good live ej n_each v g = elim v [ ]
