-- What each choice does where something fails.
use Rattle.std.proofs.Common.{◌≡◌, ℕ, suc, ◌&&◌, not, Bool, true, false, List, [], ◌∷◌, None, refl, sym, ap, ◌∙◌, subst}
use Rattle.std.specs.Prelude.{slice_index_or, slice_set, if◌then◌else◌}
use Rattle.icn_code.specs.declared.instr.Instr.TheVariants as I
use Rattle.icn_tree.specs.Trees.{Tree, MaybeTree}
use Rattle.icn_value.specs.Values.{Item}
use Rattle.icn_meaning.specs.Contexts as M
use Rattle.icn_meaning.specs.Contexts.{Works, Choices, Surroundings}
use Rattle.icn_meaning.specs.Turns as MT
use Rattle.icn_meaning.specs.Scanning as MS
use Rattle.icn_meaning.specs.Coexpressions as MX
use Rattle.icn_meaning.specs.Fail as MF
use Rattle.icn_run.specs.Chains.{flagged, chain, Suspensions, none, Outer, base, mark, WaitingChain, swap_at}
use Rattle.icn_run.specs.Step as S
use Rattle.law_simulation.specs.Linkage.{Here}
use Rattle.law_simulation.specs.StandingCode.{Nest, in_mark, Stands, StandsMaybe, s_absent, s_present}
use Rattle.law_simulation.specs.Relation.{At, proc_in, activation_in, OfWorks, k_esusp, k_raise, k_cut, OfSurroundings, v_mark, m_plain, a_fail, OfChoices, r_end, r_call, r_exhaust, r_alt, r_mark0, r_limit, r_efail, r_do, r_again, r_resume, r_restore, r_reenter, r_back, t_exhausted, linked_of, store_of, at_eval, at_fail, at_over}
use Rattle.law_simulation.specs.Ground.{Ground, code_of, machine}
use Rattle.law_simulation.proofs.SimulationWords.{instruction_step, Reaches, Follows, LiveCoexpressions, running_at, failing_at, running_on, reached_already, follows_by_step, then_reach, opens, on_turn, sets_no_label}
use Rattle.law_simulation.proofs.WaysOut.{oldest, same_scans}
use Rattle.law_simulation.proofs.ActionSteps.{pops, efails, on_action}
use Rattle.law_simulation.proofs.BothCoexpressions.{coexpression_at, status_all}
use Rattle.law_simulation.proofs.WorkSteps.{exchanged_of, on_exchanged}
use Rattle.law_simulation.proofs.BothCoexpressions.{on_failed}
use Rattle.law_simulation.proofs.SimulationWords.{on_answer}
use Rattle.icn_defs.specs.Applying.{again}
use Rattle.icn_run.specs.Chains.{repeat_mark}

module _ (G : Ground) where
  on_exhaust : {first : Bool} {j a : ℕ} {xs : List Item} {s : Suspensions} {z : List ℕ} (p : ℕ)
      (st : M.Store) (ls : List (S.Coexp WaitingChain)) → LiveCoexpressions G first st.active st.coexpressions ls
      → first ≡ false → Here G.L j p I.Cofail
      → Reaches G (MX.exhaust st) (running_at (chain xs s z (base j a)) p st ls)
  on_exhaust {first = first} {j = j} {a = a} {xs = xs} {s = s} {z = z} p st ls live e h = let m =
      chain xs s z (base j a) in
      then_reach G (record {
        by = instruction_step G p m st ls h
            ∙ ap (λ b. if (true && not b) then S.exhaust_active (machine G) (code_of G) (linked_of m (suc p) st)
            (store_of st ls) else S.stuck) (sym live.0 ∙ e);
        whole = sets_no_label G p m st ls h refl;
      })
      (on_turn G st ls _ _ (failed (record st { turns = suc st.turns }) live))
    where
      failed : (st : M.Store) → LiveCoexpressions G first st.active st.coexpressions ls
          → Reaches G (MX.fail_coexp (MX.activator_of st.active st) (MX.with_status st.active M.Exhausted st))
          (S.passed_failure (machine G) (S.activator_of st.active (store_of st ls))
          (linked_of (chain xs s z (base j a)) (suc p) st)
          (S.with_status st.active S.Exhausted (store_of st ls)))
      failed st live = let ST = MX.with_status st.active M.Exhausted st in
          subst (λ n. Reaches G (MX.fail_coexp n ST)
          (S.passed_failure (machine G) (S.activator_of st.active (store_of st ls))
          (linked_of (chain xs s z (base j a)) (suc p) st)
          (S.with_status st.active S.Exhausted (store_of st ls))))
          (sym (coexpression_at G live.1 st.active).activator)
          (on_failed G (S.activator_of st.active (store_of st ls)) (chain xs s z (base j a)) (suc p) ST _
          (status_all G live.1 st.active t_exhausted))

  on_again : {first : Bool} {n : Nest} {e : Tree} {v : Surroundings} {k : Works} {r : Choices} {q : ℕ}
      {xs : List Item} {s : Suspensions} {z : List ℕ} {o : Outer} (f : ℕ) (ys : List Item) (z' : List ℕ)
      (b : Bool) (p p' : ℕ) (st : M.Store) (ls : List (S.Coexp WaitingChain))
      → LiveCoexpressions G first st.active st.coexpressions ls → Stands G.L (proc_in o) (in_mark n) e (suc p) q
      → At G.L o q (I.Chfail p) → At G.L o (suc q) I.Esusp → OfSurroundings G.L first n v z o
      → OfWorks G.L first k (suc (suc q)) xs z o → OfChoices G.L first r s z o →
      Reaches G (MF.again_if b e v f k r st)
      (S.mark_dropped (machine G) (code_of G)
      (linked_of (chain ys none z' (mark (flagged None f p) (chain xs s z o))) p' st) (store_of st ls)
      (repeat_mark None f p (chain xs s z o)
      (linked_of (chain ys none z' (mark (flagged None f p) (chain xs s z o))) p' st) b))
  on_again f ys z' false p p' st ls live e h1 h2 v k r = reached_already G (at_fail live.0 live.1 r)
  on_again {xs = xs} {s = s} {z = z} {o = o} f ys z' true p p' st ls live e h1 h2 v k r =
      on_turn G st ls _ (λ st'. running_on (linked_of (chain [] none z (mark (flagged None f p) (chain xs s z o)))
      (suc p) (record st { flags = slice_set st.flags f false })) st')
      (reached_already G (at_eval live.0 live.1 e (v_mark (m_plain v)) (k_raise h1 (k_esusp h2 k))
      (r_again e h1 h2 v k r)))

  on_back : {first : Bool} {n : Nest} {b : MaybeTree} {v : Surroundings} {r : Choices} {q : ℕ}
      {xs : List Item} {s : Suspensions} {z : List ℕ} {o : Outer} (p : ℕ) (st : M.Store)
      (ls : List (S.Coexp WaitingChain)) → LiveCoexpressions G first st.active st.coexpressions ls
      → StandsMaybe G.L (proc_in o) n b p q → At G.L o q I.Efail → OfSurroundings G.L first n v z o
      → OfChoices G.L first r s z o →
      Reaches G (MF.back b v r st) (running_at (chain xs s z o) p st ls)
  on_back p st ls live s_absent h v r = then_reach G (efails G p st ls h) (reached_already G (at_fail live.0 live.1 r))
  on_back p st ls live (s_present o b u) h v r =
      then_reach G (opens G p st ls o)
      (reached_already G (at_eval live.0 live.1 b (v_mark (m_plain v)) (k_cut u r (a_fail h)) (r_efail h r)))

  pub on_choices : {first : Bool} {r : Choices} {xs : List Item} {s : Suspensions} {z : List ℕ} {o : Outer}
      (p : ℕ) (st : M.Store) (ls : List (S.Coexp WaitingChain)) → LiveCoexpressions G first st.active st.coexpressions ls
      → OfChoices G.L first r s z o → Follows G 0 (MF.on_fail r st) (failing_at (chain xs s z o) p st ls)
  on_choices {xs = xs} p st ls live (r_end {j = j} {a = a} e) =
      follows_by_step G 0 (record {
        by = ap (λ b.
            if (true && not b) then S.exhaust_active (machine G) (code_of G)
            (linked_of (chain xs none [] (base j a)) p st)
            (store_of st ls) else (if b then S.over_with M.Done st.world st.outside else S.stuck)) (sym live.0 ∙ e);
        whole = λ x. x;
      })
      (reached_already G at_over)
  on_choices p st ls live (r_call r) = follows_by_step G 0 (record { by = refl; whole = λ x. x }) (on_choices _ st ls live r).reach
  on_choices p st ls live (r_exhaust e h) = follows_by_step G 0 (record { by = refl; whole = λ x. x }) (on_exhaust _ st ls live e h)
  on_choices p st ls live (r_alt r) = follows_by_step G 0 (record { by = refl; whole = λ x. x }) (on_choices _ st ls live r).reach
  on_choices p st ls live (r_mark0 r) = follows_by_step G 0 (record { by = refl; whole = λ x. x }) (on_choices p st ls live r).reach
  on_choices p st ls live (r_limit r) = follows_by_step G 0 (record { by = refl; whole = λ x. x }) (on_choices p st ls live r).reach
  on_choices p st ls live (r_efail h r) =
      follows_by_step G 0 (record { by = refl; whole = λ x. x }) (then_reach G (efails G _ st ls h) (on_choices _ st ls live r).reach)
  on_choices p st ls live (r_do a r) = follows_by_step G 0 (record { by = refl; whole = λ x. x }) (on_action G _ st ls live a r)
  on_choices p st ls live (r_again {f = f} e h1 h2 v k r) =
      follows_by_step G 0 (record { by = refl; whole = λ x. x })
      (on_again f _ _ (slice_index_or st.flags f false) _ p st ls live e h1 h2 v k r)
  on_choices p st ls live (r_resume {m = m} {o = o} k r) =
      follows_by_step G 0 (record { by = refl; whole = λ x. x })
      (on_turn G st ls _ _ (on_answer G
      (again m (MT.setting_in (activation_in o) (record st { turns = suc st.turns })))
      (record st { turns = suc st.turns }) ls live k r))
  on_choices p st ls live (r_restore r) = follows_by_step G 0 (record { by = refl; whole = λ x. x }) (reached_already G (at_fail live.0 live.1 r))
  on_choices p st ls live (r_reenter r) = follows_by_step G 0 (record { by = refl; whole = λ x. x }) (reached_already G (at_fail live.0 live.1 r))
  on_choices {first = first} p st ls live
      (r_back {b = b'} {v = v'} {r = r'} {p = q} {x = x} {xs = xs} {s = s} {z = z} {o = o} h b h2 v r) =
      let m = chain (x ∷ xs) s z o in
      follows_by_step G 0 (record { by = refl; whole = λ x. x })
      (on_turn G st ls _ _ (returns (record st { turns = suc st.turns }) live))
    where
      returns : (st : M.Store) → LiveCoexpressions G first st.active st.coexpressions ls
          → Reaches G (MF.back b' v' r' (MS.exchanged_oldest v' st))
          (S.maybe_exchanged (swap_at (S.pair_now (store_of st ls)) (linked_of (chain (x ∷ xs) s z o) q st)
          (oldest z)) (linked_of (chain (x ∷ xs) s z o) q st) (store_of st ls) running_on)
      returns st live = let m = chain (x ∷ xs) s z o in
          subst (λ st'. Reaches G (MF.back b' v' r' st')
          (S.maybe_exchanged (swap_at (S.pair_now (store_of st ls)) (linked_of m q st) (oldest z))
          (linked_of m q st) (store_of st ls) running_on))
          (sym (ap (λ z. MS.exchanged_if z st) (sym (same_scans G v)) ∙ exchanged_of z st))
          (on_exchanged G (oldest z) m q st ls (λ st. MF.back b' v' r' st) running_on live
          (λ st live. then_reach G (pops G x q st ls h) (on_back _ st ls live b h2 v r)))
