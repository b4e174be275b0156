-- What each work does with a result.
use Rattle.std.proofs.Common.{◌≡◌, ℕ, zero, suc, ◌&&◌, not, Bool, true, false, List, [], ◌∷◌, Option, Some, None, option_map, ℤ, pos, negsuc, refl, sym, ap, ◌∙◌, subst, arith}
use Rattle.std.specs.Prelude.{slice_set, if◌then◌else◌}
use Rattle.icn_code.specs.declared.instr.Instr.TheVariants as I
use Rattle.icn_text.specs.declared.op.Op.{Op}
use Rattle.icn_text.specs.declared.op.Op.TheVariants as Ops
use Rattle.icn_tree.specs.declared.token.Operator.{Operator}
use Rattle.icn_tree.specs.declared.token.Operator.TheVariants as Signs
use Rattle.icn_tree.specs.Trees.{Tree, MaybeTree, NoTrees}
use Rattle.icn_value.specs.Values as V
use Rattle.icn_value.specs.Values.{Value, Item, Val, Var}
use Rattle.icn_defs.specs.Conversions.{integer_of}
use Rattle.icn_defs.specs.StepRows.{text_row}
use Rattle.icn_meaning.specs.Contexts as M
use Rattle.icn_meaning.specs.Contexts.{Operating, Works, ◌and_then◌, Choices, Surroundings}
use Rattle.icn_meaning.specs.Operators.{update_op}
use Rattle.icn_meaning.specs.Turns as MT
use Rattle.icn_meaning.specs.Scanning as MS
use Rattle.icn_meaning.specs.Coexpressions as MX
use Rattle.icn_meaning.specs.Calls as MC
use Rattle.icn_meaning.specs.Succeed as MW
use Rattle.icn_run.specs.Chains.{Label, flagged, Chain, chain, Suspensions, Outer, base, mark, limit, WaitingChain, LinkedStack, frame_of, oldest as oldest_until, first_scan, swap_at, relabelled_if, leave_frame, saved_at}
use Rattle.icn_run.specs.Step as S
use Rattle.law_simulation.specs.Linkage.{Here, f_operation}
use Rattle.law_simulation.specs.StandingCode.{Nest, in_mark, in_scan, Stands, s_nil, s_cons, StandsMaybe, s_absent, s_present, d_activate, d_operate}
use Rattle.law_simulation.specs.Relation.{At, proc_in, activation_in, OfWorks, k_goto, k_esusp, k_raise, k_args, k_then, k_cut, k_limit, k_count, k_scan, k_leave, k_update_both, k_update_scan, k_update, k_each, k_select, k_return, k_suspend, k_result, OfSurroundings, v_scan, v_mark, v_limit, m_plain, m_each, a_fail, OfChoices, r_alt, r_limit, r_efail, r_restore, r_reenter, r_back, t_after, linked_of, store_of, at_eval, at_succeed, at_fail}
use Rattle.law_simulation.specs.Ground.{Ground, code_of, machine}
use Rattle.law_simulation.proofs.SimulationWords.{LinkedState, StepsTo, instruction_step, Reaches, Follows, LiveCoexpressions, running_at, running_on, silent_weight, weight, reached_already, follows_silently, follows_by_step, then_reach, steps_to_instruction, opens, on_turn, on_value, on_made, errors_agree, sets_no_label}
use Rattle.law_simulation.proofs.WaysOut.{oldest, oldest_in_mark, all_scans_left, same_activation, same_scans, running_call}
use Rattle.law_simulation.proofs.ActionSteps.{unmark, pops, gotos, efails, on_action, on_try}
use Rattle.law_simulation.proofs.BothCoexpressions.{coexpression_at, status_all, on_entered}
use Rattle.law_simulation.proofs.Application.{equal_self, on_applied}

-- the pair that an oldest scan saved changes places with the present one
abbrev pub exchanged_by : Option ℕ → M.Store → M.Store
exchanged_by None st = st
exchanged_by (Some n) st = MS.exchange_pairs n st

pub exchanged_of : (z : List ℕ) (st : M.Store) → MS.exchanged_if z st ≡ exchanged_by (oldest z) st
exchanged_of [] st = refl
exchanged_of (i ∷ []) st = refl
exchanged_of (i ∷ j ∷ z) st = exchanged_of (j ∷ z) st

update_of : (o : Operator) {op : Op} (x : Item) (y : Tree) (v : Surroundings) (k : Works) (r : Choices) (st : M.Store)
    → update_op o ≡ Some op → MW.update o x y v k r st ≡ M.eval y v
    (M.Args (Operating op) (x ∷ []) NoTrees v and_then M.Args (Operating Ops.Assign) (x ∷ [])
    NoTrees v and_then k) r st
update_of Signs.Ampersand x y v k r st e = absurd (cc)
update_of Signs.Question x y v k r st e = absurd (cc)
update_of Signs.At x y v k r st e = absurd (cc)
update_of o x y v k r st e = ap (λ (found : Option Op). MW.update_by found x y v k r st) e

module _ (G : Ground) where
  -- the innermost mark is dropped, with no scan opened in it, and an item is pushed
  unmarked_push : {s' : M.Evaluation} (x : Item) (m in_m : Chain) (z : List ℕ) (p : ℕ) (st : M.Store)
      (ls : List (S.Coexp WaitingChain)) → Reaches G s' (S.push_item (machine G) x (linked_of m p st) (store_of st ls))
      → Reaches G s' (S.push_item (machine G) x (linked_of m p st)
      (S.scans_left (option_map (saved_at (linked_of in_m p st)) (oldest_until (first_scan z) z))
      (store_of st ls)))
  unmarked_push {s'} x m in_m z p st ls h =
      subst (λ scan. Reaches G s' (S.push_item (machine G) x (linked_of m p st)
      (S.scans_left (option_map (saved_at (linked_of in_m p st)) scan) (store_of st ls))))
      (sym (oldest_in_mark [] z tt)) h

  on_outgoing : {first : Bool} {r : Choices} {a : ℕ} {s : Suspensions} {z : List ℕ} {o : Outer} (p : ℕ)
      (xs : List Item) (x : Item) (st : M.Store) (ls : List (S.Coexp WaitingChain)) (f : Item → M.Evaluation)
      (g : Item → LinkedState) → a ≡ activation_in o → LiveCoexpressions G first st.active st.coexpressions ls
      → OfChoices G.L first r s z o → ((x : Item) → Reaches G (f x) (g x))
      → Reaches G (MT.with_outgoing x a r st f)
      (S.with_result (machine G) x (linked_of (chain xs s z o) p st) (store_of st ls) g)
  on_outgoing p xs (Var (V.Whole (V.Local n))) st ls f g e live r h =
      on_value G p xs (Var (V.Whole (V.Local n))) st ls _ _ e live r (λ v. h (Val v))
  on_outgoing p xs (Var (V.Part (V.Local n) place size)) st ls f g e live r h =
      on_value G p xs (Var (V.Part (V.Local n) place size)) st ls _ _ e live r (λ v. h (Val v))
  on_outgoing p xs x st ls f g e live r h = h x

  pub on_exchanged : {first : Bool} (scan : Option ℕ) (m : Chain) (p : ℕ) (st : M.Store)
      (ls : List (S.Coexp WaitingChain)) (f : M.Store → M.Evaluation) (g : LinkedStack → S.Store WaitingChain → LinkedState)
      → LiveCoexpressions G first st.active st.coexpressions ls
      → ((st : M.Store) → LiveCoexpressions G first st.active st.coexpressions ls
      → Reaches G (f st) (g (linked_of m p st) (store_of st ls)))
      → Reaches G (f (exchanged_by scan st))
      (S.maybe_exchanged (swap_at (S.pair_now (store_of st ls)) (linked_of m p st) scan) (linked_of m p st)
      (store_of st ls) g)
  on_exchanged None m p st ls f g live h = h st live
  on_exchanged (Some n) m p st ls f g live h = h (MS.exchange_pairs n st) live

  on_limit : {first : Bool} {n : Nest} {e : Tree} {v : Surroundings} {k : Works} {r : Choices} {q : ℕ}
      {xs : List Item} {s : Suspensions} {z : List ℕ} {o : Outer} (i : Option ℤ) (value : Value) (p : ℕ)
      (st : M.Store) (ls : List (S.Coexp WaitingChain)) → LiveCoexpressions G first st.active st.coexpressions ls
      → Stands G.L (proc_in o) (in_mark n) e p q → At G.L o q I.Lsusp → OfSurroundings G.L first n v z o
      → OfWorks G.L first k (suc q) xs z o → OfChoices G.L first r s z o →
      Reaches G (MW.limit i value e v k r st)
      (S.limit_results (machine G) value i (linked_of (chain xs s z o) p st) (store_of st ls))
  on_limit (Some (pos zero)) value p st ls live e h v k r = reached_already G (at_fail live.0 live.1 r)
  on_limit (Some (pos (suc n))) value p st ls live e h v k r =
      reached_already G (at_eval live.0 live.1 e (v_limit (m_plain v)) (k_count h r k) (r_limit r))
  on_limit {xs = xs} (Some (negsuc n)) value p st ls live e h v k r = errors_agree G p xs 205 (Some value) st ls live r
  on_limit {xs = xs} None value p st ls live e h v k r = errors_agree G p xs 101 (Some value) st ls live r

  on_count : {first : Bool} {k : Works} {r0 r : Choices} {c : ℕ} {xs : List Item} {s s' : Suspensions}
      {z : List ℕ} {o : Outer} (n : ℕ) (x : Item) (p : ℕ) (st : M.Store) (ls : List (S.Coexp WaitingChain))
      → LiveCoexpressions G first st.active st.coexpressions ls → OfChoices G.L first r0 s z o
      → OfWorks G.L first k p xs z o → OfChoices G.L first r s' z (limit c (chain xs s z o)) →
      Reaches G (MW.count_by n x k r0 r st)
      (S.limited_result (machine G) x n (linked_of (chain [] s' z (limit c (chain xs s z o))) p st)
      (store_of st ls))
  on_count {c = c} {xs = xs} {s = s} {s' = s'} {z = z} {o = o} zero x p st ls live r0 k r =
      unmarked_push x (chain xs s z o) (chain [] s' z (limit c (chain xs s z o))) z p st ls
      (reached_already G (at_succeed live.0 live.1 k r0))
  on_count (suc n) x p st ls live r0 k r = reached_already G (at_succeed live.0 live.1 k (r_alt r))

  on_scan_in : {first : Bool} {n : Nest} {e : Tree} {v : Surroundings} {k : Works} {r : Choices} {q : ℕ}
      {xs : List Item} {s : Suspensions} {z : List ℕ} {o : Outer} (text : Value) (p : ℕ) (st : M.Store)
      (ls : List (S.Coexp WaitingChain)) → LiveCoexpressions G first st.active st.coexpressions ls
      → Stands G.L (proc_in o) (in_scan n) e p q → At G.L o q I.Escan → OfSurroundings G.L first n v z o
      → OfWorks G.L first k (suc q) xs z o → OfChoices G.L first r s z o →
      Reaches G (MW.scan_in (MS.new_cell st) text e v k r st)
      (S.scan_opened (machine G) text (linked_of (chain xs s z o) p st) (store_of st ls))
  on_scan_in (V.Text text) p st ls live e h v k r =
      reached_already G (at_eval live.0 live.1 e (v_scan v) (k_leave h k) (r_restore r))
  on_scan_in value p st ls live e h v k r = reached_already G (at_fail live.0 live.1 r)

  raises : {f a : ℕ} {l : Option ℕ} {xs : List Item} {s : Suspensions} {z : List ℕ} {m : Chain} (p : ℕ)
      (st : M.Store) (ls : List (S.Coexp WaitingChain)) → At G.L (mark (flagged l f a) m) p (I.Chfail a)
      → StepsTo G (running_at (chain xs s z (mark (flagged l f a) m)) p st ls)
      (running_at (chain xs s z (mark (flagged l f a) m)) (suc p) (MW.raise_flag f st) ls)
  raises {f} {a} {l} {xs} {s} {z} {m} p st ls h = let m' = chain xs s z (mark (flagged l f a) m) in
      record {
        by = instruction_step G p m' st ls h
            ∙ ap (λ b. running_on (relabelled_if b a f (linked_of m' (suc p) st)) (store_of st ls)) (equal_self a);
        whole = λ x. x.2;
      }

  on_each : {first : Bool} {n : Nest} {b : MaybeTree} {v : Surroundings} {k : Works} {r0 r : Choices}
      {l g : ℕ} {lab : Label} {ys xs : List Item} {s s' : Suspensions} {z : List ℕ} {o : Outer} (p : ℕ)
      (st : M.Store) (ls : List (S.Coexp WaitingChain)) → LiveCoexpressions G first st.active st.coexpressions ls
      → StandsMaybe G.L (proc_in o) (Rattle.law_simulation.specs.StandingCode.in_each l g n) b p g
      → At G.L o g I.Efail → OfSurroundings G.L first n v z o → OfWorks G.L first k l xs z o
      → OfChoices G.L first r0 s z o → OfChoices G.L first r s' z (mark lab (chain xs s z o)) →
      Reaches G (MW.each b v k r0 r st) (running_at (chain ys s' z (mark lab (chain xs s z o))) p st ls)
  on_each p st ls live s_absent h v k r0 r =
      then_reach G (efails G p st ls h) (reached_already G (at_fail live.0 live.1 r))
  on_each p st ls live (s_present o b u) h v k r0 r =
      then_reach G (opens G p st ls o)
      (reached_already G (at_eval live.0 live.1 b (v_mark (m_each h k r0 r v)) (k_cut u r (a_fail h)) (r_efail h r)))

  on_result : {first : Bool} {r : Choices} {j a : ℕ} {l : Label} {xs ys : List Item} {s s' : Suspensions}
      {z z' : List ℕ} (x : Item) (p : ℕ) (st : M.Store) (ls : List (S.Coexp WaitingChain))
      → LiveCoexpressions G first st.active st.coexpressions ls → first ≡ false → Here G.L j p I.Coret
      → Here G.L j (suc p) I.Efail → OfChoices G.L first r s z (mark l (chain ys s' z' (base j a))) →
      Follows G 0 (MX.result x a r st) (running_at (chain (x ∷ xs) s z (mark l (chain ys s' z' (base j a)))) p st ls)
  on_result {first} {r} {j} {a} {l} {xs} {ys} {s} {s'} {z} {z'} x p st ls live e h h2 r1 = let o =
      mark l (chain ys s' z' (base j a)) in let m = chain (x ∷ xs) s z o in let m' = chain xs s z o in
      follows_by_step G 0 (record {
        by = instruction_step G p m st ls h
            ∙ ap (λ b. if (true && not b) then S.turn (code_of G) (store_of st ls)
            (λ st'. S.with_value (machine G) x (linked_of m' (suc p) st) st'
            (λ value. S.result_given (machine G) value (linked_of m' (suc p) st) st')) else S.stuck)
            (sym live.0 ∙ e);
        whole = sets_no_label G p m st ls h refl;
      })
      (on_turn G st ls _ _ (on_value G (suc p) xs x (record st { turns = suc st.turns }) ls _ _ refl live r1
      (λ v. given v (record st { turns = suc st.turns }) live)))
    where
      given : (v : Value) (st : M.Store) → LiveCoexpressions G first st.active st.coexpressions ls
          → Reaches G (MX.gives v r st) (S.result_given (machine G) v
          (linked_of (chain xs s z (mark l (chain ys s' z' (base j a)))) (suc p) st) (store_of st ls))
      given v st live = let o = mark l (chain ys s' z' (base j a)) in let ST =
          MX.count_result st.active (MX.with_status st.active (M.AfterResult r) st) in
          subst (λ n. Reaches G (MX.enter_coexp n v ST)
          (S.result_given (machine G) v (linked_of (chain xs s z o) (suc p) st) (store_of st ls)))
          (sym (coexpression_at G live.1 st.active).activator)
          (on_entered G (S.activator_of st.active (store_of st ls)) v (chain xs s z o) (suc p) ST _
          (status_all G live.1 st.active (t_after h2 (subst (λ b. OfChoices G.L b r s z o) live.0 r1))))

  pub on_works : {first : Bool} {k : Works} {r : Choices} {xs : List Item} {s : Suspensions} {z : List ℕ}
      {o : Outer} (x : Item) (p : ℕ) (st : M.Store) (ls : List (S.Coexp WaitingChain))
      → LiveCoexpressions G first st.active st.coexpressions ls → OfWorks G.L first k p xs z o
      → OfChoices G.L first r s z o → Follows G (weight (M.succeed x k r st))
      (MW.on_succeed G.L.program x k r st) (running_at (chain (x ∷ xs) s z o) p st ls)
  on_works x p st ls live (k_goto h k) r = follows_by_step G _ (gotos G p st ls h) (on_works x _ st ls live k r).reach
  on_works x p st ls live (k_esusp h k) r =
      follows_by_step G _ (steps_to_instruction G p _ st ls h refl) (on_works x _ st ls live k (r_alt r)).reach
  on_works x p st ls live (k_raise h k) r =
      follows_by_step G _ (raises p st ls h) (reached_already G (at_succeed live.0 live.1 k r))
  on_works x p st ls live (k_args {xs = xs} s_nil h ap' c e v k) r =
      on_applied G (x ∷ xs) _ p st ls live ap' (omega arith) (ap (λ l. x ∷ l) e) h v k r
  on_works x p st ls live (k_args {xs = xs} (s_cons a es) h ap' c e v k) r =
      follows_silently G _ (at_eval live.0 live.1 a v
      (k_args {xs = x ∷ xs} es h ap' (omega arith) (ap (λ l. x ∷ l) e) v k) r) (omega arith)
  on_works x p st ls live (k_then h e v k) r =
      follows_by_step G _ (pops G x p st ls h) (reached_already G (at_eval live.0 live.1 e v k r))
  on_works x p st ls live (k_cut h r0 a) r =
      follows_by_step G _ (unmark G _ _ _ p st ls h) (on_action G _ st ls live a r0)
  on_works {xs = xs} x p st ls live (k_limit h e h2 v k) r =
      follows_by_step G _ (steps_to_instruction G p _ st ls h refl)
      (on_value G _ xs x st ls _ _ (same_activation G v) live r
      (λ value. on_limit (integer_of value) value (suc p) st ls live e h2 v k r))
  on_works x p st ls live (k_count {c = c} h r0 k) r =
      follows_by_step G _ (steps_to_instruction G p _ st ls h refl)
      (on_count (MW.results_left c st) x (suc p)
      (record st { limits = slice_set st.limits c (MW.results_left c st) }) ls live r0 k r)
  on_works {xs = xs} x p st ls live (k_scan h e h2 v k) r =
      follows_by_step G _ (steps_to_instruction G p _ st ls h refl)
      (on_value G _ xs x st ls _ _ (same_activation G v) live r
      (λ value. on_made G _ xs (text_row value) st ls _ _ (same_activation G v) live r
      (λ text seen. on_scan_in text (suc p) _ ls live e h2 v k r)))
  on_works x p st ls live (k_leave {i = i} h k) r =
      follows_by_step G _ (steps_to_instruction G p _ st ls h refl) (reached_already G (at_succeed live.0 live.1 k (r_reenter r)))
  on_works x p st ls live (k_update_both e h v k) r =
      follows_silently G _ (at_eval live.0 live.1 e v (k_args {xs = x ∷ []} s_nil h f_operation refl refl v k) r)
      (omega arith)
  on_works x p st ls live (k_update_scan h h1 e h2 h3 v k) r =
      follows_by_step G _ (steps_to_instruction G p _ st ls h refl)
      (reached_already G (at_succeed live.0 live.1
      (k_scan h1 e h2 v (k_args {xs = x ∷ []} s_nil h3 f_operation refl refl v k)) r))
  on_works x p st ls live (k_update d_activate h e h1 ap' h2 v k) r =
      follows_by_step G _ (steps_to_instruction G p _ st ls h refl)
      (reached_already G (at_eval live.0 live.1 e v
      (k_args {xs = x ∷ []} s_nil h1 ap' refl refl v
      (k_args {xs = x ∷ []} s_nil h2 f_operation refl refl v k)) r))
  on_works {r = r'} {xs = xs} {s = s} {z = z} {o = o} x p st ls live
      (k_update {y = y} {v = v'} {k = k'} (d_operate {o = op} eo) h e h1 ap' h2 v k) r =
      subst (λ s1. Follows G (suc (silent_weight y)) s1 (running_at (chain (x ∷ xs) s z o) p st ls))
      (sym (update_of op x y v' k' r' st eo))
      (follows_by_step G _ (steps_to_instruction G p _ st ls h refl)
      (reached_already G (at_eval live.0 live.1 e v
      (k_args {xs = x ∷ []} s_nil h1 ap' refl refl v
      (k_args {xs = x ∷ []} s_nil h2 f_operation refl refl v k)) r)))
  on_works x p st ls live (k_each h b h2 v k r0) r =
      follows_by_step G _ (pops G x p st ls h) (on_each _ st ls live b h2 v k r0 r)
  on_works {s = s'} x p st ls live
      (k_select {lab = lab} {ys = ys} {xs = xs} {s = s} {z = z} {o = o} h c v k r0) r =
      follows_by_step G _ (steps_to_instruction G p _ st ls h refl)
      (on_value G (suc p) ys x st ls _ _ (same_activation G v) live r (λ value.
      unmarked_push (Val value) (chain xs s z o) (chain ys s' z (mark lab (chain xs s z o))) z (suc p) st ls
      (on_try G (suc p) st ls live c v k r0)))
  on_works {xs = xs} {s = s} {z = z} {o = o} x p st ls live (k_return {v = v'} w h v) r = let m =
      chain xs s z o in follows_by_step G _ (steps_to_instruction G p _ st ls h refl)
      (on_outgoing (suc p) xs x st ls _ _ (same_activation G v) live r (λ x.
      subst (λ y. Reaches G (MC.return_item x v' st)
      (S.return_to (leave_frame (linked_of m (suc p) st) (frame_of o)) (S.push_item (machine G) x) y))
      (sym (all_scans_left (oldest z) m (suc p) st ls)) ((running_call G w v).came x m (suc p) st ls live)))
  on_works {r = r'} {xs = xs} {s = s} {z = z} {o = o} x p st ls live
      (k_suspend {b = b'} {v = v'} w h h2 b h3 v) r = let m = chain (x ∷ xs) s z o in
      follows_by_step G _ (steps_to_instruction G p _ st ls h refl)
      (on_outgoing (suc p) (x ∷ xs) x st ls _ _ (same_activation G v) live r (λ y.
      subst (λ st'. Reaches G (MC.suspend_call y b' v' v' r' st')
      (S.maybe_exchanged (swap_at (S.pair_now (store_of st ls)) (linked_of m (suc p) st) (oldest z))
      (linked_of m (suc p) st) (store_of st ls)
      (λ m st. S.return_to ((machine G).suspend_proc m) (S.push_item (machine G) y) st)))
      (sym (ap (λ z. MS.exchanged_if z st) (sym (same_scans G v)) ∙ exchanged_of z st))
      (on_exchanged (oldest z) m (suc p) st ls (λ st. MC.suspend_call y b' v' v' r' st)
      (λ m st. S.return_to ((machine G).suspend_proc m) (S.push_item (machine G) y) st) live
      (λ st live. (running_call G w v).left y b' v' r' m (suc p) st ls live (λ z o. r_back h2 b h3 v r)))))
  on_works x p st ls live (k_result e h h2) r = on_result x p st ls live e h h2 r
