-- The first law: one step of the meaning, form by form.
use Rattle.std.proofs.Common.{◌≡◌, ℕ, suc, Bool, false, ◌≤◌, inl, inr, ⊎_elim, List, [], Option, Some, None, refl, sym, ap, subst, arith}
use Rattle.icn_text.specs.declared.op.Op.{Op}
use Rattle.icn_tree.specs.declared.token.Operator.{Operator}
use Rattle.icn_tree.specs.declared.token.Operator.TheVariants as Signs
use Rattle.icn_tree.specs.declared.tree.Place.{Place}
use Rattle.icn_tree.specs.Trees as T
use Rattle.icn_tree.specs.Trees.{Tree, Trees, NoTrees, More, elements_of}
use Rattle.icn_value.specs.Values as V
use Rattle.icn_value.specs.Values.{Item, Var}
use Rattle.icn_value.specs.Store.{KeptError}
use Rattle.icn_defs.specs.Keywords.{Standing, keyword_item}
use Rattle.icn_meaning.specs.Program.{meaning_of}
use Rattle.icn_meaning.specs.Contexts as M
use Rattle.icn_meaning.specs.Contexts.{Application, Operating, Works, Nothing, ◌and_then◌, Choices, ◌or_else◌, Surroundings}
use Rattle.icn_meaning.specs.Operators.{prefix_op, infix_op}
use Rattle.icn_meaning.specs.Turns as MT
use Rattle.icn_meaning.specs.Coexpressions as MX
use Rattle.icn_meaning.specs.Calls as MC
use Rattle.icn_meaning.specs.Evaluate as ME
use Rattle.icn_meaning.specs.Meaning as MM
use Rattle.icn_run.specs.Chains.{Label, Chain, chain, Suspensions, Outer, mark, WaitingChain}
use Rattle.icn_run.specs.Step as S
use Rattle.law_simulation.specs.Linkage.{l_null}
use Rattle.law_simulation.specs.StandingCode.{Nest, in_mark, IsApplied, i_listing, i_call, i_cocall, i_subscript, i_subscripts, i_section, i_field, i_prefix, i_activate, i_infix, i_at, i_bang, i_to, is_empty, w_mark, Stands, s_empty, s_constant, s_identifier, s_keyword, s_fail_keyword, s_applied, s_last, s_before, s_final, s_passed, s_bounded, s_repeated, s_not, s_both, s_scan, s_or, s_limit, s_update_both, s_update_scan, s_update, s_if, s_if_else, s_case, s_while, s_until, s_every, s_repeat, s_create, s_next, s_fail, s_break, s_return, s_suspend, s_nil, s_cons, s_present}
use Rattle.law_simulation.specs.Relation.{proc_in, activation_in, OfWorks, k_goto, k_esusp, k_raise, k_args, k_then, k_cut, k_limit, k_scan, k_update_both, k_update_scan, k_update, k_each, k_select, k_return, k_suspend, OfSurroundings, v_mark, m_plain, m_loop, m_control, a_go, a_give, a_fail, a_pass, a_body, a_off, OfChoices, r_mark0, r_do, r_again, OfAll, linked_of, store_of, Rel, at_eval, at_succeed, at_fail, at_hop, at_done, at_end, at_over, at_lost}
use Rattle.law_simulation.specs.Ground.{Ground, machine}
use Rattle.law_simulation.proofs.SimulationWords.{LinkedState, Reaches, Follows, LiveCoexpressions, running_at, silent_weight, total, first_weight, weight, reached_already, follows_silently, follows_by_step, steps_to_instruction, opens, opens_flagged, loads, on_turn}
use Rattle.law_simulation.proofs.WaysOut.{level_in, same_activation, same_procedure, same_level}
use Rattle.law_simulation.proofs.ActionSteps.{GoodState, efails, off_goes, on_break_at, on_next_at}
use Rattle.law_simulation.proofs.BothCoexpressions.{coexpression_at, on_failed}
use Rattle.law_simulation.proofs.Application.{on_applied, on_fresh}
use Rattle.law_simulation.proofs.WorkSteps.{on_works}
use Rattle.law_simulation.proofs.ChoiceSteps.{on_choices}

-- Forms that are something applied to operands

before_of : (program : _) (o : Operator) {op : Op} (e : Tree) (v : Surroundings) (k : Works) (r : Choices)
    (st : M.Store) → prefix_op o ≡ Some op
    → ME.before program o e v k r st ≡ MC.operands program (Operating op) [] (More e NoTrees) v k r st
before_of program Signs.Bar e v k r st h = absurd (cc)
before_of program Signs.At e v k r st h = absurd (cc)
before_of program o e v k r st h = ap (λ (found : Option Op). ME.operate program found (More e NoTrees) v k r st) h

between_of : (program : _) (o : Operator) {op : Op} (a b : Tree) (v : Surroundings) (k : Works) (r : Choices)
    (st : M.Store) → infix_op o ≡ Some op
    → ME.between program o a b v k r st ≡ MC.operands program (Operating op) []
    (More a (More b NoTrees)) v k r st
between_of program Signs.Ampersand a b v k r st h = absurd (cc)
between_of program Signs.Question a b v k r st h = absurd (cc)
between_of program Signs.Bar a b v k r st h = absurd (cc)
between_of program Signs.Backslash a b v k r st h = absurd (cc)
between_of program Signs.At a b v k r st h = absurd (cc)
between_of program Signs.Bang a b v k r st h = absurd (cc)
between_of program o a b v k r st h =
    ap (λ (found : Option Op). ME.operate program found (More a (More b NoTrees)) v k r st) h

applied_of : {e : Tree} {form : Application} {es : Trees} (program : _) (v : Surroundings) (k : Works)
    (r : Choices) (st : M.Store) → IsApplied e form es
    → ME.on_eval program e v k r st ≡ MC.operands program form [] es v k r st
applied_of program v k r st i_listing = refl
applied_of program v k r st i_call = refl
applied_of program v k r st i_cocall = refl
applied_of program v k r st i_subscript = refl
applied_of program v k r st (i_subscripts h) = applied_of program v k r st h
applied_of program v k r st i_section = refl
applied_of program v k r st i_field = refl
applied_of program v k r st (i_prefix {o = o} {e = e} h) = before_of program o e v k r st h
applied_of program v k r st i_activate = refl
applied_of program v k r st (i_infix {o = o} {a = a} {b = b} h) = between_of program o a b v k r st h
applied_of program v k r st i_at = refl
applied_of program v k r st i_bang = refl
applied_of program v k r st i_to = refl

elements_first : (es : Trees) → first_weight (elements_of es) ≤ suc (total es)
elements_first NoTrees = omega arith
elements_first (More T.Empty NoTrees) = omega arith
elements_first (More e es) = omega arith

first_first : {e : Tree} {form : Application} {es : Trees} → IsApplied e form es → first_weight es ≤ silent_weight e
first_first (i_listing {es = es}) = elements_first es
first_first i_call = omega arith
first_first i_cocall = omega arith
first_first i_subscript = omega arith
first_first (i_subscripts h) = let ih = first_first h in omega arith
first_first i_section = omega arith
first_first i_field = omega arith
first_first (i_prefix h) = omega arith
first_first i_activate = omega arith
first_first (i_infix h) = omega arith
first_first i_at = omega arith
first_first i_bang = omega arith
first_first i_to = omega arith

compound_of : (place : Place) (d e : Tree) (es : Trees) (v : Surroundings) (k : Works) (r : Choices)
    (st : M.Store) → is_empty d ≡ false →
    ME.compound place (More d (More e es)) v k r st ≡ M.eval d v
    (M.Cut r (M.Go (T.Compound place (More e es)) v k) and_then Nothing)
    (M.Do (M.Go (T.Compound place (More e es)) v k) or_else r) st
compound_of place T.Empty e es v k r st h = absurd (cc)
compound_of place d e es v k r st h = refl

abbrev a_standing : (level current source : ℕ) → Option KeptError → Standing
a_standing level current source kept = record { level = level; current = current; source = source; kept = kept }

module _ (G : Ground) where
  weaken : {s : M.Evaluation} {l : LinkedState} {w w' : ℕ} → Follows G w s l → w ≤ w' → Follows G w' s l
  weaken g le = record { reach = g.reach; less = ⊎_elim (λ a. inl a) (λ a. inr (omega arith)) g.less }

  under : {first : Bool} {n : Nest} {v : Surroundings} {l : Label} {xs : List Item} {s : Suspensions}
      {z : List ℕ} {o : Outer} → OfSurroundings G.L first n v z o
      → OfSurroundings G.L first (in_mark n) v z (mark l (chain xs s z o))
  under v = v_mark (m_plain v)

  on_keyword : {first : Bool} {k : Works} {r : Choices} {xs : List Item} {s : Suspensions} {z : List ℕ}
      {o : Outer} (x : Option Item) (p : ℕ) (st : M.Store) (ls : List (S.Coexp WaitingChain))
      → LiveCoexpressions G first st.active st.coexpressions ls → OfWorks G.L first k p xs z o
      → OfChoices G.L first r s z o →
      Reaches G (ME.item_or_failure x k r st)
      (S.pushed_or_fails (machine G) x (linked_of (chain xs s z o) p st) (store_of st ls))
  on_keyword (Some x) p st ls live k r = reached_already G (at_succeed live.0 live.1 k r)
  on_keyword None p st ls live k r = reached_already G (at_fail live.0 live.1 r)

  pub sim_eval : {first : Bool} {o : Outer} {n : Nest} {e : Tree} {v : Surroundings} {k : Works}
      {r : Choices} {q : ℕ} {xs : List Item} {s : Suspensions} {z : List ℕ} (p j : ℕ) (st : M.Store)
      (ls : List (S.Coexp WaitingChain)) → GoodState G (running_at (chain xs s z o) p st ls)
      → LiveCoexpressions G first st.active st.coexpressions ls → Stands G.L (proc_in o) n e p q
      → OfSurroundings G.L first n v z o → OfWorks G.L first k q xs z o → OfChoices G.L first r s z o
      → Follows G (silent_weight e) (ME.on_eval G.L.program e v k r st) (running_at (chain xs s z o) p st ls)
  sim_eval p j st ls good live (s_empty h) v k r =
      follows_by_step G _ (loads G p st ls h l_null) (reached_already G (at_succeed live.0 live.1 k r))
  sim_eval p j st ls good live (s_constant h l) v k r =
      follows_by_step G _ (loads G p st ls h l) (reached_already G (at_succeed live.0 live.1 k r))
  sim_eval {o = o} {k = k'} {r = r'} {xs = xs} {s = s} {z = z} p j st ls good live
      (s_identifier {name = name} h l) v k r =
      subst (λ j. Follows G 0 (M.succeed (Var (V.Whole (meaning_of G.L.program j name.text))) k' r' st)
      (running_at (chain xs s z o) p st ls)) (sym (same_procedure G v))
      (follows_by_step G _ (loads G p st ls h l) (reached_already G (at_succeed live.0 live.1 k r)))
  sim_eval {o = o} {v = v'} {k = k'} {r = r'} {xs = xs} {s = s} {z = z} p j st ls good live
      (s_keyword {word = word} e h) v k r =
      subst (λ w. Follows G 0 (ME.keyword w v' k' r' st) (running_at (chain xs s z o) p st ls)) (sym e)
      (follows_by_step G _ (steps_to_instruction G p _ st ls h refl)
      (let there = S.standing_of (machine G) (linked_of (chain xs s z o) (suc p) st) (store_of st ls) in
      subst (λ level. Reaches G (ME.item_or_failure
      (keyword_item (a_standing level st.active (MX.activator_of st.active st) st.world.kept) word) k' r' st)
      (S.pushed_or_fails (machine G) (keyword_item there word) (linked_of (chain xs s z o) (suc p) st)
      (store_of st ls))) (sym (same_level G v))
      (subst (λ source. Reaches G (ME.item_or_failure
      (keyword_item (a_standing (level_in o) st.active source st.world.kept) word) k' r' st)
      (S.pushed_or_fails (machine G) (keyword_item there word) (linked_of (chain xs s z o) (suc p) st)
      (store_of st ls))) (sym (coexpression_at G live.1 st.active).activator)
      (on_keyword (keyword_item there word) (suc p) st ls live k r))))
  sim_eval {o = o} {v = v'} {k = k'} {r = r'} {xs = xs} {s = s} {z = z} p j st ls good live
      (s_fail_keyword e h) v k r = subst
      (λ w. Follows G 0 (ME.keyword w v' k' r' st) (running_at (chain xs s z o) p st ls)) (sym e)
      (follows_by_step G _ (efails G p st ls h) (reached_already G (at_fail live.0 live.1 r)))
  sim_eval {o = o} {v = v'} {k = k'} {r = r'} {xs = xs} {s = s} {z = z} p j st ls good live
      (s_applied {e = e} {form = form} a s_nil h f) v k r =
      subst (λ y. Follows G (silent_weight e) y (running_at (chain xs s z o) p st ls))
      (sym (applied_of G.L.program v' k' r' st a))
      (on_applied G [] (silent_weight e) p st ls live f refl refl h v k r)
  sim_eval {o = o} {v = v'} {k = k'} {r = r'} {xs = xs} {s = s} {z = z} p j st ls good live
      (s_applied {e = e} {form = form} a (s_cons d es) h f) v k r = let le = first_first a in
      subst (λ y. Follows G (silent_weight e) y (running_at (chain xs s z o) p st ls))
      (sym (applied_of G.L.program v' k' r' st a))
      (follows_silently G _ (at_eval live.0 live.1 d v (k_args {xs = []} es h f (omega arith) refl v k) r)
      (omega arith))
  sim_eval p j st ls good live (s_last e) v k r = follows_silently G _ (at_eval live.0 live.1 e v k r) (omega arith)
  sim_eval p j st ls good live (s_before d h e) v k r =
      follows_silently G _ (at_eval live.0 live.1 d v (k_then h e v k) r) (omega arith)
  sim_eval p j st ls good live (s_final e) v k r = follows_silently G _ (at_eval live.0 live.1 e v k r) (omega arith)
  sim_eval p j st ls good live (s_passed c) v k r =
      weaken (sim_eval p j st ls good live c v k r) (omega arith)
  sim_eval {o = o'} {v = v'} {k = k'} {r = r'} {xs = xs} {s = s} {z = z} p j st ls good live
      (s_bounded {place = place} {d = d'} {e = e'} {es = es} ne o d u e) v k r =
      subst (λ y. Follows G (suc (total (More d' (More e' es)))) y (running_at (chain xs s z o') p st ls))
      (sym (compound_of place d' e' es v' k' r' st ne))
      (follows_by_step G _ (opens G p st ls o) (reached_already G
      (at_eval live.0 live.1 d (under v) (k_cut u r (a_go e v k)) (r_do (a_go e v k) r))))
  sim_eval p j st ls good live (s_repeated h e0 e h2 h3) v k r =
      follows_by_step G _ (opens_flagged G p st ls h e0)
      (reached_already G (at_eval live.0 live.1 e (under v) (k_raise h2 (k_esusp h3 k)) (r_again e h2 h3 v k r)))
  sim_eval p j st ls good live (s_not o e u h2 h3) v k r =
      follows_by_step G _ (opens G p st ls o) (reached_already G
      (at_eval live.0 live.1 e (under v) (k_cut u r (a_fail h2)) (r_do (a_give h3 l_null k) r)))
  sim_eval p j st ls good live (s_both a h b) v k r =
      follows_silently G _ (at_eval live.0 live.1 a v (k_then h b v k) r) (omega arith)
  sim_eval p j st ls good live (s_scan a h b h2) v k r =
      follows_silently G _ (at_eval live.0 live.1 a v (k_scan h b h2 v k) r) (omega arith)
  sim_eval p j st ls good live (s_or o a h g b) v k r =
      follows_by_step G _ (opens G p st ls o) (reached_already G
      (at_eval live.0 live.1 a (under v) (k_esusp h (k_goto g k)) (r_do (a_go b v k) r)))
  sim_eval p j st ls good live (s_limit b h a h2) v k r =
      follows_silently G _ (at_eval live.0 live.1 b v (k_limit h a h2 v k) r) (omega arith)
  sim_eval p j st ls good live (s_update_both x y h) v k r =
      follows_silently G _ (at_eval live.0 live.1 x v (k_update_both y h v k) r) (omega arith)
  sim_eval p j st ls good live (s_update_scan x h h1 y h2 h3) v k r =
      follows_silently G _ (at_eval live.0 live.1 x v (k_update_scan h h1 y h2 h3 v k) r) (omega arith)
  sim_eval p j st ls good live (s_update d x h y h1 f h2) v k r =
      follows_silently G _ (at_eval live.0 live.1 x v (k_update d h y h1 f h2 v k) r) (omega arith)
  sim_eval p j st ls good live (s_if o c u a) v k r =
      follows_by_step G _ (opens G p st ls o) (reached_already G
      (at_eval live.0 live.1 c (under v) (k_cut u r (a_go a v k)) (r_mark0 r)))
  sim_eval p j st ls good live (s_if_else o c u a g b) v k r =
      follows_by_step G _ (opens G p st ls o) (reached_already G
      (at_eval live.0 live.1 c (under v) (k_cut u r (a_go a v (k_goto g k))) (r_do (a_go b v k) r)))
  sim_eval p j st ls good live (s_case o e h c) v k r =
      follows_by_step G _ (opens G p st ls o) (reached_already G
      (at_eval live.0 live.1 e (under v) (k_select h c v k r) (r_mark0 r)))
  sim_eval p j st ls good live (s_while o c u b h) v k r = let pass = a_pass h (s_while o c u b h) v k in
      let i = m_loop k r pass r v in
      follows_by_step G _ (opens G p st ls o) (reached_already G
      (at_eval live.0 live.1 c (v_mark i) (k_cut u r (a_body b pass i)) (r_mark0 r)))
  sim_eval p j st ls good live (s_until o c u h0 b h) v k r = let pass =
      a_pass h (s_until o c u h0 b h) v k in let i = m_loop k r pass r v in
      follows_by_step G _ (opens G p st ls o) (reached_already G
      (at_eval live.0 live.1 c (v_mark i) (k_cut u r (a_fail h0)) (r_do (a_body b pass i) r)))
  sim_eval p j st ls good live (s_every o e h b h2) v k r =
      follows_by_step G _ (opens G p st ls o) (reached_already G
      (at_eval live.0 live.1 e (v_mark (m_control k r v)) (k_each h b h2 v k r) (r_mark0 r)))
  sim_eval p j st ls good live (s_repeat (s_present o b u) h) v k r = let pass =
      a_pass h (s_repeat (s_present o b u) h) v k in let i = m_loop k r pass r v in
      follows_by_step G _ (opens G p st ls o) (reached_already G
      (at_eval live.0 live.1 b (v_mark i) (k_cut u r pass) (r_do pass r)))
  sim_eval {o = o} {v = v'} {k = k'} {r = r'} {xs = xs} {s = s} {z = z} p j st ls good live
      (s_create {e = e} {q = q} h stands) v k r = let st1 = record st { turns = suc st.turns } in
      follows_by_step G _ (steps_to_instruction G p _ st ls h refl)
      (on_turn G st ls _ (S.coexp_made (machine G) (MT.locals_of (activation_in o) st) (proc_in o)
      (suc p) (linked_of (chain xs s z o) q st))
      (subst (λ j. Reaches G (MX.fresh e j (MT.locals_of (M.activation_of v') st1) (M.activation_of v') k' r'
      st1) (S.coexp_made (machine G) (MT.locals_of (activation_in o) st1) (proc_in o) (suc p)
      (linked_of (chain xs s z o) q st1) (store_of st1 ls))) (sym (same_procedure G v))
      (subst (λ a. Reaches G (MX.fresh e (proc_in o) (MT.locals_of a st1) (M.activation_of v') k' r' st1)
      (S.coexp_made (machine G) (MT.locals_of (activation_in o) st1) (proc_in o) (suc p)
      (linked_of (chain xs s z o) q st1) (store_of st1 ls))) (sym (same_activation G v))
      (on_fresh G (MT.locals_of (activation_in o) st1) q st1 ls live (same_activation G v) stands k r))))
  sim_eval p j st ls good live (s_next u g) v k r = on_next_at G [] _ p st ls good live refl u v g
  sim_eval p j st ls good live (s_fail w h) v k r = off_goes G _ p st ls live w h v
  sim_eval p j st ls good live (s_break u e g) v k r = on_break_at G [] _ p st ls good live refl u v e g
  sim_eval p j st ls good live (s_return w o e h1 h2) v k r =
      follows_by_step G _ (opens G p st ls o) (reached_already G
      (at_eval live.0 live.1 e (under v) (k_return (w_mark w) h1 (under v)) (r_do (a_off w h2 v) r)))
  sim_eval p j st ls good live (s_suspend w o e h1 h2 b h3) v k r =
      follows_by_step G _ (opens G p st ls o) (reached_already G
      (at_eval live.0 live.1 e (under v) (k_suspend (w_mark w) h1 h2 b h3 (under v)) (r_mark0 r)))

  on_hop : (m : Chain) (p : ℕ) (st : M.Store) (ls : List (S.Coexp WaitingChain)) → OfAll G.L st.coexpressions ls
      → Reaches G (MX.fail_coexp (MX.activator_of st.active st) st)
      (S.passed_failure (machine G) (S.activator_of st.active (store_of st ls)) (linked_of m p st)
      (store_of st ls))
  on_hop m p st ls a = subst (λ n.
      Reaches G (MX.fail_coexp n st) (S.passed_failure (machine G) (S.activator_of st.active (store_of st ls))
      (linked_of m p st) (store_of st ls))) (sym (coexpression_at G a st.active).activator)
      (on_failed G (S.activator_of st.active (store_of st ls)) m p st ls a)

  -- each step of the meaning is followed by the code
  pub step_simulated : {s : M.Evaluation} {l : LinkedState} → GoodState G l → Rel G.L s l → Follows G (weight s) (MM.step G.L.program s) l
  step_simulated good (at_eval {p = p} {st = st} {ls = ls} f a e v k r) = sim_eval p 0 st ls good (f, a) e v k r
  step_simulated good (at_succeed {x = x} {p = p} {st = st} {ls = ls} f a k r) = on_works G x p st ls (f, a) k r
  step_simulated good (at_fail {p = p} {st = st} {ls = ls} f a r) = on_choices G p st ls (f, a) r
  step_simulated good (at_hop {c = c} {p = p} {m = m} {st = st} {ls = ls} e a) =
      subst (λ c. Follows G 0 (MX.pass_failure c st) (S.hopping (linked_of m p st) (store_of st ls))) (sym e)
      (follows_by_step G 0 (record { by = refl; whole = λ x. x })
      (on_turn G st ls _ (λ st'. S.passed_failure (machine G) (S.activator_of st'.active st')
      (linked_of m p st) st') (on_hop m p (record st { turns = suc st.turns }) ls a)))
  step_simulated good at_done = follows_by_step G 0 (record { by = refl; whole = λ x. x }) (reached_already G at_over)
  step_simulated good at_end = follows_by_step G 0 (record { by = refl; whole = λ x. x }) (reached_already G at_over)
  step_simulated good at_over = follows_by_step G 0 (record { by = refl; whole = λ x. x }) (reached_already G at_over)
  step_simulated good at_lost = follows_by_step G 0 (record { by = refl; whole = λ x. x }) (reached_already G at_lost)
