-- What is found through marks, scans and loops: the call that runs, and the way out by `break`, `next` and
-- the end of a call.
use Rattle.std.proofs.Common.{◌≡◌, ℕ, ◌&&◌, not, Bool, true, false, List, [], ◌∷◌, ◌++◌, Option, Some, None, option_map, refl, sym, ap, ◌∙◌, subst}
use Rattle.std.specs.Prelude.{if◌then◌else◌}
use Rattle.icn_tree.specs.Trees as T
use Rattle.icn_tree.specs.Trees.{Tree, Trees, MaybeTree, More}
use Rattle.icn_value.specs.Values.{Item}
use Rattle.icn_meaning.specs.Contexts as M
use Rattle.icn_meaning.specs.Contexts.{Nothing, ◌and_then◌, Choices, ◌or_else◌, Surroundings}
use Rattle.icn_meaning.specs.Scanning as MS
use Rattle.icn_meaning.specs.Actions as MA
use Rattle.icn_meaning.specs.Calls as MC
use Rattle.icn_run.specs.Calls.{Proc}
use Rattle.icn_run.specs.Chains.{because, Chain, Suspensions, suspension, Outer, WaitingChain, Frame, frame_of, level_of, is_base_frame, oldest as oldest_until, first_scan, swap_at, leave_frame, suspend_frame, saved_at}
use Rattle.icn_run.specs.Step as S
use Rattle.law_stacks.proofs.ScansLeft.{Apart, last_of, oldest_behind}
use Rattle.law_simulation.specs.StandingCode.{Nest, Proper, w_mark, w_scan, w_loop, w_control, w_each, is_empty}
use Rattle.law_simulation.specs.Relation.{proc_in, activation_in, a_frame, OfSurroundings, v_main, v_create, v_call, v_scan, v_mark, v_limit, OfMark, m_plain, m_loop, m_control, m_each, OfChoices, linked_of, store_of, Rel, at_succeed, at_fail, at_done, at_end}
use Rattle.law_simulation.specs.Ground.{Ground, machine}
use Rattle.law_simulation.proofs.SimulationWords.{Reaches, LiveCoexpressions, reached_already}

-- The pair that an oldest scan saved comes back.

abbrev pub subject_by : Option ℕ → M.Store → List ℕ
subject_by None st = st.world.subject
subject_by (Some n) st = (MS.saved_in n st).subject

abbrev pub position_by : Option ℕ → M.Store → ℕ
position_by None st = st.world.position
position_by (Some n) st = (MS.saved_in n st).position

abbrev pub away_by : Option ℕ → M.Store → M.Store
away_by scan st = record st {
  world =
      record st.world { subject = subject_by scan st; position = position_by scan st };
}

-- the oldest of all scans
abbrev pub oldest : List ℕ → Option ℕ
oldest scans = oldest_until None scans

abbrev pub away : List ℕ → M.Store → M.Store
away scans st = away_by (oldest scans) st

old : (i : ℕ) (z : List ℕ) → (n : ℕ) × (oldest (i ∷ z) ≡ Some n)
old i [] = (i, refl)
old i (j ∷ z) = old j z

pub away_scan : (i : ℕ) (z : List ℕ) (st : M.Store) → away z (MS.restore_pair i st) ≡ away (i ∷ z) st
away_scan i [] st = refl
away_scan i (j ∷ z) st = subst (λ scan. away_by scan (MS.restore_pair i st) ≡ away_by scan st) (sym (old j z).1)
    refl

oldest_snoc : (os : List ℕ) (i : ℕ) → oldest (os ++ i ∷ []) ≡ Some i
oldest_snoc [] i = refl
oldest_snoc (j ∷ []) i = refl
oldest_snoc (j ∷ l ∷ os) i = oldest_snoc (l ∷ os) i

pub away_snoc : (os : List ℕ) (i : ℕ) (st : M.Store) → away (os ++ i ∷ []) st ≡ MS.restore_pair i st
away_snoc os i st = ap (λ scan. away_by scan st) (oldest_snoc os i)

last_is : (os : List ℕ) → last_of os ≡ oldest os
last_is [] = refl
last_is (i ∷ []) = refl
last_is (i ∷ j ∷ os) = last_is (j ∷ os)

-- the oldest of those that were opened in a mark
pub oldest_in_mark : (os z : List ℕ) → Apart (first_scan z) os → oldest_until (first_scan z) (os ++ z) ≡ oldest os
oldest_in_mark os z d = oldest_behind z os d ∙ last_is os

pub left_by : (scan : Option ℕ) (m : Chain) (p : ℕ) (st : M.Store) (ls : List (S.Coexp WaitingChain))
    → S.scans_left (option_map (saved_at (linked_of m p st)) scan) (store_of st ls) ≡ store_of
    (away_by scan st) ls
left_by None m p st ls = refl
left_by (Some n) m p st ls = refl

pub all_scans_left : (scan : Option ℕ) (m : Chain) (p : ℕ) (st : M.Store) (ls : List (S.Coexp WaitingChain))
    → S.swapped_back (swap_at (S.pair_now (store_of st ls)) (linked_of m p st) scan) (store_of st ls) ≡
    store_of (away_by scan st) ls
all_scans_left None m p st ls = refl
all_scans_left (Some n) m p st ls = refl

abbrev pub level_in : Outer → ℕ
level_in o = level_of (frame_of o)

-- the expressions of a body, where the first is not empty
pub rest_of : (e : Tree) (es : Trees) (v : Surroundings) (r : Choices) (st : M.Store) → is_empty e ≡ false
    → MA.rest (More e es) v r st ≡ M.eval e v (M.Cut r (M.Rest es v) and_then Nothing)
    (M.Do (M.Rest es v) or_else r) st
rest_of T.Empty es v r st h = absurd (cc)
rest_of e es v r st h = refl

module _ (G : Ground) where
  -- the call that runs is the same on both sides
  mutual
    pub same : {first : Bool} {n : Nest} {v : Surroundings} {z : List ℕ} {o : Outer}
        → OfSurroundings G.L first n v z o → M.frame_of v ≡ a_frame (activation_in o) (proc_in o) (level_in o)
    same (v_main e) = refl
    same (v_create e) = refl
    same (v_call k r) = refl
    same (v_scan v) = same v
    same (v_mark m) = same_in m
    same (v_limit m) = same_in m

    same_in : {first : Bool} {n : Nest} {v : Surroundings} {xs : List Item} {s : Suspensions} {z : List ℕ}
        {o : Outer} → OfMark G.L first n v xs s z o
        → M.frame_of v ≡ a_frame (activation_in o) (proc_in o) (level_in o)
    same_in (m_plain v) = same v
    same_in (m_loop k r a rn v) = same v
    same_in (m_control k r v) = same v
    same_in (m_each h k r rn v) = same v

  -- both sides have the same activation
  pub same_activation : {first : Bool} {n : Nest} {v : Surroundings} {z : List ℕ} {o : Outer}
      → OfSurroundings G.L first n v z o → M.activation_of v ≡ activation_in o
  same_activation v = ap (λ (f : M.Invocation). f.activation) (same v)

  pub same_procedure : {first : Bool} {n : Nest} {v : Surroundings} {z : List ℕ} {o : Outer}
      → OfSurroundings G.L first n v z o → (M.frame_of v).procedure ≡ proc_in o
  same_procedure v = ap (λ (f : M.Invocation). f.procedure) (same v)

  pub same_level : {first : Bool} {n : Nest} {v : Surroundings} {z : List ℕ} {o : Outer}
      → OfSurroundings G.L first n v z o → (M.frame_of v).level ≡ level_in o
  same_level v = ap (λ (f : M.Invocation). f.level) (same v)

  -- the open scans are those of the surroundings
  mutual
    pub same_scans : {first : Bool} {n : Nest} {v : Surroundings} {z : List ℕ} {o : Outer}
        → OfSurroundings G.L first n v z o → z ≡ MS.scans_of v
    same_scans (v_main e) = refl
    same_scans (v_create e) = refl
    same_scans (v_call k r) = refl
    same_scans (v_scan {i = i} v) = ap (λ l. i ∷ l) (same_scans v)
    same_scans (v_mark m) = same_scans_in m
    same_scans (v_limit m) = same_scans_in m

    same_scans_in : {first : Bool} {n : Nest} {v : Surroundings} {xs : List Item} {s : Suspensions}
        {z : List ℕ} {o : Outer} → OfMark G.L first n v xs s z o → z ≡ MS.scans_of v
    same_scans_in (m_plain v) = same_scans v
    same_scans_in (m_loop k r a rn v) = same_scans v
    same_scans_in (m_control k r v) = same_scans v
    same_scans_in (m_each h k r rn v) = same_scans v

  finished : {s : M.Evaluation} (active : ℕ) (st : M.Store) (ls : List (S.Coexp WaitingChain))
      → (S.is_main active) ≡ true → st.active ≡ active → Rel G.L s (S.over_with M.Done st.world st.outside)
      → Reaches G s (S.finish_run (store_of st ls))
  finished {s} active st ls e e' rel =
      subst (λ b. Reaches G s (if b then S.over_with M.Done st.world st.outside else S.stuck)) (sym (ap S.is_main e' ∙ e))
      (reached_already G rel)

  -- the contexts of the innermost call, found through marks, loops and scans
  pub record Called (first : Bool) (v : Surroundings) (z : List ℕ) (t : Frame) : Type 0 where
    pub no_body : (active : ℕ) → first ≡ (S.is_main active)
        → (is_base_frame t && not (S.is_main active)) ≡ false
    pub gone : (m : Chain) (p : ℕ) (st : M.Store) (ls : List (S.Coexp WaitingChain))
        → LiveCoexpressions G first st.active st.coexpressions ls
        → Reaches G (MA.off v st) (S.return_to (leave_frame (linked_of m p st) t) S.failing
        (store_of (away z st) ls))
    pub came : (x : Item) (m : Chain) (p : ℕ) (st : M.Store) (ls : List (S.Coexp WaitingChain))
        → LiveCoexpressions G first st.active st.coexpressions ls
        → Reaches G (MC.return_item x v st) (S.return_to (leave_frame (linked_of m p st) t)
        (S.push_item (machine G) x) (store_of (away z st) ls))
    pub left : (x : Item) (b : MaybeTree) (v' : Surroundings) (r : Choices) (m : Chain) (p : ℕ)
        (st : M.Store) (ls : List (S.Coexp WaitingChain)) → LiveCoexpressions G first st.active st.coexpressions ls
        → ((z : List ℕ) (o : Outer) → OfChoices G.L first (M.Back b v' or_else r)
        (suspension (because Proc) p m) z o)
        → Reaches G (MC.suspend_call x b v' v r st)
        (S.return_to (suspend_frame (linked_of m p st) t) (S.push_item (machine G) x) (store_of st ls))

  mutual
    pub running_call : {first : Bool} {n : Nest} {v : Surroundings} {z : List ℕ} {o : Outer} → Proper n
        → OfSurroundings G.L first n v z o → Called first v z (frame_of o)
    running_call w (v_main e) = record {
      no_body = λ active l. ap not (sym l ∙ e);
      gone = λ m p st ls live. finished st.active st ls (sym live.0 ∙ e) refl at_end;
      came = λ x m p st ls live. finished st.active st ls (sym live.0 ∙ e) refl at_done;
      left = λ x b v' r m p st ls live h. finished st.active st ls (sym live.0 ∙ e) refl at_done;
    }
    running_call w (v_create e) = elim w [ ]
    running_call w (v_call k r) = record {
      no_body = λ active l. refl;
      gone = λ m p st ls live. reached_already G (at_fail live.0 live.1 r);
      came = λ x m p st ls live. reached_already G (at_succeed live.0 live.1 k r);
      left = λ x b v' r m p st ls live h. reached_already G (at_succeed live.0 live.1 k (h _ _));
    }
    running_call (w_scan w) (v_scan {v = v'} {i = i} {z = z} {o = o} v) = let d = running_call w v in record {
      no_body = d.no_body;
      gone = λ m p st ls live. subst (λ y.
          Reaches G (MA.off v' (MS.restore_pair i st))
          (S.return_to (leave_frame (linked_of m p st) (frame_of o)) S.failing (store_of y ls)))
          (away_scan i z st) (d.gone m p (MS.restore_pair i st) ls live);
      came = λ x m p st ls live. subst
          (λ y. Reaches G (MC.return_item x v' (MS.restore_pair i st))
          (S.return_to (leave_frame (linked_of m p st) (frame_of o)) (S.push_item (machine G) x)
          (store_of y ls))) (away_scan i z st) (d.came x m p (MS.restore_pair i st) ls live);
      left = λ x b v' r m p st ls live h. d.left x b v' r m p st ls live h;
    }
    running_call (w_mark w) (v_mark m) = called_in w m
    running_call (w_mark w) (v_limit m) = called_in w m

    called_in : {first : Bool} {n : Nest} {v : Surroundings} {xs : List Item} {s : Suspensions} {z : List ℕ}
        {o : Outer} → Proper n → OfMark G.L first n v xs s z o → Called first v z (frame_of o)
    called_in w (m_plain v) = running_call w v
    called_in (w_loop w) (m_loop k r a rn v) = let d = running_call w v in
        record { no_body = d.no_body; gone = d.gone; came = d.came; left = d.left }
    called_in (w_control w) (m_control k r v) = let d = running_call w v in
        record { no_body = d.no_body; gone = d.gone; came = d.came; left = d.left }
    called_in (w_each w) (m_each h k r rn v) = let d = running_call w v in
        record { no_body = d.no_body; gone = d.gone; came = d.came; left = d.left }
