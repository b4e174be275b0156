-- Co-expressions: how those of both sides are looked up, changed and entered.
use Rattle.std.proofs.Common.{◌≡◌, ℕ, zero, suc, Bool, false, List, [], ◌∷◌, ◌++◌, length, Option, Some, None, refl, sym, subst}
use Rattle.std.specs.Prelude.{slice_get, slice_index_or, slice_set}
use Rattle.icn_tree.specs.Trees.{Tree, Empty}
use Rattle.icn_value.specs.Values.{Value}
use Rattle.icn_meaning.specs.Contexts as M
use Rattle.icn_meaning.specs.Coexpressions as MX
use Rattle.icn_run.specs.Chains.{Chain, chain, none, base, WaitingChain}
use Rattle.icn_run.specs.Step as S
use Rattle.law_simulation.specs.StandingCode.{StandsCreate, s_body}
use Rattle.law_simulation.specs.Relation.{k_result, v_create, v_mark, m_plain, r_exhaust, OfStatus, t_fresh, t_active, t_waiting, t_after, t_exhausted, OfCoexp, OfOthers, c_none, c_more, OfAll, c_all, linked_of, store_of, at_eval, at_succeed, at_fail, at_hop, at_lost}
use Rattle.law_simulation.specs.Ground.{Ground, machine}
use Rattle.law_simulation.proofs.SimulationWords.{Reaches, LiveCoexpressions, running_at, reached_already, then_reach, opens}
use Rattle.law_simulation.proofs.ActionSteps.{efails}

abbrev no_coexpression : M.Coexpression
no_coexpression = record {
  status = M.Exhausted;
  activator = zero;
  body = Empty;
  procedure = zero;
  values =
      [];
}

abbrev no_coexp : S.Coexp WaitingChain
no_coexp = record { status = S.Exhausted; activator = zero; values = []; proc = zero; address = zero }

abbrev co_at : List M.Coexpression → ℕ → M.Coexpression
co_at cos n = slice_index_or cos n no_coexpression

abbrev l_at : List (S.Coexp WaitingChain) → ℕ → S.Coexp WaitingChain
l_at ls n = slice_index_or ls n no_coexp

module _ (G : Ground) where
  nothing_there : (first : Bool) → OfCoexp G.L first no_coexpression no_coexp
  nothing_there first = record { activator = refl; procedure = refl; values = refl; status = t_exhausted }

  look_others : {cos : List M.Coexpression} {ls : List (S.Coexp WaitingChain)} → OfOthers G.L cos ls → (n : ℕ)
      → OfCoexp G.L false (co_at cos n) (l_at ls n)
  look_others c_none n = nothing_there false
  look_others (c_more h s t) zero = h
  look_others (c_more h s t) (suc n) = look_others t n

  -- co-expressions of the same number correspond
  pub coexpression_at : {cos : List M.Coexpression} {ls : List (S.Coexp WaitingChain)} → OfAll G.L cos ls → (n : ℕ)
      → OfCoexp G.L (S.is_main n) (co_at cos n) (l_at ls n)
  coexpression_at (c_all h t) zero = h
  coexpression_at (c_all h t) (suc n) = look_others t n

  -- one that was made
  pub data Made : Option M.Coexpression → Option (S.Coexp WaitingChain) → Type 0 where
    not_made : Made None None
    was_made : {co : M.Coexpression} {l : S.Coexp WaitingChain} {q : ℕ} → OfCoexp G.L false co l
        → StandsCreate G.L l.proc co.body l.address q → Made (Some co) (Some l)

  pub find_made : {cos : List M.Coexpression} {ls : List (S.Coexp WaitingChain)} → OfOthers G.L cos ls → (n : ℕ)
      → Made (slice_get cos n) (slice_get ls n)
  find_made c_none n = not_made
  find_made (c_more h s t) zero = was_made h s
  find_made (c_more h s t) (suc n) = find_made t n

  pub others_more : {cos : List M.Coexpression} {ls : List (S.Coexp WaitingChain)} {co : M.Coexpression}
      {l : S.Coexp WaitingChain} {q : ℕ} → OfOthers G.L cos ls → OfCoexp G.L false co l
      → StandsCreate G.L l.proc co.body l.address q → OfOthers G.L (cos ++ co ∷ []) (ls ++ l ∷ [])
  others_more c_none h s = c_more h s c_none
  others_more (c_more h' s' t) h s = c_more h' s' (others_more t h s)

  pub all_more : {cos : List M.Coexpression} {ls : List (S.Coexp WaitingChain)} {co : M.Coexpression}
      {l : S.Coexp WaitingChain} {q : ℕ} → OfAll G.L cos ls → OfCoexp G.L false co l
      → StandsCreate G.L l.proc co.body l.address q → OfAll G.L (cos ++ co ∷ []) (ls ++ l ∷ [])
  all_more (c_all h' t) h s = c_all h' (others_more t h s)

  -- a status is changed
  status_others : {cos : List M.Coexpression} {ls : List (S.Coexp WaitingChain)} {status : M.Status}
      {status' : S.Status WaitingChain} → OfOthers G.L cos ls → (n : ℕ)
      → OfStatus G.L false (l_at ls n).proc (co_at cos n).body (l_at ls n).address status status'
      → OfOthers G.L (slice_set cos n (record (co_at cos n) { status = status }))
      (slice_set ls n (record (l_at ls n) { status = status' }))
  status_others c_none n h = c_none
  status_others (c_more h' s t) zero h =
      c_more (record { activator = h'.activator; procedure = h'.procedure; values = h'.values; status = h })
      s t
  status_others (c_more h' s t) (suc n) h = c_more h' s (status_others t n h)

  pub status_all : {cos : List M.Coexpression} {ls : List (S.Coexp WaitingChain)} {status : M.Status}
      {status' : S.Status WaitingChain} → OfAll G.L cos ls → (n : ℕ)
      → OfStatus G.L (S.is_main n) (l_at ls n).proc (co_at cos n).body (l_at ls n).address status status'
      → OfAll G.L (slice_set cos n (record (co_at cos n) { status = status }))
      (slice_set ls n (record (l_at ls n) { status = status' }))
  status_all (c_all h' t) zero h =
      c_all (record { activator = h'.activator; procedure = h'.procedure; values = h'.values; status = h }) t
  status_all (c_all h' t) (suc n) h = c_all h' (status_others t n h)

  -- an activator is changed
  activator_others : {cos : List M.Coexpression} {ls : List (S.Coexp WaitingChain)} → OfOthers G.L cos ls
      → (n a : ℕ) → OfOthers G.L (slice_set cos n (record (co_at cos n) { activator = a }))
      (slice_set ls n (record (l_at ls n) { activator = a }))
  activator_others c_none n a = c_none
  activator_others (c_more h' s t) zero a =
      c_more (record { activator = refl; procedure = h'.procedure; values = h'.values; status = h'.status })
      s t
  activator_others (c_more h' s t) (suc n) a = c_more h' s (activator_others t n a)

  pub activator_all : {cos : List M.Coexpression} {ls : List (S.Coexp WaitingChain)} → OfAll G.L cos ls
      → (n a : ℕ) → OfAll G.L (slice_set cos n (record (co_at cos n) { activator = a }))
      (slice_set ls n (record (l_at ls n) { activator = a }))
  activator_all (c_all h' t) zero a =
      c_all (record { activator = refl; procedure = h'.procedure; values = h'.values; status = h'.status }) t
  activator_all (c_all h' t) (suc n) a = c_all h' (activator_others t n a)

  -- a fresh one begins
  on_begins : {first : Bool} {e : Tree} {place q j j' : ℕ} {vs vs' : List Value} (a n : ℕ)
      (status : M.Status) (m : Chain) (p : ℕ) (st : M.Store) (ls : List (S.Coexp WaitingChain))
      → LiveCoexpressions G first st.active st.coexpressions ls → first ≡ false → j' ≡ j → vs' ≡ vs
      → StandsCreate G.L j e place q →
      Reaches G (MX.begins (record { status = status; activator = n; body = e; procedure = j'; values = vs' })
      (length st.activations) st) (running_at (chain [] none [] (base j (length st.activations))) place
      (record st { activations = st.activations ++ vs ∷ [] }) ls)
  on_begins {e = t} {place = place} {j = j} {vs = vs} {vs' = vs'} a n status m p st ls live e ej ev
      (s_body o b h1 h2 h3) =
      subst (λ j'. Reaches G (MX.begins
      (record { status = status; activator = n; body = t; procedure = j'; values = vs' })
      (length st.activations) st) (running_at (chain [] none [] (base j (length st.activations))) place
      (record st { activations = st.activations ++ vs ∷ [] }) ls)) (sym ej)
      (subst (λ ws. Reaches G (MX.begins
      (record { status = status; activator = n; body = t; procedure = j; values = ws })
      (length st.activations) st) (running_at (chain [] none [] (base j (length st.activations))) place
      (record st { activations = st.activations ++ vs ∷ [] }) ls)) (sym ev)
      (then_reach G (opens G place (record st { activations = st.activations ++ vs ∷ [] }) ls o)
      (reached_already G (at_eval live.0 live.1 b (v_mark (m_plain (v_create e))) (k_result e h1 h2)
      (r_exhaust e h3)))))

  on_entered_in : {status : M.Status} {status' : S.Status WaitingChain} (c : ℕ) (v : Value) (m : Chain) (p : ℕ)
      (st : M.Store) (ls : List (S.Coexp WaitingChain)) → OfAll G.L st.coexpressions ls
      → OfStatus G.L (S.is_main c) (l_at ls c).proc (co_at st.coexpressions c).body (l_at ls c).address status
      status' → Reaches G (MX.entered_in status c v st)
      (S.give_by (machine G) status' c v (linked_of m p st) (store_of st ls))
  on_entered_in c v m p st ls all (t_fresh e s) = let l = coexpression_at all c in
      on_begins (length st.activations) (co_at st.coexpressions c).activator
      (co_at st.coexpressions c).status m p (MX.make_active c st) _ (sym e, status_all all c t_active) refl
      l.procedure l.values s
  on_entered_in c v m p st ls all t_active = reached_already G at_lost
  on_entered_in c v m p st ls all (t_waiting k r) = reached_already G (at_succeed refl (status_all all c t_active) k r)
  on_entered_in c v m p st ls all (t_after h r) =
      then_reach G (efails G _ (MX.make_active c st) _ h) (reached_already G (at_fail refl (status_all all c t_active) r))
  on_entered_in c v m p st ls all t_exhausted = reached_already G (at_hop refl all)

  pub on_entered : (c : ℕ) (v : Value) (m : Chain) (p : ℕ) (st : M.Store) (ls : List (S.Coexp WaitingChain))
      → OfAll G.L st.coexpressions ls
      → Reaches G (MX.enter_coexp c v st) (S.passed_value (machine G) c v (linked_of m p st) (store_of st ls))
  on_entered c v m p st ls all = on_entered_in c v m p st ls all (coexpression_at all c).status

  on_failed_in : {status : M.Status} {status' : S.Status WaitingChain} (c : ℕ) (m : Chain) (p : ℕ) (st : M.Store)
      (ls : List (S.Coexp WaitingChain)) → OfAll G.L st.coexpressions ls
      → OfStatus G.L (S.is_main c) (l_at ls c).proc (co_at st.coexpressions c).body (l_at ls c).address status
      status' → Reaches G (MX.failed_in status c st)
      (S.fail_by (machine G) status' c (linked_of m p st) (store_of st ls))
  on_failed_in c m p st ls all (t_fresh e s) = reached_already G at_lost
  on_failed_in c m p st ls all t_active = reached_already G at_lost
  on_failed_in c m p st ls all (t_waiting k r) = reached_already G (at_fail refl (status_all all c t_active) r)
  on_failed_in c m p st ls all (t_after h r) = reached_already G (at_fail refl (status_all all c t_active) r)
  on_failed_in c m p st ls all t_exhausted = reached_already G (at_hop refl all)

  pub on_failed : (c : ℕ) (m : Chain) (p : ℕ) (st : M.Store) (ls : List (S.Coexp WaitingChain))
      → OfAll G.L st.coexpressions ls
      → Reaches G (MX.fail_coexp c st) (S.passed_failure (machine G) c (linked_of m p st) (store_of st ls))
  on_failed c m p st ls all = on_failed_in c m p st ls all (coexpression_at all c).status
