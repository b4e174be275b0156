-- A transfer changes at most the one that is left and the one that is entered; one is active.
use Rattle.std.proofs.Common.{◌≡◌, ◌≢◌, ℕ, zero, suc, false, List, [], ◌∷◌, slice_get, Option, Some, None, IsSome, refl, sym, ap, ◌∙◌, subst, arith}
use Rattle.std.specs.Option.{option_map}
use Rattle.std.proofs.lemmas.Option.{same_Some, slice_get-map}
use Rattle.icn_value.specs.declared.val.Val.{Val}
use Rattle.icn_frames.specs.Stacks.{FlatStack}
use Rattle.icn_run.specs.Step as code
use Rattle.icn_coexp.specs.declared.entries.CoexpEntry.{CoexpEntry}
use Rattle.icn_coexp.specs.declared.entries.Status.{Status}
use Rattle.icn_coexp.specs.declared.entries.Status.TheVariants.{Fresh, Active, Waiting, Exhausted}
use Rattle.icn_coexp.specs.declared.entries.RunningStack.{RunningStack}
use Rattle.icn_coexp.specs.declared.entries.RunningStack.TheVariants.{On, Hopping}
use Rattle.icn_coexp.specs.Transfers.{Coexp, CoexpTable, status_in, status_of, source, with_status, with_status_in, with_activator, with_activator_in, with_waiting, wait_on, begin_by, give_by, fail_by, enter_other, give, exhaust, exhausted_of, active_status, OneIsActive, KeepsOthers}
use Rattle.icn_coexp.specs.KeptEntries.{status_seen, coexp_seen, running_seen, table_seen, StatusFits, RunsAs, IsHere, AreInOrder}
use Rattle.icn_coexp.proofs.ChangedEntries.{put_other}
use Rattle.icn_coexp.proofs.TransferredEntries.{here_entry}

status_others : (n i : ℕ) (s : code.Status FlatStack) (coexps : List Coexp) → i ≢ n → slice_get (with_status n s coexps) i ≡ slice_get coexps i
status_others n i s coexps d = by_coexp (slice_get coexps n)
  where
    by_coexp : (o : Option Coexp) → slice_get (with_status_in n s coexps o) i ≡ slice_get coexps i
    by_coexp None = refl
    by_coexp (Some coexp) = put_other Coexp coexps n i (record coexp { status = s }) d

activator_others : (n i a : ℕ) (coexps : List Coexp) → i ≢ n → slice_get (with_activator n a coexps) i ≡ slice_get coexps i
activator_others n i a coexps d = by_coexp (slice_get coexps n)
  where
    by_coexp : (o : Option Coexp) → slice_get (with_activator_in n a coexps o) i ≡ slice_get coexps i
    by_coexp None = refl
    by_coexp (Some coexp) = put_other Coexp coexps n i (record coexp { activator = a }) d

wait_others : (t : CoexpTable) (i : ℕ) (r : Option FlatStack) → i ≢ t.active → slice_get (wait_on t r).coexps i ≡ slice_get t.coexps i
wait_others t i None d = refl
wait_others t i (Some m) d = status_others t.active i (code.Waiting m) t.coexps d

begin_others : (n i : ℕ) (t : CoexpTable) (o : Option Coexp) → i ≢ n → slice_get (begin_by n t o).coexps i ≡ slice_get t.coexps i
begin_others n i t None d = refl
begin_others n i t (Some coexp) d = status_others n i code.Active t.coexps d

-- the list of what an answer holds
list_in : Option CoexpTable → List Coexp → List Coexp
list_in (Some t) coexps = t.coexps
list_in None coexps = coexps

same_list : (t u : CoexpTable) → (let a : Option CoexpTable = Some t in let b : Option CoexpTable = Some u in a ≡ b) → t.coexps ≡ u.coexps
unfolding list_in
same_list t u e = ap (λ (w : Option CoexpTable). list_in w t.coexps) e

give_others : (n i : ℕ) (v : Val) (t u : CoexpTable) (s : code.Status FlatStack) → give_by n v t s ≡ Some u → i ≢ n
    → slice_get u.coexps i ≡ slice_get t.coexps i
give_others n i v t u code.Fresh e d =
    ap (λ (w : List Coexp). slice_get w i) (sym (same_list (begin_by n t (slice_get t.coexps n)) u e)) ∙ begin_others n i t (slice_get t.coexps n) d
give_others n i v t u code.Active e d = cc
give_others n i v t u (code.Waiting m) e d = ap (λ (w : List Coexp). slice_get w i) (sym (same_list _ u e)) ∙ status_others n i code.Active t.coexps d
give_others n i v t u code.Exhausted e d = ap (λ (w : List Coexp). slice_get w i) (sym (same_list _ u e))

fail_others : (n i : ℕ) (t u : CoexpTable) (s : code.Status FlatStack) → fail_by n t s ≡ Some u → i ≢ n → slice_get u.coexps i ≡ slice_get t.coexps i
fail_others n i t u code.Fresh e d = cc
fail_others n i t u code.Active e d = cc
fail_others n i t u (code.Waiting m) e d = ap (λ (w : List Coexp). slice_get w i) (sym (same_list _ u e)) ∙ status_others n i code.Active t.coexps d
fail_others n i t u code.Exhausted e d = ap (λ (w : List Coexp). slice_get w i) (sym (same_list _ u e))

pub enter_keeps : (n : ℕ) (v : Val) (t u : CoexpTable) → enter_other n v t ≡ Some u → KeepsOthers t.active n t.coexps u.coexps
enter_keeps n v t u e = λ i d f.
    let left : CoexpTable = with_waiting t in
    let next : CoexpTable = record left { coexps = with_activator n t.active left.coexps } in
    give_others n i v next u (status_of n next) e f ∙ activator_others n i t.active left.coexps f ∙ wait_others t i t.running d

pub give_keeps : (v : Val) (t u : CoexpTable) → give v t ≡ Some u → KeepsOthers t.active (source t) t.coexps u.coexps
give_keeps v t u e =
    λ i d f. let left : CoexpTable = with_waiting t in give_others (source t) i v left u (status_of (source t) left) e f ∙ wait_others t i t.running d

pub exhaust_keeps : (t u : CoexpTable) → exhaust t ≡ Some u → KeepsOthers t.active (source t) t.coexps u.coexps
exhaust_keeps t u e = λ i d f.
    let left : CoexpTable = record t { coexps = with_status t.active code.Exhausted t.coexps } in
    fail_others (source t) i left u (status_of (source t) left) e f ∙ status_others t.active i code.Exhausted t.coexps d

-- one is active

here_case : (K : Type 0) (running : RunningStack K) (s : Status K) → RunsAs running s → status_seen s ≡ active_status (running_seen running)
here_case K (On stack) Active h = refl
here_case K Hopping Exhausted h = refl
here_case K (On stack) (Fresh f) h = absurd h
here_case K (On stack) (Waiting f) h = absurd h
here_case K (On stack) Exhausted h = absurd h
here_case K Hopping (Fresh f) h = absurd h
here_case K Hopping (Waiting f) h = absurd h
here_case K Hopping Active h = absurd h

alone_case : (K : Type 0) (a n : ℕ) (e : CoexpEntry K) (s : Status K) → StatusFits (Some a) n e s → status_seen s ≡ code.Active → n ≡ a
alone_case K a n e (Fresh f) h x = cc
alone_case K a n e Active h x = cc
alone_case K a n e (Waiting f) h x = cc
alone_case K a n e Exhausted h x = cc

pub one_is : (K : Type 0) (es : List (CoexpEntry K)) (a : ℕ) (running : RunningStack K) → AreInOrder es a running → OneIsActive (table_seen es a running)
one_is K es a running k =
    let e = here_entry K running (slice_get es a) k.here in
    record {
      here = ap status_in (slice_get-map coexp_seen es a ∙ ap (option_map coexp_seen) e.1) ∙ here_case K running e.0.status (subst (IsHere running) e.1 k.here);
      alone = λ n x. by_entry n (slice_get es n) refl (sym (ap status_in (slice_get-map coexp_seen es n)) ∙ x);
    }
  where
    by_entry : (n : ℕ) (o : Option (CoexpEntry K)) → slice_get es n ≡ o → status_in (option_map coexp_seen o) ≡ code.Active → n ≡ a
    by_entry n None g x = cc
    by_entry n (Some e) g x = alone_case K a n e e.status (k.all n e g).status x

-- `&main`

begun_case : (K : Type 0) (active : Option ℕ) (e : CoexpEntry K) (s : Status K) → StatusFits active 0 e s → status_seen s ≢ code.Fresh
begun_case K active e (Fresh f) h = λ x. absurd (omega (arith, h.0))
begun_case K active e Active h = λ x. cc
begun_case K active e (Waiting f) h = λ x. cc
begun_case K active e Exhausted h = λ x. cc

goes_on_case : (K : Type 0) (active : Option ℕ) (e : CoexpEntry K) (s : Status K) → StatusFits active 0 e s → status_seen s ≢ code.Exhausted
goes_on_case K active e (Fresh f) h = λ x. cc
goes_on_case K active e Active h = λ x. cc
goes_on_case K active e (Waiting f) h = λ x. cc
goes_on_case K active e Exhausted h = λ x. absurd (omega (arith, h))

pub main_begun : (K : Type 0) (es : List (CoexpEntry K)) (a : ℕ) (running : RunningStack K) → AreInOrder es a running
    → status_of 0 (table_seen es a running) ≢ code.Fresh
main_begun K [] a running k = absurd k.here
main_begun K (e ∷ es) a running k = begun_case K (Some a) e e.status (k.all 0 e refl).status

pub main_goes_on : (K : Type 0) (es : List (CoexpEntry K)) (a : ℕ) (running : RunningStack K) → AreInOrder es a running
    → status_of 0 (table_seen es a running) ≢ code.Exhausted
main_goes_on K [] a running k = absurd k.here
main_goes_on K (e ∷ es) a running k = goes_on_case K (Some a) e e.status (k.all 0 e refl).status

-- one that is entered and is not exhausted runs

activator_next : (n a : ℕ) (c : Coexp) (cs : List Coexp) (o : Option Coexp) → with_activator_in (suc n) a (c ∷ cs) o ≡ c ∷ with_activator_in n a cs o
activator_next n a c cs (Some x) = refl
activator_next n a c cs None = refl

activator_status : (n a i : ℕ) (cs : List Coexp) → status_in (slice_get (with_activator n a cs) i) ≡ status_in (slice_get cs i)
activator_status n a i [] = refl
activator_status zero a zero (c ∷ cs) = refl
activator_status zero a (suc i) (c ∷ cs) = refl
activator_status (suc n) a zero (c ∷ cs) = ap (λ (w : List Coexp). status_in (slice_get w 0)) (activator_next n a c cs (slice_get cs n))
activator_status (suc n) a (suc i) (c ∷ cs) =
    ap (λ (w : List Coexp). status_in (slice_get w (suc i))) (activator_next n a c cs (slice_get cs n)) ∙ activator_status n a i cs

begin_runs : (n : ℕ) (t u : CoexpTable) (o : Option Coexp) → status_in o ≡ code.Fresh → Some (begin_by n t o) ≡ Some u → IsSome u.running
begin_runs n t u None x e = cc
begin_runs n t u (Some c) x e = subst (λ (w : CoexpTable). IsSome w.running) (same_Some _ _ e) refl

given_runs : (n : ℕ) (v : Val) (t u : CoexpTable) (s : code.Status FlatStack) → status_of n t ≡ s → give_by n v t s ≡ Some u → exhausted_of s ≡ false
    → IsSome u.running
given_runs n v t u code.Fresh h e x = begin_runs n t u (slice_get t.coexps n) h e
given_runs n v t u code.Active h e x = cc
given_runs n v t u (code.Waiting m) h e x = subst (λ (w : CoexpTable). IsSome w.running) (same_Some _ _ e) refl
given_runs n v t u code.Exhausted h e x = cc

pub entered_runs : (n : ℕ) (v : Val) (t u : CoexpTable) → enter_other n v t ≡ Some u → n ≢ t.active → exhausted_of (status_of n t) ≡ false → IsSome u.running
entered_runs n v t u e d x =
    let left : CoexpTable = with_waiting t in
    let next : CoexpTable = record left { coexps = with_activator n t.active left.coexps } in
    let same : status_of n next ≡ status_of n t = activator_status n t.active n left.coexps ∙ ap status_in (wait_others t n t.running d) in
    given_runs n v next u (status_of n next) refl e (ap exhausted_of same ∙ x)
