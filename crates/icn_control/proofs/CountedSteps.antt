-- What turns, results and transfers leave of the counts.
use Rattle.std.proofs.Common.{◌≡◌, ◌≢◌, ◌<◌, ◌≤◌, ℕ, zero, suc, ◌+◌, List, [], ◌∷◌, ◌++◌, ◌⊎◌, slice_get, slice_set, Option, Some, None, inl, inr, refl, sym, ap, ◌∙◌, subst, arith}
use Rattle.std.specs.Prelude.{slice_index}
use Rattle.std.proofs.lemmas.Bool.{cases_lt}
use Rattle.icn_value.specs.declared.val.Val.{Val}
use Rattle.std.proofs.lemmas.Option.{same_Some}
use Rattle.icn_heap.specs.declared.heap.Heap.{Heap as HeldHeap}
use Rattle.icn_heap.specs.Heaps.{heap_of}
use Rattle.icn_frames.specs.Stacks.{FlatStack}
use Rattle.icn_coexp.specs.Transfers as table
use Rattle.icn_coexp.specs.Transfers.{Coexp, CoexpTable, activator_in, enter_other, exhaust, give, source, with_new, with_copy}
use Rattle.icn_run.specs.Step.{Status, Fresh, Active, Waiting, Exhausted}
use Rattle.icn_control.specs.ResultCounts.{FitTurns, EnterOthers}
use Rattle.icn_control.specs.Creations.{copy_entry, copied_on}

-- Activators

status_next : (n : ℕ) (s : Status FlatStack) (c : Coexp) (cs : List Coexp) (o : Option Coexp)
    → table.with_status_in (suc n) s (c ∷ cs) o ≡ c ∷ table.with_status_in n s cs o
status_next n s c cs (Some x) = refl
status_next n s c cs None = refl

-- a status leaves them
status_activator : (cs : List Coexp) (n i : ℕ) (s : Status FlatStack) → activator_in (slice_get (table.with_status n s cs) i) ≡ activator_in (slice_get cs i)
status_activator [] n i s = refl
status_activator (c ∷ cs) zero zero s = refl
status_activator (c ∷ cs) zero (suc i) s = refl
status_activator (c ∷ cs) (suc n) zero s = ap (λ (w : List Coexp). activator_in (slice_get w 0)) (status_next n s c cs (slice_get cs n))
status_activator (c ∷ cs) (suc n) (suc i) s =
    ap (λ (w : List Coexp). activator_in (slice_get w (suc i))) (status_next n s c cs (slice_get cs n)) ∙ status_activator cs n i s

pub status_others : (cs : List Coexp) (n : ℕ) (s : Status FlatStack) → EnterOthers cs → EnterOthers (table.with_status n s cs)
status_others cs n s k i p = λ e. k i p (sym (status_activator cs n i s) ∙ e)

activator_next : (n a : ℕ) (c : Coexp) (cs : List Coexp) (o : Option Coexp)
    → table.with_activator_in (suc n) a (c ∷ cs) o ≡ c ∷ table.with_activator_in n a cs o
activator_next n a c cs (Some x) = refl
activator_next n a c cs None = refl

-- one that is set is another one
activator_set : (P : ℕ → ℕ → Type 0) (cs : List Coexp) (n a : ℕ) → ((i : ℕ) → P i (activator_in (slice_get cs i))) → P n a → (i : ℕ)
    → P i (activator_in (slice_get (table.with_activator n a cs) i))
activator_set P [] n a all one i = all i
activator_set P (c ∷ cs) zero a all one zero = one
activator_set P (c ∷ cs) zero a all one (suc i) = all (suc i)
activator_set P (c ∷ cs) (suc n) a all one zero =
    subst (λ (w : List Coexp). P 0 (activator_in (slice_get w 0))) (sym (activator_next n a c cs (slice_get cs n))) (all 0)
activator_set P (c ∷ cs) (suc n) a all one (suc i) =
    subst (λ (w : List Coexp). P (suc i) (activator_in (slice_get w (suc i)))) (sym (activator_next n a c cs (slice_get cs n)))
    (activator_set (λ k x. P (suc k) x) cs n a (λ k. all (suc k)) one i)

enter_others : (cs : List Coexp) (n a : ℕ) → a ≢ n → EnterOthers cs → EnterOthers (table.with_activator n a cs)
enter_others cs n a d k = activator_set (λ i x. 0 < i → x ≢ i) cs n a k (λ p. d)

begin_others : (tab : CoexpTable) (n : ℕ) (o : Option Coexp) → EnterOthers tab.coexps → EnterOthers (table.begin_by n tab o).coexps
begin_others tab n None k = k
begin_others tab n (Some c) k = status_others tab.coexps n Active k

give_by_others : (tab u : CoexpTable) (n : ℕ) (v : Val) (s : Status FlatStack) → table.give_by n v tab s ≡ Some u → EnterOthers tab.coexps
    → EnterOthers u.coexps
give_by_others tab u n v Fresh e k =
    subst (λ (w : CoexpTable). EnterOthers w.coexps) (same_Some (table.begin_by n tab (slice_get tab.coexps n)) u e)
    (begin_others tab n (slice_get tab.coexps n) k)
give_by_others tab u n v Active e k = cc
give_by_others tab u n v (Waiting m) e k = subst (λ (w : CoexpTable). EnterOthers w.coexps) (same_Some _ _ e) (status_others tab.coexps n Active k)
give_by_others tab u n v Exhausted e k = subst (λ (w : CoexpTable). EnterOthers w.coexps) (same_Some _ _ e) k

fail_by_others : (tab u : CoexpTable) (n : ℕ) (s : Status FlatStack) → table.fail_by n tab s ≡ Some u → EnterOthers tab.coexps → EnterOthers u.coexps
fail_by_others tab u n Fresh e k = cc
fail_by_others tab u n Active e k = cc
fail_by_others tab u n (Waiting m) e k = subst (λ (w : CoexpTable). EnterOthers w.coexps) (same_Some _ _ e) (status_others tab.coexps n Active k)
fail_by_others tab u n Exhausted e k = subst (λ (w : CoexpTable). EnterOthers w.coexps) (same_Some _ _ e) k

waits_others : (tab : CoexpTable) (o : Option FlatStack) → EnterOthers tab.coexps → EnterOthers (table.wait_on tab o).coexps
waits_others tab None k = k
waits_others tab (Some m) k = status_others tab.coexps tab.active (Waiting m) k

pub give_others : (v : Val) (tab u : CoexpTable) → give v tab ≡ Some u → EnterOthers tab.coexps → EnterOthers u.coexps
give_others v tab u e k =
    let left : CoexpTable = table.with_waiting tab in
    give_by_others left u (source tab) v (table.status_of (source tab) left) e (waits_others tab tab.running k)

pub entered_others : (n : ℕ) (v : Val) (tab u : CoexpTable) → enter_other n v tab ≡ Some u → n ≢ tab.active → EnterOthers tab.coexps → EnterOthers u.coexps
entered_others n v tab u e d k =
    let left : CoexpTable = table.with_waiting tab in
    let next : CoexpTable = record left { coexps = table.with_activator n tab.active left.coexps } in
    give_by_others next u n v (table.status_of n next) e (enter_others left.coexps n tab.active (λ q. d (sym q)) (waits_others tab tab.running k))

pub exhaust_others : (tab u : CoexpTable) → exhaust tab ≡ Some u → EnterOthers tab.coexps → EnterOthers u.coexps
exhaust_others tab u e k =
    let cs : List Coexp = table.with_status tab.active Exhausted tab.coexps in
    fail_by_others (record tab { coexps = cs }) u (source tab) (table.status_in (slice_get cs (source tab))) e (status_others tab.coexps tab.active Exhausted k)

more_activator : (cs : List Coexp) (x : Coexp) (i : ℕ) → x.activator ≡ 0 → activator_in (slice_get (cs ++ x ∷ []) i) ≡ activator_in (slice_get cs i)
more_activator [] x zero e = e
more_activator [] x (suc i) e = refl
more_activator (y ∷ cs) x zero e = refl
more_activator (y ∷ cs) x (suc i) e = more_activator cs x i e

pub new_others : (tab : CoexpTable) (values : List Val) (proc place : ℕ) → EnterOthers tab.coexps → EnterOthers (with_new values proc place tab).coexps
new_others tab values proc place k i p = λ e.
    let new : Coexp = record { status = Fresh; activator = 0; values = values; proc = proc; address = place } in
    k i p (sym (more_activator tab.coexps new i refl) ∙ e)

pub copy_others : (tab : CoexpTable) (o : Option Coexp) → EnterOthers tab.coexps → EnterOthers (with_copy tab o).coexps
copy_others tab None k = k
copy_others tab (Some c) k = new_others tab c.values c.proc c.address k

-- the active one after a transfer

begin_active : (tab : CoexpTable) (n : ℕ) (o : Option Coexp) → table.status_in o ≡ Fresh → (table.begin_by n tab o).active ≡ n
begin_active tab n None e = cc
begin_active tab n (Some c) e = refl

give_by_active : (tab u : CoexpTable) (n : ℕ) (v : Val) (s : Status FlatStack) → table.status_of n tab ≡ s → table.give_by n v tab s ≡ Some u → u.active ≡ n
give_by_active tab u n v Fresh h e =
    ap (λ (w : CoexpTable). w.active) (sym (same_Some (table.begin_by n tab (slice_get tab.coexps n)) u e)) ∙ begin_active tab n (slice_get tab.coexps n) h
give_by_active tab u n v Active h e = cc
give_by_active tab u n v (Waiting m) h e = ap (λ (w : CoexpTable). w.active) (sym (same_Some _ _ e))
give_by_active tab u n v Exhausted h e = ap (λ (w : CoexpTable). w.active) (sym (same_Some _ _ e))

pub give_active : (v : Val) (tab u : CoexpTable) → give v tab ≡ Some u → u.active ≡ source tab
give_active v tab u e = let left : CoexpTable = table.with_waiting tab in give_by_active left u (source tab) v (table.status_of (source tab) left) refl e

-- Results

index_here : (cs : List ℕ) (n x : ℕ) → slice_index (slice_set cs n x) n ≤ x
index_here [] n x = omega arith
index_here (c ∷ cs) zero x = omega arith
index_here (c ∷ cs) (suc n) x = index_here cs n x

index_other : (cs : List ℕ) (n i x : ℕ) → i ≢ n → slice_index (slice_set cs n x) i ≡ slice_index cs i
index_other [] n i x d = refl
index_other (c ∷ cs) zero zero x d = absurd (d refl)
index_other (c ∷ cs) zero (suc i) x d = refl
index_other (c ∷ cs) (suc n) zero x d = refl
index_other (c ∷ cs) (suc n) (suc i) x d = index_other cs n i x (λ e. d (ap (λ (k : ℕ). suc k) e))

pub index_more : (cs : List ℕ) (i : ℕ) → slice_index (cs ++ 0 ∷ []) i ≡ slice_index cs i
index_more [] zero = refl
index_more [] (suc i) = refl
index_more (c ∷ cs) zero = refl
index_more (c ∷ cs) (suc i) = index_more cs i

decides : (m n : ℕ) → (m ≡ n) ⊎ (m ≢ n)
decides m n = elim (cases_lt m n) as (λ w. (m ≡ n) ⊎ (m ≢ n)) [
  | inl p ↦ inr (λ e. absurd (omega arith))
  | inr p ↦ elim (cases_lt n m) as (λ w. (m ≡ n) ⊎ (m ≢ n)) [
    | inl q ↦ inr (λ e. absurd (omega arith))
    | inr q ↦ inl (omega arith)
  ]
]

-- the active one gave a result as a turn, and another one is active
pub result_fits : (turns a to : ℕ) (cs : List ℕ) → 0 < a → to ≢ a → FitTurns turns a cs → FitTurns (turns + 1) to (slice_set cs a (slice_index cs a + 1))
result_fits turns a to cs p d k =
    let new : List ℕ = slice_set cs a (slice_index cs a + 1) in
    record {
      all = λ n q. elim (decides n a) as (λ w. slice_index new n + slice_index new n ≤ turns + 1) [
        | inl e ↦
            subst (λ (i : ℕ). slice_index new i + slice_index new i ≤ turns + 1) (sym e) (omega (arith, index_here cs a (slice_index cs a + 1), k.entered p))
        | inr e ↦ omega (arith, index_other cs a n (slice_index cs a + 1) e, k.all n q)
      ];
      entered = λ q. omega (arith, index_other cs a to (slice_index cs a + 1) d, k.all to q);
    }

-- another one was entered as a turn
pub turn_fits : (turns a to : ℕ) (cs : List ℕ) → FitTurns turns a cs → FitTurns (turns + 1) to cs
turn_fits turns a to cs k = record { all = λ n p. omega (arith, k.all n p); entered = λ p. omega (arith, k.all to p) }

-- a turn was made
pub turn_more : (turns a : ℕ) (cs : List ℕ) → FitTurns turns a cs → FitTurns (turns + 1) a cs
turn_more turns a cs k = record { all = λ n p. omega (arith, k.all n p); entered = λ p. omega (arith, k.entered p) }

-- the counts are the same
pub same_counts : (turns a b : ℕ) (cs ds : List ℕ) → ((n : ℕ) → slice_index ds n ≡ slice_index cs n) → b ≡ a → FitTurns turns a cs → FitTurns turns b ds
same_counts turns a b cs ds same e k =
    let here : FitTurns turns a ds = record { all = λ n p. omega (arith, same n, k.all n p); entered = λ p. omega (arith, same a, k.entered p) } in
    subst (λ (x : ℕ). FitTurns turns x ds) (sym e) here

-- equal counts fit the same turns
pub list_counts : (turns active : ℕ) (old new : List ℕ) → new ≡ old → FitTurns turns active old → FitTurns turns active new
list_counts turns active old new e k = subst (λ (cs : List ℕ). FitTurns turns active cs) (sym e) k

-- the heap is the same
pub heap_counts : (turns active : ℕ) (old new : HeldHeap) → new ≡ old → FitTurns turns active (heap_of old).coexps → FitTurns turns active (heap_of new).coexps
heap_counts turns active old new e k = subst (λ (h : HeldHeap). FitTurns turns active (heap_of h).coexps) (sym e) k

-- a turn that was counted is used
pub turn_used : (turns a : ℕ) (cs : List ℕ) → ((n : ℕ) → 0 < n → slice_index cs n + slice_index cs n + 1 ≤ turns) → FitTurns turns a cs
turn_used turns a cs k = record { all = λ n p. omega (arith, k n p); entered = λ p. k a p }

-- it was counted
pub turn_had : (turns a : ℕ) (cs : List ℕ) → FitTurns turns a cs → (n : ℕ) → 0 < n → slice_index cs n + slice_index cs n + 1 ≤ turns + 1
turn_had turns a cs k n p = omega (arith, k.all n p)

-- a count that has room
pub count_fits : (turns a limit : ℕ) (cs : List ℕ) → 0 < a → turns < limit → limit ≤ 18446744073709551615 → FitTurns turns a cs
    → slice_index cs a < 9223372036854775807
count_fits turns a limit cs p q r k = omega (arith, k.entered p, q, r)

-- what is copied

copy_active : (tab : CoexpTable) (o : Option Coexp) → (with_copy tab o).active ≡ tab.active
copy_active tab None = refl
copy_active tab (Some c) = refl

pub copied_active : (tab u : CoexpTable) (m : FlatStack) (id : ℕ) → tab.running ≡ Some m → u ≡ copy_entry id tab → u.active ≡ tab.active
copied_active tab u m id e c = ap (λ (w : CoexpTable). w.active) (c ∙ ap (copied_on id tab) e) ∙ copy_active tab (slice_get tab.coexps id)

pub copied_others : (tab u : CoexpTable) (m : FlatStack) (id : ℕ) → tab.running ≡ Some m → u ≡ copy_entry id tab → EnterOthers tab.coexps → EnterOthers u.coexps
copied_others tab u m id e c k =
    subst (λ (w : CoexpTable). EnterOthers w.coexps) (sym (c ∙ ap (copied_on id tab) e)) (copy_others tab (slice_get tab.coexps id) k)
