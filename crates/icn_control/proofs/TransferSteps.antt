-- Transfers of a table, once it is read.
use Rattle.std.proofs.Common.{◌≡◌, ℕ, zero, suc, List, [], ◌∷◌, map, slice_get, slice_set, slice_index_or, Option, Some, None, refl, sym, ap, ◌∙◌}
use Rattle.std.proofs.lemmas.Option.{same_Some}
use Rattle.icn_value.specs.declared.val.Val.{Val}
use Rattle.icn_value.specs.declared.item.Item.TheVariants.{Val as HeldVal}
use Rattle.icn_heap.specs.Extents.{Extent, value_in}
use Rattle.icn_frames.specs.Stacks as held
use Rattle.icn_frames.specs.Stacks.{FlatStack}
use Rattle.law_frames.proofs.CallsRead.{begin_read}
use Rattle.icn_coexp.specs.Transfers as table
use Rattle.icn_coexp.specs.Transfers.{Coexp, CoexpTable, source}
use Rattle.icn_run.specs.Rows as rows
use Rattle.icn_run.specs.Stacks.{Frames, flat}
use Rattle.icn_run.specs.Step as code
use Rattle.icn_run.specs.Step.{Store, Status, Fresh, Active, Waiting, Exhausted, running, failing, activator_of, with_status, with_activator, make_active, fail_by, give_by, passed_failure, passed_value}
use Rattle.icn_control.specs.Machines.{status_in, coexp_in}
use Rattle.icn_control.specs.StackViews.{stack_in, reading_of}
use Rattle.icn_control.specs.TransfersRead.{Beside, store_with, land, TransfersAreRead}

-- where no co-expression is, an exhausted one
abbrev absent : code.Coexp Frames
absent = record { status = Exhausted; activator = zero; values = []; proc = zero; address = zero }

pub status_at : (all : Extent) (cs : List Coexp) (n : ℕ)
    → (slice_index_or (map (coexp_in all) cs) n absent).status ≡ status_in all (table.status_in (slice_get cs n))
status_at all [] n = refl
status_at all (c ∷ cs) zero = refl
status_at all (c ∷ cs) (suc n) = status_at all cs n

activator_at : (all : Extent) (cs : List Coexp) (n : ℕ) → (slice_index_or (map (coexp_in all) cs) n absent).activator ≡ table.activator_in (slice_get cs n)
activator_at all [] n = refl
activator_at all (c ∷ cs) zero = refl
activator_at all (c ∷ cs) (suc n) = activator_at all cs n

there_at : (all : Extent) (cs : List Coexp) (n : ℕ) (c : Coexp) → slice_get cs n ≡ Some c → slice_index_or (map (coexp_in all) cs) n absent ≡ coexp_in all c
there_at all [] n c e = cc
there_at all (x ∷ cs) zero c e = ap (coexp_in all) (same_Some _ _ e)
there_at all (x ∷ cs) (suc n) c e = there_at all cs n c e

status_next : (n : ℕ) (s : Status FlatStack) (c : Coexp) (cs : List Coexp) (o : Option Coexp)
    → table.with_status_in (suc n) s (c ∷ cs) o ≡ c ∷ table.with_status_in n s cs o
status_next n s c cs (Some x) = refl
status_next n s c cs None = refl

status_set : (all : Extent) (cs : List Coexp) (n : ℕ) (s : Status FlatStack)
    → slice_set (map (coexp_in all) cs) n (record (slice_index_or (map (coexp_in all) cs) n absent) { status = status_in all s })
    ≡ map (coexp_in all) (table.with_status n s cs)
status_set all [] n s = refl
status_set all (c ∷ cs) zero s = refl
status_set all (c ∷ cs) (suc n) s =
    ap (λ (w : List (code.Coexp Frames)). coexp_in all c ∷ w) (status_set all cs n s) ∙ ap (map (coexp_in all)) (sym (status_next n s c cs (slice_get cs n)))

activator_next : (n a : ℕ) (c : Coexp) (cs : List Coexp) (o : Option Coexp)
    → table.with_activator_in (suc n) a (c ∷ cs) o ≡ c ∷ table.with_activator_in n a cs o
activator_next n a c cs (Some x) = refl
activator_next n a c cs None = refl

activator_set : (all : Extent) (cs : List Coexp) (n a : ℕ)
    → slice_set (map (coexp_in all) cs) n (record (slice_index_or (map (coexp_in all) cs) n absent) { activator = a })
    ≡ map (coexp_in all) (table.with_activator n a cs)
activator_set all [] n a = refl
activator_set all (c ∷ cs) zero a = refl
activator_set all (c ∷ cs) (suc n) a =
    ap (λ (w : List (code.Coexp Frames)). coexp_in all c ∷ w) (activator_set all cs n a)
    ∙ ap (map (coexp_in all)) (sym (activator_next n a c cs (slice_get cs n)))

-- a store with other co-expressions
abbrev with_list : Store Frames → List (code.Coexp Frames) → Store Frames
with_list st coexps = record st { coexps = coexps }

pub status_put : (beside : Beside) (t : CoexpTable) (n : ℕ) (s : Status FlatStack)
    → with_status n (status_in beside.all s) (store_with beside t) ≡ store_with beside (record t { coexps = table.with_status n s t.coexps })
status_put beside t n s = ap (with_list (store_with beside t)) (status_set beside.all t.coexps n s)

activator_put : (beside : Beside) (t : CoexpTable) (n a : ℕ)
    → with_activator n a (store_with beside t) ≡ store_with beside (record t { coexps = table.with_activator n a t.coexps })
activator_put beside t n a = ap (with_list (store_with beside t)) (activator_set beside.all t.coexps n a)

-- one becomes the active one
active_put : (beside : Beside) (t : CoexpTable) (n : ℕ) (m : FlatStack) → make_active n (store_with beside t) ≡ store_with beside (table.on_stack n m t)
active_put beside t n m = status_put beside (record t { active = n }) n Active

-- Entering with failure

fails_by : (beside : Beside) (t u : CoexpTable) (n : ℕ) (m : Frames) (s : Status FlatStack) → table.fail_by n t s ≡ Some u
    → fail_by flat (status_in beside.all s) n m (store_with beside t) ≡ land beside failing m u u.running
fails_by beside t u n m Fresh e = cc
fails_by beside t u n m Active e = cc
fails_by beside t u n m (Waiting k) e =
    ap (failing (stack_in beside.all k)) (active_put beside t n k) ∙ ap (λ (w : CoexpTable). land beside failing m w w.running) (same_Some _ _ e)
fails_by beside t u n m Exhausted e = ap (λ (w : CoexpTable). land beside failing m w w.running) (same_Some _ _ e)

failure_passed : (beside : Beside) (t u : CoexpTable) (n : ℕ) (m : Frames) → table.enter_failing n t ≡ Some u
    → passed_failure flat n m (store_with beside t) ≡ land beside failing m u u.running
failure_passed beside t u n m e =
    ap (λ (s : Status Frames). fail_by flat s n m (store_with beside t)) (status_at beside.all t.coexps n) ∙ fails_by beside t u n m (table.status_of n t) e

-- Entering with a value

begins_by : (beside : Beside) (t : CoexpTable) (n : ℕ) (m : Frames) (u : CoexpTable) (o : Option Coexp) → slice_get t.coexps n ≡ o
    → Some (table.begin_by n t o) ≡ Some u
    → (c : Coexp) → o ≡ Some c
    → give_by flat Fresh n (rows.Null) m (store_with beside t) ≡ land beside running m u u.running
begins_by beside t n m u (Some c) g e d p =
    let all : Extent = beside.all in
    let began : FlatStack = held.begin c.proc c.values c.address in
    ap (λ (x : code.Coexp Frames). running (flat.begin x.proc x.values x.address m) (make_active n (store_with beside t))) (there_at all t.coexps n c g)
    ∙ ap (λ (x : Frames). running x (make_active n (store_with beside t))) (begin_read (reading_of all) c.proc c.values c.address m)
    ∙ ap (running (stack_in all began)) (active_put beside t n began)
    ∙ ap (λ (w : CoexpTable). land beside running m w w.running) (same_Some _ _ e)
begins_by beside t n m u None g e d p = cc

gives_by : (beside : Beside) (t u : CoexpTable) (n : ℕ) (value : Val) (m : Frames) (s : Status FlatStack)
    → (s ≡ Fresh → (c : Coexp) × (slice_get t.coexps n ≡ Some c)) → table.give_by n value t s ≡ Some u
    → give_by flat (status_in beside.all s) n (value_in beside.all value) m (store_with beside t) ≡ land beside running m u u.running
gives_by beside t u n value m Fresh there e =
    let c = there refl in
    begins_by beside t n m u (slice_get t.coexps n) refl e c.0 c.1
gives_by beside t u n value m Active there e = cc
gives_by beside t u n value m (Waiting k) there e =
    ap (running (stack_in beside.all (held.push (HeldVal value) k))) (active_put beside t n (held.push (HeldVal value) k))
    ∙ ap (λ (w : CoexpTable). land beside running m w w.running) (same_Some _ _ e)
gives_by beside t u n value m Exhausted there e = ap (λ (w : CoexpTable). land beside running m w w.running) (same_Some _ _ e)

-- a fresh one is there
fresh_there : (cs : List Coexp) (n : ℕ) → table.status_in (slice_get cs n) ≡ Fresh → (c : Coexp) × (slice_get cs n ≡ Some c)
fresh_there [] n e = cc
fresh_there (c ∷ cs) zero e = (c, refl)
fresh_there (c ∷ cs) (suc n) e = fresh_there cs n e

value_passed : (beside : Beside) (t u : CoexpTable) (n : ℕ) (value : Val) (m : Frames) → table.enter_with n value t ≡ Some u
    → passed_value flat n (value_in beside.all value) m (store_with beside t) ≡ land beside running m u u.running
value_passed beside t u n value m e =
    ap (λ (s : Status Frames). give_by flat s n (value_in beside.all value) m (store_with beside t)) (status_at beside.all t.coexps n)
    ∙ gives_by beside t u n value m (table.status_of n t) (fresh_there t.coexps n) e

-- The transfers

pub source_is : (beside : Beside) (t : CoexpTable) → activator_of t.active (store_with beside t) ≡ source t
source_is beside t = activator_at beside.all t.coexps t.active

waits_on : (beside : Beside) (t : CoexpTable) (n : FlatStack) → t.running ≡ Some n
    → with_status t.active (Waiting (stack_in beside.all n)) (store_with beside t) ≡ store_with beside (table.with_waiting t)
waits_on beside t n e = status_put beside t t.active (Waiting n) ∙ ap (λ (o : Option FlatStack). store_with beside (table.wait_on t o)) (sym e)

-- transfers of a table, once it is read, are those of the definitions
pub transfers_read : (beside : Beside) (t u : CoexpTable) (m : Frames) → TransfersAreRead beside t u m
transfers_read beside t u m = record {
  exhausts = λ e.
      ap (λ (n : ℕ). passed_failure flat n m (with_status t.active Exhausted (store_with beside t))) (source_is beside t)
      ∙ ap (passed_failure flat (source t) m) (status_put beside t t.active Exhausted)
      ∙ failure_passed beside (record t { coexps = table.with_status t.active Exhausted t.coexps }) u (source t) m e;
  gives = λ value n r e.
      ap (λ (k : ℕ). passed_value flat k (value_in beside.all value) m (with_status t.active (Waiting (stack_in beside.all n)) (store_with beside t)))
      (source_is beside t)
      ∙ ap (passed_value flat (source t) (value_in beside.all value) m) (waits_on beside t n r)
      ∙ value_passed beside (table.with_waiting t) u (source t) value m e;
  enters = λ k value n r e.
      ap (λ (s : Store Frames). passed_value flat k (value_in beside.all value) (stack_in beside.all n) (with_activator k t.active s)) (waits_on beside t n r)
      ∙ ap (passed_value flat k (value_in beside.all value) (stack_in beside.all n)) (activator_put beside (table.with_waiting t) k t.active)
      ∙ value_passed beside (let left : CoexpTable = table.with_waiting t in record left { coexps = table.with_activator k t.active left.coexps }) u k value
      (stack_in beside.all n) e;
}
