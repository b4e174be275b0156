-- What the transfers leave, by the entries.
use Rattle.std.proofs.Common.{◌≡◌, ◌≢◌, ℕ, zero, suc, ◌<◌, Bool, true, false, List, [], ◌∷◌, length, map, slice_get, slice_set, Option, Some, None, IfSome, refl, sym, ap, ◌∙◌, subst, arith}
use Rattle.std.specs.Option.{option_map}
use Rattle.std.proofs.lemmas.List.{length-set}
use Rattle.std.proofs.lemmas.Option.{slice_get-map, slice_get_within}
use Rattle.icn_value.specs.declared.val.Val.{Val}
use Rattle.icn_value.specs.declared.item.Item.TheVariants as Items
use Rattle.icn_frames.specs.Stacks as flat
use Rattle.icn_frames.specs.Stacks.{FlatStack}
use Rattle.icn_frames.specs.StackInvariant.{SeenStack}
use Rattle.icn_run.specs.Step as code
use Rattle.icn_coexp.specs.declared.entries.CoexpEntry.{CoexpEntry}
use Rattle.icn_coexp.specs.declared.entries.Status.{Status}
use Rattle.icn_coexp.specs.declared.entries.Status.TheVariants.{Fresh, Active, Waiting, Exhausted}
use Rattle.icn_coexp.specs.declared.entries.RunningStack.{RunningStack}
use Rattle.icn_coexp.specs.declared.entries.RunningStack.TheVariants.{On, Hopping}
use Rattle.icn_coexp.specs.Transfers.{Coexp, CoexpTable, give, exhaust, enter_other, with_activator, source, activator_in, status_in, status_of, with_waiting, enter_with, give_by, begin_by, on_stack, enter_failing, fail_by, exhausted_of}
use Rattle.icn_coexp.specs.KeptEntries.{status_seen, coexp_seen, running_seen, room_of, table_seen, status_put, status_put_in, activator_put, status_at, HasBegun, IsBegun, StatusFits, Fits, AllFit, RunsAs, IsHere, AreInOrder, CanBeGiven, IsGiven, CanFail, Comes, WaitsIn}
use Rattle.icn_coexp.proofs.ChangedEntries.{live_entry, put_here, put_other, activator_put_is, activator_fits, seen_activator, begun_put, status_put_is, entry_after, wait_fits, exhausted_fits, active_fits, none_fits, seen_status}

pub here_entry : (K : Type 0) (running : RunningStack K) (o : Option (CoexpEntry K)) → IsHere running o → (e : CoexpEntry K) × (o ≡ Some e)
here_entry K running (Some e) h = (e, refl)
here_entry K running None h = absurd h

-- what entered the active one last

source_in : (K : Type 0) (o : Option (CoexpEntry K)) (e : CoexpEntry K) → o ≡ Some e → activator_in (option_map coexp_seen o) ≡ e.activator
source_in K o e p = ap (λ (w : Option (CoexpEntry K)). activator_in (option_map coexp_seen w)) p

pub source_begun : (K : Type 0) (es : List (CoexpEntry K)) (a to : ℕ) (running : RunningStack K) → AreInOrder es a running
    → to ≡ source (table_seen es a running)
    → IsBegun (slice_get es to)
source_begun K es a to running k p =
    let e = here_entry K running (slice_get es a) k.here in
    let q : to ≡ e.0.activator = p ∙ ap activator_in (slice_get-map coexp_seen es a) ∙ source_in K (slice_get es a) e.0 e.1 in
    subst (λ (w : ℕ). IsBegun (slice_get es w)) (sym q) (k.all a e.0 e.1).activator

pub begun_entry : (K : Type 0) (o : Option (CoexpEntry K)) → IsBegun o → (e : CoexpEntry K) × (o ≡ Some e)
begun_entry K (Some e) b = (e, refl)
begun_entry K None b = absurd b

pub begun_live : (K : Type 0) (es : List (CoexpEntry K)) (n : ℕ) → IsBegun (slice_get es n) → n < length es
begun_live K es n b = let e = begun_entry K (slice_get es n) b in slice_get_within es n e.0 e.1

-- the source of a table is one of its entries
pub source_live : (K : Type 0) (es : List (CoexpEntry K)) (a to : ℕ) (running : RunningStack K) → AreInOrder es a running
    → to ≡ source (table_seen es a running)
    → to < length es
source_live K es a to running k p = begun_live K es to (source_begun K es a to running k p)

pub begun_after : (K : Type 0) (es : List (CoexpEntry K)) (n i : ℕ) (s : Status K) (e : CoexpEntry K) → slice_get es n ≡ Some e → HasBegun s
    → IsBegun (slice_get es i)
    → IsBegun (slice_get (status_put n s es) i)
begun_after K es n i s e g h b =
    subst (λ (w : List (CoexpEntry K)). IsBegun (slice_get w i)) (sym (status_put_is K es n s e g)) (begun_put K es n i (record e { status = s }) (λ k. h) b)

-- the active one waits

pub left_fits : (K : Type 0) (es es' : List (CoexpEntry K)) (a : ℕ) (running : RunningStack K) → AreInOrder es a running → 0 < room_of running
    → WaitsIn a running es es'
    → AllFit es' None
left_fits K es es' a Hopping k r w = absurd w
left_fits K es es' a (On stack) k r w =
    let e = here_entry K (On stack) (slice_get es a) k.here in
    subst (λ (v : List (CoexpEntry K)). AllFit v None) (sym w) (wait_fits K es a stack e.0 e.1 k.all r)

pub left_begun : (K : Type 0) (es es' : List (CoexpEntry K)) (a i : ℕ) (running : RunningStack K) → AreInOrder es a running → WaitsIn a running es es'
    → IsBegun (slice_get es i) → IsBegun (slice_get es' i)
left_begun K es es' a i Hopping k w b = absurd w
left_begun K es es' a i (On stack) k w b =
    let e = here_entry K (On stack) (slice_get es a) k.here in
    subst (λ (v : List (CoexpEntry K)). IsBegun (slice_get v i)) (sym w) (begun_after K es a i (Waiting stack) e.0 e.1 tt b)

pub left_seen : (K : Type 0) (es es' : List (CoexpEntry K)) (a : ℕ) (running : RunningStack K) → WaitsIn a running es es'
    → with_waiting (table_seen es a running) ≡ record { coexps = map coexp_seen es'; active = a; running = running_seen running }
left_seen K es es' a Hopping w = absurd w
left_seen K es es' a (On stack) w =
    let F : List Coexp → CoexpTable = λ v. record { coexps = v; active = a; running = Some stack.flat } in
    ap F (seen_status K es a (Waiting stack)) ∙ ap (λ (v : List (CoexpEntry K)). F (map coexp_seen v)) (sym w)

-- entering, where none is active

given_case : (K : Type 0) (n : ℕ) (e : CoexpEntry K) (s : Status K) → StatusFits None n e s → exhausted_of (status_seen s) ≡ false → CanBeGiven (Some s)
given_case K n e (Fresh stack) f x = tt
given_case K n e Active f x = cc
given_case K n e (Waiting stack) f x = f
given_case K n e Exhausted f x = cc

failed_case : (K : Type 0) (n : ℕ) (e : CoexpEntry K) (s : Status K) → StatusFits None n e s → HasBegun s → exhausted_of (status_seen s) ≡ false
    → CanFail (Some s)
failed_case K n e (Fresh stack) f h x = absurd h
failed_case K n e Active f h x = cc
failed_case K n e (Waiting stack) f h x = tt
failed_case K n e Exhausted f h x = cc

pub status_is : (K : Type 0) (es : List (CoexpEntry K)) (n : ℕ) (e : CoexpEntry K) → slice_get es n ≡ Some e → status_at n es ≡ Some e.status
status_is K es n e g = ap (option_map (λ (x : CoexpEntry K). x.status)) g

pub tested : (K : Type 0) (es : List (CoexpEntry K)) (n : ℕ) (e : CoexpEntry K) (b : Bool) → slice_get es n ≡ Some e
    → IfSome (status_at n es) (λ s. b ≡ exhausted_of (status_seen s)) → b ≡ exhausted_of (status_seen e.status)
tested K es n e b g t = subst (λ (w : Option (Status K)). IfSome w (λ s. b ≡ exhausted_of (status_seen s))) (status_is K es n e g) t

pub can_give : (K : Type 0) (es : List (CoexpEntry K)) (n : ℕ) (b : Bool) → AllFit es None → n < length es
    → IfSome (status_at n es) (λ s. b ≡ exhausted_of (status_seen s)) → b ≡ false → CanBeGiven (status_at n es)
can_give K es n b all l t p =
    let e = live_entry (CoexpEntry K) es n l in
    subst CanBeGiven (sym (status_is K es n e.0 e.1)) (given_case K n e.0 e.0.status (all n e.0 e.1).status (sym (tested K es n e.0 b e.1 t) ∙ p))

begun_status : (K : Type 0) (es : List (CoexpEntry K)) (n : ℕ) (e : CoexpEntry K) → slice_get es n ≡ Some e → IsBegun (slice_get es n) → HasBegun e.status
begun_status K es n e g b = subst IsBegun g b

pub can_fail : (K : Type 0) (es : List (CoexpEntry K)) (n : ℕ) (b : Bool) → AllFit es None → IsBegun (slice_get es n)
    → IfSome (status_at n es) (λ s. b ≡ exhausted_of (status_seen s)) → b ≡ false → CanFail (status_at n es)
can_fail K es n b all h t p =
    let e = begun_entry K (slice_get es n) h in
    subst CanFail (sym (status_is K es n e.0 e.1))
    (failed_case K n e.0 e.0.status (all n e.0 e.1).status (begun_status K es n e.0 e.1 h) (sym (tested K es n e.0 b e.1 t) ∙ p))

pub kept_on : (K : Type 0) (es es' : List (CoexpEntry K)) (n : ℕ) (stack : SeenStack) → AllFit es None → n < length es → es' ≡ status_put n Active es
    → AreInOrder es' n (On stack)
kept_on K es es' n stack all l p =
    let e = live_entry (CoexpEntry K) es n l in
    let k : AreInOrder (status_put n Active es) n (On stack) =
    record { all = active_fits K es n e.0 e.1 all; here = subst (IsHere (On stack)) (sym (entry_after K es n Active e.0 e.1)) tt } in
    subst (λ (w : List (CoexpEntry K)). AreInOrder w n (On stack)) (sym p) k

hop_case : (K : Type 0) (s : Status K) → exhausted_of (status_seen s) ≡ true → RunsAs Hopping s
hop_case K (Fresh stack) x = cc
hop_case K Active x = cc
hop_case K (Waiting stack) x = cc
hop_case K Exhausted x = tt

pub kept_hop : (K : Type 0) (es : List (CoexpEntry K)) (n : ℕ) (b : Bool) → AllFit es None → n < length es
    → IfSome (status_at n es) (λ s. b ≡ exhausted_of (status_seen s)) → b ≡ true → AreInOrder es n Hopping
kept_hop K es n b all l t p =
    let e = live_entry (CoexpEntry K) es n l in
    record { all = none_fits K es n all; here = subst (IsHere Hopping) (sym e.1) (hop_case K e.0.status (sym (tested K es n e.0 b e.1 t) ∙ p)) }

-- the same as it is seen

pub seen_of : (K : Type 0) (es : List (CoexpEntry K)) (n a : ℕ) (r : Option FlatStack) (e : CoexpEntry K) → slice_get es n ≡ Some e
    → status_of n (record { coexps = map coexp_seen es; active = a; running = r }) ≡ status_seen e.status
seen_of K es n a r e g = ap status_in (slice_get-map coexp_seen es n ∙ ap (option_map coexp_seen) g)

on_seen : (K : Type 0) (es : List (CoexpEntry K)) (n a : ℕ) (r : Option FlatStack) (m m' : FlatStack) → m ≡ m'
    → on_stack n m' (record { coexps = map coexp_seen es; active = a; running = r })
    ≡ record { coexps = map coexp_seen (status_put n Active es); active = n; running = Some m }
on_seen K es n a r m m' p =
    let F : List Coexp → FlatStack → CoexpTable = λ v w. record { coexps = v; active = n; running = Some w } in
    ap (λ (v : List Coexp). F v m') (seen_status K es n Active) ∙ ap (F (map coexp_seen (status_put n Active es))) (sym p)

give_case : (K : Type 0) (es : List (CoexpEntry K)) (n a : ℕ) (r : Option FlatStack) (v : Val) (e : CoexpEntry K) (s : Status K) (m : FlatStack)
    → slice_get es n ≡ Some e
    → StatusFits None n e s → IsGiven v (Some s) m
    → give_by n v (record { coexps = map coexp_seen es; active = a; running = r }) (status_seen s)
    ≡ Some (record { coexps = map coexp_seen (status_put n Active es); active = n; running = Some m })
give_case K es n a r v e (Fresh stack) m g f i =
    let T : CoexpTable = record { coexps = map coexp_seen es; active = a; running = r } in
    ap (λ (w : Option Coexp). Some (begin_by n T w)) (slice_get-map coexp_seen es n ∙ ap (option_map coexp_seen) g)
    ∙ ap (λ (w : CoexpTable). Some w) (on_seen K es n a r m (flat.begin e.proc e.values.items e.address) (i ∙ f.1))
give_case K es n a r v e Active m g f i = absurd i
give_case K es n a r v e (Waiting stack) m g f i = ap (λ (w : CoexpTable). Some w) (on_seen K es n a r m (flat.push (Items.Val v) stack.flat) i)
give_case K es n a r v e Exhausted m g f i = absurd i

pub give_seen : (K : Type 0) (es : List (CoexpEntry K)) (n a : ℕ) (r : Option FlatStack) (v : Val) (m : FlatStack) → AllFit es None → n < length es
    → IsGiven v (status_at n es) m
    → enter_with n v (record { coexps = map coexp_seen es; active = a; running = r })
    ≡ Some (record { coexps = map coexp_seen (status_put n Active es); active = n; running = Some m })
give_seen K es n a r v m all l i =
    let e = live_entry (CoexpEntry K) es n l in
    let T : CoexpTable = record { coexps = map coexp_seen es; active = a; running = r } in
    ap (give_by n v T) (seen_of K es n a r e.0 e.1)
    ∙ give_case K es n a r v e.0 e.0.status m e.1 (all n e.0 e.1).status (subst (λ (w : Option (Status K)). IsGiven v w m) (status_is K es n e.0 e.1) i)

fail_case : (K : Type 0) (es : List (CoexpEntry K)) (n a : ℕ) (r : Option FlatStack) (s : Status K) (m : FlatStack) → Comes (Some s) m
    → fail_by n (record { coexps = map coexp_seen es; active = a; running = r }) (status_seen s)
    ≡ Some (record { coexps = map coexp_seen (status_put n Active es); active = n; running = Some m })
fail_case K es n a r (Fresh stack) m i = absurd i
fail_case K es n a r Active m i = absurd i
fail_case K es n a r (Waiting stack) m i = ap (λ (w : CoexpTable). Some w) (on_seen K es n a r m stack.flat i)
fail_case K es n a r Exhausted m i = absurd i

pub fail_seen : (K : Type 0) (es : List (CoexpEntry K)) (n a : ℕ) (r : Option FlatStack) (m : FlatStack) → n < length es → Comes (status_at n es) m
    → enter_failing n (record { coexps = map coexp_seen es; active = a; running = r })
    ≡ Some (record { coexps = map coexp_seen (status_put n Active es); active = n; running = Some m })
fail_seen K es n a r m l i =
    let e = live_entry (CoexpEntry K) es n l in
    let T : CoexpTable = record { coexps = map coexp_seen es; active = a; running = r } in
    ap (fail_by n T) (seen_of K es n a r e.0 e.1)
    ∙ fail_case K es n a r e.0.status m (subst (λ (w : Option (Status K)). Comes w m) (status_is K es n e.0 e.1) i)

exhausted_case : (s : code.Status FlatStack) → exhausted_of s ≡ true → s ≡ code.Exhausted
exhausted_case code.Fresh x = cc
exhausted_case code.Active x = cc
exhausted_case (code.Waiting m) x = cc
exhausted_case code.Exhausted x = refl

pub status_exhausted : (K : Type 0) (es : List (CoexpEntry K)) (n a : ℕ) (r : Option FlatStack) (b : Bool) → n < length es
    → IfSome (status_at n es) (λ s. b ≡ exhausted_of (status_seen s)) → b ≡ true
    → status_of n (record { coexps = map coexp_seen es; active = a; running = r }) ≡ code.Exhausted
status_exhausted K es n a r b l t p =
    let e = live_entry (CoexpEntry K) es n l in
    seen_of K es n a r e.0 e.1 ∙ exhausted_case (status_seen e.0.status) (sym (tested K es n e.0 b e.1 t) ∙ p)

pub status_other : (K : Type 0) (es : List (CoexpEntry K)) (n a : ℕ) (r : Option FlatStack) (b : Bool) → n < length es
    → IfSome (status_at n es) (λ s. b ≡ exhausted_of (status_seen s)) → b ≡ false
    → exhausted_of (status_of n (record { coexps = map coexp_seen es; active = a; running = r })) ≡ false
status_other K es n a r b l t p =
    let e = live_entry (CoexpEntry K) es n l in
    ap exhausted_of (seen_of K es n a r e.0 e.1) ∙ sym (tested K es n e.0 b e.1 t) ∙ p

-- The active one gives a value to what entered it last.

pub give_on : (K : Type 0) (es es1 es2 : List (CoexpEntry K)) (a to : ℕ) (running : RunningStack K) (v : Val) (m : FlatStack)
    → to ≡ source (table_seen es a running)
    → WaitsIn a running es es1
    → AllFit es1 None → to < length es1 → IsGiven v (status_at to es1) m → es2 ≡ status_put to Active es1
    → give v (table_seen es a running) ≡ Some (record { coexps = map coexp_seen es2; active = to; running = Some m })
give_on K es es1 es2 a to running v m p w all l i e =
    let T : CoexpTable = record { coexps = map coexp_seen es1; active = a; running = running_seen running } in
    let F : List (CoexpEntry K) → Option CoexpTable = λ s. Some (record { coexps = map coexp_seen s; active = to; running = Some m }) in
    ap (λ (t : CoexpTable). enter_with (source (table_seen es a running)) v t) (left_seen K es es1 a running w)
    ∙ ap (λ (n : ℕ). enter_with n v T) (sym p)
    ∙ give_seen K es1 to a (running_seen running) v m all l i
    ∙ ap F (sym e)

pub give_hop : (K : Type 0) (es es1 : List (CoexpEntry K)) (a to : ℕ) (running left : RunningStack K) (v : Val) (b : Bool)
    → to ≡ source (table_seen es a running)
    → WaitsIn a running es es1
    → to < length es1 → IfSome (status_at to es1) (λ s. b ≡ exhausted_of (status_seen s)) → b ≡ true → left ≡ Hopping
    → give v (table_seen es a running) ≡ Some (table_seen es1 to left)
give_hop K es es1 a to running left v b p w l t x h =
    let T : CoexpTable = record { coexps = map coexp_seen es1; active = a; running = running_seen running } in
    ap (λ (u : CoexpTable). enter_with (source (table_seen es a running)) v u) (left_seen K es es1 a running w)
    ∙ ap (λ (n : ℕ). enter_with n v T) (sym p)
    ∙ ap (give_by to v T) (status_exhausted K es1 to a (running_seen running) b l t x)
    ∙ ap (λ (r : RunningStack K). Some (table_seen es1 to r)) (sym h)

-- The active one is exhausted.

pub end_fits : (K : Type 0) (es es1 : List (CoexpEntry K)) (a : ℕ) (running : RunningStack K) → AreInOrder es a running → 0 < a
    → es1 ≡ status_put a Exhausted es
    → AllFit es1 None
end_fits K es es1 a running k r p =
    let e = here_entry K running (slice_get es a) k.here in
    subst (λ (w : List (CoexpEntry K)). AllFit w None) (sym p) (exhausted_fits K es a e.0 e.1 k.all r)

pub end_begun : (K : Type 0) (es es1 : List (CoexpEntry K)) (a i : ℕ) (running : RunningStack K) → AreInOrder es a running → es1 ≡ status_put a Exhausted es
    → IsBegun (slice_get es i) → IsBegun (slice_get es1 i)
end_begun K es es1 a i running k p b =
    let e = here_entry K running (slice_get es a) k.here in
    subst (λ (w : List (CoexpEntry K)). IsBegun (slice_get w i)) (sym p) (begun_after K es a i Exhausted e.0 e.1 tt b)

pub exhaust_on : (K : Type 0) (es es1 es2 : List (CoexpEntry K)) (a to : ℕ) (running : RunningStack K) (m : FlatStack) → to ≡ source (table_seen es a running)
    → es1 ≡ status_put a Exhausted es
    → to < length es1 → Comes (status_at to es1) m → es2 ≡ status_put to Active es1
    → exhaust (table_seen es a running) ≡ Some (record { coexps = map coexp_seen es2; active = to; running = Some m })
exhaust_on K es es1 es2 a to running m p w l i e =
    let G : List Coexp → CoexpTable = λ s. record { coexps = s; active = a; running = running_seen running } in
    let F : List (CoexpEntry K) → Option CoexpTable = λ s. Some (record { coexps = map coexp_seen s; active = to; running = Some m }) in
    ap (λ (s : List Coexp). enter_failing (source (table_seen es a running)) (G s)) (seen_status K es a Exhausted ∙ ap (map coexp_seen) (sym w))
    ∙ ap (λ (n : ℕ). enter_failing n (G (map coexp_seen es1))) (sym p)
    ∙ fail_seen K es1 to a (running_seen running) m l i
    ∙ ap F (sym e)

pub exhaust_hop : (K : Type 0) (es es1 : List (CoexpEntry K)) (a to : ℕ) (running : RunningStack K) (b : Bool) → to ≡ source (table_seen es a running)
    → es1 ≡ status_put a Exhausted es
    → to < length es1 → IfSome (status_at to es1) (λ s. b ≡ exhausted_of (status_seen s)) → b ≡ true
    → exhaust (table_seen es a running) ≡ Some (record { coexps = map coexp_seen es1; active = to; running = None })
exhaust_hop K es es1 a to running b p w l t x =
    let G : List Coexp → CoexpTable = λ s. record { coexps = s; active = a; running = running_seen running } in
    ap (λ (s : List Coexp). enter_failing (source (table_seen es a running)) (G s)) (seen_status K es a Exhausted ∙ ap (map coexp_seen) (sym w))
    ∙ ap (λ (n : ℕ). enter_failing n (G (map coexp_seen es1))) (sym p)
    ∙ ap (fail_by to (G (map coexp_seen es1))) (status_exhausted K es1 to a (running_seen running) b l t x)

-- as a run begins
pub kept_first : (K : Type 0) (es : List (CoexpEntry K)) (e : CoexpEntry K) (stack : SeenStack) → es ≡ e ∷ [] → e.status ≡ Active → e.activator ≡ 0
    → AreInOrder es 0 (On stack)
kept_first K es e stack p q r =
    let is_active : HasBegun e.status = subst HasBegun (sym q) tt in
    let b : IsBegun (slice_get (e ∷ []) e.activator) = subst (λ (w : ℕ). IsBegun (slice_get (e ∷ []) w)) (sym r) is_active in
    let here : IsHere (On stack) (slice_get (e ∷ []) 0) = subst (λ (w : Status K). RunsAs (On stack) w) (sym q) tt in
    let k : AreInOrder (e ∷ []) 0 (On stack) = record { all = λ n x g. only n x g b; here = here } in
    subst (λ (w : List (CoexpEntry K)). AreInOrder w 0 (On stack)) (sym p) k
  where
    only : (n : ℕ) (x : CoexpEntry K) → slice_get (e ∷ []) n ≡ Some x → IsBegun (slice_get (e ∷ []) e.activator) → Fits (e ∷ []) (Some 0) n x
    only zero x g b =
        let same : e ≡ x = cc in
        let f : Fits (e ∷ []) (Some 0) 0 e = record { status = subst (λ (w : Status K). StatusFits (Some 0) 0 e w) (sym q) refl; activator = b } in
        subst (λ (w : CoexpEntry K). Fits (e ∷ []) (Some 0) 0 w) same f
    only (suc n) x g b = cc

-- Another one is entered.

active_case : (K : Type 0) (stack : SeenStack) (o : Option (CoexpEntry K)) → IsHere (On stack) o → IsBegun o
active_case K stack None h = absurd h
active_case K stack (Some e) h = by_status e.status h
  where
    by_status : (s : Status K) → RunsAs (On stack) s → HasBegun s
    by_status Active h = tt
    by_status (Fresh f) h = absurd h
    by_status (Waiting f) h = absurd h
    by_status Exhausted h = absurd h

pub active_begun : (K : Type 0) (es es' : List (CoexpEntry K)) (a : ℕ) (running : RunningStack K) → AreInOrder es a running → WaitsIn a running es es'
    → IsBegun (slice_get es' a)
active_begun K es es' a Hopping k w = absurd w
active_begun K es es' a (On stack) k w = left_begun K es es' a a (On stack) k w (active_case K stack (slice_get es a) k.here)

left_length : (K : Type 0) (es es' : List (CoexpEntry K)) (a n : ℕ) (running : RunningStack K) → WaitsIn a running es es' → n ≢ a
    → status_at n es' ≡ status_at n es
left_length K es es' a n Hopping w d = absurd w
left_length K es es' a n (On stack) w d = ap (status_at n) w ∙ by_entry (slice_get es a)
  where
    by_entry : (o : Option (CoexpEntry K)) → status_at n (status_put_in a (Waiting stack) es o) ≡ status_at n es
    by_entry None = refl
    by_entry (Some e) = ap (option_map (λ (x : CoexpEntry K). x.status)) (put_other (CoexpEntry K) es a n (record e { status = Waiting stack }) d)

-- the entries once the active one waits and is the activator of the one to be entered
pub record Turned (K : Type 0) (es es1 es2 : List (CoexpEntry K)) (a n : ℕ) (running : RunningStack K) : Type 0 where
  pub fits : AllFit es2 None
  pub live : n < length es2
  pub status : status_at n es2 ≡ status_at n es

pub turned : (K : Type 0) (es es1 es2 : List (CoexpEntry K)) (a n : ℕ) (running : RunningStack K) → AreInOrder es a running → 0 < room_of running
    → WaitsIn a running es es1
    → es2 ≡ activator_put n a es1 → n ≢ a → n < length es1 → Turned K es es1 es2 a n running
turned K es es1 es2 a n running k r w p d l =
    let e = live_entry (CoexpEntry K) es1 n l in
    let all1 : AllFit es1 None = left_fits K es es1 a running k r w in
    let all2 : AllFit (activator_put n a es1) None = activator_fits K es1 n a e.0 e.1 all1 (active_begun K es es1 a running k w) in
    let q : es2 ≡ slice_set es1 n (record e.0 { activator = a }) = p ∙ activator_put_is K es1 n a e.0 e.1 in
    let len : length es2 ≡ length es1 = ap length q ∙ length-set es1 n (record e.0 { activator = a }) in
    let at : slice_get es2 n ≡ Some (record e.0 { activator = a }) = ap (λ (x : List (CoexpEntry K)). slice_get x n) q
    ∙ put_here (CoexpEntry K) es1 n (record e.0 { activator = a }) e.0 e.1 in
    record {
      fits = subst (λ (x : List (CoexpEntry K)). AllFit x None) (sym p) all2;
      live = omega (arith, len, l);
      status = status_is K es2 n (record e.0 { activator = a }) at ∙ sym (status_is K es1 n e.0 e.1) ∙ left_length K es es1 a n running w d;
    }

pub enter_on : (K : Type 0) (es es1 es2 es3 : List (CoexpEntry K)) (a n : ℕ) (running : RunningStack K) (v : Val) (m : FlatStack) → WaitsIn a running es es1
    → es2 ≡ activator_put n a es1
    → AllFit es2 None → n < length es2 → IsGiven v (status_at n es2) m → es3 ≡ status_put n Active es2
    → enter_other n v (table_seen es a running) ≡ Some (record { coexps = map coexp_seen es3; active = n; running = Some m })
enter_on K es es1 es2 es3 a n running v m w p all l i e =
    let G : List Coexp → CoexpTable = λ s. record { coexps = s; active = a; running = running_seen running } in
    let F : List (CoexpEntry K) → Option CoexpTable = λ s. Some (record { coexps = map coexp_seen s; active = n; running = Some m }) in
    ap (λ (t : CoexpTable). enter_with n v (record t { coexps = with_activator n a t.coexps })) (left_seen K es es1 a running w)
    ∙ ap (λ (s : List Coexp). enter_with n v (G s)) (seen_activator K es1 n a ∙ ap (map coexp_seen) (sym p))
    ∙ give_seen K es2 n a (running_seen running) v m all l i
    ∙ ap F (sym e)
