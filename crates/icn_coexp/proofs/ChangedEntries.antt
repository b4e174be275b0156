-- What entries keep as one of them changes.
use Rattle.std.proofs.Common.{◌≡◌, ◌≢◌, ℕ, zero, suc, ◌<◌, List, [], ◌∷◌, length, map, slice_get, slice_set, Option, Some, None, inl, inr, refl, sym, ap, ◌∙◌, subst, arith, ◌⊎◌}
use Rattle.std.specs.Option.{option_map}
use Rattle.std.proofs.lemmas.List.{map-set}
use Rattle.std.proofs.lemmas.Option.{slice_get-map}
use Rattle.icn_frames.specs.StackInvariant.{SeenStack}
use Rattle.icn_coexp.specs.declared.entries.CoexpEntry.{CoexpEntry}
use Rattle.icn_coexp.specs.declared.entries.Status.{Status}
use Rattle.icn_coexp.specs.declared.entries.Status.TheVariants.{Fresh, Active, Waiting, Exhausted}
use Rattle.icn_coexp.specs.Transfers.{with_status, with_status_in, with_activator, with_activator_in}
use Rattle.icn_coexp.specs.KeptEntries.{status_seen, coexp_seen, status_put, status_put_in, activator_put, activator_put_in, HasBegun, IsBegun, StatusFits, Fits, AllFit}

-- an entry that is there
pub live_entry : (E : Type 0) (es : List E) (n : ℕ) → n < length es → (e : E) × (slice_get es n ≡ Some e)
live_entry E [] n p = absurd (omega arith)
live_entry E (x ∷ es) zero p = (x, refl)
live_entry E (x ∷ es) (suc n) p = live_entry E es n (omega arith)

pub put_at : (E : Type 0) (es : List E) (k i : ℕ) (e x : E) → slice_get (slice_set es k e) i ≡ Some x
    → ((i ≡ k) × (x ≡ e)) ⊎ ((i ≢ k) × (slice_get es i ≡ Some x))
put_at E [] k i e x p = cc
put_at E (y ∷ s) zero zero e x p = let q : x ≡ e = cc in inl (refl, q)
put_at E (y ∷ s) zero (suc i) e x p = let n : suc i ≢ zero = λ q. absurd (omega arith) in inr (n, p)
put_at E (y ∷ s) (suc k) zero e x p = let n : zero ≢ suc k = λ q. absurd (omega arith) in inr (n, p)
put_at E (y ∷ s) (suc k) (suc i) e x p =
    elim (put_at E s k i e x p) as (λ w. ((suc i ≡ suc k) × (x ≡ e)) ⊎ ((suc i ≢ suc k) × (slice_get (y ∷ s) (suc i) ≡ Some x))) [
      | inl q ↦ inl (ap (λ (w : ℕ). suc w) q.0, q.1)
      | inr q ↦ let n : suc i ≢ suc k = λ r. q.0 (omega arith) in inr (n, q.1)
    ]

pub put_here : (E : Type 0) (es : List E) (k : ℕ) (e x : E) → slice_get es k ≡ Some x → slice_get (slice_set es k e) k ≡ Some e
put_here E [] k e x p = cc
put_here E (y ∷ s) zero e x p = refl
put_here E (y ∷ s) (suc k) e x p = put_here E s k e x p

pub put_other : (E : Type 0) (es : List E) (k i : ℕ) (e : E) → i ≢ k → slice_get (slice_set es k e) i ≡ slice_get es i
put_other E [] k i e n = refl
put_other E (y ∷ s) zero zero e n = absurd (n refl)
put_other E (y ∷ s) zero (suc i) e n = refl
put_other E (y ∷ s) (suc k) zero e n = refl
put_other E (y ∷ s) (suc k) (suc i) e n = put_other E s k i e (λ q. n (ap (λ (w : ℕ). suc w) q))

pub begun_put : (K : Type 0) (es : List (CoexpEntry K)) (k i : ℕ) (e : CoexpEntry K) → (IsBegun (slice_get es k) → HasBegun e.status) → IsBegun (slice_get es i)
    → IsBegun (slice_get (slice_set es k e) i)
begun_put K [] k i e h b = b
begun_put K (y ∷ s) zero zero e h b = h b
begun_put K (y ∷ s) zero (suc i) e h b = b
begun_put K (y ∷ s) (suc k) zero e h b = b
begun_put K (y ∷ s) (suc k) (suc i) e h b = begun_put K s k i e h b

pub fits_other : (K : Type 0) (o o' : Option ℕ) (i : ℕ) (x : CoexpEntry K) (s : Status K) → (Some i ≡ o → Some i ≡ o') → StatusFits o i x s
    → StatusFits o' i x s
fits_other K o o' i x (Fresh stack) t f = f
fits_other K o o' i x Active t f = t f
fits_other K o o' i x (Waiting stack) t f = f
fits_other K o o' i x Exhausted t f = f

pub put_fits : (K : Type 0) (es : List (CoexpEntry K)) (o o' : Option ℕ) (k : ℕ) (e : CoexpEntry K) → AllFit es o
    → (IsBegun (slice_get es k) → HasBegun e.status)
    → IsBegun (slice_get es e.activator)
    → StatusFits o' k e e.status → ((i : ℕ) → i ≢ k → Some i ≡ o → Some i ≡ o') → AllFit (slice_set es k e) o'
put_fits K es o o' k e all h b s others = λ i x p. elim (put_at (CoexpEntry K) es k i e x p) as (λ w. Fits (slice_set es k e) o' i x) [
  | inl q ↦
      let f : Fits (slice_set es k e) o' k e = record { status = s; activator = begun_put K es k e.activator e h b } in
      let g : Fits (slice_set es k e) o' i e = subst (λ (w : ℕ). Fits (slice_set es k e) o' w e) (sym q.0) f in
      subst (λ (w : CoexpEntry K). Fits (slice_set es k e) o' i w) (sym q.1) g
  | inr q ↦
      let f = all i x q.1 in
      record { status = fits_other K o o' i x x.status (others i q.0) f.status; activator = begun_put K es k x.activator e h f.activator }
]

-- a status put in

pub status_put_is : (K : Type 0) (es : List (CoexpEntry K)) (n : ℕ) (s : Status K) (e : CoexpEntry K) → slice_get es n ≡ Some e
    → status_put n s es ≡ slice_set es n (record e { status = s })
status_put_is K es n s e g = ap (status_put_in n s es) g

pub activator_put_is : (K : Type 0) (es : List (CoexpEntry K)) (n a : ℕ) (e : CoexpEntry K) → slice_get es n ≡ Some e
    → activator_put n a es ≡ slice_set es n (record e { activator = a })
activator_put_is K es n a e g = ap (activator_put_in n a es) g

pub entry_after : (K : Type 0) (es : List (CoexpEntry K)) (n : ℕ) (s : Status K) (e : CoexpEntry K) → slice_get es n ≡ Some e
    → slice_get (status_put n s es) n ≡ Some (record e { status = s })
entry_after K es n s e g =
    ap (λ (w : List (CoexpEntry K)). slice_get w n) (status_put_is K es n s e g) ∙ put_here (CoexpEntry K) es n (record e { status = s }) e g

pub status_fits : (K : Type 0) (es : List (CoexpEntry K)) (o o' : Option ℕ) (n : ℕ) (s : Status K) (e : CoexpEntry K) → slice_get es n ≡ Some e → AllFit es o
    → HasBegun s
    → StatusFits o' n (record e { status = s }) s → ((i : ℕ) → i ≢ n → Some i ≡ o → Some i ≡ o') → AllFit (status_put n s es) o'
status_fits K es o o' n s e g all h f others =
    subst (λ (w : List (CoexpEntry K)). AllFit w o') (sym (status_put_is K es n s e g))
    (put_fits K es o o' n (record e { status = s }) all (λ b. h) (all n e g).activator f others)

-- the active one comes to wait, or is exhausted
only_active : (a i : ℕ) → i ≢ a → Some i ≡ Some a → Some i ≡ None
only_active a i n p = let q : i ≡ a = cc in absurd (n q)

pub wait_fits : (K : Type 0) (es : List (CoexpEntry K)) (a : ℕ) (stack : SeenStack) (e : CoexpEntry K) → slice_get es a ≡ Some e → AllFit es (Some a)
    → 0 < stack.spare
    → AllFit (status_put a (Waiting stack) es) None
wait_fits K es a stack e g all r = status_fits K es (Some a) None a (Waiting stack) e g all tt r (only_active a)

pub exhausted_fits : (K : Type 0) (es : List (CoexpEntry K)) (a : ℕ) (e : CoexpEntry K) → slice_get es a ≡ Some e → AllFit es (Some a) → 0 < a
    → AllFit (status_put a Exhausted es) None
exhausted_fits K es a e g all r = status_fits K es (Some a) None a Exhausted e g all tt r (only_active a)

-- none is active, and one becomes so
no_active : (n i : ℕ) → i ≢ n → Some i ≡ None → Some i ≡ Some n
no_active n i k p = cc

pub active_fits : (K : Type 0) (es : List (CoexpEntry K)) (n : ℕ) (e : CoexpEntry K) → slice_get es n ≡ Some e → AllFit es None
    → AllFit (status_put n Active es) (Some n)
active_fits K es n e g all = status_fits K es None (Some n) n Active e g all tt refl (no_active n)

pub none_fits : (K : Type 0) (es : List (CoexpEntry K)) (n : ℕ) → AllFit es None → AllFit es (Some n)
none_fits K es n all = λ i x p.
    let f = all i x p in
    record { status = fits_other K None (Some n) i x x.status (λ q. cc) f.status; activator = f.activator }

pub activator_fits : (K : Type 0) (es : List (CoexpEntry K)) (n a : ℕ) (e : CoexpEntry K) → slice_get es n ≡ Some e → AllFit es None → IsBegun (slice_get es a)
    → AllFit (activator_put n a es) None
activator_fits K es n a e g all b =
    subst (λ (w : List (CoexpEntry K)). AllFit w None) (sym (activator_put_is K es n a e g))
    (put_fits K es None None n (record e { activator = a }) all (λ (h : IsBegun (slice_get es n)). subst IsBegun g h) b (all n e g).status (λ i k p. p))

-- entries that are seen

pub seen_status : (K : Type 0) (es : List (CoexpEntry K)) (n : ℕ) (s : Status K)
    → with_status n (status_seen s) (map coexp_seen es) ≡ map coexp_seen (status_put n s es)
seen_status K es n s = ap (with_status_in n (status_seen s) (map coexp_seen es)) (slice_get-map coexp_seen es n) ∙ by_entry (slice_get es n)
  where
    by_entry : (o : Option (CoexpEntry K))
        → with_status_in n (status_seen s) (map coexp_seen es) (option_map coexp_seen o) ≡ map coexp_seen (status_put_in n s es o)
    by_entry None = refl
    by_entry (Some e) = sym (map-set coexp_seen es n (record e { status = s }))

pub seen_activator : (K : Type 0) (es : List (CoexpEntry K)) (n a : ℕ) → with_activator n a (map coexp_seen es) ≡ map coexp_seen (activator_put n a es)
seen_activator K es n a = ap (with_activator_in n a (map coexp_seen es)) (slice_get-map coexp_seen es n) ∙ by_entry (slice_get es n)
  where
    by_entry : (o : Option (CoexpEntry K)) → with_activator_in n a (map coexp_seen es) (option_map coexp_seen o) ≡ map coexp_seen (activator_put_in n a es o)
    by_entry None = refl
    by_entry (Some e) = sym (map-set coexp_seen es n (record e { activator = a }))
