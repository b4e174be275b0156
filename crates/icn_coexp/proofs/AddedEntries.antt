-- What one more entry keeps.
use Rattle.std.proofs.Common.{◌≡◌, ℕ, zero, suc, ◌<◌, List, [], ◌∷◌, ◌++◌, ◌⊎◌, inl, inr, length, map, slice_get, Option, Some, refl, sym, ap, ◌∙◌, subst, arith}
use Rattle.std.specs.Option.{option_map}
use Rattle.std.proofs.lemmas.Option.{slice_get_within, slice_get-map}
use Rattle.icn_value.specs.declared.val.Val.{Val}
use Rattle.icn_coexp.specs.Transfers.{Coexp, CoexpTable, with_new, with_copy}
use Rattle.icn_frames.specs.Stacks as flat
use Rattle.icn_frames.specs.StackInvariant.{SeenStack}
use Rattle.icn_coexp.specs.declared.entries.CoexpEntry.{CoexpEntry}
use Rattle.icn_coexp.specs.declared.entries.Status.{Status}
use Rattle.icn_coexp.specs.declared.entries.Status.TheVariants.{Fresh, Active, Waiting, Exhausted}
use Rattle.icn_coexp.specs.declared.entries.RunningStack.{RunningStack}
use Rattle.icn_coexp.specs.KeptEntries.{coexp_seen, HasBegun, IsBegun, StatusFits, Fits, AllFit, IsHere, AreInOrder}
use Rattle.icn_coexp.proofs.ChangedEntries.{live_entry}
use Rattle.icn_coexp.proofs.TransferredEntries.{here_entry, begun_entry}

get_more : (E : Type 0) (es : List E) (e x : E) (i : ℕ) → slice_get es i ≡ Some x → slice_get (es ++ e ∷ []) i ≡ Some x
get_more E [] e x i p = cc
get_more E (y ∷ s) e x zero p = p
get_more E (y ∷ s) e x (suc i) p = get_more E s e x i p

get_one_more : (E : Type 0) (es : List E) (e x : E) (i : ℕ) → slice_get (es ++ e ∷ []) i ≡ Some x → (slice_get es i ≡ Some x) ⊎ ((i ≡ length es) × (x ≡ e))
get_one_more E [] e x zero p = let q : x ≡ e = cc in inr (refl, q)
get_one_more E [] e x (suc i) p = cc
get_one_more E (y ∷ s) e x zero p = inl p
get_one_more E (y ∷ s) e x (suc i) p = elim (get_one_more E s e x i p) as (λ w. (slice_get (y ∷ s) (suc i) ≡ Some x) ⊎ ((suc i ≡ length (y ∷ s)) × (x ≡ e))) [
  | inl q ↦ inl q
  | inr q ↦ inr (ap (λ (w : ℕ). suc w) q.0, q.1)
]

begun_more : (K : Type 0) (es : List (CoexpEntry K)) (e : CoexpEntry K) (i : ℕ) → IsBegun (slice_get es i) → IsBegun (slice_get (es ++ e ∷ []) i)
begun_more K es e i b =
    let x = begun_entry K (slice_get es i) b in
    subst IsBegun (sym (get_more (CoexpEntry K) es e x.0 i x.1)) (subst IsBegun x.1 b)

main_case : (K : Type 0) (o : Option ℕ) (e : CoexpEntry K) (s : Status K) → StatusFits o 0 e s → HasBegun s
main_case K o e (Fresh stack) f = absurd (omega (arith, f.0))
main_case K o e Active f = tt
main_case K o e (Waiting stack) f = tt
main_case K o e Exhausted f = tt

main_begun : (K : Type 0) (es : List (CoexpEntry K)) (o : Option ℕ) → AllFit es o → 0 < length es → IsBegun (slice_get es 0)
main_begun K es o all l =
    let e = live_entry (CoexpEntry K) es 0 l in
    subst IsBegun (sym e.1) (main_case K o e.0 e.0.status (all 0 e.0 e.1).status)

pub kept_more : (K : Type 0) (es es' : List (CoexpEntry K)) (a : ℕ) (running : RunningStack K) (e : CoexpEntry K) (stack : SeenStack) → AreInOrder es a running
    → es' ≡ es ++ e ∷ []
    → e.status ≡ Fresh stack
    → stack.flat ≡ flat.begin e.proc e.values.items e.address → e.activator ≡ 0 → AreInOrder es' a running
kept_more K es es' a running e stack k p q f r =
    let h = here_entry K running (slice_get es a) k.here in
    let inside : a < length es = slice_get_within es a h.0 h.1 in
    let some : 0 < length es = omega arith in
    let b : IsBegun (slice_get (es ++ e ∷ []) e.activator) = subst (λ (w : ℕ). IsBegun (slice_get (es ++ e ∷ []) w)) (sym r)
    (begun_more K es e 0 (main_begun K es (Some a) k.all some)) in
    let last : StatusFits (Some a) (length es) e e.status = subst (λ (w : Status K). StatusFits (Some a) (length es) e w) (sym q) (some, f) in
    let new : Fits (es ++ e ∷ []) (Some a) (length es) e = record { status = last; activator = b } in
    let all : AllFit (es ++ e ∷ []) (Some a) = λ i x g. elim (get_one_more (CoexpEntry K) es e x i g) as (λ w. Fits (es ++ e ∷ []) (Some a) i x) [
      | inl y ↦ let z = k.all i x y in record { status = z.status; activator = begun_more K es e x.activator z.activator }
      | inr y ↦
          let z : Fits (es ++ e ∷ []) (Some a) i e = subst (λ (w : ℕ). Fits (es ++ e ∷ []) (Some a) w e) (sym y.0) new in
          subst (λ (w : CoexpEntry K). Fits (es ++ e ∷ []) (Some a) i w) (sym y.1) z
    ] in
    let here : IsHere running (slice_get (es ++ e ∷ []) a) = subst (IsHere running) (sym (get_more (CoexpEntry K) es e h.0 a h.1))
    (subst (IsHere running) h.1 k.here) in
    subst (λ (w : List (CoexpEntry K)). AreInOrder w a running) (sym p) (record { all = all; here = here })

-- one more, made as another one was
pub copied_is : (K : Type 0) (es : List (CoexpEntry K)) (t : CoexpTable) (id : ℕ) (e : CoexpEntry K) (values : List Val) → slice_get es id ≡ Some e
    → t.coexps ≡ map coexp_seen es → values ≡ e.values.items
    → with_new values e.proc e.address t ≡ with_copy t (slice_get t.coexps id)
copied_is K es t id e values g p q =
    ap (λ (w : List Val). with_new w e.proc e.address t) q
    ∙ sym (ap (with_copy t) (ap (λ (w : List Coexp). slice_get w id) p ∙ slice_get-map coexp_seen es id ∙ ap (option_map coexp_seen) g))
