-- What transfers leave is of the world.
use Rattle.std.proofs.Common.{◌≡◌, ℕ, List, length, slice_get, Option, Some, None, inl, inr, refl, sym, ap, ◌∙◌, subst}
use Rattle.std.proofs.lemmas.List.{length-set}
use Rattle.std.proofs.lemmas.Option.{same_Some}
use Rattle.icn_vars.specs.Worlds.{Reach}
use Rattle.icn_frames.specs.Stacks.{FlatStack}
use Rattle.icn_coexp.proofs.ChangedEntries.{put_at}
use Rattle.icn_coexp.specs.Transfers as table
use Rattle.icn_coexp.specs.Transfers.{Coexp, CoexpTable, exhaust, source}
use Rattle.icn_code.specs.Codes.{Tables}
use Rattle.icn_run.specs.Step.{Status, Fresh, Active, Waiting, Exhausted}
use Rattle.icn_control.specs.Machines.{IsLiveStatus, IsLiveCoexp, AreLiveStacks}

-- each co-expression is live
abbrev pub AllLive : Tables → Reach → List Coexp → Type 0
AllLive t r cs = (n : ℕ) (coexp : Coexp) → slice_get cs n ≡ Some coexp → IsLiveCoexp t r n coexp

live_in : (t : Tables) (r : Reach) (cs : List Coexp) (n : ℕ) (s : Status FlatStack) (o : Option Coexp) → slice_get cs n ≡ o → AllLive t r cs
    → IsLiveStatus t r s → AllLive t r (table.with_status_in n s cs o)
live_in t r cs n s None g k l i c e = k i c e
live_in t r cs n s (Some x) g k l i c e = elim (put_at Coexp cs n i (record x { status = s }) c e) as (λ w. IsLiveCoexp t r i c) [
  | inl q ↦
      let was : IsLiveCoexp t r n x = k n x g in
      let here : IsLiveCoexp t r n (record x { status = s }) = record { status = l; values = was.values; count = was.count } in
      subst (λ (y : Coexp). IsLiveCoexp t r i y) (sym q.1) (subst (λ (m : ℕ). IsLiveCoexp t r m (record x { status = s })) (sym q.0) here)
  | inr q ↦ k i c q.1
]

pub live_put : (t : Tables) (r : Reach) (cs : List Coexp) (n : ℕ) (s : Status FlatStack) → AllLive t r cs → IsLiveStatus t r s
    → AllLive t r (table.with_status n s cs)
live_put t r cs n s k l = live_in t r cs n s (slice_get cs n) refl k l

-- a stack that waits is live
pub live_waiting : (t : Tables) (r : Reach) (cs : List Coexp) (n : ℕ) (o : Option Coexp) → slice_get cs n ≡ o → AllLive t r cs
    → IsLiveStatus t r (table.status_in o)
live_waiting t r cs n None g k = tt
live_waiting t r cs n (Some c) g k = (k n c g).status

fails_live : (t : Tables) (r : Reach) (tab u : CoexpTable) (n : ℕ) (s : Status FlatStack) → table.fail_by n tab s ≡ Some u → AllLive t r tab.coexps
    → IsLiveStatus t r s → AreLiveStacks t r u
fails_live t r tab u n Fresh e k l = cc
fails_live t r tab u n Active e k l = cc
fails_live t r tab u n (Waiting m) e k l =
    let made : AreLiveStacks t r (table.on_stack n m tab) = record { runs = l; coexps = live_put t r tab.coexps n Active k tt } in
    subst (λ (w : CoexpTable). AreLiveStacks t r w) (same_Some _ _ e) made
fails_live t r tab u n Exhausted e k l =
    let made : AreLiveStacks t r (table.hop_to n tab) = record { runs = tt; coexps = k } in
    subst (λ (w : CoexpTable). AreLiveStacks t r w) (same_Some _ _ e) made

pub exhaust_live : (t : Tables) (r : Reach) (tab u : CoexpTable) → exhaust tab ≡ Some u → AreLiveStacks t r tab → AreLiveStacks t r u
exhaust_live t r tab u e k =
    let cs : List Coexp = table.with_status tab.active Exhausted tab.coexps in
    let left : AllLive t r cs = live_put t r tab.coexps tab.active Exhausted k.coexps tt in
    fails_live t r (record tab { coexps = cs }) u (source tab) (table.status_in (slice_get cs (source tab))) e left
    (live_waiting t r cs (source tab) (slice_get cs (source tab)) refl left)

-- as many co-expressions

in_length : (cs : List Coexp) (n : ℕ) (s : Status FlatStack) (o : Option Coexp) → length (table.with_status_in n s cs o) ≡ length cs
in_length cs n s None = refl
in_length cs n s (Some x) = length-set cs n (record x { status = s })

fails_length : (tab u : CoexpTable) (n : ℕ) (s : Status FlatStack) → table.fail_by n tab s ≡ Some u → length u.coexps ≡ length tab.coexps
fails_length tab u n Fresh e = cc
fails_length tab u n Active e = cc
fails_length tab u n (Waiting m) e = ap (λ (w : CoexpTable). length w.coexps) (sym (same_Some _ _ e)) ∙ in_length tab.coexps n Active (slice_get tab.coexps n)
fails_length tab u n Exhausted e = ap (λ (w : CoexpTable). length w.coexps) (sym (same_Some _ _ e))

pub exhaust_length : (tab u : CoexpTable) → exhaust tab ≡ Some u → length u.coexps ≡ length tab.coexps
exhaust_length tab u e =
    let cs : List Coexp = table.with_status tab.active Exhausted tab.coexps in
    fails_length (record tab { coexps = cs }) u (source tab) (table.status_in (slice_get cs (source tab))) e
    ∙ in_length tab.coexps tab.active Exhausted (slice_get tab.coexps tab.active)
