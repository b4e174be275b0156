-- What values that are passed on leave is of the world, and so is one co-expression more.
use Rattle.std.proofs.Common.{◌≡◌, ◌≢◌, ◌<◌, ℕ, zero, suc, ◌+◌, List, [], ◌∷◌, ◌++◌, length, slice_get, Option, Some, None, inl, inr, refl, sym, ap, ◌∙◌, subst, arith}
use Rattle.std.specs.List.{All}
use Rattle.std.proofs.lemmas.List.{length-append, length-set}
use Rattle.std.proofs.lemmas.Option.{same_Some}
use Rattle.icn_value.specs.declared.val.Val.{Val}
use Rattle.icn_value.specs.declared.val.Val.TheVariants.{Coexp as HeldCoexp}
use Rattle.icn_value.specs.declared.item.Item.TheVariants.{Val as HeldVal}
use Rattle.icn_heap.specs.declared.heap.Heap.{Heap as HeldHeap}
use Rattle.icn_heap.specs.Extents.{IsLive}
use Rattle.icn_heap.specs.Heaps.{extent_of, heap_of}
use Rattle.icn_heap.proofs.GrowingHeaps.{live_kept}
use Rattle.icn_vars.specs.Worlds.{Reach, IsLiveItem, KeepsItems}
use Rattle.icn_frames.specs.Stacks as held
use Rattle.icn_frames.specs.Stacks.{FlatStack}
use Rattle.icn_coexp.proofs.ChangedEntries.{live_entry, put_at}
use Rattle.icn_coexp.specs.Transfers as table
use Rattle.icn_coexp.specs.Transfers.{Coexp, CoexpTable, enter_other, give, source, with_new, with_copy}
use Rattle.icn_code.specs.Codes.{Tables}
use Rattle.icn_run.specs.Step.{Status, Fresh, Active, Waiting, Exhausted}
use Rattle.icn_control.specs.Creations.{copy_entry, copied_on, create_entry, created_on}
use Rattle.icn_control.specs.LiveStacks.{with_locals, IsLiveStack, variable_count}
use Rattle.icn_control.specs.Machines.{IsLiveStatus, IsLiveCoexp, IsLiveRunning, AreLiveStacks}
use Rattle.icn_control.proofs.OperandValues.{live_locals}
use Rattle.icn_control.proofs.KeptItems.{stack_stays}
use Rattle.icn_control.proofs.KeptTables.{coexps_stay}
use Rattle.icn_control.proofs.LiveCalls.{own_locals, live_go, live_push}
use Rattle.icn_control.proofs.LiveFrames.{live_begin, own_count}
use Rattle.icn_control.proofs.LiveTables.{AllLive, live_put, live_waiting}

pub live_value : (reach : Reach) (n : ℕ) (v : Val) → IsLive reach.extent v → IsLiveItem (with_locals n reach) (HeldVal v)
live_value reach n v l = record { live = l }

-- a number that a heap has given is that of a co-expression
pub coexp_is_live : (heap : HeldHeap) (id : ℕ) → id < length (heap_of heap).coexps → IsLive (extent_of heap) (HeldCoexp id)
unfolding extent_of heap_of
coexp_is_live heap id p = record { live = p }

-- another activator

activator_in : (t : Tables) (r : Reach) (cs : List Coexp) (n a : ℕ) (o : Option Coexp) → slice_get cs n ≡ o → AllLive t r cs
    → AllLive t r (table.with_activator_in n a cs o)
activator_in t r cs n a None g k i c e = k i c e
activator_in t r cs n a (Some x) g k i c e = elim (put_at Coexp cs n i (record x { activator = a }) c e) as (λ w. IsLiveCoexp t r i c) [
  | inl q ↦
      let was : IsLiveCoexp t r n x = k n x g in
      let here : IsLiveCoexp t r n (record x { activator = a }) = record { status = was.status; values = was.values; count = was.count } in
      subst (λ (y : Coexp). IsLiveCoexp t r i y) (sym q.1) (subst (λ (m : ℕ). IsLiveCoexp t r m (record x { activator = a })) (sym q.0) here)
  | inr q ↦ k i c q.1
]

activator_live : (t : Tables) (r : Reach) (cs : List Coexp) (n a : ℕ) → AllLive t r cs → AllLive t r (table.with_activator n a cs)
activator_live t r cs n a k = activator_in t r cs n a (slice_get cs n) refl k

-- entering with a value

begins_live : (t : Tables) (r : Reach) (tab u : CoexpTable) (n : ℕ) (o : Option Coexp) → slice_get tab.coexps n ≡ o → table.status_in o ≡ Fresh → 0 < n
    → Some (table.begin_by n tab o) ≡ Some u → AllLive t r tab.coexps → AreLiveStacks t r u
begins_live t r tab u n None g f p e k = cc
begins_live t r tab u n (Some c) g f p e k =
    let l = k n c g in
    let made : AreLiveStacks t r (table.on_stack n (held.begin c.proc c.values c.address) tab)
    = record { runs = live_begin t r c.proc c.values c.address (l.count p) l.values; coexps = live_put t r tab.coexps n Active k tt } in
    subst (λ (w : CoexpTable). AreLiveStacks t r w) (same_Some _ _ e) made

gives_live : (t : Tables) (r : Reach) (tab u : CoexpTable) (n : ℕ) (v : Val) (s : Status FlatStack) → table.status_of n tab ≡ s → (s ≡ Fresh → 0 < n)
    → table.give_by n v tab s ≡ Some u → AllLive t r tab.coexps → IsLiveStatus t r s
    → IsLive r.extent v → AreLiveStacks t r u
gives_live t r tab u n v Fresh h p e k l i = begins_live t r tab u n (slice_get tab.coexps n) refl h (p refl) e k
gives_live t r tab u n v Active h p e k l i = cc
gives_live t r tab u n v (Waiting m) h p e k l i =
    let made : AreLiveStacks t r (table.on_stack n (held.push (HeldVal v) m) tab)
    = record { runs = live_push t r m (HeldVal v) l (live_value r (own_locals m) v i); coexps = live_put t r tab.coexps n Active k tt } in
    subst (λ (w : CoexpTable). AreLiveStacks t r w) (same_Some _ _ e) made
gives_live t r tab u n v Exhausted h p e k l i =
    let made : AreLiveStacks t r (table.hop_to n tab) = record { runs = tt; coexps = k } in
    subst (λ (w : CoexpTable). AreLiveStacks t r w) (same_Some _ _ e) made

-- the active one waits

waits_live : (t : Tables) (r : Reach) (tab : CoexpTable) (o : Option FlatStack) → AllLive t r tab.coexps → IsLiveRunning t r o
    → AllLive t r (table.wait_on tab o).coexps
waits_live t r tab None k l = k
waits_live t r tab (Some m) k l = live_put t r tab.coexps tab.active (Waiting m) k l

-- one that is fresh then was fresh before, and is not the first

status_next : (n : ℕ) (s : Status FlatStack) (c : Coexp) (cs : List Coexp) (o : Option Coexp)
    → table.with_status_in (suc n) s (c ∷ cs) o ≡ c ∷ table.with_status_in n s cs o
status_next n s c cs (Some x) = refl
status_next n s c cs None = refl

fresh_before : (cs : List Coexp) (a : ℕ) (m : FlatStack) → table.status_in (slice_get (table.with_status a (Waiting m) cs) 0) ≡ Fresh
    → table.status_in (slice_get cs 0) ≡ Fresh
fresh_before [] a m e = e
fresh_before (c ∷ cs) zero m e = cc
fresh_before (c ∷ cs) (suc a) m e = sym (ap (λ (w : List Coexp). table.status_in (slice_get w 0)) (status_next a (Waiting m) c cs (slice_get cs a))) ∙ e

fresh_waiting : (tab : CoexpTable) (o : Option FlatStack) → table.status_in (slice_get (table.wait_on tab o).coexps 0) ≡ Fresh
    → table.status_in (slice_get tab.coexps 0) ≡ Fresh
fresh_waiting tab None e = e
fresh_waiting tab (Some m) e = fresh_before tab.coexps tab.active m e

activator_next : (n a : ℕ) (c : Coexp) (cs : List Coexp) (o : Option Coexp)
    → table.with_activator_in (suc n) a (c ∷ cs) o ≡ c ∷ table.with_activator_in n a cs o
activator_next n a c cs (Some x) = refl
activator_next n a c cs None = refl

activator_status : (cs : List Coexp) (n a : ℕ) → table.status_in (slice_get (table.with_activator n a cs) 0) ≡ table.status_in (slice_get cs 0)
activator_status [] n a = refl
activator_status (c ∷ cs) zero a = refl
activator_status (c ∷ cs) (suc n) a = ap (λ (w : List Coexp). table.status_in (slice_get w 0)) (activator_next n a c cs (slice_get cs n))

-- the number of one that is fresh, where the first is not
above_first : (cs : List Coexp) (n : ℕ) → table.status_in (slice_get cs 0) ≢ Fresh → table.status_in (slice_get cs n) ≡ Fresh → 0 < n
above_first cs zero d e = absurd (d e)
above_first cs (suc n) d e = omega arith

-- The transfers

pub give_live : (t : Tables) (r : Reach) (v : Val) (tab u : CoexpTable) → give v tab ≡ Some u → table.status_of 0 tab ≢ Fresh → IsLive r.extent v
    → AreLiveStacks t r tab → AreLiveStacks t r u
give_live t r v tab u e d i k =
    let left : CoexpTable = table.with_waiting tab in
    let all : AllLive t r left.coexps = waits_live t r tab tab.running k.coexps k.runs in
    let first : table.status_of 0 left ≢ Fresh = λ f. d (fresh_waiting tab tab.running f) in
    gives_live t r left u (source tab) v (table.status_of (source tab) left) refl (above_first left.coexps (source tab) first) e all
    (live_waiting t r left.coexps (source tab) (slice_get left.coexps (source tab)) refl all) i

pub enter_live : (t : Tables) (r : Reach) (n : ℕ) (v : Val) (tab u : CoexpTable) → enter_other n v tab ≡ Some u → table.status_of 0 tab ≢ Fresh
    → IsLive r.extent v
    → AreLiveStacks t r tab → AreLiveStacks t r u
enter_live t r n v tab u e d i k =
    let left : CoexpTable = table.with_waiting tab in
    let next : CoexpTable = record left { coexps = table.with_activator n tab.active left.coexps } in
    let waits : AllLive t r left.coexps = waits_live t r tab tab.running k.coexps k.runs in
    let all : AllLive t r next.coexps = activator_live t r left.coexps n tab.active waits in
    let first : table.status_of 0 next ≢ Fresh = λ f. d (fresh_waiting tab tab.running (sym (activator_status left.coexps n tab.active) ∙ f)) in
    gives_live t r next u n v (table.status_of n next) refl (above_first next.coexps n first) e all
    (live_waiting t r next.coexps n (slice_get next.coexps n) refl all) i

-- as many co-expressions

status_length : (cs : List Coexp) (n : ℕ) (s : Status FlatStack) (o : Option Coexp) → length (table.with_status_in n s cs o) ≡ length cs
status_length cs n s None = refl
status_length cs n s (Some x) = length-set cs n (record x { status = s })

activator_length : (cs : List Coexp) (n a : ℕ) (o : Option Coexp) → length (table.with_activator_in n a cs o) ≡ length cs
activator_length cs n a None = refl
activator_length cs n a (Some x) = length-set cs n (record x { activator = a })

begin_length : (tab : CoexpTable) (n : ℕ) (o : Option Coexp) → length (table.begin_by n tab o).coexps ≡ length tab.coexps
begin_length tab n None = refl
begin_length tab n (Some c) = status_length tab.coexps n Active (slice_get tab.coexps n)

gives_length : (tab u : CoexpTable) (n : ℕ) (v : Val) (s : Status FlatStack) → table.give_by n v tab s ≡ Some u → length u.coexps ≡ length tab.coexps
gives_length tab u n v Fresh e =
    ap (λ (w : CoexpTable). length w.coexps) (sym (same_Some (table.begin_by n tab (slice_get tab.coexps n)) u e)) ∙ begin_length tab n (slice_get tab.coexps n)
gives_length tab u n v Active e = cc
gives_length tab u n v (Waiting m) e =
    ap (λ (w : CoexpTable). length w.coexps) (sym (same_Some _ _ e)) ∙ status_length tab.coexps n Active (slice_get tab.coexps n)
gives_length tab u n v Exhausted e = ap (λ (w : CoexpTable). length w.coexps) (sym (same_Some _ _ e))

waits_length : (tab : CoexpTable) (o : Option FlatStack) → length (table.wait_on tab o).coexps ≡ length tab.coexps
waits_length tab None = refl
waits_length tab (Some m) = status_length tab.coexps tab.active (Waiting m) (slice_get tab.coexps tab.active)

pub give_length : (v : Val) (tab u : CoexpTable) → give v tab ≡ Some u → length u.coexps ≡ length tab.coexps
give_length v tab u e =
    let left : CoexpTable = table.with_waiting tab in
    gives_length left u (source tab) v (table.status_of (source tab) left) e ∙ waits_length tab tab.running

pub enter_length : (n : ℕ) (v : Val) (tab u : CoexpTable) → enter_other n v tab ≡ Some u → length u.coexps ≡ length tab.coexps
enter_length n v tab u e =
    let left : CoexpTable = table.with_waiting tab in
    let next : CoexpTable = record left { coexps = table.with_activator n tab.active left.coexps } in
    gives_length next u n v (table.status_of n next) e ∙ activator_length left.coexps n tab.active (slice_get left.coexps n) ∙ waits_length tab tab.running

-- One more

one_more : (P : ℕ → Coexp → Type 0) (cs : List Coexp) (x : Coexp) → ((n : ℕ) (c : Coexp) → slice_get cs n ≡ Some c → P n c) → P (length cs) x
    → (n : ℕ) (c : Coexp) → slice_get (cs ++ x ∷ []) n ≡ Some c → P n c
one_more P [] x all one zero c q = subst (P 0) (same_Some x c q) one
one_more P [] x all one (suc n) c q = cc
one_more P (y ∷ cs) x all one zero c q = all 0 c q
one_more P (y ∷ cs) x all one (suc n) c q = one_more (λ k. P (suc k)) cs x (λ k d r. all (suc k) d r) one n c q

pub new_live : (t : Tables) (r : Reach) (tab : CoexpTable) (values : List Val) (proc place : ℕ) → All (IsLive r.extent) values
    → length values ≡ variable_count t proc → AllLive t r tab.coexps → AllLive t r (with_new values proc place tab).coexps
new_live t r tab values proc place a c k =
    let new : Coexp = record { status = Fresh; activator = 0; values = values; proc = proc; address = place } in
    let live : IsLiveCoexp t r (length tab.coexps) new = record { status = tt; values = a; count = λ p. c } in
    one_more (IsLiveCoexp t r) tab.coexps new k live

pub new_length : (tab : CoexpTable) (values : List Val) (proc place : ℕ) → length (with_new values proc place tab).coexps ≡ suc (length tab.coexps)
new_length tab values proc place =
    let new : Coexp = record { status = Fresh; activator = 0; values = values; proc = proc; address = place } in
    let l : length (tab.coexps ++ new ∷ []) ≡ length tab.coexps + 1 = length-append tab.coexps (new ∷ []) in
    omega (arith, l)

pub copy_live : (t : Tables) (r : Reach) (tab : CoexpTable) (n : ℕ) (o : Option Coexp) → slice_get tab.coexps n ≡ o → 0 < n → AllLive t r tab.coexps
    → AllLive t r (with_copy tab o).coexps
copy_live t r tab n None g p k = k
copy_live t r tab n (Some c) g p k = let l = k n c g in new_live t r tab c.values c.proc c.address l.values (l.count p) k

pub copy_length : (tab : CoexpTable) (o : Option Coexp) (c : Coexp) → o ≡ Some c → length (with_copy tab o).coexps ≡ suc (length tab.coexps)
copy_length tab o c e = ap (λ (w : Option Coexp). length (with_copy tab w).coexps) e ∙ new_length tab c.values c.proc c.address

-- what is created
pub created_live : (t : Tables) (old new : Reach) (tab u : CoexpTable) (m : FlatStack) (label : ℕ) → tab.running ≡ Some m → u ≡ create_entry label tab
    → KeepsItems old new → held.local_count m ≡ length (held.locals m)
    → IsLive new.extent (HeldCoexp (length tab.coexps)) → AreLiveStacks t old tab → AreLiveStacks t new u
created_live t old new tab u m label e c keeps count value k =
    let live : IsLiveStack t old m = subst (λ (o : Option FlatStack). IsLiveRunning t old o) e k.runs in
    let after : IsLiveStack t new (held.go label m) = live_go t new m label (stack_stays t old new m keeps live) in
    let item = live_value new (own_locals (held.go label m)) (HeldCoexp (length tab.coexps)) value in
    let values : All (IsLive new.extent) (held.locals m) = live_kept keeps.extent (held.locals m) (live_locals t old m live) in
    let made : AreLiveStacks t new (created_on label tab (Some m))
    = record {
      runs = live_push t new (held.go label m) (HeldVal (HeldCoexp (length tab.coexps))) after item;
      coexps = new_live t new tab (held.locals m) (held.proc m) m.address values (sym count ∙ own_count t old m live)
          (coexps_stay t old new tab.coexps keeps k.coexps);
    } in
    subst (λ (w : CoexpTable). AreLiveStacks t new w) (sym (c ∙ ap (created_on label tab) e)) made

pub created_length : (tab u : CoexpTable) (m : FlatStack) (label : ℕ) → tab.running ≡ Some m → u ≡ create_entry label tab
    → length u.coexps ≡ suc (length tab.coexps)
created_length tab u m label e c =
    ap (λ (w : CoexpTable). length w.coexps) (c ∙ ap (created_on label tab) e) ∙ new_length tab (held.locals m) (held.proc m) m.address

-- what is copied
pub copied_live : (t : Tables) (old new : Reach) (tab u : CoexpTable) (m : FlatStack) (id : ℕ) → tab.running ≡ Some m → u ≡ copy_entry id tab → 0 < id
    → KeepsItems old new → IsLive new.extent (HeldCoexp (length tab.coexps)) → AreLiveStacks t old tab
    → AreLiveStacks t new u
copied_live t old new tab u m id e c p keeps value k =
    let live : IsLiveStack t old m = subst (λ (o : Option FlatStack). IsLiveRunning t old o) e k.runs in
    let after : IsLiveStack t new m = stack_stays t old new m keeps live in
    let made : AreLiveStacks t new (copied_on id tab (Some m))
    = record {
      runs = live_push t new m (HeldVal (HeldCoexp (length tab.coexps))) after (live_value new (own_locals m) (HeldCoexp (length tab.coexps)) value);
      coexps = copy_live t new tab id (slice_get tab.coexps id) refl p (coexps_stay t old new tab.coexps keeps k.coexps);
    } in
    subst (λ (w : CoexpTable). AreLiveStacks t new w) (sym (c ∙ ap (copied_on id tab) e)) made

pub copied_length : (tab u : CoexpTable) (m : FlatStack) (id : ℕ) → tab.running ≡ Some m → u ≡ copy_entry id tab → id < length tab.coexps
    → length u.coexps ≡ suc (length tab.coexps)
copied_length tab u m id e c p =
    let there = live_entry Coexp tab.coexps id p in
    ap (λ (w : CoexpTable). length w.coexps) (c ∙ ap (copied_on id tab) e) ∙ copy_length tab (slice_get tab.coexps id) there.0 there.1
