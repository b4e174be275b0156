-- What changes of a store keep.
use Rattle.std.proofs.Common.{◌≡◌, ◌≢◌, ℕ, suc, ◌⊎◌, inl, inr, Bool, true, List, [], ◌∷◌, ◌++◌, length, Option, Some, refl, sym, ap, ◌∙◌, subst, arith}
use Rattle.std.specs.Prelude.{slice_get, slice_set}
use Rattle.icn_code.specs.Codes.{Tables}
use Rattle.icn_verify.specs.Shapes.{PlainShape, start_shape}
use Rattle.icn_run.specs.Rows.{Value}
use Rattle.icn_run.specs.Chains.{WaitingChain}
use Rattle.icn_run.specs.Step.{Status, Fresh, Active, Waiting, Exhausted, Coexp, Store, with_coexp}
use Rattle.law_stacks.proofs.CellLists.{some_injective, get_more, get_set_same, get_set_other}
use Rattle.law_safe.specs.Within.{WorldWithin}
use Rattle.law_safe.specs.Shaped.{Knowledge, LocalsOk, MemoryOk, ParkedOk, StatusOk, IsFresh, IsEntered, CoexpOk, CoexpsOk, StoreOk}
use Rattle.law_safe.proofs.EachEntry.{got_more, got_set, more_length, set_length, same_or_not, index_within}
use Rattle.law_safe.proofs.GrowingKnowledge.{Grows, grow_chain, grow_locals, grow_relabels}

abbrev pub one_more : Knowledge → Knowledge
one_more w = record w { coexps = suc w.coexps }

pub grow_one : (w : Knowledge) → Grows w (one_more w)
grow_one w = record { coexps = omega arith; activations = λ a p h. h; flags = λ f p S h. h }

module _ (tables : Tables) (sh : ℕ → ℕ → Option PlainShape) where
  -- what is known grows

  grow_parked : (w w' : Knowledge) → Grows w w' → (i : ℕ) (k : WaitingChain) → ParkedOk tables sh w i k → ParkedOk tables sh w' i k
  grow_parked w w' g i k h = record { proc = h.proc; shape = h.shape; has = grow_chain tables sh w w' g i h.proc h.shape k.chain h.has; goes = h.goes }

  grow_status : (w w' : Knowledge) → Grows w w' → (i : ℕ) (s : Status WaitingChain) → StatusOk tables sh w i s → StatusOk tables sh w' i s
  grow_status w w' g i Fresh h = h
  grow_status w w' g i Active h = h
  grow_status w w' g i (Waiting k) h = grow_parked w w' g i k h
  grow_status w w' g i Exhausted h = tt

  grow_coexp : (w w' : Knowledge) → Grows w w' → (ks : List (Coexp WaitingChain)) (i : ℕ) (c : Coexp WaitingChain) → CoexpOk tables sh w ks i c
      → CoexpOk tables sh w' ks i c
  grow_coexp w w' g ks i c h = record { values = λ d. grow_locals tables sh w w' g c.proc c.values (h.values d); origin = h.origin; activator = h.activator }

  -- a store that is shaped stays so as more is known
  pub grow_store : (w w' : Knowledge) (May : ℕ → Type 0) (st : Store WaitingChain) → w'.coexps ≡ w.coexps → Grows w w' → StoreOk tables sh w May st
      → StoreOk tables sh w' May st
  grow_store w w' May st e g h = record {
    world = subst (λ n. WorldWithin n st.world) (sym e) h.world;
    coexps = record {
      count = h.coexps.count ∙ sym e;
      each = λ i c z. grow_coexp w w' g st.coexps i c (h.coexps.each i c z);
      waits = λ i c z n. grow_status w w' g i c.status (h.coexps.waits i c z n);
      there = h.coexps.there;
      first = h.coexps.first;
    };
  }

  -- one co-expression is another, and has begun

  pub entered_set : (ks : List (Coexp WaitingChain)) (n : ℕ) (c c' : Coexp WaitingChain) (x : ℕ) → slice_get ks n ≡ Some c
      → (IsFresh tables sh c'.status → IsFresh tables sh c.status) → IsEntered tables sh ks x → IsEntered tables sh (slice_set ks n c') x
  entered_set ks n c c' x e f h = by (same_or_not x n)
    where
      by : (x ≡ n) ⊎ (x ≢ n) → IsEntered tables sh (slice_set ks n c') x
      by (inl z) =
          let same : h.coexp ≡ c = some_injective (sym h.stands ∙ ap (slice_get ks) z ∙ e) in
          record {
            coexp = c';
            stands = ap (slice_get (slice_set ks n c')) z ∙ get_set_same ks n c c' e;
            begun = λ q. h.begun (subst (λ (y : Coexp WaitingChain). IsFresh tables sh y.status) (sym same) (f q));
          }
      by (inr d) = record { coexp = h.coexp; stands = get_set_other ks x n c' d ∙ h.stands; begun = h.begun }

  pub entered_at : (ks : List (Coexp WaitingChain)) (n : ℕ) (c c' : Coexp WaitingChain) → slice_get ks n ≡ Some c → (IsFresh tables sh c'.status → ⊥)
      → IsEntered tables sh (slice_set ks n c') n
  entered_at ks n c c' e f = record { coexp = c'; stands = get_set_same ks n c c' e; begun = f }

  pub set_coexps : (w : Knowledge) (May May' : ℕ → Type 0) (a a' : ℕ) (ks : List (Coexp WaitingChain)) (n : ℕ) (c c' : Coexp WaitingChain)
      → CoexpsOk tables sh w May a ks
      → slice_get ks n ≡ Some c → (IsFresh tables sh c'.status → IsFresh tables sh c.status) → (n ≢ 0 → LocalsOk tables sh w c'.proc c'.values)
      → (n ≢ 0 → sh c'.proc c'.address ≡ Some (start_shape true)) → IsEntered tables sh ks c'.activator → ((May' n → ⊥) → StatusOk tables sh w n c'.status)
      → ((i : ℕ) → i ≢ n → (May' i → ⊥) → May i → ⊥) → IsEntered tables sh (slice_set ks n c') a'
      → CoexpsOk tables sh w May' a' (slice_set ks n c')
  set_coexps w May May' a a' ks n c c' h e f values origin act status may there = record {
    count = set_length ks n c' ∙ h.count;
    each = λ i d z. by i d (got_set ks n c' i d z);
    waits = λ i d z q. by_wait i d q (got_set ks n c' i d z);
    there = there;
    first = entered_set ks n c c' 0 e f h.first;
  }
    where
      by : (i : ℕ) (d : Coexp WaitingChain) → ((i ≡ n) × (c' ≡ d)) ⊎ ((i ≢ n) × (slice_get ks i ≡ Some d)) → CoexpOk tables sh w (slice_set ks n c') i d
      by i d (inl z) =
          subst (λ y. CoexpOk tables sh w (slice_set ks n c') i y) z.1
          (record { values = λ q. values (λ y. q (z.0 ∙ y)); origin = λ q. origin (λ y. q (z.0 ∙ y)); activator = entered_set ks n c c' c'.activator e f act })
      by i d (inr z) = let o = h.each i d z.1 in record { values = o.values; origin = o.origin; activator = entered_set ks n c c' d.activator e f o.activator }

      by_wait : (i : ℕ) (d : Coexp WaitingChain) → (May' i → ⊥) → ((i ≡ n) × (c' ≡ d)) ⊎ ((i ≢ n) × (slice_get ks i ≡ Some d)) → StatusOk tables sh w i d.status
      by_wait i d q (inl z) =
          subst (λ y. StatusOk tables sh w i y.status) z.1 (subst (λ j. StatusOk tables sh w j c'.status) (sym z.0) (status (λ y. q (subst May' (sym z.0) y))))
      by_wait i d q (inr z) = h.waits i d z.1 (may i z.0 q)

  -- the active one gets a status, and waits
  pub set_status : (w : Knowledge) (st : Store WaitingChain) (c : Coexp WaitingChain) (s : Status WaitingChain) → StoreOk tables sh w (λ i. i ≡ st.active) st
      → slice_get st.coexps st.active ≡ Some c → (IsFresh tables sh s → ⊥) → StatusOk tables sh w st.active s
      → StoreOk tables sh w (λ i. ⊥) (with_coexp st.active (record c { status = s }) st)
  set_status w st c s h e f ok = let o = h.coexps.each st.active c e in record {
    world = h.world;
    coexps = set_coexps w (λ i. i ≡ st.active) (λ i. ⊥) st.active st.active st.coexps st.active c (record c { status = s }) h.coexps e
        (λ q. absurd (f q)) o.values o.origin o.activator (λ q. ok) (λ i d q z. d z) (entered_at st.coexps st.active c (record c { status = s }) e f);
  }

  -- another activator, where none is active
  pub set_activator : (w : Knowledge) (st : Store WaitingChain) (n a : ℕ) (c : Coexp WaitingChain) → StoreOk tables sh w (λ i. ⊥) st
      → slice_get st.coexps n ≡ Some c
      → IsEntered tables sh st.coexps a
      → StoreOk tables sh w (λ i. ⊥) (with_coexp n (record c { activator = a }) st)
  set_activator w st n a c h e act = let o = h.coexps.each n c e in record {
    world = h.world;
    coexps = set_coexps w (λ i. ⊥) (λ i. ⊥) st.active st.active st.coexps n c (record c { activator = a }) h.coexps e (λ q. q) o.values o.origin act
        (λ q. h.coexps.waits n c e (λ z. z)) (λ i d q z. z) (entered_set st.coexps n c (record c { activator = a }) st.active e (λ q. q) h.coexps.there);
  }

  -- none is active, and one becomes so
  pub set_active : (w : Knowledge) (st : Store WaitingChain) (n : ℕ) (c : Coexp WaitingChain) → StoreOk tables sh w (λ i. ⊥) st → slice_get st.coexps n ≡ Some c
      → IsEntered tables sh st.coexps c.activator
      → StoreOk tables sh w (λ i. i ≡ n) (with_coexp n (record c { status = Active }) (record st { active = n }))
  set_active w st n c h e act = let o = h.coexps.each n c e in record {
    world = h.world;
    coexps = set_coexps w (λ i. ⊥) (λ i. i ≡ n) st.active n st.coexps n c (record c { status = Active }) h.coexps e (λ z. absurd z) o.values o.origin act
        (λ q. absurd (q refl)) (λ i d q z. z) (entered_at st.coexps n c (record c { status = Active }) e (λ z. z));
  }

  -- one more co-expression

  entered_more : (ks : List (Coexp WaitingChain)) (c : Coexp WaitingChain) (x : ℕ) → IsEntered tables sh ks x → IsEntered tables sh (ks ++ c ∷ []) x
  entered_more ks c x h = record { coexp = h.coexp; stands = get_more ks c x h.coexp h.stands; begun = h.begun }

  pub memory_one : (w : Knowledge) (acts : List (List Value)) (flags : List Bool) (relabels : List (ℕ × ℕ)) → MemoryOk tables sh w acts flags relabels
      → MemoryOk tables sh (one_more w) acts flags relabels
  memory_one w acts flags relabels h = record {
    same_activations = h.same_activations;
    same_flags = h.same_flags;
    locals = λ a p z. let o = h.locals a p z in (o.0, o.1, grow_locals tables sh w (one_more w) (grow_one w) p o.0 o.2);
    labels = grow_relabels tables sh w (one_more w) (grow_one w) relabels h.labels;
  }

  pub more_coexps : (w : Knowledge) (st : Store WaitingChain) (values : List Value) (proc place : ℕ)
      → CoexpsOk tables sh w (λ i. i ≡ st.active) st.active st.coexps
      → LocalsOk tables sh w proc values → sh proc place ≡ Some (start_shape true)
      → CoexpsOk tables sh (one_more w) (λ i. i ≡ st.active) st.active
      (st.coexps ++ record { status = Fresh; activator = 0; values = values; proc = proc; address = place } ∷ [])
  more_coexps w st values proc place h vs e = record {
    count = more_length st.coexps new ∙ ap suc h.count;
    each = λ i c z. by i c (got_more st.coexps new i c z);
    waits = λ i c z q. by_wait i c q (got_more st.coexps new i c z);
    there = entered_more st.coexps new st.active h.there;
    first = entered_more st.coexps new 0 h.first;
  }
    where
      new : Coexp WaitingChain
      new = record { status = Fresh; activator = 0; values = values; proc = proc; address = place }

      by : (i : ℕ) (c : Coexp WaitingChain) → ((i ≡ length st.coexps) × (new ≡ c)) ⊎ (slice_get st.coexps i ≡ Some c)
          → CoexpOk tables sh (one_more w) (st.coexps ++ new ∷ []) i c
      by i c (inl z) =
          subst (λ y. CoexpOk tables sh (one_more w) (st.coexps ++ new ∷ []) i y) z.1 (record {
            values = λ q. grow_locals tables sh w (one_more w) (grow_one w) proc values vs;
            origin = λ q. e;
            activator = entered_more st.coexps new 0 h.first;
          })
      by i c (inr z) = let o = h.each i c z in
          record {
            values = λ d. grow_locals tables sh w (one_more w) (grow_one w) c.proc c.values (o.values d);
            origin = o.origin;
            activator = entered_more st.coexps new c.activator o.activator;
          }

      by_wait : (i : ℕ) (c : Coexp WaitingChain) → ((i ≡ st.active) → ⊥) → ((i ≡ length st.coexps) × (new ≡ c)) ⊎ (slice_get st.coexps i ≡ Some c)
          → StatusOk tables sh (one_more w) i c.status
      by_wait i c q (inl z) = let l = index_within st.coexps 0 h.first.coexp h.first.stands in let a = z.0 in
          subst (λ y. StatusOk tables sh (one_more w) i y.status) z.1 (λ y. omega (arith, l, a, y))
      by_wait i c q (inr z) = grow_status w (one_more w) (grow_one w) i c.status (h.waits i c z q)
