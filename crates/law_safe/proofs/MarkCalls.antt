-- What the calls on marks, suspensions, scans and frames keep.
use Rattle.std.proofs.Common.{◌≡◌, ℕ, ◌<◌, Bool, true, false, List, [], ◌∷◌, length, Option, Some, None, refl, sym, ap, ◌∙◌, subst, arith}
use Rattle.std.specs.Prelude.{slice_get, slice_set, slice_index_or, ◌==◌, not, is_some, if◌then◌else◌}
use Rattle.std.specs.Option.{option_map_or}
use Rattle.std.proofs.lemmas.Bool.{ltb-true, eqb-true}
use Rattle.icn_code.specs.Codes.{Tables}
use Rattle.icn_verify.specs.declared.shape.Level.{Level}
use Rattle.icn_verify.specs.declared.shape.LevelKind.{LevelKind}
use Rattle.icn_verify.specs.declared.shape.LevelKind.TheVariants as Levels
use Rattle.icn_verify.specs.Shapes.{PlainShape, start_shape, with_more, with_mark, before_mark, shape_outside, with_scan, without_scan, same_kind}
use Rattle.icn_verify.specs.Rows.{has_operand}
use Rattle.icn_run.specs.Rows.{Value, Item, Residual}
use Rattle.icn_run.specs.Calls.{Pair, Why, Alt, Op, Scan, Escan, Proc, MarkDrop, NoMark, Goes, Repeats, Outside as WithoutLabel}
use Rattle.icn_run.specs.Chains as C
use Rattle.icn_run.specs.Chains.{fixed, flagged, Reason, because, scanning, Chain, chain, Suspensions, none, suspension, Outer, base, call, mark, limit, Frame, at_base, in_call, LinkedStack, outer_of, scans_of, frame, with_chain}
use Rattle.icn_run.specs.Step.{is_main}
use Rattle.law_stacks.proofs.CellLists.{some_injective}
use Rattle.law_safe.specs.Within.{Each, ItemWithin, ResidualWithin}
use Rattle.law_safe.specs.Shaped.{Knowledge, IsBefore, LabelTo, LabelOk, ReasonOk, level_shape, ChainOk, SuspsOk, OuterOk, FrameOk, LocalsOk, RelabelOk, MemoryOf, Now}
use Rattle.law_safe.proofs.GrowingKnowledge.{grow_chain}
use Rattle.law_safe.proofs.FrameCalls.{with_activation, grow_activation, memory_activation, last_activation, memory_labels, outer_ok, the_frame}

-- `false` is not `true`
pub false_is_not_true : {A : Type 0} → false ≡ true → A
false_is_not_true e = absurd (cc)

-- an option of which something holds, if it is there
abbrev pub IfThere : {A : Type 0} → (A → Type 0) → Option A → Type 0
IfThere Q None = Unit {0}
IfThere Q (Some x) = Q x

module _ (tables : Tables) (sh : ℕ → ℕ → Option PlainShape) where
  -- the innermost mark, with what is outside
  pub record Outside (w : Knowledge) (s p : ℕ) (S : PlainShape) (m : LinkedStack) (o : Outer) : Type 0 where
    pub chain : Chain
    pub shape : PlainShape
    pub before : before_mark S ≡ Some shape
    pub has : ChainOk tables sh w s p shape chain
    pub unmark : C.unmark_from m o ≡ C.unmark_in m chain
    pub suspend : C.suspend_outer m o ≡ Some (with_chain (C.suspend_in (suspension (because Alt) m.address m.chain) chain) m)

  outside_by : (w : Knowledge) (s p : ℕ) (cr : Bool) (inner : Level) (ls : List Level) (m : LinkedStack) (o : Outer)
      → OuterOk tables sh w s p cr inner.kind ls o
      → is_some (slice_get ls 0) ≡ true → Outside w s p (record { in_create = cr; inner = inner; outer = ls }) m o
  outside_by w s p cr inner ls m (base proc a) h e = false_is_not_true (subst (λ (x : List Level). is_some (slice_get x 0) ≡ true) h.3 e)
  outside_by w s p cr inner ls m (call proc a level place caller) h e = false_is_not_true (subst (λ (x : List Level). is_some (slice_get x 0) ≡ true) h.3 e)
  outside_by w s p cr inner ls m (mark label c) h e =
      record { chain = c; shape = level_shape tables sh cr h.0 h.1; before = ap (λ x. shape_outside cr x) h.2; has = h.5; unmark = refl; suspend = refl }
  outside_by w s p cr inner ls m (limit n c) h e =
      record { chain = c; shape = level_shape tables sh cr h.0 h.1; before = ap (λ x. shape_outside cr x) h.2; has = h.4; unmark = refl; suspend = refl }

  pub outside_ok : (w : Knowledge) (s p : ℕ) (S : PlainShape) (m : LinkedStack) → Now tables sh w s p S m → is_some (slice_get S.outer 0) ≡ true
      → Outside w s p S m (outer_of m.chain)
  outside_ok w s p S m h e = outside_by w s p S.in_create S.inner S.outer m (outer_of m.chain) (outer_ok tables sh w s p S m.chain h.has) e

  -- the mark is suspended with its level
  suspended_ok : (w : Knowledge) (s p : ℕ) (S : PlainShape) (q : Suspensions) (c : Chain) → SuspsOk tables sh w s q → ChainOk tables sh w s p S c
      → ChainOk tables sh w s p S (C.suspend_in q c)
  suspended_ok w s p S q (chain items old scans o) g h = (h.0, h.1, h.2, g, h.4)

  -- the operand below the innermost mark
  first_ok : (w : Knowledge) (s p : ℕ) (S : PlainShape) (c : Chain) → ChainOk tables sh w s p S c → 0 < S.inner.operands
      → (item : Item) × (C.first_of_chain c ≡ Some item) × ItemWithin w.coexps item
  first_ok w s p S (chain [] q scans o) h l = let e = h.0 in absurd (omega (arith, e, l))
  first_ok w s p S (chain (item ∷ items) q scans o) h l = (item, refl, h.1.0)

  below_by : (w : Knowledge) (s p : ℕ) (cr : Bool) (kind : LevelKind) (ls : List Level) (o : Outer) → OuterOk tables sh w s p cr kind ls o
      → option_map_or has_operand (slice_get ls 0) false ≡ true → (item : Item) × (C.below_outer o ≡ Some item) × ItemWithin w.coexps item
  below_by w s p cr kind ls (base proc a) h e = false_is_not_true (subst (λ (x : List Level). option_map_or has_operand (slice_get x 0) false ≡ true) h.3 e)
  below_by w s p cr kind ls (call proc a level place caller) h e =
      false_is_not_true (subst (λ (x : List Level). option_map_or has_operand (slice_get x 0) false ≡ true) h.3 e)
  below_by w s p cr kind ls (mark label c) h e = first_ok w s p (level_shape tables sh cr h.0 h.1) c h.5
      (ltb-true 0 h.0.operands (subst (λ (x : List Level). option_map_or has_operand (slice_get x 0) false ≡ true) h.2 e))
  below_by w s p cr kind ls (limit n c) h e = first_ok w s p (level_shape tables sh cr h.0 h.1) c h.4
      (ltb-true 0 h.0.operands (subst (λ (x : List Level). option_map_or has_operand (slice_get x 0) false ≡ true) h.2 e))

  pub below_ok : (w : Knowledge) (s p : ℕ) (S : PlainShape) (m : LinkedStack) → Now tables sh w s p S m
      → option_map_or has_operand (slice_get S.outer 0) false ≡ true
      → (item : Item) × (C.below m ≡ Some item) × ItemWithin w.coexps item
  below_ok w s p S m h e = below_by w s p S.in_create S.inner.kind S.outer (outer_of m.chain) (outer_ok tables sh w s p S m.chain h.has) e

  -- another label

  forgotten_ok : (w : Knowledge) (flag : ℕ) (xs : List (ℕ × ℕ)) → Each (RelabelOk tables sh w) xs → Each (RelabelOk tables sh w) (C.forget_label flag xs)
  forgotten_ok w flag [] h = tt
  forgotten_ok w flag (x ∷ xs) h = by (x.0 == flag) (forgotten_ok w flag xs h.1)
    where
      by : (b : Bool) → Each (RelabelOk tables sh w) (C.forget_label flag xs)
          → Each (RelabelOk tables sh w) (if b then C.forget_label flag xs else (x ∷ C.forget_label flag xs))
      by true g = g
      by false g = (h.0, g)

  -- the same stack, but for flags and labels
  pub record Relabelled (w : Knowledge) (s p : ℕ) (S : PlainShape) (m m' : LinkedStack) : Type 0 where
    pub now : Now tables sh w s p S m'
    pub address : m'.address ≡ m.address

  relabel_if : (b : Bool) (label flag : ℕ) (w : Knowledge) (s p : ℕ) (S : PlainShape) (m : LinkedStack) (S' : PlainShape) → Now tables sh w s p S m
      → IsBefore w flag p S' → sh p label ≡ Some S' → Relabelled w s p S m (C.relabelled_if b label flag m)
  relabel_if true label flag w s p S m S' h i e =
      record {
        now = record {
          has = h.has;
          memory = memory_labels tables sh w m.activations m.flags m.relabels (C.forget_label flag m.relabels) flag true h.memory
              (forgotten_ok w flag m.relabels h.memory.labels);
        };
        address = refl;
      }
  relabel_if false label flag w s p S m S' h i e = record {
    now = record {
      has = h.has;
      memory = memory_labels tables sh w m.activations m.flags m.relabels ((flag, label) ∷ C.forget_label flag m.relabels) flag false h.memory
          ((p, S', i, e), forgotten_ok w flag m.relabels h.memory.labels);
    };
    address = refl;
  }

  relabel_by : (label : ℕ) (w : Knowledge) (s p : ℕ) (S : PlainShape) (cr : Bool) (kind : LevelKind) (ls : List Level) (m : LinkedStack) (o : Outer)
      → Now tables sh w s p S m → OuterOk tables sh w s p cr kind ls o → is_some (slice_get ls 0) ≡ true → same_kind kind Levels.Plain ≡ true
      → ((S' : PlainShape) → shape_outside cr ls ≡ Some S' → sh p label ≡ Some S')
      → (m' : LinkedStack) × (C.relabel_in label m o ≡ Some m') × Relabelled w s p S m m'
  relabel_by label w s p S cr kind ls m (base proc a) g h e k f = false_is_not_true (subst (λ (x : List Level). is_some (slice_get x 0) ≡ true) h.3 e)
  relabel_by label w s p S cr kind ls m (call proc a level place caller) g h e k f =
      false_is_not_true (subst (λ (x : List Level). is_some (slice_get x 0) ≡ true) h.3 e)
  relabel_by label w s p S cr kind ls m (mark (fixed l) out) g h e k f = absurd h.4
  relabel_by label w s p S cr kind ls m (mark (flagged l flag place) out) g h e k f =
      let S' : PlainShape = level_shape tables sh cr h.0 h.1 in (
        C.relabelled_if (label == place) label flag m,
        refl,
        relabel_if (label == place) label flag w s p S m S' g h.4.0 (f S' (ap (λ x. shape_outside cr x) h.2)),
      )
  relabel_by label w s p S cr kind ls m (limit n out) g h e k f = false_is_not_true (subst (λ x. same_kind x Levels.Plain ≡ true) h.3 k)

  pub relabel_ok : (label : ℕ) (w : Knowledge) (s p : ℕ) (S : PlainShape) (m : LinkedStack) → Now tables sh w s p S m → is_some (slice_get S.outer 0) ≡ true
      → same_kind S.inner.kind Levels.Plain ≡ true → ((S' : PlainShape) → before_mark S ≡ Some S' → sh p label ≡ Some S')
      → (m' : LinkedStack) × (C.relabel label m ≡ Some m') × Relabelled w s p S m m'
  relabel_ok label w s p S m h e k f =
      relabel_by label w s p S S.in_create S.inner.kind S.outer m (outer_of m.chain) h (outer_ok tables sh w s p S m.chain h.has) e k f

  -- Suspending

  pub suspend_op : (residual : Residual) (w : Knowledge) (s p : ℕ) (S : PlainShape) (m : LinkedStack) → Now tables sh w s p S m
      → ResidualWithin w.coexps residual
      → sh p m.address ≡ Some (with_more 1 S) → Now tables sh w s p S (C.suspend (Op residual) m)
  suspend_op r w s p S m h g e =
      record { has = suspended_ok w s p S (suspension (because (Op r)) m.address m.chain) m.chain (p, S, (g, e), h.has) h.has; memory = h.memory }

  pub suspend_alt : (w : Knowledge) (s p : ℕ) (S : PlainShape) (m : LinkedStack) → (h : Now tables sh w s p S m) → (o : Outside w s p S m (outer_of m.chain))
      → Now tables sh w s p o.shape (with_chain (C.suspend_in (suspension (because Alt) m.address m.chain) o.chain) m)
  suspend_alt w s p S m h o =
      record { has = suspended_ok w s p o.shape (suspension (because Alt) m.address m.chain) o.chain (p, S, tt, h.has) o.has; memory = h.memory }

  with_scan_ok : (w : Knowledge) (s p n : ℕ) (S : PlainShape) (c : Chain) → ChainOk tables sh w s p S c
      → ChainOk tables sh w s p (with_scan S) (C.with_scan n c)
  with_scan_ok w s p n S (chain items q scans o) h = let e = h.2 in (h.0, h.1, omega (arith, e), h.3, h.4)

  without_scan_ok : (w : Knowledge) (s p : ℕ) (S : PlainShape) (c : Chain) → ChainOk tables sh w s p S c
      → ChainOk tables sh w s p (without_scan S) (C.without_scan c)
  without_scan_ok w s p S (chain items q [] o) h = let e = h.2 in (h.0, h.1, omega (arith, e), h.3, h.4)
  without_scan_ok w s p S (chain items q (n ∷ scans) o) h = let e = h.2 in (h.0, h.1, omega (arith, e), h.3, h.4)

  pub suspend_scan : (pair : Pair) (w : Knowledge) (s p : ℕ) (S : PlainShape) (m : LinkedStack) → Now tables sh w s p S m
      → Now tables sh w s p (with_scan S) (C.suspend (Scan pair) m)
  suspend_scan pair w s p S m h = record {
    has = with_scan_ok w s p (length m.saved) S (C.suspend_in (suspension (scanning (length m.saved)) m.address m.chain) m.chain)
        (suspended_ok w s p S (suspension (scanning (length m.saved)) m.address m.chain) m.chain (p, S, tt, h.has) h.has);
    memory = h.memory;
  }

  pub suspend_escan : (w : Knowledge) (s p : ℕ) (S : PlainShape) (m : LinkedStack) → Now tables sh w s p S m → 0 < S.inner.scans
      → Now tables sh w s p (without_scan S) (C.suspend Escan m)
  suspend_escan w s p S m h l = record {
    has = without_scan_ok w s p S (C.suspend_in (suspension (because Escan) m.address m.chain) m.chain)
        (suspended_ok w s p S (suspension (because Escan) m.address m.chain) m.chain (p, S, l, h.has) h.has);
    memory = h.memory;
  }

  -- Scans: what they saved is exchanged

  pub record Swapped (w : Knowledge) (s p : ℕ) (S : PlainShape) (m : LinkedStack) (swap : Pair × LinkedStack) : Type 0 where
    pub now : Now tables sh w s p S swap.1
    pub address : swap.1.address ≡ m.address

  swap_maybe : (pair : Pair) (w : Knowledge) (s p : ℕ) (S : PlainShape) (m : LinkedStack) (o : Option ℕ) → Now tables sh w s p S m
      → IfThere (Swapped w s p S m) (C.swap_at pair m o)
  swap_maybe pair w s p S m None h = tt
  swap_maybe pair w s p S m (Some n) h = record { now = record { has = h.has; memory = h.memory }; address = refl }

  pub swap_oldest_ok : (pair : Pair) (w : Knowledge) (s p : ℕ) (S : PlainShape) (m : LinkedStack) → Now tables sh w s p S m
      → IfThere (Swapped w s p S m) (C.swap_oldest pair m)
  swap_oldest_ok pair w s p S m h = swap_maybe pair w s p S m (C.oldest None (scans_of m.chain)) h

  newest_of : (w : Knowledge) (s p : ℕ) (S : PlainShape) (c : Chain) → ChainOk tables sh w s p S c → 0 < S.inner.scans
      → (n : ℕ) × (slice_get (scans_of c) 0 ≡ Some n)
  newest_of w s p S (chain items q [] o) h l = let e = h.2 in absurd (omega (arith, e, l))
  newest_of w s p S (chain items q (n ∷ scans) o) h l = (n, refl)

  pub swap_newest_ok : (pair : Pair) (w : Knowledge) (s p : ℕ) (S : PlainShape) (m : LinkedStack) → Now tables sh w s p S m → 0 < S.inner.scans
      → (swap : Pair × LinkedStack) × (C.swap_newest pair m ≡ Some swap) × Swapped w s p S m swap
  swap_newest_ok pair w s p S m h l = let z = newest_of w s p S m.chain h.has l in
      ((C.saved_at m z.0, C.with_saved z.0 pair m), ap (C.swap_at pair m) z.1, record { now = record { has = h.has; memory = h.memory }; address = refl })

  -- Calls

  pub enter_ok : (proc : ℕ) (values : List Value) (w : Knowledge) (s p : ℕ) (S : PlainShape) (m : LinkedStack) → Now tables sh w s p S m
      → LocalsOk tables sh w proc values → sh p m.address ≡ Some (with_more 1 S)
      → Now tables sh (with_activation w proc) s proc (start_shape false) (C.enter proc values m)
  enter_ok proc values w s p S m h g e = record {
    has = (
      refl,
      tt,
      omega arith,
      tt,
      (
        refl,
        refl,
        refl,
        refl,
        last_activation tables sh w proc m.activations m.flags m.relabels h.memory,
        (p, S, e, grow_chain tables sh w (with_activation w proc) (grow_activation w proc) s p S m.chain h.has),
      ),
    );
    memory = memory_activation tables sh w proc values m.activations m.flags m.relabels h.memory g;
  }

  pub begin_ok : (proc : ℕ) (values : List Value) (place : ℕ) (cr : Bool) (w : Knowledge) (s : ℕ) (m : LinkedStack) → MemoryOf tables sh w m
      → LocalsOk tables sh w proc values → cr ≡ not (is_main s)
      → Now tables sh (with_activation w proc) s proc (start_shape cr) (C.begin proc values place m)
  begin_ok proc values place cr w s m h g e = record {
    has = (refl, tt, omega arith, tt, (refl, e, refl, refl, last_activation tables sh w proc m.activations m.flags m.relabels h));
    memory = memory_activation tables sh w proc values m.activations m.flags m.relabels h g;
  }

  -- back to the caller, or from the starting call
  pub record Caller (w : Knowledge) (s : ℕ) (m : LinkedStack) : Type 0 where
    pub proc : ℕ
    pub shape : PlainShape
    pub now : Now tables sh w s proc shape m
    pub goes : sh proc m.address ≡ Some (with_more 1 shape)

  abbrev pub Left : Knowledge → ℕ → Bool → Option LinkedStack → Type 0
  Left w s cr None = cr ≡ not (is_main s)
  Left w s cr (Some m) = Caller w s m

  leave_by : (w : Knowledge) (s p : ℕ) (cr : Bool) (m : LinkedStack) (f : Frame) → MemoryOf tables sh w m → FrameOk tables sh w s p cr f
      → Left w s cr (C.leave_frame m f)
  leave_by w s p cr m (at_base proc a) c h = h.1
  leave_by w s p cr m (in_call proc a level place caller) c h = record { proc = h.3.0; shape = h.3.1; now = record { has = h.3.3; memory = c }; goes = h.3.2 }

  pub leave_ok : (w : Knowledge) (s p : ℕ) (S : PlainShape) (m : LinkedStack) → Now tables sh w s p S m → Left w s S.in_create (C.leave m)
  leave_ok w s p S m h = leave_by w s p S.in_create m (frame m) h.memory (the_frame tables sh w s p S m h)

  suspend_proc_by : (w : Knowledge) (s p : ℕ) (S : PlainShape) (m : LinkedStack) (f : Frame) → Now tables sh w s p S m → sh p m.address ≡ Some S
      → FrameOk tables sh w s p S.in_create f → Left w s S.in_create (C.suspend_frame m f)
  suspend_proc_by w s p S m (at_base proc a) c e h = h.1
  suspend_proc_by w s p S m (in_call proc a level place caller) c e h =
      record {
        proc = h.3.0;
        shape = h.3.1;
        now = record { has = suspended_ok w s h.3.0 h.3.1 (suspension (because Proc) m.address m.chain) caller (p, S, e, c.has) h.3.3; memory = c.memory };
        goes = h.3.2;
      }

  pub suspend_proc_ok : (w : Knowledge) (s p : ℕ) (S : PlainShape) (m : LinkedStack) → Now tables sh w s p S m → sh p m.address ≡ Some S
      → Left w s S.in_create (C.suspend_proc m)
  suspend_proc_ok w s p S m h e = suspend_proc_by w s p S m (frame m) h e (the_frame tables sh w s p S m h)

  -- what was suspended comes back
  abbrev pub WhyOk : Knowledge → ℕ → PlainShape → ℕ → Why → Type 0
  WhyOk w p S place Alt = Unit {0}
  WhyOk w p S place (Op residual) = ResidualWithin w.coexps residual × (sh p place ≡ Some (with_more 1 S))
  WhyOk w p S place (Scan pair) = Unit {0}
  WhyOk w p S place Escan = 0 < S.inner.scans
  WhyOk w p S place Proc = sh p place ≡ Some S

  pub record Back (w : Knowledge) (s : ℕ) (back : Why × LinkedStack) : Type 0 where
    pub proc : ℕ
    pub shape : PlainShape
    pub now : Now tables sh w s proc shape back.1
    pub why : WhyOk w proc shape back.1.address back.0

  why_same : (w : Knowledge) (p : ℕ) (S : PlainShape) (place : ℕ) (m : LinkedStack) (reason : Reason) → ReasonOk tables sh w p S place reason
      → WhyOk w p S place (C.why_of reason m)
  why_same w p S place m (because Alt) h = h
  why_same w p S place m (because (Op r)) h = h
  why_same w p S place m (because (Scan x)) h = h
  why_same w p S place m (because Escan) h = h
  why_same w p S place m (because Proc) h = h
  why_same w p S place m (scanning n) h = h

  resume_by : (w : Knowledge) (s p : ℕ) (S : PlainShape) (m : LinkedStack) (c : Chain) → MemoryOf tables sh w m → ChainOk tables sh w s p S c
      → IfThere (Back w s) (C.resume_from m c)
  resume_by w s p S m (chain items none scans o) g h = tt
  resume_by w s p S m (chain items (suspension reason place inside) scans o) g h = let x = h.3 in
      record { proc = x.0; shape = x.1; now = record { has = x.3; memory = g }; why = why_same w x.0 x.1 place m reason x.2 }

  pub resume_ok : (w : Knowledge) (s p : ℕ) (S : PlainShape) (m : LinkedStack) → Now tables sh w s p S m → IfThere (Back w s) (C.resume m)
  resume_ok w s p S m h = resume_by w s p S m m.chain h.memory h.has

  -- the mark is dropped
  pub record GoesOn (w : Knowledge) (s : ℕ) (m : LinkedStack) : Type 0 where
    pub proc : ℕ
    pub shape : PlainShape
    pub now : Now tables sh w s proc shape m
    pub goes : sh proc m.address ≡ Some shape

  abbrev pub DroppedOk : Knowledge → ℕ → MarkDrop LinkedStack → Type 0
  DroppedOk w s NoMark = Unit {0}
  DroppedOk w s (Goes m) = GoesOn w s m
  DroppedOk w s (Repeats m) = GoesOn w s m
  DroppedOk w s (WithoutLabel m) = (p : ℕ) × (S : PlainShape) × Now tables sh w s p S m

  dropped_to_ok : (w : Knowledge) (s p : ℕ) (S : PlainShape) (m : LinkedStack) (c : Chain) (label : Option ℕ) → MemoryOf tables sh w m
      → ChainOk tables sh w s p S c
      → LabelTo tables sh p S label → DroppedOk w s (C.dropped_to m c label)
  dropped_to_ok w s p S m c None g h l = (p, S, record { has = h; memory = g })
  dropped_to_ok w s p S m c (Some label) g h l = record { proc = p; shape = S; now = record { has = h; memory = g }; goes = l }

  -- another label leads to the shape before its mark
  label_ok : (w : Knowledge) (p : ℕ) (S : PlainShape) (flag : ℕ) (xs : List (ℕ × ℕ)) → Each (RelabelOk tables sh w) xs → IsBefore w flag p S
      → IfThere (λ label. sh p label ≡ Some S) (C.label_of flag xs)
  label_ok w p S flag [] h i = tt
  label_ok w p S flag (x ∷ xs) h i = by (x.0 == flag) refl (label_ok w p S flag xs h.1 i)
    where
      at_same : x.0 ≡ flag → sh p x.1 ≡ Some S
      at_same e =
          let z : (h.0.0, h.0.1) ≡ (p, S) = some_injective (sym h.0.2 ∙ ap (slice_get w.flags) e ∙ i) in
          subst (λ (y : ℕ × PlainShape). sh y.0 x.1 ≡ Some y.1) z h.0.3

      by : (b : Bool) → (x.0 == flag) ≡ b → IfThere (λ label. sh p label ≡ Some S) (C.label_of flag xs)
          → IfThere (λ label. sh p label ≡ Some S) (if b then Some x.1 else C.label_of flag xs)
      by true e g = at_same (eqb-true x.0 flag e)
      by false e g = g

  dropped_by_ok : (w : Knowledge) (s p : ℕ) (S : PlainShape) (m : LinkedStack) (c : Chain) (label other : Option ℕ) → MemoryOf tables sh w m
      → ChainOk tables sh w s p S c → LabelTo tables sh p S label → IfThere (λ l. sh p l ≡ Some S) other → DroppedOk w s (C.dropped_by m c label other)
  dropped_by_ok w s p S m c label None g h l o = dropped_to_ok w s p S m c label g h l
  dropped_by_ok w s p S m c label (Some other) g h l o = record { proc = p; shape = S; now = record { has = h; memory = g }; goes = o }

  repeated_ok : (b : Bool) (w : Knowledge) (s p : ℕ) (S : PlainShape) (m : LinkedStack) (c : Chain) (label : Option ℕ) (flag place : ℕ) → MemoryOf tables sh w m
      → ChainOk tables sh w s p S c → LabelOk tables sh w p S (flagged label flag place) → DroppedOk w s (C.repeat_mark label flag place c m b)
  repeated_ok true w s p S m c label flag place g h l = record {
    proc = p;
    shape = with_mark Levels.Plain S;
    now = record {
      has = (refl, tt, omega arith, tt, (S.inner, S.outer, refl, refl, l, h));
      memory = memory_labels tables sh w m.activations m.flags m.relabels m.relabels flag false g g.labels;
    };
    goes = l.2;
  }
  repeated_ok false w s p S m c label flag place g h l =
      dropped_by_ok w s p S m c label (C.label_of flag m.relabels) g h l.1 (label_ok w p S flag m.relabels g.labels l.0)

  drop_by : (w : Knowledge) (s p : ℕ) (cr : Bool) (kind : LevelKind) (ls : List Level) (m : LinkedStack) (o : Outer) → MemoryOf tables sh w m
      → OuterOk tables sh w s p cr kind ls o → DroppedOk w s (C.drop_from m o)
  drop_by w s p cr kind ls m (base proc a) g h = tt
  drop_by w s p cr kind ls m (call proc a level place caller) g h = tt
  drop_by w s p cr kind ls m (mark (fixed l) c) g h = absurd h.4
  drop_by w s p cr kind ls m (mark (flagged l flag place) c) g h =
      repeated_ok (slice_index_or m.flags flag false) w s p (level_shape tables sh cr h.0 h.1) m c l flag place g h.5 h.4
  drop_by w s p cr kind ls m (limit n c) g h = (p, level_shape tables sh cr h.0 h.1, record { has = h.4; memory = g })

  pub drop_ok : (w : Knowledge) (s p : ℕ) (S : PlainShape) (m : LinkedStack) → Now tables sh w s p S m → DroppedOk w s (C.drop_mark m)
  drop_ok w s p S m h = drop_by w s p S.in_create S.inner.kind S.outer m (outer_of m.chain) h.memory (outer_ok tables sh w s p S m.chain h.has)

  -- a result of a limit is counted
  pub record Counted (w : Knowledge) (s p : ℕ) (S : PlainShape) (m : LinkedStack) (counted : ℕ × LinkedStack) : Type 0 where
    pub now : Now tables sh w s p S counted.1
    pub address : counted.1.address ≡ m.address

  count_by : (w : Knowledge) (s p : ℕ) (S : PlainShape) (cr : Bool) (kind : LevelKind) (ls : List Level) (m : LinkedStack) (o : Outer) → Now tables sh w s p S m
      → OuterOk tables sh w s p cr kind ls o → is_some (slice_get ls 0) ≡ true → same_kind kind Levels.Limit ≡ true
      → (counted : ℕ × LinkedStack) × (C.count_in m o ≡ Some counted) × Counted w s p S m counted
  count_by w s p S cr kind ls m (base proc a) g h e k = false_is_not_true (subst (λ (x : List Level). is_some (slice_get x 0) ≡ true) h.3 e)
  count_by w s p S cr kind ls m (call proc a level place caller) g h e k = false_is_not_true (subst (λ (x : List Level). is_some (slice_get x 0) ≡ true) h.3 e)
  count_by w s p S cr kind ls m (mark label c) g h e k = false_is_not_true (subst (λ x. same_kind x Levels.Limit ≡ true) h.3 k)
  count_by w s p S cr kind ls m (limit n c) g h e k = (
    (C.results_left n m, record m { limits = slice_set m.limits n (C.results_left n m) }),
    refl,
    record { now = record { has = g.has; memory = g.memory }; address = refl },
  )

  pub count_ok : (w : Knowledge) (s p : ℕ) (S : PlainShape) (m : LinkedStack) → Now tables sh w s p S m → is_some (slice_get S.outer 0) ≡ true
      → same_kind S.inner.kind Levels.Limit ≡ true → (counted : ℕ × LinkedStack) × (C.count_down m ≡ Some counted) × Counted w s p S m counted
  count_ok w s p S m h e k = count_by w s p S S.in_create S.inner.kind S.outer m (outer_of m.chain) h (outer_ok tables sh w s p S m.chain h.has) e k
