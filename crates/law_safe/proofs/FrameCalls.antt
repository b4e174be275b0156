-- What the calls on linked marks keep: what changes, the frame, operands, and new marks.
use Rattle.std.proofs.Common.{◌≡◌, ◌≢◌, ℕ, zero, suc, ◌+◌, ◌-◌, ◌<◌, ◌≤◌, ◌⊎◌, inl, inr, Bool, false, List, [], ◌∷◌, ◌++◌, length, Option, Some, refl, sym, ap, ◌∙◌, subst, arith}
use Rattle.std.specs.Prelude.{slice_get, slice_set, pred, ◌&&◌, not}
use Rattle.std.specs.Option.{option_map}
use Rattle.icn_code.specs.Codes.{Tables}
use Rattle.icn_verify.specs.declared.shape.LevelKind.TheVariants as Levels
use Rattle.icn_verify.specs.Shapes.{PlainShape, with_more, with_fewer, with_mark}
use Rattle.icn_run.specs.Rows.{Value, Item}
use Rattle.icn_run.specs.Chains as C
use Rattle.icn_run.specs.Chains.{Chain, chain, Frame, at_base, in_call, LinkedStack, outer_of, scans_of, proc_of, activation_of, is_base_frame, frame, locals, with_chain}
use Rattle.icn_run.specs.LinkedStep.{repeats_anywhere}
use Rattle.icn_run.specs.Step.{is_main}
use Rattle.law_stacks.proofs.CellLists.{some_injective, get_more, get_seam, get_set_same, get_set_other}
use Rattle.law_safe.specs.Within.{Each, ItemWithin}
use Rattle.law_safe.specs.Shaped.{Knowledge, IsOf, IsBefore, LabelTo, ChainOk, OuterOk, FrameOk, LocalsOk, RelabelOk, MemoryOk, Now}
use Rattle.law_safe.proofs.EachEntry.{got_more, more_length, set_length, same_or_not, index_there}
use Rattle.law_safe.proofs.GrowingKnowledge.{Grows, grow_chain, grow_locals, grow_relabels, frame_ok}

-- with one more activation, and with one more flag

abbrev pub with_activation : Knowledge → ℕ → Knowledge
with_activation w p = record w { activations = w.activations ++ p ∷ [] }

abbrev pub with_flag : Knowledge → ℕ → PlainShape → Knowledge
with_flag w p S = record w { flags = w.flags ++ (p, S) ∷ [] }

-- what is known grows by an activation
pub grow_activation : (w : Knowledge) (p : ℕ) → Grows w (with_activation w p)
grow_activation w p = record { coexps = omega arith; activations = λ a q h. get_more w.activations p a q h; flags = λ f q S h. h }

pub grow_flag : (w : Knowledge) (p : ℕ) (S : PlainShape) → Grows w (with_flag w p S)
grow_flag w p S = record { coexps = omega arith; activations = λ a q h. h; flags = λ f q S' h. get_more w.flags (p, S) f (q, S') h }

module _ (tables : Tables) (sh : ℕ → ℕ → Option PlainShape) where
  pub memory_activation : (w : Knowledge) (p : ℕ) (values : List Value) (acts : List (List Value)) (flags : List Bool) (relabels : List (ℕ × ℕ))
      → MemoryOk tables sh w acts flags relabels → LocalsOk tables sh w p values
      → MemoryOk tables sh (with_activation w p) (acts ++ values ∷ []) flags relabels
  memory_activation w p values acts flags relabels h l = record {
    same_activations = more_length w.activations p ∙ ap suc h.same_activations ∙ sym (more_length acts values);
    same_flags = h.same_flags;
    locals = λ a q z. by a q (got_more w.activations p a q z);
    labels = grow_relabels tables sh w (with_activation w p) (grow_activation w p) relabels h.labels;
  }
    where
      by : (a q : ℕ) → ((a ≡ length w.activations) × (p ≡ q)) ⊎ IsOf w a q
          → (vs : List Value) × (slice_get (acts ++ values ∷ []) a ≡ Some vs) × LocalsOk tables sh (with_activation w p) q vs
      by a q (inl z) = (
        values,
        ap (slice_get (acts ++ values ∷ [])) (z.0 ∙ h.same_activations) ∙ get_seam acts values [],
        subst (λ y. LocalsOk tables sh (with_activation w p) y values) z.1 (grow_locals tables sh w (with_activation w p) (grow_activation w p) p values l),
      )
      by a q (inr z) =
          let o = h.locals a q z in (o.0, get_more acts values a o.0 o.1, grow_locals tables sh w (with_activation w p) (grow_activation w p) q o.0 o.2)

  pub last_activation : (w : Knowledge) (p : ℕ) (acts : List (List Value)) (flags : List Bool) (relabels : List (ℕ × ℕ))
      → MemoryOk tables sh w acts flags relabels
      → IsOf (with_activation w p) (length acts) p
  last_activation w p acts flags relabels h = ap (slice_get (w.activations ++ p ∷ [])) (sym h.same_activations) ∙ get_seam w.activations p []

  pub memory_flag : (w : Knowledge) (p : ℕ) (S : PlainShape) (acts : List (List Value)) (flags : List Bool) (relabels : List (ℕ × ℕ))
      → MemoryOk tables sh w acts flags relabels
      → MemoryOk tables sh (with_flag w p S) acts (flags ++ false ∷ []) relabels
  memory_flag w p S acts flags relabels h = record {
    same_activations = h.same_activations;
    same_flags = more_length w.flags (p, S) ∙ ap suc h.same_flags ∙ sym (more_length flags false);
    locals = λ a q z. let o = h.locals a q z in (o.0, o.1, grow_locals tables sh w (with_flag w p S) (grow_flag w p S) q o.0 o.2);
    labels = grow_relabels tables sh w (with_flag w p S) (grow_flag w p S) relabels h.labels;
  }

  pub last_flag : (w : Knowledge) (p : ℕ) (S : PlainShape) (acts : List (List Value)) (flags : List Bool) (relabels : List (ℕ × ℕ))
      → MemoryOk tables sh w acts flags relabels → IsBefore (with_flag w p S) (length flags) p S
  last_flag w p S acts flags relabels h = ap (slice_get (w.flags ++ (p, S) ∷ [])) (sym h.same_flags) ∙ get_seam w.flags (p, S) []

  -- other labels, and flags up or down
  pub memory_labels : (w : Knowledge) (acts : List (List Value)) (flags : List Bool) (relabels new : List (ℕ × ℕ)) (n : ℕ) (up : Bool)
      → MemoryOk tables sh w acts flags relabels → Each (RelabelOk tables sh w) new → MemoryOk tables sh w acts (slice_set flags n up) new
  memory_labels w acts flags relabels new n up h g =
      record { same_activations = h.same_activations; same_flags = h.same_flags ∙ sym (set_length flags n up); locals = h.locals; labels = g }

  memory_locals : (w : Knowledge) (acts : List (List Value)) (flags : List Bool) (relabels : List (ℕ × ℕ)) (n p : ℕ) (values : List Value)
      → MemoryOk tables sh w acts flags relabels → IsOf w n p → LocalsOk tables sh w p values → MemoryOk tables sh w (slice_set acts n values) flags relabels
  memory_locals w acts flags relabels n p values h i l = record {
    same_activations = h.same_activations ∙ sym (set_length acts n values);
    same_flags = h.same_flags;
    locals = λ a q z. by a q z (same_or_not a n);
    labels = h.labels;
  }
    where
      by : (a q : ℕ) → IsOf w a q → (a ≡ n) ⊎ (a ≢ n) → (vs : List Value) × (slice_get (slice_set acts n values) a ≡ Some vs) × LocalsOk tables sh w q vs
      by a q z (inl e) = let o = h.locals n p i in
          let same : p ≡ q = some_injective (sym i ∙ ap (slice_get w.activations) (sym e) ∙ z) in
          (values, ap (slice_get (slice_set acts n values)) e ∙ get_set_same acts n o.0 values o.1, subst (λ y. LocalsOk tables sh w y values) same l)
      by a q z (inr d) = let o = h.locals a q z in (o.0, get_set_other acts a n values d ∙ o.1, o.2)

  -- The frame

  pub outer_ok : (w : Knowledge) (s p : ℕ) (S : PlainShape) (c : Chain) → ChainOk tables sh w s p S c
      → OuterOk tables sh w s p S.in_create S.inner.kind S.outer (outer_of c)
  outer_ok w s p S (chain items q scans o) h = h.4

  pub the_frame : (w : Knowledge) (s p : ℕ) (S : PlainShape) (m : LinkedStack) → Now tables sh w s p S m → FrameOk tables sh w s p S.in_create (frame m)
  the_frame w s p S m h = frame_ok tables sh w s p S.in_create S.inner.kind S.outer (outer_of m.chain) (outer_ok w s p S m.chain h.has)

  frame_proc : (w : Knowledge) (s p : ℕ) (cr : Bool) (f : Frame) → FrameOk tables sh w s p cr f → proc_of f ≡ p
  frame_proc w s p cr (at_base proc a) h = h.0
  frame_proc w s p cr (in_call proc a level place caller) h = h.0

  frame_create : (w : Knowledge) (s p : ℕ) (cr : Bool) (f : Frame) → FrameOk tables sh w s p cr f → (is_base_frame f && not (is_main s)) ≡ cr
  frame_create w s p cr (at_base proc a) h = sym h.1
  frame_create w s p cr (in_call proc a level place caller) h = sym h.1

  frame_activation : (w : Knowledge) (s p : ℕ) (cr : Bool) (f : Frame) → FrameOk tables sh w s p cr f → IsOf w (activation_of f) p
  frame_activation w s p cr (at_base proc a) h = h.2
  frame_activation w s p cr (in_call proc a level place caller) h = h.2

  -- the running procedure is the one that is known
  pub here_proc : (w : Knowledge) (s p : ℕ) (S : PlainShape) (m : LinkedStack) → Now tables sh w s p S m → proc_of (frame m) ≡ p
  here_proc w s p S m h = frame_proc w s p S.in_create (frame m) (the_frame w s p S m h)

  pub here_create : (w : Knowledge) (s p : ℕ) (S : PlainShape) (m : LinkedStack) → Now tables sh w s p S m
      → (is_base_frame (frame m) && not (is_main s)) ≡ S.in_create
  here_create w s p S m h = frame_create w s p S.in_create (frame m) (the_frame w s p S m h)

  -- the locals of the running activation are within what is known
  pub locals_ok : (w : Knowledge) (s p : ℕ) (S : PlainShape) (m : LinkedStack) → Now tables sh w s p S m → LocalsOk tables sh w p (locals m)
  locals_ok w s p S m h =
      let o = h.memory.locals (activation_of (frame m)) p (frame_activation w s p S.in_create (frame m) (the_frame w s p S m h)) in
      subst (LocalsOk tables sh w p) (sym (index_there m.activations (activation_of (frame m)) o.0 [] o.1)) o.2

  pub set_locals_ok : (values : List Value) (w : Knowledge) (s p : ℕ) (S : PlainShape) (m : LinkedStack) → Now tables sh w s p S m
      → LocalsOk tables sh w p values
      → Now tables sh w s p S (C.set_locals values m)
  set_locals_ok values w s p S m h g =
      record {
        has = h.has;
        memory = memory_locals w m.activations m.flags m.relabels (activation_of (frame m)) p values h.memory
            (frame_activation w s p S.in_create (frame m) (the_frame w s p S m h)) g;
      }

  -- Operands

  pushed_ok : (w : Knowledge) (s p : ℕ) (S : PlainShape) (item : Item) (c : Chain) → ChainOk tables sh w s p S c → ItemWithin w.coexps item
      → ChainOk tables sh w s p (with_more 1 S) (C.push_on item c)
  pushed_ok w s p S item (chain items q scans o) h g = let e = h.0 in (omega (arith, e), (g, h.1), h.2, h.3, h.4)

  pub push_ok : (item : Item) (w : Knowledge) (s p : ℕ) (S : PlainShape) (m : LinkedStack) → Now tables sh w s p S m → ItemWithin w.coexps item
      → Now tables sh w s p (with_more 1 S) (C.push item m)
  push_ok item w s p S m h g = record { has = pushed_ok w s p S item m.chain h.has g; memory = h.memory }

  popped_ok : (w : Knowledge) (s p : ℕ) (S : PlainShape) (m : LinkedStack) (c : Chain) → ChainOk tables sh w s p S c → 0 < S.inner.operands
      → (item : Item) × (c' : Chain) × (C.pop_from m c ≡ Some (item, with_chain c' m)) × ItemWithin w.coexps item × ChainOk tables sh w s p (with_fewer 1 S) c'
  popped_ok w s p S m (chain [] q scans o) h l = let e = h.0 in absurd (omega (arith, e, l))
  popped_ok w s p S m (chain (item ∷ items) q scans o) h l =
      let e = h.0 in (item, chain items q scans o, refl, h.1.0, (omega (arith, e, l), h.1.1, h.2, h.3, h.4))

  pub pop_ok : (w : Knowledge) (s p : ℕ) (S : PlainShape) (m : LinkedStack) → Now tables sh w s p S m → 0 < S.inner.operands
      → (item : Item) × (c' : Chain) × (C.pop m ≡ Some (item, with_chain c' m)) × ItemWithin w.coexps item
      × Now tables sh w s p (with_fewer 1 S) (with_chain c' m)
  pop_ok w s p S m h l = let o = popped_ok w s p S m m.chain h.has l in (o.0, o.1, o.2, o.3, record { has = o.4; memory = h.memory })

  taken_ok : (Q : Item → Type 0) (n : ℕ) (items found : List Item) → n ≤ length items → Each Q items → Each Q found
      → (out : List Item) × (rest : List Item) × (C.take_top n items found ≡ Some (out, rest)) × (length rest ≡ length items - n)
      × (length out ≡ n + length found) × Each Q out × Each Q rest
  taken_ok Q zero items found l h g = (found, items, refl, omega arith, omega arith, g, h)
  taken_ok Q (suc n) [] found l h g = absurd (omega (arith, l))
  taken_ok Q (suc n) (item ∷ items) found l h g = let o = taken_ok Q n items (item ∷ found) (omega (arith, l)) h.1 (h.0, g) in
      let a = o.3 in let b = o.4 in (o.0, o.1, o.2, omega (arith, a), omega (arith, b), o.5, o.6)

  take_from_ok : (n : ℕ) (w : Knowledge) (s p : ℕ) (S : PlainShape) (m : LinkedStack) (c : Chain) → ChainOk tables sh w s p S c → n ≤ S.inner.operands
      → (items : List Item) × (c' : Chain) × (C.take_from n m c ≡ Some (items, with_chain c' m)) × (length items ≡ n) × Each (ItemWithin w.coexps) items
      × ChainOk tables sh w s p (with_fewer n S) c'
  take_from_ok n w s p S m (chain items q scans o) h l =
      let e = h.0 in
      let t = taken_ok (ItemWithin w.coexps) n items [] (omega (arith, e, l)) h.1 tt in
      let a = t.3 in let d = t.4 in (
        t.0,
        chain t.1 q scans o,
        ap (λ x. option_map (λ (parts : List Item × List Item). (parts.0, with_chain (chain parts.1 q scans o) m)) x) t.2,
        omega (arith, d),
        t.5,
        (omega (arith, a, e), t.6, h.2, h.3, h.4),
      )

  pub take_ok : (n : ℕ) (w : Knowledge) (s p : ℕ) (S : PlainShape) (m : LinkedStack) → Now tables sh w s p S m → n ≤ S.inner.operands
      → (items : List Item) × (c' : Chain) × (C.take_items n m ≡ Some (items, with_chain c' m)) × (length items ≡ n) × Each (ItemWithin w.coexps) items
      × Now tables sh w s p (with_fewer n S) (with_chain c' m)
  take_ok n w s p S m h l = let o = take_from_ok n w s p S m m.chain h.has l in (o.0, o.1, o.2, o.3, o.4, record { has = o.5; memory = h.memory })

  -- Marks

  scans_count : (w : Knowledge) (s p : ℕ) (S : PlainShape) (c : Chain) → ChainOk tables sh w s p S c → S.inner.scans ≤ length (scans_of c)
  scans_count w s p S (chain items q scans o) h = h.2

  pub mark_ok : (label : Option ℕ) (w : Knowledge) (s p : ℕ) (S : PlainShape) (m : LinkedStack) (q : ℕ) → Now tables sh w s p S m → m.address ≡ suc q
      → LabelTo tables sh p S label → sh p (suc q) ≡ Some (with_mark Levels.Plain S)
      → Now tables sh (with_flag w p S) s p (with_mark Levels.Plain S) (C.open_mark repeats_anywhere label m)
  mark_ok label w s p S m q h at to e = record {
    has = (
      refl,
      tt,
      omega arith,
      tt,
      (
        S.inner,
        S.outer,
        refl,
        refl,
        (last_flag w p S m.activations m.flags m.relabels h.memory, to, ap (λ n. sh p (suc (pred n))) at ∙ e),
        grow_chain tables sh w (with_flag w p S) (grow_flag w p S) s p S m.chain h.has,
      ),
    );
    memory = memory_flag w p S m.activations m.flags m.relabels h.memory;
  }

  pub limit_ok : (count : ℕ) (w : Knowledge) (s p : ℕ) (S : PlainShape) (m : LinkedStack) → Now tables sh w s p S m
      → Now tables sh w s p (with_mark Levels.Limit S) (C.open_limit (suc count) m)
  limit_ok count w s p S m h = record { has = (refl, tt, omega arith, tt, (S.inner, S.outer, refl, refl, h.has)); memory = h.memory }
