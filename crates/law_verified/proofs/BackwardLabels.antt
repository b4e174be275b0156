-- What a backward label wants reaches the label, so the code of a procedure is sound.
use Rattle.std.proofs.Common.{◌≡◌, ℕ, zero, suc, ◌+◌, ◌<◌, ◌≤◌, true, false, ◌⊎◌, inl, inr, List, [], ◌∷◌, Option, Some, None, refl, sym, ap, ◌∙◌, subst, arith}
use Rattle.std.specs.Prelude.{slice_get}
use Rattle.std.proofs.lemmas.Bool.{cases_lt}
use Rattle.icn_tree.specs.Trees as T
use Rattle.icn_tree.specs.Trees.{Trees, NoTrees, More, Initial, NoInitial, Initially}
use Rattle.icn_code.specs.declared.instr.Instr.{Instr}
use Rattle.icn_code.specs.declared.instr.Instr.TheVariants as I
use Rattle.icn_verify.specs.declared.rows.Way.{Way}
use Rattle.icn_verify.specs.declared.rows.Way.TheVariants as Ways
use Rattle.icn_verify.specs.Shapes.{PlainShape, before_mark}
use Rattle.icn_verify.specs.Rows.{row_of, after, next_by, next, forward, back, with_label}
use Rattle.icn_verify.specs.ReachingShapes.{Reaches, starts, goes}
use Rattle.icn_verify.specs.Faults.{LacksShape}
use Rattle.icn_verify.specs.Given as V
use Rattle.law_simulation.specs.Translation.{SymbolTable, size}
use Rattle.law_simulation.specs.Translation as C
use Rattle.law_simulation.specs.Linkage.{Linkage}
use Rattle.law_verified.specs.Noted.{Note, in_mark, start, bounded_notes, body, procedure, instrs}
use Rattle.law_verified.specs.FittingTrees.{FitAll}
use Rattle.law_verified.specs.TranslationLaws.{FitInitial}
use Rattle.law_verified.specs.VerifierShapes.{plain_at, CodesSound}
use Rattle.law_verified.proofs.ErasedNotes.{procedure_noted}
use Rattle.law_verified.proofs.VerifierAgrees.{codes_have_shapes, none_is_not_some}
use Rattle.law_verified.proofs.SoundProcedures.{some_is, if_some, reached, nearly}
use Rattle.law_verified.proofs.LoopNesting.{ForwardLabel, forward_mark, forward_goto, forward_init, forward_create, BackwardLabel, backward_loop, backward_chfail, WellNested, Regions, Passes, Clear, nested_append, nested_nil, nested_plain, nested_forward, pass_before, pass_after, pass_plain, pass_forward, nested_over, no_ways_ahead}
use Rattle.law_verified.proofs.NestedTrees.{tree_is_nested}

module _ (L : Linkage) (j : ℕ) (N : SymbolTable) where
  record Block (p : ℕ) (xs : List Note) : Type 0 where
    end : ℕ
    is : WellNested [] p xs end

  body_block : (es : Trees) (p p' : ℕ) → p' ≡ p → FitAll L j N [] true es → Block p' (body N p es)
  body_block NoTrees p p' e f = record { end = suc p'; is = nested_plain _ refl (nested_nil _ refl) }
  body_block (More T.Empty es) p p' e f = body_block es (p + 0) p' (omega arith) f.1
  body_block (More x es) p p' e f =
      let n = tree_is_nested L j N x [] [] [] true (in_mark (start false)) tt f.0 (p + 1) (suc p') (omega arith) no_ways_ahead in
      let b : WellNested [] p' (bounded_notes N p x) (p' + (size [] x + 2)) = nested_forward _ (suc (suc p' + size [] x)) forward_mark (omega arith)
      (omega arith)
      (pass_before n (omega arith) (pass_plain _ refl nested_over)) (nested_append n (nested_plain _ refl (nested_nil _ (omega arith))) no_ways_ahead) in
      let r = body_block es (p + (size [] x + 2)) (p' + (size [] x + 2)) (omega arith) f.1 in
      record { end = r.end; is = nested_append b r.is no_ways_ahead }

  procedure_block : (i : Initial) (es : Trees) → FitInitial L j N i → FitAll L j N [] true es → Block 0 (procedure N i es)
  procedure_block NoInitial es f g = body_block es 0 0 refl g
  procedure_block (Initially place x) es f g =
      let n = tree_is_nested L j N x [] [] [] true (in_mark (start false)) tt f 2 2 refl no_ways_ahead in
      let q = suc (2 + size [] x) in
      let r = body_block es (size [] x + 3) q (omega arith) g in
      let k = r.is in let en = k.ends in
      record {
        end = r.end;
        is = nested_forward _ q forward_init (omega arith) (omega arith)
            (pass_forward _ forward_mark (pass_before n (omega arith) (pass_plain _ refl (pass_after k (omega arith)))))
            (nested_forward _ q forward_mark (omega arith) (omega arith) (pass_before n (omega arith) (pass_plain _ refl (pass_after k (omega arith))))
            (nested_append n (nested_plain _ refl k) no_ways_ahead));
      }

same_back : {i i' : Instr} {l : ℕ} → i ≡ i' → BackwardLabel i' l → BackwardLabel i l
same_back {l = l} e b = subst (λ i. BackwardLabel i l) (sym e) b

same_lead : {i i' : Instr} {l : ℕ} → i ≡ i' → ForwardLabel i' l → ForwardLabel i l
same_lead {l = l} e b = subst (λ i. ForwardLabel i l) (sym e) b

passes_at : (a m q l : ℕ) (i : Instr) (xs : List Note) (b : ℕ) → Passes a m q xs → slice_get (instrs xs) b ≡ Some i → BackwardLabel i l → a < l
    → (m ≤ l) ⊎ (q + b < m)
passes_at a m q l i [] b h e k w = absurd (none_is_not_some e)
passes_at a m q l i (x ∷ xs) zero h e k w = turn (h.0 l (same_back (some_is e) k) w)
  where
    turn : (m ≤ l) ⊎ (q < m) → (m ≤ l) ⊎ (q + 0 < m)
    turn (inl u) = inl u
    turn (inr u) = inr (omega arith)
passes_at a m q l i (x ∷ xs) (suc b) h e k w = turn (passes_at a m (suc q) l i xs b h.1 e k w)
  where
    turn : (m ≤ l) ⊎ (suc q + b < m) → (m ≤ l) ⊎ (q + suc b < m)
    turn (inl u) = inl u
    turn (inr u) = inr (omega arith)

clear_at : (lo p m l : ℕ) (i i' : Instr) (xs : List Note) (a b : ℕ) → Clear p xs → Regions lo p xs → slice_get (instrs xs) a ≡ Some i → ForwardLabel i m
    → slice_get (instrs xs) b ≡ Some i' → BackwardLabel i' l → p + a < l → (m ≤ l) ⊎ (p + b < m)
clear_at lo p m l i i' [] a b c r e u f k w = absurd (none_is_not_some e)
clear_at lo p m l i i' (x ∷ xs) zero zero c r e u f k w = absurd (let v = (r.0 l (same_back (some_is f) k)).1 in omega arith)
clear_at lo p m l i i' (x ∷ xs) zero (suc b) c r e u f k w = turn (passes_at p m (suc p) l i' xs b (c.0 m (same_lead (some_is e) u)) f k (omega arith))
  where
    turn : (m ≤ l) ⊎ (suc p + b < m) → (m ≤ l) ⊎ (p + suc b < m)
    turn (inl u) = inl u
    turn (inr u) = inr (omega arith)
clear_at lo p m l i i' (x ∷ xs) (suc a) zero c r e u f k w = absurd (let v = (r.0 l (same_back (some_is f) k)).1 in omega arith)
clear_at lo p m l i i' (x ∷ xs) (suc a) (suc b) c r e u f k w = turn (clear_at lo (suc p) m l i i' xs a b c.1 r.1 e u f k (omega arith))
  where
    turn : (m ≤ l) ⊎ (suc p + b < m) → (m ≤ l) ⊎ (p + suc b < m)
    turn (inl u) = inl u
    turn (inr u) = inr (omega arith)

-- how an instruction leads on, in the verifier's words
to_is : {a b : ℕ} {s t : PlainShape} → ◌≡◌ {A = Option (ℕ × PlainShape)} (Some (a, s)) (Some (b, t)) → a ≡ b
to_is e = ap (λ (x : ℕ × PlainShape). x.0) (some_is e)

next_by_is : (w : Way) (p : ℕ) (left : PlainShape) (q : ℕ) (t : PlainShape) → next_by w p left ≡ Some (q, t) → q ≡ p + 1
next_by_is Ways.On p left q t e = sym (to_is e)
next_by_is Ways.Ends p left q t e = absurd (none_is_not_some e)
next_by_is (Ways.Fails l) p left q t e = sym (to_is e)
next_by_is (Ways.Jumps l) p left q t e = absurd (none_is_not_some e)
next_by_is (Ways.Returns l) p left q t e = absurd (none_is_not_some e)
next_by_is (Ways.Retries l) p left q t e = sym (to_is e)
next_by_is (Ways.Skips l) p left q t e = sym (to_is e)
next_by_is (Ways.Forks l) p left q t e = sym (to_is e)

forward_leads : (i : Instr) (s : PlainShape) (q : ℕ) (t : PlainShape) → forward i s ≡ Some (q, t) → ForwardLabel i q
forward_leads (I.Mark l) s q t e = subst (λ q. ForwardLabel (I.Mark l) q) (to_is e) forward_mark
forward_leads (I.Goto l) s q t e = subst (λ q. ForwardLabel (I.Goto l) q) (to_is e) forward_goto
forward_leads (I.Init l) s q t e = subst (λ q. ForwardLabel (I.Init l) q) (to_is e) forward_init
forward_leads (I.Create l) s q t e = subst (λ q. ForwardLabel (I.Create l) q) (to_is e) forward_create
forward_leads i s q t e = absurd (none_is_not_some e)

labeled_is : (l : ℕ) (s : Option PlainShape) (q : ℕ) (t : PlainShape) → with_label l s ≡ Some (q, t) → l ≡ q
labeled_is l None q t e = absurd (none_is_not_some e)
labeled_is l (Some s) q t e = to_is e

back_backs : (i : Instr) (s : PlainShape) (q : ℕ) (t : PlainShape) → back i s ≡ Some (q, t) → BackwardLabel i q
back_backs (I.Loop l) s q t e = subst (λ q. BackwardLabel (I.Loop l) q) (to_is e) backward_loop
back_backs (I.Chfail l) s q t e = subst (λ q. BackwardLabel (I.Chfail l) q) (labeled_is l (before_mark s) q t e) backward_chfail
back_backs i s q t e = absurd (none_is_not_some e)

module _ (code : List Instr) (shapes : ℕ → Option PlainShape) (v : V.HasShapes code shapes)
    (clear : (a b m l : ℕ) (i i' : Instr) → slice_get code a ≡ Some i → ForwardLabel i m → slice_get code b ≡ Some i' → BackwardLabel i' l → a < l
    → (m ≤ l) ⊎ (b < m)) where
  at_label : {q l : ℕ} {t u : PlainShape} → q ≡ l → Reaches code q t → shapes l ≡ Some u → Reaches code l u
  at_label {q = q} {l = l} {t = t} {u = u} e r h = subst (λ u. Reaches code l u) (some_is (sym (reached code shapes v r') ∙ h)) r'
    where
      r' : Reaches code l t
      r' = subst (λ q. Reaches code q t) e r

  entry : {q : ℕ} {t : PlainShape} → Reaches code q t → (b l : ℕ) (i : Instr) → slice_get code b ≡ Some i → BackwardLabel i l → l ≤ q → q ≤ b → (u : PlainShape)
      → shapes l ≡ Some u → Reaches code l u
  entry starts b l i e k h w u s = at_label (omega arith) starts s
  entry (goes p y q t r c) b l i e k h w u s = by_side (cases_lt p l) (λ d. entry r b l i e k d (let z = c.later in omega arith) u s)
    where
      by_lead : p < l → (next c.instr p y ≡ Some (q, t)) ⊎ (forward c.instr y ≡ Some (q, t)) → q ≡ l
      by_lead d (inl n) = let m = next_by_is (row_of c.instr).way p (after (row_of c.instr) y) q t n in omega arith
      by_lead d (inr n) = by_clear (clear p b q l c.instr i c.stands (forward_leads c.instr y q t n) e k d)
        where
          by_clear : (q ≤ l) ⊎ (b < q) → q ≡ l
          by_clear (inl z) = omega arith
          by_clear (inr z) = absurd (omega arith)

      by_side : (p < l) ⊎ (l ≤ p) → (l ≤ p → Reaches code l u) → Reaches code l u
      by_side (inl d) f = at_label (by_lead d c.leads) (goes p y q t r c) s
      by_side (inr d) f = f d

  never_lacks : (p : ℕ) → LacksShape code p → ⊥
  never_lacks p b =
      let f = v.each p b.shape (reached code shapes v b.met.reaches) in
      let k = if_some (back f.instr b.shape) (λ to. (to.0 ≤ p) × (shapes to.0 ≡ Some to.1)) f.backward
      (ap (λ i. back i b.shape) (some_is (sym f.stands ∙ b.met.stands)) ∙ b.leads) in
      b.absent (entry b.met.reaches p b.label b.instr b.met.stands (back_backs b.instr b.shape b.label b.wanted b.leads) b.earlier (omega arith) b.wanted k.1)

pub codes_sound : CodesSound
codes_sound L j N i es f g p rule b =
    let v = codes_have_shapes L j N i es f g in
    never_lacks (C.procedure N i es) (plain_at (procedure N i es)) v is_clear p (nearly (C.procedure N i es) (plain_at (procedure N i es)) v p rule b)
  where
    is_clear : (a b m l : ℕ) (k k' : Instr) → slice_get (C.procedure N i es) a ≡ Some k → ForwardLabel k m → slice_get (C.procedure N i es) b ≡ Some k'
        → BackwardLabel k' l
        → a < l → (m ≤ l) ⊎ (b < m)
    is_clear a b m l k k' e u h w d =
        let n = (procedure_block L j N i es f g).is in let same = procedure_noted N i es in
        turn (clear_at 0 0 m l k k' (procedure N i es) a b n.clear n.regions (ap (λ xs. slice_get xs a) same ∙ e) u (ap (λ xs. slice_get xs b) same ∙ h) w
        (omega arith))
      where
        turn : (m ≤ l) ⊎ (0 + b < m) → (m ≤ l) ⊎ (b < m)
        turn (inl z) = inl z
        turn (inr z) = inr (omega arith)
