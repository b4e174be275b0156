-- Which rules the code of a procedure keeps.
use Rattle.std.proofs.Common.{◌≡◌, ℕ, ◌<◌, ◌≤◌, Bool, true, false, not, ◌&&◌, nat_lt, nat_le, ◌⊎◌, inl, inr, List, [], ◌∷◌, length, Option, Some, None, IfSome, refl, sym, ap, ◌∙◌, subst}
use Rattle.std.specs.Prelude.{slice_get, unwrap_or}
use Rattle.std.proofs.lemmas.Bool.{le-ltb, lt-leb}
use Rattle.icn_tree.specs.declared.rule.Rule.{Rule}
use Rattle.icn_tree.specs.declared.rule.Rule.TheVariants.{V1, V2, V3, V4, V5}
use Rattle.icn_code.specs.declared.instr.Instr.{Instr}
use Rattle.icn_code.specs.declared.instr.Instr.TheVariants as I
use Rattle.icn_verify.specs.declared.shape.Level.{Level}
use Rattle.icn_verify.specs.Shapes.{PlainShape, look_of}
use Rattle.icn_verify.specs.Rows.{row_of, lacks, meets, fits, next, forward, back, strays}
use Rattle.icn_verify.specs.ReachingShapes.{Reaches, starts, goes, Carries}
use Rattle.icn_verify.specs.Faults.{Breaks, LacksShape}
use Rattle.icn_verify.specs.Given as V
use Rattle.law_simulation.specs.Translation as C
use Rattle.law_verified.specs.Noted.{procedure}
use Rattle.law_verified.proofs.UnmarkLengths.{false_is_not_true}
use Rattle.law_verified.proofs.VerifierAgrees.{none_is_not_some}

pub some_is : {T : Type 0} {a b : T} → Some a ≡ Some b → a ≡ b
some_is {a = a} e = ap (λ y. unwrap_or y a) e

pub if_some : {T : Type 0} {a : T} (o : Option T) (P : T → Type 0) → IfSome o P → o ≡ Some a → P a
if_some None P h e = absurd (none_is_not_some e)
if_some {a = a} (Some x) P h e = subst P (some_is e) h

no_lack : (b c : Bool) → (not b && c) ≡ true → b ≡ true → ⊥
no_lack true c e f = false_is_not_true e
no_lack false c e f = false_is_not_true f

no_miss : (b c : Bool) → (not b && c) ≡ true → c ≡ false → ⊥
no_miss true c e f = false_is_not_true e
no_miss false c e f = false_is_not_true (sym f ∙ e)

at_end : (xs : List Instr) → slice_get xs (length xs) ≡ None
at_end [] = refl
at_end (x ∷ xs) = at_end xs

no_none : {T : Type 0} {s : T} → Some s ≡ None → ⊥
no_none e = none_is_not_some (sym e)

not_le : (l p : ℕ) → p < l → nat_le l p ≡ true → ⊥
not_le l p h e = false_is_not_true (sym (lt-leb l p h) ∙ e)

not_lt : (p l : ℕ) → l ≤ p → nat_lt p l ≡ true → ⊥
not_lt p l h e = false_is_not_true (sym (le-ltb p l h) ∙ e)

chfail_stays : (shapes : ℕ → Option PlainShape) (l p : ℕ) (c : Bool) (inner : Level) (outer : List Level)
    → fits (record { in_create = c; inner = inner; outer = outer }) (I.Chfail l) ≡ true
    → IfSome (back (I.Chfail l) (record { in_create = c; inner = inner; outer = outer })) (λ to. (to.0 ≤ p) × (shapes to.0 ≡ Some to.1)) → nat_lt p l ≡ true → ⊥
chfail_stays shapes l p c inner [] f b e = no_miss (nat_lt inner.operands 0) false f refl
chfail_stays shapes l p c inner (k ∷ ks) f b e = not_lt p l b.0 e

not_strays : (shapes : ℕ → Option PlainShape) (i : Instr) (p : ℕ) (s : PlainShape) → fits s i ≡ true
    → IfSome (forward i s) (λ to. (p < to.0) × (shapes to.0 ≡ Some to.1)) → IfSome (back i s) (λ to. (to.0 ≤ p) × (shapes to.0 ≡ Some to.1)) → strays i p ≡ true
    → ⊥
not_strays shapes (I.Mark l) p s f g b e = not_le l p g.0 e
not_strays shapes (I.Goto l) p s f g b e = not_le l p g.0 e
not_strays shapes (I.Init l) p s f g b e = not_le l p g.0 e
not_strays shapes (I.Create l) p s f g b e = not_le l p g.0 e
not_strays shapes (I.Loop l) p s f g b e = not_lt p l b.0 e
not_strays shapes (I.Chfail l) p s f g b e = chfail_stays shapes l p s.in_create s.inner s.outer f b e
not_strays shapes i p s f g b e = false_is_not_true e

module _ (code : List Instr) (shapes : ℕ → Option PlainShape) (v : V.HasShapes code shapes) where
  lead : (i : Instr) (q : ℕ) (s : PlainShape) (p : ℕ) (t : PlainShape) → IfSome (next i q s) (λ to. shapes to.0 ≡ Some to.1)
      → IfSome (forward i s) (λ to. (q < to.0) × (shapes to.0 ≡ Some to.1)) → (next i q s ≡ Some (p, t)) ⊎ (forward i s ≡ Some (p, t)) → shapes p ≡ Some t
  lead i q s p t f g (inl e) = if_some (next i q s) (λ to. shapes to.0 ≡ Some to.1) f e
  lead i q s p t f g (inr e) = (if_some (forward i s) (λ to. (q < to.0) × (shapes to.0 ≡ Some to.1)) g e).1

  step : (q : ℕ) (s : PlainShape) (p : ℕ) (t : PlainShape) → V.IsFine code shapes q s → Carries code q s p t → shapes p ≡ Some t
  step q s p t f c =
      lead f.instr q s p t f.on f.onward (subst (λ i. (next i q s ≡ Some (p, t)) ⊎ (forward i s ≡ Some (p, t))) (some_is (sym c.stands ∙ f.stands)) c.leads)

  pub reached : {p : ℕ} {t : PlainShape} → Reaches code p t → shapes p ≡ Some t
  reached starts = v.start
  reached (goes q s p t r c) = step q s p t (v.each q s (reached r)) c

  pub nearly : (p : ℕ) (rule : Rule) → Breaks code p rule → LacksShape code p
  nearly p V1 b = let f = v.each p b.shape (reached b.met.reaches) in absurd (no_lack (lacks f.instr b.shape)
      (meets (row_of f.instr).asks (look_of b.shape)) f.fit (ap (λ i. lacks i b.shape) (some_is (sym f.stands ∙ b.met.stands)) ∙ b.lacking))
  nearly p V2 (inl b) = absurd (b.differ (some_is (sym (reached b.reaches) ∙ reached b.reaches_too)))
  nearly p V2 (inr b) = b
  nearly p V3 b = let f = v.each p b.shape (reached b.met.reaches) in
      absurd (not_strays shapes f.instr p b.shape f.fit f.onward f.backward (ap (λ i. strays i p) (some_is (sym f.stands ∙ b.met.stands)) ∙ b.straying))
  nearly p V4 b = let f = v.each p b.shape (reached b.met.reaches) in absurd (no_miss (lacks f.instr b.shape) (meets (row_of f.instr).asks (look_of b.shape))
      f.fit (ap (λ i. meets (row_of i).asks (look_of b.shape)) (some_is (sym f.stands ∙ b.met.stands)) ∙ b.unmet))
  nearly p V5 b = let f = v.each p b.shape (reached b.reaches) in absurd (no_none (sym f.stands ∙ ap (λ q. slice_get code q) b.ends ∙ at_end code))
  nearly p rule b = absurd b
