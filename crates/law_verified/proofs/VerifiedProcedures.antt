-- The code of a procedure is verified.
use Rattle.std.proofs.Common.{◌≡◌, ℕ, zero, suc, ◌+◌, true, false, List, [], ◌∷◌, Some, None, refl, sym, ap, ◌∙◌, subst, arith}
use Rattle.std.specs.Prelude.{slice_get, unwrap_or}
use Rattle.std.specs.Option.{option_map}
use Rattle.icn_code.specs.declared.instr.Instr.{Instr}
use Rattle.icn_code.specs.declared.instr.Instr.TheVariants as I
use Rattle.icn_tree.specs.Trees as T
use Rattle.icn_tree.specs.Trees.{Trees, NoTrees, More, Initial, NoInitial, Initially}
use Rattle.law_simulation.specs.Translation.{SymbolTable, size, bounded_size}
use Rattle.law_simulation.specs.Linkage.{Linkage}
use Rattle.law_verified.specs.Noted.{NotedShape, Note, o, more, in_mark, start, code, bounded_notes, body, procedure, instrs}
use Rattle.law_verified.specs.FittingTrees.{FitAll}
use Rattle.law_verified.specs.Verified.{Fine, f_mark, f_unmark, f_init, f_pfail, c_proper, Has, AllFine}
use Rattle.law_verified.specs.TranslationLaws.{FitInitial, At, CodesVerified}
use Rattle.law_verified.proofs.ErasedNotes.{code_length, procedure_noted}
use Rattle.law_verified.proofs.PieceLengths.{bounded_len}
use Rattle.law_verified.proofs.ShapeLemmas.{fine_cut, «at»}
use Rattle.law_verified.proofs.VerifiedTrees.{tree_is_fine}

module _ (A : ℕ → NotedShape → Type 0) (L : Linkage) (j : ℕ) (N : SymbolTable) where
  to : {s : NotedShape} {p : ℕ} (q : ℕ) → A p s → p ≡ q → A q s
  to q h e = «at» A q h e

  moved : (xs : List Note) {p q : ℕ} → p ≡ q → Has A p xs → Has A q xs
  moved xs e h = subst (λ q. Has A q xs) e h

  moved_fine : (xs : List Note) {p q : ℕ} → p ≡ q → AllFine A p xs → AllFine A q xs
  moved_fine xs e h = subst (λ q. AllFine A q xs) e h

  body_fine : (es : Trees) (p p' : ℕ) → p' ≡ p → FitAll L j N [] true es → Has A p' (body N p es) → A p' (start false) × AllFine A p' (body N p es)
  body_fine NoTrees p p' e f h = (h.0, (f_pfail (start false) refl, tt))
  body_fine (More T.Empty es) p p' e f h = body_fine es (p + 0) p' (omega arith) f.1 h
  body_fine (More x es) p p' e f h =
      let k = fine_cut A (bounded_notes N p x) (body N (p + bounded_size x) es) p' (size [] x + 2) (bounded_len N p x) h in
      let m = fine_cut A (code N [] [] (p + 1) (in_mark (start false)) x) (o (more (in_mark (start false))) I.Unmark ∷ []) (suc p') (size [] x)
      (code_length N x [] [] (p + 1) (in_mark (start false))) k.0.1 in
      let u = body_fine es (p + (size [] x + 2)) (p' + (size [] x + 2)) (omega arith) f.1 k.1 in
      let v = tree_is_fine A L j N x (suc p' + size [] x) [] [] [] true (in_mark (start false)) (c_proper (in_mark (start false)) refl) f.0 (p + 1) (suc p')
      (omega arith)
      (omega arith) m.0 m.1.0 in
      (k.0.0, k.2 (f_mark (start false) v.0 (to _ u.0 (omega arith)) (omega arith), m.2 v.1 (f_unmark _ (start false) (to _ u.0 (omega arith)), tt)) u.1)

  procedure_fine : (i : Initial) (es : Trees) → FitInitial L j N i → FitAll L j N [] true es → Has A 0 (procedure N i es)
      → A 0 (start false) × AllFine A 0 (procedure N i es)
  procedure_fine NoInitial es f g h = body_fine es 0 0 refl g h
  procedure_fine (Initially place x) es f g h =
      let k = fine_cut A (code N [] [] 2 (in_mark (start false)) x) (o (more (in_mark (start false))) I.Unmark ∷ body N (size [] x + 3) es) 2 (size [] x)
      (code_length N x [] [] 2 (in_mark (start false))) h.1.1 in
      let u = body_fine es (size [] x + 3) (suc (2 + size [] x)) (omega arith) g k.1.1 in
      let v = tree_is_fine A L j N x (2 + size [] x) [] [] [] true (in_mark (start false)) (c_proper (in_mark (start false)) refl) f 2 2 refl
      (omega arith) k.0 k.1.0 in (
        h.0,
        (
          f_init (start false) refl h.1.0 (to _ u.0 (omega arith)) (omega arith),
          (f_mark (start false) v.0 (to _ u.0 (omega arith)) (omega arith), k.2 v.1 (f_unmark _ (start false) u.0, u.1)),
        ),
      )

-- each place of the list has the shape that is noted
has_all : (A : ℕ → NotedShape → Type 0) (xs : List Note) (p : ℕ) → ((k : ℕ) (x : Note) → slice_get xs k ≡ Some x → A (p + k) x.shape) → Has A p xs
has_all A [] p f = tt
has_all A (x ∷ xs) p f =
    (subst (λ q. A q x.shape) (omega arith) (f 0 x refl), has_all A xs (suc p) (λ k y e. subst (λ q. A q y.shape) (later p k) (f (suc k) y e)))
  where
    later : (p k : ℕ) → p + suc k ≡ suc p + k
    later p k = omega arith

-- what stands at a place of the list is fine
found_fine : (A : ℕ → NotedShape → Type 0) (xs : List Note) (p k : ℕ) (s : NotedShape) → AllFine A p xs → At xs k s
    → (i : Instr) × (slice_get (instrs xs) k ≡ Some i) × Fine A (p + k) i s
found_fine A [] p k s f e = absurd (no_some e)
  where
    no_some : {T : Type 0} {s : T} → None ≡ Some s → ⊥
    no_some e = subst (λ o. elim o as (λ x. Type 0) [ None ↦ Unit {0} | Some y ↦ ⊥ ]) e tt
found_fine A (x ∷ xs) p zero s f e =
    (x.instr, refl, subst (λ q. Fine A q x.instr s) (omega arith) (subst (λ s. Fine A p x.instr s) (ap (λ y. unwrap_or y s) e) f.0))
found_fine A (x ∷ xs) p (suc k) s f e = let r = found_fine A xs (suc p) k s f.1 e in (r.0, r.1, subst (λ q. Fine A q r.0 s) (later p k) r.2)
  where
    later : (p k : ℕ) → suc p + k ≡ p + suc k
    later p k = omega arith

pub codes_verified : CodesVerified
codes_verified L j N i es f g =
    let xs = procedure N i es in
    let r = procedure_fine (At xs) L j N i es f g
    (has_all (At xs) xs 0 (λ k x e. subst (λ q. At xs q x.shape) (sym (zero_more k)) (ap (λ y. option_map (λ (x : Note). x.shape) y) e))) in
    record {
      begins = r.0;
      each = λ p s e. let d = found_fine (At xs) xs 0 p s r.1 e in
          (d.0, ap (λ ys. slice_get ys p) (sym (procedure_noted N i es)) ∙ d.1, subst (λ q. Fine (At xs) q d.0 s) (zero_more p) d.2);
    }
  where
    zero_more : (p : ℕ) → 0 + p ≡ p
    zero_more p = omega arith
