-- The forms that have labels of their own: what a form gives, by what its parts give.
use Rattle.std.proofs.Common.{◌≡◌, ℕ, ◌+◌, List, [], ◌∷◌, ◌++◌, Some, refl, ap, ◌∙◌, arith}
use Rattle.icn_code.specs.declared.instr.Instr.{Instr}
use Rattle.icn_code.specs.declared.instr.Instr.TheVariants as I
use Rattle.icn_unit.specs.declared.unit.UnitInstr.TheVariants as U
use Rattle.icn_translate.specs.Drafts.{Draft, ◌▹◌, put, with_label, next_label}
use Rattle.icn_translate.specs.Translation.{put_mark, bounded_code, created_behind, create_code, alternative, prefix_by, plain_form}
use Rattle.icn_translate.specs.declared.forms.InfixForm.TheVariants.{Either}
use Rattle.icn_translate.specs.declared.forms.PrefixForm.TheVariants.{Repetition}
use Rattle.icn_link.specs.Resolving.{Scope}
use Rattle.law_simulation.specs.Translation as X
use Rattle.law_link.proofs.CodeSteps.{Gives, no_facts, gives_nothing, gives_instruction, ◌⨾◌, numbered_then, placed_then, then_placed, given_numbered}

module _ {S : Scope} {F : List (List ℕ)} {W : List X.LoopExits} {E : List ℕ} where
  pub bounded_gives : {s : Draft → Draft} {n : ℕ} {c : ℕ → List Instr} → Gives S F W E s n c no_facts
      → Gives S F W E (bounded_code s) (n + 2) (λ p. I.Mark (p + n + 2) ∷ c (p + 1) ++ I.Unmark ∷ []) no_facts
  bounded_gives {n = n} {c = c} x =
      given_numbered (λ l. numbered_then (gives_instruction (U.Mark l) refl ⨾ x ⨾ then_placed l (gives_instruction U.Unmark refl))) (omega arith)
      (λ l p f. (let at : S.label l ≡ p + n + 2 = f.1.1.1 ∙ omega arith in ap (λ k. I.Mark k ∷ c (p + 1) ++ I.Unmark ∷ []) at, tt))

  -- behind the first label of a co-expression
  behind_gives : {s : Draft → Draft} {n : ℕ} {c : ℕ → List Instr} (outer : ℕ) → Gives S F W E s n c no_facts
      → Gives S F W E (created_behind outer s) (n + 4) (λ p. I.Mark (p + n + 3) ∷ c (p + 1) ++ (I.Coret ∷ I.Efail ∷ I.Cofail ∷ []))
      (λ p. S.label outer ≡ p + n + 4)
  behind_gives {n = n} {c = c} outer x =
      given_numbered (λ l. numbered_then (gives_instruction (U.Mark l) refl ⨾ x ⨾ gives_instruction U.Coret refl ⨾ gives_instruction U.Efail refl
      ⨾ placed_then l (then_placed outer (gives_instruction U.Cofail refl)))) (omega arith)
      (λ l p f.
      let at : S.label l ≡ p + n + 3 = f.1.1.1.1.0 ∙ omega arith in
      let end : S.label outer ≡ p + n + 4 = f.1.1.1.1.1.1 ∙ omega arith in
      (ap (λ k. I.Mark k ∷ c (p + 1) ++ (I.Coret ∷ I.Efail ∷ I.Cofail ∷ [])) at, end))

  pub created_gives : {s : Draft → Draft} {n : ℕ} {c : ℕ → List Instr} → Gives S F W E s n c no_facts
      → Gives S F W E (create_code s) (n + 5) (λ p. X.create_code p n (c (p + 2))) no_facts
  created_gives {n = n} {c = c} x =
      given_numbered (λ l. numbered_then (gives_instruction (U.Create l) refl ⨾ behind_gives l x)) (omega arith)
      (λ l p f.
      let at : S.label l ≡ p + n + 5 = f.1 ∙ omega arith in
      let first : p + 1 + n + 3 ≡ p + n + 4 = omega arith in
      let begins : p + 1 + 1 ≡ p + 2 = omega arith in (
        ap (λ k. I.Create k ∷ I.Mark (p + 1 + n + 3) ∷ c (p + 1 + 1) ++ (I.Coret ∷ I.Efail ∷ I.Cofail ∷ [])) at
            ∙ ap (λ k. I.Create (p + n + 5) ∷ I.Mark k ∷ c (p + 1 + 1) ++ (I.Coret ∷ I.Efail ∷ I.Cofail ∷ [])) first
            ∙ ap (λ q. X.create_code p n (c q)) begins,
        tt,
      ))

  pub not_gives : {s : Draft → Draft} {n : ℕ} {c : ℕ → List Instr} → Gives S F W E s n c no_facts
      → Gives S F W E (λ d. d ▹ put_mark ▹ s ▹ put U.Unmark ▹ put U.Efail ▹ put (U.Lab (next_label d)) ▹ put U.Pnull) (n + 4)
      (λ p. I.Mark (p + n + 3) ∷ c (p + 1) ++ (I.Unmark ∷ I.Efail ∷ I.Pnull ∷ [])) no_facts
  not_gives {n = n} {c = c} x =
      given_numbered (λ l. numbered_then (gives_instruction (U.Mark l) refl ⨾ x ⨾ gives_instruction U.Unmark refl ⨾ gives_instruction U.Efail refl
      ⨾ placed_then l (gives_instruction U.Pnull refl))) (omega arith)
      (λ l p f. (let at : S.label l ≡ p + n + 3 = f.1.1.1.1.0 ∙ omega arith in ap (λ k. I.Mark k ∷ c (p + 1) ++ (I.Unmark ∷ I.Efail ∷ I.Pnull ∷ [])) at, tt))

  pub return_gives : {s : Draft → Draft} {n : ℕ} {c : ℕ → List Instr} → Gives S F W E s n c no_facts
      → Gives S F W E (λ d. d ▹ put_mark ▹ s ▹ put U.Pret ▹ put (U.Lab (next_label d)) ▹ put U.Pfail) (n + 3)
      (λ p. I.Mark (p + n + 2) ∷ c (p + 1) ++ (I.Pret ∷ I.Pfail ∷ [])) no_facts
  return_gives {n = n} {c = c} x =
      given_numbered (λ l. numbered_then (gives_instruction (U.Mark l) refl ⨾ x ⨾ gives_instruction U.Pret refl
      ⨾ placed_then l (gives_instruction U.Pfail refl))) (omega arith)
      (λ l p f. (let at : S.label l ≡ p + n + 2 = f.1.1.1.0 ∙ omega arith in ap (λ k. I.Mark k ∷ c (p + 1) ++ (I.Pret ∷ I.Pfail ∷ [])) at, tt))

  pub repetition_gives : (operand : Draft → Draft) {s : Draft → Draft} {n : ℕ} {c : ℕ → List Instr} → Gives S F W E s n c no_facts
      → Gives S F W E (prefix_by (Some Repetition) operand s) (n + 3) (λ p. I.Mark0 ∷ c (p + 1) ++ (I.Chfail p ∷ I.Esusp ∷ [])) no_facts
  repetition_gives operand {n = n} {c = c} x =
      given_numbered (λ l. numbered_then (placed_then l (gives_instruction U.Mark0 refl ⨾ x ⨾ gives_instruction (U.Chfail l) refl
      ⨾ gives_instruction U.Esusp refl))) (omega arith)
      (λ l p f. (ap (λ k. I.Mark0 ∷ c (p + 1) ++ (I.Chfail k ∷ I.Esusp ∷ [])) f.0, tt))

  alternative_gives : {b : Draft → Draft} {m : ℕ} {c : ℕ → List Instr} (label : ℕ) → Gives S F W E b m c no_facts
      → Gives S F W E (alternative b label) (m + 1) (λ p. I.Goto (p + m + 1) ∷ c (p + 1)) (λ p. S.label label ≡ p + 1)
  alternative_gives {m = m} {c = c} label y =
      given_numbered (λ l. numbered_then (gives_instruction (U.Goto l) refl ⨾ placed_then label (then_placed l y))) (omega arith)
      (λ l p f. (let at : S.label l ≡ p + m + 1 = f.1.1.1 ∙ omega arith in ap (λ k. I.Goto k ∷ c (p + 1)) at, f.1.0))

  pub either_gives : (left : Draft → Draft) {a b : Draft → Draft} {m n : ℕ} {c k : ℕ → List Instr} → Gives S F W E a m c no_facts → Gives S F W E b n k no_facts
      → Gives S F W E (plain_form (Some Either) left a b) (m + n + 3)
      (λ p. I.Mark (p + m + 3) ∷ c (p + 1) ++ (I.Esusp ∷ I.Goto (p + m + 3 + n) ∷ k (p + m + 3))) no_facts
  either_gives left {m = m} {n = n} {c = c} {k = k} x y =
      given_numbered (λ l. numbered_then (gives_instruction (U.Mark l) refl ⨾ x ⨾ gives_instruction U.Esusp refl ⨾ alternative_gives l y)) (omega arith)
      (λ l p f.
      let at : S.label l ≡ p + m + 3 = f.1.1.1 ∙ omega arith in
      let end : p + 1 + m + 1 + n + 1 ≡ p + m + 3 + n = omega arith in
      let begins : p + 1 + m + 1 + 1 ≡ p + m + 3 = omega arith in (
        ap (λ q. I.Mark q ∷ c (p + 1) ++ (I.Esusp ∷ I.Goto (p + 1 + m + 1 + n + 1) ∷ k (p + 1 + m + 1 + 1))) at
            ∙ ap (λ q. I.Mark (p + m + 3) ∷ c (p + 1) ++ (I.Esusp ∷ I.Goto q ∷ k (p + 1 + m + 1 + 1))) end
            ∙ ap (λ q. I.Mark (p + m + 3) ∷ c (p + 1) ++ (I.Esusp ∷ I.Goto (p + m + 3 + n) ∷ k q)) begins,
        tt,
      ))

  pub branches_give : {s a b : Draft → Draft} {i m n : ℕ} {c k q : ℕ → List Instr} → Gives S F W E s i c no_facts → Gives S F W E a m k no_facts
      → Gives S F W E b n q no_facts
      → Gives S F W E (λ d. d ▹ put_mark ▹ s ▹ put U.Unmark ▹ a ▹ alternative b (next_label d)) (i + m + n + 3)
      (λ p. I.Mark (p + (i + m) + 3) ∷ c (p + 1) ++ (I.Unmark ∷ k (p + i + 2) ++ I.Goto (p + (i + m) + 3 + n) ∷ q (p + (i + m) + 3))) no_facts
  branches_give {i = i} {m = m} {n = n} {c = c} {k = k} {q = q} x y z =
      given_numbered (λ l. numbered_then (gives_instruction (U.Mark l) refl ⨾ x ⨾ gives_instruction U.Unmark refl ⨾ y ⨾ alternative_gives l z)) (omega arith)
      (λ l p f.
      let at : S.label l ≡ p + (i + m) + 3 = f.1.1.1.1 ∙ omega arith in
      let second : p + 1 + i + 1 ≡ p + i + 2 = omega arith in
      let end : p + 1 + i + 1 + m + n + 1 ≡ p + (i + m) + 3 + n = omega arith in
      let begins : p + 1 + i + 1 + m + 1 ≡ p + (i + m) + 3 = omega arith in (
        ap (λ r. I.Mark r ∷ c (p + 1) ++ (I.Unmark ∷ k (p + 1 + i + 1) ++ I.Goto (p + 1 + i + 1 + m + n + 1) ∷ q (p + 1 + i + 1 + m + 1))) at
            ∙ ap (λ r. I.Mark (p + (i + m) + 3) ∷ c (p + 1) ++ (I.Unmark ∷ k r ++ I.Goto (p + 1 + i + 1 + m + n + 1) ∷ q (p + 1 + i + 1 + m + 1))) second
            ∙ ap (λ r. I.Mark (p + (i + m) + 3) ∷ c (p + 1) ++ (I.Unmark ∷ k (p + i + 2) ++ I.Goto r ∷ q (p + 1 + i + 1 + m + 1))) end
            ∙ ap (λ r. I.Mark (p + (i + m) + 3) ∷ c (p + 1) ++ (I.Unmark ∷ k (p + i + 2) ++ I.Goto (p + (i + m) + 3 + n) ∷ q r)) begins,
        tt,
      ))

  -- a label that nothing goes to
  pub lone_label_gives : Gives S F W E (λ d. d ▹ with_label ▹ put (U.Lab (next_label d))) 0 (λ p. []) no_facts
  lone_label_gives = given_numbered (λ l. numbered_then (then_placed l gives_nothing)) refl (λ l p f. (refl, tt))

  -- the expression of `initial`
  pub initial_gives : {s : Draft → Draft} {n : ℕ} {c : ℕ → List Instr} → Gives S F W E s n c no_facts
      → Gives S F W E (λ d. d ▹ with_label ▹ put (U.Init (next_label d)) ▹ put (U.Mark (next_label d)) ▹ s ▹ put U.Unmark ▹ put (U.Lab (next_label d))) (n + 3)
      (λ p. I.Init (p + n + 3) ∷ I.Mark (p + n + 3) ∷ c (p + 2) ++ I.Unmark ∷ []) no_facts
  initial_gives {n = n} {c = c} x =
      given_numbered (λ l. numbered_then (gives_instruction (U.Init l) refl ⨾ gives_instruction (U.Mark l) refl ⨾ x
      ⨾ then_placed l (gives_instruction U.Unmark refl))) (omega arith)
      (λ l p f.
      let at : S.label l ≡ p + n + 3 = f.1.1.1.1 ∙ omega arith in
      let begins : p + 1 + 1 ≡ p + 2 = omega arith in
      (ap (λ k. I.Init k ∷ I.Mark k ∷ c (p + 1 + 1) ++ I.Unmark ∷ []) at ∙ ap (λ q. I.Init (p + n + 3) ∷ I.Mark (p + n + 3) ∷ c q ++ I.Unmark ∷ []) begins, tt))
