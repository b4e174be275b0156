-- A text line by line.
use Rattle.std.proofs.Common.{◌==◌, ◌≡◌, ℕ, ◌+◌, ◌<◌, suc, Bool, true, false, cond, List, [], ◌∷◌, ◌++◌, length, take, drop, Option, None, Some, Result, Ok, Err, refl, sym, ◌∙◌, ap, arith, append_assoc, append-nil, length-drop}
use Rattle.std.specs.List.{prefix_len}
use Rattle.std.proofs.lemmas.Bool.{cond-false, eqb-true}
use Rattle.icn_tree.specs.declared.rule.Rule.{Rule}
use Rattle.icn_tree.specs.declared.rule.Rule.TheVariants.{U3}
use Rattle.icn_tree.specs.IntegerLiterals.{is_nothing}
use Rattle.icn_unit.specs.OperandViews.{is_in_line}
use Rattle.icn_unit.specs.UnitOperands.{behind}
use Rattle.icn_ucode.specs.UnitReading.{then_step, each_line}

abbrev pub line_length : List ℕ → ℕ
line_length text = prefix_len is_in_line text

line_len_at : (b : ℕ) (text : List ℕ) → (b == 10) ≡ true → line_length (b ∷ text) ≡ 0
line_len_at b text e = ap (λ test. cond (cond test false true) (1 + line_length text) 0) e

line_len_in : (b : ℕ) (text : List ℕ) → (b == 10) ≡ false → line_length (b ∷ text) ≡ suc (line_length text)
line_len_in b text e =
    let more : 1 + line_length text ≡ suc (line_length text) = omega arith in ap (λ test. cond (cond test false true) (1 + line_length text) 0) e ∙ more

some_same : (a b : List ℕ) → ◌≡◌ {A = Option (List ℕ)} (Some a) (Some b) → a ≡ b
some_same a b e = cc

-- what stands behind a line: no newline, or more lines
abbrev pub lines_after : {S : Type 0} → (S → List ℕ → Result S Rule) → Option (List ℕ) → S → Result S Rule
lines_after step None state = Err U3
lines_after step (Some text) state = each_line step state [] text

line_from : {S : Type 0} (step : S → List ℕ → Result S Rule) (state : S) (line text : List ℕ) → is_nothing (line ++ text) ≡ false
    → each_line step state line text
    ≡ then_step (step state (line ++ take (line_length text) text)) (λ next. lines_after step (behind (drop (line_length text) text)) next)
line_from step state line [] h =
    cond-false (is_nothing line) _ _ (ap is_nothing (sym (append-nil line)) ∙ h) ∙ ap (λ l. then_step (step state l) (λ next. Err U3)) (sym (append-nil line))
line_from step state line (b ∷ text) h = by_end (b == 10) refl (line_from step state (line ++ b ∷ []) text) where
  by_end : (test : Bool) → (b == 10) ≡ test
      → (is_nothing ((line ++ b ∷ []) ++ text) ≡ false → each_line step state (line ++ b ∷ []) text
      ≡ then_step (step state ((line ++ b ∷ []) ++ take (line_length text) text)) (λ next. lines_after step (behind (drop (line_length text) text)) next))
      → cond test (then_step (step state line) (λ next. each_line step next [] text)) (each_line step state (line ++ b ∷ []) text)
      ≡ then_step (step state (line ++ take (line_length (b ∷ text)) (b ∷ text)))
      (λ next. lines_after step (behind (drop (line_length (b ∷ text)) (b ∷ text))) next)
  by_end true t more =
      ap (λ l. then_step (step state l) (λ next. each_line step next [] text)) (sym (append-nil line))
      ∙ ap (λ n. then_step (step state (line ++ take n (b ∷ text))) (λ next. lines_after step (behind (drop n (b ∷ text))) next)) (sym (line_len_at b text t))
  by_end false t more =
      more (ap is_nothing (append_assoc line (b ∷ []) text) ∙ h)
      ∙ (ap (λ l. then_step (step state l) (λ next. lines_after step (behind (drop (line_length text) text)) next))
      (append_assoc line (b ∷ []) (take (line_length text) text))
      ∙ ap (λ n. then_step (step state (line ++ take n (b ∷ text))) (λ next. lines_after step (behind (drop n (b ∷ text))) next)) (sym (line_len_in b text t)))

some_bytes : (text : List ℕ) → 0 < length text → is_nothing text ≡ false
some_bytes [] h = absurd (omega arith)
some_bytes (b ∷ text) h = refl

pub line_at : {S : Type 0} (step : S → List ℕ → Result S Rule) (state : S) (text line : List ℕ) (more : Option (List ℕ)) → 0 < length text
    → line ≡ take (line_length text) text → more ≡ behind (drop (line_length text) text)
    → each_line step state [] text ≡ then_step (step state line) (λ next. lines_after step more next)
line_at step state text line more h is e =
    line_from step state [] text (some_bytes text h)
    ∙ (ap (λ l. then_step (step state l) (λ next. lines_after step (behind (drop (line_length text) text)) next)) (sym is)
    ∙ ap (λ m. then_step (step state line) (λ next. lines_after step m next)) (sym e))

pub no_lines_left : {S : Type 0} (step : S → List ℕ → Result S Rule) (state : S) (text : List ℕ) → length text ≡ 0 → each_line step state [] text ≡ Ok state
no_lines_left step state [] h = refl
no_lines_left step state (b ∷ text) h = absurd (omega arith)

behind_shorter : (text rest : List ℕ) → Some rest ≡ behind text → length rest < length text
behind_shorter [] rest e = absurd (cc)
behind_shorter (b ∷ text) rest e = let same : rest ≡ text = some_same rest text e in omega (arith, ap length same)

pub shorter : (text rest : List ℕ) (n : ℕ) → Some rest ≡ behind (drop n text) → length rest < length text
shorter text rest n e = omega (arith, behind_shorter (drop n text) rest e, length-drop n text)

pub some_left : (test : Bool) (text : List ℕ) → test ≡ (length text == 0) → test ≡ false → 0 < length text
some_left test [] e h = absurd (cc)
some_left test (b ∷ text) e h = omega arith

pub none_left : (test : Bool) (text : List ℕ) → test ≡ (length text == 0) → test ≡ true → length text ≡ 0
none_left test text e h = eqb-true (length text) 0 (sym e ∙ h)
