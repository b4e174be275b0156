-- Words without blanks and newlines, and lines of them.
use Rattle.std.proofs.Common.{◌==◌, ◌≡◌, ℕ, ◌+◌, ◌≤◌, suc, Bool, true, false, cond, ◌&&◌, List, [], ◌∷◌, ◌++◌, take, drop, Option, None, Some, Result, Ok, refl, sym, ◌∙◌, ap, subst, arith, append_assoc, append-nil}
use Rattle.std.specs.List.{prefix_len, list_all, flat_map}
use Rattle.std.proofs.lemmas.Bool.{cond-true, cond-false, false≢true, ne_eqb}
use Rattle.std.proofs.lemmas.Bool.Decides.{nat_tests}
use Rattle.icn_tree.specs.declared.rule.Rule.{Rule}
use Rattle.icn_tree.specs.Characters.{begins_identifier, continues_identifier}
use Rattle.icn_unit.specs.OperandViews.{is_in_line}
use Rattle.icn_unit.specs.UnitOperands.{behind, first_field, is_inside, is_name}
use Rattle.icn_ucode.specs.UnitReading.{each_line, then_step}
use Rattle.icn_ucode.proofs.ListTests.{and_intro, and_parts}

-- neither a blank nor a newline
abbrev pub is_word_byte : ℕ → Bool
is_word_byte b = is_inside b && is_in_line b

abbrev pub is_clean : List ℕ → Bool
is_clean text = list_all is_word_byte text

abbrev pub in_line : List ℕ → Bool
in_line text = list_all is_in_line text

-- Bytes of words

no_other : (b n : ℕ) → (b == n) ≡ false → cond (b == n) false true ≡ true
no_other b n e = ap (λ test. cond test false true) e

pub word_byte : (b : ℕ) → 33 ≤ b → is_word_byte b ≡ true
word_byte b h =
    and_intro (is_inside b) (is_in_line b) (no_other b 32 (ne_eqb b 32 (λ e. omega (arith, h)))) (no_other b 10 (ne_eqb b 10 (λ e. omega (arith, h))))

begins_word : (b : ℕ) → begins_identifier b ≡ true → 33 ≤ b
begins_word b h = grind (arith, nat_tests)

continues_word : (b : ℕ) → continues_identifier b ≡ true → 33 ≤ b
continues_word b h = grind (arith, nat_tests)

pub all_weaker : {A : Type 0} (p q : A → Bool) (xs : List A) → ((x : A) → p x ≡ true → q x ≡ true) → list_all p xs ≡ true → list_all q xs ≡ true
all_weaker p q [] weaker h = refl
all_weaker p q (x ∷ xs) weaker h =
    let parts = and_parts (p x) (list_all p xs) h in and_intro (q x) (list_all q xs) (weaker x parts.0) (all_weaker p q xs weaker parts.1)

pub all_of_both : {A : Type 0} (p : A → Bool) (xs ys : List A) → list_all p xs ≡ true → list_all p ys ≡ true → list_all p (xs ++ ys) ≡ true
all_of_both p [] ys h g = g
all_of_both p (x ∷ xs) ys h g = let parts = and_parts (p x) (list_all p xs) h in and_intro (p x) (list_all p (xs ++ ys)) parts.0 (all_of_both p xs ys parts.1 g)

pub name_clean : (name : List ℕ) → is_name name ≡ true → is_clean name ≡ true
name_clean [] h = refl
name_clean (b ∷ rest) h =
    let firsts = and_parts (begins_identifier b && list_all continues_identifier rest) _ h in
    let parts = and_parts (begins_identifier b) (list_all continues_identifier rest) firsts.0 in
    and_intro (is_word_byte b) (is_clean rest) (word_byte b (begins_word b parts.0))
    (all_weaker continues_identifier is_word_byte rest (λ c t. word_byte c (continues_word c t)) parts.1)

pub clean_in_line : (text : List ℕ) → is_clean text ≡ true → in_line text ≡ true
clean_in_line text h = all_weaker is_word_byte is_in_line text (λ b t. (and_parts (is_inside b) (is_in_line b) t).1) h

-- Words of a line

cut_more : (b : ℕ) (text : List ℕ) → is_inside b ≡ true → first_field (b ∷ text) ≡ (b ∷ (first_field text).0, (first_field text).1)
cut_more b text h =
    let one : cond (is_inside b) (1 + prefix_len is_inside text) 0 ≡ suc (prefix_len is_inside text) = cond-true (is_inside b) _ _ h ∙ omega arith in
    ap (λ count. (take count (b ∷ text), behind (drop count (b ∷ text)))) one

pub cut_word : (word rest : List ℕ) → is_clean word ≡ true → first_field (word ++ 32 ∷ rest) ≡ (word, Some rest)
cut_word [] rest h = refl
cut_word (b ∷ word) rest h =
    let parts = and_parts (is_word_byte b) (is_clean word) h in
    cut_more b (word ++ 32 ∷ rest) (and_parts (is_inside b) (is_in_line b) parts.0).0
    ∙ ap (λ (p : List ℕ × Option (List ℕ)). (b ∷ p.0, p.1)) (cut_word word rest parts.1)

pub cut_last : (word : List ℕ) → is_clean word ≡ true → first_field word ≡ (word, None)
cut_last [] h = refl
cut_last (b ∷ word) h =
    let parts = and_parts (is_word_byte b) (is_clean word) h in
    cut_more b word (and_parts (is_inside b) (is_in_line b) parts.0).0 ∙ ap (λ (p : List ℕ × Option (List ℕ)). (b ∷ p.0, p.1)) (cut_last word parts.1)

-- Lines that lead from a state to another

abbrev pub Leads : {S : Type 0} → (S → List ℕ → Result S Rule) → S → List ℕ → S → Type 0
Leads step from text to = (rest : List ℕ) → each_line step from [] (text ++ rest) ≡ each_line step to [] rest

line_read : {S : Type 0} (step : S → List ℕ → Result S Rule) (state : S) (front line rest : List ℕ) → in_line line ≡ true
    → each_line step state front (line ++ 10 ∷ rest) ≡ then_step (step state (front ++ line)) (λ next. each_line step next [] rest)
line_read step state front [] rest h = ap (λ line. then_step (step state line) (λ next. each_line step next [] rest)) (sym (append-nil front))
line_read step state front (b ∷ line) rest h =
    let parts = and_parts (is_in_line b) (in_line line) h in
    cond-false (b == 10) _ _ (inside (b == 10) parts.0) ∙ (line_read step state (front ++ b ∷ []) line rest parts.1
    ∙ ap (λ line. then_step (step state line) (λ next. each_line step next [] rest)) (append_assoc front (b ∷ []) line)) where
      inside : (test : Bool) → cond test false true ≡ true → test ≡ false
      inside true h = absurd (false≢true h)
      inside false h = refl

pub line_leads : {S : Type 0} (step : S → List ℕ → Result S Rule) (from to : S) (line : List ℕ) → in_line line ≡ true → step from line ≡ Ok to
    → Leads step from (line ++ 10 ∷ []) to
line_leads step from to line h e rest =
    ap (λ text. each_line step from [] text) (append_assoc line (10 ∷ []) rest)
    ∙ (line_read step from [] line rest h ∙ ap (λ found. then_step found (λ next. each_line step next [] rest)) e)

pub leads_then : {S : Type 0} (step : S → List ℕ → Result S Rule) (a b c : S) (text more : List ℕ) → Leads step a text b → Leads step b more c
    → Leads step a (text ++ more) c
leads_then step a b c text more first second rest = ap (λ text. each_line step a [] text) (append_assoc text more rest) ∙ (first (more ++ rest) ∙ second rest)

-- one item after the other, where the state is that of the items so far
pub leads_all : {A S : Type 0} (step : S → List ℕ → Result S Rule) (text : A → List ℕ) (at : List A → S) (Good : List A → Type 0)
    → ((done : List A) (x : A) (rest : List A) → Good (done ++ x ∷ rest) → Leads step (at done) (text x) (at (done ++ x ∷ [])))
    → (done rest : List A) → Good (done ++ rest) → Leads step (at done) (flat_map text rest) (at (done ++ rest))
leads_all step text at Good each done [] good = λ rest. ap (λ items. each_line step (at items) [] rest) (sym (append-nil done))
leads_all step text at Good each done (x ∷ more) good =
    let front = each done x more good in
    let same : (done ++ x ∷ []) ++ more ≡ done ++ x ∷ more = append_assoc done (x ∷ []) more in
    let behind = leads_all step text at Good each (done ++ x ∷ []) more (subst Good (sym same) good) in
    leads_then step (at done) (at (done ++ x ∷ [])) (at (done ++ x ∷ more)) (text x) (flat_map text more) front
    (subst (λ items. Leads step (at (done ++ x ∷ [])) (flat_map text more) (at items)) same behind)
