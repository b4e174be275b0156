-- What a look into the store means for the lines.
use Rattle.std.proofs.Common.{◌≡◌, ℕ, ◌-◌, ◌<◌, ◌≤◌, zero, suc, min, true, nat_lt, List, length, take, Option, None, Some, Result, Ok, Err, refl, sym, ap, ◌∙◌, arith, ◌⊎◌, inl, inr, subst}
use Rattle.std.specs.Prelude.{IfSome, MatchResult, IfOk, IfErr, Vec}
use Rattle.std.proofs.lemmas.Bool.{cond-true}
use Rattle.std.proofs.lemmas.Bool.Decides.{nat_tests}
use Rattle.std.proofs.lemmas.Option.{none-some, same_Some}
use Rattle.std.proofs.lemmas.List.{length-take, take_all}
use Rattle.icn_host.specs.FileMaps.{FileMap}
use Rattle.icn_tree.specs.declared.rule.Rule.TheVariants.{P6, P9}
use Rattle.icn_prep.specs.declared.fault.PrepFault.{PrepFault}
use Rattle.icn_prep.specs.declared.fault.PrepFault.TheVariants.{Broken, NoMemory}
use Rattle.icn_prep.specs.Answers.{IsAnswer}
use Rattle.icn_prep.specs.Cursors.{Cursor}
use Rattle.icn_prep.specs.SourceLines.{LineState, Preprocessed, name_at, refuse, unless_long, named_file, include_file, include_found, too_deep}

pub if_some_weaker : {X : Type 0} (o : Option X) {P Q : X → Type 0} → ((x : X) → P x → Q x) → IfSome o P → IfSome o Q
if_some_weaker None h p = p
if_some_weaker (Some x) h p = h x p

-- what not_longer says of the content that was read
pub record Kept {Z : Type 0} (name content : List ℕ) (result : Result (Vec ℕ Z) PrepFault) : Type 0 where
  pub ok : IfOk result (λ whole. (whole.items ≡ content) × (length content ≤ 16777216))
  pub err : IfErr result (λ fault. (fault ≡ NoMemory) ⊎ ((16777216 < length content) × (fault ≡ Broken P9 name 0)))

whole_file : (bytes content : List ℕ) → content ≡ take 16777217 bytes → length content ≤ 16777216 → bytes ≡ content
whole_file bytes content is l =
    let len : length content ≡ min 16777217 (length bytes) = ap length is ∙ length-take 16777217 bytes in
    sym (is ∙ take_all 16777217 bytes (omega arith))

long_file : (bytes content : List ℕ) → content ≡ take 16777217 bytes → 16777216 < length content → nat_lt 16777216 (length bytes) ≡ true
long_file bytes content is l =
    let len : length content ≡ min 16777217 (length bytes) = ap length is ∙ length-take 16777217 bytes in
    let long : 16777216 < length bytes = omega arith in
    grind (arith, nat_tests)

-- a file that is there, by what comes of its content
pub answers : {Z : Type 0} (files : FileMap) (name content : List ℕ) (result : Result (Vec ℕ Z) PrepFault) (outcome inner : Preprocessed) (bytes : List ℕ)
    → files name ≡ Some bytes → content ≡ take 16777217 bytes
    → outcome ≡ unless_long name bytes inner → Kept name content result → MatchResult result (λ c. files name ≡ Some c.items) (IsAnswer outcome)
answers files name content (Ok whole) outcome inner bytes there is o kept = there ∙ ap Some (whole_file bytes content is (kept.ok).1 ∙ sym (kept.ok).0)
answers files name content (Err fault) outcome inner bytes there is o kept = by kept.err
  where
    by : (fault ≡ NoMemory) ⊎ ((16777216 < length content) × (fault ≡ Broken P9 name 0)) → IsAnswer outcome fault
    by (inl e) = inl (inr e)
    by (inr e) = inr (o ∙ (cond-true (nat_lt 16777216 (length bytes)) _ _ (long_file bytes content is e.0) ∙ ap Err (sym e.1)))

-- the named file is there
pub named_there : (files : FileMap) (name bytes : List ℕ) → files name ≡ Some bytes
    → (inner : Preprocessed) × (named_file files name (files name) ≡ unless_long name bytes inner)
named_there files name bytes there = (_, ap (named_file files name) there)

-- an included file is there, and not too deep
pub included_there : (files : FileMap) (depth : ℕ) (name bytes : List ℕ) (s : LineState) (cursor : Cursor) → depth < 32 → files name ≡ Some bytes
    → (inner : Preprocessed) × (include_file files (32 - depth) name s cursor ≡ unless_long name bytes inner)
included_there files depth name bytes s cursor l there =
    let level : 32 - depth ≡ suc (31 - depth) = omega arith in
    (_, ap (λ n. include_file files n name s cursor) level ∙ ap (include_found (include_file files (31 - depth)) name s cursor) there)

absent_by : (files : FileMap) (n : ℕ) (name : List ℕ) (s : LineState) (cursor : Cursor) → files name ≡ None
    → include_file files n name s cursor ≡ refuse s cursor P6
absent_by files zero name s cursor none = ap (too_deep name s cursor) none
absent_by files (suc n) name s cursor none = ap (include_found (include_file files n) name s cursor) none

-- an included file is not there
pub absent_answers : (files : FileMap) (n : ℕ) (name : List ℕ) (s : LineState) (cursor : Cursor) (fault : PrepFault) → files name ≡ None
    → (fault ≡ NoMemory) ⊎ (fault ≡ Broken P6 (name_at s cursor.file) cursor.line)
    → IsAnswer (include_file files n name s cursor) fault
absent_answers files n name s cursor fault none (inl e) = inl (inr e)
absent_answers files n name s cursor fault none (inr e) = inr (absent_by files n name s cursor none ∙ ap Err (sym e))

pub if_some_told : {X : Type 0} (o : Option X) (Q : X → Type 0) → ((x : X) → o ≡ Some x → Q x) → IfSome o Q
if_some_told None Q h = tt
if_some_told (Some x) Q h = h x refl

pub some_of : {X : Type 0} (o : Option X) (x : X) (P : X → Type 0) → o ≡ Some x → IfSome o P → P x
some_of None x P is h = absurd (none-some x is)
some_of (Some y) x P is h = subst P (same_Some y x is) h
