-- Runs at the ends of a text.
use Rattle.std.proofs.Common.{◌≡◌, ℕ, ◌+◌, ◌<◌, ◌≤◌, zero, suc, Bool, true, false, cond, ◌&&◌, List, [], ◌∷◌, ◌++◌, length, take, drop, get_or, reverse, refl, sym, ap, ◌∙◌, arith}
use Rattle.std.specs.List.{prefix_len, list_all}
use Rattle.std.proofs.lemmas.List.{reverse-append, reverse-reverse}
use Rattle.std.proofs.Common.{None, Some}
use Rattle.std.specs.Str.{is_utf8}
use Rattle.std.proofs.lemmas.Bool.{cond-true, cond-false, false_from_ne_true}
use Rattle.icn_prep.specs.Operands.{file_name}
use Rattle.icn_tree.specs.Characters.{is_blank}
use Rattle.icn_prep.specs.Words.{trimmed_start, trimmed_end}

start_by : (b : ℕ) (rest : List ℕ) (blank : Bool) → blank ≡ true → drop (cond blank (1 + prefix_len is_blank rest) 0) (b ∷ rest) ≡ trimmed_start rest
start_by b rest blank h = rw h (let same : 1 + prefix_len is_blank rest ≡ suc (prefix_len is_blank rest) = omega arith in rw same refl)

start_blank : (b : ℕ) (rest : List ℕ) → is_blank b ≡ true → trimmed_start (b ∷ rest) ≡ trimmed_start rest
start_blank b rest h = start_by b rest (is_blank b) h

start_kept_by : (b : ℕ) (rest : List ℕ) (blank : Bool) → blank ≡ false → drop (cond blank (1 + prefix_len is_blank rest) 0) (b ∷ rest) ≡ b ∷ rest
start_kept_by b rest blank h = rw h refl

start_kept : (b : ℕ) (rest : List ℕ) → is_blank b ≡ false → trimmed_start (b ∷ rest) ≡ b ∷ rest
start_kept b rest h = start_kept_by b rest (is_blank b) h

-- a blank at the end is dropped
pub end_blank : (text front : List ℕ) (b : ℕ) → text ≡ front ++ b ∷ [] → is_blank b ≡ true → trimmed_end front ≡ trimmed_end text
end_blank text front b is h =
    let back : reverse text ≡ b ∷ reverse front = ap reverse is ∙ reverse-append front (b ∷ []) in
    sym (ap (λ (xs : List ℕ). reverse (trimmed_start xs)) back ∙ ap reverse (start_blank b (reverse front) h))

-- another byte stays
pub end_kept : (text front : List ℕ) (b : ℕ) → text ≡ front ++ b ∷ [] → is_blank b ≡ false → trimmed_end text ≡ text
end_kept text front b is h =
    let back : reverse text ≡ b ∷ reverse front = ap reverse is ∙ reverse-append front (b ∷ []) in
    ap (λ (xs : List ℕ). reverse (trimmed_start xs)) back ∙ (ap reverse (start_kept b (reverse front) h) ∙ (ap reverse (sym back) ∙ reverse-reverse text))

-- every byte before the n-th passes
pub all_before : (p : ℕ → Bool) (xs : List ℕ) (n : ℕ) → ((k : ℕ) → k < n → p (get_or xs k 0) ≡ true) → n ≤ length xs → list_all p (take n xs) ≡ true
all_before p xs zero h l = refl
all_before p [] (suc n) h l = refl
all_before p (x ∷ xs) (suc n) h l =
    let first : p x ≡ true = h 0 (omega arith) in
    rw (first, all_before p xs n (λ k g. h (suc k) (omega arith)) (omega arith)) refl

front_step : (p : ℕ → Bool) (x : ℕ) (xs : List ℕ) (k : ℕ) (b : Bool) → p x ≡ b → suc k ≤ cond b (1 + prefix_len p xs) 0
    → (k ≤ prefix_len p xs → list_all p (take k xs) ≡ true) → (p x && list_all p (take k xs)) ≡ true
front_step p x xs k true e h rest = rw (e, rest (omega arith)) refl
front_step p x xs k false e h rest = absurd (omega arith)

-- the bytes up to the first that fails pass
pub front_passes : (p : ℕ → Bool) (xs : List ℕ) (k : ℕ) → k ≤ prefix_len p xs → list_all p (take k xs) ≡ true
front_passes p xs zero h = refl
front_passes p [] (suc k) h = refl
front_passes p (x ∷ xs) (suc k) h = front_step p x xs k (p x) refl h (front_passes p xs k)

-- text that is not empty is a file's name, and other bytes are none
pub named_file : (name found : List ℕ) → 0 < length name → found ≡ name → is_utf8 name ≡ true → Some found ≡ file_name name
named_file [] found l is h = absurd (omega arith)
named_file (b ∷ rest) found l is h = ap Some is ∙ sym (cond-true (is_utf8 (b ∷ rest)) (Some (b ∷ rest)) None h)

pub unnamed_file : (name : List ℕ) → (is_utf8 name ≡ true → ⊥) → None ≡ file_name name
unnamed_file [] h = refl
unnamed_file (b ∷ rest) h = sym (cond-false (is_utf8 (b ∷ rest)) (Some (b ∷ rest)) None (false_from_ne_true (is_utf8 (b ∷ rest)) h))
