-- How long lines are.
use Rattle.std.proofs.Common.{◌≡◌, ℕ, ◌+◌, ◌≤◌, List, [], ◌∷◌, ◌++◌, length, refl, ap, ◌∙◌, arith, Bool, true, false, ◌&&◌, nat_lt, sym, add_assoc}
use Rattle.std.proofs.lemmas.Bool.{false≢true}
use Rattle.std.proofs.lemmas.Bool.Decides.{nat_tests}
use Rattle.std.proofs.lemmas.List.Sums.{sum_by-append}
use Rattle.icn_tree.specs.declared.lines.SourceLine.{SourceLine}
use Rattle.icn_tree.specs.SourceTexts.{joined_len, names_files}
use Rattle.icn_prep.specs.LineLengths.{ended_len}

ended_front : (a : SourceLine) (lines : List SourceLine) → ended_len (a ∷ lines) ≡ length a.bytes + 1 + ended_len lines
ended_front a lines =
    let parts : ended_len (a ∷ lines) ≡ 0 + (length a.bytes + 1) + ended_len lines = sum_by-append (λ line. length line.bytes + 1) (a ∷ []) lines in
    omega (arith, parts)

-- one line more, before which each has a newline behind it
pub joined_more : (lines : List SourceLine) (line : SourceLine) → joined_len (lines ++ line ∷ []) ≡ ended_len lines + length line.bytes
joined_more [] line = omega arith
joined_more (a ∷ []) line = omega (arith, ended_front a [])
joined_more (a ∷ b ∷ lines) line = ap (λ n. length a.bytes + 1 + n) (joined_more (b ∷ lines) line) ∙ omega (arith, ended_front a (b ∷ lines))

both_stay : {p q : Bool} (a b : Bool) → (a ≡ true → b ≡ true) → (a && p) ≡ true → (p ≡ true → q ≡ true) → (b && q) ≡ true
both_stay true b here h rest = rw (here refl, rest h) refl
both_stay false b here h rest = absurd (false≢true h)

-- names that come later leave lines their files
pub files_stay : (names more : List (List ℕ)) (lines : List SourceLine) → names_files names lines ≡ true → length names ≤ length more
    → names_files more lines ≡ true
files_stay names more [] h l = refl
files_stay names more (line ∷ lines) h l =
    both_stay (nat_lt line.file (length names)) (nat_lt line.file (length more)) (λ e. grind (arith, nat_tests)) h (λ g. files_stay names more lines g l)

-- joined by one newline they have one byte less
joined_front : (a : SourceLine) (lines : List SourceLine) → joined_len (a ∷ lines) + 1 ≡ ended_len (a ∷ lines)
joined_front a [] = omega (arith, ended_front a [])
joined_front a (b ∷ lines) =
    add_assoc (length a.bytes + 1) (joined_len (b ∷ lines)) 1 ∙ (ap (λ n. length a.bytes + 1 + n) (joined_front b lines) ∙ sym (ended_front a (b ∷ lines)))

pub joined_within : (lines : List SourceLine) (size : ℕ) → size ≡ ended_len lines → size ≤ 16777217 → joined_len lines ≤ 16777216
joined_within [] size is l = omega arith
joined_within (a ∷ lines) size is l = omega (arith, joined_front a lines)
