-- The bits of a cset are four words.
use Rattle.std.proofs.Common.{◌≡◌, ℕ, zero, suc, ◌/◌, ◌%◌, ◌^◌, ◌<◌, Bool, true, List, [], ◌∷◌, length, refl, ◌∙◌, arith, eq-eqb}
use Rattle.std.specs.Prelude.{slice_set, slice_index, replicate}
use Rattle.std.specs.Int.Bits.{bit_or}
use Rattle.std.specs.List.{list_all}
use Rattle.std.proofs.lemmas.Bool.{and_parts, lt-ltb, ltb-true}
use Rattle.std.proofs.lemmas.List.{length-set}
use Rattle.std.proofs.lemmas.Nat.{or_lt, pow_below}
use Rattle.icn_code.specs.Rules as Rules
use Rattle.icn_link.specs.Joined.{cset_of, with_bits}
use Rattle.icn_link.proofs.EachOnce.{and_intro}

all_set : (p : ℕ → Bool) (xs : List ℕ) (i x : ℕ) → list_all p xs ≡ true → p x ≡ true → list_all p (slice_set xs i x) ≡ true
all_set p [] i x h k = refl
all_set p (y ∷ ys) zero x h k = and_intro k (and_parts _ _ h).1
all_set p (y ∷ ys) (suc i) x h k = let t = and_parts _ _ h in and_intro t.0 (all_set p ys i x t.1 k)

word_at : (xs : List ℕ) (i : ℕ) → list_all Rules.is_word xs ≡ true → slice_index xs i < 2 ^ 64
word_at [] i h = omega arith
word_at (x ∷ xs) zero h = ltb-true _ _ (and_parts _ _ h).0
word_at (x ∷ xs) (suc i) h = word_at xs i (and_parts _ _ h).1

bits_kept : (words bytes : List ℕ) → length words ≡ 4 → list_all Rules.is_word words ≡ true
    → (length (with_bits words bytes) ≡ 4) × (list_all Rules.is_word (with_bits words bytes) ≡ true)
bits_kept words [] l h = (l, h)
bits_kept words (b ∷ bytes) l h =
    let x = bit_or (slice_index words (b / 64)) (2 ^ (b % 64)) in
    let one : 2 ^ (b % 64) < 2 ^ 64 = pow_below (b % 64) 64 (omega arith) in
    let small : x < 2 ^ 64 = or_lt 64 (slice_index words (b / 64)) (2 ^ (b % 64)) (word_at words (b / 64) h) one in
    bits_kept (slice_set words (b / 64) x) bytes (length-set words (b / 64) x ∙ l) (all_set Rules.is_word words (b / 64) x h (lt-ltb _ _ small))

pub cset_kept : (bytes : List ℕ) → Rules.is_cset (cset_of bytes) ≡ true
cset_kept bytes = let t = bits_kept (replicate 4 0) bytes refl refl in and_intro (eq-eqb _ _ t.0) t.1
