-- A cset is known by its members.
use Rattle.std.proofs.Common.{◌≡◌, ◌∙◌, refl, sym, ap, ℕ, zero, suc, ◌+◌, ◌*◌, ◌/◌, ◌%◌, ◌^◌, ◌<◌, ◌≤◌, ◌==◌, ◌&&◌, ◌||◌, Bool, true, false, cond, true≢false, inl, inr, List, [], ◌∷◌, length, filter, slice_index, arith}
use Rattle.std.specs.List.{All, range_with_len}
use Rattle.std.specs.Int.{bit_at}
use Rattle.std.proofs.lemmas.Bool.{cases_lt}
use Rattle.std.proofs.lemmas.Bool.Decides.{Decides-eqb}
use Rattle.std.proofs.lemmas.Grind.{get_or_default_zero}
use Rattle.std.proofs.lemmas.List.{same_lists}
use Rattle.std.proofs.lemmas.Nat.Bits.{bit_at-lt, same_from_bits_below}
use Rattle.icn_value.specs.Csets.{has}
use Rattle.icn_value.specs.Members.{contains, members, members_of}
use Rattle.icn_value.specs.declared.cset.Cset.{Cset}

tests : (b c q r s : Bool) → (c ≡ true → q ≡ b) → s ≡ (q && r) → cond b (c || s) s ≡ (q && (c || r))
tests true true true r s at here = refl
tests true true false r s at here = absurd (true≢false (sym (at refl)))
tests true false q r s at here = here
tests false true true r s at here = absurd (true≢false (at refl))
tests false true false r s at here = here
tests false false q r s at here = here

kept : (b : Bool) (x n : ℕ) (xs : List ℕ) → contains (cond b (x ∷ xs) xs) n ≡ cond b ((x == n) || contains xs n) (contains xs n)
kept true x n xs = refl
kept false x n xs = refl

none : (b : Bool) → false ≡ (b && false)
none true = refl
none false = refl

-- what passes a test is what is there and passes
pub contains_filter : (test : ℕ → Bool) (xs : List ℕ) (n : ℕ) → contains (filter test xs) n ≡ (test n && contains xs n)
contains_filter test [] n = none (test n)
contains_filter test (x ∷ xs) n =
    kept (test x) x n (filter test xs)
    ∙ tests (test x) (x == n) (test n) (contains xs n) (contains (filter test xs) n)
    (λ same. ap test (sym ((Decides-eqb x n).0 same))) (contains_filter test xs n)

first_or : (b c : Bool) → c ≡ true → (b || c) ≡ true
first_or true c is = refl
first_or false c is = is

in_range : (from count n : ℕ) → from ≤ n → n < from + count → contains (range_with_len from count) n ≡ true
in_range from zero n low high = absurd (omega arith)
in_range from (suc count) n low high =
    elim (cases_lt from n) [
      | inl after ↦ first_or (from == n) (contains (range_with_len (from + 1) count) n) (in_range (from + 1) count n (omega arith) (omega arith))
      | inr here ↦ ap (λ b. b || contains (range_with_len (from + 1) count) n) ((Decides-eqb from n).1 (omega arith))
    ]

and_true : (b c : Bool) → c ≡ true → (b && c) ≡ b
and_true true c is = is
and_true false c is = refl

-- a byte is a member where it passes the test
pub members_pass : (test : ℕ → Bool) (n : ℕ) → n < 256 → contains (members test) n ≡ test n
members_pass test n few = contains_filter test (range_with_len 0 256) n ∙ and_true (test n) _ (in_range 0 256 n (omega arith) (omega arith))

bit_by : (x y : ℕ) → x < 2 → y < 2 → (x == 1) ≡ (y == 1) → x ≡ y
bit_by zero zero few few' same = refl
bit_by zero (suc zero) few few' same = absurd (true≢false (sym same))
bit_by (suc zero) zero few few' same = absurd (true≢false same)
bit_by (suc zero) (suc zero) few few' same = refl
bit_by (suc (suc x)) y few few' same = absurd (omega arith)
bit_by x (suc (suc y)) few few' same = absurd (omega arith)

-- the truth values of two sets are alike where they have the same members
pub has_alike : (a b : Cset) → members_of a ≡ members_of b → (n : ℕ) → n < 256 → has a n ≡ has b n
unfolding members_of
has_alike a b same n few = sym (members_pass (has a) n few) ∙ ap (λ bytes. contains bytes n) same ∙ members_pass (has b) n few

word_alike : (a b : Cset) → members_of a ≡ members_of b → (k : ℕ) → k < 4 → slice_index a.words k < 2 ^ 64 → slice_index b.words k < 2 ^ 64
    → slice_index a.words k ≡ slice_index b.words k
word_alike a b same k few fits fits' =
    same_from_bits_below 64 _ _ fits fits' (λ i below.
    let place : (k * 64 + i) / 64 ≡ k = omega arith in
    let bit : (k * 64 + i) % 64 ≡ i = omega arith in
    let alike : has a (k * 64 + i) ≡ has b (k * 64 + i) = has_alike a b same (k * 64 + i) (omega arith) in
    bit_by (bit_at (slice_index a.words k) i) (bit_at (slice_index b.words k) i) (bit_at-lt _ _) (bit_at-lt _ _) (rw (place, bit) at alike))

-- the words of two sets are the same where they have the same members
pub words_alike : (a b : Cset) → length a.words ≡ 4 → length b.words ≡ 4 → All (λ word. word < 2 ^ 64) a.words → All (λ word. word < 2 ^ 64) b.words
    → members_of a ≡ members_of b → a.words ≡ b.words
words_alike a b size size' bytes bytes' same =
    same_lists a.words b.words (size ∙ sym size') (λ k d few.
    let few' : k < length b.words = omega arith in
    get_or_default_zero a.words k d few
    ∙ word_alike a b same k (omega arith) (bytes k 0 few) (bytes' k 0 few')
    ∙ sym (get_or_default_zero b.words k d few'))
