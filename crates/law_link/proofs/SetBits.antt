-- The cset of bytes that ascend has these bytes as its members.
use Rattle.std.proofs.Common.{eqb, ◌≡◌, ◌≢◌, ◌<◌, ◌≤◌, ◌⊎◌, inl, inr, ℕ, zero, suc, ◌+◌, ◌/◌, ◌%◌, ◌^◌, ◌==◌, Bool, true, false, ◌||◌, List, [], ◌∷◌, length, filter, cond, refl, sym, ap, ◌∙◌, subst, max, slice_index, arith, nat_lt}
use Rattle.std.specs.Prelude.{replicate}
use Rattle.std.specs.Int.{bit_at}
use Rattle.std.specs.Int.Bits.{bit_or}
use Rattle.std.specs.List.{list_all, range_with_len}
use Rattle.std.proofs.lemmas.Bool.{cases_lt, false≢true}
use Rattle.std.proofs.lemmas.Bool.Decides.{Decides-eqb, eqb_tells, leb_tells}
use Rattle.std.proofs.lemmas.List.{get_or-set_same, get_or-set_other, length-set}
use Rattle.std.proofs.lemmas.Nat.Bits.{bit_at-lt, bit_at-zero, bit_at_or, bit_at-pow_same, bit_at-pow_other}
use Rattle.icn_value.specs.Csets.{has}
use Rattle.icn_value.specs.Members.{contains}
use Rattle.icn_unit.specs.UnitOperands.{ascends}
use Rattle.icn_unit.specs.UnitRules.{is_byte}
use Rattle.icn_link.specs.Joined.{with_bit, with_bits, cset_of}
use Rattle.icn_run.specs.Step.{members_of}
use Rattle.icn_units.proofs.WrittenTrees.{and_first, and_second}

below : (a b : ℕ) → nat_lt a b ≡ true → a < b
below a b h = by (leb_tells (suc a) b)
  where
    by : ((nat_lt a b ≡ true) × (suc a ≤ b)) ⊎ ((nat_lt a b ≡ false) × (b < suc a)) → a < b
    by (inl t) = let k = t.1 in omega arith
    by (inr t) = absurd (let f = t.0 in cc)

-- Bits

either_test : (x y : ℕ) → x < 2 → y < 2 → (max x y == 1) ≡ ((x == 1) || (y == 1))
either_test zero zero p q = refl
either_test zero (suc zero) p q = refl
either_test (suc zero) zero p q = refl
either_test (suc zero) (suc zero) p q = refl
either_test zero (suc (suc y)) p q = absurd (omega arith)
either_test (suc zero) (suc (suc y)) p q = absurd (omega arith)
either_test (suc (suc x)) y p q = absurd (omega arith)

either_at : (a b i : ℕ) → (bit_at (bit_or a b) i == 1) ≡ ((bit_at a i == 1) || (bit_at b i == 1))
either_at a b i = ap (λ n. n == 1) (bit_at_or a b i)
    ∙ either_test (bit_at a i) (bit_at b i) (bit_at-lt a i) (bit_at-lt b i)

-- a word of a list has a bit
abbrev bit_of : List ℕ → ℕ → Bool
bit_of bits n = bit_at (slice_index bits (n / 64)) (n % 64) == 1

or_none : (b : Bool) → b ≡ (b || false)
or_none true = refl
or_none false = refl

not_same : (a b : ℕ) → a ≢ b → (a == b) ≡ false
not_same a b h = by (eqb_tells a b)
  where
    by : ((eqb a b ≡ true) × (a ≡ b)) ⊎ ((eqb a b ≡ false) × (a ≢ b)) → (a == b) ≡ false
    by (inl t) = absurd (h t.1)
    by (inr t) = t.0

-- with one bit more
bit_more : (bits : List ℕ) (b n : ℕ) → b / 64 < length bits → bit_of (with_bit bits b) n ≡ (bit_of bits n || (b == n))
bit_more bits b n few = by (eqb_tells (n / 64) (b / 64)) (eqb_tells (n % 64) (b % 64))
  where
    word : ℕ
    word = slice_index bits (b / 64)

    by : ((eqb (n / 64) (b / 64) ≡ true) × (n / 64 ≡ b / 64)) ⊎ ((eqb (n / 64) (b / 64) ≡ false) × (n / 64 ≢ b / 64))
        → ((eqb (n % 64) (b % 64) ≡ true) × (n % 64 ≡ b % 64)) ⊎ ((eqb (n % 64) (b % 64) ≡ false) × (n % 64 ≢ b % 64))
        → bit_of (with_bit bits b) n ≡ (bit_of bits n || (b == n))
    by (inl p) (inl q) =
        let whole = p.1 in
        let part = q.1 in
        let same : b ≡ n = omega arith in
        ap (λ k. bit_at (slice_index (with_bit bits b) k) (n % 64) == 1) p.1
        ∙ ap (λ k. bit_at k (n % 64) == 1) (get_or-set_same bits (b / 64) (bit_or word (2 ^ (b % 64))) 0 few)
        ∙ either_at word (2 ^ (b % 64)) (n % 64)
        ∙ ap (λ k. (bit_at word (n % 64) == 1) || (k == 1)) (ap (bit_at (2 ^ (b % 64))) q.1 ∙ bit_at-pow_same (b % 64))
        ∙ ap (λ k. (bit_at (slice_index bits k) (n % 64) == 1) || true) (sym p.1)
        ∙ ap (λ t. bit_of bits n || t) (sym ((Decides-eqb b n).1 same))
    by (inl p) (inr q) =
        let other : b ≢ n = λ e. q.1 (ap (λ k. k % 64) (sym e)) in
        ap (λ k. bit_at (slice_index (with_bit bits b) k) (n % 64) == 1) p.1
        ∙ ap (λ k. bit_at k (n % 64) == 1) (get_or-set_same bits (b / 64) (bit_or word (2 ^ (b % 64))) 0 few)
        ∙ either_at word (2 ^ (b % 64)) (n % 64)
        ∙ ap (λ k. (bit_at word (n % 64) == 1) || (k == 1)) (bit_at-pow_other (b % 64) (n % 64) q.1)
        ∙ ap (λ k. (bit_at (slice_index bits k) (n % 64) == 1) || false) (sym p.1)
        ∙ ap (λ t. bit_of bits n || t) (sym (not_same b n other))
    by (inr p) q =
        let other : b ≢ n = λ e. p.1 (ap (λ k. k / 64) (sym e)) in
        ap (λ k. bit_at k (n % 64) == 1) (get_or-set_other bits (b / 64) (n / 64) (bit_or word (2 ^ (b % 64))) 0 p.1)
        ∙ or_none (bit_of bits n) ∙ ap (λ t. bit_of bits n || t) (sym (not_same b n other))

or_later : (a b c : Bool) → ((a || b) || c) ≡ (a || (b || c))
or_later true b c = refl
or_later false b c = refl

-- with all of some bytes
bits_more : (bytes bits : List ℕ) (n : ℕ) → length bits ≡ 4 → list_all is_byte bytes ≡ true
    → bit_of (with_bits bits bytes) n ≡ (bit_of bits n || contains bytes n)
bits_more [] bits n long h = or_none (bit_of bits n)
bits_more (b ∷ bytes) bits n long h =
    let small = below b 256 (and_first (is_byte b) (list_all is_byte bytes) h) in
    let few : b / 64 < length bits = omega (arith, long) in
    bits_more bytes (with_bit bits b) n
    (length-set bits (b / 64) (bit_or (slice_index bits (b / 64)) (2 ^ (b % 64))) ∙ long)
    (and_second (is_byte b) (list_all is_byte bytes) h)
    ∙ ap (λ t. t || contains bytes n) (bit_more bits b n few) ∙ or_later (bit_of bits n) (b == n) (contains bytes n)

zeros : (n k : ℕ) → slice_index (replicate n 0) k ≡ 0
zeros zero k = refl
zeros (suc n) zero = refl
zeros (suc n) (suc k) = zeros n k

no_bit : (n : ℕ) → bit_of (replicate 4 0) n ≡ false
no_bit n = ap (λ word. bit_at word (n % 64) == 1) (zeros 4 (n / 64)) ∙ ap (λ k. k == 1) (bit_at-zero (n % 64))

set_has : (bytes : List ℕ) (n : ℕ) → list_all is_byte bytes ≡ true → has (cset_of bytes) n ≡ contains bytes n
set_has bytes n h = bits_more bytes (replicate 4 0) n refl h ∙ ap (λ t. t || contains bytes n) (no_bit n)

-- Bytes that ascend

filter_same : (p q : ℕ → Bool) (from count : ℕ) → ((n : ℕ) → from ≤ n → p n ≡ q n)
    → filter p (range_with_len from count) ≡ filter q (range_with_len from count)
filter_same p q from zero h = refl
filter_same p q from (suc count) h =
    ap (λ b. cond b (from ∷ filter p (range_with_len (from + 1) count)) (filter p (range_with_len (from + 1) count)))
    (h from (omega arith))
    ∙ ap (λ l. cond (q from) (from ∷ l) l) (filter_same p q (from + 1) count (λ n up. h n (omega arith)))

filter_none : (from count : ℕ) → filter (contains []) (range_with_len from count) ≡ []
filter_none from zero = refl
filter_none from (suc count) = filter_none (from + 1) count

neither : (a b : Bool) → a ≡ false → b ≡ false → (a || b) ≡ false
neither a b h g = ap (λ t. t || b) h ∙ g

-- all of these are below a number
abbrev AreBelow : ℕ → List ℕ → Type 0
AreBelow top [] = Unit {0}
AreBelow top (b ∷ bytes) = (b < top) × AreBelow top bytes

-- they ascend from a number on
abbrev From : ℕ → List ℕ → Type 0
From low [] = Unit {0}
From low (b ∷ bytes) = (low ≤ b) × From (suc b) bytes

ascend_from : (b : ℕ) (bytes : List ℕ) → ascends (b ∷ bytes) ≡ true → From (suc b) bytes
ascend_from b [] h = tt
ascend_from b (c ∷ bytes) h =
    (below b c (and_first (nat_lt b c) (ascends (c ∷ bytes)) h), ascend_from c bytes (and_second (nat_lt b c) (ascends (c ∷ bytes)) h))

from_later : {low high : ℕ} (bytes : List ℕ) → low ≤ high → From high bytes → From low bytes
from_later [] h f = tt
from_later {low = low} {high = high} (b ∷ bytes) h f = let k = f.0 in (omega arith, f.1)

none_below : (n low : ℕ) (bytes : List ℕ) → n < low → From low bytes → contains bytes n ≡ false
none_below n low [] less f = refl
none_below n low (b ∷ bytes) less f = let up = f.0 in
    neither (b == n) (contains bytes n) (not_same b n (λ e. absurd (omega (arith, e, less, up))))
    (none_below n (suc b) bytes (omega arith) f.1)

up_by : (b from : ℕ) → from ≤ b → b ≢ from → from + 1 ≤ b
up_by b from low other = by (cases_lt from b)
  where
    by : (from < b) ⊎ (b ≤ from) → from + 1 ≤ b
    by (inl less) = omega arith
    by (inr more) = absurd (other (omega arith))

kept_by : (b from count : ℕ) (bytes : List ℕ) (s : Bool) → (b == from) ≡ s → From from (b ∷ bytes)
    → AreBelow (from + suc count) (b ∷ bytes)
    → ((rest : List ℕ) → From (from + 1) rest → AreBelow (from + 1 + count) rest
    → filter (contains rest) (range_with_len (from + 1) count) ≡ rest)
    → filter (contains (b ∷ bytes)) (range_with_len from (suc count)) ≡ b ∷ bytes
kept_by b from count bytes true e f h next =
    let same : b ≡ from = (Decides-eqb b from).0 e in
    let later : From (from + 1) bytes = from_later bytes (omega (arith, same)) f.1 in
    let deep : from + suc count ≡ from + 1 + count = omega arith in
    let R = range_with_len (from + 1) count in
    ap (λ t. cond (t || contains bytes from) (from ∷ filter (contains (b ∷ bytes)) R) (filter (contains (b ∷ bytes)) R)) e
    ∙ ap (λ l. from ∷ l) (filter_same (contains (b ∷ bytes)) (contains bytes) (from + 1) count
    (λ n up. ap (λ t. t || contains bytes n) (not_same b n (λ g. absurd (omega (arith, g, same, up)))))
    ∙ next bytes later (subst (λ m. AreBelow m bytes) deep h.1))
    ∙ ap (λ k. k ∷ bytes) (sym same)
kept_by b from count bytes false e f h next =
    let low = f.0 in
    let other : b ≢ from = λ g. false≢true (sym e ∙ (Decides-eqb b from).1 g) in
    let more : from + 1 ≤ b = up_by b from low other in
    let later : From (from + 1) (b ∷ bytes) = (more, f.1) in
    let deep : from + suc count ≡ from + 1 + count = omega arith in
    let R = range_with_len (from + 1) count in
    ap (λ t. cond t (from ∷ filter (contains (b ∷ bytes)) R) (filter (contains (b ∷ bytes)) R))
    (none_below from (from + 1) (b ∷ bytes) (omega arith) later)
    ∙ next (b ∷ bytes) later (subst (λ m. AreBelow m (b ∷ bytes)) deep h)

kept : (from count : ℕ) (bytes : List ℕ) → From from bytes → AreBelow (from + count) bytes
    → filter (contains bytes) (range_with_len from count) ≡ bytes
kept from zero [] f h = refl
kept from zero (b ∷ bytes) f h = let low = f.0 in let high = h.0 in absurd (omega (arith, low, high))
kept from (suc count) [] f h = filter_none from (suc count)
kept from (suc count) (b ∷ bytes) f h = kept_by b from count bytes (b == from) refl f h (λ rest. kept (from + 1) count rest)

all_below : (bytes : List ℕ) → list_all is_byte bytes ≡ true → AreBelow 256 bytes
all_below [] h = tt
all_below (b ∷ bytes) h =
    (below b 256 (and_first (is_byte b) (list_all is_byte bytes) h), all_below bytes (and_second (is_byte b) (list_all is_byte bytes) h))

ascend : (bytes : List ℕ) → ascends bytes ≡ true → From 0 bytes
ascend [] h = tt
ascend (b ∷ bytes) h = (omega arith, ascend_from b bytes h)

pub set_members : (bytes : List ℕ) → list_all is_byte bytes ≡ true → ascends bytes ≡ true → members_of (cset_of bytes) ≡ bytes
set_members bytes h up =
    filter_same (has (cset_of bytes)) (contains bytes) 0 256 (λ n low. set_has bytes n h)
    ∙ kept 0 256 bytes (ascend bytes up) (all_below bytes h)
