-- Bits of words, one by one, and the members that they stand for.
use Rattle.std.proofs.Common.{rules, arith, eqb, ◌≡◌, ◌≢◌, refl, ap, ◌∙◌, ℕ, zero, suc, ◌+◌, ◌-◌, ◌*◌, ◌<◌, ◌≤◌, ◌==◌, ◌/◌, ◌%◌, ◌^◌, ◌&&◌, ◌||◌, ◌⊎◌, inl, inr, Bool, true, false, not, max, min, length, List, [], ◌∷◌, ◌++◌, if◌then◌else◌, sym, w64, slice_set, slice_index, append-nil, length-append}
use Rattle.std.specs.Prelude.{filter, replicate}
use Rattle.std.specs.Int.{bit_at, bit_not}
use Rattle.std.specs.Int.Bits.{bit_or, bit_and}
use Rattle.std.specs.List.{range_with_len}
use Rattle.std.proofs.lemmas.Nat.Bits.{bit_at-lt, bit_at-zero, bit_at_or, bit_at_and, bit_at_not, bit_at_set_same, bit_at_set_other}
use Rattle.std.proofs.lemmas.List.{get_or-set_same, get_or-set_other}
use Rattle.std.proofs.lemmas.List.Elements.{filter-append}
use Rattle.std.proofs.lemmas.Bool.{cases_lt, eq-eqb, ne_eqb}
use Rattle.std.proofs.lemmas.Bool.Decides.{eqb_tells}
use Rattle.icn_value.specs.declared.cset.Cset.{Cset}
use Rattle.icn_value.specs.Csets.{has, members_below, HasMembers}
use Rattle.icn_value.specs.Members.{members, members_of}

-- Tests of a bit

either_test : (x y : ℕ) → x < 2 → y < 2 → (max x y == 1) ≡ ((x == 1) || (y == 1))
either_test zero zero p q = refl
either_test zero (suc zero) p q = refl
either_test (suc zero) zero p q = refl
either_test (suc zero) (suc zero) p q = refl
either_test zero (suc (suc y)) p q = absurd (omega arith)
either_test (suc zero) (suc (suc y)) p q = absurd (omega arith)
either_test (suc (suc x)) y p q = absurd (omega arith)

both_test : (x y : ℕ) → x < 2 → y < 2 → (min x y == 1) ≡ ((x == 1) && (y == 1))
both_test zero zero p q = refl
both_test zero (suc zero) p q = refl
both_test (suc zero) zero p q = refl
both_test (suc zero) (suc zero) p q = refl
both_test zero (suc (suc y)) p q = absurd (omega arith)
both_test (suc zero) (suc (suc y)) p q = absurd (omega arith)
both_test (suc (suc x)) y p q = absurd (omega arith)

other_test : (x : ℕ) → x < 2 → (1 - x == 1) ≡ not (x == 1)
other_test zero p = refl
other_test (suc zero) p = refl
other_test (suc (suc x)) p = absurd (omega arith)

either_at : (a b i : ℕ) → (bit_at (bit_or a b) i == 1) ≡ ((bit_at a i == 1) || (bit_at b i == 1))
either_at a b i = ap (λ n. n == 1) (bit_at_or a b i) ∙ either_test (bit_at a i) (bit_at b i) (bit_at-lt a i) (bit_at-lt b i)

both_at : (a b i : ℕ) → (bit_at (bit_and a b) i == 1) ≡ ((bit_at a i == 1) && (bit_at b i == 1))
both_at a b i = ap (λ n. n == 1) (bit_at_and a b i) ∙ both_test (bit_at a i) (bit_at b i) (bit_at-lt a i) (bit_at-lt b i)

other_at : (a i : ℕ) → a < 2 ^ 64 → i < 64 → (bit_at (bit_not w64 a) i == 1) ≡ not (bit_at a i == 1)
other_at a i small within = ap (λ n. n == 1) (bit_at_not w64 a i small within) ∙ other_test (bit_at a i) (bit_at-lt a i)

-- Lists of words, changed from the first on

-- one word more is as it is to be
pub done_more : (now : List ℕ) (target : ℕ → ℕ) (place x : ℕ) → place < length now → x ≡ target place → ((k : ℕ) → k < place → slice_index now k ≡ target k)
    → (k : ℕ) → k < place + 1 → slice_index (slice_set now place x) k ≡ target k
done_more now target place x within is before k below = at (cases_lt k place)
  where
    at : (k < place) ⊎ (place ≤ k) → slice_index (slice_set now place x) k ≡ target k
    at (inl less) = get_or-set_other now place k x 0 (λ same. absurd (omega (arith, same))) ∙ before k less
    at (inr more) = let same : k ≡ place = omega arith in rw same (get_or-set_same now place x 0 within ∙ is)

-- the words ahead are as before
pub ahead_more : (now : List ℕ) (old : ℕ → ℕ) (place x : ℕ) → ((k : ℕ) → place ≤ k → slice_index now k ≡ old k) → (k : ℕ) → place + 1 ≤ k
    → slice_index (slice_set now place x) k ≡ old k
ahead_more now old place x before k beyond = get_or-set_other now place k x 0 (λ same. absurd (omega (arith, same))) ∙ before k (omega arith)

pub bounded_more : (old now : ℕ → ℕ) (place : ℕ) → ((k : ℕ) → place ≤ k → now k ≡ old k) → now place < 2 ^ 64 → ((k : ℕ) → k < place → old k < 2 ^ 64) → (k : ℕ)
    → k < place + 1 → old k < 2 ^ 64
bounded_more old now place ahead fits before k below = at (cases_lt k place)
  where
    at : (k < place) ⊎ (place ≤ k) → old k < 2 ^ 64
    at (inl less) = before k less
    at (inr more) = let same : k ≡ place = omega arith in rw same (rw (← ahead place (omega arith)) fits)

-- Members

within : (byte : ℕ) → byte < 256 → byte / 64 < 4
within byte below = omega arith

pub either_members : (a b new : Cset) → ((k : ℕ) → k < 4 → slice_index new.words k ≡ bit_or (slice_index a.words k) (slice_index b.words k))
    → HasMembers new (λ byte. has a byte || has b byte)
either_members a b new bytes = record {
  is = λ byte below. ap (λ n. bit_at n (byte % 64) == 1) (bytes (byte / 64) (within byte below))
      ∙ either_at (slice_index a.words (byte / 64)) (slice_index b.words (byte / 64)) (byte % 64);
}

pub both_members : (a b new : Cset) → ((k : ℕ) → k < 4 → slice_index new.words k ≡ bit_and (slice_index a.words k) (slice_index b.words k))
    → HasMembers new (λ byte. has a byte && has b byte)
both_members a b new bytes = record {
  is = λ byte below. ap (λ n. bit_at n (byte % 64) == 1) (bytes (byte / 64) (within byte below))
      ∙ both_at (slice_index a.words (byte / 64)) (slice_index b.words (byte / 64)) (byte % 64);
}

pub other_members : (a new : Cset) → ((k : ℕ) → k < 4 → slice_index a.words k < 2 ^ 64)
    → ((k : ℕ) → k < 4 → slice_index new.words k ≡ bit_not w64 (slice_index a.words k)) → HasMembers new (λ byte. not (has a byte))
other_members a new small bytes = record {
  is = λ byte below. ap (λ n. bit_at n (byte % 64) == 1) (bytes (byte / 64) (within byte below))
      ∙ other_at (slice_index a.words (byte / 64)) (byte % 64) (small (byte / 64) (within byte below)) (omega arith);
}

no_bytes : (n k : ℕ) → slice_index (replicate n 0) k ≡ 0
no_bytes zero k = refl
no_bytes (suc n) zero = refl
no_bytes (suc n) (suc k) = no_bytes n k

pub no_members : HasMembers (record { words = replicate 4 0 }) (λ byte. false)
no_members = record { is = λ byte below. ap (λ n. bit_at n (byte % 64) == 1) (no_bytes 4 (byte / 64)) ∙ ap (λ n. n == 1) (bit_at-zero (byte % 64)) }

-- one more byte is a member
pub with_members : (a : Cset) (byte place : ℕ) → byte < 256 → place ≡ byte / 64 → length a.words ≡ 4
    → HasMembers (record { words = slice_set a.words place (bit_or (slice_index a.words place) (1 * 2 ^ (byte % 64) % 2 ^ 64)) })
    (λ other. other == byte || has a other)
with_members a byte place small is bytes = record { is = λ other below. by_place other below (eqb_tells (other / 64) place) }
  where
    new : ℕ
    new = bit_or (slice_index a.words place) (1 * 2 ^ (byte % 64) % 2 ^ 64)

    apart : (other : ℕ) → other ≢ byte → has a other ≡ (other == byte || has a other)
    apart other other_byte = rw (ne_eqb other byte other_byte) refl

    by_bit : (other : ℕ) → other < 256
        → other / 64 ≡ place → ((eqb (other % 64) (byte % 64) ≡ true) × (other % 64 ≡ byte % 64)) ⊎ ((eqb (other % 64) (byte % 64) ≡ false) × (other % 64 ≢ byte % 64))
        → (bit_at new (other % 64) == 1) ≡ (other == byte || has a other)
    by_bit other below here (inl same) = let whole : other ≡ byte = omega (arith, same.1, here, is) in
        rw whole (rw (bit_at_set_same w64 (slice_index a.words place) (byte % 64) (omega arith)) (rw (eq-eqb byte byte refl) refl))
    by_bit other below here (inr differ) = ap (λ n. n == 1) (bit_at_set_other w64 (slice_index a.words place) (byte % 64) (omega arith) (other % 64) differ.1)
        ∙ (ap (λ k. bit_at (slice_index a.words k) (other % 64) == 1) (sym here) ∙ apart other (λ same. differ.1 (ap (λ n. n % 64) same)))

    by_place : (other : ℕ) → other < 256 → ((eqb (other / 64) place ≡ true) × (other / 64 ≡ place)) ⊎ ((eqb (other / 64) place ≡ false) × (other / 64 ≢ place))
        → (bit_at (slice_index (slice_set a.words place new) (other / 64)) (other % 64) == 1) ≡ (other == byte || has a other)
    by_place other below (inl same) = ap (λ n. bit_at n (other % 64) == 1) (ap (slice_index (slice_set a.words place new)) same.1
        ∙ get_or-set_same a.words place new 0 (omega (arith, bytes, is, small))) ∙ by_bit other below same.1 (eqb_tells (other % 64) (byte % 64))
    by_place other below (inr differ) = ap (λ n. bit_at n (other % 64) == 1) (get_or-set_other a.words place (other / 64) new 0 differ.1)
        ∙ apart other (λ same. differ.1 (ap (λ n. n / 64) same ∙ sym is))

-- Numbers of members

range_next : (a n m : ℕ) → m ≡ suc (n + 1) → range_with_len (a + 1) (n + 1) ≡ range_with_len (a + 1) n ++ (a + 1 + n) ∷ []
    → range_with_len a m ≡ range_with_len a (suc n) ++ (a + suc n) ∷ []
range_next a n m same rest =
    let last : a + 1 + n ≡ a + suc n = omega arith in rw same (ap (λ tail. a ∷ tail) (rest ∙ ap (λ k. range_with_len (a + 1) n ++ k ∷ []) last))

range_more : (a n : ℕ) → range_with_len a (n + 1) ≡ range_with_len a n ++ (a + n) ∷ []
range_more a zero = search rules
range_more a (suc n) = range_next a n (suc n + 1) (omega arith) (range_more (a + 1) n)

pub below_more : (cset : Cset) (n : ℕ) → members_below cset (n + 1) ≡ members_below cset n ++ (if has cset n then n ∷ [] else [])
unfolding members_below
below_more cset n = ap (filter (has cset)) (range_more 0 n ∙ (let same : 0 + n ≡ n = omega arith in ap (λ k. range_with_len 0 n ++ k ∷ []) same))
    ∙ filter-append (has cset) (range_with_len 0 n) (n ∷ [])

pub none_below : (cset : Cset) → 0 ≡ length (members_below cset 0)
unfolding members_below
none_below cset = refl

pub count_member : (cset : Cset) (n : ℕ) → has cset n ≡ true → length (members_below cset (n + 1)) ≡ length (members_below cset n) + 1
count_member cset n is = ap length (below_more cset n ∙ (rw is refl)) ∙ length-append (members_below cset n) (n ∷ [])

pub count_absent : (cset : Cset) (n : ℕ) → has cset n ≡ false → length (members_below cset (n + 1)) ≡ length (members_below cset n)
count_absent cset n is = ap length (below_more cset n ∙ (rw is (append-nil (members_below cset n))))

-- what a test of bytes says of the members
filtered : (a b : ℕ → Bool) (from n : ℕ) → ((k : ℕ) → from ≤ k → k < from + n → a k ≡ b k) → filter a (range_with_len from n) ≡ filter b (range_with_len from n)
filtered a b from zero same = refl
filtered a b from (suc n) same = step (same from (omega arith) (omega arith)) (filtered a b (from + 1) n (λ k low high. same k (omega arith) (omega arith)))
  where
    step : a from ≡ b from → filter a (range_with_len (from + 1) n) ≡ filter b (range_with_len (from + 1) n)
        → filter a (from ∷ range_with_len (from + 1) n) ≡ filter b (from ∷ range_with_len (from + 1) n)
    step here rest = rw here (rw rest refl)

-- all 256 bytes are below 256
pub all_below : (cset : Cset) → members_below cset 256 ≡ members_of cset
unfolding members_below members_of
all_below cset = refl

pub counted : (cset : Cset) (count byte : ℕ) → count ≡ length (members_below cset byte) → 256 ≤ byte → byte ≤ 256 → count ≡ length (members_of cset)
counted cset count byte is low high = let last : byte ≡ 256 = omega arith in is ∙ (ap (λ n. length (members_below cset n)) last ∙ ap length (all_below cset))

pub members_by : (cset : Cset) (test : ℕ → Bool) → HasMembers cset test → members_of cset ≡ members test
unfolding members_of
members_by cset test has_them = filtered (has cset) test 0 256 (λ k low high. has_them.is k (omega arith))
