-- The entries of a tree of counts are the sums of the leaves below them.
use Rattle.std.proofs.Common.{arith, ◌≡◌, ◌<◌, ◌≤◌, ◌+◌, ◌-◌, ◌*◌, ◌^◌, ◌/◌, ℕ, zero, suc, refl, sym, ap, subst, ◌∙◌, List}
use Rattle.std.proofs.Math.Nat.{pow-zero, pow-suc, add-mul, mul-add, mul-le-mul_left}
use Rattle.std.proofs.lemmas.Nat.{pow_pos}
use Rattle.icn_structs.specs.Counts.{count_at, counts_from, IsSummed, IsPowerOfTwo}
use Rattle.icn_structs.proofs.SoughtLeaf.{IsBelow}

-- a sum is that of its first part and that of the rest
pub split : (counts : List ℕ) (first m n : ℕ) → counts_from counts first (m + n) ≡ counts_from counts first m + counts_from counts (first + m) n
split counts first zero n =
    let e : 0 + n ≡ n = omega arith in
    let f : first + 0 ≡ first = omega arith in
    let moved : counts_from counts (first + 0) n ≡ counts_from counts first n = ap (λ at. counts_from counts at n) f in
    ap (counts_from counts first) e ∙ omega (arith, moved)
split counts first (suc m) n =
    let e : suc m + n ≡ suc (m + n) = omega arith in
    let f : suc first + m ≡ first + suc m = omega arith in
    let later = split counts (suc first) m n in
    let moved : counts_from counts (suc first + m) n ≡ counts_from counts (first + suc m) n = ap (λ at. counts_from counts at n) f in
    ap (counts_from counts first) e ∙ omega (arith, later, moved)

-- twice a power is the next
doubled : (e : ℕ) → 2 ^ suc e ≡ 2 ^ e + 2 ^ e
doubled e = pow-suc 2 e ∙ omega arith

-- the two entries below one
left_below : (node p : ℕ) → node * (p + p) ≡ 2 * node * p
left_below node p = mul-add node p p ∙ sym (ap (λ n. n * p) (omega arith) ∙ add-mul node node p)

right_below : (node p : ℕ) → 2 * node * p + p ≡ (2 * node + 1) * p
right_below node p = sym (add-mul (2 * node) 1 p ∙ omega arith)

-- an entry with leaves below it stands before the leaves
before_leaves : (node p width : ℕ) → 0 < p → node * (p + p) + (p + p) ≤ 2 * width → node < width
before_leaves node p width some within =
    let two : (node + 1) * 2 ≤ (node + 1) * (p + p) = mul-le-mul_left (node + 1) (omega (arith, some)) in
    let same : (node + 1) * (p + p) ≡ node * (p + p) + (p + p) = add-mul node 1 (p + p) ∙ omega arith in
    omega (arith, two, same, within)

-- an entry is the sum of all leaves below it
pub sum_below : (counts : List ℕ) (width : ℕ) → IsSummed counts width → (e node : ℕ) → 1 ≤ node → node * 2 ^ e + 2 ^ e ≤ 2 * width
    → counts_from counts (node * 2 ^ e) (2 ^ e) ≡ count_at counts node
sum_below counts width summed zero node some within =
    subst (λ p. counts_from counts (node * p) p ≡ count_at counts node) (sym (pow-zero 2))
    (let e : node * 1 ≡ node = omega arith in
    let moved : counts_from counts (node * 1) 1 ≡ counts_from counts node 1 = ap (λ at. counts_from counts at 1) e in
    omega (arith, moved))
sum_below counts width summed (suc e) node some within =
    subst (λ p. counts_from counts (node * p) p ≡ count_at counts node) (sym (doubled e))
    (halves (2 ^ e) refl (sum_below counts width summed e))
  where
    halves : (p : ℕ) → p ≡ 2 ^ e
        → ((n : ℕ) → 1 ≤ n → n * 2 ^ e + 2 ^ e ≤ 2 * width → counts_from counts (n * 2 ^ e) (2 ^ e) ≡ count_at counts n)
        → counts_from counts (node * (p + p)) (p + p) ≡ count_at counts node
    halves p is below =
        let whole : node * (p + p) + (p + p) ≤ 2 * width = subst (λ q. node * q + q ≤ 2 * width) (doubled e ∙ ap (λ q. q + q) (sym is)) within in
        let some_leaves : 0 < p = subst (λ q. 0 < q) (sym is) (pow_pos e) in
        let lefts : node * (p + p) ≡ 2 * node * p = left_below node p in
        let rights : 2 * node * p + p ≡ (2 * node + 1) * p = right_below node p in
        let room_left : 2 * node * p + p ≤ 2 * width = omega (arith, whole, lefts) in
        let room_right : (2 * node + 1) * p + p ≤ 2 * width = omega (arith, whole, lefts, rights) in
        let first : counts_from counts (2 * node * p) p ≡ count_at counts (2 * node) =
        subst (λ q. counts_from counts (2 * node * q) q ≡ count_at counts (2 * node)) (sym is)
        (below (2 * node) (omega (arith, some)) (subst (λ q. 2 * node * q + q ≤ 2 * width) is room_left)) in
        let second : counts_from counts ((2 * node + 1) * p) p ≡ count_at counts (2 * node + 1) =
        subst (λ q. counts_from counts ((2 * node + 1) * q) q ≡ count_at counts (2 * node + 1)) (sym is)
        (below (2 * node + 1) (omega arith) (subst (λ q. (2 * node + 1) * q + q ≤ 2 * width) is room_right)) in
        ap (λ at. counts_from counts at (p + p)) lefts
        ∙ split counts (2 * node * p) p p
        ∙ ap (λ n. counts_from counts (2 * node * p) p + n) (ap (λ at. counts_from counts at p) rights ∙ second)
        ∙ ap (λ n. n + count_at counts (2 * node + 1)) first
        ∙ sym (summed node some (before_leaves node p width some_leaves whole))

-- a power of two that is more than 1 is twice a power
record IsHalf (span half : ℕ) : Type 0 where
  power : IsPowerOfTwo half
  twice : span ≡ half + half

halved : (span : ℕ) → IsPowerOfTwo span → 1 < span → IsHalf span (span / 2)
halved span power more = by power.exponent power.is
  where
    by : (e : ℕ) → span ≡ 2 ^ e → IsHalf span (span / 2)
    by zero is = absurd (omega (arith, more, is ∙ pow-zero 2))
    by (suc e) is =
        let twice : span ≡ 2 ^ e + 2 ^ e = is ∙ doubled e in
        let half : span / 2 ≡ 2 ^ e = omega (arith, twice) in
        record { power = record { exponent = e; is = half }; twice = omega (arith, twice, half) }

-- where leaves stand below an entry, it is the root or stands behind it
root_or_more : (node half width leaf : ℕ) {span : ℕ} → leaf + span ≤ width → span ≡ half + half → 0 < half → width + leaf ≡ 2 * node * half → 1 ≤ node
root_or_more zero half width leaf within twice some first = absurd (omega (arith, within, twice, some, first, none half))
  where
    none : (p : ℕ) → 2 * 0 * p ≡ 0
    none p = omega arith
root_or_more (suc node) half width leaf within twice some first = omega arith

module _ (counts : List ℕ) (width number node : ℕ) where
  left_by : (span half leaf left : ℕ) → IsHalf span half → IsBelow counts width number node span leaf left → left < count_at counts (node * 2)
      → IsBelow counts width number (node * 2) half leaf left
  left_by span half leaf left halves below less = record {
    power = halves.power;
    first = below.first ∙ ap (λ n. node * n) halves.twice ∙ left_below node half ∙ ap (λ n. n * half) (omega arith);
    within = omega (arith, below.within, halves.twice);
    counted = less;
    before = below.before;
  }

  right_by : (span half leaf left : ℕ) → IsHalf span half → 0 < half → IsSummed counts width → IsBelow counts width number node span leaf left
      → count_at counts (node * 2) ≤ left → IsBelow counts width number (node * 2 + 1) half (leaf + half) (left - count_at counts (node * 2))
  right_by span half leaf left halves some summed below most =
      let first : width + leaf ≡ 2 * node * half = below.first ∙ ap (λ n. node * n) halves.twice ∙ left_below node half in
      let second : 2 * node * half + half ≡ (2 * node + 1) * half = right_below node half in
      let twice : node * 2 ≡ 2 * node = omega arith in
      let whole : node * (half + half) + (half + half) ≤ 2 * width =
      omega (arith, below.within, halves.twice, left_below node half, first) in
      let before : node < width = before_leaves node half width some whole in
      let after : 1 ≤ node = root_or_more node half width leaf below.within halves.twice some first in
      let sum : counts_from counts (2 * node * half) half ≡ count_at counts (2 * node) =
      subst (λ p. counts_from counts (2 * node * p) p ≡ count_at counts (2 * node)) (sym halves.power.is)
      (sum_below counts width summed halves.power.exponent (2 * node) (omega (arith, after))
      (subst (λ p. 2 * node * p + p ≤ 2 * width) halves.power.is (omega (arith, first, below.within, halves.twice)))) in
      let more : counts_from counts width (leaf + half) ≡ counts_from counts width leaf + count_at counts (2 * node) =
      split counts width leaf half ∙ ap (λ at. counts_from counts width leaf + counts_from counts at half) first
      ∙ ap (λ n. counts_from counts width leaf + n) sum in
      let here : count_at counts (node * 2) ≡ count_at counts (2 * node) = ap (count_at counts) twice in
      record {
        power = halves.power;
        first = omega (arith, first, second) ∙ ap (λ n. (n + 1) * half) (sym twice);
        within = omega (arith, below.within, halves.twice);
        counted = subst (λ n. left - count_at counts (node * 2) < count_at counts (n + 1)) (sym twice)
            (omega (arith, below.counted, summed node after before, here, most));
        before = omega (arith, more, below.before, here, most);
      }

  pub left_turn : (span leaf left : ℕ) → 1 < span → IsBelow counts width number node span leaf left → left < count_at counts (node * 2)
      → IsBelow counts width number (node * 2) (span / 2) leaf left
  left_turn span leaf left more below less = left_by span (span / 2) leaf left (halved span below.power more) below less

  pub right_turn : (span leaf left : ℕ) → 1 < span → IsSummed counts width → IsBelow counts width number node span leaf left
      → count_at counts (node * 2) ≤ left
      → IsBelow counts width number (node * 2 + 1) (span / 2) (leaf + span / 2) (left - count_at counts (node * 2))
  right_turn span leaf left more summed below most =
      right_by span (span / 2) leaf left (halved span below.power more) (omega (arith, more)) summed below most
