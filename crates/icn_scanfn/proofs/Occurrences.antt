-- The first place at which a text stands in another one.
use Rattle.std.proofs.Common.{◌≡◌, ◌∙◌, refl, sym, ap, subst, ℕ, zero, suc, ◌+◌, ◌-◌, ◌<◌, ◌≤◌, Bool, true, false, cond, inl, inr, List, length, take, drop, arith, Some, None, drop-drop}
use Rattle.std.proofs.lemmas.Bool.{and_from, and_parts, cases_lt, le-leb, leb-true}
use Rattle.std.proofs.lemmas.List.{drop-take, take-take, length-take-le, length-drop}
use Rattle.std.proofs.lemmas.Slice.Eq.{bytes_eq-Decides}
use Rattle.std.specs.List.{find, range_with_len, slice_range}
use Rattle.memchr.specs.Find.{FindsNeedle, NoneBefore, Nowhere, OccursAt}
use Rattle.memchr.proofs.lemmas.MatchLemmas.{OccursAt-from_part, OccursAt-part}
use Rattle.icn_defs.specs.Scanning.{between, stands}

not_true : (b : Bool) → (b ≡ true → ⊥) → b ≡ false
not_true true never = absurd (never refl)
not_true false never = refl

-- a property of places, counted from some start, that a test tells
module _ (test : ℕ → Bool) (P : ℕ → Type 0) (start : ℕ) where
  none_found : (i n : ℕ) → ((k : ℕ) → k < i + n → test (start + k) ≡ true → P k) → Nowhere P i (i + n) → find test (range_with_len (start + i) n) ≡ None
  none_found i zero told none = refl
  none_found i (suc n) told none =
      let here : test (start + i) ≡ false = not_true (test (start + i)) (λ is. none i (omega arith) (omega arith) (told i (omega arith) is)) in
      let next : start + i + 1 ≡ start + (i + 1) = omega arith in
      ap (λ b. cond b (Some (start + i)) (find test (range_with_len (start + i + 1) n))) here
      ∙ (ap (λ m. find test (range_with_len m n)) next
      ∙ none_found (i + 1) n (λ k less. told k (omega arith)) (λ k low high. none k (omega arith) (omega arith)))

  one_found : (i n k : ℕ) → ((m : ℕ) → m < i + n → test (start + m) ≡ true → P m) → test (start + k) ≡ true → NoneBefore P i (i + n) k
      → find test (range_with_len (start + i) n) ≡ Some (start + k)
  one_found i zero k told is first = absurd (omega (arith, first.low, first.high))
  one_found i (suc n) k told is first =
      elim (cases_lt i k) [
        | inl after ↦ (
            let here : test (start + i) ≡ false = not_true (test (start + i)) (λ passes. first.before i (omega arith) after (told i (omega arith) passes)) in
            let next : start + i + 1 ≡ start + (i + 1) = omega arith in
            ap (λ b. cond b (Some (start + i)) (find test (range_with_len (start + i + 1) n))) here
            ∙ (ap (λ m. find test (range_with_len m n)) next
            ∙ one_found (i + 1) n k (λ m less. told m (omega arith)) is
            (record { low = omega arith; high = omega (arith, first.high); before = λ m low high. first.before m (omega arith) high })))
        | inr here ↦ (
            let same : i ≡ k = omega (arith, first.low) in
            let passes : test (start + i) ≡ true = ap (λ m. test (start + m)) same ∙ is in
            ap (λ b. cond b (Some (start + i)) (find test (range_with_len (start + i + 1) n))) passes ∙ ap (λ m. Some (start + m)) same)
      ]

module _ (wanted text : List ℕ) (place last : ℕ) (low : 1 ≤ place) (order : place ≤ last) (high : last ≤ length text + 1) where
  -- what is searched
  abbrev searched : List ℕ
  searched = slice_range text (place - 1) (last - 1)

  searched_length : length searched ≡ last - place
  searched_length =
      let rest : length (drop (place - 1) text) ≡ length text - (place - 1) = length-drop (place - 1) text in
      length-take-le (last - 1 - (place - 1)) (drop (place - 1) text) (omega arith) ∙ omega arith

  same_part : (k : ℕ) → k + length wanted ≤ last - place → take (length wanted) (drop k searched) ≡ between text (place + k) (place + k + length wanted)
  same_part k fits =
      let split : last - 1 - (place - 1) ≡ k + (last - place - k) = omega arith in
      let count : place + k + length wanted - 1 - (place + k - 1) ≡ length wanted = omega arith in
      let from : place - 1 + k ≡ place + k - 1 = omega arith in
      ap (λ n. take (length wanted) (drop k (take n (drop (place - 1) text)))) split
      ∙ (ap (take (length wanted)) (drop-take k (last - place - k) (drop (place - 1) text))
      ∙ (take-take (length wanted) (last - place - k) (drop k (drop (place - 1) text)) (omega arith)
      ∙ (ap (take (length wanted)) (drop-drop k (place - 1) text ∙ ap (λ n. drop n text) from)
      ∙ sym (ap (λ n. take n (drop (place + k - 1) text)) count))))

  stands_there : (k : ℕ) → OccursAt searched wanted k → stands wanted text (place + k) last ≡ true
  stands_there k occurs =
      let fits : k + length wanted ≤ last - place = omega (arith, occurs.fits, searched_length) in
      and_from _ _ (le-leb (place + k + length wanted) last (omega arith))
      ((bytes_eq-Decides wanted (between text (place + k) (place + k + length wanted))).1 (sym (OccursAt-part searched wanted k occurs) ∙ same_part k fits))

  occurs_there : (k : ℕ) → stands wanted text (place + k) last ≡ true → OccursAt searched wanted k
  occurs_there k stand =
      let parts = and_parts _ _ stand in
      let ends : place + k + length wanted ≤ last = leb-true (place + k + length wanted) last parts.0 in
      let fits : k + length wanted ≤ last - place = omega arith in
      OccursAt-from_part searched wanted k (omega (arith, searched_length))
      (same_part k fits ∙ sym ((bytes_eq-Decides wanted (between text (place + k) (place + k + length wanted))).0 parts.1))

  from_start : find (λ place. stands wanted text place last) (range_with_len (place + 0) (length searched + 1))
      ≡ find (λ place. stands wanted text place last) (range_with_len place (last + 1 - place))
  from_start =
      let count : length searched + 1 ≡ last + 1 - place = omega (arith, searched_length) in
      let zero_more : place + 0 ≡ place = omega arith in
      ap (λ n. find (λ place. stands wanted text place last) (range_with_len n (length searched + 1))) zero_more
      ∙ ap (λ n. find (λ place. stands wanted text place last) (range_with_len place n)) count

  pub occurrence_found : (found : ℕ) → FindsNeedle searched wanted 0 (Some found)
      → find (λ place. stands wanted text place last) (range_with_len place (last + 1 - place)) ≡ Some (place + found)
  occurrence_found found first =
      let all : length searched + 1 ≡ 0 + (length searched + 1) = omega arith in
      sym from_start
      ∙ one_found (λ place. stands wanted text place last) (OccursAt searched wanted) place 0 (length searched + 1) found (λ k less. occurs_there k)
      (stands_there found first.1)
      (subst (λ n. NoneBefore (OccursAt searched wanted) 0 n found) all first.0)

  pub no_occurrence : FindsNeedle searched wanted 0 None → find (λ place. stands wanted text place last) (range_with_len place (last + 1 - place)) ≡ None
  no_occurrence none =
      let all : length searched + 1 ≡ 0 + (length searched + 1) = omega arith in
      sym from_start
      ∙ none_found (λ place. stands wanted text place last) (OccursAt searched wanted) place 0 (length searched + 1) (λ k less. occurs_there k)
      (subst (λ n. Nowhere (OccursAt searched wanted) 0 n) all none)
