-- Each kind of token is found as the longest front that is one.
use Rattle.std.proofs.Common.{◌==◌, pos, min, nat_eq, nat_le, ◌≡◌, ℕ, ◌+◌, ◌-◌, ◌<◌, ◌≤◌, zero, suc, Bool, true, false, cond, ◌&&◌, not, add-one, List, [], ◌∷◌, ◌++◌, length, take, drop, Option, None, Some, Result, Ok, Err, refl, sym, ap, ◌∙◌, arith, length-append, length-drop}
use Rattle.std.specs.List.{prefix_len, list_all, starts_with}
use Rattle.std.specs.Option.{option_map, ok_or}
use Rattle.std.specs.Str.{bytes_eq}
use Rattle.std.specs.Cmp.Lexicographic.{same_text, other_text}
use Rattle.std.proofs.lemmas.Bool.Decides.{nat_tests}
use Rattle.std.proofs.lemmas.Bool.{eqb-true, cond-true, cond-false, false_from_ne_true, false≢true}
use Rattle.std.proofs.lemmas.List.{length-take-le, length-take}
use Rattle.std.proofs.lemmas.List.Sums.{prefix_len-le-length}
use Rattle.icn_tree.specs.declared.rule.Rule.{Rule}
use Rattle.icn_tree.specs.declared.rule.Rule.TheVariants.{L1, L4, L6, L7}
use Rattle.icn_tree.specs.declared.token.Kind.{Kind}
use Rattle.icn_tree.specs.declared.token.Kind.TheVariants.{Integer, Operator}
use Rattle.icn_tree.specs.declared.token.Operator.TheVariants.{Dot}
use Rattle.icn_tree.specs.Characters.{begins_identifier, continues_identifier, is_digit, is_alphanumeric}
use Rattle.icn_tree.specs.IntegerLiterals.{is_nothing, is_radix_mark, is_real_mark, number_in, number_by, number, within_size, integer_kind, integer}
use Rattle.icn_tree.specs.Spellings.{lookup_text, name_of, marks_of}
use Rattle.icn_tree.specs.Tokens.{name, dot_number, one_token, longest, front_token, first_of}
use Rattle.icn_lex.specs.Reading.{first_match, bounded_by, value_in, within_limit, with_count, with_length, number_read_by, number_read, dot_read, bare_read, name_read, first_read}
use Rattle.icn_tree.proofs.LongestTokens.{longest_is, longest_none, longest_same, front_passes, front_fails, run_of_front, take_front, drop_front}

-- What is said of the longest

judged_at : (sense : Result Kind Rule) (count : ℕ) → front_token (Some (sense, count)) ≡ with_count count sense
judged_at (Ok kind) count = refl
judged_at (Err rule) count = refl

judged_sized : (text : List ℕ) (sense : Result Kind Rule) (count : ℕ) → length text ≡ count
    → front_token (Some (within_size text sense, count)) ≡ with_length count sense
judged_sized text sense count same = ap (λ n. front_token (Some (cond (nat_le n 65535) sense (Err L7), count))) same ∙ by_test (nat_le count 65535) where
  by_test : (test : Bool) → front_token (Some (cond test sense (Err L7), count)) ≡ cond test (with_count count sense) (Err L7)
  by_test true = judged_at sense count
  by_test false = refl

judged_found : (found other : Option (Result Kind Rule × ℕ)) → found ≡ other → front_token found ≡ front_token other
judged_found found other e = ap front_token e

-- Names

spelled_name : (b : ℕ) (rest : List ℕ) → begins_identifier b ≡ true → one_token (b ∷ rest) ≡ name b rest
unfolding one_token
spelled_name b rest h = cond-true (begins_identifier b) _ _ h

name_at : (b : ℕ) (rest : List ℕ) → begins_identifier b ≡ true → list_all continues_identifier rest ≡ true
    → one_token (b ∷ rest) ≡ Some (within_size (b ∷ rest) (Ok (name_of (b ∷ rest))))
name_at b rest h all = spelled_name b rest h ∙ cond-true (list_all continues_identifier rest) _ _ all

no_name : (b : ℕ) (rest : List ℕ) → begins_identifier b ≡ true → (m : ℕ) → suc (prefix_len continues_identifier rest) < m → m ≤ suc (length rest)
    → one_token (take m (b ∷ rest)) ≡ None
no_name b rest h zero l g = absurd (omega arith)
no_name b rest h (suc m) l g = spelled_name b (take m rest) h
    ∙ cond-false (list_all continues_identifier (take m rest)) _ _ (front_fails continues_identifier rest m (omega arith) (omega arith))

first_name : (b : ℕ) (rest : List ℕ) → begins_identifier b ≡ true → front_token (longest one_token (suc (length rest)) (b ∷ rest)) ≡ name_read b rest
first_name b rest h =
    let n = prefix_len continues_identifier rest in
    let within : n ≤ length rest = prefix_len-le-length continues_identifier rest in
    let size : length (b ∷ take n rest) ≡ suc n = omega (arith, length-take-le n rest within) in
    judged_found _ _ (longest_is one_token (suc (length rest)) (suc n) (b ∷ rest) _ (omega arith) (omega arith)
    (name_at b (take n rest) h (front_passes continues_identifier rest n (omega arith))) (no_name b rest h))
    ∙ (judged_sized (b ∷ take n rest) (Ok (name_of (b ∷ take n rest))) (suc n) size ∙ rw add-one refl)

-- Numbers

spelled_number : (b : ℕ) (rest : List ℕ) → begins_identifier b ≡ false → is_digit b ≡ true → one_token (b ∷ rest) ≡ number (b ∷ rest)
unfolding one_token
spelled_number b rest h d = cond-false (begins_identifier b) _ _ h ∙ cond-true (is_digit b) _ _ d

-- a front with all digits at the front of the bytes
number_front : (bytes : List ℕ) (k : ℕ) → let n = prefix_len is_digit bytes in number (take (n + k) bytes) ≡ number_by (take n bytes) (take k (drop n bytes))
unfolding number
number_front bytes k =
    let n = prefix_len is_digit bytes in
    let run : prefix_len is_digit (take (n + k) bytes) ≡ n = run_of_front is_digit bytes (n + k) (omega arith) in
    ap (λ m. number_by (take m (take (n + k) bytes)) (drop m (take (n + k) bytes))) run
    ∙ (ap (λ ds. number_by ds (drop n (take (n + k) bytes))) (take_front n (n + k) bytes (omega arith)) ∙ ap (number_by (take n bytes)) (drop_front n k bytes))

decimal_value : (n : ℕ) → bounded_by (within_limit n) ≡ integer_kind n
decimal_value n = by_test (nat_le n 9223372036854775807) where
  by_test : (test : Bool) → bounded_by (cond test (Some n) None) ≡ cond test (Ok (Integer (pos n))) (Err L4)
  by_test true = refl
  by_test false = refl

-- what is found behind the digits, where the rest of the bytes begins with them
record Digits (bytes : List ℕ) (b : ℕ) (rest : List ℕ) : Type 0 where
  is : bytes ≡ b ∷ rest
  no_letter : begins_identifier b ≡ false
  digit : is_digit b ≡ true

some_digit : (b : ℕ) (rest : List ℕ) → is_digit b ≡ true → 0 < prefix_len is_digit (b ∷ rest)
some_digit b rest d = by_test (is_digit b) d where
  by_test : (test : Bool) → test ≡ true → 0 < cond test (1 + prefix_len is_digit rest) 0
  by_test true h = omega arith
  by_test false h = absurd (false≢true h)

spelled_front : (b : ℕ) (rest : List ℕ) (m : ℕ) → begins_identifier b ≡ false → is_digit b ≡ true → 0 < m
    → one_token (take m (b ∷ rest)) ≡ number (take m (b ∷ rest))
spelled_front b rest zero h d p = absurd (omega arith)
spelled_front b rest (suc m) h d p = spelled_number b (take m rest) h d

-- fronts by how much they have behind the digits
behind : (b : ℕ) (rest : List ℕ) (m : ℕ) → begins_identifier b ≡ false → is_digit b ≡ true → let n = prefix_len is_digit (b ∷ rest) in n ≤ m
    → one_token (take m (b ∷ rest)) ≡ number_by (take n (b ∷ rest)) (take (m - n) (drop n (b ∷ rest)))
behind b rest m h d l =
    let n = prefix_len is_digit (b ∷ rest) in
    let p : 0 < n = some_digit b rest d in
    let same : m ≡ n + (m - n) = omega arith in
    spelled_front b rest m h d (omega arith) ∙ (ap (λ k. number (take k (b ∷ rest))) same ∙ number_front (b ∷ rest) (m - n))

-- a tail that is no part of the number
no_radix : (digits : List ℕ) (c : ℕ) (rest : List ℕ) → (is_radix_mark c && list_all is_alphanumeric rest) ≡ false → (is_real_mark c && is_nothing rest) ≡ false
    → number_by digits (c ∷ rest) ≡ None
no_radix digits c rest r e = cond-false (is_radix_mark c && list_all is_alphanumeric rest) _ _ r ∙ cond-false (is_real_mark c && is_nothing rest) _ _ e

and_false : (x y : Bool) → y ≡ false → (x && y) ≡ false
and_false true y e = e
and_false false y e = refl

and_left : (x y : Bool) → x ≡ false → (x && y) ≡ false
and_left x y e = rw e refl

radix_not_real : (c : ℕ) → is_radix_mark c ≡ true → is_real_mark c ≡ false
radix_not_real c h = grind (arith, nat_tests)

longer_none : (digits tail : List ℕ) (k limit : ℕ) → limit < k → ((j : ℕ) → limit < j → number_by digits (take j tail) ≡ None)
    → number_by digits (take k tail) ≡ None
longer_none digits tail k limit l none = none k l

-- the longest number is the one with this much behind its digits
number_of : (b : ℕ) (rest : List ℕ) (k : ℕ) (sense : Result Kind Rule) → begins_identifier b ≡ false → is_digit b ≡ true
    → let n = prefix_len is_digit (b ∷ rest) in k ≤ length (drop n (b ∷ rest))
    → number_by (take n (b ∷ rest)) (take k (drop n (b ∷ rest))) ≡ Some sense
    → ((j : ℕ) → k < j → j ≤ length (drop n (b ∷ rest)) → number_by (take n (b ∷ rest)) (take j (drop n (b ∷ rest))) ≡ None)
    → longest one_token (suc (length rest)) (b ∷ rest) ≡ Some (sense, n + k)
number_of b rest k sense h d within is none =
    let n = prefix_len is_digit (b ∷ rest) in
    let p : 0 < n = some_digit b rest d in
    let fits : n ≤ suc (length rest) = prefix_len-le-length is_digit (b ∷ rest) in
    let size : length (drop n (b ∷ rest)) ≡ suc (length rest) - n = length-drop n (b ∷ rest) in
    let here : n + k - n ≡ k = omega arith in
    longest_is one_token (suc (length rest)) (n + k) (b ∷ rest) sense (omega arith) (omega arith)
    (behind b rest (n + k) h d (omega arith) ∙ (ap (λ j. number_by (take n (b ∷ rest)) (take j (drop n (b ∷ rest)))) here ∙ is))
    (λ m l g. behind b rest m h d (omega arith) ∙ none (m - n) (omega arith) (omega arith))

digits_len : (b : ℕ) (rest : List ℕ) → let n = prefix_len is_digit (b ∷ rest) in length (take n (b ∷ rest)) ≡ n
digits_len b rest = length-take-le (prefix_len is_digit (b ∷ rest)) (b ∷ rest) (prefix_len-le-length is_digit (b ∷ rest))

decimal_read : (b : ℕ) (rest : List ℕ) → let n = prefix_len is_digit (b ∷ rest) in
    front_token (Some (within_size (take n (b ∷ rest)) (integer_kind (number_in 10 (take n (b ∷ rest)))), n + 0))
    ≡ with_length n (bounded_by (value_in 10 (take n (b ∷ rest))))
decimal_read b rest =
    let n = prefix_len is_digit (b ∷ rest) in
    let digits = take n (b ∷ rest) in
    let none : n + 0 ≡ n = omega arith in
    ap (λ k. front_token (Some (within_size digits (integer_kind (number_in 10 digits)), k))) none
    ∙ (judged_sized digits (integer_kind (number_in 10 digits)) n (digits_len b rest) ∙ ap (with_length n) (sym (decimal_value (number_in 10 digits))))

-- what stands behind the digits, where that is not nothing
abbrev Tail : ℕ → List ℕ → ℕ → List ℕ → Type 0
Tail b rest c more = drop (prefix_len is_digit (b ∷ rest)) (b ∷ rest) ≡ c ∷ more

tail_at : (b : ℕ) (rest : List ℕ) (c : ℕ) (more : List ℕ) (k : ℕ) → Tail b rest c more → let digits = take (prefix_len is_digit (b ∷ rest)) (b ∷ rest) in
    number_by digits (take k (drop (prefix_len is_digit (b ∷ rest)) (b ∷ rest))) ≡ number_by digits (take k (c ∷ more))
tail_at b rest c more k is = ap (λ tail. number_by (take (prefix_len is_digit (b ∷ rest)) (b ∷ rest)) (take k tail)) is

tail_size : (b : ℕ) (rest : List ℕ) (c : ℕ) (more : List ℕ) → Tail b rest c more → length (drop (prefix_len is_digit (b ∷ rest)) (b ∷ rest)) ≡ suc (length more)
tail_size b rest c more is = ap length is

radix_at : (digits : List ℕ) (c : ℕ) (more : List ℕ) → is_radix_mark c ≡ true → list_all is_alphanumeric more ≡ true
    → number_by digits (c ∷ more) ≡ Some (within_size (digits ++ c ∷ more) (integer (number_in 10 digits) more))
radix_at digits c more r all = cond-true (is_radix_mark c && list_all is_alphanumeric more) _ _ (rw (r, all) refl)

not_longer_radix : (digits : List ℕ) (c : ℕ) (more : List ℕ) → is_radix_mark c ≡ true → (j : ℕ) → suc (prefix_len is_alphanumeric more) < j
    → j ≤ suc (length more)
    → number_by digits (take j (c ∷ more)) ≡ None
not_longer_radix digits c more r zero l g = absurd (omega arith)
not_longer_radix digits c more r (suc j) l g =
    no_radix digits c (take j more) (and_false (is_radix_mark c) _ (front_fails is_alphanumeric more j (omega arith) (omega arith)))
    (and_left (is_real_mark c) _ (radix_not_real c r))

radix_size : (digits : List ℕ) (n c w : ℕ) (more : List ℕ) → length digits ≡ n → w ≤ length more → length (digits ++ c ∷ take w more) ≡ n + suc w
radix_size digits n c w more size fits = omega (arith, length-append digits (c ∷ take w more), length-take-le w more fits)

radix_read : (b : ℕ) (rest : List ℕ) (c : ℕ) (more : List ℕ) → begins_identifier b ≡ false → is_digit b ≡ true → Tail b rest c more → is_radix_mark c ≡ true
    → let n = prefix_len is_digit (b ∷ rest) in let written = prefix_len is_alphanumeric more in
    front_token (longest one_token (suc (length rest)) (b ∷ rest))
    ≡ with_length (n + 1 + written) (integer (number_in 10 (take n (b ∷ rest))) (take written more))
radix_read b rest c more h d is r =
    let n = prefix_len is_digit (b ∷ rest) in
    let digits = take n (b ∷ rest) in
    let w = prefix_len is_alphanumeric more in
    let fits : w ≤ length more = prefix_len-le-length is_alphanumeric more in
    let size = tail_size b rest c more is in
    let sense = within_size (digits ++ c ∷ take w more) (integer (number_in 10 digits) (take w more)) in
    let total : n + suc w ≡ n + 1 + w = omega arith in
    judged_found _ _ (number_of b rest (suc w) sense h d (omega (arith, size, fits))
    (tail_at b rest c more (suc w) is ∙ radix_at digits c (take w more) r (front_passes is_alphanumeric more w (omega arith)))
    (λ j l g. tail_at b rest c more j is ∙ not_longer_radix digits c more r j l (omega (arith, size, g))))
    ∙ (judged_sized (digits ++ c ∷ take w more) (integer (number_in 10 digits) (take w more)) (n + suc w)
    (radix_size digits n c w more (digits_len b rest) fits)
    ∙ ap (λ k. with_length k (integer (number_in 10 digits) (take w more))) total)

real_at : (digits : List ℕ) (c : ℕ) → is_radix_mark c ≡ false → is_real_mark c ≡ true → number_by digits (c ∷ []) ≡ Some (Err L6)
real_at digits c r e = cond-false (is_radix_mark c && true) _ _ (rw r refl) ∙ cond-true (is_real_mark c && true) _ _ (rw e refl)

not_longer_real : (digits : List ℕ) (c : ℕ) (more : List ℕ) → is_radix_mark c ≡ false → (j : ℕ) → 1 < j → j ≤ suc (length more)
    → number_by digits (take j (c ∷ more)) ≡ None
not_longer_real digits c more r zero l g = absurd (omega arith)
not_longer_real digits c more r (suc zero) l g = absurd (omega arith)
not_longer_real digits c [] r (suc (suc j)) l g = absurd (omega arith)
not_longer_real digits c (x ∷ more) r (suc (suc j)) l g =
    no_radix digits c (x ∷ take j more) (and_left (is_radix_mark c) _ r) (and_false (is_real_mark c) _ refl)

real_read : (b : ℕ) (rest : List ℕ) (c : ℕ) (more : List ℕ) → begins_identifier b ≡ false → is_digit b ≡ true → Tail b rest c more → is_radix_mark c ≡ false
    → is_real_mark c ≡ true
    → front_token (longest one_token (suc (length rest)) (b ∷ rest)) ≡ Err L6
real_read b rest c more h d is r e =
    let digits = take (prefix_len is_digit (b ∷ rest)) (b ∷ rest) in
    let size = tail_size b rest c more is in
    judged_found _ _ (number_of b rest 1 (Err L6) h d (omega (arith, size)) (tail_at b rest c more 1 is ∙ real_at digits c r e)
    (λ j l g. tail_at b rest c more j is ∙ not_longer_real digits c more r j l (omega (arith, size, g))))

not_longer_decimal : (digits : List ℕ) (c : ℕ) (more : List ℕ) → is_radix_mark c ≡ false → is_real_mark c ≡ false → (j : ℕ) → 0 < j
    → number_by digits (take j (c ∷ more)) ≡ None
not_longer_decimal digits c more r e zero l = absurd (omega arith)
not_longer_decimal digits c more r e (suc j) l = no_radix digits c (take j more) (and_left (is_radix_mark c) _ r) (and_left (is_real_mark c) _ e)

plain_read : (b : ℕ) (rest : List ℕ) (c : ℕ) (more : List ℕ) → begins_identifier b ≡ false → is_digit b ≡ true → Tail b rest c more → is_radix_mark c ≡ false
    → is_real_mark c ≡ false
    → let n = prefix_len is_digit (b ∷ rest) in
    front_token (longest one_token (suc (length rest)) (b ∷ rest)) ≡ with_length n (bounded_by (value_in 10 (take n (b ∷ rest))))
plain_read b rest c more h d is r e =
    let n = prefix_len is_digit (b ∷ rest) in
    let digits = take n (b ∷ rest) in
    judged_found _ _ (number_of b rest 0 (within_size digits (integer_kind (number_in 10 digits))) h d (omega arith) refl
    (λ j l g. tail_at b rest c more j is ∙ not_longer_decimal digits c more r e j l))
    ∙ decimal_read b rest

by_real : (b : ℕ) (rest : List ℕ) (c : ℕ) (more : List ℕ) → begins_identifier b ≡ false → is_digit b ≡ true → Tail b rest c more → is_radix_mark c ≡ false
    → (real : Bool) → is_real_mark c ≡ real
    → let n = prefix_len is_digit (b ∷ rest) in
    front_token (longest one_token (suc (length rest)) (b ∷ rest)) ≡ cond real (Err L6) (with_length n (bounded_by (value_in 10 (take n (b ∷ rest)))))
by_real b rest c more h d is r true e = real_read b rest c more h d is r e
by_real b rest c more h d is r false e = plain_read b rest c more h d is r e

by_radix : (b : ℕ) (rest : List ℕ) (c : ℕ) (more : List ℕ) → begins_identifier b ≡ false → is_digit b ≡ true → Tail b rest c more → (radix : Bool)
    → is_radix_mark c ≡ radix
    → let n = prefix_len is_digit (b ∷ rest) in let written = prefix_len is_alphanumeric more in
    front_token (longest one_token (suc (length rest)) (b ∷ rest))
    ≡ cond radix (with_length (n + 1 + written) (integer (number_in 10 (take n (b ∷ rest))) (take written more)))
    (cond (is_real_mark c) (Err L6) (with_length n (bounded_by (value_in 10 (take n (b ∷ rest))))))
by_radix b rest c more h d is true r = radix_read b rest c more h d is r
by_radix b rest c more h d is false r = by_real b rest c more h d is r (is_real_mark c) refl

first_number_by : (b : ℕ) (rest tail : List ℕ) → begins_identifier b ≡ false → is_digit b ≡ true → let n = prefix_len is_digit (b ∷ rest) in
    drop n (b ∷ rest) ≡ tail
    → front_token (longest one_token (suc (length rest)) (b ∷ rest)) ≡ number_read_by (take n (b ∷ rest)) n tail
first_number_by b rest [] h d is =
    let n = prefix_len is_digit (b ∷ rest) in
    let size : length (drop n (b ∷ rest)) ≡ 0 = ap length is in
    judged_found _ _ (number_of b rest 0 (within_size (take n (b ∷ rest)) (integer_kind (number_in 10 (take n (b ∷ rest))))) h d (omega arith) refl
    (λ j l g. absurd (omega arith)))
    ∙ decimal_read b rest
first_number_by b rest (c ∷ more) h d is = by_radix b rest c more h d is (is_radix_mark c) refl

pub first_number : (b : ℕ) (rest : List ℕ) → begins_identifier b ≡ false → is_digit b ≡ true
    → front_token (longest one_token (suc (length rest)) (b ∷ rest)) ≡ number_read (b ∷ rest)
first_number b rest h d = first_number_by b rest (drop (prefix_len is_digit (b ∷ rest)) (b ∷ rest)) h d refl

-- The dot

spelled_dot : (rest : List ℕ) → one_token (46 ∷ rest) ≡ dot_number rest
unfolding one_token
spelled_dot rest = refl

longer_dot : (rest : List ℕ) (m : ℕ) → 2 < m → m ≤ suc (length rest) → one_token (take m (46 ∷ rest)) ≡ None
longer_dot rest zero l g = absurd (omega arith)
longer_dot rest (suc zero) l g = absurd (omega arith)
longer_dot rest (suc (suc zero)) l g = absurd (omega arith)
longer_dot [] (suc (suc (suc m))) l g = absurd (omega arith)
longer_dot (b ∷ []) (suc (suc (suc m))) l g = absurd (omega arith)
longer_dot (b ∷ c ∷ rest) (suc (suc (suc m))) l g = spelled_dot (b ∷ c ∷ take m rest)

after_dot : (b : ℕ) (rest : List ℕ) (m : ℕ) → is_digit b ≡ false → 1 < m → m ≤ suc (suc (length rest)) → one_token (take m (46 ∷ b ∷ rest)) ≡ None
after_dot b rest zero d l g = absurd (omega arith)
after_dot b rest (suc zero) d l g = absurd (omega arith)
after_dot b rest (suc (suc zero)) d l g = spelled_dot (b ∷ []) ∙ cond-false (is_digit b) _ _ d
after_dot b rest (suc (suc (suc m))) d l g = longer_dot (b ∷ rest) (suc (suc (suc m))) (omega arith) g

dot_by : (b : ℕ) (rest : List ℕ) (digit : Bool) → is_digit b ≡ digit
    → front_token (longest one_token (suc (suc (length rest))) (46 ∷ b ∷ rest)) ≡ cond digit (Err L6) (Ok (Operator Dot, 1))
dot_by b rest true d =
    judged_found _ _ (longest_is one_token (suc (suc (length rest))) 2 (46 ∷ b ∷ rest) (Err L6) (omega arith) (omega arith)
    (spelled_dot (b ∷ []) ∙ cond-true (is_digit b) _ _ d) (longer_dot (b ∷ rest)))
dot_by b rest false d =
    judged_found _ _ (longest_is one_token (suc (suc (length rest))) 1 (46 ∷ b ∷ rest) (Ok (Operator Dot)) (omega arith) (omega arith) (spelled_dot [])
    (λ m l g. after_dot b rest m d l g))

first_dot : (rest : List ℕ) → front_token (longest one_token (suc (length rest)) (46 ∷ rest)) ≡ dot_read rest
first_dot [] =
    judged_found _ _ (longest_is one_token 1 1 (46 ∷ []) (Ok (Operator Dot)) (omega arith) (omega arith) (spelled_dot []) (λ m l g. absurd (omega arith)))
first_dot (b ∷ rest) = dot_by b rest (is_digit b) refl

-- Operators and punctuation marks

-- the spellings stand with the longer first, and none is empty
abbrev row_fits : ℕ → List ℕ × Kind → Bool
row_fits n row = nat_le (length row.0) n && not (is_nothing row.0)

abbrev are_in_order : List (List ℕ × Kind) → Bool
are_in_order [] = true
are_in_order (row ∷ rows) = not (is_nothing row.0) && list_all (row_fits (length row.0)) rows && are_in_order rows

both_left : (x y : Bool) → (x && y) ≡ true → x ≡ true
both_left true y h = refl
both_left false y h = h

both_right : (x y : Bool) → (x && y) ≡ true → y ≡ true
both_right true y h = h
both_right false y h = absurd (false≢true h)

same_bytes : (xs ys : List ℕ) → bytes_eq xs ys ≡ true → xs ≡ ys
same_bytes xs ys h = same_text xs ys (sym h)

other_bytes : (xs ys : List ℕ) → (xs ≡ ys → ⊥) → bytes_eq xs ys ≡ false
other_bytes xs ys h = false_from_ne_true (bytes_eq xs ys) (λ e. absurd (h (same_bytes xs ys e)))

equal_bytes : (xs ys : List ℕ) → xs ≡ ys → bytes_eq xs ys ≡ true
equal_bytes xs ys h = by_test (bytes_eq xs ys) refl where
  by_test : (test : Bool) → bytes_eq xs ys ≡ test → test ≡ true
  by_test true e = refl
  by_test false e = absurd (other_text xs ys (sym e) h)

-- no spelling is longer than so many bytes
lookup_longer : (rows : List (List ℕ × Kind)) (n : ℕ) (text : List ℕ) → list_all (row_fits n) rows ≡ true → n < length text → lookup_text rows text ≡ None
lookup_longer [] n text h l = refl
lookup_longer (row ∷ rows) n text h l =
    let fits : row_fits n row ≡ true = both_left (row_fits n row) _ h in
    let short : length row.0 ≤ n = grind (arith, nat_tests, both_left (nat_le (length row.0) n) _ fits) in
    cond-false (bytes_eq text row.0) _ _ (other_bytes text row.0 (λ e. let size : length text ≡ length row.0 = ap length e in omega arith))
    ∙ lookup_longer rows n text (both_right (row_fits n row) _ h) l

abbrev sense_in : List (List ℕ × Kind) → List ℕ → Option (Result Kind Rule)
sense_in rows text = option_map (λ kind. Ok kind) (lookup_text rows text)

abbrev found_in : Option (Kind × ℕ) → Option (Result Kind Rule × ℕ)
found_in found = option_map (λ match. (Ok match.0, match.1)) found

not_nothing : (text : List ℕ) → not (is_nothing text) ≡ true → 0 < length text
not_nothing [] h = absurd (false≢true h)
not_nothing (b ∷ rest) h = omega arith

-- the first row is a front of the bytes
row_found : (row : List ℕ × Kind) (rows : List (List ℕ × Kind)) (bytes : List ℕ) → 0 < length row.0 → list_all (row_fits (length row.0)) rows ≡ true
    → starts_with nat_eq bytes row.0 ≡ true
    → longest (sense_in (row ∷ rows)) (length bytes) bytes ≡ Some (Ok row.1, length row.0)
row_found row rows bytes p fits starts =
    let n = length row.0 in
    let is : row.0 ≡ take n bytes = same_bytes row.0 (take n bytes) starts in
    let size : n ≡ min n (length bytes) = ap length is ∙ length-take n bytes in
    let here : lookup_text (row ∷ rows) (take n bytes)
    ≡ Some row.1 = cond-true (bytes_eq (take n bytes) row.0) _ _ (equal_bytes (take n bytes) row.0 (sym is)) in
    longest_is (sense_in (row ∷ rows)) (length bytes) n bytes (Ok row.1) p (omega arith) (ap (option_map (λ kind. Ok kind)) here)
    (λ m l g. let long : length (take m bytes) ≡ m = length-take-le m bytes g in
    ap (option_map (λ kind. Ok kind))
    (cond-false (bytes_eq (take m bytes) row.0) _ _ (other_bytes (take m bytes) row.0 (λ e. let same : length (take m bytes) ≡ n = ap length e in omega arith))
    ∙ lookup_longer rows n (take m bytes) fits (omega arith)))

take_least : (m : ℕ) (bytes : List ℕ) → take (length (take m bytes)) bytes ≡ take m bytes
take_least zero bytes = refl
take_least (suc m) [] = refl
take_least (suc m) (b ∷ rest) = ap (λ xs. b ∷ xs) (take_least m rest)

-- the first row is no front of the bytes
row_passed : (row : List ℕ × Kind) (rows : List (List ℕ × Kind)) (bytes : List ℕ) → starts_with nat_eq bytes row.0 ≡ false → (m : ℕ)
    → sense_in (row ∷ rows) (take m bytes) ≡ sense_in rows (take m bytes)
row_passed row rows bytes starts m =
    ap (option_map (λ kind. Ok kind)) (cond-false (bytes_eq (take m bytes) row.0) _ _ (other_bytes (take m bytes) row.0
    (λ e. other_text row.0 (take (length row.0) bytes) (sym starts) (sym (ap (λ text. take (length text) bytes) (sym e) ∙ (take_least m bytes ∙ e))))))

first_by : (row : List ℕ × Kind) (rows : List (List ℕ × Kind)) (bytes : List ℕ) (starts : Bool) → starts_with nat_eq bytes row.0 ≡ starts
    → are_in_order (row ∷ rows) ≡ true
    → longest (sense_in rows) (length bytes) bytes ≡ found_in (first_match rows bytes)
    → longest (sense_in (row ∷ rows)) (length bytes) bytes ≡ found_in (cond starts (Some (row.1, length row.0)) (first_match rows bytes))
first_by row rows bytes true starts order below =
    row_found row rows bytes
    (not_nothing row.0 (both_left (not (is_nothing row.0)) _ (both_left (not (is_nothing row.0) && list_all (row_fits (length row.0)) rows) _ order)))
    (both_right (not (is_nothing row.0)) _ (both_left (not (is_nothing row.0) && list_all (row_fits (length row.0)) rows) _ order)) starts
first_by row rows bytes false starts order below =
    longest_same (sense_in (row ∷ rows)) (sense_in rows) (length bytes) bytes (λ m p h. row_passed row rows bytes starts m) ∙ below

first_in_order : (rows : List (List ℕ × Kind)) (bytes : List ℕ) → are_in_order rows ≡ true
    → longest (sense_in rows) (length bytes) bytes ≡ found_in (first_match rows bytes)
first_in_order [] bytes order = longest_none (sense_in []) (length bytes) bytes (λ m p h. refl)
first_in_order (row ∷ rows) bytes order =
    first_by row rows bytes (starts_with nat_eq bytes row.0) refl order
    (first_in_order rows bytes (both_right (not (is_nothing row.0) && list_all (row_fits (length row.0)) rows) _ order))

order_of_choice : (test : Bool) (rows others : List (List ℕ × Kind)) → are_in_order rows ≡ true → are_in_order others ≡ true
    → are_in_order (cond test rows others) ≡ true
order_of_choice true rows others h g = h
order_of_choice false rows others h g = g

marks_in_order : (b : ℕ) → are_in_order (marks_of b) ≡ true
unfolding marks_of
marks_in_order b =
    order_of_choice (b == 33)
    _ _ refl (order_of_choice (b == 36) _ _ refl (order_of_choice (b == 37) _ _ refl (order_of_choice (b == 38) _ _ refl (order_of_choice (b == 40) _ _ refl
    (order_of_choice (b == 41)
    _ _ refl (order_of_choice (b == 42) _ _ refl (order_of_choice (b == 43) _ _ refl (order_of_choice (b == 44) _ _ refl (order_of_choice (b == 45) _ _ refl
    (order_of_choice (b == 47)
    _ _ refl (order_of_choice (b == 58) _ _ refl (order_of_choice (b == 59) _ _ refl (order_of_choice (b == 60) _ _ refl (order_of_choice (b == 61) _ _ refl
    (order_of_choice (b == 62)
    _ _ refl (order_of_choice (b == 63) _ _ refl (order_of_choice (b == 64) _ _ refl (order_of_choice (b == 91) _ _ refl (order_of_choice (b == 92) _ _ refl
    (order_of_choice (b == 93)
    _ _ refl (order_of_choice (b == 94) _ _ refl (order_of_choice (b == 123) _ _ refl (order_of_choice (b == 124) _ _ refl (order_of_choice (b == 125) _ _ refl
    (order_of_choice (b == 126) _ _ refl refl)))))))))))))))))))))))))

spelled_mark : (b : ℕ) (rest : List ℕ) → begins_identifier b ≡ false → is_digit b ≡ false → (b == 46) ≡ false
    → one_token (b ∷ rest) ≡ sense_in (marks_of b) (b ∷ rest)
unfolding one_token
spelled_mark b rest h d dot = cond-false (begins_identifier b) _ _ h ∙ (cond-false (is_digit b) _ _ d ∙ cond-false (b == 46) _ _ dot)

marks_same : (b : ℕ) (rest : List ℕ) → begins_identifier b ≡ false → is_digit b ≡ false → (b == 46) ≡ false → (m : ℕ) → 0 < m
    → one_token (take m (b ∷ rest)) ≡ sense_in (marks_of b) (take m (b ∷ rest))
marks_same b rest h d dot zero p = absurd (omega arith)
marks_same b rest h d dot (suc m) p = spelled_mark b (take m rest) h d dot

judged_match : (found : Option (Kind × ℕ)) → front_token (found_in found) ≡ ok_or found L1
judged_match None = refl
judged_match (Some match) = refl

first_mark : (b : ℕ) (rest : List ℕ) → begins_identifier b ≡ false → is_digit b ≡ false → (b == 46) ≡ false
    → front_token (longest one_token (suc (length rest)) (b ∷ rest)) ≡ ok_or (first_match (marks_of b) (b ∷ rest)) L1
first_mark b rest h d dot =
    judged_found _ _ (longest_same one_token (sense_in (marks_of b)) (suc (length rest)) (b ∷ rest) (λ m p g. marks_same b rest h d dot m p)
    ∙ first_in_order (marks_of b) (b ∷ rest) (marks_in_order b))
    ∙ judged_match (first_match (marks_of b) (b ∷ rest))

-- All together

by_dot : (b : ℕ) (rest : List ℕ) → begins_identifier b ≡ false → is_digit b ≡ false → (dot : Bool) → (b == 46) ≡ dot
    → front_token (longest one_token (suc (length rest)) (b ∷ rest)) ≡ cond dot (dot_read rest) (ok_or (first_match (marks_of b) (b ∷ rest)) L1)
by_dot b rest h d true dot = let is : b ≡ 46 = eqb-true b 46 dot in ap (λ c. front_token (longest one_token (suc (length rest)) (c ∷ rest))) is ∙ first_dot rest
by_dot b rest h d false dot = first_mark b rest h d dot

by_digit : (b : ℕ) (rest : List ℕ) → begins_identifier b ≡ false → (digit : Bool) → is_digit b ≡ digit
    → front_token (longest one_token (suc (length rest)) (b ∷ rest))
    ≡ cond digit (number_read (b ∷ rest)) (cond (b == 46) (dot_read rest) (ok_or (first_match (marks_of b) (b ∷ rest)) L1))
by_digit b rest h true d = first_number b rest h d
by_digit b rest h false d = by_dot b rest h d (b == 46) refl

by_letter : (b : ℕ) (rest : List ℕ) → (letter : Bool) → begins_identifier b ≡ letter
    → front_token (longest one_token (suc (length rest)) (b ∷ rest)) ≡ cond letter (name_read b rest) (bare_read b (b ∷ rest) rest)
by_letter b rest true h = first_name b rest h
by_letter b rest false h = by_digit b rest h (is_digit b) refl

-- what the scanner finds first is the longest token
pub first_is_longest : (bytes : List ℕ) → first_read bytes ≡ first_of bytes
unfolding first_of
first_is_longest [] = refl
first_is_longest (b ∷ rest) = sym (by_letter b rest (begins_identifier b) refl)
