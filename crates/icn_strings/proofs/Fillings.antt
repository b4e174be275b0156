-- Bytes put again and again, in whole copies and a part of one.
use Rattle.std.proofs.Common.{◌≡◌, ◌∙◌, refl, sym, ap, ℕ, zero, suc, ◌+◌, ◌-◌, ◌*◌, ◌/◌, ◌%◌, ◌<◌, ◌≤◌, min, List, [], ◌∷◌, ◌++◌, append_assoc, append-nil, length, take, drop, replicate, length-append, length-take, length-drop, arith}
use Rattle.std.specs.Prelude.{slice_index}
use Rattle.std.specs.List.{concat}
use Rattle.std.proofs.lemmas.List.{take-append-le, take-append-drop, drop-append-le, length-take-le, drop_all, drop_at, take_all, replicate-append-replicate, replicate_more}
use Rattle.std.proofs.lemmas.List.Folds.{concat-append}
use Rattle.std.proofs.lemmas.Nat.{div-add-mod', mod_below}
use Rattle.std.proofs.Math.Nat.{mul-le-mul_left}
use Rattle.icn_strings.specs.RepeatedBytes.{copies, filled_left, filled_right}

-- one copy more
one_copy_more : (n : ℕ) (text : List ℕ) → copies (n + 1) text ≡ copies n text ++ text
one_copy_more n text =
    ap concat (sym (replicate_more n text)) ∙ (concat-append (replicate n text) (text ∷ [])
    ∙ ap (λ rest. copies n text ++ rest) (append-nil text))

pub length-copies : (n : ℕ) (text : List ℕ) → length (copies n text) ≡ n * length text
length-copies zero text = omega arith
length-copies (suc n) text = length-append text (copies n text) ∙ (ap (λ len. length text + len) (length-copies n text) ∙ grind arith)

pub copies-append : (m n : ℕ) (text : List ℕ) → copies (m + n) text ≡ copies m text ++ copies n text
copies-append m n text =
    ap concat (sym (replicate-append-replicate m n text)) ∙ concat-append (replicate m text) (replicate n text)

-- copies of no bytes
pub copies_of_none : (count : ℕ) (bytes : List ℕ) → length bytes ≡ 0 → copies count bytes ≡ []
copies_of_none zero bytes none = refl
copies_of_none (suc count) [] none = copies_of_none count [] none
copies_of_none (suc count) (byte ∷ bytes) none = absurd (omega (arith, none))

-- copies of one byte
pub copies_of_one : (count : ℕ) (bytes : List ℕ) → length bytes ≡ 1 → copies count bytes ≡ replicate count (slice_index bytes 0)
copies_of_one zero bytes one = refl
copies_of_one (suc count) [] one = absurd (omega (arith, one))
copies_of_one (suc count) (byte ∷ []) one = ap (λ ys. byte ∷ ys) (copies_of_one count (byte ∷ []) one)
copies_of_one (suc count) (byte ∷ (next ∷ bytes)) one = absurd (omega (arith, one))

-- copies of one byte fill as many bytes
module _ (count : ℕ) (bytes : List ℕ) (one : length bytes ≡ 1) where
  many : length (copies count bytes) ≡ count
  many = let long : length (copies count bytes) ≡ count * 1 = length-copies count bytes ∙ ap (λ n. count * n) one in omega (arith, long)

  pub one_from_left : copies count bytes ≡ filled_left count bytes
  one_from_left = sym (take_all count (copies count bytes) (omega (arith, many)))

  pub one_from_right : copies count bytes ≡ filled_right count bytes
  one_from_right = let none : length (copies count bytes) - count ≡ 0 = omega (arith, many) in sym (ap (λ n. drop n (copies count bytes)) none)

-- copies of a text with bytes are at least as many bytes
pub no_less : (n len : ℕ) → 1 ≤ len → n ≤ n * len
no_less n len some = omega (arith, mul-le-mul_left n some)

-- the first bytes and the last bytes of copies are those of the text
first_part : (n r : ℕ) (text : List ℕ) → r ≤ length text → r ≤ n → take r (copies n text) ≡ take r text
first_part zero r text within few = let none : r ≡ 0 = omega arith in rw none refl
first_part (suc n) r text within few = take-append-le r text (copies n text) within

drop_past : (front rest : List ℕ) (m n : ℕ) → length front ≡ m → drop (m + n) (front ++ rest) ≡ drop n rest
drop_past [] rest m n is = let same : m + n ≡ n = omega (arith, is) in rw same refl
drop_past (x ∷ xs) rest zero n is = absurd (omega (arith, is))
drop_past (x ∷ xs) rest (suc m) n is = let same : suc m + n ≡ suc (m + n) = omega arith in rw same (drop_past xs rest m n (omega (arith, is)))

take_past : (front rest : List ℕ) (m n : ℕ) → length front ≡ m → take (m + n) (front ++ rest) ≡ front ++ take n rest
take_past [] rest m n is = let same : m + n ≡ n = omega (arith, is) in rw same refl
take_past (x ∷ xs) rest zero n is = absurd (omega (arith, is))
take_past (x ∷ xs) rest (suc m) n is =
    let same : suc m + n ≡ suc (m + n) = omega arith in rw same (ap (λ tail. x ∷ tail) (take_past xs rest m n (omega (arith, is))))

last_part : (n r len : ℕ) (text : List ℕ) → length text ≡ len → r ≤ len → r ≤ n → drop (n * len - r) (copies n text) ≡ drop (len - r) text
last_part zero r len text is within few =
    let start : 0 * len - r ≡ 0 = omega arith in
    ap (λ k. drop k (copies 0 text)) start ∙ sym (drop_all (len - r) text (omega (arith, is)))
last_part (suc n) r len text is within few =
    let more : suc n ≡ n + 1 = omega arith in
    let place : suc n * len - r ≡ n * len + (len - r) = grind arith in
    rw place (ap (λ text. drop (n * len + (len - r)) text) (ap (λ k. copies k text) more ∙ one_copy_more n text)
    ∙ drop_past (copies n text) text (n * len) (len - r) (length-copies n text ∙ ap (λ k. n * k) is))

copies_left : (text : List ℕ) (count q r len : ℕ) → length text ≡ len → count ≡ q * len + r → r < len → q ≤ q * len
    → take count (copies count text) ≡ copies q text ++ take r text
copies_left text count q r len is whole part most =
    let rest : count ≡ q + (count - q) = omega arith in
    let long : length (copies q text) ≡ q * len = length-copies q text ∙ ap (λ k. q * k) is in
    ap (λ k. take count (copies k text)) rest
    ∙ (ap (take count) (copies-append q (count - q) text)
    ∙ (ap (λ k. take k (copies q text ++ copies (count - q) text)) whole
    ∙ (take_past (copies q text) (copies (count - q) text) (q * len) r long
    ∙ ap (λ tail. copies q text ++ tail) (first_part (count - q) r text (omega (arith, is)) (omega arith)))))

copies_right : (text : List ℕ) (count q r len : ℕ) → length text ≡ len → count ≡ q * len + r → r < len → q ≤ q * len
    → drop (length (copies count text) - count) (copies count text) ≡ drop (len - r) text ++ copies q text
copies_right text count q r len is whole part most =
    let rest : count ≡ (count - q) + q = omega arith in
    let long : length (copies (count - q) text) ≡ (count - q) * len = length-copies (count - q) text ∙ ap (λ k. (count - q) * k) is in
    let all : length (copies count text) ≡ count * len = length-copies count text ∙ ap (λ k. count * k) is in
    let products : count * len ≡ (count - q) * len + q * len = ap (λ k. k * len) rest ∙ grind arith in
    let few : r ≤ count - q = omega arith in
    let place : length (copies count text) - count ≡ (count - q) * len - r = omega arith in
    let enough : r ≤ (count - q) * len = omega (arith, no_less (count - q) len (omega arith)) in
    ap (λ k. drop k (copies count text)) place
    ∙ (ap (λ k. drop ((count - q) * len - r) (copies k text)) rest
    ∙ (ap (drop ((count - q) * len - r)) (copies-append (count - q) q text)
    ∙ (drop-append-le ((count - q) * len - r) (copies (count - q) text) (copies q text) (omega (arith, long))
    ∙ ap (λ front. front ++ copies q text) (last_part (count - q) r len text is (omega arith) few))))

-- whole copies, and then the first bytes of one
pub left_parts : (text : List ℕ) (count : ℕ) → 0 < length text
    → copies (count / length text) text ++ take (count % length text) text ≡ filled_left count text
left_parts text count some =
    sym (copies_left text count (count / length text) (count % length text) (length text) refl
    (sym (div-add-mod' count (length text))) (mod_below count (length text) some) (no_less (count / length text) (length text) some))

-- the last bytes of a copy, and then whole ones
pub right_parts : (text : List ℕ) (count : ℕ) → 0 < length text
    → drop (length text - count % length text) text ++ copies (count / length text) text ≡ filled_right count text
right_parts text count some =
    sym (copies_right text count (count / length text) (count % length text) (length text) refl
    (sym (div-add-mod' count (length text))) (mod_below count (length text) some) (no_less (count / length text) (length text) some))

pub length-filled_left : (count : ℕ) (text : List ℕ) → 0 < length text → length (filled_left count text) ≡ count
length-filled_left count text some =
    let part : length (filled_left count text) ≡ min count (length (copies count text)) = length-take count (copies count text) in
    omega (arith, part, length-copies count text, no_less count (length text) some)

pub length-filled_right : (count : ℕ) (text : List ℕ) → 0 < length text → length (filled_right count text) ≡ count
length-filled_right count text some =
    let part : length (filled_right count text) ≡ length (copies count text) - (length (copies count text) - count) =
    length-drop (length (copies count text) - count) (copies count text) in
    omega (arith, part, length-copies count text, no_less count (length text) some)

-- the first of some copies
take_copies : (m n : ℕ) (text : List ℕ) → take (m * length text) (copies (m + n) text) ≡ copies m text
take_copies m n text =
    ap (take (m * length text)) (copies-append m n text)
    ∙ (take-append-le (m * length text) (copies m text) (copies n text) (omega (arith, length-copies m text))
    ∙ take_all (m * length text) (copies m text) (omega (arith, length-copies m text)))

-- some of the copies that stand there, put behind them once more
pub copies_again : (old now new text : List ℕ) (done more kept : ℕ) → kept ≡ length old → more ≤ done → now ≡ old ++ copies done text
    → new ≡ now ++ take (more * length text) (drop kept now) → new ≡ old ++ copies (done + more) text
copies_again old now new text done more kept same few are added =
    let behind : drop kept now ≡ copies done text =
    ap (drop kept) are ∙ (ap (λ k. drop k (old ++ copies done text)) same ∙ drop_at old (copies done text) (length old) refl) in
    let sum : done ≡ more + (done - more) = omega (arith, few) in
    let part : take (more * length text) (drop kept now) ≡ copies more text =
    ap (take (more * length text)) (behind ∙ ap (λ k. copies k text) sum) ∙ take_copies more (done - more) text in
    added
    ∙ (ap (λ ys. now ++ ys) part
    ∙ (ap (λ ys. ys ++ copies more text) are
    ∙ (append_assoc old (copies done text) (copies more text) ∙ ap (λ ys. old ++ ys) (sym (copies-append done more text)))))

-- How many bytes copies are

by_parts : (a d len : ℕ) → (a + d) * len ≡ a * len + d * len
by_parts a d len = grind arith

pub copies_within : (a b len : ℕ) → a ≤ b → a * len ≤ b * len
copies_within a b len less =
    let sum : b ≡ a + (b - a) = omega (arith, less) in
    let whole : b * len ≡ a * len + (b - a) * len = ap (λ n. n * len) sum ∙ by_parts a (b - a) len in
    omega (arith, whole)

-- so many copies behind the first one, and some more
pub copies_sum : (done more len : ℕ) → 0 < done → (done + more - 1) * len ≡ (done - 1) * len + more * len
copies_sum done more len some =
    let same : done + more - 1 ≡ (done - 1) + more = omega (arith, some) in ap (λ n. n * len) same ∙ by_parts (done - 1) more len

-- one copy, and those behind it
pub one_less : (count len : ℕ) → 0 < count → count * len ≡ len + (count - 1) * len
one_less count len some =
    let same : count ≡ 1 + (count - 1) = omega (arith, some) in
    let one : 1 * len ≡ len = omega arith in
    ap (λ n. n * len) same ∙ (by_parts 1 (count - 1) len ∙ ap (λ n. n + (count - 1) * len) one)

-- Where the length of the bytes is known by another name

-- whole copies and a part are so many bytes
pub whole_and_part : (count unit len : ℕ) → unit ≡ len → (count / unit) * len + count % unit ≡ count
whole_and_part count unit len same = ap (λ n. (count / unit) * n + count % unit) (sym same) ∙ div-add-mod' count unit

pub rest_below : (count unit : ℕ) → 0 < unit → count % unit < unit
rest_below count unit some = mod_below count unit some

module _ (bytes : List ℕ) (count unit : ℕ) (same : unit ≡ length bytes) (some : 0 < unit) where
  pub filled_from_left : copies (count / unit) bytes ++ take (count % unit) (drop 0 bytes) ≡ filled_left count bytes
  filled_from_left =
      ap (λ n. copies (count / n) bytes ++ take (count % n) bytes) same ∙ left_parts bytes count (omega (arith, same, some))

  pub filled_from_right : take (count % unit) (drop (unit - count % unit) bytes) ++ copies (count / unit) bytes ≡ filled_right count bytes
  filled_from_right =
      let rest : length (drop (unit - count % unit) bytes) ≡ length bytes - (unit - count % unit) = length-drop (unit - count % unit) bytes in
      ap (λ ys. ys ++ copies (count / unit) bytes)
      (take_all (count % unit) (drop (unit - count % unit) bytes) (omega (arith, rest, same, rest_below count unit some)))
      ∙ (ap (λ n. drop (n - count % n) bytes ++ copies (count / n) bytes) same ∙ right_parts bytes count (omega (arith, same, some)))

-- Copies that stand behind the first so many bytes

module _ (had now : List ℕ) (kept unit done : ℕ) (within : kept ≤ length had) (size : unit ≡ length had - kept)
    (are : now ≡ take kept had ++ copies done (drop kept had)) where
  front_long : kept ≡ length (take kept had)
  front_long = sym (length-take-le kept had within)

  unit_long : unit ≡ length (drop kept had)
  unit_long = size ∙ sym (length-drop kept had)

  pub repeated_long : length now ≡ kept + done * unit
  repeated_long =
      let copied : done * length (drop kept had) ≡ done * unit = ap (λ n. done * n) (sym unit_long) in
      ap (λ (ys : List ℕ). length ys) are
      ∙ (length-append (take kept had) (copies done (drop kept had))
      ∙ omega (arith, front_long, length-copies done (drop kept had), copied))

  pub repeated_more : (new : List ℕ) (more : ℕ) → more ≤ done → new ≡ now ++ take (more * unit) (drop kept now)
      → new ≡ take kept had ++ copies (done + more) (drop kept had)
  repeated_more new more few added =
      copies_again (take kept had) now new (drop kept had) done more kept front_long few are
      (added ∙ ap (λ n. now ++ take (more * n) (drop kept now)) unit_long)

-- one copy stands there
pub repeated_once : (had : List ℕ) (kept : ℕ) → had ≡ take kept had ++ copies 1 (drop kept had)
repeated_once had kept = sym (ap (λ ys. take kept had ++ ys) (append-nil (drop kept had)) ∙ take-append-drop kept had)
