-- A text of the first bytes.
use Rattle.std.proofs.Common.{◌≡◌, ◌≢◌, ◌∙◌, sym, ap, ℕ, ◌+◌, ◌<◌, true, false, List, length, get_or, arith}
use Rattle.std.proofs.lemmas.Bool.{false_from_ne_true}
use Rattle.std.proofs.lemmas.List.{ext_get_or}
use Rattle.std.proofs.lemmas.List.FromFn.{length-range_with_len, get_or-range_with_len}
use Rattle.std.proofs.lemmas.Slice.Eq.{bytes_eq-Decides}
use Rattle.std.specs.List.{range_with_len}
use Rattle.std.specs.Str.{bytes_eq}

differ : (bytes others : List ℕ) → bytes ≢ others → false ≡ bytes_eq bytes others
differ bytes others h = sym (false_from_ne_true (bytes_eq bytes others) (λ is. h ((bytes_eq-Decides bytes others).0 is)))

alike : (bytes others : List ℕ) → bytes ≡ others → true ≡ bytes_eq bytes others
alike bytes others h = sym ((bytes_eq-Decides bytes others).1 h)

pub other_length : (bytes : List ℕ) (count : ℕ) → length bytes ≢ count → false ≡ bytes_eq bytes (range_with_len 0 count)
other_length bytes count h = differ bytes (range_with_len 0 count) (λ same. h (ap length same ∙ length-range_with_len 0 count))

pub other_byte : (bytes : List ℕ) (count place : ℕ) → length bytes ≡ count → place < length bytes → get_or bytes place 0 ≢ place
    → false ≡ bytes_eq bytes (range_with_len 0 count)
other_byte bytes count place is within h =
    let below : place < count = omega (arith, is) in
    let last : 0 + place ≡ place = omega arith in
    differ bytes (range_with_len 0 count) (λ same. h (ap (λ list. get_or list place 0) same ∙ (get_or-range_with_len 0 count place 0 below ∙ last)))

at_place : (bytes : List ℕ) (count place : ℕ) → length bytes ≡ count → ((k : ℕ) → k < length bytes → get_or bytes k 0 ≡ k) → place < length bytes
    → get_or bytes place 0 ≡ get_or (range_with_len 0 count) place 0
at_place bytes count place is each within =
    let below : place < count = omega (arith, is) in
    let last : place ≡ 0 + place = omega arith in
    each place within ∙ (last ∙ sym (get_or-range_with_len 0 count place 0 below))

pub first_bytes : (bytes : List ℕ) (count : ℕ) → length bytes ≡ count → ((k : ℕ) → k < length bytes → get_or bytes k 0 ≡ k)
    → true ≡ bytes_eq bytes (range_with_len 0 count)
first_bytes bytes count is each = alike bytes (range_with_len 0 count)
    (ext_get_or 0 bytes (range_with_len 0 count) (is ∙ sym (length-range_with_len 0 count)) (λ place within. at_place bytes count place is each within))
